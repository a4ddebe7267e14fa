-- How a set of tracks lies in words of 64 bits: track x is bit x % 64 of word x / 64.
use Rattle.std.specs.Prelude.{◌≡◌, ℕ, ◌+◌, ◌/◌, ◌%◌, ◌^◌, ◌<◌, ◌≤◌, ◌==◌, List, length, map, Bool, true, false, slice_index}
use Rattle.std.specs.Int.{bit_at}
use Rattle.std.specs.List.{range_with_len}

unfoldable pub has_bit : List ℕ → (track : ℕ) → Bool
has_bit words x = bit_at (slice_index words (x / 64)) (x % 64) == 1

-- the set of so many tracks that lies in words
abbrev pub set_in : (tracks : ℕ) → List ℕ → List Bool
set_in tracks words = map (has_bit words) (range_with_len 0 tracks)

-- The words of a map are sound: there are words for its tracks and no more, and no bit past its last track is set.
pub record AreWordsSound (tracks : ℕ) (words : List ℕ) : Type 0 where
  pub few : tracks < 2 ^ 32
  pub whole : length words ≡ (tracks + 63) / 64
  pub clear : (x : ℕ) → tracks ≤ x → has_bit words x ≡ false

-- a bit that is set, and the first such from a place on
pub record IsNextBit (words : List ℕ) (place : ℕ) (next : ℕ) : Type 0 where
  pub not_before : place ≤ next
  pub is_set : has_bit words next ≡ true
  pub none_before : (x : ℕ) → place ≤ x → x < next → has_bit words x ≡ false
