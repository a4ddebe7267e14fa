-- Sets of tracks: for each track, from track 0 on, whether it is in the set.
use Rattle.std.specs.Prelude.{◌≡◌, ℕ, ◌+◌, ◌≤◌, ◌<◌, ◌||◌, List, [], ◌∷◌, Bool, true, false, length, drop, replicate, count_by, Option, Some, None, slice_index_or, slice_set, if◌then◌else◌}

-- the set of none of so many tracks
abbrev pub no_track : (tracks : ℕ) → List Bool
no_track tracks = replicate tracks false

-- the set of all of them
abbrev pub every_track : (tracks : ℕ) → List Bool
every_track tracks = replicate tracks true

-- whether a set has a track; it has none past its end
abbrev pub has_track : List Bool → (track : ℕ) → Bool
has_track set x = slice_index_or set x false

abbrev pub with_track : List Bool → (track : ℕ) → List Bool
with_track set x = slice_set set x true

abbrev pub without_track : List Bool → (track : ℕ) → List Bool
without_track set x = slice_set set x false

-- the tracks that one of two sets has, or both
abbrev pub union : List Bool → List Bool → List Bool
union [] others = []
union (b ∷ set) [] = b ∷ set
union (b ∷ set) (c ∷ others) = (b || c) ∷ union set others

-- how many tracks a set has
abbrev pub size : List Bool → ℕ
size set = count_by (λ b. b) set

-- the place of the first flag that is true, where the first of all stands at a place
abbrev pub first_from : (place : ℕ) → List Bool → Option ℕ
first_from place [] = None
first_from place (b ∷ set) = if b then Some place else first_from (place + 1) set

-- the least track of a set from a track on
abbrev pub least_from : List Bool → (track : ℕ) → Option ℕ
least_from set x = first_from x (drop x set)

-- What the least track of a set from a track on is.
pub record IsLeastFrom (tracks : List Bool) (first least : ℕ) : Type 0 where
  pub not_before : first ≤ least
  pub within : least < length tracks
  pub is_had : has_track tracks least ≡ true
  pub none_before : (x : ℕ) → first ≤ x → x < least → has_track tracks x ≡ false

-- A set has no track from a track on.
abbrev pub HasNoneFrom : List Bool → (first : ℕ) → Type 0
HasNoneFrom set first = (x : ℕ) → first ≤ x → has_track set x ≡ false
