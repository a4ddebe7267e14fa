-- Bits of words: the next that is set, the first ones, and those of either of two rows of words.
use Rattle.std.proofs.Common.{◌≡◌, ℕ, zero, suc, ◌+◌, ◌-◌, ◌*◌, ◌/◌, ◌%◌, ◌^◌, ◌<◌, ◌≤◌, max, true, false, ◌||◌, nat_eq, nat_lt, List, ◌++◌, length, take, get_or, set, replicate, inl, inr, refl, sym, ap, ◌∙◌, arith, w64, Option, Some, None}
use Rattle.std.specs.Prelude.{bit_or, IfSome}
use Rattle.std.specs.Int.{bit_at, trailing_zeros}
use Rattle.std.proofs.lemmas.Bool.{cases_eq, cases_lt, lt-ltb, le-ltb}
use Rattle.std.proofs.lemmas.List.{get_or-replicate, get_or_past, length-replicate}
use Rattle.std.proofs.lemmas.Nat.{shr-shr, one_shl}
use Rattle.std.proofs.lemmas.Nat.Bits.{bit_at-zero, bit_at_or, bit_at-lt, bit_at_above, bit_at_ones, bit_at_ones_above, bit_at-trailing_zeros}
use Rattle.std.proofs.Math.Nat.{div-le_self}
use Rattle.std.proofs.Math.Seq.{take-append_seam}
use Rattle.std.proofs.lemmas.Option.{IfSome_then}
use Rattle.change_map.specs.Sets.{has_track, least_from, union, every_track}
use Rattle.change_map.specs.Words.{has_bit, set_in, IsNextBit, AreWordsSound}
use Rattle.change_map.proofs.InSets.{least_none, least_some, length_union, has_union}
use Rattle.change_map.proofs.InWords.{written_here, written_else, read_here, in_length, in_has, in_has_all, in_is}

pub zero_word : (ws : List ℕ) (k x : ℕ) → get_or ws k 0 ≡ 0 → x / 64 ≡ k → has_bit ws x ≡ false
zero_word ws k x is at = sym (read_here ws k 0 x (sym is) at) ∙ ap (λ b. nat_eq b 1) (bit_at-zero (x % 64))

pub past_words : (ws : List ℕ) (x : ℕ) → 64 * length ws ≤ x → has_bit ws x ≡ false
past_words ws x past = let short : length ws ≤ x / 64 = omega arith in zero_word ws (x / 64) x (get_or_past ws (x / 64) 0 short) refl

-- ---- the next bit that is set

-- a bit of a word that was shifted down to a place
shifted : (ws : List ℕ) (k w place i : ℕ) → w ≡ get_or ws k 0 → place / 64 ≡ k → place % 64 + i < 64
    → nat_eq (bit_at (w / 2 ^ (place % 64)) i) 1 ≡ has_bit ws (place + i)
shifted ws k w place i is at within =
    let same : place % 64 + i ≡ (place + i) % 64 = omega arith in
    ap (λ u. nat_eq (u % 2) 1) (shr-shr w (place % 64) i)
    ∙ ap (λ j. nat_eq (bit_at w j) 1) same
    ∙ read_here ws k w (place + i) is (omega arith)

module _ (ws : List ℕ) (w place : ℕ) (is : w ≡ get_or ws (place / 64) 0) (fits : w < 2 ^ 64) where
  pub none_in_word : w / 2 ^ (place % 64) ≡ 0 → (x : ℕ) → place ≤ x → x < 64 * (place / 64) + 64 → has_bit ws x ≡ false
  none_in_word empty x not_before before =
      let at : place + (x - place) ≡ x = omega arith in
      ap (has_bit ws) (sym at)
      ∙ sym (shifted ws (place / 64) w place (x - place) is refl (omega arith))
      ∙ ap (λ r. nat_eq (bit_at r (x - place)) 1) empty
      ∙ ap (λ b. nat_eq b 1) (bit_at-zero (x - place))

  pub next_in_word : 0 < w / 2 ^ (place % 64) → IsNextBit ws place (place + trailing_zeros w64 (w / 2 ^ (place % 64)))
  next_in_word some =
      let next : ℕ = trailing_zeros w64 (w / 2 ^ (place % 64)) in
      let small : w / 2 ^ (place % 64) < 2 ^ 64 = omega (arith, div-le_self w (2 ^ (place % 64))) in
      let lowest = bit_at-trailing_zeros w64 (w / 2 ^ (place % 64)) some small in
      let within : place % 64 + next < 64 = elim (cases_lt (place % 64 + next) 64) [
        | inl lt ↦ lt
        | inr past ↦
            let none : bit_at (w / 2 ^ (place % 64)) next ≡ 0 =
            ap (λ u. u % 2) (shr-shr w (place % 64) next) ∙ bit_at_above w 64 (place % 64 + next) fits past in
            absurd (omega (arith, none, lowest.1))
      ] in
      record {
        not_before = omega arith;
        is_set = sym (shifted ws (place / 64) w place next is refl within) ∙ ap (λ b. nat_eq b 1) lowest.1;
        none_before = λ x not_before before.
            let at : place + (x - place) ≡ x = omega arith in
            ap (has_bit ws) (sym at)
            ∙ sym (shifted ws (place / 64) w place (x - place) is refl (omega arith))
            ∙ ap (λ b. nat_eq b 1) (lowest.2 (x - place) (omega arith));
      }

  pub next_within : 0 < w / 2 ^ (place % 64) → place + trailing_zeros w64 (w / 2 ^ (place % 64)) < 64 * (place / 64) + 64
  next_within some =
      let next : ℕ = trailing_zeros w64 (w / 2 ^ (place % 64)) in
      elim (cases_lt (place + next) (64 * (place / 64) + 64)) [
        | inl lt ↦ lt
        | inr past ↦
            let small : w / 2 ^ (place % 64) < 2 ^ 64 = omega (arith, div-le_self w (2 ^ (place % 64))) in
            let lowest = bit_at-trailing_zeros w64 (w / 2 ^ (place % 64)) some small in
            let none : bit_at (w / 2 ^ (place % 64)) next ≡ 0 =
            ap (λ u. u % 2) (shr-shr w (place % 64) next) ∙ bit_at_above w 64 (place % 64 + next) fits (omega arith) in
            absurd (omega (arith, none, lowest.1))
      ]

-- the next bit, where none before its word is set
pub next_of_word : (ws : List ℕ) (k w start : ℕ) → w ≡ get_or ws k 0 → 0 < w → w < 2 ^ 64 → start ≤ 64 * k
    → ((x : ℕ) → start ≤ x → x < 64 * k → has_bit ws x ≡ false) → IsNextBit ws start (k * 64 + trailing_zeros w64 w)
next_of_word ws k w start is some fits not_before none =
    let next : ℕ = trailing_zeros w64 w in
    let lowest = bit_at-trailing_zeros w64 w some fits in
    let within : next < 64 = lowest.0 in
    let place : (k * 64 + next) % 64 ≡ next = omega arith in
    record {
      not_before = omega arith;
      is_set = sym (read_here ws k w (k * 64 + next) is (omega arith)) ∙ ap (λ i. nat_eq (bit_at w i) 1) place ∙ ap (λ b. nat_eq b 1) lowest.1;
      none_before = λ x from before. elim (cases_lt x (64 * k)) [
        | inl lower ↦ none x from lower
        | inr here ↦
            sym (read_here ws k w x is (omega arith))
            ∙ ap (λ b. nat_eq b 1) (lowest.2 (x % 64) (omega arith))
      ];
    }

-- a bit that is the next from a later place on is so from a place on between which none is set
pub next_sooner : (ws : List ℕ) (place later : ℕ) (r : Option ℕ) → place ≤ later → ((x : ℕ) → place ≤ x → x < later → has_bit ws x ≡ false)
    → IfSome r (IsNextBit ws later) → IfSome r (IsNextBit ws place)
next_sooner ws place later r le none next = IfSome_then r next (
    λ y found. record {
      not_before = omega (arith, found.not_before);
      is_set = found.is_set;
      none_before = λ x from before. elim (cases_lt x later) [
        | inl sooner ↦ none x from sooner
        | inr not_before ↦ found.none_before x not_before before
      ];
    }
    )

-- the next bit is the least track
pub next_is_least : (n : ℕ) (ws : List ℕ) (x : ℕ) (r : Option ℕ) → AreWordsSound n ws
    → (r ≡ None → (y : ℕ) → x ≤ y → has_bit ws y ≡ false) → IfSome r (IsNextBit ws x) → r ≡ least_from (set_in n ws) x
next_is_least n ws x None keeps none some = sym (least_none (set_in n ws) x (λ y from. in_has_all n ws keeps y ∙ none refl y from))
next_is_least n ws x (Some y) keeps none some =
    sym (least_some (set_in n ws) x y some.not_before (in_has_all n ws keeps y ∙ some.is_set) (λ z from before. in_has_all n ws keeps z ∙ some.none_before z from before))

-- ---- the first bits

full_words : (k x : ℕ) → x / 64 < k → has_bit (replicate k 18446744073709551615) x ≡ true
unfolding has_bit
full_words k x within =
    ap (λ u. nat_eq (bit_at u (x % 64)) 1) (get_or-replicate k (x / 64) 18446744073709551615 0 within)
    ∙ ap (λ b. nat_eq b 1) (bit_at_ones 64 (x % 64) (omega arith))

-- words of ones have exactly the bits below their end
pub full_bits : (k n x : ℕ) (ws : List ℕ) → n ≡ 64 * k → ws ≡ replicate k 18446744073709551615 → has_bit ws x ≡ nat_lt x n
full_bits k n x ws whole are = elim (cases_lt x n) [
  | inl within ↦ ap (λ vs. has_bit vs x) are ∙ full_words k x (omega arith) ∙ sym (lt-ltb x n within)
  | inr past ↦
      let short : 64 * length ws ≤ x = omega (arith, ap length are, length-replicate {A = ℕ} k 18446744073709551615) in
      past_words ws x short ∙ sym (le-ltb x n past)
]

-- and so where the last word has only the bits that are left
pub first_bits : (k n x : ℕ) (ws : List ℕ) → k ≡ (n + 63) / 64 → 0 < n % 64 → ws ≡ replicate k 18446744073709551615
    → has_bit (set ws (n / 64) (1 * 2 ^ (n % 64) % 18446744073709551616 - 1)) x ≡ nat_lt x n
first_bits k n x ws enough over are =
    let v : ℕ = 1 * 2 ^ (n % 64) % 18446744073709551616 - 1 in
    let value : v ≡ 2 ^ (n % 64) - 1 = ap (λ u. u - 1) (one_shl (n % 64) 64 (omega arith)) in
    let long : length ws ≡ k = ap length are ∙ length-replicate {A = ℕ} k 18446744073709551615 in
    elim (cases_eq (x / 64) (n / 64)) [
      | inl at ↦
          written_here ws (n / 64) v x (omega arith) at
          ∙ ap (λ u. nat_eq (bit_at u (x % 64)) 1) value
          ∙ elim (cases_lt x n) [
            | inl within ↦ ap (λ b. nat_eq b 1) (bit_at_ones (n % 64) (x % 64) (omega arith)) ∙ sym (lt-ltb x n within)
            | inr past ↦ ap (λ b. nat_eq b 1) (bit_at_ones_above (n % 64) (x % 64) (omega arith)) ∙ sym (le-ltb x n past)
          ]
      | inr apart ↦
          written_else ws (n / 64) v x apart
          ∙ elim (cases_lt x n) [
            | inl within ↦ ap (λ vs. has_bit vs x) are ∙ full_words k x (omega arith) ∙ sym (lt-ltb x n within)
            | inr past ↦ let short : 64 * length ws ≤ x = omega arith in past_words ws x short ∙ sym (le-ltb x n past)
          ]
    ]

-- ---- the bits of either

either_bit : (a b : ℕ) → a < 2 → b < 2 → nat_eq (max a b) 1 ≡ (nat_eq a 1 || nat_eq b 1)
either_bit zero zero p q = refl
either_bit zero (suc zero) p q = refl
either_bit zero (suc (suc b)) p q = absurd (omega arith)
either_bit (suc zero) zero p q = refl
either_bit (suc zero) (suc zero) p q = refl
either_bit (suc zero) (suc (suc b)) p q = absurd (omega arith)
either_bit (suc (suc a)) b p q = absurd (omega arith)

pub or_bits : (us vs ws : List ℕ) (x : ℕ) → length vs ≡ length us → length ws ≡ length us
    → ((k : ℕ) → k < length us → get_or ws k 0 ≡ bit_or (get_or us k 0) (get_or vs k 0))
    → has_bit ws x ≡ (has_bit us x || has_bit vs x)
or_bits us vs ws x same long each = elim (cases_lt (x / 64) (length us)) [
  | inl within ↦
      let u : ℕ = get_or us (x / 64) 0 in
      let v : ℕ = get_or vs (x / 64) 0 in
      sym (read_here ws (x / 64) (bit_or u v) x (sym (each (x / 64) within)) refl)
      ∙ ap (λ b. nat_eq b 1) (bit_at_or u v (x % 64))
      ∙ either_bit (bit_at u (x % 64)) (bit_at v (x % 64)) (bit_at-lt u (x % 64)) (bit_at-lt v (x % 64))
      ∙ ap (λ b. b || nat_eq (bit_at v (x % 64)) 1) (read_here us (x / 64) u x refl refl)
      ∙ ap (λ b. has_bit us x || b) (read_here vs (x / 64) v x refl refl)
  | inr past ↦
      past_words ws x (omega arith)
      ∙ ap (λ b. false || b) (sym (past_words vs x (omega arith)))
      ∙ ap (λ b. b || has_bit vs x) (sym (past_words us x (omega arith)))
]

-- the set in words that have the bits of either is the union of the sets in both
pub or_in : (n : ℕ) (us vs ws : List ℕ) → ((x : ℕ) → has_bit ws x ≡ (has_bit us x || has_bit vs x))
    → set_in n ws ≡ union (set_in n us) (set_in n vs)
or_in n us vs ws each =
    let same : length (set_in n vs) ≡ length (set_in n us) = in_length n vs ∙ sym (in_length n us) in
    in_is n ws (union (set_in n us) (set_in n vs)) (length_union (set_in n us) (set_in n vs) same ∙ in_length n us) (
    λ x within.
    has_union (set_in n us) (set_in n vs) same x
    ∙ ap (λ b. b || has_track (set_in n vs) x) (in_has n us x within)
    ∙ ap (λ b. has_bit us x || b) (in_has n vs x within)
    ∙ sym (each x)
    )

pub or_keeps : (n : ℕ) (us vs ws : List ℕ) → AreWordsSound n us → AreWordsSound n vs → length ws ≡ length us
    → ((x : ℕ) → has_bit ws x ≡ (has_bit us x || has_bit vs x)) → AreWordsSound n ws
or_keeps n us vs ws keeps others long each = record {
  few = keeps.few;
  whole = long ∙ keeps.whole;
  clear = λ x past. each x ∙ ap (λ b. b || has_bit vs x) (keeps.clear x past) ∙ others.clear x past;
}

-- the set in words that have exactly the first bits is whole
pub all_in : (n : ℕ) (ws : List ℕ) → ((x : ℕ) → has_bit ws x ≡ nat_lt x n) → set_in n ws ≡ every_track n
all_in n ws each =
    in_is n ws (every_track n) (length-replicate n true) (λ x within. get_or-replicate n x true false within ∙ sym (lt-ltb x n within) ∙ sym (each x))

pub all_keeps : (n : ℕ) (us ws : List ℕ) → AreWordsSound n us → length ws ≡ length us → ((x : ℕ) → has_bit ws x ≡ nat_lt x n) → AreWordsSound n ws
all_keeps n us ws keeps long each = record { few = keeps.few; whole = long ∙ keeps.whole; clear = λ x past. each x ∙ le-ltb x n past }

-- items written over all of a row are all that it has
pub written_all : (len : ℕ) (items old : List ℕ) → length items ≡ len → take len (items ++ old) ≡ items
written_all len items old long = ap (λ k. take k (items ++ old)) (sym long) ∙ take-append_seam items old
