-- Sets that lie in words, read and written.
use Rattle.std.proofs.Common.{◌≡◌, ℕ, ◌+◌, ◌*◌, ◌/◌, ◌%◌, ◌^◌, ◌<◌, ◌≤◌, Bool, true, false, nat_eq, List, length, get_or, set, replicate, inl, inr, refl, sym, ap, ◌∙◌, arith, w64}
use Rattle.std.specs.Prelude.{bit_and, bit_or, ◌≢◌}
use Rattle.std.specs.Int.{bit_at, bit_not}
use Rattle.std.proofs.lemmas.Bool.{cases_eq, cases_lt}
use Rattle.std.proofs.lemmas.List.{get_or-set_same, get_or-set_other, get_or-replicate, get_or_past, get_or_read, length-set, length-replicate}
use Rattle.std.proofs.lemmas.List.FromFn.{length-map-range_with_len, get_or-map-range_with_len, fill_by_all}
use Rattle.std.proofs.lemmas.Nat.Bits.{bit_at-zero, bit_at_set_same, bit_at_set_other, bit_at_clear_same, bit_at_clear_other, shr_and_one}
use Rattle.change_map.specs.Sets.{has_track, with_track, without_track, no_track}
use Rattle.change_map.specs.Words.{has_bit, set_in, AreWordsSound}

pub in_length : (n : ℕ) (ws : List ℕ) → length (set_in n ws) ≡ n
in_length n ws = length-map-range_with_len (has_bit ws) 0 n

pub in_has : (n : ℕ) (ws : List ℕ) (x : ℕ) → x < n → has_track (set_in n ws) x ≡ has_bit ws x
in_has n ws x within = get_or-map-range_with_len (has_bit ws) 0 n x x false within (omega arith)

-- a map's set has a track exactly where its bit is set, past its end too
pub in_has_all : (n : ℕ) (ws : List ℕ) → AreWordsSound n ws → (x : ℕ) → has_track (set_in n ws) x ≡ has_bit ws x
in_has_all n ws keeps x = elim (cases_lt x n) [
  | inl within ↦ in_has n ws x within
  | inr past ↦
      let short : length (set_in n ws) ≤ x = omega (arith, in_length n ws) in
      get_or_past (set_in n ws) x false short ∙ sym (keeps.clear x past)
]

-- a set lies in words where each of its tracks has its bit
pub in_is : (n : ℕ) (ws : List ℕ) (tracks : List Bool) → length tracks ≡ n → ((x : ℕ) → x < n → has_track tracks x ≡ has_bit ws x)
    → set_in n ws ≡ tracks
in_is n ws tracks len each = sym (fill_by_all (has_bit ws) tracks n false len each)

pub written_here : (ws : List ℕ) (k v y : ℕ) → k < length ws → y / 64 ≡ k → has_bit (set ws k v) y ≡ nat_eq (bit_at v (y % 64)) 1
unfolding has_bit
written_here ws k v y within at =
    ap (λ i. nat_eq (bit_at (get_or (set ws k v) i 0) (y % 64)) 1) at
    ∙ ap (λ u. nat_eq (bit_at u (y % 64)) 1) (get_or-set_same ws k v 0 within)

pub written_else : (ws : List ℕ) (k v y : ℕ) → y / 64 ≢ k → has_bit (set ws k v) y ≡ has_bit ws y
unfolding has_bit
written_else ws k v y other = ap (λ u. nat_eq (bit_at u (y % 64)) 1) (get_or-set_other ws k (y / 64) v 0 other)

pub read_here : (ws : List ℕ) (k w y : ℕ) → w ≡ get_or ws k 0 → y / 64 ≡ k → nat_eq (bit_at w (y % 64)) 1 ≡ has_bit ws y
unfolding has_bit
read_here ws k w y is at = ap (λ u. nat_eq (bit_at u (y % 64)) 1) (is ∙ ap (λ i. get_or ws i 0) (sym at))

-- A word takes the place of its old one, in which only the bit of one track may differ.
module _ (n : ℕ) (ws : List ℕ) (x w v : ℕ) (flag : Bool) (keeps : AreWordsSound n ws) (within : x < n) (is : w ≡ get_or ws (x / 64) 0) (here : nat_eq (bit_at v (x % 64)) 1 ≡ flag) (others : (i : ℕ) → i < 64 → i ≢ x % 64 → bit_at v i ≡ bit_at w i) where
  inside : x / 64 < length ws
  inside = omega (arith, keeps.whole)

  other_bit : (y : ℕ) → y ≢ x → has_bit (set ws (x / 64) v) y ≡ has_bit ws y
  other_bit y apart = elim (cases_eq (y / 64) (x / 64)) [
    | inl at ↦
        written_here ws (x / 64) v y inside at
        ∙ ap (λ b. nat_eq b 1) (others (y % 64) (omega arith) (λ same. apart (omega arith)))
        ∙ read_here ws (x / 64) w y is at
    | inr elsewhere ↦ written_else ws (x / 64) v y elsewhere
  ]

  pub changed : set_in n (set ws (x / 64) v) ≡ set (set_in n ws) x flag
  changed =
      let long : length (set (set_in n ws) x flag) ≡ n = length-set (set_in n ws) x flag ∙ in_length n ws in
      let held : x < length (set_in n ws) = omega (arith, in_length n ws) in
      in_is n (set ws (x / 64) v) (set (set_in n ws) x flag) long (
      λ y small. elim (cases_eq y x) [
        | inl same ↦
            ap (has_track (set (set_in n ws) x flag)) same
            ∙ get_or-set_same (set_in n ws) x flag false held
            ∙ sym here
            ∙ ap (λ i. nat_eq (bit_at v (i % 64)) 1) (sym same)
            ∙ sym (written_here ws (x / 64) v y inside (ap (λ i. i / 64) same))
        | inr apart ↦ get_or-set_other (set_in n ws) x y flag false apart ∙ in_has n ws y small ∙ sym (other_bit y apart)
      ]
      )

  pub changed_keeps : AreWordsSound n (set ws (x / 64) v)
  changed_keeps = record {
    few = keeps.few;
    whole = length-set ws (x / 64) v ∙ keeps.whole;
    clear = λ y past. other_bit y (λ same. omega arith) ∙ keeps.clear y past;
  }

-- a read word of a map, at the place of a track
module _ (n : ℕ) (ws : List ℕ) (x w : ℕ) (keeps : AreWordsSound n ws) (within : x < n) (read : w ≡ get_or ws (x / 64) w) where
  held_word : x / 64 < length ws
  held_word = omega (arith, keeps.whole)

  is_word : w ≡ get_or ws (x / 64) 0
  is_word = get_or_read ws (x / 64) w held_word read 0

  low : x % 64 < 64
  low = omega arith

  pub read_bit : nat_eq (bit_and (w / 2 ^ (x % 64)) 1) 1 ≡ has_track (set_in n ws) x
  read_bit =
      ap (λ b. nat_eq b 1) (shr_and_one w (x % 64)) ∙ read_here ws (x / 64) w x is_word refl ∙ sym (in_has n ws x within)

  pub set_word : set_in n (set ws (x / 64) (bit_or w (1 * 2 ^ (x % 64) % 18446744073709551616))) ≡ with_track (set_in n ws) x
  set_word =
      changed n ws x w (bit_or w (1 * 2 ^ (x % 64) % 18446744073709551616)) true keeps within is_word
      (ap (λ b. nat_eq b 1) (bit_at_set_same w64 w (x % 64) low)) (λ i _ apart. bit_at_set_other w64 w (x % 64) low i apart)

  pub set_keeps : AreWordsSound n (set ws (x / 64) (bit_or w (1 * 2 ^ (x % 64) % 18446744073709551616)))
  set_keeps =
      changed_keeps n ws x w (bit_or w (1 * 2 ^ (x % 64) % 18446744073709551616)) true keeps within is_word
      (ap (λ b. nat_eq b 1) (bit_at_set_same w64 w (x % 64) low)) (λ i _ apart. bit_at_set_other w64 w (x % 64) low i apart)

  pub clear_word : set_in n (set ws (x / 64) (bit_and w (bit_not w64 (1 * 2 ^ (x % 64) % 18446744073709551616)))) ≡ without_track (set_in n ws) x
  clear_word =
      changed n ws x w (bit_and w (bit_not w64 (1 * 2 ^ (x % 64) % 18446744073709551616))) false keeps within is_word
      (ap (λ b. nat_eq b 1) (bit_at_clear_same w64 w (x % 64) low)) (λ i small apart. bit_at_clear_other w64 w (x % 64) low i small apart)

  pub clear_keeps : AreWordsSound n (set ws (x / 64) (bit_and w (bit_not w64 (1 * 2 ^ (x % 64) % 18446744073709551616))))
  clear_keeps =
      changed_keeps n ws x w (bit_and w (bit_not w64 (1 * 2 ^ (x % 64) % 18446744073709551616))) false keeps within is_word
      (ap (λ b. nat_eq b 1) (bit_at_clear_same w64 w (x % 64) low)) (λ i small apart. bit_at_clear_other w64 w (x % 64) low i small apart)

none_bit : (k x : ℕ) → has_bit (replicate k 0) x ≡ false
unfolding has_bit
none_bit k x =
    let zero_word : get_or (replicate k 0) (x / 64) 0 ≡ 0 = elim (cases_lt (x / 64) k) [
      | inl within ↦ get_or-replicate k (x / 64) 0 0 within
      | inr past ↦ let short : length (replicate k 0) ≤ x / 64 = omega (arith, length-replicate {A = ℕ} k 0) in get_or_past (replicate k 0) (x / 64) 0 short
    ] in
    ap (λ u. nat_eq (bit_at u (x % 64)) 1) zero_word ∙ ap (λ b. nat_eq b 1) (bit_at-zero (x % 64))

-- words of 0 have none of the tracks
pub none_in : (n k : ℕ) (ws : List ℕ) → ws ≡ replicate k 0 → set_in n ws ≡ no_track n
none_in n k ws are =
    ap (set_in n) are
    ∙ in_is n (replicate k 0) (no_track n) (length-replicate n false) (λ x within. get_or-replicate n x false false within ∙ sym (none_bit k x))

pub none_keeps : (n k : ℕ) (ws : List ℕ) → n < 2 ^ 32 → k ≡ (n + 63) / 64 → ws ≡ replicate k 0 → AreWordsSound n ws
none_keeps n k ws few enough are = record {
  few = few;
  whole = ap length are ∙ length-replicate {A = ℕ} k 0 ∙ enough;
  clear = λ x _. ap (λ vs. has_bit vs x) are ∙ none_bit k x;
}
