-- What stays of bytes beside a range that may have changed.
use Rattle.std.proofs.Common.{◌≡◌, ◌⊎◌, inl, inr, ◌≤◌, ◌+◌, ◌-◌, ◌++◌, ℕ, List, length, take, drop, sym, ◌∙◌, ap, arith, append_assoc, length-take}
use Rattle.std.specs.Prelude.{slice_range}
use Rattle.std.proofs.lemmas.List.{drop_at, take-take, drop-drop, drop-take}
use Rattle.crash_plant.specs.Bytes.{patched, Torn}

-- a shorter front that is the same
pub front_less : (p q : ℕ) (b c : List ℕ) → p ≤ q → take q c ≡ take q b → take p c ≡ take p b
front_less p q b c le same = sym (take-take p q c le) ∙ ap (λ (l : List ℕ). take p l) same ∙ take-take p q b le

-- a shorter rest
pub rest_less : (p q : ℕ) (b c : List ℕ) → p ≤ q → drop p c ≡ drop p b → drop q c ≡ drop q b
rest_less p q b c le same =
    let at : p + (q - p) ≡ q = omega (arith, le) in
    ap (λ (k : ℕ). drop k c) (sym at) ∙ sym (drop-drop (q - p) p c) ∙ ap (λ (l : List ℕ). drop (q - p) l) same ∙ drop-drop (q - p) p b ∙ ap (λ (k : ℕ). drop k b) at

-- a range in a front that is the same
pub range_front : (p from to : ℕ) (b c : List ℕ) → take p c ≡ take p b → from ≤ to → to ≤ p → slice_range c from to ≡ slice_range b from to
range_front p from to b c same up at =
    let end : from + (to - from) ≡ to = omega (arith, up) in
    sym (drop-take from (to - from) c) ∙ ap (λ (k : ℕ). drop from (take k c)) end ∙ ap (λ (l : List ℕ). drop from l) (front_less to p b c at same) ∙ ap (λ (k : ℕ). drop from (take k b)) (sym end) ∙ drop-take from (to - from) b

-- a range in a rest
pub range_rest : (q from to : ℕ) (b c : List ℕ) → drop q c ≡ drop q b → q ≤ from → slice_range c from to ≡ slice_range b from to
range_rest q from to b c same le = ap (λ (l : List ℕ). take (to - from) l) (rest_less q from b c le same)

-- a range in a range
pub range_inner : (p q from to : ℕ) (b c : List ℕ) → slice_range c p q ≡ slice_range b p q → p ≤ from → from ≤ to → to ≤ q → slice_range c from to ≡ slice_range b from to
range_inner p q from to b c same low up high = part c ∙ ap (λ (l : List ℕ). take (to - from) (drop (from - p) l)) same ∙ sym (part b)
  where
    part : (l : List ℕ) → slice_range l from to ≡ take (to - from) (drop (from - p) (slice_range l p q))
    part l =
        let at : p + (from - p) ≡ from = omega (arith, low) in
        let room : (from - p) + (q - from) ≡ q - p = omega (arith, low, up, high) in
        ap (λ (k : ℕ). take (to - from) (drop k l)) (sym at)
        ∙ ap (λ (m : List ℕ). take (to - from) m) (sym (drop-drop (from - p) p l))
        ∙ sym (take-take (to - from) (q - from) (drop (from - p) (drop p l)) (omega (arith, high)))
        ∙ ap (λ (m : List ℕ). take (to - from) m) (sym (drop-take (from - p) (q - from) (drop p l)) ∙ ap (λ (k : ℕ). drop (from - p) (take k (drop p l))) room)

-- no range
pub range_none : (from to : ℕ) (b c : List ℕ) → to ≤ from → slice_range c from to ≡ slice_range b from to
range_none from to b c le =
    let none : to - from ≡ 0 = omega (arith, le) in
    ap (λ (k : ℕ). take k (drop from c)) none ∙ sym (ap (λ (k : ℕ). take k (drop from b)) none)

-- what stands beside a torn range
pub torn_beside : (p n from to : ℕ) (b c : List ℕ) → Torn p n b c → from ≤ to → (to ≤ p) ⊎ (p + n ≤ from) → slice_range c from to ≡ slice_range b from to
torn_beside p n from to b c torn up (inl before) = range_front p from to b c torn.before up before
torn_beside p n from to b c torn up (inr after) = range_rest (p + n) from to b c torn.after after

-- what was written stands there
pub written_after : (p : ℕ) (bytes b : List ℕ) → p ≤ length b → drop p (patched p bytes b) ≡ bytes ++ drop (p + length bytes) b
written_after p bytes b fits =
    let front : length (take p b) ≡ p = omega (arith, length-take p b, fits) in
    ap (λ (l : List ℕ). drop p l) (append_assoc (take p b) bytes (drop (p + length bytes) b)) ∙ drop_at (take p b) (bytes ++ drop (p + length bytes) b) p front
