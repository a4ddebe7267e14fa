-- What a write leaves of ranges of bytes.
use Rattle.std.proofs.Common.{◌≡◌, ◌⊎◌, inl, inr, ◌≤◌, ◌+◌, ◌-◌, ◌++◌, ℕ, List, length, take, drop, refl, sym, ◌∙◌, ap, arith, append_assoc, length-take}
use Rattle.std.specs.Prelude.{slice_range}
use Rattle.std.proofs.lemmas.List.{take_at, drop_at, take-take, drop-drop, drop-take}
use Rattle.crash_plant.specs.Bytes.{patched, Torn}

-- what stands before a write
range_before : (p from to : ℕ) (b c : List ℕ) → take p c ≡ take p b → from ≤ to → to ≤ p → slice_range c from to ≡ slice_range b from to
range_before p from to b c same up at =
    let end : from + (to - from) ≡ to = omega (arith, up) in
    let front : take to c ≡ take to b = sym (take-take to p c at) ∙ ap (λ (l : List ℕ). take to l) same ∙ take-take to p b at in
    sym (drop-take from (to - from) c) ∙ ap (λ (k : ℕ). drop from (take k c)) end ∙ ap (λ (l : List ℕ). drop from l) front ∙ ap (λ (k : ℕ). drop from (take k b)) (sym end) ∙ drop-take from (to - from) b

-- what stands after a write
range_after : (q from to : ℕ) (b c : List ℕ) → drop q c ≡ drop q b → q ≤ from → slice_range c from to ≡ slice_range b from to
range_after q from to b c same le =
    let at : q + (from - q) ≡ from = omega (arith, le) in
    ap (λ (k : ℕ). take (to - from) (drop k c)) (sym at) ∙ ap (λ (l : List ℕ). take (to - from) l) (sym (drop-drop (from - q) q c) ∙ ap (λ (l : List ℕ). drop (from - q) l) same ∙ drop-drop (from - q) q b)
    ∙ ap (λ (k : ℕ). take (to - from) (drop k b)) at

pub torn_apart : (p n from to : ℕ) (b c : List ℕ) → Torn p n b c → from ≤ to → (to ≤ p) ⊎ (p + n ≤ from) → slice_range c from to ≡ slice_range b from to
torn_apart p n from to b c torn up (inl before) = range_before p from to b c torn.before up before
torn_apart p n from to b c torn up (inr after) = range_after (p + n) from to b c torn.after after

-- what was written stands there
pub written_after : (p : ℕ) (bytes b : List ℕ) → p ≤ length b → drop p (patched p bytes b) ≡ bytes ++ drop (p + length bytes) b
written_after p bytes b fits =
    let front : length (take p b) ≡ p = omega (arith, length-take p b, fits) in
    ap (λ (l : List ℕ). drop p l) (append_assoc (take p b) bytes (drop (p + length bytes) b)) ∙ drop_at (take p b) (bytes ++ drop (p + length bytes) b) p front

pub range_written : (p : ℕ) (bytes b : List ℕ) → p ≤ length b → slice_range (patched p bytes b) p (p + length bytes) ≡ bytes
range_written p bytes b fits =
    let n : p + length bytes - p ≡ length bytes = omega arith in
    ap (λ (k : ℕ). take k (drop p (patched p bytes b))) n
    ∙ ap (λ (l : List ℕ). take (length bytes) l) (written_after p bytes b fits)
    ∙ take_at bytes (drop (p + length bytes) b) (length bytes) refl

-- a part of a range that is the same
pub range_part : (p q n : ℕ) (b c : List ℕ) → slice_range c p q ≡ slice_range b p q → p + n ≤ q → slice_range c p (p + n) ≡ slice_range b p (p + n)
range_part p q n b c same le =
    let k : p + n - p ≡ n = omega arith in
    let less : n ≤ q - p = omega (arith, le) in
    ap (λ (m : ℕ). take m (drop p c)) k ∙ sym (take-take n (q - p) (drop p c) less) ∙ ap (λ (l : List ℕ). take n l) same ∙ take-take n (q - p) (drop p b) less ∙ ap (λ (m : ℕ). take m (drop p b)) (sym k)
