-- What a write at the front of a block leaves there, and in the other blocks.
use Rattle.std.proofs.Common.{◌≡◌, ◌≢◌, ℕ, ◌+◌, ◌*◌, ◌≤◌, List, ◌++◌, length, take, drop, min, refl, sym, ◌∙◌, ap, arith, inl, inr, append_assoc, length-append, length-take, length-drop}
use Rattle.std.proofs.lemmas.Bool.{cases_lt, cases_order}
use Rattle.std.proofs.lemmas.List.{take_at, drop_at, take_all, take-take, take-append-le, drop-take}
use Rattle.std.proofs.lemmas.Slice.{drop-append-drop}
use Rattle.block_region.specs.Blocks.{block_at}

-- so many bytes of a block's front
pub short_take : (a m n : ℕ) (ys : List ℕ) → m ≡ min a n → take a (take n ys) ≡ take m ys
short_take a m n ys is = elim (cases_lt a n) [
  | inl less ↦ let e : a ≡ m = omega arith in take-take a n ys (omega arith) ∙ ap (λ k. take k ys) e
  | inr more ↦ let e : n ≡ m = omega arith in take_all a (take n ys) (omega (arith, length-take n ys)) ∙ ap (λ k. take k ys) e
]

abbrev pub put_at : (p : ℕ) → (piece old : List ℕ) → List ℕ
put_at p piece old = take p old ++ piece ++ drop (p + length piece) old

front_is : (p : ℕ) (old : List ℕ) → p ≤ length old → length (take p old) ≡ p
front_is p old le = omega (arith, length-take p old)

pub put_here : (b a : ℕ) (piece old : List ℕ) → 512 * b ≤ length old → length piece ≡ min a 512 → take a (block_at (put_at (512 * b) piece old) b) ≡ piece
put_here b a piece old fits is =
    let p = 512 * b in
    let rest = drop (p + length piece) old in
    short_take a (length piece) 512 (drop p (put_at p piece old)) is
    ∙ ap (λ (t : List ℕ). take (length piece) (drop p t)) (append_assoc (take p old) piece rest)
    ∙ ap (λ (t : List ℕ). take (length piece) t) (drop_at (take p old) (piece ++ rest) p (front_is p old fits))
    ∙ take_at piece rest (length piece) refl

put_after : (q p : ℕ) (piece old : List ℕ) → q + 512 ≤ p → p ≤ length old → take 512 (drop q (put_at p piece old)) ≡ take 512 (drop q old)
put_after q p piece old le fits =
    let rest = drop (p + length piece) old in
    sym (drop-take q 512 (put_at p piece old))
    ∙ ap (λ (t : List ℕ). drop q (take (q + 512) t)) (append_assoc (take p old) piece rest)
    ∙ ap (λ (t : List ℕ). drop q t) (take-append-le (q + 512) (take p old) (piece ++ rest) (omega (arith, front_is p old fits)) ∙ take-take (q + 512) p old le)
    ∙ drop-take q 512 old

put_before : (q p : ℕ) (piece old : List ℕ) → p + length piece ≤ q → p ≤ length old → drop q (put_at p piece old) ≡ drop q old
put_before q p piece old le fits =
    drop-append-drop (p + length piece) old (take p old ++ piece) q le (omega (arith, length-append (take p old) piece, front_is p old fits))

pub put_elsewhere : (b c : ℕ) (piece old : List ℕ) → c ≢ b → length piece ≤ 512 → 512 * b ≤ length old → block_at (put_at (512 * b) piece old) c ≡ block_at old c
put_elsewhere b c piece old apart short fits = elim (cases_order c b) [
  | inl same ↦ absurd (apart same)
  | inr other ↦ elim other [
    | inl less ↦ put_after (512 * c) (512 * b) piece old (omega arith) fits
    | inr more ↦ ap (λ (t : List ℕ). take 512 t) (put_before (512 * c) (512 * b) piece old (omega arith) fits)
  ]
]

pub length-put : (p : ℕ) (piece old : List ℕ) → p + length piece ≤ length old → length (put_at p piece old) ≡ length old
length-put p piece old fits =
    omega (arith, length-append (take p old ++ piece) (drop (p + length piece) old), length-append (take p old) piece, length-drop (p + length piece) old, front_is p old (omega arith))
