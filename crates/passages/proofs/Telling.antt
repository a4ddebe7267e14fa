-- Points that are passed, told by others.
use Rattle.std.proofs.Common.{◌⊎◌, inl, inr, ℕ, List, [], ◌∷◌, Option, Some, None}
use Rattle.std.specs.Prelude.{IfSome, map, option_map}
use Rattle.std.specs.List.{All}
use Rattle.std.proofs.lemmas.List.Elements.{All-head, All-tail}
use Rattle.passages.specs.Points.{GoesThrough, Passed}
use Rattle.passages.specs.Telling.{told_by}

module _ (P W Q V C : Type 0) (left : ℕ → C → Type 0) (shows : P → C → Type 0) (good : P → Type 0) (tells : Q → C → Type 0) (told : P → Q) (way : Passed P W → V) (step : (q : P) (c : C) → good q → shows q c → tells (told q) c) where
  either : (p q : P) → good p → good q → (c : C) → shows p c ⊎ shows q c → tells (told p) c ⊎ tells (told q) c
  either p q gp gq c (inl is) = inl (step p c gp is)
  either p q gp gq c (inr is) = inr (step q c gq is)

  pub told_otherwise : (from to : ℕ) (p : P) (xs : List (Passed P W)) (next : Option P) → good p → All (λ n. good n.point) xs → IfSome next good → GoesThrough left shows from p xs to next
      → GoesThrough left tells from (told p) (map (told_by told way) xs) to (option_map told next)
  told_otherwise from to p [] None gp all gn goes = (goes.0, λ t since within c has. step p c gp (goes.1 t since within c has))
  told_otherwise from to p [] (Some q) gp all gn goes = (goes.0, λ t since within c has. either p q gp gn c (goes.1 t since within c has))
  told_otherwise from to p (n ∷ xs) next gp all gn goes =
      let here = All-head (λ (m : Passed P W). good m.point) n xs all in
      (goes.0, λ t since within c has. either p n.point gp here c (goes.1 t since within c has), λ t since within c has. step n.point c here (goes.2 t since within c has), told_otherwise n.moment to n.point xs next here (All-tail (λ (m : Passed P W). good m.point) n xs all) gn goes.3)
