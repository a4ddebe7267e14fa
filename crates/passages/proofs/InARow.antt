-- Points that are passed in a row.
use Rattle.std.proofs.Common.{◌⊎◌, inl, inr, ℕ, suc, ◌<◌, ◌≤◌, List, [], ◌∷◌, ◌++◌, length, take, Option, Some, None, arith}
use Rattle.std.specs.Prelude.{fold, IfSome}
use Rattle.std.specs.List.{All}
use Rattle.std.proofs.lemmas.Bool.{cases_lt}
use Rattle.std.proofs.lemmas.List.Elements.{All-head, All-tail}
use Rattle.passages.specs.Points.{AreLinked, GoesThrough, Passed, Throughout, last_point}

module _ (P W C : Type 0) (left : ℕ → C → Type 0) (shows : P → C → Type 0) where
  -- What is so up to a middle moment and after it.
  both : (from mid to : ℕ) (is : C → Type 0) → Throughout left from mid is → Throughout left mid to is → Throughout left from to is
  both from mid to is first then t since within c has = by_side (cases_lt t mid)
    where
      by_side : (t < mid) ⊎ (mid ≤ t) → is c
      by_side (inl before) = first t since (omega (arith, before)) c has
      by_side (inr after) = then t after within c has

  none_more : (from mid to : ℕ) (p : P) (ys : List (Passed P W)) (next : Option P) → from ≤ mid → Throughout left from mid (shows p) → GoesThrough left shows mid p ys to next → GoesThrough left shows from p ys to next
  none_more from mid to p [] None le first then = (omega (arith, le, then.0), both from mid to (shows p) first then.1)
  none_more from mid to p [] (Some q) le first then = (omega (arith, le, then.0), both from mid to (λ c. shows p c ⊎ shows q c) (λ t since within c l. inl (first t since within c l)) then.1)
  none_more from mid to p (n ∷ ys) next le first then = (omega (arith, le, then.0), both from mid n.moment (λ c. shows p c ⊎ shows n.point c) (λ t since within c l. inl (first t since within c l)) then.1, then.2, then.3)

  -- What is passed up to a moment, with nothing on its way, and what is passed from it on, is passed in a row.
  pub in_a_row : (from mid to : ℕ) (p : P) (xs ys : List (Passed P W)) (next : Option P) → GoesThrough left shows from p xs mid None → GoesThrough left shows mid (last_point p xs) ys to next → GoesThrough left shows from p (xs ++ ys) to next
  in_a_row from mid to p [] ys next first then = none_more from mid to p ys next first.0 first.1 then
  in_a_row from mid to p (n ∷ xs) ys next first then = (first.0, first.1, first.2, in_a_row n.moment mid to n.point xs ys next first.3 then)

  -- Whatever a crash leaves at a moment shows the last of the points up to some place.
  pub some_shown : (from to : ℕ) (p : P) (xs : List (Passed P W)) → GoesThrough left shows from p xs to None → Throughout left from to (λ c. (n : ℕ) × (n ≤ length xs) × shows (last_point p (take n xs)) c)
  some_shown from to p [] goes t since within c has = (0, omega arith, goes.1 t since within c has)
  some_shown from to p (m ∷ xs) goes t since within c has =
      both from m.moment to (λ b. (n : ℕ) × (n ≤ length (m ∷ xs)) × shows (last_point p (take n (m ∷ xs))) b) (λ u from-on up b is. here b (goes.1 u from-on up b is))
      (λ u from-on up b is. next b (some_shown m.moment to m.point xs goes.3 u from-on up b is)) t since within c has
    where
      here : (b : C) → shows p b ⊎ shows m.point b → (n : ℕ) × (n ≤ length (m ∷ xs)) × shows (last_point p (take n (m ∷ xs))) b
      here b (inl a) = (0, omega arith, a)
      here b (inr a) = (1, omega arith, a)

      next : (b : C) → (n : ℕ) × (n ≤ length xs) × shows (last_point m.point (take n xs)) b → (n : ℕ) × (n ≤ length (m ∷ xs)) × shows (last_point p (take n (m ∷ xs))) b
      next b found = (suc found.0, omega (arith, found.1), found.2)

  -- Moments rise.
  pub moments_rise : (from to : ℕ) (p : P) (xs : List (Passed P W)) (next : Option P) → GoesThrough left shows from p xs to next → from ≤ to
  moments_rise from to p [] None goes = goes.0
  moments_rise from to p [] (Some q) goes = goes.0
  moments_rise from to p (n ∷ xs) next goes = omega (arith, goes.0, moments_rise n.moment to n.point xs next goes.3)

  -- Where each point is good, whatever a crash leaves at each moment shows a good one.
  module _ (good : P → Type 0) where
    either : (p q : P) → good p → good q → (c : C) → shows p c ⊎ shows q c → (q : P) × good q × shows q c
    either p q gp gq c (inl a) = (p, gp, a)
    either p q gp gq c (inr a) = (q, gq, a)

    pub all_shown : (from to : ℕ) (p : P) (xs : List (Passed P W)) (next : Option P) → good p → All (λ n. good n.point) xs → IfSome next good → GoesThrough left shows from p xs to next → Throughout left from to (λ c. (q : P) × good q × shows q c)
    all_shown from to p [] None gp all gn goes t since within c has = (p, gp, goes.1 t since within c has)
    all_shown from to p [] (Some q) gp all gn goes t since within c has = either p q gp gn c (goes.1 t since within c has)
    all_shown from to p (n ∷ xs) next gp all gn goes t since within c has =
        let here = All-head (λ (m : Passed P W). good m.point) n xs all in
        both from n.moment to (λ b. (q : P) × good q × shows q b) (λ u from-on up b is. either p n.point gp here b (goes.1 u from-on up b is))
        (λ u from-on up b is. all_shown n.moment to n.point xs next here (All-tail (λ (m : Passed P W). good m.point) n xs all) gn goes.3 u from-on up b is) t since within c has

-- What was passed stays passed where no more is left at the moments up to then.
pub passed_still : (P W C : Type 0) (left later : ℕ → C → Type 0) (shows : P → C → Type 0) (from to : ℕ) (p : P) (xs : List (Passed P W)) (next : Option P)
    → ((t : ℕ) → t ≤ to → (c : C) → later t c → left t c) → GoesThrough left shows from p xs to next → GoesThrough later shows from p xs to next
passed_still P W C left later shows from to p [] None same goes = (goes.0, λ t since within c has. goes.1 t since within c (same t within c has))
passed_still P W C left later shows from to p [] (Some q) same goes = (goes.0, λ t since within c has. goes.1 t since within c (same t within c has))
passed_still P W C left later shows from to p (n ∷ xs) next same goes =
    let up : n.moment ≤ to = moments_rise P W C left shows n.moment to n.point xs next goes.3 in
    (goes.0, λ t since within c has. goes.1 t since within c (same t (omega (arith, within, up)) c has), λ t since within c has. goes.2 t since within c (same t (omega (arith, within, up)) c has), passed_still P W C left later shows n.moment to n.point xs next same goes.3)

-- Links go on in a row.
pub links_go_on : (B N : Type 0) (link : B → N → Type 0) (after : B → N → B) (base : B) (xs ys : List N) → AreLinked link after base xs → AreLinked link after (fold after base xs) ys → AreLinked link after base (xs ++ ys)
links_go_on B N link after base [] ys first then = then
links_go_on B N link after base (n ∷ xs) ys first then = (first.0, links_go_on B N link after (after base n) xs ys first.1 then)

-- Where nothing is on its way, anything may be said to be.
pub on_its_way : (P W C : Type 0) (left : ℕ → C → Type 0) (shows : P → C → Type 0) (from to : ℕ) (p q : P) (xs : List (Passed P W)) → GoesThrough left shows from p xs to None → GoesThrough left shows from p xs to (Some q)
on_its_way P W C left shows from to p q [] goes = (goes.0, λ t since within c has. inl (goes.1 t since within c has))
on_its_way P W C left shows from to p q (n ∷ xs) goes = (goes.0, goes.1, goes.2, on_its_way P W C left shows n.moment to n.point q xs goes.3)
