-- Totals over a list of views, and entries in a log that grows.
use Rattle.std.proofs.Common.{◌≡◌, ◌≢◌, ℕ, zero, suc, ◌+◌, ◌<◌, ◌≤◌, cond, List, [], ◌∷◌, ◌++◌, length, set, sym, refl, ap, ◌∙◌, subst, arith, eq-eqb}
use Rattle.std.proofs.lemmas.Bool.Decides.{nat_tests}
use mathlib.Core.Logic.{dite}
use mathlib.Core.Option.{some, some-ne-none, some-injective}
use native.Mathlib.Decide.{ℕ_discrete}
use lib.ListN.{get_elem?}
use Rattle.atomic_table.proofs.Lists.{at_longer}
use Rattle.turn.specs.declared.view.Ticketed.{Ticketed}
use Rattle.turn.specs.Turn.{total, same, once_below, InOrder, AllInOrder, ReachesBy, without_second, second_alone, notes_about, AllTrue}

module _ {A : Type 0} (f : A → ℕ) where
  pub total_set : (vs : List A) (j : ℕ) (v w : A) → get_elem? vs j ≡ some v → total f (set vs j w) + f v ≡ total f vs + f w
  total_set [] j v w e = absurd (some-ne-none v (sym e))
  total_set (x ∷ xs) zero v w e = let same : f x ≡ f v = ap f (some-injective x v e) in omega arith
  total_set (x ∷ xs) (suc j) v w e = let rest : total f (set xs j w) + f v ≡ total f xs + f w = total_set xs j v w e in omega arith

  pub total_one : (vs : List A) (j : ℕ) (v : A) → get_elem? vs j ≡ some v → f v ≤ total f vs
  total_one [] j v e = absurd (some-ne-none v (sym e))
  total_one (x ∷ xs) zero v e = let same : f x ≡ f v = ap f (some-injective x v e) in omega arith
  total_one (x ∷ xs) (suc j) v e = let rest : f v ≤ total f xs = total_one xs j v e in omega arith

  pub total_two : (vs : List A) (i j : ℕ) (v w : A) → i ≢ j → get_elem? vs i ≡ some v → get_elem? vs j ≡ some w → f v + f w ≤ total f vs
  total_two [] i j v w apart e d = absurd (some-ne-none v (sym e))
  total_two (x ∷ xs) zero zero v w apart e d = absurd (apart refl)
  total_two (x ∷ xs) zero (suc j) v w apart e d = let same : f x ≡ f v = ap f (some-injective x v e) in let rest : f w ≤ total f xs = total_one xs j w d in omega arith
  total_two (x ∷ xs) (suc i) zero v w apart e d = let same : f x ≡ f w = ap f (some-injective x w d) in let rest : f v ≤ total f xs = total_one xs i v e in omega arith
  total_two (x ∷ xs) (suc i) (suc j) v w apart e d = let rest : f v + f w ≤ total f xs = total_two xs i j v w (λ s. apart (ap suc s)) e d in omega arith

  pub total_push : (vs : List A) (w : A) → total f (vs ++ w ∷ []) ≡ total f vs + f w
  total_push [] w = omega arith
  total_push (x ∷ xs) w = let rest : total f (xs ++ w ∷ []) ≡ total f xs + f w = total_push xs w in omega arith

  pub total_append : (vs ws : List A) → total f (vs ++ ws) ≡ total f vs + total f ws
  total_append [] ws = omega arith
  total_append (x ∷ xs) ws = let rest : total f (xs ++ ws) ≡ total f xs + total f ws = total_append xs ws in omega arith

module _ {A : Type 0} (f g : A → ℕ) where
  pub total_le : ((v : A) → f v ≤ g v) → (vs : List A) → total f vs ≤ total g vs
  total_le below [] = omega arith
  total_le below (x ∷ xs) = let one : f x ≤ g x = below x in let rest : total f xs ≤ total g xs = total_le below xs in omega arith

  -- where g is 0 everywhere, so is f
  pub total_none : (vs : List A) → ((j : ℕ) (v : A) → get_elem? vs j ≡ some v → g v ≡ 0 → f v ≡ 0) → total g vs ≡ 0 → total f vs ≡ 0
  total_none [] none_there z = refl
  total_none (x ∷ xs) none_there z =
      let one : f x ≡ 0 = none_there 0 x refl (omega arith) in
      let rest : total f xs ≡ 0 = total_none xs (λ j v e. none_there (suc j) v e) (omega arith) in omega arith

  -- where all of g is in one place, so is all of f
  pub total_only : (vs : List A) (i : ℕ) (w : A) → ((j : ℕ) (v : A) → get_elem? vs j ≡ some v → g v ≡ 0 → f v ≡ 0) → get_elem? vs i ≡ some w → total g vs ≡ g w → total f vs ≡ f w
  total_only [] i w none_there e z = absurd (some-ne-none w (sym e))
  total_only (x ∷ xs) zero w none_there e z =
      let same : x ≡ w = some-injective x w e in
      let here : g x ≡ g w = ap g same in
      let there : f x ≡ f w = ap f same in
      let rest : total f xs ≡ 0 = total_none xs (λ j v d. none_there (suc j) v d) (omega arith) in omega arith
  total_only (x ∷ xs) (suc i) w none_there e z =
      let below : g w ≤ total g xs = total_one g xs i w e in
      let one : f x ≡ 0 = none_there 0 x refl (omega arith) in
      let rest : total f xs ≡ f w = total_only xs i w (λ j v d. none_there (suc j) v d) e (omega arith) in omega arith

pub same_self : (x : ℕ) → same x x ≡ 1
same_self x = ap (λ b. cond b 1 0) (eq-eqb x x refl)

pub once_more : (x n : ℕ) → once_below x n + same x n ≡ once_below x (n + 1)
once_more x n = dite (ℕ_discrete x n) (λ (e : x ≡ n). grind (arith, nat_tests)) (λ (ne : x ≢ n). grind (arith, nat_tests))

pub once_le : (x n : ℕ) → once_below x n ≤ 1
once_le x n = grind (arith, nat_tests)

module _ {E R : Type 0} where
  pub at_below : (log : List (Ticketed E R)) (k : ℕ) (e : Ticketed E R) → get_elem? log k ≡ some e → k < length log
  at_below [] k e is = absurd (some-ne-none e (sym is))
  at_below (x ∷ xs) zero e is = omega arith
  at_below (x ∷ xs) (suc k) e is = let rest : k < length xs = at_below xs k e is in omega arith

  pub in_longer : (log more : List (Ticketed E R)) (k : ℕ) (es : List (Ticketed E R)) → InOrder log k es → InOrder (log ++ more) k es
  in_longer log more k [] h = tt
  in_longer log more k (e ∷ es) h = (h.0, at_longer log more e.ticket e h.1, in_longer log more (suc e.ticket) es h.2)

  pub all_in_longer : (log more : List (Ticketed E R)) (ls : List (List (Ticketed E R))) → AllInOrder log ls → AllInOrder (log ++ more) ls
  all_in_longer log more [] h = tt
  all_in_longer log more (es ∷ ls) h = (in_longer log more 0 es h.0, all_in_longer log more ls h.1)

  at_end : (log : List (Ticketed E R)) (e : Ticketed E R) → get_elem? (log ++ e ∷ []) (length log) ≡ some e
  at_end [] e = refl
  at_end (x ∷ xs) e = at_end xs e

  pub in_pushed : (log : List (Ticketed E R)) (k : ℕ) (es : List (Ticketed E R)) (e : Ticketed E R) → k ≤ length log → e.ticket ≡ length log → InOrder log k es → InOrder (log ++ e ∷ []) k (es ++ e ∷ [])
  in_pushed log k [] e low is h = (omega arith, subst (λ t. get_elem? (log ++ e ∷ []) t ≡ some e) (sym is) (at_end log e), tt)
  in_pushed log k (x ∷ xs) e low is h = let inside : x.ticket < length log = at_below log x.ticket x h.1 in
      (h.0, at_longer log (e ∷ []) x.ticket x h.1, in_pushed log (suc x.ticket) xs e (omega arith) is h.2)

  pub all_appended : (log : List (Ticketed E R)) (ls ms : List (List (Ticketed E R))) → AllInOrder log ls → AllInOrder log ms → AllInOrder log (ls ++ ms)
  all_appended log [] ms h g = g
  all_appended log (es ∷ ls) ms h g = (h.0, all_appended log ls ms h.1 g)

module _ {X E R : Type 0} (steps : X → E → R → X → Type 0) where
  pub runs_on : (x : X) (es : List (Ticketed E R)) (y z : X) (e : Ticketed E R) → ReachesBy steps x es y → steps y e.event e.reply z → ReachesBy steps x (es ++ e ∷ []) z
  runs_on x [] y z e h g = (z, subst (λ w. steps w e.event e.reply z) (sym h) g, refl)
  runs_on x (d ∷ ds) y z e h g = (h.0, h.1, runs_on h.0 ds y z e h.2 g)

module _ {N : Type 0} (part : N → ℕ) where
  pub parts_append : (k : ℕ) (ns ms : List N) → notes_about part k (ns ++ ms) ≡ notes_about part k ns + notes_about part k ms
  parts_append k ns ms = total_append (λ (n : N). same k (part n)) ns ms

  -- the list without its second item, and that item, are the list
  pub parts_given : (k : ℕ) (ns : List N) → notes_about part k (without_second ns) + notes_about part k (second_alone ns) ≡ notes_about part k ns
  parts_given k [] = refl
  parts_given k (a ∷ []) = omega arith
  parts_given k (a ∷ b ∷ ns) = omega arith

module _ {X N : Type 0} (says : X → N → Type 0) where
  pub true_kept : (x : X) (ns : List N) → AllTrue says x ns → AllTrue says x (without_second ns)
  true_kept x [] h = h
  true_kept x (a ∷ []) h = h
  true_kept x (a ∷ b ∷ ns) h = (h.0, h.1.1)

  pub true_given : (x : X) (ns : List N) → AllTrue says x ns → AllTrue says x (second_alone ns)
  true_given x [] h = h
  true_given x (a ∷ []) h = tt
  true_given x (a ∷ b ∷ ns) h = (h.1.0, tt)

  pub true_append : (x : X) (ns ms : List N) → AllTrue says x ns → AllTrue says x ms → AllTrue says x (ns ++ ms)
  true_append x [] ms h g = g
  true_append x (n ∷ ns) ms h g = (h.0, true_append x ns ms h.1 g)

  -- notes on other parts stay true
  pub true_after : (part : N → ℕ) (k : ℕ) (x y : X) (ns : List N) → notes_about part k ns ≡ 0 → ((u : N) → part u ≢ k → says x u → says y u) → AllTrue says x ns → AllTrue says y ns
  true_after part k x y [] none_there others h = tt
  true_after part k x y (n ∷ ns) none_there others h =
      let apart : part n ≢ k = λ e. let one : same k (part n) ≡ 1 = ap (same k) e ∙ same_self k in absurd (omega arith) in
      (others n apart h.0, true_after part k x y ns (omega arith) others h.1)
