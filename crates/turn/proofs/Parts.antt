-- Each seat's list is its part of the one run: the entries of the log that are that seat's, in order.
use Rattle.std.proofs.Common.{◌≡◌, ◌≢◌, ℕ, zero, suc, ◌+◌, ◌<◌, ◌≤◌, Bool, true, false, true≢false, cond, List, [], ◌∷◌, length, refl, sym, ap, ◌∙◌, subst, arith}
use Rattle.std.specs.Prelude.{filter}
use Rattle.std.proofs.lemmas.Bool.Decides.{nat_tests}
use mathlib.Core.Logic.{dite}
use mathlib.Core.Option.{some, some-ne-none, some-injective}
use native.Mathlib.Decide.{ℕ_discrete}
use lib.ListN.{get_elem?}
use Rattle.turn.specs.declared.view.Ticketed.{Ticketed}
use Rattle.turn.specs.Turn.{total, same, once_below, times, times_in, InOrder, AllInOrder, OneRun}
use Rattle.turn.proofs.Totals.{at_below}

other_ticket : (p k : ℕ) → p ≢ k → same p k ≡ 0
other_ticket p k apart = grind (arith, nat_tests)

below_once : (p n : ℕ) → p < n → once_below p n ≡ 1
below_once p n low = grind (arith, nat_tests)

no_one : (n : ℕ) → n ≡ 0 → n ≡ 1 → ⊥
no_one n none_there one = absurd (omega arith)

-- where f is 0 of all others, the total is f of one
total_single : {A : Type 0} (f : A → ℕ) (xs : List A) (i : ℕ) (a : A) → get_elem? xs i ≡ some a → ((j : ℕ) (b : A) → j ≢ i → get_elem? xs j ≡ some b → f b ≡ 0) → total f xs ≡ f a
total_single f [] i a at others = absurd (some-ne-none a (sym at))
total_single f (x ∷ xs) zero a at others =
    let here : f x ≡ f a = ap f (some-injective x a at) in
    let rest : total f xs ≡ 0 = all_none f xs (λ j b e. others (suc j) b (λ z. absurd (omega arith)) e) in omega arith
  where
    all_none : {A : Type 0} (f : A → ℕ) (xs : List A) → ((j : ℕ) (b : A) → get_elem? xs j ≡ some b → f b ≡ 0) → total f xs ≡ 0
    all_none f [] h = refl
    all_none f (x ∷ xs) h = let one : f x ≡ 0 = h 0 x refl in let rest : total f xs ≡ 0 = all_none f xs (λ j b e. h (suc j) b e) in omega arith
total_single f (x ∷ xs) (suc i) a at others =
    let here : f x ≡ 0 = others 0 x (λ z. absurd (omega arith)) refl in
    let rest : total f xs ≡ f a = total_single f xs i a at (λ j b apart e. others (suc j) b (λ z. apart (omega arith)) e) in omega arith

module _ {E R : Type 0} (log : List (Ticketed E R)) (who : Ticketed E R → Bool) where
  -- each entry of the list is the seat's, or none is
  abbrev pub AllAre : Bool → List (Ticketed E R) → Type 0
  AllAre b [] = Unit {0}
  AllAre b (e ∷ es) = (who e ≡ b) × AllAre b es

  late_none : (p k : ℕ) (es : List (Ticketed E R)) → p < k → InOrder log k es → times p es ≡ 0
  late_none p k [] low h = refl
  late_none p k (e ∷ es) low h =
      let at_least : k ≤ e.ticket = h.0 in
      let here : same p e.ticket ≡ 0 = other_ticket p e.ticket (λ z. absurd (omega arith)) in
      let rest : times p es ≡ 0 = late_none p (suc e.ticket) es (omega arith) h.2 in omega arith

  -- the entry at a place of the log that is not the list's own does not stand in the list
  not_there : (p k : ℕ) (d : Ticketed E R) (b : Bool) (es : List (Ticketed E R)) → get_elem? log p ≡ some d → who d ≢ b → AllAre b es → InOrder log k es → times p es ≡ 0
  not_there p k d b [] at other all h = refl
  not_there p k d b (e ∷ es) at other all h =
      let apart : p ≢ e.ticket = λ z. let both : some d ≡ some e = sym at ∙ (ap (get_elem? log) z ∙ h.1) in absurd (other (ap who (some-injective d e both) ∙ all.0)) in
      let here : same p e.ticket ≡ 0 = other_ticket p e.ticket apart in
      let rest : times p es ≡ 0 = not_there p (suc e.ticket) d b es at other all.1 h.2 in omega arith

  -- from the place k on, the list has each place of the log that is the seat's once
  abbrev Mine : ℕ → List (Ticketed E R) → Type 0
  Mine k es = (p : ℕ) (d : Ticketed E R) → k ≤ p → get_elem? log p ≡ some d → who d ≡ true → times p es ≡ 1

  mine_later : (k : ℕ) (e : Ticketed E R) (es : List (Ticketed E R)) → e.ticket ≡ k → Mine k (e ∷ es) → Mine (suc k) es
  mine_later k e es is mine p d low at w =
      let all : same p e.ticket + times p es ≡ 1 = mine p d (omega arith) at w in
      let other : same p e.ticket ≡ 0 = other_ticket p e.ticket (λ z. absurd (omega arith)) in omega arith

  -- what is left to show at the place k, by what holds from the next place on
  abbrev Next : ℕ → List (Ticketed E R) → Type 0
  Next k suf = (es : List (Ticketed E R)) → InOrder log (suc k) es → AllAre true es → Mine (suc k) es → filter who suf ≡ es

  passes_over : (k : ℕ) (d : Ticketed E R) (suf es : List (Ticketed E R)) → get_elem? log k ≡ some d → who d ≡ false → InOrder log k es → AllAre true es → Mine k es → Next k suf → filter who suf ≡ es
  passes_over k d suf [] here w h all mine next = next [] tt tt (λ p c low at v. mine p c (omega arith) at v)
  passes_over k d suf (e ∷ es) here w h all mine next =
      let apart : k ≢ e.ticket = λ z. let both : some d ≡ some e = sym here ∙ (ap (get_elem? log) z ∙ h.1) in absurd (true≢false (sym all.0 ∙ (sym (ap who (some-injective d e both)) ∙ w))) in
      let at_least : k ≤ e.ticket = h.0 in
      next (e ∷ es) (omega arith, h.1, h.2) all (λ p c low at v. mine p c (omega arith) at v)

  takes_one : (k : ℕ) (d : Ticketed E R) (suf es : List (Ticketed E R)) → get_elem? log k ≡ some d → who d ≡ true → InOrder log k es → AllAre true es → Mine k es → Next k suf → d ∷ filter who suf ≡ es
  takes_one k d suf [] here w h all mine next = absurd (no_one 0 refl (mine k d (omega arith) here w))
  takes_one k d suf (e ∷ es) here w h all mine next = dite (ℕ_discrete k e.ticket)
      (λ (z : k ≡ e.ticket).
      let both : some d ≡ some e = sym here ∙ (ap (get_elem? log) z ∙ h.1) in
      let rest : filter who suf ≡ es = next es (subst (λ t. InOrder log (suc t) es) (sym z) h.2) all.1 (mine_later k e es (sym z) mine) in
      λ i. some-injective d e both i ∷ rest i)
      (λ (ne : k ≢ e.ticket).
      let at_least : k ≤ e.ticket = h.0 in
      let none_there : times k (e ∷ es) ≡ 0 = late_none k (suc k) (e ∷ es) (omega arith) (omega arith, h.1, h.2) in
      let one : times k (e ∷ es) ≡ 1 = mine k d (omega arith) here w in absurd (omega arith))

  one_place : (k : ℕ) (d : Ticketed E R) (suf es : List (Ticketed E R)) (b : Bool) → who d ≡ b → get_elem? log k ≡ some d → InOrder log k es → AllAre true es → Mine k es → Next k suf → filter who (d ∷ suf) ≡ es
  one_place k d suf es true w here h all mine next = ap (λ b. cond b (d ∷ filter who suf) (filter who suf)) w ∙ takes_one k d suf es here w h all mine next
  one_place k d suf es false w here h all mine next = ap (λ b. cond b (d ∷ filter who suf) (filter who suf)) w ∙ passes_over k d suf es here w h all mine next

  part_from : (suf : List (Ticketed E R)) (k : ℕ) (es : List (Ticketed E R)) → k + length suf ≡ length log → ((i : ℕ) (e : Ticketed E R) → get_elem? suf i ≡ some e → get_elem? log (k + i) ≡ some e)
      → InOrder log k es → AllAre true es → Mine k es → filter who suf ≡ es
  part_from [] k [] long at h all mine = refl
  part_from [] k (e ∷ es) long at h all mine = let low : e.ticket < length log = at_below log e.ticket e h.1 in let high : k ≤ e.ticket = h.0 in absurd (omega arith)
  part_from (d ∷ suf) k es long at h all mine =
      let zero_on : k + 0 ≡ k = omega arith in
      one_place k d suf es (who d) refl (subst (λ i. get_elem? log i ≡ some d) zero_on (at 0 d refl)) h all mine
      (λ fs. part_from suf (suc k) fs (omega arith) (λ i e is. let z : k + suc i ≡ suc k + i = omega arith in subst (λ j. get_elem? log j ≡ some e) z (at (suc i) e is)))

  in_order_at : (ls : List (List (Ticketed E R))) (i : ℕ) (es : List (Ticketed E R)) → get_elem? ls i ≡ some es → AllInOrder log ls → InOrder log 0 es
  in_order_at [] i es at h = absurd (some-ne-none es (sym at))
  in_order_at (x ∷ xs) zero es at h = subst (InOrder log 0) (some-injective x es at) h.0
  in_order_at (x ∷ xs) (suc i) es at h = in_order_at xs i es at h.1

  -- of lists in which each ticket stands once, one is the seat's and the others have none of its entries: it is the seat's part of the log
  own_part : (ls : List (List (Ticketed E R))) (i : ℕ) (es : List (Ticketed E R)) → AllInOrder log ls → ((t : ℕ) → times_in t ls ≡ once_below t (length log)) → get_elem? ls i ≡ some es → AllAre true es
      → ((j : ℕ) (fs : List (Ticketed E R)) → j ≢ i → get_elem? ls j ≡ some fs → AllAre false fs) → filter who log ≡ es
  own_part ls i es ordered once at mine others =
      part_from log 0 es (omega arith) (λ k e is. let z : k ≡ 0 + k = omega arith in subst (λ j. get_elem? log j ≡ some e) z is) (in_order_at ls i es at ordered) mine
      (λ p d low here w.
      let single : times_in p ls ≡ times p es = total_single (times p) ls i es at
      (λ j fs apart is. not_there p 0 d false fs here (λ z. true≢false (sym w ∙ z)) (others j fs apart is) (in_order_at ls j fs is ordered)) in
      let inside : p < length log = at_below log p d here in
      let one : once_below p (length log) ≡ 1 = below_once p (length log) inside in
      let all : times_in p ls ≡ once_below p (length log) = once p in omega arith)

module _ {X E R : Type 0} (steps : X → E → R → X → Type 0) where
  -- the same of the one run that `close` shows
  pub part_of_run : (x y : X) (ls : List (List (Ticketed E R))) (run : OneRun steps x ls y) (who : Ticketed E R → Bool) (i : ℕ) (es : List (Ticketed E R)) → get_elem? ls i ≡ some es → AllAre run.log who true es
      → ((j : ℕ) (fs : List (Ticketed E R)) → j ≢ i → get_elem? ls j ≡ some fs → AllAre run.log who false fs) → filter who run.log ≡ es
  part_of_run x y ls run who i es at mine others = own_part run.log who ls i es run.in_order run.once at mine others
