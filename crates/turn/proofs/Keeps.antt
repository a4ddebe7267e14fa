-- Each step keeps the rule of the table.
use Rattle.std.proofs.Common.{◌≡◌, ◌≢◌, ℕ, Bool, true, false, eqb, zero, suc, ◌+◌, ◌-◌, ◌%◌, ◌^◌, ◌<◌, ◌≤◌, List, [], ◌∷◌, ◌++◌, length, get_or, set, sym, refl, ap, ◌∙◌, subst, ⊎_elim, inl, inr, arith, Option, Some, length-append}
use Rattle.std.specs.Prelude.{IsSome}
use Rattle.std.proofs.Math.Nat.{mod-add-mod}
use Rattle.std.proofs.lemmas.Bool.Decides.{nat_tests, eqb_tells}
use mathlib.Core.Logic.{dite}
use mathlib.Core.Option.{some, none, some-ne-none, some-injective}
use mathlib.Core.Option as maybe
use native.Mathlib.Decide.{ℕ_discrete}
use lib.ListN.{get_elem?}
use prog.Atomic.{either}
use Rattle.atomic_table.specs.Table.{State, keeps, takes, gives, rest, put_back, stepped, Allows, Splits, Joins, opening, Seen, Final}
use Rattle.atomic_table.proofs.Lists.{at_set, set_here, set_else, set_again, at_longer, at_snoc, one_turn}
use Rattle.turn.specs.declared.view.Ticketed.{Ticketed}
use Rattle.turn.specs.declared.view.SeatStage.{SeatStage}
use Rattle.turn.specs.declared.view.SeatStage.TheVariants.{Spent, Idle, Waits, InTurn}
use Rattle.turn.specs.declared.view.View.{View}
use Rattle.turn.specs.Turn.{total, same, once_below, ticketed, notes_about, without_second, second_alone, AllTrue, about, times, times_in, OneRun, lives, waits, pending, live, busy, lists, times_held, StageFits, IsViewAt, Placed, Turns, Seated, first_view, new_view, spent_view, with_one_more, joined_view, staged, with_ticketed, at_draw, at_draw_if, at_look, at_pass}
use Rattle.turn.proofs.Totals.{total_set, parts_append, parts_given, true_kept, true_given, true_append, true_after, total_one, total_two, total_push, total_append, total_le, total_only, same_self, once_more, once_le, all_in_longer, in_pushed, all_appended, runs_on}

-- a place that has an item is below the length
there : {A : Type 0} (l : List A) (i : ℕ) (a : A) → get_elem? l i ≡ some a → i < length l
there [] i a e = absurd (some-ne-none a (sym e))
there (x ∷ xs) zero a e = omega arith
there (x ∷ xs) (suc i) a e = let rest : i < length xs = there xs i a e in omega arith

module _ {X : Type 0} where
  -- 1 where the seat is in its turn
  abbrev turned : SeatStage X → ℕ
  turned Spent = 0
  turned Idle = 0
  turned (Waits t) = 0
  turned (InTurn t x) = 1

  abbrev ticket_or : SeatStage X → ℕ
  ticket_or Spent = 0
  ticket_or Idle = 0
  ticket_or (Waits t) = t
  ticket_or (InTurn t x) = t

  waits_le : (st : SeatStage X) → waits st ≤ lives st
  waits_le Spent = omega arith
  waits_le Idle = omega arith
  waits_le (Waits t) = omega arith
  waits_le (InTurn t x) = omega arith

module _ {X E R N : Type 0} where
  each_set : (K : View X E R N → Type 0) (vs : List (View X E R N)) (id : ℕ) (w : View X E R N) → K w → ((j : ℕ) (v : View X E R N) → j ≢ id → get_elem? vs j ≡ some v → K v) → (j : ℕ) (v : View X E R N) → get_elem? (set vs id w) j ≡ some v → K v
  each_set K vs id w mine others j v e = ⊎_elim (λ (t : (j ≡ id) × (w ≡ v)). subst K t.1 mine) (λ (t : (j ≢ id) × (get_elem? vs j ≡ some v)). others j v t.0 t.1) (at_set vs id j w v e)

  counted_set : (vs : List (View X E R N)) (id : ℕ) (v w : View X E R N) → get_elem? vs id ≡ some v → live w ≡ live v → w.seats ≡ v.seats
      → ((u : View X E R N) → get_elem? vs 0 ≡ some u → u.seats ≡ total live vs) → (u : View X E R N) → get_elem? (set vs id w) 0 ≡ some u → u.seats ≡ total live (set vs id w)
  counted_set vs id v w at lives' seats' counted u e =
      let moved = total_set live vs id v w at in
      let all : total live (set vs id w) ≡ total live vs = omega arith in
      ⊎_elim
      (λ (t : (0 ≡ id) × (w ≡ u)). ap (λ (z : View X E R N). z.seats) (sym t.1) ∙ seats' ∙ counted v (subst (λ i. get_elem? vs i ≡ some v) (sym t.0) at) ∙ sym all)
      (λ (t : (0 ≢ id) × (get_elem? vs 0 ≡ some u)). counted u t.1 ∙ sym all)
      (at_set vs id 0 w u e)

  -- a seat that is not in its turn changes its view
  placed_set : (k : ℕ) (due : X) (homes : List (maybe.Option (Option X))) (vs : List (View X E R N)) (id : ℕ) (v w : View X E R N) → get_elem? vs id ≡ some v → turned v.stage ≡ 0
      → Placed k due homes vs → Placed k due homes (set vs id w)
  placed_set k due homes vs id v w at out (inl home) = inl home
  placed_set k due homes vs id v w at out (inr h) =
      let there' = h.1 in
      let apart : there'.0 ≢ id = λ e. let both : some there'.1 ≡ some v = sym there'.2 ∙ (ap (get_elem? vs) e ∙ at) in
      let one : 1 ≡ turned v.stage = sym (ap turned there'.3) ∙ ap (λ (z : View X E R N). turned z.stage) (some-injective there'.1 v both) in absurd (omega arith) in
      inr (h.0, (there'.0, there'.1, set_else vs id there'.0 w apart ∙ there'.2, there'.3))

  placed_push : (k : ℕ) (due : X) (homes : List (maybe.Option (Option X))) (vs : List (View X E R N)) (w : View X E R N) → Placed k due homes vs → Placed k due homes (vs ++ w ∷ [])
  placed_push k due homes vs w (inl home) = inl home
  placed_push k due homes vs w (inr h) = let there' = h.1 in inr (h.0, (there'.0, there'.1, at_longer vs (w ∷ []) there'.0 there'.1 there'.2, there'.3))

  put_home : (k : ℕ) (due y : X) (homes : List (maybe.Option (Option X))) (vs : List (View X E R N)) → Placed k due homes vs → set homes 0 (some (Some y)) ≡ some (Some y) ∷ []
  put_home k due y homes vs (inl home) = ap (λ hs. set hs 0 (some (Some y))) home
  put_home k due y homes vs (inr h) = ap (λ hs. set hs 0 (some (Some y))) h.0

  fits_later : (k : ℕ) (due : X) (next : ℕ) (v : View X E R N) (st : SeatStage X) → StageFits k due next v st → StageFits k due (next + 1) v st
  fits_later k due next v Spent h = h
  fits_later k due next v Idle h = tt
  fits_later k due next v (Waits t) h = (h.0, let below : t < next = h.1 in omega arith)
  fits_later k due next v (InTurn t x) h = h

  fits_passed : (k : ℕ) (due y : X) (next : ℕ) (v : View X E R N) (st : SeatStage X) → pending k st ≡ 0 → StageFits k due next v st → StageFits (k + 1) y next v st
  fits_passed k due y next v Spent p h = h
  fits_passed k due y next v Idle p h = tt
  fits_passed k due y next v (Waits t) p h = let other : k ≢ t = λ e. absurd (grind (arith, same_self k)) in let low : k ≤ t = h.0 in (omega arith, h.1)
  fits_passed k due y next v (InTurn t x) p h = let one : same k t ≡ 1 = ap (same k) h.0 ∙ same_self k in absurd (omega arith)

  none_spent : (k : ℕ) (due : X) (next : ℕ) (x : ℕ) (v : View X E R N) (st : SeatStage X) → v.stage ≡ st → lives st ≡ 0 → StageFits k due next v st → times_held x v ≡ 0
  none_spent k due next x v Spent is z h = ap (λ es. times x es + total (times x) v.joined + pending x v.stage) h.0 ∙ (ap (λ ls. 0 + total (times x) ls + pending x v.stage) h.1 ∙ ap (λ st. 0 + 0 + pending x st) is)
  none_spent k due next x v Idle is z h = absurd (omega arith)
  none_spent k due next x v (Waits t) is z h = absurd (omega arith)
  none_spent k due next x v (InTurn t y) is z h = absurd (omega arith)

  busy_le : (vs : List (View X E R N)) → total busy vs ≤ total live vs
  busy_le vs = total_le busy live (λ v. waits_le v.stage) vs

module _ {X E R N : Type 0} (steps : X → E → R → X → Type 0) (part : N → ℕ) (says : X → N → Type 0) (first : X) where
  abbrev Rule : State (Option X) (View X E R N) → Type 0
  Rule = Turns steps part says first

  -- a seat's new view is about the same parts of the state
  apart_set : (vs : List (View X E R N)) (id : ℕ) (v w : View X E R N) → get_elem? vs id ≡ some v → ((k : ℕ) → about part k w ≡ about part k v) → ((k : ℕ) → total (about part k) vs ≤ 1)
      → (k : ℕ) → total (about part k) (set vs id w) ≤ 1
  apart_set vs id v w at same_parts apart k =
      let moved : total (about part k) (set vs id w) + about part k v ≡ total (about part k) vs + about part k w = total_set (about part k) vs id v w at in
      let as_many : about part k w ≡ about part k v = same_parts k in
      let most : total (about part k) vs ≤ 1 = apart k in omega arith

  -- of two seats one has the ticket k
  alone : (s : State (Option X) (View X E R N)) (r : Rule s) (k i j : ℕ) (v u : View X E R N) → i ≢ j → get_elem? s.views i ≡ some v → get_elem? s.views j ≡ some u → pending k v.stage ≡ 1 → pending k u.stage ≡ 0
  alone s r k i j v u apart at at' one =
      let two : times_held k v + times_held k u ≤ total (times_held k) s.views = total_two (times_held k) s.views i j v u apart at at' in
      let all : total (times_held k) s.views ≡ once_below k r.next = r.once k in
      let most : once_below k r.next ≤ 1 = once_le k r.next in omega arith

  -- the ticket of a seat that waits is the one that is served, where their remainders are equal
  served : (s : State (Option X) (View X E R N)) (r : Rule s) (t : ℕ) → length r.log ≤ t → t < r.next → length r.log % 2 ^ 64 ≡ t % 2 ^ 64 → length r.log ≡ t
  served s r t low high e =
      let below : total busy s.views ≤ total live s.views = busy_le s.views in
      let few : total live s.views ≤ 17 = r.few in
      let is : total busy s.views + length r.log ≡ r.next = r.waiting in
      one_turn (length r.log) t (2 ^ 64) low (omega arith) e

  pub draws : (slots id : ℕ) (me : Seated X E R N) → me.0.stage ≡ Idle → Allows Rule slots id me 0 (λ n. (n + 1) % 2 ^ 64) (at_draw me)
  draws slots id me idle s r _ at _ =
      let v : View X E R N = me.0 in
      let w : View X E R N = staged v (Waits r.next) in
      let lives' : live w ≡ live v = sym (ap lives idle) in (
        w,
        keeps,
        tt,
        record {
          log = r.log;
          due = r.due;
          next = r.next + 1;
          words = ap (λ ws. set ws 0 ((get_or ws 0 0 + 1) % 2 ^ 64)) r.words ∙ ap (λ k. k ∷ (length r.log % 2 ^ 64) ∷ []) (mod-add-mod r.next (2 ^ 64) 1);
          runs = r.runs;
          placed = placed_set (length r.log) r.due s.homes s.views id v w at (ap turned idle) r.placed;
          once = λ x.
              let moved : total (times_held x) (set s.views id w) + times_held x v ≡ total (times_held x) s.views + times_held x w = total_set (times_held x) s.views id v w at in
              let before : times_held x v ≡ times_in x (lists v) + 0 = ap (λ z. times_in x (lists v) + pending x z) idle in
              let all : total (times_held x) s.views ≡ once_below x r.next = r.once x in
              let more : once_below x r.next + same x r.next ≡ once_below x (r.next + 1) = once_more x r.next in omega arith;
          waiting = let moved : total busy (set s.views id w) + busy v ≡ total busy s.views + busy w = total_set busy s.views id v w at in
              let before : busy v ≡ 0 = ap waits idle in let was : total busy s.views + length r.log ≡ r.next = r.waiting in omega arith;
          few = let moved : total live (set s.views id w) + live v ≡ total live s.views + live w = total_set live s.views id v w at in let few : total live s.views ≤ 17 = r.few in omega arith;
          counted = counted_set s.views id v w at lives' refl r.counted;
          each = each_set (IsViewAt r.log r.due (r.next + 1)) s.views id w
              ((r.each id v at).0, (let is : total busy s.views + length r.log ≡ r.next = r.waiting in omega arith, omega arith))
              (λ j u apart e. ((r.each j u e).0, fits_later (length r.log) r.due r.next u u.stage (r.each j u e).1));
          noted = each_set (λ (z : View X E R N). AllTrue says r.due z.notes) s.views id w (r.noted id v at) (λ j u _ e. r.noted j u e);
          begun = each_set (λ (z : View X E R N). live z ≡ 1 → z.first ≡ Some first) s.views id w (λ _. r.begun id v at (ap lives idle)) (λ j u _ e. r.begun j u e);
          apart = apart_set s.views id v w at (λ k. refl) r.apart;
        },
        (r.next, ap (λ ws. get_or ws 0 0) r.words, refl),
      )

  -- a ticket is drawn where it is the next one
  pub draws_if : (slots id : ℕ) (me : Seated X E R N) (ticket : ℕ) → me.0.stage ≡ Idle → Allows Rule slots id me 0 (λ n. either (eqb n ticket) ((ticket + 1) % 2 ^ 64) n) (at_draw_if ticket me)
  draws_if slots id me ticket idle s r many at small =
      let v : View X E R N = me.0 in
      let n : ℕ = get_or s.words 0 0 in
      let f : Bool → ℕ = λ t. either t ((ticket + 1) % 2 ^ 64) n in
      let drawn = draws slots id me idle s r many at small in
      ⊎_elim
      (λ (t : (eqb n ticket ≡ true) × (n ≡ ticket)). (
        drawn.0,
        drawn.1,
        drawn.2,
        subst (λ k. Rule (stepped s 0 k id me.1 drawn.0 drawn.1)) (sym (ap f t.0 ∙ ap (λ k. (k + 1) % 2 ^ 64) (sym t.1))) drawn.3,
        ((λ _. drawn.4), (λ no. absurd (no t.1))),
      ))
      (λ (t : (eqb n ticket ≡ false) × (n ≢ ticket)). (
        v,
        keeps,
        tt,
        subst Rule (λ i. record { words = sym (ap (λ k. set s.words 0 k) (ap f t.0) ∙ (ap (λ ws. set ws 0 (get_or ws 0 0)) r.words ∙ sym r.words)) i; homes = s.homes; views = sym (set_again s.views id v at) i }) r,
        ((λ e. absurd (t.1 e)), (λ _. refl)),
      ))
      (eqb_tells n ticket)

  -- where the ticket is served, the slot is at home
  home_is : (s : State (Option X) (View X E R N)) (r : Rule s) (id : ℕ) (v : View X E R N) (t : ℕ) → get_elem? s.views id ≡ some v → v.stage ≡ Waits t → length r.log ≡ t → s.homes ≡ some (Some r.due) ∷ []
  home_is s r id v t at waiting now = ⊎_elim (λ h. h) away r.placed
    where
      mine : pending (length r.log) v.stage ≡ 1
      mine = ap (pending (length r.log)) waiting ∙ (ap (same (length r.log)) (sym now) ∙ same_self (length r.log))

      away : (s.homes ≡ none ∷ []) × ((j : ℕ) × (u : View X E R N) × (get_elem? s.views j ≡ some u) × (u.stage ≡ InTurn (length r.log) r.due)) → s.homes ≡ some (Some r.due) ∷ []
      away h = let other = h.1 in dite (ℕ_discrete other.0 id)
          (λ (e : other.0 ≡ id).
          let both : some other.1 ≡ some v = sym other.2 ∙ (ap (get_elem? s.views) e ∙ at) in
          let zero_is_one : 0 ≡ 1 = sym (ap turned waiting) ∙ (sym (ap (λ (z : View X E R N). turned z.stage) (some-injective other.1 v both)) ∙ ap turned other.3) in absurd (omega arith))
          (λ (apart : other.0 ≢ id).
          let none' : pending (length r.log) other.1.stage ≡ 0 = alone s r (length r.log) id other.0 v other.1 (λ e. apart (sym e)) at other.2 mine in
          let one : pending (length r.log) other.1.stage ≡ 1 = ap (pending (length r.log)) other.3 ∙ same_self (length r.log) in absurd (omega arith))

  -- the seat takes its turn
  takes_turn : (s : State (Option X) (View X E R N)) (r : Rule s) (id : ℕ) (v : View X E R N) (t : ℕ) (c : List (ℕ × Option X)) → get_elem? s.views id ≡ some v → v.stage ≡ Waits t → length r.log ≡ t
      → Rule (stepped s 1 (get_or s.words 1 0) id c (staged v (InTurn t r.due)) (takes 0 (Some r.due)))
  takes_turn s r id v t c at waiting now =
      let w : View X E R N = staged v (InTurn t r.due) in
      let lives' : live w ≡ live v = sym (ap lives waiting) in record {
        log = r.log;
        due = r.due;
        next = r.next;
        words = ap (λ ws. set ws 1 (get_or ws 1 0)) r.words;
        runs = r.runs;
        placed = inr (ap (λ hs. set hs 0 none) (home_is s r id v t at waiting now), (id, w, set_here s.views id w (there s.views id v at), ap (λ k. InTurn k r.due) (sym now)));
        once = λ x.
            let moved : total (times_held x) (set s.views id w) + times_held x v ≡ total (times_held x) s.views + times_held x w = total_set (times_held x) s.views id v w at in
            let before : times_held x v ≡ times_in x (lists v) + same x t = ap (λ z. times_in x (lists v) + pending x z) waiting in
            let all : total (times_held x) s.views ≡ once_below x r.next = r.once x in omega arith;
        waiting = let moved : total busy (set s.views id w) + busy v ≡ total busy s.views + busy w = total_set busy s.views id v w at in
            let before : busy v ≡ 1 = ap waits waiting in let was : total busy s.views + length r.log ≡ r.next = r.waiting in omega arith;
        few = let moved : total live (set s.views id w) + live v ≡ total live s.views + live w = total_set live s.views id v w at in let few : total live s.views ≤ 17 = r.few in omega arith;
        counted = counted_set s.views id v w at lives' refl r.counted;
        each = each_set (IsViewAt r.log r.due r.next) s.views id w ((r.each id v at).0, (sym now, refl)) (λ j u apart e. r.each j u e);
        noted = each_set (λ (z : View X E R N). AllTrue says r.due z.notes) s.views id w (r.noted id v at) (λ j u _ e. r.noted j u e);
        begun = each_set (λ (z : View X E R N). live z ≡ 1 → z.first ≡ Some first) s.views id w (λ _. r.begun id v at (ap lives waiting)) (λ j u _ e. r.begun j u e);
        apart = apart_set s.views id v w at (λ k. refl) r.apart;
      }

  pub looks : (slots id : ℕ) (me : Seated X E R N) (t : ℕ) → me.0.stage ≡ Waits t → Allows Rule slots id me 1 (λ n. n) (at_look steps says me)
  looks slots id me t waiting s r _ at _ =
      let v : View X E R N = me.0 in
      let n : ℕ = get_or s.words 1 0 in
      let here : n ≡ length r.log % 2 ^ 64 = ap (λ ws. get_or ws 1 0) r.words in
      let fits : StageFits (length r.log) r.due r.next v (Waits t) = subst (StageFits (length r.log) r.due r.next v) waiting (r.each id v at).1 in
      let ticket : (t' : ℕ) → v.stage ≡ Waits t' → t ≡ t' = λ t' is. ap ticket_or (sym waiting ∙ is) in
      dite (ℕ_discrete n (t % 2 ^ 64))
      (λ (e : n ≡ t % 2 ^ 64).
      let now : length r.log ≡ t = served s r t fits.0 fits.1 (sym here ∙ e) in (
        staged v (InTurn t r.due),
        takes 0 (Some r.due),
        ap (λ hs. get_elem? hs 0) (home_is s r id v t at waiting now),
        takes_turn s r id v t me.1 at waiting now,
        (λ t' is. ((λ _. (r.due, ap (λ k. (staged v (InTurn k r.due), (0, Some r.due) ∷ me.1)) (ticket t' is), r.noted id v at, record { start = first; log = r.log; first_is = r.begun id v at (ap lives waiting); runs = r.runs })), (λ no. absurd (no (e ∙ ap (λ k. k % 2 ^ 64) (ticket t' is)))))),
      ))
      (λ (ne : n ≢ t % 2 ^ 64). (
        v,
        keeps,
        tt,
        subst Rule (λ i. record { words = sym (ap (λ ws. set ws 1 (get_or ws 1 0)) r.words ∙ sym r.words) i; homes = s.homes; views = sym (set_again s.views id v at) i }) r,
        (λ t' is. ((λ e. absurd (ne (e ∙ ap (λ k. k % 2 ^ 64) (sym (ticket t' is))))), (λ _. refl))),
      ))

  pub passes : (slots id : ℕ) (me : Seated X E R N) (t : ℕ) (x y : X) (e : E) (a : R) (old n : N) → me.0.stage ≡ InTurn t x → me.1 ≡ (0, Some y) ∷ [] → steps x e a y → me.0.notes ≡ old ∷ [] → part n ≡ part old → says y n
      → ((u : N) → part u ≢ part old → says x u → says y u) → Allows Rule slots id me 1 (λ n. (n + 1) % 2 ^ 64) (at_pass e a n me)
  passes slots id me t x y e a old n turn carried did had same_part true_then others s r _ at _ =
      let v : View X E R N = me.0 in
      let mine : StageFits (length r.log) r.due r.next v (InTurn t x) = subst (StageFits (length r.log) r.due r.next v) turn (r.each id v at).1 in
      let new : Ticketed E R = ticketed t e a in
      let w : View X E R N = with_ticketed v new n in
      let parts_then : (k : ℕ) → about part k w ≡ about part k v = λ k. ap (λ p. same k p + 0) same_part ∙ sym (ap (notes_about part k) had) in
      let one_part : about part (part old) v ≡ 1 = ap (notes_about part (part old)) had ∙ ap (λ z. z + 0) (same_self (part old)) in
      let longer : length (r.log ++ new ∷ []) ≡ length r.log + 1 = length-append r.log (new ∷ []) in
      let held : pending (length r.log) v.stage ≡ 1 = ap (pending (length r.log)) turn ∙ (ap (same (length r.log)) mine.0 ∙ same_self (length r.log)) in (
        w,
        gives,
        tt,
        record {
          log = r.log ++ new ∷ [];
          due = y;
          next = r.next;
          words = ap (λ ws. set ws 1 ((get_or ws 1 0 + 1) % 2 ^ 64)) r.words ∙ ap (λ k. (r.next % 2 ^ 64) ∷ k ∷ []) (mod-add-mod (length r.log) (2 ^ 64) 1 ∙ ap (λ k. k % 2 ^ 64) (sym longer));
          runs = runs_on steps first r.log r.due y new r.runs (subst (λ z. steps z e a y) mine.1 did);
          placed = inl (ap (put_back s.homes) carried ∙ put_home (length r.log) r.due y s.homes s.views r.placed);
          once = λ k.
              let moved : total (times_held k) (set s.views id w) + times_held k v ≡ total (times_held k) s.views + times_held k w = total_set (times_held k) s.views id v w at in
              let before : times_held k v ≡ times_in k (lists v) + same k t = ap (λ z. times_in k (lists v) + pending k z) turn in
              let more : times k (v.mine ++ new ∷ []) ≡ times k v.mine + times k (new ∷ []) = total_append (λ (d : Ticketed E R). same k d.ticket) v.mine (new ∷ []) in
              let all : total (times_held k) s.views ≡ once_below k r.next = r.once k in omega arith;
          waiting = let moved : total busy (set s.views id w) + busy v ≡ total busy s.views + busy w = total_set busy s.views id v w at in
              let before : busy v ≡ 1 = ap waits turn in let was : total busy s.views + length r.log ≡ r.next = r.waiting in omega arith;
          few = let moved : total live (set s.views id w) + live v ≡ total live s.views + live w = total_set live s.views id v w at in let before : live v ≡ 1 = ap lives turn in let few : total live s.views ≤ 17 = r.few in omega arith;
          counted = counted_set s.views id v w at (sym (ap lives turn)) refl r.counted;
          each = each_set (IsViewAt (r.log ++ new ∷ []) y r.next) s.views id w
              ((in_pushed r.log 0 v.mine new (omega arith) mine.0 (r.each id v at).0.0, all_in_longer r.log (new ∷ []) v.joined (r.each id v at).0.1), tt)
              (λ j u apart is. (
                all_in_longer r.log (new ∷ []) (lists u) (r.each j u is).0,
                subst (λ k. StageFits k y r.next u u.stage) (sym longer)
                    (fits_passed (length r.log) r.due y r.next u u.stage (alone s r (length r.log) id j v u (λ k. apart (sym k)) at is held) (r.each j u is).1),
              ));
          noted = each_set (λ (z : View X E R N). AllTrue says y z.notes) s.views id w (true_then, tt)
              (λ j u apart is.
              let two : about part (part old) v + about part (part old) u ≤ total (about part (part old)) s.views = total_two (about part (part old)) s.views id j v u (λ k. apart (sym k)) at is in
              let most : total (about part (part old)) s.views ≤ 1 = r.apart (part old) in
              let before : AllTrue says x u.notes = subst (λ z. AllTrue says z u.notes) (sym mine.1) (r.noted j u is) in
              true_after says part (part old) x y u.notes (omega arith) others before);
          apart = apart_set s.views id v w at parts_then r.apart;
          begun = each_set (λ (z : View X E R N). live z ≡ 1 → z.first ≡ Some first) s.views id w (λ _. r.begun id v at (ap lives turn)) (λ j u _ e. r.begun j u e);
        },
        (λ t' x' is. λ i. (with_ticketed v (ticketed (ap ticket_or (sym turn ∙ is) i) e a) n, ap rest carried i)),
      )

  pub begins : (ns : List N) → AllTrue says first ns → ((k : ℕ) → notes_about part k ns ≤ 1) → Rule (opening (0 ∷ 0 ∷ []) (Some first ∷ []) (first_view first ns))
  begins ns true_now apart = record {
    log = [];
    due = first;
    next = 0;
    words = refl;
    runs = refl;
    placed = inl refl;
    once = λ x. grind (arith, nat_tests);
    waiting = refl;
    few = omega arith;
    counted = λ v e. ap (λ (z : View X E R N). z.seats) (sym (some-injective (first_view first ns) v e));
    each = one ns;
    noted = two ns true_now;
    begun = three ns;
    apart = λ k. let most : notes_about part k ns ≤ 1 = apart k in omega arith;
  }
    where
      one : (ns : List N) (j : ℕ) (v : View X E R N) → get_elem? (first_view first ns ∷ []) j ≡ some v → IsViewAt [] first 0 v
      one ns zero v e = subst (IsViewAt [] first 0) (some-injective (first_view first ns) v e) ((tt, tt), tt)
      one ns (suc j) v e = absurd (some-ne-none v (sym e))

      two : (ns : List N) → AllTrue says first ns → (j : ℕ) (v : View X E R N) → get_elem? (first_view first ns ∷ []) j ≡ some v → AllTrue says first v.notes
      two ns true_now zero v e = subst (λ (z : View X E R N). AllTrue says first z.notes) (some-injective (first_view first ns) v e) true_now
      two ns true_now (suc j) v e = absurd (some-ne-none v (sym e))

      three : (ns : List N) (j : ℕ) (v : View X E R N) → get_elem? (first_view first ns ∷ []) j ≡ some v → live v ≡ 1 → v.first ≡ Some first
      three ns zero v e _ = ap (λ (z : View X E R N). z.first) (sym (some-injective (first_view first ns) v e))
      three ns (suc j) v e _ = absurd (some-ne-none v (sym e))

  pub splits : (v : View X E R N) → v.stage ≡ Idle → v.seats < 17 → Splits Rule 0 v (with_one_more v) (new_view v)
  splits v idle room s r at =
      let w : View X E R N = with_one_more v in
      let new : View X E R N = new_view v in
      let all : v.seats ≡ total live s.views = r.counted v at in
      let inside : 0 < length s.views = there s.views 0 v at in
      let grown : total live (set s.views 0 w ++ new ∷ []) ≡ total live s.views + 1 =
      (let moved : total live (set s.views 0 w) + live v ≡ total live s.views + live w = total_set live s.views 0 v w at in
      let pushed : total live (set s.views 0 w ++ new ∷ []) ≡ total live (set s.views 0 w) + 1 = total_push live (set s.views 0 w) new in omega arith) in record {
        log = r.log;
        due = r.due;
        next = r.next;
        words = r.words;
        runs = r.runs;
        placed = placed_push (length r.log) r.due s.homes (set s.views 0 w) new (placed_set (length r.log) r.due s.homes s.views 0 v w at (ap turned idle) r.placed);
        once = λ x.
            let moved : total (times_held x) (set s.views 0 w) + times_held x v ≡ total (times_held x) s.views + times_held x w = total_set (times_held x) s.views 0 v w at in
            let pushed : total (times_held x) (set s.views 0 w ++ new ∷ []) ≡ total (times_held x) (set s.views 0 w) + 0 = total_push (times_held x) (set s.views 0 w) new in
            let all : total (times_held x) s.views ≡ once_below x r.next = r.once x in omega arith;
        waiting =
            let moved : total busy (set s.views 0 w) + busy v ≡ total busy s.views + busy w = total_set busy s.views 0 v w at in
            let pushed : total busy (set s.views 0 w ++ new ∷ []) ≡ total busy (set s.views 0 w) + 0 = total_push busy (set s.views 0 w) new in
            let was : total busy s.views + length r.log ≡ r.next = r.waiting in omega arith;
        few = omega arith;
        counted = λ u e.
            let here : get_elem? (set s.views 0 w ++ new ∷ []) 0 ≡ some w = at_longer (set s.views 0 w) (new ∷ []) 0 w (set_here s.views 0 w inside) in
            let is : w ≡ u = some-injective w u (sym here ∙ e) in
            sym (ap (λ (z : View X E R N). z.seats) is) ∙ (ap (λ k. k + 1) all ∙ sym grown);
        each = λ j u e. ⊎_elim
            (each_set (IsViewAt r.log r.due r.next) s.views 0 w (r.each 0 v at) (λ i z apart is. r.each i z is) j u)
            (λ (is : new ≡ u). subst (IsViewAt r.log r.due r.next) is ((tt, tt), tt))
            (at_snoc (set s.views 0 w) new u j e);
        noted = λ j u e. ⊎_elim
            (each_set (λ (z : View X E R N). AllTrue says r.due z.notes) s.views 0 w (true_kept says r.due v.notes (r.noted 0 v at)) (λ i z _ is. r.noted i z is) j u)
            (λ (is : new ≡ u). subst (λ (z : View X E R N). AllTrue says r.due z.notes) is (true_given says r.due v.notes (r.noted 0 v at)))
            (at_snoc (set s.views 0 w) new u j e);
        begun = λ j u e. ⊎_elim
            (each_set (λ (z : View X E R N). live z ≡ 1 → z.first ≡ Some first) s.views 0 w (λ _. r.begun 0 v at (ap lives idle)) (λ i z _ is. r.begun i z is) j u)
            (λ (is : new ≡ u) _. ap (λ (z : View X E R N). z.first) (sym is) ∙ r.begun 0 v at (ap lives idle))
            (at_snoc (set s.views 0 w) new u j e);
        apart = λ k.
            let moved : total (about part k) (set s.views 0 w) + about part k v ≡ total (about part k) s.views + about part k w = total_set (about part k) s.views 0 v w at in
            let pushed : total (about part k) (set s.views 0 w ++ new ∷ []) ≡ total (about part k) (set s.views 0 w) + about part k new = total_push (about part k) (set s.views 0 w) new in
            let cut : notes_about part k (without_second v.notes) + notes_about part k (second_alone v.notes) ≡ notes_about part k v.notes = parts_given part k v.notes in
            let most : total (about part k) s.views ≤ 1 = r.apart k in omega arith;
      }

  pub joins : (v : View X E R N) (other : ℕ) (u : View X E R N) → v.stage ≡ Idle → u.stage ≡ Idle → Joins Rule 0 v other u (joined_view v u) spent_view
  joins v other u idle idle' s r at apart at' =
      let w : View X E R N = joined_view v u in
      let vs : List (View X E R N) = s.views in
      let ws : List (View X E R N) = set vs 0 w in
      let at_u : get_elem? vs other ≡ some u = sym (set_else vs 0 other w apart) ∙ at' in
      let inside : 0 < length vs = there vs 0 v at in
      let all : v.seats ≡ total live vs = r.counted v at in
      let one : live v ≡ 1 = ap lives idle in
      let one' : live u ≡ 1 = ap lives idle' in
      let moved : total live ws + live v ≡ total live vs + live w = total_set live vs 0 v w at in
      let gone : total live (set ws other spent_view) + live u ≡ total live ws + 0 = total_set live ws other u spent_view at' in
      let fewer : total live (set ws other spent_view) + 1 ≡ total live vs = omega arith in record {
        log = r.log;
        due = r.due;
        next = r.next;
        words = r.words;
        runs = r.runs;
        placed = placed_set (length r.log) r.due s.homes ws other u spent_view at' (ap turned idle') (placed_set (length r.log) r.due s.homes vs 0 v w at (ap turned idle) r.placed);
        once = λ x.
            let moved : total (times_held x) ws + times_held x v ≡ total (times_held x) vs + times_held x w = total_set (times_held x) vs 0 v w at in
            let gone : total (times_held x) (set ws other spent_view) + times_held x u ≡ total (times_held x) ws + 0 = total_set (times_held x) ws other u spent_view at' in
            let none' : pending x u.stage ≡ 0 = ap (pending x) idle' in
            let both : times_in x (u.joined ++ v.joined) ≡ times_in x u.joined + times_in x v.joined = total_append (times x) u.joined v.joined in
            let all : total (times_held x) vs ≡ once_below x r.next = r.once x in omega arith;
        waiting =
            let moved : total busy ws + busy v ≡ total busy vs + busy w = total_set busy vs 0 v w at in
            let gone : total busy (set ws other spent_view) + busy u ≡ total busy ws + 0 = total_set busy ws other u spent_view at' in
            let none' : busy u ≡ 0 = ap waits idle' in
            let was : total busy vs + length r.log ≡ r.next = r.waiting in omega arith;
        few = let few : total live vs ≤ 17 = r.few in omega arith;
        counted = λ z e.
            let here : get_elem? (set ws other spent_view) 0 ≡ some w = set_else ws other 0 spent_view (λ k. apart (sym k)) ∙ set_here vs 0 w inside in
            let is : w ≡ z = some-injective w z (sym here ∙ e) in
            let fit : v.seats - 1 ≡ total live (set ws other spent_view) = omega arith in
            sym (ap (λ (q : View X E R N). q.seats) is) ∙ fit;
        each = each_set (IsViewAt r.log r.due r.next) ws other spent_view ((tt, tt), (refl, refl))
            (λ j z _ e. each_set (IsViewAt r.log r.due r.next) vs 0 w (
              (
                (r.each 0 v at).0.0,
                ((r.each other u at_u).0.0, all_appended r.log u.joined v.joined (r.each other u at_u).0.1 (r.each 0 v at).0.1),
              ),
              subst (StageFits (length r.log) r.due r.next w) (sym idle) tt,
            )
            (λ i y _ is. r.each i y is) j z e);
        noted = each_set (λ (q : View X E R N). AllTrue says r.due q.notes) ws other spent_view tt
            (λ j z _ e. each_set (λ (q : View X E R N). AllTrue says r.due q.notes) vs 0 w (true_append says r.due v.notes u.notes (r.noted 0 v at) (r.noted other u at_u)) (λ i y _ is. r.noted i y is) j z e);
        begun = each_set (λ (z : View X E R N). live z ≡ 1 → z.first ≡ Some first) ws other spent_view (λ one_is. absurd (omega arith))
            (λ j z _ e. each_set (λ (z : View X E R N). live z ≡ 1 → z.first ≡ Some first) vs 0 w (λ _. r.begun 0 v at one) (λ i y _ is. r.begun i y is) j z e);
        apart = λ k.
            let moved : total (about part k) ws + about part k v ≡ total (about part k) vs + about part k w = total_set (about part k) vs 0 v w at in
            let gone : total (about part k) (set ws other spent_view) + about part k u ≡ total (about part k) ws + 0 = total_set (about part k) ws other u spent_view at' in
            let both : notes_about part k (v.notes ++ u.notes) ≡ notes_about part k v.notes + notes_about part k u.notes = parts_append part k v.notes u.notes in
            let most : total (about part k) vs ≤ 1 = r.apart k in omega arith;
      }

  turned_le : (st : SeatStage X) → turned st ≤ lives st
  turned_le Spent = omega arith
  turned_le Idle = omega arith
  turned_le (Waits t) = omega arith
  turned_le (InTurn t x) = omega arith

  last_home : (s : State (Option X) (View X E R N)) (r : Rule s) (v : View X E R N) → get_elem? s.views 0 ≡ some v → v.stage ≡ Idle → total live s.views ≡ live v → s.homes ≡ some (Some r.due) ∷ []
  last_home s r v at idle whole = ⊎_elim (λ h. h) (λ h.
      let other = h.1 in
      let none' : total (λ (z : View X E R N). turned z.stage) s.views ≡ turned v.stage = total_only (λ (z : View X E R N). turned z.stage) live s.views 0 v
      (λ j u _ z. let below : turned u.stage ≤ lives u.stage = turned_le u.stage in omega arith) at whole in
      let off : turned v.stage ≡ 0 = ap turned idle in
      let on : turned other.1.stage ≡ 1 = ap turned other.3 in
      let some_one : turned other.1.stage ≤ total (λ (z : View X E R N). turned z.stage) s.views = total_one (λ (z : View X E R N). turned z.stage) s.views other.0 other.1 other.2 in absurd (omega arith)) r.placed

  -- when the mover alone is left, its lists are one run, and the state after it is at home
  pub ends : (s : State (Option X) (View X E R N)) (v : View X E R N) → Seen Rule 0 v s → v.stage ≡ Idle → v.seats ≡ 1 → (y : X) × (get_elem? s.homes 0 ≡ some (some (Some y))) × OneRun steps first (lists v) y
  ends s v seen idle last =
      let r : Rule s = seen.0 in
      let at = seen.1 in
      let one : live v ≡ 1 = ap lives idle in
      let whole : total live s.views ≡ live v = sym (r.counted v at) ∙ (last ∙ sym one) in
      let alone' : total busy s.views ≡ busy v = total_only busy live s.views 0 v (λ j u _ z. idle_spent u.stage z) at whole in
      let none' : busy v ≡ 0 = ap waits idle in
      let served' : length r.log ≡ r.next = (let was : total busy s.views + length r.log ≡ r.next = r.waiting in omega arith) in (
        r.due,
        ap (λ hs. get_elem? hs 0) (last_home s r v at idle whole),
        record {
          log = r.log;
          runs = r.runs;
          once = λ x.
              let only : total (times_held x) s.views ≡ times_held x v = total_only (times_held x) live s.views 0 v (λ j u e z. none_spent (length r.log) r.due r.next x u u.stage refl z (r.each j u e).1) at whole in
              let no : pending x v.stage ≡ 0 = ap (pending x) idle in
              let all : total (times_held x) s.views ≡ once_below x r.next = r.once x in
              let same_end : once_below x (length r.log) ≡ once_below x r.next = ap (once_below x) served' in omega arith;
          in_order = (r.each 0 v at).0;
        },
      )
    where
      idle_spent : (st : SeatStage X) → lives st ≡ 0 → waits st ≡ 0
      idle_spent st z = let below : waits st ≤ lives st = waits_le st in omega arith

  -- the same, at what a call of the mover's or the maker's has
  pub begins_as : (ns : List N) (xs : List (Option X)) → AllTrue says first ns → ((k : ℕ) → notes_about part k ns ≤ 1) → xs ≡ Some first ∷ [] → Rule (opening (0 ∷ 0 ∷ []) xs (first_view first ns))
  begins_as ns xs true_now apart is = subst (λ ys. Rule (opening (0 ∷ 0 ∷ []) ys (first_view first ns))) (sym is) (begins ns true_now apart)

  pub splits_as : (id : ℕ) (v : View X E R N) → id ≡ 0 → v.stage ≡ Idle → v.seats < 17 → Splits Rule id v (with_one_more v) (new_view v)
  splits_as id v is idle room = subst (λ i. Splits Rule i v (with_one_more v) (new_view v)) (sym is) (splits v idle room)

  pub joins_as : (id : ℕ) (v : View X E R N) (other : ℕ) (u : View X E R N) → id ≡ 0 → v.stage ≡ Idle → u.stage ≡ Idle → Joins Rule id v other u (joined_view v u) spent_view
  joins_as id v other u is idle idle' = subst (λ i. Joins Rule i v other u (joined_view v u) spent_view) (sym is) (joins v other u idle idle')

  -- what is taken out of the slot at the end is a state
  pub ends_with : (id : ℕ) (v : View X E R N) (ws : List ℕ) (xs : List (Option X)) (o : Option X) → id ≡ 0 → v.stage ≡ Idle → v.seats ≡ 1
      → Final (Seen Rule id v) ws xs → get_elem? xs 0 ≡ some o → IsSome o
  ends_with id v ws xs o is idle last final got =
      let s = final.0 in
      let seen : Seen Rule 0 v s = subst (λ i. Seen Rule i v s) is final.1 in
      let e = ends s v seen idle last in
      let both : Some e.0 ≡ o = some-injective (Some e.0) o (sym (final.4 0 (Some e.0) e.1) ∙ got) in
      subst IsSome both refl

  -- what is taken out of the slot at the end
  pub ends_as : (id : ℕ) (v : View X E R N) (ws : List ℕ) (xs : List (Option X)) (y : X) (ls : List (List (Ticketed E R))) → id ≡ 0 → v.stage ≡ Idle → v.seats ≡ 1 → lists v ≡ ls
      → Final (Seen Rule id v) ws xs → get_elem? xs 0 ≡ some (Some y) → OneRun steps first ls y
  ends_as id v ws xs y ls is idle last all final got =
      let s = final.0 in
      let seen : Seen Rule 0 v s = subst (λ i. Seen Rule i v s) is final.1 in
      let e = ends s v seen idle last in
      let both : Some e.0 ≡ Some y = some-injective (Some e.0) (Some y) (sym (final.4 0 (Some e.0) e.1) ∙ got) in
      let same_state : e.0 ≡ y = cc in
      subst (λ z. OneRun steps first ls z) same_state (subst (λ l. OneRun steps first l e.0) all e.2)

  -- and what the mover notes, with what it took in, is true of it
  pub ends_noted : (id : ℕ) (v : View X E R N) (ws : List ℕ) (xs : List (Option X)) (y : X) → id ≡ 0 → v.stage ≡ Idle → v.seats ≡ 1
      → Final (Seen Rule id v) ws xs → get_elem? xs 0 ≡ some (Some y) → AllTrue says y v.notes
  ends_noted id v ws xs y is idle last final got =
      let s = final.0 in
      let seen : Seen Rule 0 v s = subst (λ i. Seen Rule i v s) is final.1 in
      let r : Rule s = seen.0 in
      let home : s.homes ≡ some (Some r.due) ∷ [] = last_home s r v seen.1 idle (sym (r.counted v seen.1) ∙ (last ∙ sym (ap lives idle))) in
      let both : Some r.due ≡ Some y = some-injective (Some r.due) (Some y) (sym (final.4 0 (Some r.due) (ap (λ hs. get_elem? hs 0) home)) ∙ got) in
      let same_state : r.due ≡ y = cc in
      subst (λ z. AllTrue says z v.notes) same_state (r.noted 0 v seen.1)
