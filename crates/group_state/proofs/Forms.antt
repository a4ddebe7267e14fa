-- A form: its cut is the least of its limit and all live floors, the state then follows the longer history, and what it shows is
-- the history's group.
use Rattle.std.proofs.Common.{◌≡◌, ℕ, zero, suc, ◌+◌, ◌<◌, ◌≤◌, min, Bool, true, false, not, cond, nat_lt, nat_le, ◌&&◌, ◌||◌, List, [], ◌∷◌, ◌++◌, length, get_or, take, map, Some, None, refl, sym, ap, subst, ◌∙◌, arith}
use Rattle.std.specs.Prelude.{◌==◌, filter, fold}
use Rattle.std.specs.List.{flat_map, range_with_len}
use Rattle.std.proofs.lemmas.List.{take_more, take_all, get_or-map, length-map, map-append}
use Rattle.std.proofs.lemmas.List.Sums.{fold_push}
use Rattle.tod_stamp.specs.declared.stamp.Stamp.{Stamp}
use Rattle.cut_core.specs.Events.{Event, floor, is_broken_after, is_done, is_live}
use Rattle.cut_core.specs.Events.Event.{Form}
use Rattle.cut_core.specs.Shares.{Share, share_by}
use Rattle.cut_core.specs.Groups.{CarriedEntry, waiting_in, group}
use Rattle.cut_core.specs.LegalHistories.{is_legal_next, least_floor}
use Rattle.cut_core.proofs.Filters.{all_filter}
use Rattle.cut_core.proofs.Ends.{cut_snoc, done_form, breaks_at}
use Rattle.cut_core.proofs.Legality.{legal_snoc}
use Rattle.cut_core.proofs.Kept.{legal_kept}
use Rattle.cut_core.proofs.Least.{least_is_legal}
use Rattle.group_state.specs.declared.phase.Phase.{Phase}
use Rattle.group_state.specs.declared.phase.Phase.TheVariants.{Unbroken, Broken, Reported}
use Rattle.group_state.specs.Controls.{ControlState, new_control, counts, is_reporting, lesser, formed, due_of, reported_cause, reported, reported_break}
use Rattle.group_state.specs.Groups.{Group, control_at, cut_of, formed_at, shown_at}
use Rattle.group_state.specs.SoundStates.{Sound}
use Rattle.group_state.proofs.FormLaws.{sound_formed}
use Rattle.cut_core.specs.Fates.{is_of_control}
use Rattle.group_state.specs.Histories.{AreSeen, IsControlOf}
use Rattle.group_state.specs.HistoryLaws.{ends_with_form, named, break_at_floor, IsGroupOf}
use Rattle.group_state.proofs.Seen.{seen_order}
use Rattle.group_state.proofs.ByControl.{by_control, order_by_control, due_seen}
use Rattle.group_state.proofs.Told.{at_cut}
use Rattle.group_state.proofs.Elsewhere.{share_snoc}
use Rattle.group_state.proofs.Controls.{control_formed}
use Rattle.group_state.proofs.Stands.{are_below, Stands, below_next}

-- ---- the cut

lesser_is : (k n cut low : ℕ) (past : List Event) (c : ControlState) → IsControlOf k past c → cut ≡ low → lesser cut c ≡ cond (is_live k past) (min (floor k past) low) low
lesser_is k n cut low past c h is = rw (h.live, h.told) (choose (is_live k past))
  where
    choose : (t : Bool) → cond t (min cut (floor k past)) cut ≡ cond t (min (floor k past) low) low
    choose true = omega arith
    choose false = is

least_of : (n limit m : ℕ) (past : List Event) (s : Group) → Stands n past s → m ≤ n → fold lesser limit (take m s.controls) ≡ least_floor m limit past
least_of n limit zero past s h le = refl
least_of n limit (suc m) past s h le =
    let rest = least_of n limit m past s h (omega arith) in
    let up : suc m ≡ m + 1 = omega arith in
    let more : take (suc m) s.controls ≡ take m s.controls ++ control_at s m ∷ [] = ap (λ k. take k s.controls) up ∙ take_more s.controls m (new_control 0 0 0) (omega (arith, h.follows.count)) in
    ap (fold lesser limit) more ∙ fold_push lesser limit (take m s.controls) (control_at s m)
    ∙ lesser_is m n (fold lesser limit (take m s.controls)) (least_floor m limit past) past (control_at s m) (h.follows.each m (omega arith)) rest

pub cut_is : (n : ℕ) (past : List Event) (s : Group) (limit : Stamp) → Stands n past s → (cut_of s limit).0 ≡ least_floor n limit.0 past
cut_is n past s limit h = ap (fold lesser limit.0) (sym (take_all n s.controls (omega (arith, h.follows.count)))) ∙ least_of n limit.0 n past s h (omega arith)

-- ---- the state after it

formed_control : (n : ℕ) (past : List Event) (s : Group) (cut : Stamp) (k : ℕ) → Stands n past s → k < n → control_at (formed_at cut s) k ≡ formed cut (control_at s k)
formed_control n past s cut k h lt = get_or-map (formed cut) s.controls k (new_control 0 0 0) (new_control 0 0 0) (omega (arith, lt, h.follows.count))

pub stands_formed : (n : ℕ) (past : List Event) (s : Group) (limit : Stamp) → Stands n past s → s.last.0 ≤ limit.0 → Stands n (past ++ Form (cut_of s limit).0 ∷ []) (formed_at (cut_of s limit) s)
stands_formed n past s limit h le =
    let cut = cut_of s limit in
    let x = Form cut.0 in
    let legal : is_legal_next n past x ≡ true = subst (λ c. is_legal_next n past (Form c) ≡ true) (sym (cut_is n past s limit h)) (least_is_legal n limit.0 past h.follows.legal (omega (arith, le, h.follows.last))) in
    let kept = legal_kept n past h.follows.legal in
    record {
      follows = record {
        legal = legal_snoc n [] past x h.follows.legal legal;
        count = length-map s.controls (formed cut) ∙ h.follows.count;
        last = sym (cut_snoc past x);
        each = λ k lt. subst (IsControlOf k (past ++ x ∷ [])) (sym (formed_control n past s cut k h lt)) (control_formed k past cut (control_at s k) (kept.breaks k) (h.follows.each k lt));
      };
      numbers = λ k lt. ap (λ (c : ControlState). c.queue.control) (formed_control n past s cut k h lt) ∙ h.numbers k lt;
      sound = λ k lt. subst Sound (sym (formed_control n past s cut k h lt)) (sound_formed cut (control_at s k) (h.sound k lt));
      below = below_next n past x h.below refl;
      beyond = λ k v y le. share_snoc k v y past x ∙ ap (λ (t : Share). share_by k v y t x) (h.beyond k v y le);
    }

-- ---- what it shows

entries_shown : (n : ℕ) (past : List Event) (s : Group) (cut : Stamp) → Stands n past s → AreSeen (shown_at cut s).entries (group past cut.0)
entries_shown n past s cut h =
    let entries = waiting_in [] past in
    let due = filter (λ (e : CarriedEntry). nat_le e.stamp cut.0) entries in
    let seen : AreSeen (flat_map (due_of cut) s.controls) (by_control 0 (length s.controls) due) = due_seen cut entries 0 s.controls (new_control 0 0 0)
    (λ i lt. subst (λ k. AreSeen (control_at s i).queue.waiting (filter (is_of_control k) entries)) (omega arith) (h.follows.each i (omega (arith, lt, h.follows.count))).waiting) in
    let below : are_below (length s.controls) due ≡ true = all_filter (λ (e : CarriedEntry). nat_lt e.control (length s.controls)) (λ (e : CarriedEntry). nat_le e.stamp cut.0) entries (ap (λ m. are_below m entries) h.follows.count ∙ h.below) in
    subst (AreSeen (shown_at cut s).entries) (order_by_control (length s.controls) due below)
    (seen_order (flat_map (due_of cut) s.controls) (by_control 0 (length s.controls) due) seen)

-- the break of one controller
break_is : (k : ℕ) (past : List Event) (cut : Stamp) (c : ControlState) → c.queue.control ≡ k → breaks_at k (floor k past) past ≡ true → IsControlOf k past c
    → map named (reported_break cut c) ≡ map (break_at_floor past) (filter (ends_with_form cut.0 past) (k ∷ []))
break_is k past cut c number breaks h =
    rw (done_form k (floor k past) cut.0 past breaks) (by_phase c.phase (is_done k past) (is_broken_after k past) (cut.0 == floor k past) (c.floor.0 == cut.0) (at_cut c.floor.0 cut.0 (floor k past) h.told) refl h.reporting h.live)
  where
    by_phase : (phase : Phase) (d b same at : Bool) → at ≡ same → (c.floor.0 == cut.0) ≡ at → is_reporting phase ≡ not b → counts phase ≡ not d
        → map named (reported c.queue.control c.floor (reported_cause cut c.floor phase)) ≡ map (break_at_floor past) (cond (not d && not (not (d || (b && same)))) (k ∷ []) [])
    by_phase Unbroken d b same at is here reporting live = none d b reporting live
      where
        none : (d b : Bool) → true ≡ not b → true ≡ not d → map named [] ≡ map (break_at_floor past) (cond (not d && not (not (d || (b && same)))) (k ∷ []) [])
        none false false e f = refl
        none d true e f = absurd cc
        none true false e f = absurd cc
    by_phase Reported d b same at is here reporting live = none d live
      where
        none : (d : Bool) → false ≡ not d → map named [] ≡ map (break_at_floor past) (cond (not d && not (not (d || (b && same)))) (k ∷ []) [])
        none true e = refl
        none false e = absurd cc
    by_phase (Broken cause) d b same at is here reporting live = rw (here, is) (one d b same reporting live)
      where
        one : (d b same : Bool) → false ≡ not b → true ≡ not d
            → map named (reported c.queue.control c.floor (cond same (Some cause) None)) ≡ map (break_at_floor past) (cond (not d && not (not (d || (b && same)))) (k ∷ []) [])
        one false true true e f = rw (number, h.told) refl
        one false true false e f = refl
        one d false same e f = absurd cc
        one true true same e f = absurd cc

breaks_shown : (past : List Event) (cut : Stamp) (first : ℕ) (controls : List ControlState) (d : ControlState)
    → ((i : ℕ) → i < length controls → map named (reported_break cut (get_or controls i d)) ≡ map (break_at_floor past) (filter (ends_with_form cut.0 past) ((first + i) ∷ [])))
    → map named (flat_map (reported_break cut) controls) ≡ map (break_at_floor past) (filter (ends_with_form cut.0 past) (range_with_len first (length controls)))
breaks_shown past cut first [] d each = refl
breaks_shown past cut first (c ∷ controls) d each =
    let here : map named (reported_break cut c) ≡ map (break_at_floor past) (filter (ends_with_form cut.0 past) (first ∷ [])) =
    subst (λ k. map named (reported_break cut c) ≡ map (break_at_floor past) (filter (ends_with_form cut.0 past) (k ∷ []))) (omega arith) (each 0 (omega arith)) in
    let rest = breaks_shown past cut (first + 1) controls d
    (λ i lt. subst (λ k. map named (reported_break cut (get_or controls i d)) ≡ map (break_at_floor past) (filter (ends_with_form cut.0 past) (k ∷ []))) (omega arith) (each (suc i) (omega arith))) in
    map-append named (reported_break cut c) (flat_map (reported_break cut) controls) ∙ rw (here, rest) (both (ends_with_form cut.0 past first) (filter (ends_with_form cut.0 past) (range_with_len (first + 1) (length controls))))
  where
    both : (t : Bool) (ks : List ℕ) → map (break_at_floor past) (cond t (first ∷ []) []) ++ map (break_at_floor past) ks ≡ map (break_at_floor past) (cond t (first ∷ ks) ks)
    both true ks = refl
    both false ks = refl

pub shows_group : (n : ℕ) (past : List Event) (s : Group) (limit : Stamp) → Stands n past s → IsGroupOf n limit past (shown_at (cut_of s limit) s)
shows_group n past s limit h =
    let cut = cut_of s limit in
    let kept = legal_kept n past h.follows.legal in
    let breaks = breaks_shown past cut 0 s.controls (new_control 0 0 0) (λ i lt.
    let below : i < n = omega (arith, lt, h.follows.count) in
    subst (λ k. map named (reported_break cut (control_at s i)) ≡ map (break_at_floor past) (filter (ends_with_form cut.0 past) (k ∷ []))) (omega arith)
    (break_is i past cut (control_at s i) (h.numbers i below) (kept.breaks i) (h.follows.each i below))) in
    record {
      cut = cut_is n past s limit h;
      entries = entries_shown n past s cut h;
      breaks = breaks ∙ ap (λ m. map (break_at_floor past) (filter (ends_with_form cut.0 past) (range_with_len 0 m))) h.follows.count;
    }
