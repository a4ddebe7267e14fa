-- What one more event makes of a controller's floor and phase, and of what waits of the controller.
use Rattle.std.proofs.Common.{inl, inr, ◌≡◌, ℕ, ◌≤◌, Bool, true, false, not, cond, nat_eq, ◌&&◌, ◌||◌, List, [], ◌∷◌, ◌++◌, refl, sym, ap, subst, ◌∙◌, append-nil, arith}
use Rattle.std.specs.Prelude.{◌==◌, filter}
use Rattle.std.proofs.Math.Bool.{or-false}
use Rattle.std.proofs.lemmas.Bool.{eqb-true, eq-eqb, cases_Bool, ne_eqb, eqb-false}
use Rattle.std.proofs.lemmas.List.Elements.{filter-append}
use Rattle.tod_stamp.specs.declared.stamp.Stamp.{Stamp}
use Rattle.pending_queue.specs.Entries.{WaitingEntry}
use Rattle.cut_core.specs.Events.{Event, reported_upto, floor, is_break_of, is_broken_after, is_form_at, is_done, is_live}
use Rattle.cut_core.specs.Events.Event.{Form}
use Rattle.cut_core.specs.Groups.{CarriedEntry, carried_by, waiting_in}
use Rattle.cut_core.specs.Fates.{is_of_control}
use Rattle.cut_core.proofs.Filters.{filter_swap}
use Rattle.cut_core.proofs.Ends.{floor_snoc, broken_snoc, done_stays, done_form, not_done, breaks_at, stays, waiting_snoc}
use Rattle.group_state.specs.declared.phase.Phase.{Phase}
use Rattle.group_state.specs.declared.phase.Phase.TheVariants.{Unbroken, Broken, Reported}
use Rattle.group_state.specs.Controls.{is_reporting, counts, phase_after}
use Rattle.group_state.specs.Histories.{AreSeen}
use Rattle.group_state.proofs.Seen.{seen_append}

-- ---- floor and phase

pub record IsTold (k : ℕ) (past : List Event) (time : Stamp) (phase : Phase) : Type 0 where
  pub told : time.0 ≡ floor k past
  pub reporting : is_reporting phase ≡ not (is_broken_after k past)
  pub live : counts phase ≡ is_live k past

-- an event by which a controller reports nothing
pub record IsQuiet (k : ℕ) (x : Event) : Type 0 where
  pub form : (c : ℕ) → is_form_at c x ≡ false
  pub break : is_break_of k x ≡ false
  pub told : reported_upto k x ≡ 0

pub told_quiet : (k : ℕ) (past : List Event) (x : Event) (time : Stamp) (phase : Phase) → IsQuiet k x → IsTold k past time phase → IsTold k (past ++ x ∷ []) time phase
told_quiet k past x time phase q t = record {
  told = omega (arith, t.told, floor_snoc k past x, q.told);
  reporting = t.reporting ∙ sym (ap not (broken_snoc k past x ∙ rw q.break (or-false (is_broken_after k past))));
  live = t.live ∙ sym (ap not (done_stays k past x q.form));
}

-- a controller that reports
pub unbroken : (k : ℕ) (past : List Event) (time : Stamp) (phase : Phase) → IsTold k past time phase → is_reporting phase ≡ true → is_broken_after k past ≡ false
unbroken k past time phase t tells = choose (is_broken_after k past) (sym t.reporting ∙ tells)
  where
    choose : (b : Bool) → not b ≡ true → b ≡ false
    choose true e = absurd cc
    choose false e = refl

-- an event by which it reports up to a time, and breaks or doesn't
pub told_next : (k : ℕ) (past : List Event) (x : Event) (before upto : Stamp) (old new : Phase) (b : Bool) → ((c : ℕ) → is_form_at c x ≡ false) → is_break_of k x ≡ b → reported_upto k x ≡ upto.0
    → IsTold k past before old → is_reporting old ≡ true → before.0 ≤ upto.0 → is_reporting new ≡ not b → counts new ≡ true → IsTold k (past ++ x ∷ []) upto new
told_next k past x before upto old new b form break told t tells le reporting live =
    let none = unbroken k past before old t tells in
    record {
      told = omega (arith, floor_snoc k past x, told, t.told, le);
      reporting = reporting ∙ sym (ap not (broken_snoc k past x ∙ rw (none, break) refl));
      live = live ∙ sym (ap not (done_stays k past x form ∙ not_done k past none));
    }

-- a time that is a floor is at a cut where the cut is at the floor
pub at_cut : (a c f : ℕ) → a ≡ f → (a == c) ≡ (c == f)
at_cut a c f is = elim (cases_Bool (nat_eq a c)) [
  | inl same ↦ same ∙ sym (eq-eqb c f (sym (eqb-true a c same) ∙ is))
  | inr other ↦ other ∙ sym (ne_eqb c f (λ e. eqb-false a c other (is ∙ sym e)))
]

-- a form
pub told_formed : (k : ℕ) (past : List Event) (cut time : Stamp) (phase : Phase) → breaks_at k (floor k past) past ≡ true → IsTold k past time phase
    → IsTold k (past ++ Form cut.0 ∷ []) time (phase_after cut time phase)
told_formed k past cut time phase breaks t = record {
  told = omega (arith, t.told, floor_snoc k past (Form cut.0));
  reporting = reporting_after phase ∙ t.reporting ∙ sym (ap not (broken_snoc k past (Form cut.0) ∙ or-false (is_broken_after k past)));
  live = live_after phase (is_done k past) (is_broken_after k past) (cut.0 == floor k past) (at_cut time.0 cut.0 (floor k past) t.told) t.reporting t.live ∙ sym (ap not (done_form k (floor k past) cut.0 past breaks));
}
  where
    either : (p : Phase → Bool) (same : Bool) (one two : Phase) → p one ≡ p two → p (cond same one two) ≡ p two
    either p true one two e = e
    either p false one two e = refl

    reporting_after : (phase : Phase) → is_reporting (phase_after cut time phase) ≡ is_reporting phase
    reporting_after Unbroken = refl
    reporting_after (Broken cause) = either is_reporting (time.0 == cut.0) Reported (Broken cause) refl
    reporting_after Reported = refl

    live_after : (phase : Phase) (d b same : Bool) → (time.0 == cut.0) ≡ same → is_reporting phase ≡ not b → counts phase ≡ not d → counts (phase_after cut time phase) ≡ not (d || (b && same))
    live_after Unbroken d b same is reporting live = reporting_live b d reporting live
      where
        reporting_live : (b d : Bool) → true ≡ not b → true ≡ not d → true ≡ not (d || (b && same))
        reporting_live false false e f = refl
        reporting_live true d e f = absurd cc
        reporting_live false true e f = absurd cc
    live_after Reported d b same is reporting live = reported_live d live
      where
        reported_live : (d : Bool) → false ≡ not d → false ≡ not (d || (b && same))
        reported_live true e = refl
        reported_live false e = absurd cc
    live_after (Broken cause) d b same is reporting live = rw is (broken_live d b same reporting live)
      where
        broken_live : (d b same : Bool) → false ≡ not b → true ≡ not d → counts (cond same Reported (Broken cause)) ≡ not (d || (b && same))
        broken_live false true true e f = refl
        broken_live false true false e f = refl
        broken_live false false same e f = absurd cc
        broken_live true b same e f = absurd cc

-- ---- what waits

pub waiting_next : (k : ℕ) (past : List Event) (x : Event) (ws vs : List WaitingEntry) → AreSeen ws (filter (stays x) (filter (is_of_control k) (waiting_in [] past)))
    → AreSeen vs (filter (is_of_control k) (carried_by past x)) → AreSeen (ws ++ vs) (filter (is_of_control k) (waiting_in [] (past ++ x ∷ [])))
waiting_next k past x ws vs stay new =
    let w = waiting_in [] past in
    let split = ap (filter (is_of_control k)) (waiting_snoc [] past x) ∙ filter-append (is_of_control k) (filter (stays x) w) (carried_by past x)
    ∙ ap (λ (es : List CarriedEntry). es ++ filter (is_of_control k) (carried_by past x)) (filter_swap (is_of_control k) (stays x) w) in
    subst (AreSeen (ws ++ vs)) (sym split) (seen_append ws vs (filter (stays x) (filter (is_of_control k) w)) (filter (is_of_control k) (carried_by past x)) stay new)

-- nothing new waits
pub waiting_less : (k : ℕ) (past : List Event) (x : Event) (ws : List WaitingEntry) → AreSeen ws (filter (stays x) (filter (is_of_control k) (waiting_in [] past)))
    → filter (is_of_control k) (carried_by past x) ≡ [] → AreSeen ws (filter (is_of_control k) (waiting_in [] (past ++ x ∷ [])))
waiting_less k past x ws stay none =
    subst (λ vs. AreSeen vs (filter (is_of_control k) (waiting_in [] (past ++ x ∷ [])))) (append-nil ws)
    (waiting_next k past x ws [] stay (subst (AreSeen []) (sym none) tt))

-- what a test of all of them keeps
kept_all : (ok p : CarriedEntry → Bool) (es : List CarriedEntry) → ((e : CarriedEntry) → ok e ≡ true → p e ≡ true) → filter p (filter ok es) ≡ filter ok es
kept_all ok p [] all = refl
kept_all ok p (e ∷ es) all = choose (ok e) refl (kept_all ok p es all)
  where
    choose : (t : Bool) → ok e ≡ t → filter p (filter ok es) ≡ filter ok es → filter p (cond t (e ∷ filter ok es) (filter ok es)) ≡ cond t (e ∷ filter ok es) (filter ok es)
    choose true is h = rw (all e is, h) refl
    choose false is h = h

-- all that waited still waits
pub all_stay : (k : ℕ) (past : List Event) (x : Event) (ws : List WaitingEntry) → ((e : CarriedEntry) → is_of_control k e ≡ true → stays x e ≡ true) → AreSeen ws (filter (is_of_control k) (waiting_in [] past))
    → AreSeen ws (filter (stays x) (filter (is_of_control k) (waiting_in [] past)))
all_stay k past x ws all seen = subst (AreSeen ws) (sym (kept_all (is_of_control k) (stays x) (waiting_in [] past) all)) seen
