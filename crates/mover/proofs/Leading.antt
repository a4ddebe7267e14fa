-- Steps lead from point to point, also where silent breaks are named.
use Rattle.std.proofs.Common.{◌≡◌, ℕ, zero, suc, ◌≤◌, Bool, true, List, [], ◌∷◌, ◌++◌, map, length, take, Option, Some, refl, sym, ap, subst, ◌∙◌, arith}
use Rattle.std.specs.Prelude.{slice_get}
use Rattle.std.proofs.lemmas.Bool.{and_from}
use Rattle.std.proofs.lemmas.List.Folds.{list_all-append}
use Rattle.pair_table.specs.declared.level.Level.{Level}
use Rattle.write_trace.specs.declared.trace.Trace.{Trace}
use Rattle.sidefile.specs.Breaks.{break_time}
use Rattle.row_changes.specs.Changes.{Due, Timed, after_changes, break_time_of}
use Rattle.row_changes.specs.Spans.{hit_count}
use Rattle.record_rows.specs.Deeds.{Deed, rows_after_deeds, rows_by_deed, time_by_deed, time_meant_after}
use Rattle.record_rows.specs.Deeds.Deed.{Logged, Changed, Marked}
use Rattle.record_rows.specs.ToldRows.{due_after_changes}
use Rattle.record_rows.proofs.Counting.{counts_append}
use Rattle.site_store.specs.DeedChanges.{DeedOfChanges, changes_of, deeds_of}
use Rattle.consistency.specs.Leads.{Comes, Leads, Point, may_rest}
use Rattle.consistency.specs.Ways.{are_at_time}
use Rattle.consistency.proofs.Leading.{leads_itself, leads_on}
use Rattle.mover.specs.Points.{AreSteps, IsStep, LeavesSo, point_after_deeds, point_by}
use Rattle.mover.specs.SilentBreaks.{all_silent, silent_from, silent_of, with_silent}
use Rattle.mover.proofs.Breaking.{all_are, silent_comes, silent_due, silent_hits, silent_leaves, silent_together}
use Rattle.mover.proofs.Held.{KeepPairs}
use Rattle.mover.specs.OwedTracks.{IsUnfailed}
use Rattle.mover.proofs.Excepting.{KeepFailed}
use Rattle.mover.proofs.Failing.{unfailed_before}
use Rattle.mover.proofs.Pairs.{apart_still, pairs_of, same_pairs}
use Rattle.fed_logs.specs.Moves.{HasRowIn}
use Rattle.pair_table.specs.Tables.{none_clash}

-- ---- the first steps

pub first_deeds : (n : ℕ) (steps : List DeedOfChanges) → deeds_of (take n steps) ≡ take n (deeds_of steps)
first_deeds zero steps = refl
first_deeds (suc n) [] = refl
first_deeds (suc n) (step ∷ steps) = ap (λ (ds : List Deed). step.deed ∷ ds) (first_deeds n steps)

pub count_deeds : (steps : List DeedOfChanges) → length (deeds_of steps) ≡ length steps
count_deeds [] = refl
count_deeds (step ∷ steps) = let e = count_deeds steps in omega (arith, e)

pub first_steps : (level : Level) (breaks : List (Option ℕ)) (n : ℕ) (p : Point) (steps : List DeedOfChanges) → AreSteps level breaks p steps → AreSteps level breaks p (take n steps)
first_steps level breaks zero p steps each = tt
first_steps level breaks (suc n) p [] each = tt
first_steps level breaks (suc n) p (step ∷ steps) each = (each.0, first_steps level breaks n (point_by level p step) steps each.1)

-- ---- what points are

pub time_there : (level : Level) (p : Point) (steps : List DeedOfChanges) → (point_after_deeds level p steps).time ≡ time_meant_after (deeds_of steps) p.time
time_there level p [] = refl
time_there level p (step ∷ steps) = time_there level (point_by level p step) steps

pub rows_there : (level : Level) (p : Point) (steps : List DeedOfChanges) → (point_after_deeds level p steps).rows ≡ rows_after_deeds (deeds_of steps) p.rows
rows_there level p [] = refl
rows_there level p (step ∷ steps) = rows_there level (point_by level p step) steps

pub flag_there : (level : Level) (p : Point) (steps : List DeedOfChanges) → (point_after_deeds level p steps).is_ended ≡ p.is_ended
flag_there level p [] = refl
flag_there level p (step ∷ steps) = flag_there level (point_by level p step) steps

-- After steps it may rest, where it did before.
pub rests_there : (level : Level) (breaks : List (Option ℕ)) (p : Point) (steps : List DeedOfChanges) → may_rest true p ≡ true → AreSteps level breaks p steps → may_rest true (point_after_deeds level p steps) ≡ true
rests_there level breaks p [] rests each = rests
rests_there level breaks p (step ∷ steps) rests each = rests_there level breaks (point_by level p step) steps each.0.rests each.1

-- They keep the pairs of rows.
pub steps_keep_pairs : (level : Level) (breaks : List (Option ℕ)) (p : Point) (steps : List DeedOfChanges) → AreSteps level breaks p steps → KeepPairs p.rows (deeds_of steps)
steps_keep_pairs level breaks p [] each = tt
steps_keep_pairs level breaks p (step ∷ steps) each = (ap pairs_of each.0.leads.rows ∙ same_pairs level step.changes p.rows, steps_keep_pairs level breaks (point_by level p step) steps each.1)

-- They keep which rows their devices suspend.
pub steps_keep_failed : (level : Level) (breaks : List (Option ℕ)) (p : Point) (steps : List DeedOfChanges) → none_clash p.rows ≡ true → AreSteps level breaks p steps → KeepFailed p.rows (deeds_of steps)
steps_keep_failed level breaks p [] apart each = tt
steps_keep_failed level breaks p (step ∷ steps) apart each =
    let q = point_by level p step in
    let leads = each.0.leads in (
      λ k v has. unfailed_before level breaks p.due q.due p.time q.time p.rows step.changes apart leads.may_come k v (subst (HasRowIn IsUnfailed k v) leads.rows has),
      steps_keep_failed level breaks q steps (apart_still p.rows q.rows (ap pairs_of leads.rows ∙ same_pairs level step.changes p.rows) apart) each.1,
    )

pub lead_there : (level : Level) (breaks : List (Option ℕ)) (p : Point) (steps : List DeedOfChanges) → AreSteps level breaks p steps → Leads level breaks p (point_after_deeds level p steps) (changes_of steps)
lead_there level breaks p [] each = leads_itself level breaks p
lead_there level breaks p (step ∷ steps) each = leads_on level breaks p (point_by level p step) (point_after_deeds level (point_by level p step) steps) step.changes (changes_of steps) each.0.leads (lead_there level breaks (point_by level p step) steps each.1)

-- ---- one step more

pub after_both : (level : Level) (p : Point) (a b : List DeedOfChanges) → point_after_deeds level p (a ++ b) ≡ point_after_deeds level (point_after_deeds level p a) b
after_both level p [] b = refl
after_both level p (step ∷ a) b = after_both level (point_by level p step) a b

pub steps_after : (level : Level) (breaks : List (Option ℕ)) (p : Point) (a b : List DeedOfChanges) → AreSteps level breaks p (a ++ b) → AreSteps level breaks (point_after_deeds level p a) b
steps_after level breaks p [] b each = each
steps_after level breaks p (step ∷ a) b each = steps_after level breaks (point_by level p step) a b each.1

-- ---- silent breaks

due_append : (level : Level) (due : Due) (xs ys : List Timed) → due_after_changes level due (xs ++ ys) ≡ due_after_changes level (due_after_changes level due xs) ys
due_append level due [] ys = refl
due_append level due (t ∷ xs) ys = due_append level _ xs ys

silent_leaves_due : (level : Level) (limit : ℕ) (breaks : List (Option ℕ)) (flag : Bool) (due : Due) (deed : Deed) → LeavesSo flag due deed → due_after_changes level due (silent_of limit breaks deed) ≡ due
silent_leaves_due level limit breaks flag due (Logged cut entries rows) leaves = ap (λ (d : Due). due_after_changes level d (silent_from limit cut 0 breaks rows)) leaves ∙ silent_due level limit cut 0 breaks rows ∙ sym leaves
silent_leaves_due level limit breaks flag due (Changed time rows) leaves = refl
silent_leaves_due level limit breaks flag due (Marked spot ended rows) leaves = refl

-- The point after it is the same.
due_with_silent : (level : Level) (limit : ℕ) (breaks : List (Option ℕ)) (p : Point) (step : DeedOfChanges) → IsStep level breaks p step → due_after_changes level p.due (step.changes ++ silent_of limit breaks step.deed) ≡ due_after_changes level p.due step.changes
due_with_silent level limit breaks p step is = due_append level p.due step.changes (silent_of limit breaks step.deed) ∙ silent_leaves_due level limit breaks p.is_ended (due_after_changes level p.due step.changes) step.deed is.leaves

abbrev point_due : Point → Deed → Due → Point
point_due p deed due = record { time = time_by_deed p.time deed; rows = rows_by_deed deed; due = due; is_ended = p.is_ended }

pub same_point : (level : Level) (limit : ℕ) (breaks : List (Option ℕ)) (p : Point) (step : DeedOfChanges) → IsStep level breaks p step → point_by level p (with_silent limit breaks step) ≡ point_by level p step
same_point level limit breaks p step is = ap (point_due p step.deed) (due_with_silent level limit breaks p step is)

-- The silent breaks of a deed lead from the point after it to itself.
silent_leads : (level : Level) (limit : ℕ) (breaks : List (Option ℕ)) (flag : Bool) (time : ℕ) (due : Due) (deed : Deed) → LeavesSo flag due deed
    → Comes level breaks due (time_by_deed time deed) (time_by_deed time deed) (rows_by_deed deed) (silent_of limit breaks deed) due × (after_changes level (silent_of limit breaks deed) (rows_by_deed deed) ≡ rows_by_deed deed)
    × (are_at_time (time_by_deed time deed) (silent_of limit breaks deed) ≡ true)
silent_leads level limit breaks flag time due (Logged cut entries rows) leaves = (
  subst (λ (d : Due). Comes level breaks d cut cut rows (silent_from limit cut 0 breaks rows) d) (sym leaves) (silent_comes level breaks limit cut 0 breaks rows (all_are breaks)),
  silent_leaves level limit cut 0 breaks rows,
  silent_together limit cut 0 breaks rows,
)
silent_leads level limit breaks flag time due (Changed at rows) leaves = ((omega arith, refl), refl, refl)
silent_leads level limit breaks flag time due (Marked spot ended rows) leaves = ((omega arith, refl), refl, refl)

pub silent_step : (level : Level) (limit : ℕ) (breaks : List (Option ℕ)) (p : Point) (step : DeedOfChanges) → IsStep level breaks p step → IsStep level breaks p (with_silent limit breaks step)
silent_step level limit breaks p step is =
    let q = point_by level p step in
    let silent = silent_of limit breaks step.deed in
    let s = silent_leads level limit breaks p.is_ended p.time q.due step.deed is.leaves in
    let itself : Leads level breaks q q silent = record { may_come = s.0; rows = sym s.1; goes_on = refl } in
    record {
      leads = subst (λ (r : Point). Leads level breaks p r (step.changes ++ silent)) (sym (same_point level limit breaks p step is)) (leads_on level breaks p q q step.changes silent is.leads itself);
      together = list_all-append _ step.changes silent ∙ and_from (are_at_time q.time step.changes) (are_at_time q.time silent) is.together s.2;
      leaves = subst (λ (d : Due). LeavesSo p.is_ended d step.deed) (sym (due_with_silent level limit breaks p step is)) is.leaves;
      rests = ap (may_rest true) (same_point level limit breaks p step is) ∙ is.rests;
    }

pub silent_steps : (level : Level) (limit : ℕ) (breaks : List (Option ℕ)) (p : Point) (steps : List DeedOfChanges) → AreSteps level breaks p steps → AreSteps level breaks p (all_silent limit breaks steps)
silent_steps level limit breaks p [] each = tt
silent_steps level limit breaks p (step ∷ steps) each =
    (silent_step level limit breaks p step each.0, subst (λ (q : Point). AreSteps level breaks q (all_silent limit breaks steps)) (sym (same_point level limit breaks p step each.0)) (silent_steps level limit breaks (point_by level p step) steps each.1))

pub take_silent : (limit : ℕ) (breaks : List (Option ℕ)) (n : ℕ) (steps : List DeedOfChanges) → take n (all_silent limit breaks steps) ≡ all_silent limit breaks (take n steps)
take_silent limit breaks zero steps = refl
take_silent limit breaks (suc n) [] = refl
take_silent limit breaks (suc n) (step ∷ steps) = ap (λ (rest : List DeedOfChanges). with_silent limit breaks step ∷ rest) (take_silent limit breaks n steps)

pub silent_points : (level : Level) (limit : ℕ) (breaks : List (Option ℕ)) (p : Point) (steps : List DeedOfChanges) → AreSteps level breaks p steps → point_after_deeds level p (all_silent limit breaks steps) ≡ point_after_deeds level p steps
silent_points level limit breaks p [] each = refl
silent_points level limit breaks p (step ∷ steps) each =
    ap (λ (q : Point). point_after_deeds level q (all_silent limit breaks steps)) (same_point level limit breaks p step each.0) ∙ silent_points level limit breaks (point_by level p step) steps each.1

-- ---- hits

silent_count : (device limit : ℕ) (breaks : List (Option ℕ)) (deed : Deed) → hit_count device (silent_of limit breaks deed) ≡ 0
silent_count device limit breaks (Logged cut entries rows) = silent_hits device limit cut 0 breaks rows
silent_count device limit breaks (Changed time rows) = refl
silent_count device limit breaks (Marked spot ended rows) = refl

-- The first steps hit a device at most as often as all, whatever silent breaks are named.
pub fewer_hits : (device limit : ℕ) (breaks : List (Option ℕ)) (n : ℕ) (steps : List DeedOfChanges) → hit_count device (changes_of (all_silent limit breaks (take n steps))) ≤ hit_count device (changes_of steps)
fewer_hits device limit breaks zero steps = omega arith
fewer_hits device limit breaks (suc n) [] = omega arith
fewer_hits device limit breaks (suc n) (step ∷ steps) =
    let silent = silent_of limit breaks step.deed in
    let rest = changes_of (all_silent limit breaks (take n steps)) in
    omega (arith, counts_append device (step.changes ++ silent) rest, counts_append device step.changes silent, silent_count device limit breaks step.deed, counts_append device step.changes (changes_of steps), fewer_hits device limit breaks n steps)

-- ---- break times of traces

pub trace_of_break : (traces : List Trace) (k b : ℕ) → break_time_of k (map break_time traces) ≡ Some b → (t : Trace) × (slice_get traces k ≡ Some t) × (break_time t ≡ Some b)
trace_of_break [] k b is = absurd cc
trace_of_break (t ∷ traces) zero b is = (t, refl, is)
trace_of_break (t ∷ traces) (suc k) b is = trace_of_break traces k b is
