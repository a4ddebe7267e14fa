-- The deeds of the mover's work are steps of a run, whose traces feed the log that its groups are of.
use Rattle.std.proofs.Common.{◌≡◌, ℕ, ◌≤◌, Bool, true, false, nat_eq, nat_le, ◌&&◌, List, [], ◌∷◌, Option, refl, sym, ap, subst, ◌∙◌, arith}
use Rattle.std.specs.List.{Contains}
use Rattle.std.proofs.lemmas.Bool.{and_from, and_parts, eq-eqb, leb-true}
use Rattle.pair_table.specs.declared.level.Level.{Level}
use Rattle.pair_table.specs.declared.row.PairRow.{PairRow}
use Rattle.pair_table.specs.Tables.{none_clash}
use Rattle.pending_queue.specs.Groups.{FormedGroup}
use Rattle.group_state.specs.Groups.{Group, shown_in}
use Rattle.group_state.specs.Runs.{Answer}
use Rattle.row_changes.specs.Changes.{Due, RowChange, Timed, after_change, after_changes, due_after, may_all_come, may_come, may_end}
use Rattle.row_changes.specs.Changes.Due.{NoneDue, DueSince, DueIn}
use Rattle.row_changes.specs.Changes.RowChange.{Hit, MarkedHit}
use Rattle.record_rows.specs.Deeds.{Deed, rows_by_deed, time_by_deed}
use Rattle.record_rows.specs.Deeds.Deed.{Changed, Marked}
use Rattle.record_rows.specs.Hits.{due_once_marked, hit_changes, hit_now, marked_changes, rows_marked}
use Rattle.record_rows.specs.Records.{rows_with_hits}
use Rattle.record_rows.specs.ToldRows.{due_after_changes}
use Rattle.record_rows.proofs.Coming.{hits_may_come, marks_may_come}
use Rattle.record_rows.proofs.HitRows.{hits_are_changes, marks_are_changes}
use Rattle.site_store.specs.DeedChanges.{DeedOfChanges}
use Rattle.consistency.specs.Stages.{ScriptRun, breaks_of}
use Rattle.fed_logs.specs.LogLaws.{WasShown}
use Rattle.fed_logs.specs.Logs.{IsFedLog}
use Rattle.fed_logs.specs.ShownBreaks.{BrokeAsTraces}
use Rattle.consistency.specs.Leads.{Comes, Point}
use Rattle.consistency.specs.Ways.{are_at_time}
use Rattle.mover.specs.Points.{AreSteps, IsStep, LeavesSo, point_after_deeds}
use Rattle.mover.specs.Records.{IsGroupOfLog}
use Rattle.mover.proofs.Pairs.{apart_still, pairs_of, same_pairs}
use Rattle.mover.proofs.Records.{after_marks_are_steps, records_are_steps}
use Rattle.mover.specs.Steps.{AreMade, IsDeedMade}
use Rattle.mover.specs.Steps.IsDeedMade.{Suspends, Marks, MarksFirst, Records, RecordsAfter}

-- ---- changes that may all come

all_come : (level : Level) (breaks : List (Option ℕ)) (m : Bool) (due : Due) (from to : ℕ) (rows : List PairRow) (changes : List Timed) → from ≤ to → may_all_come level breaks m due from to rows changes ≡ true
    → Comes level breaks due from to rows changes (due_after_changes level due changes) × (may_end m to (due_after_changes level due changes) ≡ true)
all_come level breaks m due from to rows [] le is = ((le, refl), is)
all_come level breaks m due from to rows (t ∷ changes) le is =
    let parts = and_parts (nat_le from t.time && nat_le t.time to && may_come breaks due rows t) (may_all_come level breaks m (due_after level due t) t.time to (after_change level t rows) changes) is in
    let here = and_parts (nat_le from t.time && nat_le t.time to) (may_come breaks due rows t) parts.0 in
    let times = and_parts (nat_le from t.time) (nat_le t.time to) here.0 in
    let up = leb-true t.time to times.1 in
    let rest = all_come level breaks m (due_after level due t) t.time to (after_change level t rows) changes up parts.1 in
    ((leb-true from t.time times.0, up, here.1, rest.0), rest.1)

ends_anyhow : (m : Bool) (to : ℕ) (due : Due) → may_end m to due ≡ true → may_end true to due ≡ true
ends_anyhow m to NoneDue e = refl
ends_anyhow m to (DueSince mark devices) e = (and_parts m (nat_eq mark to) e).1
ends_anyhow m to (DueIn cut devices) e = absurd cc

-- A deed at the time that is meant is a step, if its changes may all come.
step_now : (level : Level) (breaks : List (Option ℕ)) (m : Bool) (p : Point) (deed : Deed) (changes : List Timed) → time_by_deed p.time deed ≡ p.time → rows_by_deed deed ≡ after_changes level changes p.rows
    → may_all_come level breaks m p.due p.time p.time p.rows changes ≡ true → are_at_time p.time changes ≡ true → LeavesSo p.is_ended (due_after_changes level p.due changes) deed → IsStep level breaks p (record { deed = deed; changes = changes })
step_now level breaks m p deed changes now are come together leaves =
    let all = all_come level breaks m p.due p.time p.time p.rows changes (omega arith) come in
    record {
      leads = record { may_come = subst (λ (to : ℕ). Comes level breaks p.due p.time to p.rows changes (due_after_changes level p.due changes)) (sym now) all.0; rows = are; goes_on = refl };
      together = subst (λ (to : ℕ). are_at_time to changes ≡ true) (sym now) together;
      leaves = leaves;
      rests = subst (λ (to : ℕ). may_end true to (due_after_changes level p.due changes) ≡ true) (sym now) (ends_anyhow m p.time (due_after_changes level p.due changes) all.1);
    }

-- ---- their time, and what they leave due

now_one : (time : ℕ) (change : RowChange) → are_at_time time (record { time = time; change = change } ∷ []) ≡ true
now_one time change = and_from (nat_eq time time) true (eq-eqb time time refl) refl

hits_now : (time : ℕ) (hit : List ℕ) → are_at_time time (hit_changes time hit) ≡ true
hits_now time [] = refl
hits_now time (d ∷ hit) = now_one time (Hit (d ∷ hit))

marks_now : (time : ℕ) (hit : List ℕ) → are_at_time time (marked_changes time hit) ≡ true
marks_now time [] = refl
marks_now time (d ∷ hit) = now_one time (MarkedHit (d ∷ hit))

hits_leave : (level : Level) (time : ℕ) (hit : List ℕ) → due_after_changes level NoneDue (hit_changes time hit) ≡ NoneDue
hits_leave level time [] = refl
hits_leave level time (d ∷ hit) = refl

-- ---- the steps

-- the point of a time and rows, at which this is due
abbrev pub point_at : (flag : Bool) → (time : ℕ) → List PairRow → Due → Point
point_at flag time rows due = record { time = time; rows = rows; due = due; is_ended = flag }

module _ (run : ScriptRun) (begun ended : Group) (log answers : List Answer) (fed : IsFedLog run.traces begun ended log) (broke : BrokeAsTraces run.traces begun) (among : (a : Answer) → Contains answers a → Contains log a) (flag : Bool) where
  group_of : (time : ℕ) (rows : List PairRow) (due : Due) (group : FormedGroup) → WasShown answers (shown_in group) → time ≤ group.cut.0 → IsGroupOfLog run (point_at flag time rows due) group
  group_of time rows due group shown up = record {
    begun = begun;
    ended = ended;
    log = log;
    fed = fed;
    broke = broke;
    shown = record { answer = shown.answer; among = among shown.answer shown.among; shows = shown.shows };
    up = up;
  }

  made_step : (time : ℕ) (rows : List PairRow) (due : Due) (step : DeedOfChanges) → none_clash rows ≡ true → IsDeedMade run.level flag answers time rows due step → IsStep run.level (breaks_of run) (point_at flag time rows due) step
  made_step _ _ _ _ apart (Suspends time rows failed some) =
      step_now run.level (breaks_of run) false (point_at flag time rows NoneDue) (Changed time (rows_with_hits run.level time failed rows)) (hit_changes time (hit_now failed rows)) refl (hits_are_changes run.level time (hit_now failed rows) rows)
      (hits_may_come run.level (breaks_of run) failed time time rows (omega arith)).0 (hits_now time (hit_now failed rows)) (hits_leave run.level time (hit_now failed rows))
  made_step _ _ _ _ apart (Marks time rows failed spot) =
      step_now run.level (breaks_of run) false (point_at flag time rows NoneDue) (Marked spot flag (rows_with_hits run.level time failed rows)) (hit_changes time (hit_now failed rows)) refl (hits_are_changes run.level time (hit_now failed rows) rows)
      (hits_may_come run.level (breaks_of run) failed time time rows (omega arith)).0 (hits_now time (hit_now failed rows)) refl
  made_step _ _ _ _ apart (MarksFirst time rows failed spot) =
      step_now run.level (breaks_of run) true (point_at flag time rows NoneDue) (Marked spot flag (rows_marked time (hit_now failed rows) rows)) (marked_changes time (hit_now failed rows)) refl (marks_are_changes run.level time (hit_now failed rows) rows)
      (marks_may_come run.level (breaks_of run) failed time time rows (omega arith)).0 (marks_now time (hit_now failed rows)) refl
  made_step _ _ _ _ apart (Records time rows group failed shown up to_log) = records_are_steps run (point_at flag time rows NoneDue) group failed (group_of time rows NoneDue group shown up) apart refl
  made_step _ _ _ _ apart (RecordsAfter time was group failed marked shown up to_log) =
      let due = due_once_marked run.level time marked in
      let rows = rows_marked time marked was in
      after_marks_are_steps run (point_at flag time rows due) marked time group failed (group_of time rows due group shown up) apart refl

  -- So are all, and this is due at the end.
  pub made_are_steps : (time : ℕ) (rows : List PairRow) (due : Due) (steps : List DeedOfChanges) (last : Due) → none_clash rows ≡ true → AreMade run.level flag answers time rows due steps last
      → AreSteps run.level (breaks_of run) (point_at flag time rows due) steps × ((point_after_deeds run.level (point_at flag time rows due) steps).due ≡ last)
  made_are_steps time rows due [] last apart made = (tt, made)
  made_are_steps time rows due (step ∷ steps) last apart made =
      let here = made_step time rows due step apart made.0 in
      let next = rows_by_deed step.deed in
      let rest = made_are_steps (time_by_deed time step.deed) next (due_after_changes run.level due step.changes) steps last (apart_still rows next (ap pairs_of here.leads.rows ∙ same_pairs run.level step.changes rows) apart) made.1 in
      ((here, rest.0), rest.1)
