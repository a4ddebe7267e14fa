-- Records of groups are steps.
use Rattle.std.proofs.Common.{◌≡◌, ℕ, ◌≤◌, Bool, true, false, cond, nat_eq, nat_le, ◌&&◌, List, [], ◌∷◌, ◌++◌, map, Option, Some, None, refl, sym, ap, subst, ◌∙◌}
use Rattle.std.specs.List.{flat_map}
use Rattle.std.proofs.lemmas.Bool.{and_from, and_parts, eq-eqb, leb-true}
use Rattle.std.proofs.lemmas.List.Folds.{list_all-append}
use Rattle.tod_stamp.specs.declared.stamp.Stamp.{Stamp}
use Rattle.ckd_track.specs.declared.write.Cause.{Cause}
use Rattle.pair_table.specs.declared.level.Level.{Level}
use Rattle.pair_table.specs.declared.row.PairRow.{PairRow}
use Rattle.pair_table.specs.declared.row.PairState.{PairState}
use Rattle.pending_queue.specs.Entries.{WaitingEntry}
use Rattle.pending_queue.specs.Groups.{FormedGroup}
use Rattle.row_changes.specs.Changes.{Due, RowChange, Timed, after_change, after_changes, due_after, may_all_come, may_come, may_end, reaches_others}
use Rattle.row_changes.specs.Changes.Due.{NoneDue, DueSince, DueIn}
use Rattle.row_changes.specs.Changes.RowChange.{Hit, Mature, Reached}
use Rattle.record_rows.specs.Deeds.Deed.{Logged}
use Rattle.record_rows.specs.GroupRows.{are_breaks_at_cut, breaking, group_changes, matured_with_group, maturing, maturing_of}
use Rattle.record_rows.specs.Hits.{hit_changes, hit_now, reached_changes, told_changes}
use Rattle.record_rows.specs.Records.{changes_after_mark, record_changes, rows_after_mark, rows_with_record}
use Rattle.record_rows.specs.ToldRows.{due_after_changes}
use Rattle.record_rows.proofs.Coming.{after_marks_are_changes, after_marks_may_come, records_are_changes, records_may_come}
use Rattle.record_rows.proofs.Devices.{apart_of}
use Rattle.consistency.specs.Stages.{ScriptRun, breaks_of}
use Rattle.fed_logs.proofs.ShownBreaks.{groups_break_at_cuts}
use Rattle.consistency.specs.Leads.{Comes, Point}
use Rattle.consistency.specs.Ways.{are_at_time}
use Rattle.mover.specs.Points.{IsStep}
use Rattle.mover.specs.Records.{IsGroupOfLog, RecordsAreSteps, AfterMarksAreSteps}

-- ---- changes that may all come

all_come : (level : Level) (breaks : List (Option ℕ)) (m : Bool) (due : Due) (from to : ℕ) (rows : List PairRow) (changes : List Timed) → from ≤ to → may_all_come level breaks m due from to rows changes ≡ true
    → Comes level breaks due from to rows changes (due_after_changes level due changes) × (may_end m to (due_after_changes level due changes) ≡ true)
all_come level breaks m due from to rows [] le is = ((le, refl), is)
all_come level breaks m due from to rows (t ∷ changes) le is =
    let parts = and_parts (nat_le from t.time && nat_le t.time to && may_come breaks due rows t) (may_all_come level breaks m (due_after level due t) t.time to (after_change level t rows) changes) is in
    let here = and_parts (nat_le from t.time && nat_le t.time to) (may_come breaks due rows t) parts.0 in
    let times = and_parts (nat_le from t.time) (nat_le t.time to) here.0 in
    let up = leb-true t.time to times.1 in
    let rest = all_come level breaks m (due_after level due t) t.time to (after_change level t rows) changes up parts.1 in
    ((leb-true from t.time times.0, up, here.1, rest.0), rest.1)

none_left : (to : ℕ) (due : Due) → may_end false to due ≡ true → due ≡ NoneDue
none_left to NoneDue e = refl
none_left to (DueSince mark devices) e = absurd cc
none_left to (DueIn cut devices) e = absurd cc

record_is_step : (level : Level) (breaks : List (Option ℕ)) (p : Point) (cut : ℕ) (entries : List WaitingEntry) (rows : List PairRow) (changes : List Timed) → p.time ≤ cut → rows ≡ after_changes level changes p.rows
    → may_all_come level breaks false p.due p.time cut p.rows changes ≡ true → are_at_time cut changes ≡ true → IsStep level breaks p (record { deed = Logged cut entries rows; changes = changes })
record_is_step level breaks p cut entries rows changes up are come together =
    let all = all_come level breaks false p.due p.time cut p.rows changes up come in
    let none = none_left cut (due_after_changes level p.due changes) all.1 in
    record {
      leads = record { may_come = all.0; rows = are; goes_on = refl };
      together = together;
      leaves = none;
      rests = ap (may_end true cut) none;
    }

-- ---- their time

module _ (cut : ℕ) where
  all_both : (xs ys : List Timed) → are_at_time cut xs ≡ true → are_at_time cut ys ≡ true → are_at_time cut (xs ++ ys) ≡ true
  all_both xs ys first then = list_all-append (λ (t : Timed). nat_eq t.time cut) xs ys ∙ and_from (are_at_time cut xs) (are_at_time cut ys) first then

  now : (change : RowChange) → are_at_time cut (record { time = cut; change = change } ∷ []) ≡ true
  now change = and_from (nat_eq cut cut) true (eq-eqb cut cut refl) refl

  breaks_now : (found : List (ℕ × Stamp × Cause)) → are_at_time cut (map (breaking cut) found) ≡ true
  breaks_now [] = refl
  breaks_now (f ∷ found) = and_from (nat_eq cut cut) (are_at_time cut (map (breaking cut) found)) (eq-eqb cut cut refl) (breaks_now found)

  maturing_now : (device : ℕ) (o : Option PairState) → are_at_time cut (maturing cut device o) ≡ true
  maturing_now device None = refl
  maturing_now device (Some state) = now (Mature device state)

  hits_now : (hit : List ℕ) → are_at_time cut (hit_changes cut hit) ≡ true
  hits_now [] = refl
  hits_now (d ∷ hit) = now (Hit (d ∷ hit))

  reached_now : (level : Level) (marked : List ℕ) → are_at_time cut (reached_changes level cut marked) ≡ true
  reached_now level [] = refl
  reached_now level (d ∷ marked) = choose (reaches_others level)
    where
      choose : (others : Bool) → are_at_time cut (cond others (record { time = cut; change = Reached (d ∷ marked) } ∷ []) []) ≡ true
      choose true = now (Reached (d ∷ marked))
      choose false = refl

  told_now : (level : Level) (marked hit : List ℕ) → are_at_time cut (told_changes level cut marked hit) ≡ true
  told_now level marked hit = all_both (reached_changes level cut marked) (hit_changes cut hit) (reached_now level marked) (hits_now hit)

matures_now : (group : FormedGroup) (rows : List PairRow) → are_at_time group.cut.0 (flat_map (maturing_of group) rows) ≡ true
matures_now group [] = refl
matures_now group (r ∷ rows) = all_both group.cut.0 (maturing_of group r) (flat_map (maturing_of group) rows) (maturing_now group.cut.0 r.device (matured_with_group group r)) (matures_now group rows)

group_now : (group : FormedGroup) (rows : List PairRow) → are_at_time group.cut.0 (group_changes group rows) ≡ true
group_now group rows = all_both group.cut.0 (map (breaking group.cut.0) group.breaks) (flat_map (maturing_of group) rows) (breaks_now group.cut.0 group.breaks) (matures_now group rows)

-- ---- records

at_cut : (run : ScriptRun) (p : Point) (group : FormedGroup) → IsGroupOfLog run p group → are_breaks_at_cut (breaks_of run) group ≡ true
at_cut run p group is = groups_break_at_cuts run.traces is.begun is.ended is.log group is.fed is.broke is.shown

pub records_are_steps : RecordsAreSteps
records_are_steps run p group failed is apart none =
    let breaks = breaks_of run in
    let are = at_cut run p group is in
    let devices = apart_of p.rows apart in
    record_is_step run.level breaks p group.cut.0 group.entries (rows_with_record run.level group failed p.rows) (record_changes group failed p.rows) is.up (records_are_changes run.level breaks group failed p.rows devices are)
    (subst (λ (d : Due). may_all_come run.level breaks false d p.time group.cut.0 p.rows (record_changes group failed p.rows) ≡ true) (sym none) (records_may_come run.level breaks group failed p.time p.rows devices are is.up))
    (all_both group.cut.0 (group_changes group p.rows) (hit_changes group.cut.0 (hit_now failed p.rows)) (group_now group p.rows) (hits_now group.cut.0 (hit_now failed p.rows)))

pub after_marks_are_steps : AfterMarksAreSteps
after_marks_are_steps run p marked time group failed is apart due =
    let breaks = breaks_of run in
    let are = at_cut run p group is in
    let devices = apart_of p.rows apart in
    let changes = changes_after_mark run.level marked group failed p.rows in
    record_is_step run.level breaks p group.cut.0 group.entries (rows_after_mark run.level marked group failed p.rows) changes is.up (after_marks_are_changes run.level breaks marked group failed p.rows devices are)
    (subst (λ (d : Due). may_all_come run.level breaks false d p.time group.cut.0 p.rows changes ≡ true) (sym due) (after_marks_may_come run.level breaks marked group failed time p.time p.rows devices are is.up))
    (all_both group.cut.0 (group_changes group p.rows) (told_changes run.level group.cut.0 marked (hit_now failed p.rows)) (group_now group p.rows) (told_now group.cut.0 run.level marked (hit_now failed p.rows)))
