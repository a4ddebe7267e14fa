-- Names of sessions and volumes stay names over a course.
use Rattle.std.proofs.Common.{◌≡◌, ℕ, zero, suc, ◌≤◌, ◌&&◌, Bool, true, false, cond, List, [], ◌∷◌, length, map, filter, Option, Some, None, refl, sym, ap, subst, ◌∙◌, arith}
use Rattle.std.specs.Prelude.{bytes_eq, is_none, not, if◌then◌else◌}
use Rattle.std.specs.List.{list_all}
use Rattle.std.proofs.lemmas.Bool.{and_from, and_parts}
use Rattle.std.proofs.lemmas.List.Folds.{list_all-append}
use Rattle.std.proofs.lemmas.Slice.Eq.{bytes_eq-Decides}
use Rattle.tod_stamp.specs.Names.{is_serial}
use Rattle.pair_table.specs.declared.command.Command.{Command}
use Rattle.pair_table.specs.declared.command.Command.TheVariants.{Start, AddPair, DelPair, Suspend, Query, End}
use Rattle.pair_table.specs.declared.level.Level.{Level}
use Rattle.pair_table.specs.declared.names.NamedDevice.{NamedDevice}
use Rattle.pair_table.specs.declared.names.NamedVolume.{NamedVolume}
use Rattle.pair_table.specs.declared.row.PairRow.{PairRow}
use Rattle.pair_table.specs.declared.row.PairState.TheVariants.{Suspended}
use Rattle.pair_table.specs.declared.row.SuspendCause.TheVariants.{Command as ByCommand}
use Rattle.pair_table.specs.Commands.{accepted, add_to, is_chosen, is_to_suspend, new_row, new_row_for, rows_after, suspended_since}
use Rattle.pair_table.specs.Naming.{label_in, lower, primary_of}
use Rattle.pair_table.specs.Refusals.{is_of_primary, refusal, row_of_primary}
use Rattle.pair_table.specs.Tables.{Table, in_state, resumed_in}
use Rattle.pair_table.proofs.FindLaws.{found_all}
use Rattle.row_changes.specs.Changes.{Timed, after_change, after_changes, reach_of, row_after_change}
use Rattle.row_changes.proofs.Reaching.{changes_state}
use Rattle.xrc_command.specs.declared.line.Line.{Line}
use Rattle.consistency.specs.Stages.{ScriptRun, Stage, breaks_of, names_of}
use Rattle.consistency.specs.Courses.{Answered, IsAnswered, IsCourse, stage_at}
use Rattle.consistency.specs.Steps.{commanded, names_at, table_on_the_way}
use Rattle.consistency.proofs.Lines.{stage_then}
use Rattle.consistency.specs.Replying.{HasNames, HasRunNames, has_row_serials}
use Rattle.consistency.proofs.Unhit.{found}

-- ---- changes

either_way : (b : Bool) (x y r : PairRow) → has_row_serials x ≡ has_row_serials r → has_row_serials y ≡ has_row_serials r → has_row_serials (if b then x else y) ≡ has_row_serials r
either_way true x y r first second = first
either_way false x y r first second = second

mapped_serials : (f : PairRow → PairRow) → ((r : PairRow) → has_row_serials (f r) ≡ has_row_serials r) → (rows : List PairRow) → list_all has_row_serials (map f rows) ≡ list_all has_row_serials rows
mapped_serials f same [] = refl
mapped_serials f same (r ∷ rows) = ap (λ (b : Bool). b && list_all has_row_serials (map f rows)) (same r) ∙ ap (λ (b : Bool). has_row_serials r && b) (mapped_serials f same rows)

-- Changes leave the names of rows.
changed_serials : (level : Level) (changes : List Timed) (rows : List PairRow) → list_all has_row_serials (after_changes level changes rows) ≡ list_all has_row_serials rows
changed_serials level [] rows = refl
changed_serials level (t ∷ changes) rows = changed_serials level changes (after_change level t rows) ∙ mapped_serials (row_after_change (reach_of level rows) t) (λ r. ap has_row_serials (changes_state (reach_of level rows) t r)) rows

pub names_on_the_way : (level : Level) (changes : List Timed) (table : Table) → HasNames table → HasNames (table_on_the_way level changes table)
names_on_the_way level changes table names = record { named = names.named; serials = changed_serials level changes table.rows ∙ names.serials }

-- ---- commands

-- A label that was found for a serial has that serial.
label_found : (serial : List ℕ) (labels : List NamedDevice) (l : NamedDevice) → label_in serial labels ≡ Some l → list_all (λ x. is_serial x.serial) labels ≡ true → is_serial serial ≡ true
label_found serial [] l is all = absurd cc
label_found serial (x ∷ labels) l is all = choose (bytes_eq x.serial serial) refl is (λ later. label_found serial labels l later parts.1)
  where
    parts : (is_serial x.serial ≡ true) × (list_all (λ y. is_serial y.serial) labels ≡ true)
    parts = and_parts (is_serial x.serial) (list_all (λ y. is_serial y.serial) labels) all

    choose : (b : Bool) → bytes_eq x.serial serial ≡ b → (let later : Option NamedDevice = label_in serial labels in cond b (Some (lower x later)) later ≡ Some l) → (label_in serial labels ≡ Some l → is_serial serial ≡ true) → is_serial serial ≡ true
    choose true same is next = ap is_serial (sym ((bytes_eq-Decides x.serial serial).0 same)) ∙ parts.0
    choose false other is next = next is

filtered_serials : (keep : PairRow → Bool) (rows : List PairRow) → list_all has_row_serials rows ≡ true → list_all has_row_serials (filter keep rows) ≡ true
filtered_serials keep [] all = refl
filtered_serials keep (r ∷ rows) all =
    let parts = and_parts (has_row_serials r) (list_all has_row_serials rows) all in
    choose (keep r) parts.0 (filtered_serials keep rows parts.1)
  where
    choose : (b : Bool) → has_row_serials r ≡ true → list_all has_row_serials (filter keep rows) ≡ true → list_all has_row_serials (cond b (r ∷ filter keep rows) (filter keep rows)) ≡ true
    choose true here rest = and_from (has_row_serials r) (list_all has_row_serials (filter keep rows)) here rest
    choose false here rest = rest

module _ (run : ScriptRun) (spoken : HasRunNames run) (rows : List PairRow) (all : list_all has_row_serials rows ≡ true) where
  -- A pair that is added has names that the run speaks of.
  added_serials : (primary secondary : List ℕ) (group : Option (List ℕ)) (o : Option PairRow) (v : Option NamedVolume) (l : Option NamedDevice) → primary_of primary (names_of run) ≡ v → label_in secondary run.labels ≡ l
      → list_all has_row_serials (add_to group rows o (new_row_for secondary group v l)) ≡ true
  added_serials primary secondary group (Some r) v l volume label = mapped_serials (λ x. if is_of_primary r.primary x then resumed_in group x else x) (λ x. either_way (is_of_primary r.primary x) (resumed_in group x) x x refl refl) rows ∙ all
  added_serials primary secondary group None (Some v) (Some l) volume label =
      let of_volume = found_all (λ x. bytes_eq x.serial primary) (λ x. is_serial x.serial) (names_of run).primaries v volume spoken.volumes in
      let of_label = label_found secondary run.labels l label spoken.labels in
      let new = new_row secondary group v l in
      list_all-append has_row_serials rows (new ∷ []) ∙ and_from (list_all has_row_serials rows) (list_all has_row_serials (new ∷ [])) all (and_from (has_row_serials new) true (and_from (is_serial v.serial) (is_serial secondary) of_volume of_label) refl)
  added_serials primary secondary group None (Some v) None volume label = all
  added_serials primary secondary group None None l volume label = all

  command_serials : (time : ℕ) (command : Command) → list_all has_row_serials (rows_after (names_at time (breaks_of run) (names_of run)) time command rows) ≡ true
  command_serials time (AddPair primary secondary group) = added_serials primary secondary group (row_of_primary primary rows) (primary_of primary (names_of run)) (label_in secondary run.labels) refl refl
  command_serials time (DelPair choice) = filtered_serials (λ r. not (is_chosen choice r)) rows all
  command_serials time (Suspend choice) =
      mapped_serials (suspended_since choice time) (λ x. either_way (is_to_suspend choice x) (in_state (Suspended ByCommand (record { 0 = time })) x) x x refl refl) rows ∙ all
  command_serials time (Start level) = refl
  command_serials time Query = all
  command_serials time End = all

commanded_names : (run : ScriptRun) → HasRunNames run → (table : Table) (line : Line) → HasNames table → HasNames (commanded (breaks_of run) (names_of run) table line)
commanded_names run spoken table line names =
    let naming = names_at line.time.0 (breaks_of run) (names_of run) in
    choose (is_none (refusal naming table line.session line.command))
  where
    choose : (b : Bool) → HasNames (if b then accepted (names_at line.time.0 (breaks_of run) (names_of run)) line.time.0 line.command table else table)
    choose true = record { named = names.named; serials = command_serials run spoken table.rows names.serials line.time.0 line.command }
    choose false = names

-- ---- a course

answered_names : (run : ScriptRun) → HasRunNames run → (s : Stage) (a : Answered) → HasNames s.table → IsAnswered run s a → HasNames a.table
answered_names run spoken s a names answered =
    subst HasNames (sym answered.step.made)
    (names_on_the_way run.level a.hits (commanded (breaks_of run) (names_of run) (table_on_the_way run.level a.changes s.table) a.line)
    (commanded_names run spoken (table_on_the_way run.level a.changes s.table) a.line (names_on_the_way run.level a.changes s.table names)))

pub course_has_names : (run : ScriptRun) (lines : List Answered) → HasRunNames run → IsCourse run lines → (n : ℕ) → n ≤ length lines → HasNames (stage_at run lines n).table
course_has_names run lines spoken course zero within = record { named = spoken.named; serials = refl }
course_has_names run lines spoken course (suc n) within =
    let one = found lines n (omega (arith, within)) in
    let before = course_has_names run lines spoken course n (omega (arith, within)) in
    subst (λ (s : Stage). HasNames s.table) (sym (stage_then run lines n one.0 one.1)) (answered_names run spoken (stage_at run lines n) one.0 before (course n one.0 one.1))
