-- A course of which no volume fails is what its lines ask.
use Rattle.std.proofs.Common.{◌≡◌, ℕ, zero, suc, ◌<◌, ◌≤◌, Bool, true, false, cond, ◌&&◌, ◌||◌, List, [], ◌∷◌, ◌++◌, length, map, take, Option, Some, refl, sym, ap, subst, ◌∙◌, arith, slice_get}
use Rattle.std.specs.Prelude.{◌==◌, fold, nat_le, if◌then◌else◌}
use Rattle.std.specs.List.{list_all}
use Rattle.std.proofs.lemmas.Bool.{and_from, and_parts, eq-eqb, or_left}
use Rattle.std.proofs.lemmas.List.Sums.{sum_by-append, sum_by-cons}
use Rattle.pair_table.specs.declared.level.Level.{Level}
use Rattle.pair_table.specs.declared.row.PairRow.{PairRow}
use Rattle.pair_table.specs.Devices.{is_among}
use Rattle.pair_table.specs.Tables.{Table, none_clash, with_rows}
use Rattle.row_changes.specs.Changes.{Due, RowChange, Timed, after_change, after_changes, are_hit, due_after, is_of_record, may_all_come, may_come}
use Rattle.row_changes.specs.Changes.Due.{NoneDue}
use Rattle.row_changes.specs.Changes.RowChange.{Break, Hit, MarkedHit, Mature, Reached}
use Rattle.row_changes.specs.Spans.{has_no_hit, hit_count, hits, is_break, is_hit_at, is_maturing, next_row}
use Rattle.row_changes.proofs.Functions.{rows_determined}
use Rattle.consistency.specs.Stages.{ScriptRun, Stage, breaks_of, names_of}
use Rattle.consistency.specs.Courses.{Answered, IsAnswered, IsCourse, first_stage, stage_after, stage_at}
use Rattle.consistency.specs.Steps.{IsCommanded, commanded, is_active, table_on_the_way}
use Rattle.consistency.proofs.Lines.{same_some, stage_then}
use Rattle.consistency.specs.UnhitStages.{table_by, unhit_after, unhit_stage_at}

-- ---- no hit

abbrev NoneHit : List Timed → Type 0
NoneHit changes = (device : ℕ) → hit_count device changes ≡ 0

none_here : (t : Timed) (changes : List Timed) → NoneHit (t ∷ changes) → (device : ℕ) → hits device t ≡ false
none_here t changes none device = by_case (hits device t) (omega (arith, none device, sum_by-cons (λ x. cond (hits device x) 1 0) t changes))
  where
    by_case : (b : Bool) → (let n : ℕ = cond b 1 0 in n ≡ 0) → b ≡ false
    by_case false is = refl
    by_case true is = absurd (omega (arith, is))

none_later : (t : Timed) (changes : List Timed) → NoneHit (t ∷ changes) → NoneHit changes
none_later t changes none device = omega (arith, none device, sum_by-cons (λ x. cond (hits device x) 1 0) t changes)

none_front : (xs ys : List Timed) → NoneHit (xs ++ ys) → NoneHit xs
none_front xs ys none device = omega (arith, none device, sum_by-append (λ x. cond (hits device x) 1 0) xs ys)

none_back : (xs ys : List Timed) → NoneHit (xs ++ ys) → NoneHit ys
none_back xs ys none device = omega (arith, none device, sum_by-append (λ x. cond (hits device x) 1 0) xs ys)

-- Devices that are hit are some.
some_hit : (devices : List ℕ) (rows : List PairRow) → are_hit devices rows ≡ true → ((device : ℕ) → is_among device devices ≡ false) → ⊥
some_hit [] rows are none = absurd cc
some_hit (d ∷ devices) rows are none = differ ((d == d) || is_among d devices) (or_left (d == d) (is_among d devices) (eq-eqb d d refl)) (none d)
  where
    differ : (b : Bool) → b ≡ true → b ≡ false → ⊥
    differ true on off = cc
    differ false on off = cc

-- Changes by which no device is hit are breaks and maturings.
pub none_hit : (level : Level) (breaks : List (Option ℕ)) (from to : ℕ) (rows : List PairRow) (changes : List Timed) → may_all_come level breaks false NoneDue from to rows changes ≡ true → NoneHit changes → has_no_hit changes ≡ true
none_hit level breaks from to rows [] may none = refl
none_hit level breaks from to rows (t ∷ changes) may none =
    let here = nat_le from t.time && nat_le t.time to && may_come breaks NoneDue rows t in
    let parts = and_parts here (may_all_come level breaks false (due_after level NoneDue t) t.time to (after_change level t rows) changes) may in
    let plain = by_change t.time t.change (and_parts (nat_le from t.time && nat_le t.time to) (may_come breaks NoneDue rows t) parts.0).1 (none_here t changes none) in
    and_from (is_break t || is_maturing t) (has_no_hit changes) plain.0
    (none_hit level breaks t.time to (after_change level t rows) changes (subst (λ (d : Due). may_all_come level breaks false d t.time to (after_change level t rows) changes ≡ true) plain.1 parts.1) (none_later t changes none))
  where
    by_change : (time : ℕ) (c : RowChange) → may_come breaks NoneDue rows (record { time = time; change = c }) ≡ true → ((device : ℕ) → hits device (record { time = time; change = c }) ≡ false)
        → (let t : Timed = record { time = time; change = c } in (is_break t || is_maturing t) ≡ true) × (due_after level NoneDue (record { time = time; change = c }) ≡ NoneDue)
    by_change time (Mature device state) may none = (refl, refl)
    by_change time (Break control) may none = (refl, refl)
    by_change time (Hit devices) may none = absurd (some_hit devices rows (and_parts (is_of_record NoneDue time) (are_hit devices rows) may).1 none)
    by_change time (MarkedHit devices) may none = absurd (some_hit devices rows (and_parts true (are_hit devices rows) may).1 none)
    by_change time (Reached devices) may none = absurd cc

-- Hits by which no device is hit are none.
no_hits : (time : ℕ) (changes : List Timed) → list_all (is_hit_at time) changes ≡ true → has_no_hit changes ≡ true → changes ≡ []
no_hits time [] are plain = refl
no_hits time (t ∷ changes) are plain = absurd (by_change t.change (and_parts (t.time == time) _ (and_parts (is_hit_at time t) (list_all (is_hit_at time) changes) are).0).1 (and_parts (is_break t || is_maturing t) (has_no_hit changes) plain).0)
  where
    by_change : (c : RowChange) → (let b : Bool = elim c [ Hit devices ↦ true | MarkedHit devices ↦ false | Reached devices ↦ false | Mature device state ↦ false | Break control ↦ false ] in b ≡ true)
        → (let t : Timed = record { time = t.time; change = c } in (is_break t || is_maturing t) ≡ true) → ⊥
    by_change (Mature device state) is plain = cc
    by_change (Break control) is plain = cc
    by_change (Hit devices) is plain = cc
    by_change (MarkedHit devices) is plain = cc
    by_change (Reached devices) is plain = cc

-- ---- one line

module _ (run : ScriptRun) (s : Stage) (a : Answered) (answered : IsAnswered run s a) (never : (device : ℕ) → run.rises device ≡ 0) (apart : none_clash s.table.rows ≡ true) where
  none_at_all : NoneHit (s.past ++ a.changes ++ a.hits)
  none_at_all device = omega (arith, answered.counted device, never device)

  active_line : IsCommanded run.level (breaks_of run) (names_of run) s.replied s.table a.line a.changes a.hits → a.table ≡ commanded (breaks_of run) (names_of run) (with_rows s.table (map (next_row (breaks_of run) s.replied a.line.time.0) s.table.rows)) a.line
  active_line c =
      answered.step.made ∙ ap (λ (h : List Timed). table_on_the_way run.level h (commanded (breaks_of run) (names_of run) (table_on_the_way run.level a.changes s.table) a.line)) no_more
      ∙ ap (λ (r : List PairRow). commanded (breaks_of run) (names_of run) (with_rows s.table r) a.line) rows
    where
      plain : has_no_hit a.changes ≡ true
      plain = none_hit run.level (breaks_of run) s.replied a.line.time.0 s.table.rows a.changes c.toward.may_come (none_back s.past a.changes (none_front (s.past ++ a.changes) a.hits none_at_all))

      no_more : a.hits ≡ []
      no_more = no_hits a.line.time.0 a.hits c.are_hits
          (none_hit run.level (breaks_of run) a.line.time.0 a.line.time.0 (commanded (breaks_of run) (names_of run) (table_on_the_way run.level a.changes s.table) a.line).rows a.hits c.may_come (none_back (s.past ++ a.changes) a.hits none_at_all))

      rows : after_changes run.level a.changes s.table.rows ≡ map (next_row (breaks_of run) s.replied a.line.time.0) s.table.rows
      rows = rows_determined run.level (breaks_of run) s.replied a.line.time.0 a.changes s.table.rows apart c.toward.may_come c.toward.broken c.not_broken_yet c.settled plain

  still_line : is_active s.table ≡ false → a.table ≡ commanded (breaks_of run) (names_of run) s.table a.line
  still_line off =
      let none = answered.step.still off in
      answered.step.made ∙ ap (λ (h : List Timed). table_on_the_way run.level h (commanded (breaks_of run) (names_of run) (table_on_the_way run.level a.changes s.table) a.line)) none.1
      ∙ ap (λ (x : List Timed). commanded (breaks_of run) (names_of run) (table_on_the_way run.level x s.table) a.line) none.0

  -- The table after a line is the one that it asks for.
  pub line_by_text : a.table ≡ commanded (breaks_of run) (names_of run) (table_by run s.replied a.line.time.0 s.table) a.line
  line_by_text = by_activity (is_active s.table) refl
    where
      by_activity : (b : Bool) → is_active s.table ≡ b → a.table ≡ commanded (breaks_of run) (names_of run) (if b then with_rows s.table (map (next_row (breaks_of run) s.replied a.line.time.0) s.table.rows) else s.table) a.line
      by_activity true is = active_line (answered.step.active is)
      by_activity false is = still_line is

-- ---- all lines

fold_more : {X S : Type 0} (f : S → X → S) (s : S) (lines : List X) (n : ℕ) (a : X) → slice_get lines n ≡ Some a → fold f s (take (suc n) lines) ≡ f (fold f s (take n lines)) a
fold_more f s [] n a at = absurd cc
fold_more f s (x ∷ lines) zero a at = ap (f s) (same_some x a at)
fold_more f s (x ∷ lines) (suc n) a at = fold_more f (f s x) lines n a at

pub found : (lines : List Answered) (n : ℕ) → n < length lines → (a : Answered) × (slice_get lines n ≡ Some a)
found [] n within = absurd (omega (arith, within))
found (x ∷ lines) zero within = (x, refl)
found (x ∷ lines) (suc n) within = found lines n (omega (arith, within))

-- The stages of a course of which no volume fails are those that its lines ask for.
pub course_by_lines : (run : ScriptRun) (lines : List Answered) → IsCourse run lines → ((device : ℕ) → run.rises device ≡ 0) → ((n : ℕ) → none_clash (stage_at run lines n).table.rows ≡ true) → (n : ℕ) → n ≤ length lines
    → ((stage_at run lines n).table ≡ (unhit_stage_at run lines n).table) × ((stage_at run lines n).replied ≡ (unhit_stage_at run lines n).replied)
course_by_lines run lines course never apart zero within = (refl, refl)
course_by_lines run lines course never apart (suc n) within =
    let one = found lines n (omega (arith, within)) in
    let a = one.0 in
    let s = stage_at run lines n in
    let u = unhit_stage_at run lines n in
    let before = course_by_lines run lines course never apart n (omega (arith, within)) in
    let after : stage_at run lines (suc n) ≡ stage_after s a = stage_then run lines n a one.1 in
    let asked : unhit_stage_at run lines (suc n) ≡ unhit_after run u a.line = fold_more (λ (x : Stage) (b : Answered). unhit_after run x b.line) (first_stage run) lines n a one.1 in (
      ap (λ (x : Stage). x.table) after
          ∙ line_by_text run s a (course n a one.1) never (apart n)
          ∙ ap (λ (r : ℕ). commanded (breaks_of run) (names_of run) (table_by run r a.line.time.0 s.table) a.line) before.1
          ∙ ap (λ (x : Table). commanded (breaks_of run) (names_of run) (table_by run u.replied a.line.time.0 x) a.line) before.0
          ∙ sym (ap (λ (x : Stage). x.table) asked),
      ap (λ (x : Stage). x.replied) after
          ∙ ap (λ (r : ℕ). if s.table.is_ended then r else a.line.time.0) before.1
          ∙ ap (λ (x : Table). if x.is_ended then u.replied else a.line.time.0) before.0
          ∙ sym (ap (λ (x : Stage). x.replied) asked),
    )
