-- The stages of a course: until the session starts, and after its last line.
use Rattle.std.proofs.Common.{◌≡◌, ◌⊎◌, inl, inr, ℕ, zero, suc, ◌<◌, ◌≤◌, Bool, true, false, true≢false, List, [], ◌++◌, length, Some, None, refl, sym, ap, subst, ◌∙◌, arith, get_or, slice_get}
use Rattle.std.specs.Prelude.{◌==◌, is_none, if◌then◌else◌}
use Rattle.std.proofs.lemmas.Bool.{and_right, cases_lt}
use Rattle.std.proofs.lemmas.Option.{slice_get_cases}
use Rattle.pair_table.specs.Commands.{accepted}
use Rattle.pair_table.specs.Refusals.{refusal}
use Rattle.pair_table.specs.Tables.{Table}
use Rattle.row_changes.specs.Changes.{Timed}
use Rattle.row_changes.specs.Spans.{AreCounted}
use Rattle.consistency.specs.Stages.{ScriptRun, Stage, breaks_of, names_of}
use Rattle.consistency.specs.Courses.{Answered, IsAnswered, IsCourse, last_line_time, stage_after, stage_at, texts_of}
use Rattle.consistency.specs.Keeping.{stage_now}
use Rattle.consistency.specs.Steps.{is_active, names_at, table_on_the_way}
use Rattle.consistency.proofs.Lines.{none_heard, stage_then}

-- ---- one line

-- A started session stays started.
pub stays_started : (run : ScriptRun) (s : Stage) (a : Answered) → IsAnswered run s a → s.table.is_started ≡ true → a.table.is_started ≡ true
stays_started run s a answered started =
    let table = table_on_the_way run.level a.changes s.table in
    let names = names_at a.line.time.0 (breaks_of run) (names_of run) in
    ap (λ (t : Table). t.is_started) answered.step.made ∙ by_refusal (is_none (refusal names table a.line.session a.line.command)) (accepted names a.line.time.0 a.line.command table) table refl started
  where
    by_refusal : (b : Bool) (x y : Table) → x.is_started ≡ true → y.is_started ≡ true → (if b then x else y).is_started ≡ true
    by_refusal true x y one two = one
    by_refusal false x y one two = two

-- Before the start no row changes by itself.
unstarted_still : (run : ScriptRun) (s : Stage) (a : Answered) → IsAnswered run s a → s.table.is_started ≡ false → s.past ≡ [] → s.past ++ a.changes ++ a.hits ≡ []
unstarted_still run s a answered unstarted none =
    let off : is_active s.table ≡ false = rw unstarted refl in
    let still = answered.step.still off in
    ap (λ (x : List Timed). x ++ a.changes ++ a.hits) none ∙ ap (λ (x : List Timed). x ++ a.hits) still.0 ∙ still.1

-- ---- lines before

-- What stands at a number of lines, if it isn't after all.
stage_step : (run : ScriptRun) (lines : List Answered) (n : ℕ) → suc n ≤ length lines → (a : Answered) × (slice_get lines n ≡ Some a) × (stage_at run lines (suc n) ≡ stage_after (stage_at run lines n) a)
stage_step run lines n within = by_cases (slice_get_cases lines n).1
  where
    by_cases : ((a : Answered) × (n < length lines) × (slice_get lines n ≡ Some a) × (get_or lines n a ≡ a)) ⊎ ((length lines ≤ n) × (slice_get lines n ≡ None)) → (a : Answered) × (slice_get lines n ≡ Some a) × (stage_at run lines (suc n) ≡ stage_after (stage_at run lines n) a)
    by_cases (inl there) = (there.0, there.2, stage_then run lines n there.0 there.2)
    by_cases (inr none) = absurd (omega (arith, within, none.0))

module _ (run : ScriptRun) (lines : List Answered) (course : IsCourse run lines) where
  started_next : (n : ℕ) → suc n ≤ length lines → (stage_at run lines n).table.is_started ≡ true → (stage_at run lines (suc n)).table.is_started ≡ true
  started_next n within started =
      let step = stage_step run lines n within in
      ap (λ (s : Stage). s.table.is_started) step.2 ∙ stays_started run (stage_at run lines n) step.0 (course n step.0 step.1) started

  -- A session that hasn't started after a line hasn't before it.
  unstarted_then : (n : ℕ) → suc n ≤ length lines → (stage_at run lines (suc n)).table.is_started ≡ false → (stage_at run lines n).table.is_started ≡ false
  unstarted_then n within unstarted = by_flag (stage_at run lines n).table.is_started refl
    where
      by_flag : (b : Bool) → (stage_at run lines n).table.is_started ≡ b → b ≡ false
      by_flag false is = refl
      by_flag true is = absurd (true≢false (sym (started_next n within is) ∙ unstarted))

  pub unstarted_before : (n m : ℕ) → m ≤ n → n ≤ length lines → (stage_at run lines n).table.is_started ≡ false → (stage_at run lines m).table.is_started ≡ false
  unstarted_before zero m le within unstarted = let is : m ≡ 0 = omega (arith, le) in ap (λ (k : ℕ). (stage_at run lines k).table.is_started) is ∙ unstarted
  unstarted_before (suc n) m le within unstarted = by_side (cases_lt n m) (unstarted_before n m)
    where
      by_side : (n < m) ⊎ (m ≤ n) → (m ≤ n → n ≤ length lines → (stage_at run lines n).table.is_started ≡ false → (stage_at run lines m).table.is_started ≡ false) → (stage_at run lines m).table.is_started ≡ false
      by_side (inl past) before = let is : m ≡ suc n = omega (arith, le, past) in ap (λ (k : ℕ). (stage_at run lines k).table.is_started) is ∙ unstarted
      by_side (inr early) before = before early (omega (arith, within)) (unstarted_then n within unstarted)

  -- No row has changed before the start.
  pub unstarted_past : (n : ℕ) → n ≤ length lines → (stage_at run lines n).table.is_started ≡ false → (stage_at run lines n).past ≡ []
  unstarted_past zero within unstarted = refl
  unstarted_past (suc n) within unstarted =
      let step = stage_step run lines n within in
      let before = unstarted_then n within unstarted in
      ap (λ (s : Stage). s.past) step.2 ∙ unstarted_still run (stage_at run lines n) step.0 (course n step.0 step.1) before (unstarted_past n (omega (arith, within)) before)

  -- Each device was hit at most as often as it failed.
  pub past_counted : (n : ℕ) → n ≤ length lines → AreCounted run.rises (stage_at run lines n).past
  past_counted zero within = λ device. omega arith
  past_counted (suc n) within =
      let step = stage_step run lines n within in
      subst (λ (s : Stage). AreCounted run.rises s.past) (sym step.2) (course n step.0 step.1).counted

-- ---- what was heard

-- No line was heard where nothing was.
pub none_next : (run : ScriptRun) (script : List ℕ) (lines : List Answered) → (stage_now run script lines []).next ≡ None
none_next run script lines =
    none_heard (length lines) (last_line_time lines (length lines)) (length (texts_of lines ++ []) == length script) [] (and_right (length (texts_of lines ++ []) == length script) false refl)
