-- A run that hears a line.
use Rattle.std.proofs.Common.{◌≡◌, inl, inr, ℕ, ◌<◌, ◌≤◌, Bool, true, false, cond, List, [], ◌∷◌, ◌++◌, length, take, Option, Some, None, refl, sym, ap, subst, ◌∙◌, append_assoc, append-nil, arith}
use Rattle.std.specs.Prelude.{◌==◌}
use Rattle.std.proofs.lemmas.Bool.{or_parts}
use Rattle.crash_plant.specs.declared.device.Device.TheVariants.{Control}
use Rattle.crash_plant.specs.Calls.{Elapses, SameSite, WorksOnConsole}
use Rattle.crash_plant.specs.Choices.{Choice, IsChoice}
use Rattle.crash_plant.specs.Moments.{PlantState}
use Rattle.crash_plant.proofs.Choices.{past_choice}
use Rattle.crash_plant.proofs.Steps.{site_trans}
use Rattle.site_means.specs.Images.{Shape, shape_of}
use Rattle.site_means.proofs.Goes.{shape_same}
use Rattle.xrc_command.specs.declared.line.Line.{Line}
use Rattle.consistency.specs.Bearing.{ShowsPoint}
use Rattle.consistency.specs.Stages.{ScriptRun, Stage}
use Rattle.consistency.specs.Pauses.{HadExactReply, HasPassed, RunGoesOn, asked_in}
use Rattle.consistency.specs.Courses.{Answered, last_line_time, lines_begun, lines_begun_from, replies_of, stage_at, texts_of}
use Rattle.consistency.specs.Keeping.{stage_now}
use Rattle.consistency.specs.Moments.{BearsTime}
use Rattle.consistency.specs.Ways.{Leg, PassedPoint, Way}
use Rattle.consistency.specs.Leads.{Point}
use Rattle.consistency.proofs.Lines.{next_not_before, one_line_more, replied_by_last}
use Rattle.consistency.proofs.Moments.{points_stay}
use Rattle.consistency.proofs.Resting.{bears_time_heard}
use Rattle.consistency.proofs.Standing.{bears_on, console_choice}
use Rattle.passages.proofs.InARow.{moments_rise}
use Rattle.script_lines.specs.declared.next.Next.{Next}
use Rattle.script_lines.specs.declared.next.Next.TheVariants as next
use Rattle.script_lines.specs.Hearing.{HearsText, KeepsHearing, SaysNothing}
use Rattle.script_lines.specs.NextLines.{IsNextLine}
use Rattle.script_lines.specs.Texts.{IsFed, IsWhole, has_feed}
use Rattle.xrc_session.proofs.Courses.{none_next}

-- ---- one line

-- No line begins inside another.
none_inside : (text : List ℕ) → has_feed text ≡ false → lines_begun_from true text ≡ 0
none_inside [] none = refl
none_inside (b ∷ text) none =
    let parts = or_parts (b == 10) (has_feed text) none in
    let rest : lines_begun_from (cond (b == 10) false true) text ≡ 0 = ap (λ (f : Bool). lines_begun_from (cond f false true) text) parts.0 ∙ none_inside text parts.1 in
    omega (arith, rest)

pub no_feed_one : (text : List ℕ) → has_feed text ≡ false → lines_begun text ≤ 1
no_feed_one [] none = omega arith
no_feed_one (b ∷ text) none =
    let parts = or_parts (b == 10) (has_feed text) none in
    let rest : lines_begun_from (cond (b == 10) false true) text ≡ 0 = ap (λ (f : Bool). lines_begun_from (cond f false true) text) parts.0 ∙ none_inside text parts.1 in
    omega (arith, rest)

pub fed_one : (text : List ℕ) → IsFed text → lines_begun text ≤ 1
fed_one text fed = subst (λ (l : List ℕ). lines_begun l ≤ 1) (sym fed.text_is) (one_line_more fed.line 10 fed.front.no_feed)

pub whole_one : (tells : Type 0) (text left : List ℕ) → IsWhole tells text left → lines_begun text ≤ 1
whole_one tells text left (inl fed) = fed_one text fed
whole_one tells text left (inr last) = no_feed_one text last.front.no_feed

-- So much is heard of one line.
pub next_one : (tells : Type 0) (number before : ℕ) (text left : List ℕ) (n : Next) → IsNextLine tells number before text left n → lines_begun text ≤ 1
next_one tells number before text left (next.Line line) is = whole_one tells text left is.0
next_one tells number before text left next.Bad (inl bad) = whole_one tells text left bad.0
next_one tells number before text left next.Bad (inr long) = no_feed_one text long.no_feed
next_one tells number before text left next.Nothing is = subst (λ (l : List ℕ). lines_begun l ≤ 1) (sym is.text_is) (omega arith)

-- ---- a run

-- A reply that was exact is so still.
module _ (old new : PlantState) (site : SameSite old new) (elapses : Elapses old new) (run : ScriptRun) where
  passed_stay : (up : 0 < old.clock) (asked : ℕ → Option Line) (first : Leg) (points : List PassedPoint) (to : ℕ) → to ≤ old.clock → HasPassed run asked first points old to → HasPassed run asked first points new to
  passed_stay up asked first points to le passed = record {
    rowless = passed.rowless;
    from = passed.from;
    begins = λ c is. subst (λ (shape : Shape). ShowsPoint run shape first.point c) (sym (shape_same old new site)) (passed.begins c (past_choice old new passed.from c site elapses up from_before is));
    goes = points_stay old new site elapses up run passed.from to first.point points None le passed.goes;
    linked = passed.linked;
  }
    where
      from_before : passed.from ≤ old.clock
      from_before = omega (arith, le, moments_rise Point Way Choice (IsChoice old) (ShowsPoint run (shape_of old)) passed.from to first.point points None passed.goes)

  pub had_exact : (began : ℕ) → began ≤ old.clock → (s : Stage) (before : List Answered) (a : Answered) → HadExactReply run s before a began old → HadExactReply run s before a began new
  had_exact began le s before a had = record {
    first = had.first;
    points = had.points;
    by = had.by;
    within = omega (arith, had.within, (elapses.kept Control).later);
    exact = had.exact;
    told = λ up started.
        let told = had.told up started in
        record { passed = passed_stay (omega (arith, up, le)) (asked_in (before ++ a ∷ [])) had.first had.points had.by had.within told.passed; answered = told.answered; changes = told.changes; rows = told.rows };
  }

module _ (first old new : PlantState) (run : ScriptRun) (lines : List Answered) (text : List ℕ) (goes : RunGoesOn run lines [] first old) (tells : Type 0) (told : tells) (works : WorksOnConsole tells old new)
    (heard : HearsText text old new) (silent : SaysNothing old new) where
  abbrev before : Stage
  before = stage_now run first.script lines []

  abbrev after : Stage
  after = stage_now run first.script lines text

  reaches : old.clock ≤ new.clock
  reaches = ((works.elapses told).kept Control).later

  not_before : (line : Line) → after.next ≡ Some line → before.replied ≤ line.time.0
  not_before line is =
      let later = next_not_before (length lines) (last_line_time lines (length lines)) (length (texts_of lines ++ text) == length first.script) text line is in
      omega (arith, later, replied_by_last run first.script lines (length lines) goes.now.asked (omega arith))

  bears : before.table.is_started ≡ true → (c : Choice) → IsChoice new new.clock c → BearsTime run after (replies_of lines) new c
  bears started c is =
      bears_time_heard run before after.next (replies_of lines) new c (none_next run first.script lines) not_before
      (bears_on run before (replies_of lines) old new c works.site (goes.now.bears started c (console_choice tells told old new new.clock c works reaches (omega arith) is)))

  -- A run goes on while a line is heard.
  pub hearing_goes_on : lines_begun text ≤ 1 → KeepsHearing [] text first old new → RunGoesOn run lines text first new
  hearing_goes_on one keeps = record {
    now = record {
      course = goes.now.course;
      asked = goes.now.asked;
      later = omega (arith, goes.now.later, reaches);
      site = site_trans first old new goes.now.site works.site;
      heard =
          heard.heard ∙ ap (λ (l : List ℕ). l ++ text) goes.now.heard ∙ append_assoc (first.heard first.clock) (texts_of lines ++ []) text
          ∙ ap (λ (l : List ℕ). first.heard first.clock ++ (l ++ text)) (append-nil (texts_of lines));
      script = goes.now.script ∙ ap (λ (l : List ℕ). l ++ old.script) (append-nil (texts_of lines)) ∙ ap (λ (l : List ℕ). texts_of lines ++ l) heard.script ∙ sym (append_assoc (texts_of lines) text new.script);
      said = silent new.clock reaches (omega arith) ∙ goes.now.said;
      one_line = one;
      bears = bears;
      times = goes.now.times;
      short = goes.now.short;
    };
    exact = λ n a at. had_exact old new works.site (works.elapses told) run first.clock goes.now.later (stage_at run lines n) (take n lines) a (goes.exact n a at);
    keeps = λ up. keeps run lines up (goes.keeps up);
  }
