-- A run between its calls.
use Rattle.std.proofs.Common.{◌≡◌, ◌⊎◌, inl, inr, ℕ, ◌^◌, ◌<◌, ◌≤◌, Bool, true, false, not, List, [], ◌∷◌, ◌++◌, length, take, Option, Some, None, refl, sym, ap, subst, ◌∙◌, append_assoc, append-nil, arith}
use Rattle.std.specs.Prelude.{◌==◌, IfSome, is_none, if◌then◌else◌}
use Rattle.std.specs.List.{All}
use Rattle.std.proofs.lemmas.List.{take-append-le, take_all}
use Rattle.std.proofs.lemmas.Option.{slice_get_within}
use Rattle.std.proofs.lemmas.List.Elements.{All-append, All-nil, All-weaker}
use Rattle.crash_plant.specs.declared.device.Device.TheVariants.{Control}
use Rattle.crash_plant.specs.Calls.{Elapses, SameSite, Says, Silent, WorksOnConsole}
use Rattle.crash_plant.specs.Choices.{AtEveryMoment, Choice, IsChoice}
use Rattle.crash_plant.specs.Moments.{PlantState}
use Rattle.crash_plant.proofs.Choices.{past_choice}
use Rattle.crash_plant.proofs.Steps.{site_trans}
use Rattle.pair_table.specs.Commands.{accepted}
use Rattle.pair_table.specs.Refusals.{refusal}
use Rattle.pair_table.specs.Tables.{Table}
use Rattle.row_changes.specs.Changes.{Timed}
use Rattle.row_changes.specs.Spans.{AreCounted}
use Rattle.site_means.specs.declared.means.Means.{Means}
use Rattle.site_means.specs.Images.{Shape, shape_of}
use Rattle.site_means.specs.Sight.{means_of}
use Rattle.site_means.proofs.Goes.{shape_same}
use Rattle.xrc_command.specs.declared.line.Line.{Line}
use Rattle.consistency.specs.Stages.{AreAfterLine, AreOnTheWay, ScriptRun, Stage, breaks_of, names_of}
use Rattle.consistency.specs.Courses.{Answered, IsAnswered, last_line_time, replies_of, stage_after, stage_at, texts_of}
use Rattle.consistency.specs.Keeping.{stage_now}
use Rattle.consistency.specs.Moments.{AreUpTo, BearsThroughout, BearsTime, MeansTable}
use Rattle.consistency.specs.Steps.{names_at, table_on_the_way}
use Rattle.consistency.specs.Times.{times_said}
use Rattle.consistency.proofs.Keeping.{keeps_begins, keeps_says, keeps_says_throughout, keeps_works, stage_answered}
use Rattle.consistency.proofs.Lines.{asked_more, at_or_last, course_more, next_not_before, replied_by_last, replies_more, replies_whole, stage_front, stage_more, texts_more}
use Rattle.consistency.proofs.Pieces.{times_append}
use Rattle.consistency.proofs.Standing.{bears_on, console_choice}
use Rattle.consistency.specs.Bearing.{GoesThroughPoints, MayBeMeant, ShowsPoint}
use Rattle.consistency.specs.Pauses.{AreSaidOf, HadExactReplies, HadExactReply, HasPassed, MayReply, RunGoesOn, ShowsMeant, asked_in}
use Rattle.consistency.specs.Leads.{Point}
use Rattle.consistency.specs.Ways.{Leg, PassedPoint, Way, stage_point}
use Rattle.consistency.proofs.Bearing.{points_bear}
use Rattle.passages.proofs.InARow.{all_shown, moments_rise}
use Rattle.consistency.proofs.Moments.{points_stay}
use Rattle.consistency.proofs.Leading.{leads_toward, whole_itself}
use Rattle.consistency.proofs.Replying.{exact_says_up_to}

-- A run that has made no call yet goes on.
pub runs_begin : (plant : PlantState) (run : ScriptRun) → RunGoesOn run [] [] plant plant
runs_begin plant run =
    let begun = keeps_begins run plant in
    record {
      now = record {
        course = begun.course;
        asked = begun.asked;
        later = begun.later;
        site = begun.site;
        heard = begun.heard;
        script = begun.script;
        said = begun.said;
        one_line = begun.one_line;
        bears = λ started. absurd cc;
        times = All-nil (λ z. z ≤ 0);
        short = omega arith;
      };
      exact = λ n a at. absurd cc;
      keeps = λ up. begun;
    }

-- What isn't after a time isn't after a later one.
up_to_later : (early late : ℕ) (times : List ℕ) → early ≤ late → AreUpTo early times → AreUpTo late times
up_to_later early late times le all = All-weaker (λ z. z ≤ early) (λ z. z ≤ late) (λ z at. omega (arith, le, at)) times all

-- ---- exact replies

module _ (old new : PlantState) (site : SameSite old new) (elapses : Elapses old new) (run : ScriptRun) where
  module _ (up : 0 < old.clock) where
    -- Points that were passed stay passed.
    passed_stay : (asked : ℕ → Option Line) (first : Leg) (points : List PassedPoint) (to : ℕ) → to ≤ old.clock → HasPassed run asked first points old to → HasPassed run asked first points new to
    passed_stay asked first points to le passed = record {
      rowless = passed.rowless;
      from = passed.from;
      begins = λ c is. subst (λ (shape : Shape). ShowsPoint run shape first.point c) (sym (shape_same old new site)) (passed.begins c (past_choice old new passed.from c site elapses up from_before is));
      goes = points_stay old new site elapses up run passed.from to first.point points None le passed.goes;
      linked = passed.linked;
    }
      where
        from_before : passed.from ≤ old.clock
        from_before = omega (arith, le, moments_rise Point Way Choice (IsChoice old) (ShowsPoint run (shape_of old)) passed.from to first.point points None passed.goes)

    told_stay : (s : Stage) (before : List Answered) (first : Leg) (points : List PassedPoint) (a : Answered) (to : ℕ) → to ≤ old.clock → AreSaidOf run s before first points a old to → AreSaidOf run s before first points a new to
    told_stay s before first points a to le told = record { passed = passed_stay (asked_in (before ++ a ∷ [])) first points to le told.passed; answered = told.answered; changes = told.changes; rows = told.rows }

  -- A reply stays exact.
  exact_stays : (began : ℕ) → began ≤ old.clock → (s : Stage) (before : List Answered) (a : Answered) → HadExactReply run s before a began old → HadExactReply run s before a began new
  exact_stays began le s before a had = record {
    first = had.first;
    points = had.points;
    by = had.by;
    within = omega (arith, had.within, (elapses.kept Control).later);
    exact = had.exact;
    told = λ up started. told_stay (omega (arith, up, le)) s before had.first had.points a had.by had.within (had.told up started);
  }

-- The replies to some lines and to one more were exact.
exact_more : (run : ScriptRun) (began : ℕ) (plant : PlantState) (lines : List Answered) (a : Answered) → HadExactReplies run lines began plant → HadExactReply run (stage_at run lines (length lines)) lines a began plant → HadExactReplies run (lines ++ a ∷ []) began plant
exact_more run began plant lines a all one n b at = elim (at_or_last lines a n b at) [
  | inl here ↦ put n b (omega (arith, slice_get_within lines n b here)) (all n b here)
  | inr last ↦ put n b (omega (arith, last.0)) (there n b last.0 last.1)
]
  where
    put : (n : ℕ) (b : Answered) → n ≤ length lines → HadExactReply run (stage_at run lines n) (take n lines) b began plant → HadExactReply run (stage_at run (lines ++ a ∷ []) n) (take n (lines ++ a ∷ [])) b began plant
    put n b within had =
        subst (λ (s : Stage). HadExactReply run s (take n (lines ++ a ∷ [])) b began plant) (sym (stage_front run lines (a ∷ []) n within))
        (subst (λ (l : List Answered). HadExactReply run (stage_at run lines n) l b began plant) (sym (take-append-le n lines (a ∷ []) within)) had)

    whole : HadExactReply run (stage_at run lines (length lines)) (take (length lines) lines) a began plant
    whole = subst (λ (l : List Answered). HadExactReply run (stage_at run lines (length lines)) l a began plant) (sym (take_all (length lines) lines (omega arith))) one

    there : (n : ℕ) (b : Answered) → n ≡ length lines → a ≡ b → HadExactReply run (stage_at run lines n) (take n lines) b began plant
    there n b is same = subst (λ (m : ℕ). HadExactReply run (stage_at run lines m) (take m lines) b began plant) (sym is) (subst (λ (x : Answered). HadExactReply run (stage_at run lines (length lines)) (take (length lines) lines) x began plant) same whole)

-- ---- works

pub works_go_on : (first old new : PlantState) (run : ScriptRun) (lines : List Answered) (text : List ℕ) → RunGoesOn run lines text first old → SameSite old new → Elapses old new → Silent old new
    → ((stage_now run first.script lines text).table.is_started ≡ true → AtEveryMoment (ShowsMeant run (stage_now run first.script lines text) new) old new) → RunGoesOn run lines text first new
works_go_on first old new run lines text goes site elapses silent means = record {
  now = record {
    course = goes.now.course;
    asked = goes.now.asked;
    later = omega (arith, goes.now.later, later);
    site = site_trans first old new goes.now.site site;
    heard = silent.heard new.clock later (omega arith) ∙ goes.now.heard;
    script = goes.now.script ∙ ap (λ (l : List ℕ). texts_of lines ++ text ++ l) (sym silent.script);
    said = silent.said new.clock later (omega arith) ∙ goes.now.said;
    one_line = goes.now.one_line;
    bears = λ started c is. bears c (means started new.clock later (omega arith) c is);
    times = goes.now.times;
    short = goes.now.short;
  };
  exact = λ n a at. exact_stays old new site elapses run first.clock goes.now.later (stage_at run lines n) (take n lines) a (goes.exact n a at);
  keeps = λ up. keeps_works run lines text first old new up (goes.keeps up) site elapses silent (λ started t since to c is. bears c (means started t since to c is));
}
  where
    later : old.clock ≤ new.clock
    later = (elapses.kept Control).later

    bears : (c : Choice) → ShowsMeant run (stage_now run first.script lines text) new c → BearsTime run (stage_now run first.script lines text) (replies_of lines) new c
    bears c shown = record {
      time = shown.0.time;
      bears = points_bear run (stage_now run first.script lines text) (shape_of new) shown.0 c shown.2 shown.1;
      not_earlier = up_to_later (stage_at run lines (length lines)).replied shown.0.time (times_said (replies_of lines)) shown.1.in_time.0 goes.now.times;
    }

pub passages_go_on : (first old new : PlantState) (run : ScriptRun) (lines : List Answered) (text : List ℕ) (p : Point) (points : List PassedPoint) (next : Option Point) → RunGoesOn run lines text first old
    → SameSite old new → Elapses old new → Silent old new
    → (let s = stage_now run first.script lines text in s.table.is_started ≡ true → GoesThroughPoints run new old.clock p points new.clock next × MayBeMeant run s p × All (λ n. MayBeMeant run s n.point) points × IfSome next (MayBeMeant run s))
    → RunGoesOn run lines text first new
passages_go_on first old new run lines text p points next goes site elapses silent passed =
    works_go_on first old new run lines text goes site elapses silent (λ started t since to c is.
    let way = passed started in
    all_shown Point Way Choice (IsChoice new) (ShowsPoint run (shape_of new)) (MayBeMeant run (stage_now run first.script lines text)) old.clock new.clock p points next way.1 way.2 way.3 way.0 t since to c is)

-- ---- a stage's own point

-- The point of a stage may be meant at it, where no line was heard.
pub stages_are_points : (run : ScriptRun) (s : Stage) → s.next ≡ None → AreCounted run.rises s.past → MayBeMeant run s (stage_point s)
stages_are_points run s none counted = record { ended = inr refl; in_time = (omega arith, timed s.next none); rows = rested s.table.is_ended }
  where
    timed : (n : Option Line) → n ≡ None → (let T : Type 0 = elim n [ None ↦ s.replied ≡ s.replied | Some line ↦ elim s.table.is_ended [ true ↦ s.replied ≡ s.replied | false ↦ s.replied ≤ line.time.0 ] ] in T)
    timed None is = refl
    timed (Some line) is = absurd cc

    on_the_way : AreOnTheWay run s s.replied s.table.rows
    on_the_way = record {
      changes = [];
      toward = leads_toward run.level (breaks_of run) (not (is_none s.next)) (stage_point s) (stage_point s) [] refl refl (whole_itself run.level (breaks_of run) (stage_point s));
      counted = subst (λ (l : List Timed). AreCounted run.rises l) (sym (append-nil s.past)) counted;
      made = refl;
    }

    rested : (e : Bool) → (let T : Type 0 = elim e [ true ↦ s.table.rows ≡ s.table.rows | false ↦ AreOnTheWay run s s.replied s.table.rows ⊎ AreAfterLine run s s.replied s.table.rows ] in T)
    rested true = refl
    rested false = inl on_the_way

-- ---- replies

module _ (run : ScriptRun) (lines : List Answered) (from : Leg) (points : List PassedPoint) (a : Answered) (first old new : PlantState) (goes : RunGoesOn run lines a.text first old)
    (reply : MayReply run (stage_now run first.script lines a.text) lines from points a old) (tells : Type 0) (told : tells) (works : WorksOnConsole tells old new) (says : Says a.reply old new) where
  abbrev s : Stage
  s = stage_now run first.script lines a.text

  abbrev before : Stage
  before = stage_at run lines (length lines)

  abbrev next_stage : Stage
  next_stage = stage_after before a

  answered : IsAnswered run before a
  answered = record { step = reply.answered.step; counted = reply.answered.counted; level = reply.answered.level; is_reply = reply.answered.is_reply }

  -- The time of the session doesn't fall.
  rises : before.replied ≤ next_stage.replied
  rises =
      let later = next_not_before (length lines) (last_line_time lines (length lines)) (length (texts_of lines ++ a.text) == length first.script) a.text a.line reply.asks in
      let last = replied_by_last run first.script lines (length lines) goes.now.asked (omega arith) in
      by_end before.table.is_ended (omega (arith, later, last))
    where
      by_end : (e : Bool) → before.replied ≤ a.line.time.0 → before.replied ≤ (if e then before.replied else a.line.time.0)
      by_end true le = omega arith
      by_end false le = le

  short_after : next_stage.replied < 2 ^ 64
  short_after = by_end before.table.is_ended
    where
      by_end : (e : Bool) → (if e then before.replied else a.line.time.0) < 2 ^ 64
      by_end true = goes.now.short
      by_end false = reply.short

  -- No time that was said is after it.
  said_up_to : AreUpTo next_stage.replied (times_said (replies_of lines ++ a.reply))
  said_up_to =
      subst (λ (l : List ℕ). AreUpTo next_stage.replied l) (sym (times_append (replies_of lines) a.reply (replies_whole run lines goes.now.course)))
      (All-append (λ z. z ≤ next_stage.replied) (times_said (replies_of lines)) (times_said a.reply) (up_to_later before.replied next_stage.replied (times_said (replies_of lines)) rises goes.now.times)
      (exact_says_up_to run s from.point points (length lines) a reply.names goes.now.short reply.short reply.exact))

  -- A started session stays started.
  stays_started : before.table.is_started ≡ true → a.table.is_started ≡ true
  stays_started started =
      let table = table_on_the_way run.level a.changes before.table in
      let names = names_at a.line.time.0 (breaks_of run) (names_of run) in
      ap (λ (t : Table). t.is_started) answered.step.made ∙ by_refusal (is_none (refusal names table a.line.session a.line.command)) (accepted names a.line.time.0 a.line.command table) table refl started
    where
      by_refusal : (b : Bool) (x y : Table) → x.is_started ≡ true → y.is_started ≡ true → (if b then x else y).is_started ≡ true
      by_refusal true x y one two = one
      by_refusal false x y one two = two

  -- The point after the line bears the time of the reply, before and after it.
  bears_at : (stage : Stage) → MayBeMeant run stage (stage_point next_stage) → (c : Choice) → ShowsPoint run (shape_of old) (stage_point next_stage) c → BearsTime run stage (replies_of lines ++ a.reply) old c
  bears_at stage may c shown = record { time = next_stage.replied; bears = points_bear run stage (shape_of old) (stage_point next_stage) c shown may; not_earlier = said_up_to }

  during : s.table.is_started ≡ true → (c : Choice) → IsChoice old old.clock c → BearsTime run s (replies_of lines ++ a.reply) old c
  during started c is = bears_at s (reply.may started) c (reply.shows (stays_started started) c is)

  after : a.table.is_started ≡ true → (c : Choice) → IsChoice old old.clock c → BearsTime run next_stage (replies_of lines ++ a.reply) old c
  after started c is = bears_at next_stage (stages_are_points run next_stage refl answered.counted) c (reply.shows started c is)

  mean : a.table.is_started ≡ true → (c : Choice) → IsChoice old old.clock c → (means : Means) × (means_of old c ≡ Some means) × MeansTable next_stage means
  mean started c is = let shown = reply.shows started c is in (shown.means, shown.defined, record { rows = shown.rows; time = shown.at; ended = shown.ended })

  -- The reply was exact, and those before it.
  exact_now : HadExactReply run before lines a first.clock old
  exact_now = record {
    first = from;
    points = points;
    by = old.clock;
    within = omega arith;
    exact = reply.exact;
    told = λ up started. let was = reply.told (omega (arith, up, goes.now.later)) started in record { passed = was.passed; answered = was.answered; changes = was.changes; rows = was.rows };
  }

  abbrev all : List Answered
  all = lines ++ a ∷ []

  exact_all : HadExactReplies run all first.clock new
  exact_all n b at = exact_stays old new works.site (works.elapses told) run first.clock goes.now.later (stage_at run all n) (take n all) b (exact_more run first.clock old lines a goes.exact exact_now n b at)

  -- On a plant that keeps its past each moment bears, whether the reply is said whole or in part.
  pub replies_fail : 0 < first.clock → BearsThroughout run all first new
  replies_fail up = keeps_says_throughout run lines a.text first old new up (goes.keeps up) tells told works a says refl answered reply.asks during after mean

  reaches : old.clock ≤ new.clock
  reaches = ((works.elapses told).kept Control).later

  -- The texts of all lines are those of the lines before and that of the last.
  texts_all : texts_of lines ++ a.text ≡ texts_of all ++ []
  texts_all = sym (texts_more lines a) ∙ sym (append-nil (texts_of all))

  -- After the reply each choice bears a time at the stage after the line.
  bears_now : (stage_now run first.script all []).table.is_started ≡ true → (c : Choice) → IsChoice new new.clock c → BearsTime run (stage_now run first.script all []) (replies_of all) new c
  bears_now started c is =
      let next_is = stage_answered run first.script lines a in
      let left = console_choice tells told old new new.clock c works reaches (omega arith) is in
      bears_on run (stage_now run first.script all []) (replies_of all) old new c works.site
      (subst (λ (x : Stage). BearsTime run x (replies_of all) old c) (sym next_is)
      (subst (λ (l : List ℕ). BearsTime run next_stage l old c) (sym (replies_more lines a)) (after (subst (λ (x : Stage). x.table.is_started ≡ true) next_is started) c left)))

  -- Once it was said whole, the run goes on with one line more.
  pub replies_go_on : new.said new.clock ≡ old.said old.clock ++ a.reply → RunGoesOn run all [] first new
  replies_go_on whole = record {
    now = record {
      course = course_more run lines a goes.now.course answered;
      asked = asked_more first.script lines a goes.now.asked (record { asks = reply.asks; one_line = goes.now.one_line });
      later = omega (arith, goes.now.later, reaches);
      site = site_trans first old new goes.now.site works.site;
      heard = says.heard new.clock reaches (omega arith) ∙ goes.now.heard ∙ ap (λ (l : List ℕ). first.heard first.clock ++ l) texts_all;
      script = goes.now.script ∙ ap (λ (l : List ℕ). texts_of lines ++ a.text ++ l) (sym says.script) ∙ ap (λ (l : List ℕ). l ++ new.script) texts_all;
      said = whole ∙ ap (λ (l : List ℕ). l ++ a.reply) goes.now.said ∙ append_assoc (first.said first.clock) (replies_of lines) a.reply ∙ ap (λ (l : List ℕ). first.said first.clock ++ l) (sym (replies_more lines a));
      one_line = omega arith;
      bears = bears_now;
      times = subst (λ (x : Stage). AreUpTo x.replied (times_said (replies_of all))) (sym (stage_more run lines a)) (subst (λ (l : List ℕ). AreUpTo next_stage.replied (times_said l)) (sym (replies_more lines a)) said_up_to);
      short = subst (λ (x : Stage). x.replied < 2 ^ 64) (sym (stage_more run lines a)) short_after;
    };
    exact = exact_all;
    keeps = λ up. keeps_says run lines a.text first old new up (goes.keeps up) tells told works a says refl answered reply.asks during after mean whole;
  }
