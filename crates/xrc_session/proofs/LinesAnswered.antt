-- A line after whose command a session stands may be replied to, and the session stands after the line.
use Rattle.xrc_session.specs.MapsTaken.{WantsOwed}
use Rattle.xrc_session.proofs.OnTrail.{shown_on_trail}
use Rattle.std.proofs.Common.{◌≡◌, inl, inr, ℕ, ◌^◌, ◌<◌, Bool, true, false, true≢false, List, [], ◌∷◌, ◌++◌, length, Option, Some, None, refl, sym, ap, subst, ◌∙◌, arith}
use Rattle.std.specs.Prelude.{◌&&◌, not, fold, IsSomeAnd, MatchOption}
use Rattle.std.proofs.lemmas.List.{length_push}
use Rattle.crash_plant.specs.Choices.{AtNow}
use Rattle.crash_plant.specs.Moments.{PlantState}
use Rattle.pair_table.specs.declared.command.Command.TheVariants.{Start}
use Rattle.pair_table.specs.declared.level.Level.{Level}
use Rattle.pair_table.specs.declared.row.PairRow.{PairRow}
use Rattle.pair_table.specs.Commands.{is_end}
use Rattle.pair_table.specs.Tables.{Table}
use Rattle.row_changes.specs.Changes.{Timed, after_changes}
use Rattle.row_changes.specs.Changes.Due.{NoneDue}
use Rattle.site_means.specs.Images.{shape_of}
use Rattle.xrc_command.specs.declared.line.Line.{Line}
use Rattle.site_store.specs.Sites.{SiteState}
use Rattle.consistency.specs.Answering.{answered_by, reply_content, points_before}
use Rattle.consistency.specs.Bearing.{MayBeMeant, ShowsPoint}
use Rattle.consistency.specs.Stages.{ScriptRun, Stage, accepts, accepts_end, breaks_of, names_of}
use Rattle.consistency.specs.Pauses.{AreSaidOf, HasPassed, MayReply, asked_in}
use Rattle.consistency.specs.Courses.{Answered, IsAnswered}
use Rattle.consistency.specs.Leads.{Comes, Point}
use Rattle.consistency.specs.Replying.{HasNames, IsExact}
use Rattle.consistency.specs.Steps.{commanded, is_active, names_at, table_on_the_way}
use Rattle.consistency.specs.Ways.{ComesBy, ComesNext, IsLegOf, Leg, PassedPoint, Way, last_answered, leg_after, leg_by, stage_point, table_at}
use Rattle.consistency.specs.Ways.Way.{Commanded}
use Rattle.consistency.proofs.Keeping.{stage_answered}
use Rattle.consistency.proofs.Legs.{ends_alike}
use Rattle.consistency.proofs.Lines.{stage_front, stage_more}
use Rattle.consistency.proofs.Naming.{course_has_names}
use Rattle.consistency.proofs.Replying.{inactive_exactly}
use Rattle.passages.specs.Points.{AreLinked}
use Rattle.mover.specs.declared.lane.Lane.{Lane}
use Rattle.mover.specs.Epochs.{LanesBrokeAs}
use Rattle.mover.specs.Working.{LinesAsked}
use Rattle.xrc_status.specs.declared.stop.Stop.TheVariants.{NoMemory}
use Rattle.xrc_session.specs.declared.answering.LineAnswer.{LineAnswer}
use Rattle.xrc_session.specs.Answering.{AreOfCommand, HasCommanded, stage_then}
use Rattle.xrc_session.specs.Answering.AreOfCommand.{AfterMark, OfCommand, OfEnd}
use Rattle.xrc_session.specs.AppliedEnds.{IsAllApplied}
use Rattle.xrc_session.specs.LinePauses.{GoesOnFrom, HasComeToRest, HasNotBegun, IsRunOfSession, RestsAtSite, StandsAfterLines, StandsAtLeg, site_point, stage_after_text}
use Rattle.xrc_session.specs.Ends.{StopsInLine}
use Rattle.xrc_session.specs.States.{SessionState, site_time}
use Rattle.xrc_session.specs.Steps.{IsExactAfter, IsToReply, PassesPointsOn, SaysAnswer, line_answered}
use Rattle.xrc_session.specs.Trails.{AreNext, BeginsAtStart, BringsChanges, GoesForth, Trail, asked_with, first_leg, last_leg, with_points, StandsOnTrail}
use Rattle.xrc_session.proofs.Asked.{asked_of_lines, asked_there, fold_append}
use Rattle.xrc_session.proofs.Courses.{none_next, past_counted}
use Rattle.xrc_session.proofs.LinesWithin.{IsWithin}
use Rattle.xrc_session.proofs.OfCommands.{AreOfLine, HasJustBegun, brings_of_line, just_begun, line_answers, told_of_line}
use Rattle.xrc_session.proofs.Trails.{asked_then, first_then, forth_answered, next_answered}

-- ---- an ended session

-- It accepts no end.
never_ended : (run : ScriptRun) (p : Point) (o : Option Line) → p.is_ended ≡ true → accepts_end run (table_at run p) o ≡ true → ⊥
never_ended run p o ended accepted = never o (subst (λ (e : Bool). accepts_end run (table_at run (record p { is_ended = e })) o ≡ true) ended accepted)
  where
    never : (o : Option Line) → accepts_end run (table_at run (record p { is_ended = true })) o ≡ true → ⊥
    never None is = absurd cc
    never (Some m) is = by_end (is_end m.command) is
      where
        by_end : (b : Bool) → (let v : Bool = elim b [ true ↦ accepts run (table_at run (record p { is_ended = true })) m | false ↦ false ] in v ≡ true) → ⊥
        by_end true e = cc
        by_end false e = cc

-- It stays ended.
ended_stays : (run : ScriptRun) (table : Table) (line : Line) → table.is_ended ≡ true → (commanded (breaks_of run) (names_of run) table line).is_ended ≡ true
ended_stays run table line ended = subst (λ (e : Bool). (commanded (breaks_of run) (names_of run) (record table { is_ended = e }) line).is_ended ≡ true) (sym ended) refl

-- Its lines change nothing.
ended_command : (run : ScriptRun) (asked : LinesAsked) (number : ℕ) (hits : List Timed) (l : Leg) (more : List PassedPoint) → l.point.is_ended ≡ true → AreOfCommand number hits more → AreLinked (ComesNext run asked) leg_after l more → hits ≡ []
ended_command run asked number hits l more ended (OfCommand n is) linked = ((subst (λ (w : Way). ComesBy run asked l n.point w) is linked.0.0).2.ended ended).1
ended_command run asked number hits l more ended (OfEnd n m own follows is ends all) linked =
    let come = subst (λ (w : Way). ComesBy run asked l n.point w) is linked.0.0 in
    let there = subst (λ (w : Way). ComesNext run asked (leg_by l n.point w) m) is linked.1.0 in
    let ending = subst (λ (w : Way). ComesBy run asked (leg_by l n.point (Commanded number own)) m.point w) ends there.0 in
    absurd (never_ended run n.point (asked number) (ap (λ (p : Point). p.is_ended) (come.2.ended ended).0 ∙ ended) ending.1.accepted)
ended_command run asked number hits l more ended (AfterMark n points (inl way) rest) linked =
    let come = subst (λ (w : Way). ComesBy run asked l n.point w) way linked.0.0 in
    absurd (true≢false (sym ended ∙ come.0.goes_on))
ended_command run asked number hits l more ended (AfterMark n points (inr marked) rest) linked =
    let come = subst (λ (w : Way). ComesBy run asked l n.point w) marked.1 linked.0.0 in
    absurd (true≢false (sym ended ∙ come.1.goes_on))

-- ---- a leg that has just begun

-- It stands at the point of its stage.
begun_at : (run : ScriptRun) (s : Stage) (before l : Leg) → IsLegOf run s l → HasJustBegun before l → l.point ≡ stage_point s
begun_at run s before l leg begun =
    let there : Comes run.level (breaks_of run) NoneDue s.replied l.point.time s.table.rows [] l.point.due = subst (λ (c : List Timed). Comes run.level (breaks_of run) NoneDue s.replied l.point.time s.table.rows c l.point.due) begun.changes leg.whole.leads.may_come in
    let time : l.point.time ≡ s.replied = sym begun.replied ∙ leg.replied in
    let rows : l.point.rows ≡ s.table.rows = leg.whole.leads.rows ∙ ap (λ (c : List Timed). after_changes run.level c s.table.rows) begun.changes in
    (λ i. record { time = time i; rows = rows i; due = sym there.1 i; is_ended = leg.whole.leads.goes_on i })

-- ---- after the command

-- What a session has that stands after the command of a line.
pub record IsAfterCommand {S : Type 0} (run : ScriptRun) (s : SessionState) (lanes : List (Lane S)) (site : SiteState) (now : PlantState) : Type 0 where
  pub its : IsRunOfSession s run
  pub site_is : s.site ≡ Some site
  pub table : s.table ≡ site.table
  pub flag : site.mark.ended ≡ site.table.is_ended
  pub told : site.told ≡ site.table.rows
  pub session : site.table.session ≡ run.session
  pub started : site.table.is_started ≡ true
  pub named : site.table.is_ended ≡ false → s.names ≡ names_at site.time (breaks_of run) (names_of run)
  pub broke : LanesBrokeAs site.time run.traces lanes
  pub applied : site.table.is_ended ≡ true → IsAllApplied now now.clock

-- What a line finds at a leg: it is at the point of the stage, where the session has ended.
pub record IsAtLeg (run : ScriptRun) (lines : List Answered) (stage : Stage) (l : Leg) : Type 0 where
  pub leg : IsLegOf run stage l
  pub answered : l.answered ≡ length lines
  pub ended : stage.table.is_ended ≡ true → (l.point ≡ stage_point stage) × (l.changes ≡ [])

module _ {S : Type 0} (run : ScriptRun) (lines : List Answered) (trail : Trail) (more : List PassedPoint) (text : List ℕ) (line : Line) (began mid new : PlantState) (heard : (stage_after_text run lines text began).next ≡ Some line)
    (before : IsWithin run lines trail text (Some line) began mid) (at_leg : IsAtLeg run lines (stage_after_text run lines text began) (last_leg run lines trail)) (follows : IsWithin run lines (with_points more trail) text (Some line) began new)
    (passes : PassesPointsOn run (stage_after_text run lines text began) (asked_with lines (Some line)) (last_leg run lines trail) more None mid new) (answered : LineAnswer) (s : SessionState) (lanes : List (Lane S)) (site : SiteState)
    (stands : IsAfterCommand run s lanes site new)
    (done : HasCommanded run (stage_after_text run lines text began) line (asked_with lines (Some line)) (last_leg run lines trail) (first_leg run lines trail).point trail.points more answered site began new s.group) (short : line.time.0 < 2 ^ 64) where
  abbrev stage : Stage
  stage = stage_after_text run lines text began

  abbrev asked : LinesAsked
  asked = asked_with lines (Some line)

  abbrev l : Leg
  l = last_leg run lines trail

  abbrev first : Leg
  first = first_leg run lines trail

  abbrev after : Trail
  after = with_points more trail

  abbrev last : Leg
  last = fold leg_after l more

  abbrev then_stage : Stage
  then_stage = stage_then run stage line l done.hits

  asked_is : asked l.answered ≡ stage.next
  asked_is = asked_there lines (Some line) l.answered at_leg.answered ∙ sym heard

  joined : last_leg run lines after ≡ last
  joined = fold_append first trail.points more

  begun : HasJustBegun l last
  begun = just_begun l.answered done.hits l more done.by

  at : StandsAtLeg run then_stage last site began new
  at = done.at stands.flag

  point_is : last.point ≡ stage_point then_stage
  point_is = begun_at run then_stage l last at.leg begun

  has_names : HasNames stage.table
  has_names = course_has_names run lines stands.its.names before.goes.now.course (length lines) (omega arith)

  of_line : AreOfLine run stage asked first trail.points more l.answered done.hits
  of_line = record { before = before.next; leg = at_leg.leg; none_marked = before.marked; answered = refl; after = passes.linked; by = done.by }

  -- ---- the answer

  level_none : stage.table.is_ended ≡ true → (level : Level) → line.command ≡ Start level → accepts run stage.table line ≡ true → level ≡ run.level
  level_none ended level start accepted = let refused : accepts run stage.table line ≡ false = rw ended refl in absurd (true≢false (sym accepted ∙ refused))

  ended_answers : stage.table.is_ended ≡ true → (reply : List ℕ) (p : Point) (points : List PassedPoint) (number : ℕ) → (let a = answered_by run stage text reply line l.changes done.hits in IsExact run stage p points number a → IsAnswered run stage a)
  ended_answers ended reply p points number =
      let rest = at_leg.ended ended in
      let none : done.hits ≡ [] = ended_command run asked l.answered done.hits l more (ap (λ (q : Point). q.is_ended) rest.0 ∙ ended) done.by passes.linked in
      let off : is_active stage.table ≡ false = rw ended (off_if stage.table.is_started) in
      subst (λ (c : List Timed). let a = answered_by run stage text reply line c done.hits in IsExact run stage p points number a → IsAnswered run stage a) (sym rest.1)
      (subst (λ (h : List Timed). let a = answered_by run stage text reply line [] h in IsExact run stage p points number a → IsAnswered run stage a) (sym none)
      (inactive_exactly run stage text reply line p points number off (past_counted run lines before.goes.now.course (length lines) (omega arith)) (level_none ended) has_names))
    where
      off_if : (b : Bool) → (b && not true) ≡ false
      off_if true = refl
      off_if false = refl

  answers : (reply : List ℕ) (p : Point) (points : List PassedPoint) (number : ℕ) → (let a = answered_by run stage text reply line l.changes done.hits in IsExact run stage p points number a → IsAnswered run stage a)
  answers reply p points number = by_end stage.table.is_ended refl
    where
      by_end : (e : Bool) → stage.table.is_ended ≡ e → (let a = answered_by run stage text reply line l.changes done.hits in IsExact run stage p points number a → IsAnswered run stage a)
      by_end true ended = ended_answers ended reply p points number
      by_end false goes = line_answers run stage goes has_names asked l.answered line heard asked_is done.hits l at_leg.leg more done.by passes.linked text reply p points number

  module _ (reply : List ℕ) where
    abbrev a : Answered
    a = line_answered run lines text line l.changes done.hits began reply

    first_is : first_leg run (lines ++ a ∷ []) after ≡ first
    first_is = first_then run lines after a before.started

    last_is : last_leg run (lines ++ a ∷ []) after ≡ last
    last_is = ap (λ (k : Leg). fold leg_after k after.points) first_is ∙ joined

    -- ---- the reply

    passed : 0 < new.clock → HasPassed run (asked_in (lines ++ a ∷ [])) first after.points new new.clock
    passed up =
        let forth = follows.goes_forth up in
        record {
          rowless = forth.rowless;
          from = forth.from;
          begins = forth.begins;
          goes = forth.goes;
          linked = subst (λ (f : LinesAsked). AreLinked (ComesNext run f) leg_after first after.points) (sym (asked_of_lines lines a)) forth.linked;
        }

    told : 0 < new.clock → AreSaidOf run stage lines (first_leg run (lines ++ a ∷ []) after) after.points a new new.clock
    told up =
        subst (λ (k : Leg). AreSaidOf run stage lines k after.points a new new.clock) (sym first_is)
        (told_of_line run stage asked first trail.points more l.answered done.hits of_line lines a new new.clock at_leg.answered refl (passed up))

    brings : BringsChanges run stage (first_leg run (lines ++ a ∷ []) after) after.points (length lines) a
    brings =
        subst (λ (k : Leg). BringsChanges run stage k after.points (length lines) a) (sym first_is)
        (brings_of_line run stage asked first trail.points more l.answered done.hits of_line lines a at_leg.answered refl)

    may_reply : IsExactAfter run lines after text began a → MayReply run stage lines (first_leg run (lines ++ a ∷ []) after) after.points a new
    may_reply exact = record {
      asks = heard;
      answered = answers reply (first_leg run (lines ++ a ∷ []) after).point after.points (length lines) exact;
      exact = exact;
      names = has_names;
      short = short;
      told = λ up started. told up;
      may = λ started. subst (λ (p : Point). MayBeMeant run stage p) (ap (λ (k : Leg). k.point) joined ∙ point_is) follows.may;
      shows = λ started c is. subst (λ (p : Point). ShowsPoint run (shape_of new) p c) (sym at.here ∙ point_is) (at.shows c is);
    }

    -- ---- after the line

    abbrev after_stage : Stage
    after_stage = stage_after_text run (lines ++ a ∷ []) [] began

    stage_is : after_stage ≡ then_stage
    stage_is = stage_answered run began.script lines a

    -- The session's table is that of its point.
    site_table : site.table ≡ table_at run (site_point site)
    site_table = λ i. record { session = stands.session i; is_started = stands.started i; is_ended = sym stands.flag i; rows = sym stands.told i }

    table_is : after_stage.table ≡ s.table
    table_is =
        ap (λ (x : Stage). x.table) stage_is ∙ at.leg.table ∙ ap (table_at run) (sym point_is ∙ at.here) ∙ sym site_table ∙ sym stands.table

    -- The line's end, if it is one, isn't to come.
    ends_now : accepts_end run (table_at run last.point) (Some line) ≡ true → last.point.is_ended ≡ false → stage.table.is_ended ≡ false → ⊥
    ends_now accepted goes_on goes =
        let p : Point = record (stage_point stage) { rows = after_changes run.level l.changes stage.table.rows } in
        let there : table_at run p ≡ table_on_the_way run.level l.changes stage.table = sym (ap (λ (x : Table). record x { rows = after_changes run.level l.changes stage.table.rows }) at_leg.leg.table) in
        let alike = ends_alike run last.point p (Some line) (goes_on ∙ sym goes) accepted in
        let ends : a.table.is_ended ≡ true =
        ap (λ (x : Table). (commanded (breaks_of run) (names_of run) x line).is_ended) (sym there) ∙ by_end p (is_end line.command) refl alike in
        absurd (true≢false (sym ends ∙ sym at.leg.whole.leads.goes_on ∙ goes_on))
      where
        by_end : (p : Point) (e : Bool) → is_end line.command ≡ e → (let T : Type 0 = (elim e [ true ↦ accepts run (table_at run p) line | false ↦ false ]) ≡ true in T) → (commanded (breaks_of run) (names_of run) (table_at run p) line).is_ended ≡ true
        by_end p true is holds = rw holds is
        by_end p false is holds = absurd cc

    not_ending : (b : Bool) → accepts_end run (table_at run last.point) (Some line) ≡ b → b ≡ false
    not_ending false accepted = refl
    not_ending true accepted = by_flag last.point.is_ended refl stage.table.is_ended refl
      where
        by_flag : (e : Bool) → last.point.is_ended ≡ e → (f : Bool) → stage.table.is_ended ≡ f → true ≡ false
        by_flag true ended f is = absurd (never_ended run last.point (Some line) ended accepted)
        by_flag false goes_on false goes = absurd (ends_now accepted goes_on goes)
        by_flag false goes_on true ended =
            let rest = at_leg.ended ended in
            let none : done.hits ≡ [] = ended_command run asked l.answered done.hits l more (ap (λ (q : Point). q.is_ended) rest.0 ∙ ended) done.by passes.linked in
            let refused : a.table.is_ended ≡ true = ended_stays run (table_on_the_way run.level l.changes stage.table) line ended in
            absurd (true≢false (sym refused ∙ sym at.leg.whole.leads.goes_on ∙ goes_on))

    rest : HasComeToRest run (lines ++ a ∷ []) last
    rest = record {
      point = point_is ∙ ap stage_point (sym (stage_more run lines a));
      changes = begun.changes;
      marked = begun.marked;
      answered = begun.answered ∙ omega (arith, at_leg.answered, length_push lines a);
      not_ending =
          ap (λ (n : ℕ). accepts_end run (table_at run last.point) (last_answered (asked_with (lines ++ a ∷ []) None) n)) begun.answered
          ∙ ap (λ (f : LinesAsked). accepts_end run (table_at run last.point) (f l.answered)) (sym (asked_then run lines after a before.started))
          ∙ ap (accepts_end run (table_at run last.point)) (asked_is ∙ heard)
          ∙ not_ending (accepts_end run (table_at run last.point) (Some line)) refl;
    }

    begins_after : BeginsAtStart run (lines ++ a ∷ []) after
    begins_after = record {
      within = omega (arith, before.started, length_push lines a);
      before = λ n early within. ap (λ (x : Stage). x.table.is_started) (stage_front run lines (a ∷ []) n (omega (arith, early, before.started))) ∙ before.begins.before n early (omega (arith, early, before.started));
      after = λ some there. ap (λ (x : Stage). x.table.is_started) (stage_front run lines (a ∷ []) after.started (omega (arith, before.started))) ∙ before.begins.after before.some before.started;
    }

    rests : RestsAtSite run (lines ++ a ∷ []) after_stage after s began new site
    rests = record {
      under_way = record {
        some = before.some;
        started = omega (arith, before.started, length_push lines a);
        begins = begins_after;
        rowless = ap (λ (k : Leg). k.point.rows) first_is ∙ before.rowless;
        next = subst (λ (o : Option Line). AreNext run (lines ++ a ∷ []) o after) (sym nothing_next) (next_answered run lines after a before.started follows.next);
        goes_forth = λ up.
            subst (λ (o : Option Line). GoesForth run (lines ++ a ∷ []) o after None began new) (sym nothing_next)
            (forth_answered run lines after a before.started began new (follows.goes_forth up));
        at =
            subst (λ (k : Leg). StandsAtLeg run after_stage k site began new) (sym last_is)
            (subst (λ (x : Stage). StandsAtLeg run x last site began new) (sym stage_is) at);
        goes_on = λ on. subst (λ (k : Leg). IsSomeAnd s.group (GoesOnFrom run k.point after.points site new)) (sym first_is) (done.goes_on on);
      };
      rest = subst (λ (k : Leg). HasComeToRest run (lines ++ a ∷ []) k) (sym last_is) rest;
      named = stands.named;
    }
      where
        nothing_next : after_stage.next ≡ None
        nothing_next = none_next run began.script (lines ++ a ∷ [])

    stands_after : StandsAfterLines run (lines ++ a ∷ []) after_stage after s began new
    stands_after = record {
      its = stands.its;
      table = table_is;
      volumes = follows.volumes;
      place = subst (λ (o : Option SiteState). MatchOption o (HasNotBegun after began new) (RestsAtSite run (lines ++ a ∷ []) after_stage after s began new)) (sym stands.site_is) rests;
    }

    tells : SaysAnswer line (reply_content run stage (first_leg run (lines ++ a ∷ []) after).point after.points (length lines) a) answered
    tells =
        subst (λ (k : Leg). SaysAnswer line (reply_content run stage k.point after.points (length lines) a) answered) (sym first_is)
        (subst (λ (n : ℕ). SaysAnswer line (reply_content run stage first.point after.points n a) answered) at_leg.answered (done.tells text reply))

  -- Where there is no memory for the reply the session stops after the points.
  stops : StopsInLine run lines text began new NoMemory
  stops = record {
    trail = after;
    stopped = record {
      part = None;
      stands = follows.goes;
      exact = follows.exact;
      unstarted = λ unstarted. absurd (omega (arith, unstarted, follows.some));
      begun = λ on. (follows.some, follows.begins);
      next = None;
      on_trail = λ some.
          subst (λ (o : Option Line). StandsOnTrail run lines o after None new) (sym heard)
          (shown_on_trail run lines (Some line) after new follows.rowless follows.next follows.marked
          (subst (λ (p : Point). AtNow (ShowsPoint run (shape_of new) p) new) (sym (ap (λ (k : Leg). k.point) joined ∙ at.here)) at.shows));
      goes_forth = λ past some. subst (λ (o : Option Line). GoesForth run lines o after None began new) (sym heard) (follows.goes_forth (omega (arith, past, follows.goes.now.later)));
    };
    volumes = follows.volumes;
    spent = λ is. absurd cc;
  }

  -- The line may be replied to.
  pub line_to_reply : IsToReply run lines after text line answered s lanes began new
  line_to_reply = record {
    goes = follows.goes;
    changes = l.changes;
    hits = done.hits;
    begins = follows.begins;
    exact = follows.exact;
    brings = λ reply on. brings reply;
    stops = stops;
    unhit = done.unhit;
    tells = tells;
    may = may_reply;
    stands = stands_after;
    broke = subst (λ (o : Option SiteState). LanesBrokeAs (site_time o) run.traces lanes) (sym stands.site_is) stands.broke;
    applied = λ reply ended. stands.applied (sym (ap (λ (t : Table). t.is_ended) (table_is reply ∙ stands.table)) ∙ ended);
    wants = λ reply device is on.
        let told = done.wants device (sym (tells reply).is ∙ is) (ap (λ (t : Table). t.is_ended) (sym stands.table) ∙ on) in
        subst (λ (rows : List PairRow). IsSomeAnd s.group (WantsOwed run (first_leg run (lines ++ a reply ∷ []) after).point (points_before (length lines) after.points) device (table_on_the_way run.level l.changes stage.table).rows rows line.time.0)) (stands.told ∙ ap (λ (t : Table). t.rows) (sym stands.table))
        (subst (λ (k : Leg). IsSomeAnd s.group (WantsOwed run k.point (points_before (length lines) after.points) device (table_on_the_way run.level l.changes stage.table).rows site.told line.time.0)) (sym (first_is reply))
        (subst (λ (n : ℕ). IsSomeAnd s.group (WantsOwed run first.point (points_before n after.points) device (table_on_the_way run.level l.changes stage.table).rows site.told line.time.0)) at_leg.answered told));
  }
