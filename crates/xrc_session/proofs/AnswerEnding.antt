-- An end that is accepted, in a run: its command, and the mark after it.
use Rattle.std.proofs.Common.{◌≡◌, ℕ, suc, ◌≤◌, true, false, List, [], ◌∷◌, ◌++◌, Option, Some, None, Result, Ok, Err, sym, ap, subst, ◌∙◌, arith, true≢false}
use Rattle.std.specs.Prelude.{fold}
use Rattle.std.proofs.lemmas.Bool.{and_parts}
use Rattle.applier.specs.Returns.{WorksOnLent}
use Rattle.crash_plant.specs.declared.device.Device.{Device}
use Rattle.crash_plant.specs.declared.device.Device.TheVariants.{Volume}
use Rattle.crash_plant.specs.Calls.{Elapses, SameSite}
use Rattle.crash_plant.specs.Choices.{AtNow}
use Rattle.crash_plant.specs.Moments.{PlantState}
use Rattle.pair_table.specs.declared.command.Change.{Change}
use Rattle.pair_table.specs.declared.command.Refusal.{Refusal}
use Rattle.pair_table.specs.Naming.{Naming}
use Rattle.row_changes.specs.Changes.{Timed}
use Rattle.group_state.specs.Groups.{Group}
use Rattle.site_means.specs.Images.{shape_of}
use Rattle.xrc_command.specs.declared.line.Line.{Line}
use Rattle.site_store.specs.Sites.{SiteState}
use Rattle.consistency.specs.Answering.{answered_by, points_before, reply_content, tracks_of_command}
use Rattle.consistency.specs.Stages.{ScriptRun, Stage, accepts}
use Rattle.consistency.specs.Bearing.{ShowsPoint}
use Rattle.consistency.specs.Courses.{stage_after}
use Rattle.consistency.specs.Leads.{Point}
use Rattle.consistency.specs.Replying.{is_query, said_tracks}
use Rattle.consistency.specs.Steps.{table_on_the_way}
use Rattle.consistency.specs.Ways.{ComesBy, IsCommanding, IsEnding, IsLegOf, Leg, PassedPoint, leg_after, leg_by}
use Rattle.consistency.specs.Ways.Way.{Commanded, Ending}
use Rattle.consistency.proofs.Answering.{leg_after_end}
use Rattle.mover.specs.Moves.{IsOfMover}
use Rattle.mover.specs.Working.{LinesAsked}
use Rattle.xrc_status.specs.declared.stop.Stop.{Stop}
use Rattle.xrc_session.specs.declared.answering.LineAnswer.{LineAnswer}
use Rattle.xrc_session.specs.Answering.{AnswersCommands, AreOfCommand, EndsCommand, EndsMark, HasCommanded, HasMarked, IsMarkedSite, IsSiteCommanded, MarksOn, MayAnswer, MayEndBy, is_end_accepted, stage_then}
use Rattle.xrc_session.specs.LinePauses.{RisesCover}
use Rattle.xrc_session.specs.declared.kept.SessionParts.{SessionParts}
use Rattle.xrc_session.specs.Steps.{BeginsToPass, PassesPointsOn, SaysAnswer}
use Rattle.xrc_session.specs.Trails.{AreHitsOfFaults}
use Rattle.xrc_session.proofs.AnswerDeeds.{begins_then, legs_append, passes_then}
use Rattle.xrc_session.proofs.AnswerLegs.{IsCommandLeg, comes_by, command_answered, command_is_there, command_leg, command_point, command_with_end, none_of_line, told_by_first}
use Rattle.xrc_session.proofs.AnswerEnds.{end_comes, ends_no_query, next_ended, site_ended, site_unmarked}

-- ---- in a run

module _ (run : ScriptRun) (stage : Stage) (asked : LinesAsked) (l : Leg) (first : Point) (points : List PassedPoint) (names : Naming) (line : Line) (group now : Option Group) (answered : LineAnswer) (tells : Type 0) (was site next : SiteState) (began old mid new : PlantState)
    (m : MayAnswer run stage line asked l first points names was group began old) (c : IsSiteCommanded tells names line answered.answer was site mid) (flag : was.mark.ended ≡ was.table.is_ended) (ends : is_end_accepted answered.answer ≡ true)
    (more : List PassedPoint) (passes : PassesPointsOn run stage asked l more None old mid) (h : HasCommanded run stage line asked l first points more answered site began mid now) where
  abbrev after : Leg
  after = fold leg_after l more

  pub may_end : MayEndBy run stage asked after true site began mid
  may_end = h.ending (site_ended tells names line answered.answer was site mid c flag ends) (site_unmarked tells names line answered.answer was site mid c flag ends)

  after_goes : after.point.is_ended ≡ false
  after_goes = ap (λ (p : Point). p.is_ended) may_end.here ∙ site_unmarked tells names line answered.answer was site mid c flag ends

  module _ (on_site : SameSite old mid) (past : Elapses old mid) (site_then : SameSite mid new) (past_then : Elapses mid new) where
    -- Where the mark fails the line's points begin to be passed.
    end_begins : BeginsToPass run stage asked after mid new → BeginsToPass run stage asked l old new
    end_begins begins = begins_then run stage asked l more old mid new on_site past site_then past_then (command_point l.answered h.hits more h.by l l.point) passes begins

    module _ (marked : IsMarkedSite tells true site next new) (n : PassedPoint) (number : ℕ) (late : List Timed) (way : n.way ≡ Ending number late) (passes_mark : PassesPointsOn run stage asked after (n ∷ []) None mid new)
        (has : HasMarked run (leg_after after n) next began new) where
      comes : ComesBy run asked after n.point (Ending number late)
      comes = comes_by run asked after n (Ending number late) way passes_mark.linked.0

      of_line : number ≡ l.answered
      of_line = same_number number l.answered (sym comes.0.last ∙ command_answered l.answered h.hits more h.by l)
        where
          same_number : (a b : ℕ) → suc a ≡ suc b → a ≡ b
          same_number a b is = cc

      way_of_line : n.way ≡ Ending l.answered late
      way_of_line = way ∙ ap (λ (k : ℕ). Ending k late) of_line

      abbrev all : List PassedPoint
      all = more ++ n ∷ []

      abbrev hits : List Timed
      hits = h.hits ++ late

      by : AreOfCommand l.answered hits all
      by = command_with_end run asked l.answered h.hits late more n way_of_line h.by l passes.linked after_goes

      passed : PassesPointsOn run stage asked l all None old new
      passed = passes_then run stage asked l more (n ∷ []) None old mid new on_site past site_then past_then (command_point l.answered h.hits more h.by l l.point) passes passes_mark

      leg_is : fold leg_after l all ≡ leg_after after n
      leg_is = legs_append l more (n ∷ [])

      -- ---- the leg after it

      own : IsCommandLeg run stage asked l l.answered h.hits after
      own = command_leg run stage asked l.answered h.hits more h.by l m.at.leg passes.linked after_goes

      heard_there : asked l.answered ≡ stage.next
      heard_there = m.asked_is ∙ sym m.heard

      commanding : IsCommanding run stage.next own.before after.point h.hits
      commanding = subst (λ (o : Option Line). IsCommanding run o own.before after.point h.hits) heard_there own.comes.2

      same_line : commanding.line ≡ line
      same_line = of_some commanding.line line (sym commanding.heard ∙ m.heard)
        where
          of_some : (a b : Line) → (let o : Option Line = Some a in o ≡ Some b) → a ≡ b
          of_some a b is = cc

      ending : IsEnding run stage.next after.point n.point late
      ending = subst (λ (o : Option Line). IsEnding run o after.point n.point late) (ap asked of_line ∙ heard_there) comes.1

      stage_goes : stage.table.is_ended ≡ false
      stage_goes =
          sym m.at.leg.whole.leads.goes_on ∙ ap (λ (p : Point). p.is_ended) m.at.here ∙ flag
          ∙ end_comes names was.table line.session line.command line.time.0 (ap (λ (r : Result Change Refusal). is_end_accepted r) (sym c.answer_is) ∙ ends)

      leg : IsLegOf run (stage_then run stage line l hits) (leg_after after n)
      leg =
          subst (IsLegOf run (stage_then run stage line l hits)) (ap (λ (x : Leg). leg_by x n.point (Ending l.answered late)) (sym own.is) ∙ ap (leg_by after n.point) (sym way_of_line))
          (subst (λ (x : Line). IsLegOf run (stage_after stage (answered_by run stage [] [] x l.changes hits)) leg_there) same_line
          (subst (λ (changes : List Timed). IsLegOf run (stage_after stage (answered_by run stage [] [] commanding.line changes hits)) leg_there) own.changes
          (leg_after_end run stage stage_goes own.before own.leg after.point h.hits commanding [] [] n.point late l.answered ending)))
        where
          leg_there : Leg
          leg_there = leg_by (leg_by own.before after.point (Commanded l.answered h.hits)) n.point (Ending l.answered late)

      -- ---- what its reply says

      before_is : points_before l.answered (points ++ all) ≡ points_before l.answered (points ++ more)
      before_is =
          none_of_line l.answered points all m.fresh
          ∙ ap (λ (ps : List PassedPoint). points ++ ps) (told_by_first l.answered more (n ∷ []) (command_is_there l.answered h.hits more h.by))
          ∙ sym (none_of_line l.answered points more m.fresh)

      tells_all : (text reply : List ℕ) → SaysAnswer line (reply_content run stage first (points ++ all) l.answered (answered_by run stage text reply line l.changes hits)) answered
      tells_all text reply =
          let content = reply_content run stage first (points ++ more) l.answered (answered_by run stage text reply line l.changes h.hits) in
          let told = h.tells text reply in
          record {
            is = told.is;
            tracks = ap (λ (ps : List PassedPoint). said_tracks line.command content.answer (tracks_of_command run first ps (table_on_the_way run.level l.changes stage.table).rows line.time.0 line.command)) before_is ∙ told.tracks;
          }

      -- The line is answered by the command and the mark.
      end_ends : EndsCommand run stage line asked l first points next now began old new (Ok answered)
      end_ends = (
        all,
        passed,
        record {
          hits = hits;
          by = by;
          at = λ same. record {
            here = ap (λ (x : Leg). x.point) leg_is ∙ has.here;
            shows = subst (λ (p : Point). AtNow (ShowsPoint run (shape_of new) p) new) has.here has.shows;
            leg = subst (IsLegOf run (stage_then run stage line l hits)) (sym leg_is) leg;
            counted = subst (λ (x : Leg). AreHitsOfFaults x began new) (sym leg_is) has.counted;
          };
          ending = λ ended unmarked. absurd (true≢false (sym marked.flag ∙ unmarked));
          unhit = λ reported.
              absurd (ends_no_query names was.table line.session line.command line.time.0 (ap (λ (r : Result Change Refusal). is_end_accepted r) (sym c.answer_is) ∙ ends)
              (and_parts (is_query line.command) (accepts run (table_on_the_way run.level l.changes stage.table) line) reported).0);
          tells = tells_all;
          goes_on = λ goes. absurd (true≢false (sym (next_ended tells names line answered.answer was site mid c flag ends next new marked) ∙ goes));
          wants = λ device is goes. absurd (true≢false (sym (next_ended tells names line answered.answer was site mid c flag ends next new marked) ∙ goes));
        },
      )

    -- By the mark's own ends.
    end_of_mark : IsMarkedSite tells true site next new → EndsMark run stage asked after true next began mid new (Ok tt) → EndsCommand run stage line asked l first points next now began old new (Ok answered)
    end_of_mark marked (n, (number, (late, way, are)), passes_mark, has) = end_ends marked n number late way passes_mark has

-- ---- in each run

-- No count of a volume falls, so that rises cover what was before, too.
rises_before : (run : ScriptRun) (began mid new : PlantState) → ((d : Device) → mid.faults d ≤ new.faults d) → RisesCover run began new → RisesCover run began mid
rises_before run began mid new up cover d = let rises = cover d in let higher = up (Volume d) in (omega (arith, rises, higher), omega (arith, rises, higher))

module _ (tells : Type 0) (told : tells) (line : Line) (kept now : SessionParts) (was site next : SiteState) (began old mid new : PlantState) (answered : LineAnswer) (c : IsSiteCommanded tells kept.names line answered.answer was site mid) (flag : was.mark.ended ≡ was.table.is_ended)
    (ends : is_end_accepted answered.answer ≡ true) (first_works : WorksOnLent tells (IsOfMover was) old mid) (works : WorksOnLent tells (IsOfMover site) mid new) (commands : AnswersCommands line kept now was site began old mid (Ok answered)) where
  -- Where the mark of an end fails the line's points begin to be passed.
  pub end_stops : (stop : Stop) → MarksOn true site next began mid new (Err stop) → AnswersCommands line kept now was next began old new (Err stop)
  end_stops stop marks run stage asked l first points m cover =
      let found = commands run stage asked l first points m (rises_before run began mid new works.faults cover) in
      end_begins run stage asked l first points kept.names line kept.group now.group answered tells was site next began old mid new m c flag ends found.0 found.1 found.2 first_works.site (first_works.elapses told) works.site (works.elapses told)
      (marks run stage asked (fold leg_after l found.0) (may_end run stage asked l first points kept.names line kept.group now.group answered tells was site next began old mid new m c flag ends found.0 found.1 found.2) cover)

  -- Where it counts the line is answered.
  pub end_done : IsMarkedSite tells true site next new → MarksOn true site next began mid new (Ok tt) → AnswersCommands line kept now was next began old new (Ok answered)
  end_done marked marks run stage asked l first points m cover =
      let found = commands run stage asked l first points m (rises_before run began mid new works.faults cover) in
      end_of_mark run stage asked l first points kept.names line kept.group now.group answered tells was site next began old mid new m c flag ends found.0 found.1 found.2 first_works.site (first_works.elapses told) works.site (works.elapses told) marked
      (marks run stage asked (fold leg_after l found.0) (may_end run stage asked l first points kept.names line kept.group now.group answered tells was site next began old mid new m c flag ends found.0 found.1 found.2) cover)
