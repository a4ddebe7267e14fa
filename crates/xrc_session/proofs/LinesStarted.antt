-- The line that starts a session may be replied to, and the session stands after it.
use Rattle.std.proofs.Common.{◌≡◌, ℕ, suc, ◌^◌, ◌<◌, ◌≤◌, Bool, false, true≢false, List, [], ◌∷◌, ◌++◌, length, take, Option, Some, None, refl, sym, ap, subst, ◌∙◌, append-nil, arith}
use Rattle.std.specs.Prelude.{◌-◌, IfSome, IsSomeAnd, MatchOption, if◌then◌else◌}
use Rattle.std.proofs.lemmas.List.{length_push, take-append-le, take_all}
use Rattle.std.proofs.lemmas.Option.{slice_get_within}
use Rattle.crash_plant.specs.declared.device.Device.TheVariants.{Volume}
use Rattle.crash_plant.specs.Calls.{Elapses, SameSite, Silent}
use Rattle.crash_plant.specs.Choices.{Choice, IsChoice}
use Rattle.crash_plant.specs.Moments.{PlantState}
use Rattle.pair_table.specs.declared.command.Command.{Command}
use Rattle.pair_table.specs.declared.command.Command.TheVariants.{Start}
use Rattle.pair_table.specs.declared.level.Level.{Level}
use Rattle.pair_table.specs.Commands.{answer}
use Rattle.pair_table.specs.Naming.{Naming}
use Rattle.pair_table.specs.Tables.{Table, new_table}
use Rattle.state_set.specs.Slots.{started_table}
use Rattle.row_changes.specs.Changes.Due.{NoneDue}
use Rattle.row_changes.specs.Spans.{hit_count}
use Rattle.site_means.specs.Images.{shape_of}
use Rattle.site_store.specs.Records.{VolumesStay}
use Rattle.site_store.specs.Sites.{SiteState}
use Rattle.group_state.specs.Groups.{Group}
use Rattle.consistency.specs.Bearing.{ShowsPoint}
use Rattle.consistency.specs.Stages.{ScriptRun, Stage, accepts_end, breaks_of, names_of}
use Rattle.consistency.specs.Courses.{Answered, replies_of, stage_after, stage_at}
use Rattle.consistency.specs.Leads.{Point}
use Rattle.consistency.specs.Steps.{names_at}
use Rattle.consistency.specs.Pauses.{RunGoesOn}
use Rattle.consistency.specs.Ways.{Leg, PassedPoint, is_ending, leg_at, stage_point, table_at}
use Rattle.consistency.proofs.Keeping.{stage_answered}
use Rattle.consistency.proofs.Legs.{leg_begins}
use Rattle.consistency.proofs.Lines.{stage_front, stage_more}
use Rattle.mover.specs.declared.lane.Lane.{Lane}
use Rattle.mover.specs.Epochs.{LanesBrokeAs}
use Rattle.mover.specs.Working.{LinesAsked}
use Rattle.xrc_command.specs.declared.line.Line.{Line}
use Rattle.xrc_status.specs.declared.stop.Stop.TheVariants.{NoMemory}
use Rattle.xrc_session.specs.declared.answering.LineAnswer.{LineAnswer}
use Rattle.xrc_session.specs.LinePauses.{GoesOnFrom, HasNotBegun, IsRunOfSession, RestsAtSite, StandsAfterLines, StandsAtLeg, site_point, stage_after_text}
use Rattle.xrc_session.specs.Frames.{ChangesRows, rows_passed}
use Rattle.xrc_session.specs.Starting.{StandsStarted, level_started}
use Rattle.xrc_session.specs.States.{SessionState, site_time}
use Rattle.xrc_session.specs.Steps.{HasHeard, IsToReply, line_answered}
use Rattle.xrc_session.specs.Trails.{AreExact, AreHitsOfFaults, BeginsAtStart, GoesForth, Trail, asked_with, first_leg}
use Rattle.xrc_session.proofs.WrittenLines.{written_first}
use Rattle.xrc_session.proofs.Asked.{asked_of_none, asked_of_lines, asked_there}
use Rattle.xrc_session.proofs.Courses.{none_next}
use Rattle.xrc_session.proofs.Exactly.{exactly_any}
use Rattle.xrc_session.proofs.LinesUnstarted.{has_names, none_past, none_started, not_begun, off, table_by_level, table_is, unstarted_answers, unstarted_goes, unstarted_stops, unstarted_table, unstarted_tells, unstarted_volumes, unstarted_wants}

-- A session that has just started, in a run.
pub record IsJustStarted {S : Type 0} (run : ScriptRun) (s next : SessionState) (lanes : List (Lane S)) (site : SiteState) (at : ℕ) (level : Level) (began new : PlantState) : Type 0 where
  pub its : IsRunOfSession next run
  pub site_is : next.site ≡ Some site
  pub table : next.table ≡ started_table s.session []
  pub site_table : next.table ≡ site.table
  pub time : site.time ≡ at
  pub level_is : site.level ≡ level
  pub flag : site.mark.ended ≡ site.table.is_ended
  pub told : site.told ≡ site.table.rows
  pub group : Group
  pub group_is : next.group ≡ Some group
  pub stands : StandsStarted run site new group
  pub named : next.names ≡ names_at site.time (breaks_of run) (names_of run)
  pub broke : LanesBrokeAs site.time run.traces lanes
  pub faults : (d : ℕ) → began.faults (Volume d) ≤ new.faults (Volume d)

module _ {S : Type 0} (run : ScriptRun) (lines : List Answered) (trail : Trail) (text : List ℕ) (line : Line) (s : SessionState) (lanes : List (Lane S)) (began old : PlantState) (heard : HasHeard run lines trail text line s lanes began old) (unstarted : s.site ≡ None)
    (fresh : s.table ≡ new_table s.session) (new : PlantState) (same : SameSite old new) (elapses : Elapses old new) (silent : Silent old new) (tells : Type 0) (told : tells) (volumes : VolumesStay tells old new) (names : Naming) (answered : LineAnswer)
    (is : answered.answer ≡ answer names s.table line.session line.command) (level : Level) (starts : level_started s.session line ≡ Some level) (command : line.command ≡ Start level) (next : SessionState) (lanes_now : List (Lane S)) (site : SiteState)
    (started : IsJustStarted run s next lanes_now site line.time.0 level began new) (short : line.time.0 < 2 ^ 64) where
  abbrev stage : Stage
  stage = stage_after_text run lines text began

  abbrev begun : Trail
  begun = record { started = suc (length lines); points = [] }

  goes_now : RunGoesOn run lines text began new
  goes_now = unstarted_goes run lines trail text line s lanes began old heard unstarted fresh new same elapses silent tells told volumes

  level_is : level ≡ run.level
  level_is = sym started.level_is ∙ sym (subst (λ (o : Option SiteState). IfSome o (λ x. run.level ≡ x.level)) started.site_is started.its.level)

  levels : IfSome (level_started s.session line) (λ l. l ≡ run.level)
  levels = subst (λ (o : Option Level). IfSome o (λ l. l ≡ run.level)) (sym starts) level_is

  none_before : (n : ℕ) → n ≤ length lines → (stage_at run lines n).table.is_started ≡ false
  none_before = none_started run lines trail text line s lanes began old heard unstarted fresh

  stage_off : stage.table.is_started ≡ false
  stage_off = off run lines trail text line s lanes began old heard unstarted fresh

  begins_here : BeginsAtStart run lines begun
  begins_here = record { within = omega arith; before = λ n early within. none_before n within; after = λ some there. absurd (omega (arith, there)) }

  exact_here : AreExact run lines begun
  exact_here n a at =
      exactly_any run (stage_at run lines n) (first_leg run lines trail) (first_leg run lines begun) trail.points [] n n a (none_before n (omega (arith, slice_get_within lines n a at))) (heard.answered.exact n a at)

  session_is : run.session ≡ s.session
  session_is = heard.answered.stands.its.session

  module _ (reply : List ℕ) where
    abbrev a : Answered
    a = line_answered run lines text line [] [] began reply

    table_then : a.table ≡ started_table s.session []
    table_then = unstarted_table run lines trail text line s lanes began old heard unstarted fresh reply ∙ ap (table_by_level s.session) starts

    abbrev new_stage : Stage
    new_stage = stage_after_text run (lines ++ a ∷ []) [] began

    stage_is : new_stage ≡ stage_after (stage_at run lines (length lines)) a
    stage_is = stage_answered run began.script lines a

    not_ended : stage.table.is_ended ≡ false
    not_ended = ap (λ (t : Table). t.is_ended) (table_is run lines trail text line s lanes began old heard unstarted fresh)

    -- The site's point is the one after the line.
    point_is : stage_point (stage_after stage a) ≡ site_point site
    point_is = λ i. record {
      time = (ap (λ (e : Bool). if e then stage.replied else line.time.0) not_ended ∙ sym started.time) i;
      rows = (ap (λ (t : Table). t.rows) (table_then ∙ sym started.table ∙ started.site_table) ∙ sym started.told) i;
      due = NoneDue;
      is_ended = (ap (λ (t : Table). t.is_ended) (table_then ∙ sym started.table ∙ started.site_table) ∙ sym started.flag) i;
    }

    shows : (c : Choice) → IsChoice new new.clock c → ShowsPoint run (shape_of new) (stage_point (stage_after stage a)) c
    shows c left = subst (λ (p : Point). ShowsPoint run (shape_of new) p c) (sym point_is) (started.stands.shows c left)

    -- ---- the first leg

    abbrev first : Leg
    first = first_leg run (lines ++ a ∷ []) begun

    more_is : stage_at run (lines ++ a ∷ []) (suc (length lines)) ≡ stage_after (stage_at run lines (length lines)) a
    more_is = let n : suc (length lines) ≡ length (lines ++ a ∷ []) = omega (arith, length_push lines a) in ap (stage_at run (lines ++ a ∷ [])) n ∙ stage_more run lines a

    first_point : first.point ≡ site_point site
    first_point = ap stage_point more_is ∙ point_is

    table_there : new_stage.table ≡ table_at run (stage_point new_stage)
    table_there =
        let t : new_stage.table ≡ started_table s.session [] = ap (λ (x : Stage). x.table) stage_is ∙ table_then in
        (λ i. record { session = (ap (λ (x : Table). x.session) t ∙ sym session_is) i; is_started = (ap (λ (x : Table). x.is_started) t) i; is_ended = new_stage.table.is_ended; rows = new_stage.table.rows })

    first_is : first ≡ leg_at new_stage (suc (length lines))
    first_is = ap (λ (x : Stage). leg_at x (suc (length lines))) (more_is ∙ sym stage_is)

    past_is : new_stage.past ≡ []
    past_is =
        ap (λ (x : Stage). x.past) stage_is ∙ append-nil (stage.past ++ []) ∙ append-nil stage.past ∙ none_past run lines trail text line s lanes began old heard unstarted fresh

    hits : AreHitsOfFaults (leg_at new_stage (suc (length lines))) began new
    hits d below =
        let none : hit_count d new_stage.past ≡ 0 = ap (hit_count d) past_is in
        omega (arith, none, started.faults d)

    at : StandsAtLeg run new_stage first site began new
    at =
        subst (λ (k : Leg). StandsAtLeg run new_stage k site began new) (sym first_is)
        (record {
          here = ap (λ (k : Leg). k.point) (sym first_is) ∙ first_point;
          shows = started.stands.shows;
          leg = leg_begins run new_stage (suc (length lines)) table_there;
          counted = hits;
        })

    rowless : first.point.rows ≡ []
    rowless = ap (λ (x : Stage). x.table.rows) more_is ∙ ap (λ (t : Table). t.rows) table_then

    forth : 0 < new.clock → GoesForth run (lines ++ a ∷ []) None begun None began new
    forth up = record {
      from = new.clock;
      since = goes_now.now.later;
      unsaid = goes_now.now.said ∙ ap (λ (l : List Answered). began.said began.clock ++ replies_of l) (sym front);
      rowless = rowless;
      begins = λ c left. subst (λ (p : Point). ShowsPoint run (shape_of new) p c) (sym first_point) (started.stands.shows c left);
      goes = (omega arith, λ t since within c left. subst (λ (p : Point). ShowsPoint run (shape_of new) p c) (sym first_point) (started.stands.shows c (subst (λ (n : ℕ). IsChoice new n c) (omega (arith, since, within)) left)));
      linked = tt;
      on_its_way = tt;
      written = written_first (lines ++ a ∷ []) (suc (length lines) - 1) first.point began new (omega (arith, length_push lines a)) (omega (arith, length_push lines a));
    }
      where
        front : take (suc (length lines) - 1) (lines ++ a ∷ []) ≡ lines
        front = let n : suc (length lines) - 1 ≡ length lines = omega arith in ap (λ (k : ℕ). take k (lines ++ a ∷ [])) n ∙ take-append-le (length lines) lines (a ∷ []) (omega arith) ∙ take_all (length lines) lines (omega arith)

    not_ending : is_ending run (asked_with (lines ++ a ∷ []) None) first ≡ false
    not_ending =
        ap (λ (f : LinesAsked). accepts_end run (table_at run first.point) (f (length lines))) (sym (sym (asked_of_lines lines a) ∙ asked_of_none (lines ++ a ∷ [])))
        ∙ ap (accepts_end run (table_at run first.point)) (asked_there lines (Some line) (length lines) refl)
        ∙ ap (λ (c : Command). accepts_end run (table_at run first.point) (Some (record line { command = c }))) command

    rests : RestsAtSite run (lines ++ a ∷ []) new_stage begun next began new site
    rests = record {
      under_way = record {
        some = omega arith;
        started = omega (arith, length_push lines a);
        begins = record {
          within = omega (arith, length_push lines a);
          before = λ n early within. ap (λ (x : Stage). x.table.is_started) (stage_front run lines (a ∷ []) n (omega (arith, early))) ∙ none_before n (omega (arith, early));
          after = λ some there. ap (λ (x : Stage). x.table.is_started) more_is ∙ ap (λ (t : Table). t.is_started) table_then;
        };
        rowless = rowless;
        next = tt;
        goes_forth = λ up. subst (λ (o : Option Line). GoesForth run (lines ++ a ∷ []) o begun None began new) (sym (none_next run began.script (lines ++ a ∷ []))) (forth up);
        at = at;
        goes_on = λ on.
            subst (λ (o : Option Group). IsSomeAnd o (GoesOnFrom run first.point [] site new)) (sym started.group_is)
            (subst (λ (p : Point). GoesOnFrom run p [] site new started.group) (sym first_point) started.stands.goes_on);
      };
      rest = record {
        point = ap stage_point (more_is ∙ sym (stage_more run lines a));
        changes = refl;
        marked = refl;
        answered = omega (arith, length_push lines a);
        not_ending = not_ending;
      };
      named = λ on. started.named;
    }

    stands_after : StandsAfterLines run (lines ++ a ∷ []) new_stage begun next began new
    stands_after = record {
      its = started.its;
      table = ap (λ (x : Stage). x.table) stage_is ∙ table_then ∙ sym started.table;
      volumes = subst (λ (xs : List PassedPoint). ChangesRows (rows_passed xs) began new) (not_begun run lines trail text line s lanes began old heard unstarted fresh).points
          (unstarted_volumes run lines trail text line s lanes began old heard unstarted fresh new same elapses silent tells told volumes);
      place = subst (λ (o : Option SiteState). MatchOption o (HasNotBegun begun began new) (RestsAtSite run (lines ++ a ∷ []) new_stage begun next began new)) (sym started.site_is) rests;
    }

  -- The line may be replied to.
  pub started_to_reply : IsToReply run lines begun text line answered next lanes_now began new
  started_to_reply = record {
    goes = goes_now;
    changes = [];
    hits = [];
    begins = begins_here;
    exact = exact_here;
    brings = λ reply on. absurd (true≢false (sym on ∙ stage_off));
    applied = λ reply ended. absurd (true≢false (sym ended ∙ ap (λ (x : Stage). x.table.is_ended) (stage_is reply) ∙ ap (λ (t : Table). t.is_ended) (table_then reply)));
    stops = unstarted_stops run lines trail text line s lanes began old heard unstarted fresh new same elapses silent tells told volumes NoMemory (λ is. absurd cc);
    unhit = λ reported. refl;
    tells = λ reply. unstarted_tells run lines trail text line s lanes began old heard unstarted fresh names answered is reply (first_leg run (lines ++ a reply ∷ []) begun).point [] (length lines);
    may = λ reply exact. record {
      asks = heard.next;
      answered = unstarted_answers run lines trail text line s lanes began old heard unstarted fresh levels reply (first_leg run (lines ++ a reply ∷ []) begun).point [] (length lines) exact;
      exact = exact;
      names = has_names run lines trail text line s lanes began old heard unstarted fresh;
      short = short;
      told = λ up on. absurd (true≢false (sym on ∙ stage_off));
      may = λ on. absurd (true≢false (sym on ∙ stage_off));
      shows = λ on. shows reply;
    };
    stands = stands_after;
    broke = subst (λ (o : Option SiteState). LanesBrokeAs (site_time o) run.traces lanes_now) (sym started.site_is) started.broke;
    wants = unstarted_wants run lines trail text line s lanes began old heard unstarted fresh names answered is begun next;
  }
