-- A command that is refused, in a run: nothing is called, and its point is the one before it.
use Rattle.pair_table.specs.declared.command.Change.TheVariants.{Resumed}
use Rattle.pair_table.specs.declared.command.Change.{Change}
use Rattle.std.proofs.Common.{◌≡◌, Bool, true, false, List, [], ◌∷◌, ◌++◌, Option, Some, None, Ok, Err, refl, sym, ap, subst, ◌∙◌, arith, true≢false, ℕ}
use Rattle.std.specs.Prelude.{if◌then◌else◌, is_none, Result}
use Rattle.std.proofs.lemmas.List.Elements.{All-cons, All-nil}
use Rattle.crash_plant.specs.Choices.{AtNow}
use Rattle.crash_plant.specs.Moments.{PlantState}
use Rattle.pair_table.specs.declared.command.Refusal.{Refusal}
use Rattle.pair_table.specs.declared.command.Refusal.TheVariants.{Ended}
use Rattle.pair_table.specs.Commands.{accepted, answer, answer_by, change_of, table_after}
use Rattle.pair_table.specs.Naming.{Naming}
use Rattle.pair_table.specs.Refusals.{refusal}
use Rattle.pair_table.specs.Tables.{Table}
use Rattle.row_changes.specs.Changes.{Timed}
use Rattle.row_changes.specs.Changes.Due.{NoneDue}
use Rattle.group_state.specs.Groups.{Group}
use Rattle.site_means.specs.Images.{shape_of}
use Rattle.xrc_command.specs.declared.line.Line.{Line}
use Rattle.site_store.specs.Sites.{SiteState}
use Rattle.consistency.specs.Answering.{answered_by, reply_content}
use Rattle.consistency.specs.Stages.{ScriptRun, Stage, accepts_end, breaks_of, names_of}
use Rattle.consistency.specs.Bearing.{MayBeMeant, ShowsPoint}
use Rattle.consistency.specs.Courses.{replied_after}
use Rattle.consistency.specs.Leads.{LeadsWhole, Point}
use Rattle.consistency.specs.Steps.{names_at, table_after_line, table_on_the_way}
use Rattle.consistency.specs.Ways.{HasCountedHits, IsAtWork, IsCommanding, IsLegOf, Leg, MayTakeEffect, PassedPoint, hits_stand, is_ending, last_answered, leg_by, stage_point, table_at}
use Rattle.consistency.specs.Ways.Way.{Commanded}
use Rattle.consistency.proofs.CountingHits.{counted_through}
use Rattle.consistency.proofs.Leading.{whole_itself}
use Rattle.consistency.proofs.Legs.{ended_may_be_meant}
use Rattle.mover.specs.Working.{LinesAsked}
use Rattle.mover.proofs.Pairs.{among_of}
use Rattle.xrc_session.specs.Answering.{EndsCommand, MayAnswer, stage_then}
use Rattle.xrc_session.specs.Answering.AreOfCommand.{OfCommand}
use Rattle.xrc_session.specs.LinePauses.{GoesOnFrom, RisesCover, site_point}
use Rattle.xrc_session.specs.Steps.{BeginsToPass, PassesPointsOn}
use Rattle.xrc_session.specs.Trails.{AreHitsOfFaults}
use Rattle.xrc_session.proofs.AnswerAhead.{AreAhead, NextPoint, passed_at, passed_by}
use Rattle.xrc_session.proofs.AnswerCommands.{next_quiet, quiet_ahead, quiet_is_of_line, quiet_leg_then, stand_none}
use Rattle.xrc_session.proofs.AnswerDeeds.{nothing_passes, quiet_passes}
use Rattle.xrc_session.proofs.AnswerHits.{NoneFalls, command_counted, counted_hits, none_of_faults}
use Rattle.xrc_session.proofs.AnswerSites.{IsSiteOfRun, ended_accepts_none, site_of_run}
use Rattle.xrc_session.proofs.LastPoints.{last_rows_then}
use Rattle.xrc_session.proofs.AnswerSays.{ended_answer, owes_still, refused_end, refused_tells, table_of_leg}

-- A command that is answered with a refusal is refused for it, and leaves the table.
pub refused_by : (names : Naming) (table : Table) (line : Line) (why : Refusal) → answer names table line.session line.command ≡ Err why → refusal names table line.session line.command ≡ Some why
refused_by names table line why is = by_refusal (refusal names table line.session line.command) is
  where
    by_refusal : (o : Option Refusal) → answer_by o (change_of names line.command table.rows) ≡ Err why → o ≡ Some why
    by_refusal None is = absurd cc
    by_refusal (Some other) is = let same : other ≡ why = cc in ap (λ (r : Refusal). Some r) same

pub refused_stays : (names : Naming) (table : Table) (line : Line) (why : Refusal) → refusal names table line.session line.command ≡ Some why → table_after names table line.session line.command line.time.0 ≡ table
refused_stays names table line why is = λ i. if is_none (is i) then accepted names line.time.0 line.command table else table

none_resumed : (why : Refusal) (device : ℕ) → (let r : Result Change Refusal = Err why in r ≡ Ok (Resumed device)) → ⊥
none_resumed why device is = cc

module _ (run : ScriptRun) (stage : Stage) (line : Line) (asked : LinesAsked) (l : Leg) (first : Point) (points : List PassedPoint) (names : Naming) (site : SiteState) (group : Option Group) (began plant : PlantState)
    (m : MayAnswer run stage line asked l first points names site group began plant) (cover : RisesCover run began plant) (flag : site.mark.ended ≡ site.table.is_ended) where
  here : l.point ≡ site_point site
  here = m.at.here

  shows : AtNow (ShowsPoint run (shape_of plant) l.point) plant
  shows = subst (λ (p : Point). AtNow (ShowsPoint run (shape_of plant) p) plant) (sym here) m.at.shows

  -- Where the command stops before a call nothing is passed.
  pub command_stops : BeginsToPass run stage asked l plant plant
  command_stops = nothing_passes plant run stage asked l shows

  falls : NoneFalls plant plant
  falls d = omega arith

  counted_at : (q : Point) → AreHitsOfFaults (leg_by l q (Commanded l.answered [])) began plant
  counted_at q =
      subst (λ (x : Leg). AreHitsOfFaults (leg_by x q (Commanded l.answered [])) began plant) (λ i. record l { marked = sym m.marked i })
      (command_counted l began plant plant falls m.at.counted m.marked q l.answered [] [] (none_of_faults plant plant falls) (none_of_faults plant plant falls))

  counts_at : (q : Point) → HasCountedHits run (leg_by l q (Commanded l.answered []))
  counts_at q = counted_hits run (leg_by l q (Commanded l.answered [])) began plant (counted_at q) cover

  way_rows : table_at run l.point ≡ table_on_the_way run.level l.changes stage.table
  way_rows = table_of_leg run stage l m.at.leg

  flag_here : l.point.is_ended ≡ site.table.is_ended
  flag_here = ap (λ (p : Point). p.is_ended) here ∙ flag

  -- ---- while the session goes on

  module _ (why : Refusal) (goes : site.table.is_ended ≡ false) (same : site.told ≡ site.table.rows) (started : site.table.is_started ≡ true) (refused : answer names site.table line.session line.command ≡ Err why) (g : Group) (on : GoesOnFrom run first points site plant g) where
    active : MayTakeEffect run line l × IsAtWork run asked l × (names ≡ names_at line.time.0 (breaks_of run) (names_of run))
    active = m.active goes

    of_run : IsSiteOfRun run site
    of_run = site_of_run run plant on.rows.excepted site (site_point site) on.rows.stands m.at.shows on.rows.rows.some

    table_here : site.table ≡ table_at run l.point
    table_here = λ i. record {
      session = of_run.session i;
      is_started = started i;
      is_ended = sym flag_here i;
      rows = (sym same ∙ ap (λ (p : Point). p.rows) (sym here)) i;
    }

    -- The run refuses it too.
    refused_there : answer (names_at line.time.0 (breaks_of run) (names_of run)) (table_at run l.point) line.session line.command ≡ Err why
    refused_there = (λ i. answer (sym active.2 i) (sym table_here i) line.session line.command) ∙ refused

    refuses : refusal (names_at line.time.0 (breaks_of run) (names_of run)) (table_at run l.point) line.session line.command ≡ Some why
    refuses = refused_by (names_at line.time.0 (breaks_of run) (names_of run)) (table_at run l.point) line why refused_there

    abbrev quiet : NextPoint
    quiet = next_quiet run l line

    still : quiet.point ≡ l.point
    still = λ i. record l.point { rows = (ap (λ (t : Table). t.rows) (refused_stays (names_at line.time.0 (breaks_of run) (names_of run)) (table_at run l.point) line why refuses)) i }

    none_accepted : accepts_end run (table_at run l.point) stage.next ≡ false
    none_accepted = ap (accepts_end run (table_at run l.point)) m.heard ∙ refused_end run (table_at run l.point) line (ap (λ (o : Option Refusal). is_none o) refuses)

    passes : PassesPointsOn run stage asked l (passed_by (plant.clock ∷ []) (quiet ∷ [])) None plant plant
    passes = quiet_passes plant run stage asked l shows quiet still (quiet_ahead run stage asked l line m.at.leg m.heard m.asked_is active.1 active.0 (counts_at quiet.point))

    -- The maps have what the rows owe still.
    goes_on_still : GoesOnFrom run first (points ++ passed_by (plant.clock ∷ []) (quiet ∷ [])) site plant g
    goes_on_still = record {
      rows = on.rows;
      broke = on.broke;
      come = on.come;
      last = last_rows_then first l.point points (passed_by (plant.clock ∷ []) (quiet ∷ [])) (on.last ∙ sym (ap (λ (p : Point). p.rows) here)) ∙ ap (λ (p : Point). p.rows) (still ∙ here);
      maps = λ r has suspended counts x low.
          on.maps r has suspended counts x low
          ∙ sym (owes_still r site.told (among_of site.told r has) on.rows.rows.rows.apart suspended run first points (passed_by (plant.clock ∷ []) (quiet ∷ [])) site.time x
          (All-cons (λ (n : PassedPoint). n.point.rows ≡ site.told) (passed_at plant.clock quiet) [] (ap (λ (p : Point). p.rows) (still ∙ here)) (All-nil (λ (n : PassedPoint). n.point.rows ≡ site.told))));
      maps_rest = on.maps_rest;
    }

    pub refused_goes : EndsCommand run stage line asked l first points site (Some g) began plant plant (Ok (record { answer = Err why; tracks = 0 }))
    refused_goes = (
      passed_by (plant.clock ∷ []) (quiet ∷ []),
      passes,
      record {
        hits = [];
        by = quiet_is_of_line run l line plant.clock;
        at = λ ended. record { here = still ∙ here; shows = m.at.shows; leg = quiet_leg_then run stage asked l line m.at.leg m.heard m.asked_is active.1 active.0 none_accepted; counted = counted_at quiet.point };
        ending = λ ended unmarked. absurd (true≢false (sym ended ∙ sym flag ∙ unmarked));
        unhit = λ reported. refl;
        tells = λ text reply. let content = reply_content run stage first (points ++ passed_by (plant.clock ∷ []) (quiet ∷ [])) l.answered (answered_by run stage text reply line l.changes []) in record {
          is = (λ i. answer (names_at line.time.0 (breaks_of run) (names_of run)) (sym way_rows i) line.session line.command) ∙ refused_there;
          tracks = refused_tells line.command content.answer why ((λ i. answer (names_at line.time.0 (breaks_of run) (names_of run)) (sym way_rows i) line.session line.command) ∙ refused_there) content.tracks 0;
        };
        goes_on = λ on_still. goes_on_still;
        wants = λ device is. absurd (none_resumed why device is);
      },
    )

  -- ---- once it has ended

  module _ (ended : site.table.is_ended ≡ true) (no_group : Option Group) where
    at_end : (l.point ≡ stage_point stage) × (l.changes ≡ [])
    at_end = m.ended ended

    stage_ended : stage.table.is_ended ≡ true
    stage_ended = ap (λ (p : Point). p.is_ended) (sym at_end.0) ∙ flag_here ∙ ended

    point_ended : l.point.is_ended ≡ true
    point_ended = flag_here ∙ ended

    commanding : IsCommanding run (asked l.answered) l l.point []
    commanding = record {
      line = line;
      heard = m.asked_is;
      stand = subst (λ (marked : List Timed). hits_stand marked [] l.point.rows ≡ true) (sym m.marked) (stand_none [] l.point.rows);
      recorded = λ goes. absurd (true≢false (sym point_ended ∙ goes));
      active = λ goes. absurd (true≢false (sym point_ended ∙ goes));
      ended = λ is. (refl, refl);
    }

    none_ends : is_ending run asked l ≡ false
    none_ends = ended_accepts_none run (table_at run l.point) (last_answered asked l.answered) point_ended

    abbrev end_next : NextPoint
    end_next = record { point = l.point; way = Commanded l.answered [] }

    end_ahead : AreAhead run stage asked l (end_next ∷ [])
    end_ahead = (((refl, none_ends, commanding), counts_at l.point), subst (MayBeMeant run stage) (sym at_end.0) (ended_may_be_meant run stage stage_ended), tt)

    way_ended : (table_on_the_way run.level l.changes stage.table).is_ended ≡ true
    way_ended = ap (λ (t : Table). t.is_ended) (sym way_rows) ∙ point_ended

    -- The table stays after the line.
    table_stays : (table_after_line run.level (breaks_of run) (names_of run) stage.table line l.changes []) ≡ stage.table
    table_stays =
        (λ i. table_after_line run.level (breaks_of run) (names_of run) stage.table line (at_end.1 i) [])
        ∙ refused_stays (names_at line.time.0 (breaks_of run) (names_of run)) stage.table line Ended (refused_by (names_at line.time.0 (breaks_of run) (names_of run)) stage.table line Ended (ended_answer (names_at line.time.0 (breaks_of run) (names_of run)) stage.table line.session line.command stage_ended))

    abbrev then_stage : Stage
    then_stage = stage_then run stage line l []

    replied_there : replied_after stage line ≡ stage.replied
    replied_there = ap (λ (b : Bool). if b then stage.replied else line.time.0) stage_ended

    point_then : stage_point then_stage ≡ l.point
    point_then = (λ i. record { time = replied_there i; rows = (table_stays i).rows; due = NoneDue; is_ended = (table_stays i).is_ended }) ∙ sym at_end.0

    leg_then : IsLegOf run then_stage (leg_by l l.point (Commanded l.answered []))
    leg_then = record {
      table = subst (λ (t : Table). t ≡ record { session = run.session; is_started = true; is_ended = t.is_ended; rows = t.rows }) (sym table_stays) m.at.leg.table;
      replied = ap (λ (p : Point). p.time) (sym point_then);
      whole = subst (λ (p : Point). LeadsWhole run.level (breaks_of run) p l.point []) (sym point_then) (whole_itself run.level (breaks_of run) l.point);
      counted = λ d. counted_through run stage l m.at.leg [] d;
    }

    pub refused_at_end : EndsCommand run stage line asked l first points site no_group began plant plant (Ok (record { answer = Err Ended; tracks = 0 }))
    refused_at_end = (
      passed_by (plant.clock ∷ []) (end_next ∷ []),
      quiet_passes plant run stage asked l shows end_next refl end_ahead,
      record {
        hits = [];
        by = OfCommand (passed_at plant.clock end_next) refl;
        at = λ same. record { here = here; shows = m.at.shows; leg = leg_then; counted = counted_at l.point };
        ending = λ is unmarked. absurd (true≢false (sym is ∙ sym flag ∙ unmarked));
        unhit = λ reported. refl;
        tells = λ text reply. let content = reply_content run stage first (points ++ passed_by (plant.clock ∷ []) (end_next ∷ [])) l.answered (answered_by run stage text reply line l.changes []) in record {
          is = ended_answer (names_at line.time.0 (breaks_of run) (names_of run)) (table_on_the_way run.level l.changes stage.table) line.session line.command way_ended;
          tracks = refused_tells line.command content.answer Ended (ended_answer (names_at line.time.0 (breaks_of run) (names_of run)) (table_on_the_way run.level l.changes stage.table) line.session line.command way_ended) content.tracks 0;
        };
        goes_on = λ goes. absurd (true≢false (sym ended ∙ goes));
        wants = λ device is. absurd (none_resumed Ended device is);
      },
    )
