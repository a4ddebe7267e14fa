-- The end of a run's script.
use Rattle.xrc_session.proofs.OnTrail.{rests_on_trail}
use Rattle.std.proofs.Common.{◌≡◌, ◌⊎◌, inl, inr, ℕ, true, false, true≢false, List, [], ◌∷◌, length, Option, Some, None, Result, Ok, Err, refl, sym, ap, subst, ◌∙◌, arith}
use Rattle.std.specs.Prelude.{IfSome, IsErrOf, MatchOption, OnOk}
use Rattle.std.specs.List.{list_all}
use Rattle.crash_plant.specs.Calls.{Elapses, SameSite, Silent}
use Rattle.crash_plant.specs.Choices.{AtNow, IsChoice}
use Rattle.crash_plant.specs.Moments.{PlantState}
use Rattle.pair_table.specs.Tables.{Table}
use Rattle.record_rows.specs.Hits.{hit_now}
use Rattle.row_changes.specs.Changes.{Timed, after_changes}
use Rattle.row_changes.specs.Spans.{is_hit_at}
use Rattle.passages.specs.Points.{last_point}
use Rattle.site_means.specs.Images.{shape_of}
use Rattle.xrc_command.specs.declared.line.Line.{Line}
use Rattle.site_store.specs.IdleSites.{IsSiteIdle}
use Rattle.site_store.specs.Records.{VolumesStay}
use Rattle.site_store.specs.Sites.{SiteState}
use Rattle.group_state.specs.Groups.{Group}
use Rattle.consistency.specs.Bearing.{ShowsPoint}
use Rattle.consistency.specs.Stages.{ScriptRun, Stage}
use Rattle.consistency.specs.Pauses.{RunGoesOn}
use Rattle.consistency.specs.Courses.{Answered, stage_at}
use Rattle.consistency.specs.Leads.{Point}
use Rattle.consistency.specs.Ways.{IsAtWork, Leg, PassedPoint, stage_point}
use Rattle.consistency.specs.Ways.Way.{OnTheWay}
use Rattle.mover.specs.Working.{LinesAsked}
use Rattle.xrc_status.specs.declared.stop.Stop.{Stop}
use Rattle.xrc_status.specs.declared.stop.Stop.TheVariants.{Spent}
use Rattle.xrc_session.specs.Answering.{IsMarkedSite, MarksOn, MayEndBy}
use Rattle.xrc_session.specs.Answering.IsMarkedAt.{IsOnWay}
use Rattle.xrc_session.specs.LinePauses.{GoesOnFrom, HasNotBegun, RestsAtSite, StandsAfterLines, site_point, stage_after_text}
use Rattle.xrc_session.specs.Ends.{IsRunDone, StopsInLine}
use Rattle.xrc_session.specs.Lines.{MayFinish}
use Rattle.xrc_session.specs.States.{SessionState}
use Rattle.xrc_session.specs.Steps.{BeginsToPass, FinishesRuns, PassesPointsOn}
use Rattle.xrc_session.specs.Stops.{IsSpentNow}
use Rattle.xrc_session.specs.Trails.{AreExact, AreNext, GoesForth, Trail, asked_with, first_leg, last_leg, with_points, StandsOnTrail}
use Rattle.xrc_session.proofs.AnswerLegs.{comes_by}
use Rattle.xrc_session.proofs.Asked.{last_of_leg}
use Rattle.xrc_session.proofs.LastPoints.{last_append}
use Rattle.xrc_session.proofs.Courses.{none_next, past_counted}
use Rattle.xrc_session.proofs.Finished.{all_applied, slot_holds, slot_is_meant}
use Rattle.xrc_session.proofs.LinesBrought.{some_value}
use Rattle.xrc_session.proofs.LinesWithin.{IsWithin, exact_still, forth_still, goes_still, volumes_still, within_stops, along_still}
use Rattle.xrc_session.proofs.RestingMarks.{nothing_is_walked}
use Rattle.xrc_session.proofs.Trails.{rest_is_meant}

-- A run that has answered its lines and heard the script's end, with a session after them.
module _ (run : ScriptRun) (lines : List Answered) (trail : Trail) (s : SessionState) (began old : PlantState) (at_end : old.script ≡ []) (goes : RunGoesOn run lines [] began old) (exact : AreExact run lines trail)
    (stands : StandsAfterLines run lines (stage_after_text run lines [] began) trail s began old) where
  abbrev stage : Stage
  stage = stage_after_text run lines [] began

  stage_table : (stage_at run lines (length lines)).table ≡ s.table
  stage_table = stands.table

  nothing_next : stage.next ≡ None
  nothing_next = none_next run began.script lines

  -- ---- before the start

  pub unstarted_finishes : s.site ≡ None → s.table.is_started ≡ false → IsRunDone run lines trail began old
  unstarted_finishes none off = record {
    goes = goes;
    at_end = at_end;
    exact = exact;
    unstarted = λ unstarted. not_begun.points;
    begun = λ on. absurd (true≢false (sym on ∙ ap (λ (t : Table). t.is_started) stage_table ∙ off));
    on_trail = λ some. absurd (omega (arith, some, not_begun.started));
    rows = λ some. absurd (omega (arith, some, not_begun.started));
    goes_forth = λ past some. absurd (omega (arith, some, not_begun.started));
    volumes = stands.volumes;
    applied = λ on. absurd (true≢false (sym on ∙ ap (λ (t : Table). t.is_started) stage_table ∙ off));
  }
    where
      not_begun : HasNotBegun trail began old
      not_begun = subst (λ (o : Option SiteState). MatchOption o (HasNotBegun trail began old) (RestsAtSite run lines stage trail s began old)) none stands.place

  -- ---- from the start on

  module _ (site : SiteState) (is : s.site ≡ Some site) (read : IsChoice old old.clock old.bytes) where
    rests : RestsAtSite run lines stage trail s began old site
    rests = subst (λ (o : Option SiteState). MatchOption o (HasNotBegun trail began old) (RestsAtSite run lines stage trail s began old)) is stands.place

    abbrev l : Leg
    l = last_leg run lines trail

    here : l.point ≡ site_point site
    here = rests.under_way.at.here

    point_is : stage_point (stage_at run lines (length lines)) ≡ site_point site
    point_is = sym rests.rest.point ∙ here

    shows_site : AtNow (ShowsPoint run (shape_of old) (site_point site)) old
    shows_site = rests.under_way.at.shows

    last_is : l.point ≡ last_point (first_leg run lines trail).point trail.points
    last_is = last_of_leg run (asked_with lines stage.next) (first_leg run lines trail) trail.points rests.rest.marked rests.under_way.next

    -- Once the session has ended, nothing is walked.
    pub ended_finishes : (tells : Type 0) → tells → IsSiteIdle tells site old → site.at ≡ site.mark.at → IsRunDone run lines trail began old
    ended_finishes tells told idle empty =
        let stand = idle.may.fast.stands told in
        let walk = nothing_is_walked old stand.0 site stand.1 empty in
        record {
          goes = goes;
          at_end = at_end;
          exact = exact;
          unstarted = λ unstarted. absurd (omega (arith, unstarted, rests.under_way.some));
          begun = λ on. (rests.under_way.some, rests.under_way.begins);
          on_trail = λ some. subst (λ (o : Option Line). StandsOnTrail run lines o trail None old) nothing_next (rests_on_trail run lines stage trail s began old site rests);
          rows = λ some. ([], refl, ap (λ (p : Point). p.rows) (sym last_is ∙ rests.rest.point));
          goes_forth = λ past some. subst (λ (o : Option Line). GoesForth run lines o trail None began old) nothing_next (rests.under_way.goes_forth (omega (arith, past, goes.now.later)));
          volumes = stands.volumes;
          applied = λ on. all_applied run lines site old old point_is (slot_is_meant run site old read shows_site walk) (λ d. refl) walk;
        }

    -- ---- one that goes on

    module _ (goes_on : site.table.is_ended ≡ false) (own : s.table ≡ site.table) where
      abbrev asked : LinesAsked
      asked = asked_with lines None

      at_work : IsAtWork run asked l
      at_work = record {
        goes_on = ap (λ (p : Point). p.is_ended) rests.rest.point ∙ ap (λ (t : Table). t.is_ended) (stage_table ∙ own) ∙ goes_on;
        not_ending = rests.rest.not_ending;
        none_marked = rests.rest.marked;
      }

      some : (g : Group) × (s.group ≡ Some g) × GoesOnFrom run (first_leg run lines trail).point trail.points site old g
      some = some_value {P = GoesOnFrom run (first_leg run lines trail).point trail.points site old} s.group (rests.under_way.goes_on goes_on)

      -- A mark may come.
      pub may_finish : MayEndBy run stage asked l false site began old
      may_finish = record {
        marked = IsOnWay nothing_next rests.under_way.at.leg (ap (λ (p : Point). p.time) rests.rest.point) at_work;
        here = here;
        shows = subst (λ (p : Point). AtNow (ShowsPoint run (shape_of old) p) old) (sym here) shows_site;
        counted = rests.under_way.at.counted;
        group = some.0;
        rows = some.2.rows;
      }

      within : IsWithin run lines trail [] None began old
      within = record {
        goes = goes;
        exact = exact;
        some = rests.under_way.some;
        started = rests.under_way.started;
        begins = rests.under_way.begins;
        rowless = rests.under_way.rowless;
        next = subst (λ (o : Option Line). AreNext run lines o trail) nothing_next rests.under_way.next;
        goes_forth = λ up. subst (λ (o : Option Line). GoesForth run lines o trail None began old) nothing_next (rests.under_way.goes_forth up);
        marked = rests.rest.marked;
        answered = omega (arith, rests.rest.answered);
        volumes = stands.volumes;
        may = rest_is_meant run began.script lines [] goes.now.asked (past_counted run lines goes.now.course (length lines) (omega arith)) l rests.under_way.at.leg rests.rest.point rests.rest.changes;
      }

      module _ (new : PlantState) (same : SameSite old new) (past : Elapses old new) (silent : Silent old new) where
        pub finishing_stops : (stop : Stop) → (stop ≡ Spent → IsSpentNow new) → BeginsToPass run stage asked l old new → StopsInLine run lines [] began new stop
        finishing_stops stop spent begins = within_stops run lines trail [] None began old new nothing_next within same past silent stop spent begins

        pub finishing_ends : (tells : Type 0) → tells → site.waiting ≡ [] → hit_now site.failed site.told ≡ [] → VolumesStay tells old new → (next : SiteState) → IsMarkedSite tells false site next new
            → (n : PassedPoint) (hits : List Timed) → n.way ≡ OnTheWay hits → list_all (is_hit_at l.point.time) hits ≡ true → PassesPointsOn run stage asked l (n ∷ []) None old new → IsRunDone run lines (with_points (n ∷ []) trail) began new
        finishing_ends tells told idle none_hit volumes next marked n hits way are passes =
            let stand = marked.idle.may.fast.stands told in
            let comes = comes_by run asked l n (OnTheWay hits) way passes.linked.0 in
            record {
              goes = goes_still run lines trail [] None began old new nothing_next within same past silent (n ∷ []) None passes;
              at_end = silent.script ∙ at_end;
              exact = exact_still run lines trail [] None began old new nothing_next within same past silent (n ∷ []) None passes;
              unstarted = λ unstarted. absurd (omega (arith, unstarted, within.some));
              begun = λ on. (within.some, record { within = within.begins.within; before = within.begins.before; after = within.begins.after });
              on_trail = λ some. along_still run lines trail [] None began old new nothing_next within same past silent (n ∷ []) None passes;
              rows = λ some. (
                hits,
                subst (λ (t : ℕ). list_all (is_hit_at t) hits ≡ true) (ap (λ (p : Point). p.time) rests.rest.point) are,
                ap (λ (p : Point). p.rows) (last_append (first_leg run lines trail).point trail.points (n ∷ [])) ∙ comes.1.leads.rows ∙ ap (λ (p : Point). after_changes run.level hits p.rows) rests.rest.point,
              );
              goes_forth = λ up started. forth_still run lines trail [] None began old new nothing_next within same past silent (n ∷ []) None passes (omega (arith, up, goes.now.later));
              volumes = volumes_still run lines trail [] None began old new nothing_next within same past silent (n ∷ []) None passes;
              applied = λ on.
                  all_applied run lines site old new point_is (λ place r at duplex x low. slot_holds run site some.0 old some.2.rows idle none_hit read shows_site place r at duplex x low) (volumes.bytes told)
                  (nothing_is_walked new stand.0 next stand.1 marked.empty);
            }

-- ---- a session that is finished

-- Where nothing is done the runs are done.
pub finishes_still : (tells : Type 0) → tells → (s : SessionState) (began old : PlantState) → IsChoice old old.clock old.bytes → MayFinish tells s old → (s.site ≡ None) ⊎ ((site : SiteState) × (s.site ≡ Some site) × (s.is_ended ≡ true)) → (let r : Result (Unit {0}) Stop = Ok tt in FinishesRuns s began old old r)
finishes_still tells told s began old read may (inl none) run lines trail rises at_end goes exact stands = (trail, unstarted_finishes run lines trail s began old at_end goes exact stands none (may.unstarted none))
finishes_still tells told s began old read may (inr (site, is, ended)) run lines trail rises at_end goes exact stands =
    let idle = subst (λ (o : Option SiteState). IfSome o (λ x. IsSiteIdle tells x old)) is may.idle in
    let now = subst (λ (o : Option SiteState). IfSome o (λ x. s.is_ended ≡ x.table.is_ended)) is may.ended in
    let empty = subst (λ (o : Option SiteState). IfSome o (λ x. x.table.is_ended ≡ true → x.at ≡ x.mark.at)) is may.empty in
    (trail, ended_finishes run lines trail s began old at_end goes exact stands site is read tells told idle (empty (sym now ∙ ended)))

-- Where a mark is made, they are done by it or stop in it.
pub finishes_by_mark : (tells : Type 0) → tells → (s : SessionState) (site next : SiteState) (began old new : PlantState) (result : Result (Unit {0}) Stop) → IsChoice old old.clock old.bytes → IsSiteIdle tells site old → hit_now site.failed site.told ≡ [] → s.site ≡ Some site → site.table.is_ended ≡ false
    → s.table ≡ site.table → SameSite old new → Elapses old new → Silent old new → VolumesStay tells old new → (IsErrOf result Spent → IsSpentNow new) → OnOk result (IsMarkedSite tells false site next new) → MarksOn false site next began old new result → FinishesRuns s began old new result
finishes_by_mark tells told s site next began old new (Ok done) read idle none_hit is on own same past silent volumes spent marked marks run lines trail rises at_end goes exact stands =
    let ends = marks run (stage_after_text run lines [] began) (asked_with lines None) (last_leg run lines trail) (may_finish run lines trail s began old at_end goes exact stands site is read on own) rises in
    (with_points (ends.0 ∷ []) trail, finishing_ends run lines trail s began old at_end goes exact stands site is read on own new same past silent tells told idle.may.idle none_hit volumes next marked ends.0 ends.1.1.0 ends.1.1.1 ends.1.1.2 ends.2)
finishes_by_mark tells told s site next began old new (Err stop) read idle none_hit is on own same past silent volumes spent marked marks run lines trail rises at_end goes exact stands =
    finishing_stops run lines trail s began old at_end goes exact stands site is read on own new same past silent stop (λ is_spent. spent (ap (λ (x : Stop). let r : Result (Unit {0}) Stop = Err x in r) is_spent))
    (marks run (stage_after_text run lines [] began) (asked_with lines None) (last_leg run lines trail) (may_finish run lines trail s began old at_end goes exact stands site is read on own) rises)
