-- A mark in a run passes its point, by which the session ends or goes on.
use Rattle.std.proofs.Common.{◌≡◌, ℕ, zero, suc, ◌≤◌, Bool, true, false, not, List, [], ◌∷◌, length, take, Option, Some, None, Result, Ok, refl, sym, ap, subst, ◌∙◌, arith, true≢false}
use Rattle.std.specs.Prelude.{IfSome, IsTrue, is_none}
use Rattle.std.specs.List.{list_all}
use Rattle.crash_plant.specs.Choices.{AtNow}
use Rattle.crash_plant.specs.Moments.{PlantState}
use Rattle.pair_table.specs.declared.level.Level.{Level}
use Rattle.pair_table.specs.declared.row.PairRow.{PairRow}
use Rattle.row_changes.specs.Changes.{Timed, may_end}
use Rattle.row_changes.specs.Spans.{is_hit_at}
use Rattle.record_rows.specs.Deeds.{Deed}
use Rattle.record_rows.specs.Deeds.Deed.{Marked}
use Rattle.record_rows.specs.Hits.{hit_changes, hit_now}
use Rattle.site_means.specs.Images.{shape_of}
use Rattle.xrc_command.specs.declared.line.Line.{Line}
use Rattle.site_store.specs.declared.store_error.StoreError.{StoreError}
use Rattle.site_store.specs.IdleSites.{IsSiteIdle}
use Rattle.site_store.specs.Causes.{FailByCounts}
use Rattle.site_store.specs.DoneDeeds.{DoesDeeds, PassedDeed}
use Rattle.site_store.specs.Marking.{DoesMark, Marks, rows_at_mark}
use Rattle.site_store.specs.Sites.{SiteState}
use Rattle.consistency.specs.Stages.{IsTime, ScriptRun, Stage, accepts_end, breaks_of}
use Rattle.consistency.specs.Bearing.{MayBeMeant, ShowsPoint}
use Rattle.consistency.specs.Leads.{HitsLead, Point}
use Rattle.consistency.specs.Ways.{ComesBy, HasCountedHits, IsAtWork, IsCommanding, IsEnding, IsLegOf, IsToEnd, Leg, PassedPoint, Way, leg_after, leg_by, leg_to, table_at}
use Rattle.consistency.specs.Ways.Way.{Commanded, Ending}
use Rattle.consistency.proofs.CountingHits.{command_is_counted, end_is_counted, leg_is_counted}
use Rattle.consistency.proofs.Legs.{command_may_be_meant, ending_may_be_meant, leg_is_hit, leg_may_be_meant}
use Rattle.mover.specs.Working.{LinesAsked}
use Rattle.xrc_session.specs.Answering.{EndsMark, IsMarkedAt, MayEndBy, way_of_mark}
use Rattle.xrc_session.specs.Answering.IsMarkedAt.{IsOnWay, IsAtEnd}
use Rattle.xrc_session.specs.LinePauses.{RisesCover, site_point}
use Rattle.xrc_session.specs.EpochPauses.{Between}
use Rattle.xrc_session.specs.Frames.{ChangesRows}
use Rattle.xrc_session.specs.Lanes.{sizes_of}
use Rattle.xrc_session.specs.Resting.{ArePointsAfter, IsPointAfter, ShowsBefore}
use Rattle.xrc_session.specs.Steps.{BeginsToPass, PassesPointsOn}
use Rattle.xrc_session.specs.Trails.{AreHitsOfFaults}
use Rattle.xrc_session.proofs.AnswerAhead.{AreAhead, NextPoint, leg_next, passed_at, passed_by}
use Rattle.xrc_session.proofs.AnswerDeeds.{begun_passes, done_passes, rows_unwritten}
use Rattle.xrc_session.proofs.AnswerHits.{AreOfFaults, NoneFalls, counted_hits, end_counted, hits_lead, hits_of_faults, hits_on_the_way, leg_counted, way_counted}
use Rattle.xrc_session.proofs.AnswerSites.{IsSiteOfRun, ended_accepts_none, site_of_run}
use Rattle.xrc_session.proofs.AnswerWorks.{rose_for_each}
use Rattle.xrc_session.proofs.RestingRows.{idle_marks_except_no_more, marks_keep_tracks}

-- ---- the point

-- the point of a mark with these hits, by which the session ends or goes on
abbrev pub marked_point : (ended : Bool) → (failed : List Bool) → SiteState → Point
marked_point ended failed site = record (site_point site) { rows = rows_at_mark site.level site failed; is_ended = ended }

abbrev pub marked_hits : (failed : List Bool) → SiteState → List Timed
marked_hits failed site = hit_changes site.time (hit_now failed site.told)

abbrev pub marked_next : (ended : Bool) → (line : ℕ) → (failed : List Bool) → SiteState → NextPoint
marked_next ended line failed site = record { point = marked_point ended failed site; way = way_of_mark ended line (marked_hits failed site) }

-- the point that is meant after the first of the mark's deeds
abbrev told_by_mark : (ended : Bool) → (failed : List Bool) → SiteState → List Deed → Point
told_by_mark ended failed site [] = site_point site
told_by_mark ended failed site (deed ∷ deeds) = marked_point ended failed site

abbrev mark_deeds : (ended : Bool) → (failed : List Bool) → SiteState → List Deed
mark_deeds ended failed site = Marked site.at ended (rows_at_mark site.level site failed) ∷ []

told_are : (ended : Bool) (failed : List Bool) (site : SiteState) → ArePointsAfter (mark_deeds ended failed site) (site_point site) (told_by_mark ended failed site)
told_are ended failed site = record { first = refl; after = after }
  where
    after : (n : ℕ) → n ≤ 1 → IsPointAfter (take n (mark_deeds ended failed site)) (site_point site) (told_by_mark ended failed site (take n (mark_deeds ended failed site)))
    after zero few = record { time = refl; rows = refl; ended = refl }
    after (suc zero) few = record { time = refl; rows = refl; ended = refl }
    after (suc (suc n)) few = absurd (omega (arith, few))

-- ---- it comes next

-- A mark's point comes next at a leg, may be meant, and each of its hits has a fault and comes at the leg's time.
pub record IsMarkNext (run : ScriptRun) (stage : Stage) (asked : LinesAsked) (l : Leg) (ended : Bool) (failed : List Bool) (site : SiteState) (began new : PlantState) : Type 0 where
  pub line : ℕ
  pub comes : ComesBy run asked l (marked_point ended failed site) (way_of_mark ended line (marked_hits failed site))
  pub meant : MayBeMeant run stage (marked_point ended failed site)
  pub counted : AreHitsOfFaults (leg_next l (marked_next ended line failed site)) began new
  pub here_meant : MayBeMeant run stage l.point
  pub point : (leg_next l (marked_next ended line failed site)).point ≡ marked_point ended failed site
  pub are_hits : IsTrue (list_all (is_hit_at l.point.time) (marked_hits failed site))

module _ (run : ScriptRun) (stage : Stage) (asked : LinesAsked) (l : Leg) (failed : List Bool) (site : SiteState) (began old new : PlantState) (here : l.point ≡ site_point site) (of_run : IsSiteOfRun run site) (up : NoneFalls old new)
    (before : AreHitsOfFaults l began old) (cover : RisesCover run began new) (own : AreOfFaults (marked_hits failed site) old new) where
  -- The mark's hits lead to its point, but for the flag.
  lead : (flag : Bool) → l.point.is_ended ≡ flag → HitsLead run.level (breaks_of run) l.point (marked_point flag failed site) (marked_hits failed site)
  lead flag is =
      subst (λ (p : Point). HitsLead run.level (breaks_of run) p (marked_point flag failed site) (marked_hits failed site)) (sym here)
      (subst (λ (e : Bool). HitsLead run.level (breaks_of run) (site_point site) (marked_point e failed site) (marked_hits failed site)) (ap (λ (p : Point). p.is_ended) (sym here) ∙ is)
      (subst (λ (level : Level). HitsLead level (breaks_of run) (site_point site) (marked_point site.mark.ended failed site) (marked_hits failed site)) of_run.level
      (hits_lead site.level (breaks_of run) (site_point site) refl failed)))

  counts : HasCountedHits run l
  counts = counted_hits run l began new (leg_counted l began old new up before) cover

  module _ (heard : stage.next ≡ None) (leg : IsLegOf run stage l) (at : l.point.time ≡ stage.replied) (at_work : IsAtWork run asked l) where
    goes : stage.table.is_ended ≡ false
    goes = sym leg.whole.leads.goes_on ∙ at_work.goes_on

    -- The time of the mark is that of the last reply.
    time_here : (time : ℕ) → time ≡ stage.replied → IsTime stage time
    time_here time is = (omega (arith, is), timed stage.next heard)
      where
        timed : (n : Option Line) → n ≡ None → (let T : Type 0 = elim n [ None ↦ time ≡ stage.replied | Some m ↦ elim stage.table.is_ended [ true ↦ time ≡ stage.replied | false ↦ time ≤ m.time.0 ] ] in T)
        timed None none = is
        timed (Some m) none = absurd cc

    on_way : IsMarkNext run stage asked l false failed site began new
    on_way = record {
      line = 0;
      comes = (at_work, hits_on_the_way run stage l q hits leg (lead false at_work.goes_on));
      meant = leg_may_be_meant run stage goes (leg_to l q hits) next (time_here q.time (sym (ap (λ (p : Point). p.time) here) ∙ at)) (leg_is_counted run stage (leg_to l q hits) next (counted_hits run (leg_to l q hits) began new counted cover)) refl;
      counted = counted;
      here_meant = leg_may_be_meant run stage goes l leg (time_here l.point.time at) (leg_is_counted run stage l leg counts) (ap (λ (p : Point). may_end (not (is_none stage.next)) p.time p.due) here);
      point = refl;
      are_hits = (lead false at_work.goes_on).are_hits;
    }
      where
        q : Point
        q = marked_point false failed site

        hits : List Timed
        hits = marked_hits failed site

        next : IsLegOf run stage (leg_to l q hits)
        next = leg_is_hit run stage l q hits leg (lead false at_work.goes_on)

        counted : AreHitsOfFaults (leg_to l q hits) began new
        counted = way_counted l began old new up before q hits own

  module _ (number : ℕ) (from : Leg) (after : List Timed) (leg : IsLegOf run stage from) (asked_is : asked number ≡ stage.next) (commanding : IsCommanding run stage.next from l.point after)
      (is : l ≡ leg_by from l.point (Commanded number after)) (to_end : IsToEnd number l) (accepted : accepts_end run (table_at run l.point) stage.next ≡ true) where
    -- The session hadn't ended before the command.
    from_goes : from.point.is_ended ≡ false
    from_goes = by_flag from.point.is_ended refl
      where
        by_flag : (b : Bool) → from.point.is_ended ≡ b → b ≡ false
        by_flag true ended =
            let still : l.point.is_ended ≡ true = ap (λ (p : Point). p.is_ended) (commanding.ended ended).0 ∙ ended in
            absurd (true≢false (sym accepted ∙ ended_accepts_none run (table_at run l.point) stage.next still))
        by_flag false ended = refl

    here_goes : l.point.is_ended ≡ false
    here_goes = (commanding.active from_goes).leads.leads.goes_on ∙ from_goes

    at_line : IfSome stage.next (λ line. l.point.time ≡ line.time.0)
    at_line = subst (λ (o : Option Line). IfSome o (λ line. l.point.time ≡ line.time.0)) (sym commanding.heard) (let effect = commanding.active from_goes in effect.leads.at ∙ effect.may.at)

    ending : IsEnding run stage.next l.point (marked_point true failed site) (marked_hits failed site)
    ending = record { accepted = accepted; at = at_line; ended = refl; leads = lead false here_goes }

    stage_goes : stage.table.is_ended ≡ false
    stage_goes = sym leg.whole.leads.goes_on ∙ from_goes

    at_end : IsMarkNext run stage asked l true failed site began new
    at_end = record {
      line = number;
      comes = (to_end, subst (λ (o : Option Line). IsEnding run o l.point q hits) (sym asked_is) ending);
      meant = ending_may_be_meant run stage stage_goes from l.point q after hits leg commanding ending
          (end_is_counted run stage from leg l.point q number after hits (subst (λ (x : Leg). HasCountedHits run (leg_by x q (Ending number hits))) is (counted_hits run (leg_by l q (Ending number hits)) began new counted cover)));
      counted = counted;
      here_meant = command_may_be_meant run stage stage_goes from l.point after leg commanding (command_is_counted run stage from leg l.point number after (subst (HasCountedHits run) is counts));
      point = refl;
      are_hits = ending.leads.are_hits;
    }
      where
        q : Point
        q = marked_point true failed site

        hits : List Timed
        hits = marked_hits failed site

        counted : AreHitsOfFaults (leg_by l q (Ending number hits)) began new
        counted = end_counted l began old new up before to_end.none_marked q number hits own

  pub mark_next : (ended : Bool) → IsMarkedAt run stage asked l ended → IsMarkNext run stage asked l ended failed site began new
  mark_next _ (IsOnWay heard leg at at_work) = on_way heard leg at at_work
  mark_next _ (IsAtEnd number from after leg asked_is commanding is to_end accepted) = at_end number from after leg asked_is commanding is to_end accepted

-- ---- it is passed

module _ (tells : Type 0) (told : tells) (site next : SiteState) (ended : Bool) (old new : PlantState) (idle : IsSiteIdle tells site old) (none : hit_now site.failed site.told ≡ []) (fails : FailByCounts site.failed next.failed old.faults new.faults)
    (up : NoneFalls old new) (run : ScriptRun) (stage : Stage) (asked : LinesAsked) (l : Leg) (began : PlantState) (may : MayEndBy run stage asked l ended site began old) (cover : RisesCover run began new) where
  abbrev b : Between
  b = record { run = run; size = sizes_of run.traces; excepted = may.rows.excepted; group = may.group; point = site_point site; done = may.rows.done }

  found : IsMarkNext run stage asked l ended next.failed site began new
  found =
      mark_next run stage asked l next.failed site began old new may.here (site_of_run run old may.rows.excepted site l.point may.rows.stands may.shows may.rows.rows.some) up may.counted cover
      (hits_of_faults site.time (hit_now next.failed site.told) old new up (rose_for_each site.failed next.failed old.faults new.faults site.told fails none)) ended may.marked

  abbrev ahead : List NextPoint
  ahead = marked_next ended found.line next.failed site ∷ []

  abbrev deeds : List Deed
  deeds = mark_deeds ended next.failed site

  before : ShowsBefore old b site.told deeds
  before = record {
    stands = may.rows.rows;
    shows = subst (λ (p : Point). AtNow (ShowsPoint run (shape_of old) p) old) may.here may.shows;
    same = refl;
    keep = marks_keep_tracks site site.time ended next.failed;
  }

  comes : AreAhead run stage asked l ahead
  comes = ((found.comes, counted_hits run (leg_next l (marked_next ended found.line next.failed site)) began new found.counted cover), found.meant, tt)

  abbrev way : PassedDeed → Way
  way n = way_of_mark ended found.line (marked_hits next.failed site)

  volumes : (result : Result (Unit {0}) StoreError) → DoesMark tells site next ended old new result → (all : List PairRow) → ChangesRows all old new
  volumes result does all = rows_unwritten tells told old new does.volumes all

  -- Where the mark fails it begins to be passed.
  pub mark_begins : (result : Result (Unit {0}) StoreError) → DoesMark tells site next ended old new result → BeginsToPass run stage asked l old new
  mark_begins result does =
      begun_passes old new b stage asked l site.told deeds ahead (told_by_mark ended next.failed site) way may.here before (told_are ended next.failed site) (refl, (λ t. refl), tt) comes (volumes result does)
      found.here_meant found.point ((idle_marks_except_no_more old new may.rows.excepted site site.told deeds idle.may.idle).1 (does.begins told may.rows.excepted may.rows.stands))

  one_only : (moments : List ℕ) → length moments ≡ 1 → (t : ℕ) × (moments ≡ t ∷ [])
  one_only [] count = absurd (omega (arith, count))
  one_only (t ∷ []) count = (t, refl)
  one_only (t ∷ u ∷ moments) count = absurd (omega (arith, count))

  -- Where it counts it is passed.
  pub mark_passes : {P : Type 0} (was is : P) → Marks site next ended was is (Ok tt) → DoesMark tells site next ended old new (Ok tt) → EndsMark run stage asked l ended next began old new (Ok tt)
  mark_passes was is marks does = (n, (found.line, (marked_hits next.failed site, refl, found.are_hits)), passes, record { here = here; shows = shows; counted = found.counted })
    where
      done : DoesDeeds may.rows.excepted site.told deeds old new
      done = (idle_marks_except_no_more old new may.rows.excepted site site.told deeds idle.may.idle).0 (does.does told may.rows.excepted may.rows.stands)

      moment : (t : ℕ) × (done.moments ≡ t ∷ [])
      moment = one_only done.moments done.each

      n : PassedPoint
      n = passed_at moment.0 (marked_next ended found.line next.failed site)

      passes : PassesPointsOn run stage asked l (n ∷ []) None old new
      passes =
          subst (λ (moments : List ℕ). PassesPointsOn run stage asked l (passed_by moments ahead) None old new) moment.1
          (done_passes old new b stage asked l site.told deeds ahead (told_by_mark ended next.failed site) way may.here before (told_are ended next.failed site) (refl, (λ t. refl), tt) comes (volumes (Ok tt) does) done)

      here : (leg_after l n).point ≡ site_point next
      here = found.point ∙ sym (ap site_point marks.next_is)

      shows : AtNow (ShowsPoint run (shape_of new) (leg_after l n).point) new
      shows c has = subst (λ (p : Point). ShowsPoint run (shape_of new) p c) (sym found.point) (passes.now c has)
