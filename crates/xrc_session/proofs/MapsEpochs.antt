-- Maps have what rows owe after an epoch that reached its limit.
use Rattle.std.proofs.Common.{◌≡◌, ℕ, ◌<◌, true, false, List, [], ◌∷◌, ◌++◌, length, Option, Some, None, refl, sym, ap, subst, ◌∙◌, arith, true≢false}
use Rattle.std.specs.Prelude.{IsSomeAnd, slice_get, slice_index_or}
use Rattle.std.specs.Option.{option_map}
use Rattle.crash_plant.specs.Moments.{PlantState}
use Rattle.ckd_track.specs.declared.write.Cause.{Cause}
use Rattle.write_trace.specs.declared.trace.Trace.{Trace}
use Rattle.sidefile.specs.Breaks.{Break, break_time}
use Rattle.sidefile.specs.declared.hand.Halt.{Halt}
use Rattle.sidefile.specs.declared.hand.Halt.TheVariants as halts
use Rattle.group_state.specs.declared.phase.Phase.{Phase}
use Rattle.group_state.specs.declared.phase.Phase.TheVariants.{Unbroken, Broken, Reported}
use Rattle.group_state.specs.Controls.{counts, is_reporting, new_control}
use Rattle.group_state.specs.Groups.{Group, control_at}
use Rattle.group_state.specs.SoundStates.{IsGroupSound, has_reported}
use Rattle.group_state.proofs.FormLaws.{all_at}
use Rattle.passages.specs.Points.{last_point}
use Rattle.consistency.specs.Stages.{ScriptRun, breaks_of}
use Rattle.consistency.specs.Leads.{Point}
use Rattle.consistency.specs.Ways.{PassedPoint}
use Rattle.site_store.specs.DeedChanges.{deeds_of}
use Rattle.site_store.specs.Sites.{SiteState}
use Rattle.fed_logs.specs.Feeds.{part_of_mover}
use Rattle.fed_logs.specs.Logs.{IsFedLog}
use Rattle.fed_logs.specs.ShownBreaks.{BreaksAreToCome, BrokeAsTraces}
use Rattle.fed_logs.specs.ToldTracks.{floor_of}
use Rattle.fed_logs.proofs.Bearing.{reached_holds}
use Rattle.fed_logs.proofs.Keeping.{reported_to_last}
use Rattle.fed_logs.proofs.ReadCalls.{some_trace}
use Rattle.fed_logs.proofs.ShownBreaks.{logs_break_as_traces}
use Rattle.mover.specs.declared.lane.Lane.{Lane}
use Rattle.mover.specs.Epochs.{IsAtLimit, point_of}
use Rattle.mover.specs.Lanes.{IsReaderOf}
use Rattle.mover.specs.Moves.{KeepsAll, LogsEntriesOf}
use Rattle.mover.specs.Readers.{LaneReaderState}
use Rattle.xrc_session.specs.Maps.{RestsAtCut}
use Rattle.xrc_session.specs.MapsLaws.{MapsOwedAfterEpochs, ReachesLimit}
use Rattle.xrc_session.specs.MapsOwed.{HasCutOrNoRow, HaveRowsOf, DeedsLeadTo, MapsOwed, MapsRest}
use Rattle.xrc_session.proofs.MapsOwed.{maps_owed_after_logs, run_count}
use Rattle.xrc_session.proofs.MapsSteps.{steps_go}

-- ---- at the limit

broken_at : (next : Group) (k limit : ℕ) (t : Trace) (traces : List Trace) → slice_get traces k ≡ Some t → k < length next.controls → IsGroupSound next → next.last.0 ≡ limit → BrokeAsTraces traces next → BreaksAreToCome traces limit next
    → (cause : Cause) → (control_at next k).phase ≡ Broken cause → ⊥
broken_at next k limit t traces at low keeps cut broke come cause is =
    let counted : counts (control_at next k).phase ≡ true = ap counts is in
    let up = reported_to_last next.last (control_at next k) (all_at (has_reported next.last) next.controls k (new_control 0 0 0) keeps.told low) counted in
    let time : break_time t ≡ Some (floor_of next k) = ap (option_map (λ (b : Break). b.upto)) (broke k t at cause is) in
    let tells = come k (floor_of next k) t at time (omega (arith, up, cut)) in
    true≢false (sym tells.reporting ∙ ap is_reporting is)

-- After an epoch that reached its limit each controller that counts has reported up to it.
told_at_limit : (next : Group) (k limit : ℕ) (t : Trace) (traces : List Trace) (o : Option LaneReaderState) → slice_get traces k ≡ Some t → k < length next.controls → IsGroupSound next → next.last.0 ≡ limit → BrokeAsTraces traces next → BreaksAreToCome traces limit next
    → IsSomeAnd o (IsReaderOf next k limit) → IsSomeAnd o (IsAtLimit limit) → counts (control_at next k).phase ≡ true → floor_of next k ≡ limit
told_at_limit next k limit t traces None at low keeps cut broke come reads stands counted = absurd reads
told_at_limit next k limit t traces (Some r) at low keeps cut broke come reads stands counted = choose r.feed.halted refl
  where
    by : (phase : Phase) → (control_at next k).phase ≡ phase → is_reporting phase ≡ false → counts phase ≡ true → ⊥
    by Unbroken is told counted = true≢false told
    by (Broken cause) is told counted = broken_at next k limit t traces at low keeps cut broke come cause is
    by Reported is told counted = true≢false (sym counted)

    choose : (h : Option Halt) → r.feed.halted ≡ h → floor_of next k ≡ limit
    choose None is = reads.floor is ∙ (stands is).1
    choose (Some (halts.Broken cause upto)) is = absurd (by (control_at next k).phase refl (reads.broken cause upto is) counted)
    choose (Some halts.NoMemory) is = absurd (reads.goes is)

some_lane : {S : Type 0} (lanes : List (Lane S)) (k : ℕ) → k < length lanes → Lane S
some_lane [] k low = absurd (omega (arith, low))
some_lane (lane ∷ lanes) k low = lane

-- ---- an epoch

module _ {S : Type 0} (tells : Type 0) (left : S → Option (List ℕ)) (faults : S → ℕ) (limit : ℕ) (run : ScriptRun) (group next : Group) (old new : List (Lane S)) (site after : SiteState) (was is : PlantState)
    (e : ReachesLimit tells left faults limit run group next old new site after was is) (entries : LogsEntriesOf site.told (deeds_of e.goes.ran.steps)) where
  kept : KeepsAll site after e.done (part_of_mover e.goes.ran.log) (deeds_of e.goes.ran.steps)
  kept = e.goes.ran.all e.done e.begins.stand.duplex

  fed : IsFedLog run.traces group e.goes.ran.end e.goes.ran.log
  fed = e.goes.bears.fed run.traces e.keeps e.turns

  leads : DeedsLeadTo run e.size e.held group e.goes.ran.end e.goes.ran.log (point_of site) (point_of after) e.done kept.known (deeds_of e.goes.ran.steps)
  leads = record {
    fed = fed;
    begins = e.begins;
    kept = kept.makes;
    apart = e.apart;
    carried = e.carried;
    go = steps_go run.level (breaks_of run) (point_of site) e.goes.ran.steps (e.goes.bears.each run e.level e.going e.apart e.keeps e.turns e.broke).each e.goes.ran.pairs;
    entries = entries;
    owed = e.goes.ran.owed;
    times = λ n low. let below = (e.goes.bears.times n n (omega arith) low).1 in let at = e.reached.time.time in omega (arith, below, at);
  }

  end_keeps : IsGroupSound e.goes.ran.end
  end_keeps = (reached_holds e.size run.traces e.held group e.goes.ran.end e.goes.ran.log site.time after.time site.told after.told e.done kept.known (deeds_of e.goes.ran.steps) fed e.begins kept.makes).2

  next_keeps : IsGroupSound next
  next_keeps = subst IsGroupSound (sym e.goes.ran.ended) end_keeps

  next_broke : BrokeAsTraces run.traces next
  next_broke = subst (BrokeAsTraces run.traces) (sym e.goes.ran.ended) (logs_break_as_traces run.traces group e.goes.ran.end e.goes.ran.log fed e.broke)

  next_come : BreaksAreToCome run.traces limit next
  next_come = e.reached.awaits run.traces e.up e.keeps e.turns e.come

  rests : RestsAtCut next after.time
  rests = record {
    cut = e.reached.cut ∙ sym e.reached.time.time;
    told = λ k low counted.
        let many = e.reached.lanes.many in
        let within : k < length new = omega (arith, low, many) in
        let d = some_lane new k within in
        let each = fed.each in
        let count = run_count e.goes.ran.log group e.goes.ran.end fed.runs in
        let same = ap (λ (g : Group). length g.controls) e.goes.ran.ended in
        let t = some_trace run.traces k (omega (arith, low, each, count, same)) in
        told_at_limit next k limit t.0 run.traces (slice_index_or new k d).reader t.1 low next_keeps e.reached.cut next_broke next_come (e.reached.lanes.each k d within) (e.reached.at_limit k d within) counted ∙ sym e.reached.time.time;
  }

  maps_over_epoch : (first : Point) (points more : List PassedPoint) → (last_point first points).rows ≡ site.told → HaveRowsOf more (deeds_of e.goes.ran.steps) → MapsRest (point_of site) group → HasCutOrNoRow site.time site.told group → MapsOwed run first points (point_of site) group
      → MapsOwed run first (points ++ more) (point_of after) next × MapsRest (point_of after) next
  maps_over_epoch first points more here have rest cut owed =
      subst (λ (g : Group). MapsOwed run first (points ++ more) (point_of after) g × MapsRest (point_of after) g) (sym e.goes.ran.ended)
      (maps_owed_after_logs run e.size e.held group e.goes.ran.end e.goes.ran.log first points more (point_of site) (point_of after) e.done kept.known (deeds_of e.goes.ran.steps) leads here have rest cut (subst (λ (g : Group). RestsAtCut g after.time) e.goes.ran.ended rests) owed)

pub maps_owed_after_epochs : {S : Type 0} (tells : Type 0) (left : S → Option (List ℕ)) (faults : S → ℕ) (was is : PlantState) → MapsOwedAfterEpochs tells left faults was is
maps_owed_after_epochs tells left faults was is limit run group next old new site after first points more e entries have here rest cut owed =
    maps_over_epoch tells left faults limit run group next old new site after was is e entries first points more here have rest cut owed
