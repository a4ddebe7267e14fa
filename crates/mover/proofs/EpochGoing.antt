-- What an epoch does, from what its rounds did and from the history of its table.
use Rattle.std.proofs.Common.{◌≡◌, ◌<◌, ◌≤◌, ◌++◌, ℕ, Bool, true, false, not, nat_le, ◌&&◌, List, [], length, map, Option, Some, None, OnOk, refl, sym, ap, ◌∙◌, subst, arith}
use Rattle.std.specs.Prelude.{IsSomeAnd, slice_index_or}
use Rattle.std.specs.List.{list_all}
use Rattle.std.proofs.lemmas.Option.{slice_get_within}
use Rattle.crash_plant.specs.Moments.{PlantState}
use Rattle.write_trace.specs.declared.trace.Trace.{Trace}
use Rattle.group_state.specs.Groups.{Group}
use Rattle.group_state.specs.Runs.{Answer}
use Rattle.group_state.specs.SoundStates.{IsGroupSound}
use Rattle.xrc_journal.specs.Bodies.{have_image}
use Rattle.xrc_journal.specs.Items.{Item}
use Rattle.record_rows.specs.Deeds.{Deed}
use Rattle.site_store.specs.DeedChanges.{AreByChanges, deeds_of}
use Rattle.site_store.specs.DoneDeeds.{BeginsDeeds}
use Rattle.site_store.specs.Exceptions.{Exceptions}
use Rattle.fed_logs.specs.Feeds.{AllGoUpTo, is_answer_of_mover, is_up_to_limit, part_of_mover, part_of_reader}
use Rattle.fed_logs.specs.ShownBreaks.{BrokeAsTraces}
use Rattle.consistency.specs.Stages.{ScriptRun}
use Rattle.pair_table.specs.declared.level.Level.{Level}
use Rattle.pair_table.specs.Tables.{none_clash}
use Rattle.row_changes.specs.Changes.Due.{NoneDue}
use Rattle.mover.specs.Groups.{is_at_limit}
use Rattle.fed_logs.specs.Logs.{IsFedLog, is_call_of_seat}
use Rattle.fed_logs.specs.Moves.{AreEntriesLive, MakesDeeds, Plans}
use Rattle.fed_logs.proofs.Bearing.{logs_bear}
use Rattle.fed_logs.proofs.Breaking.{breaks_come}
use Rattle.fed_logs.proofs.Rising.{times_rise}
use Rattle.fed_logs.specs.Reads.{ReadsOn}
use Rattle.turn_group.specs.Calls.{MadeCall, as_answer}
use Rattle.turn_group.specs.Histories.{OneHistory}
use Rattle.turn_group.specs.Seats.{MoverSeatState, ReaderSeatState, TurnState, calls_at, seat_at}
use Rattle.site_store.specs.Applying.{excepted_by_apply}
use Rattle.site_store.specs.Sites.{SiteState}
use Rattle.mover.specs.declared.ends.EpochEnd.{EpochEnd}
use Rattle.mover.specs.declared.ends.EpochEnd.TheVariants as ends
use Rattle.mover.specs.declared.lane.Lane.{Lane}
use Rattle.mover.specs.Readers.{LaneReaderState}
use Rattle.mover.specs.Dropping.{OwesExactly}
use Rattle.mover.specs.Lanes.{HasFaultFrom}
use Rattle.mover.specs.Moves.{DidAll, KeepsAll, KnowsDuplex, MakesAll, Moved, are_shown_at_cuts}
use Rattle.mover.specs.Numbers.{UsesNumbers, UsesNumbersOf}
use Rattle.mover.specs.Steps.{AreMade}
use Rattle.mover.specs.Rounds.{AllRead, AreLanesOf, Read, SeatsAreBack}
use Rattle.mover.specs.Epochs.{AllTurnOut, AreStepsOf, BearsAfter, EpochGoes, EpochRun, HoldNone, IfReached, LaneWent, Shows, end_result}
use Rattle.mover.proofs.CutBreaks.{mover_shows_at_cuts}
use Rattle.mover.proofs.LaneFeeds.{lane_up_to, log_is_fed, some_item}
use Rattle.mover.proofs.StepsMade.{made_are_steps}
use Rattle.mover.proofs.LogParts.{contains_filtered, limited_all, log_of, mover_part, reader_part, seats_alone, up_to_limit}
use Rattle.mover.proofs.MovedOn.{on_ok}
use Rattle.mover.proofs.Numbers.{numbers_of}

-- Where no item waits, the same tracks are excepted once what waits is applied.
pub none_waits : (site : SiteState) (e : Exceptions) (d x : ℕ) → site.waiting ≡ [] → excepted_by_apply site e d x ≡ e d x
none_waits site e d x idle = ap (λ (items : List Item). e d x && not (have_image items d x)) idle ∙ still (e d x)
  where
    still : (b : Bool) → (b && true) ≡ b
    still true = refl
    still false = refl

-- after an answer what holds after Ok
did_so : (site after : SiteState) (deeds : List Deed) (was is : PlantState) (result : EpochEnd) → OnOk (end_result result) (DidAll site after deeds was is) → IfReached result (λ next. DidAll site after deeds was is)
did_so site after deeds was is (ends.Reached next) did = did
did_so site after deeds was is (ends.Store error) did = tt
did_so site after deeds was is ends.NoMemory did = tt

module _ {S : Type 0} (tells : Type 0) (left : S → Option (List ℕ)) (faults : S → ℕ) (limit : ℕ) (at : TurnState) (old new : List (Lane S)) (seat next : MoverSeatState) (seats : List (Option ReaderSeatState)) (end : Group) (site after : SiteState) (was is : PlantState) (result : EpochEnd)
    (none : seat.calls ≡ []) (lanes : AreLanesOf at.first limit old) (idle : site.waiting ≡ []) (marked : site.since ≡ 0) (low : site.time ≤ limit) (read : AllRead left faults limit seats old new) (moved : Moved tells seat next site after was is (end_result result)) (back : SeatsAreBack at next seats)
    (limited : list_all (is_at_limit limit) (map as_answer next.calls) ≡ true) (history : OneHistory at.first next.calls (map calls_at seats) end) (ended : IfReached result (λ g. g ≡ end)) where
  abbrev log : List Answer
  log = log_of at.first end next.calls seats history

  gained : map as_answer moved.gained ≡ part_of_mover log
  gained = ap (map as_answer) (sym (moved.calls ∙ ap (λ (l : List MadeCall). l ++ moved.gained) none)) ∙ sym (mover_part at.first end next.calls seats history)

  pub seats_are : list_all is_call_of_seat log ≡ true
  seats_are = seats_alone history.log history.seats

  lane_went : (k : ℕ) (d : Lane S) → k < length old → LaneWent left faults (part_of_reader k log) (slice_index_or old k d) (slice_index_or new k d)
  lane_went k d below = of (slice_index_or old k d).reader (slice_index_or new k d).reader (read.each k d below)
    where
      a : Lane S
      a = slice_index_or old k d

      b : Lane S
      b = slice_index_or new k d

      of : (p q : Option LaneReaderState) → IsSomeAnd p (λ r. IsSomeAnd q (Read left faults limit (seat_at seats k) a b r))
          → IsSomeAnd p (λ r. IsSomeAnd q (λ s. ReadsOn (left a.source) (left b.source) r.feed s.feed (part_of_reader k log) × HasFaultFrom r.feed.halted (faults a.source) (faults b.source) s.feed.halted))
      of None q h = absurd h
      of (Some r) None h = absurd h
      of (Some r) (Some s) h =
          let part = reader_part at.first end next.calls seats history k (omega (arith, below, lanes.many, back.many)) in
          (subst (λ (l : List Answer). ReadsOn (left a.source) (left b.source) r.feed s.feed l) (sym part) h.reads_on, h.fault)

  makes_so : (done : Plans) → KnowsDuplex site.told done → MakesDeeds site.time site.told done (part_of_mover log) (deeds_of moved.steps)
  makes_so done knows = subst (λ (l : List Answer). MakesDeeds site.time site.told done l (deeds_of moved.steps)) gained (moved.makes done knows)

  made_so : site.mark.ended ≡ false → AreMade site.level false (part_of_mover log) site.time site.told NoneDue moved.steps NoneDue
  made_so goes_on = subst (λ (l : List Answer). AreMade site.level false l site.time site.told NoneDue moved.steps NoneDue) gained (moved.made goes_on)

  pub changes_so : AreByChanges site.level site.time site.told moved.steps
  changes_so = moved.changes (subst (λ (l : List Answer). are_shown_at_cuts l ≡ true) (sym gained) (mover_shows_at_cuts at.first log end history.runs))

  pub owed_so : OnOk (end_result result) (OwesExactly site.told after.told (part_of_mover log) (deeds_of moved.steps))
  owed_so = on_ok (end_result result)
      (λ (o : OwesExactly site.told after.told (map as_answer moved.gained) (deeds_of moved.steps)). subst (λ (l : List Answer). OwesExactly site.told after.told l (deeds_of moved.steps)) gained o) moved.owed

  pub epoch_ran : UsesNumbers seat next site after (end_result result) → EpochRun left faults limit at.first old new site after was is result
  epoch_ran numbers = record {
    log = log;
    end = end;
    runs = history.runs;
    seats = seats_are;
    limited = limited_all limit log (subst (λ (l : List Answer). list_all (is_at_limit limit) l ≡ true) (sym (mover_part at.first end next.calls seats history)) limited);
    ended = ended;
    lanes = lane_went;
    steps = moved.steps;
    changes = changes_so;
    made = λ goes_on. made_so goes_on;
    pairs = moved.pairs;
    counted = moved.counted;
    live = subst (λ (due : Bool). AreEntriesLive due site.told (deeds_of moved.steps)) (ap (nat_le 1) marked) moved.live;
    entries = moved.entries;
    makes = makes_so;
    all = on_ok (end_result result)
        (λ (all : MakesAll site after (map as_answer moved.gained) (deeds_of moved.steps)). λ done knows. subst (λ (l : List Answer). KeepsAll site after done l (deeds_of moved.steps)) gained (all done knows)) moved.all;
    is_left = moved.is_left;
    owed = owed_so;
    numbers = subst (λ (l : List Answer). UsesNumbersOf l site after (end_result result)) (sym (mover_part at.first end next.calls seats history)) (numbers_of seat next site after (end_result result) none numbers);
  }

  pub epoch_shows : tells → Shows site after moved.steps was is result
  epoch_shows told = record {
    begins = λ excepted stands.
        subst (λ (e : Exceptions). BeginsDeeds e site.told (deeds_of moved.steps) was is) (λ i. λ d x. none_waits site excepted d x idle i) (moved.begins told excepted stands);
    did = did_so site after (deeds_of moved.steps) was is result (moved.did told);
  }

  fed_so : (traces : List Trace) → IsGroupSound at.first → AllTurnOut left traces old new → IsFedLog traces at.first end log
  fed_so traces keeps turns = log_is_fed left faults at.first end limit log old new keeps history.runs seats_are lanes lane_went traces turns

  up_to_so : (traces : List Trace) → HoldNone old → AllTurnOut left traces old new → AllGoUpTo limit traces log
  up_to_so traces none_held turns k t there =
      let below : k < length old = omega (arith, slice_get_within traces k t there, turns.many) in
      let d = some_item old k below in
      let part = reader_part at.first end next.calls seats history k (omega (arith, below, lanes.many, back.many)) in
      subst (λ (l : List Answer). list_all (is_up_to_limit limit t) l ≡ true) (sym part)
      (lane_up_to left faults t limit (seat_at seats k) (slice_index_or old k d) (slice_index_or new k d) (read.each k d below) (none_held.each k d below) (turns.each k t d there))

  abbrev any_done : Plans
  any_done = λ k v. true

  -- They are steps.
  steps_so : (run : ScriptRun) → run.level ≡ site.level → site.mark.ended ≡ false → none_clash site.told ≡ true → IsGroupSound at.first → AllTurnOut left run.traces old new → BrokeAsTraces run.traces at.first → AreStepsOf run site moved.steps
  steps_so run level goes_on apart keeps turns broke =
      let made = subst (λ (l : Level). AreMade l false (part_of_mover log) site.time site.told NoneDue moved.steps NoneDue) (sym level) (made_so goes_on) in
      let steps = made_are_steps run at.first end log (part_of_mover log) (fed_so run.traces keeps turns) broke (contains_filtered is_answer_of_mover log) false site.time site.told NoneDue moved.steps NoneDue apart made in
      record { each = steps.0; due = steps.1 }

  pub epoch_bears : BearsAfter left limit at.first end old new site log moved.steps
  epoch_bears = record {
    fed = fed_so;
    up_to = up_to_so;
    tracks = λ size traces held done keeps turns knows begins n few.
        logs_bear size traces held at.first end log site.time site.told done (deeds_of moved.steps) (fed_so traces keeps turns) begins (makes_so done knows) n few;
    breaks = λ traces keeps turns n few k b t there breaks awaits low early.
        breaks_come traces at.first end log site.time site.told any_done (deeds_of moved.steps) k b t (fed_so traces keeps turns) (makes_so any_done (λ k v has. refl)) there breaks awaits low n few early;
    times = λ n m nm few.
        times_rise site.time limit at.first end log site.told any_done (deeds_of moved.steps) n m history.runs (makes_so any_done (λ k v has. refl)) low
        (up_to_limit limit log (limited_all limit log (subst (λ (l : List Answer). list_all (is_at_limit limit) l ≡ true) (sym (mover_part at.first end next.calls seats history)) limited))) nm few;
    each = steps_so;
  }

  pub epoch_goes : UsesNumbers seat next site after (end_result result) → EpochGoes tells left faults limit at.first old new site after was is result
  unfolding epoch_ran
  epoch_goes numbers = record { ran = epoch_ran numbers; shows = epoch_shows; bears = epoch_bears }
