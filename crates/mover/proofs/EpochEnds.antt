-- What an epoch owes its callers, by how its rounds ended.
use Rattle.std.proofs.Common.{◌≡◌, ◌<◌, ◌+◌, ℕ, true, List, [], length, map, Option, Some, None, Result, Ok, refl, sym, ap, ◌∙◌, subst, arith}
use Rattle.std.specs.Prelude.{All, IsSomeAnd, slice_index_or}
use Rattle.std.specs.List.{list_all}
use Rattle.std.proofs.lemmas.List.{get_or_default}
use Rattle.tod_stamp.specs.declared.stamp.Stamp.{Stamp}
use Rattle.atomic_table.specs.Seated.{TableId}
use Rattle.crash_plant.specs.Moments.{PlantState}
use Rattle.group_state.specs.Groups.{Group}
use Rattle.group_state.specs.SoundStates.{IsGroupSound}
use Rattle.mover.specs.Groups.{is_at_limit}
use Rattle.fed_logs.specs.Logs.{AreSized}
use Rattle.fed_logs.specs.ShownBreaks.{BreaksAreToCome}
use Rattle.mover.specs.OwedTracks.{CarriedAsLive, FailedAreOwed}
use Rattle.turn_group.specs.Calls.{as_answer}
use Rattle.turn_group.specs.Histories.{OneHistory}
use Rattle.turn_group.specs.Notes.{says}
use Rattle.turn_group.specs.Notes.SeatNote.{MoverNote}
use Rattle.turn_group.specs.Seats.{IsSeated, MoverSeatState, ReaderSeatState, TurnState, calls_at, new_mover, seat_at}
use Rattle.site_store.specs.DeedChanges.{deeds_of}
use Rattle.site_store.specs.declared.store_error.StoreError.{StoreError}
use Rattle.site_store.specs.Sites.{SiteState}
use Rattle.mover.specs.declared.ends.EpochEnd.{EpochEnd}
use Rattle.mover.specs.declared.ends.EpochEnd.TheVariants as ends
use Rattle.mover.specs.declared.ends.RoundsEnd.{RoundsEnd}
use Rattle.mover.specs.declared.lane.Lane.{Lane}
use Rattle.mover.specs.Moves.{MayMove, Moved}
use Rattle.mover.specs.Numbers.{UsesNumbers}
use Rattle.mover.specs.Readers.{LaneReaderState}
use Rattle.mover.specs.Lanes.{IsSameLane}
use Rattle.mover.specs.Rounds.{AllRead, AreLanesOf, HasReached, Read, SeatsAreBack, store_result}
use Rattle.mover.specs.Epochs.{EpochGoes, IfReached, MayBeginEpoch, ReachedBy, end_result}
use Rattle.mover.proofs.CarriedAgain.{apart_again, carried_again}
use Rattle.mover.proofs.EpochGoing.{changes_so, epoch_bears, epoch_goes, owed_so, seats_are}
use Rattle.mover.proofs.EpochReached.{at_time, breaks_are_to_come, lanes_again, lanes_at_limit, lanes_broke, may_begin}
use Rattle.mover.proofs.FailedOwe.{failed_owe}
use Rattle.mover.proofs.LanesAgain.{sizes_stay}
use Rattle.mover.proofs.LogParts.{log_of, reader_part}

-- ---- seats

seat_home : (table : TableId) (k : ℕ) (place : Option ReaderSeatState) → IsSomeAnd place (λ seat. (seat.table ≡ table) × (seat.control ≡ k)) → IsSeated table place
seat_home table k None is = absurd is
seat_home table k (Some seat) is = is.0

-- All seats that are back are of the table.
pub seats_home : (at : TurnState) (mover : MoverSeatState) (readers : List (Option ReaderSeatState)) → SeatsAreBack at mover readers → All (IsSeated at.table) readers
seats_home at mover readers back k d low = subst (IsSeated at.table) (get_or_default readers k None d low) (seat_home at.table k (seat_at readers k) (back.each k low))

-- ---- a lane

same_lane : {S : Type 0} (left : S → Option (List ℕ)) (faults : S → ℕ) (limit : ℕ) (seat : Option ReaderSeatState) (a b : Lane S) (p q : Option LaneReaderState)
    → IsSomeAnd p (λ was. IsSomeAnd q (Read left faults limit seat a b was)) → IsSomeAnd p (λ was. IsSomeAnd q (λ is. IsSameLane was.feed is.feed))
same_lane left faults limit seat a b None q h = absurd h
same_lane left faults limit seat a b (Some was) None h = absurd h
same_lane left faults limit seat a b (Some was) (Some now) h = h.same

-- ---- an answer

module _ {S : Type 0} (tells : Type 0) (left : S → Option (List ℕ)) (faults : S → ℕ) (limit : ℕ) (group : Group) (at : TurnState) (first_is : at.first ≡ group) (old new : List (Lane S)) (seat next : MoverSeatState) (seat_is : seat ≡ new_mover at.table group (length group.controls + 1)) (seats : List (Option ReaderSeatState)) (end : Group)
    (site after : SiteState) (was is : PlantState) (lanes : AreLanesOf group limit old) (may : MayBeginEpoch tells limit group site was) (ended : RoundsEnd) (read : AllRead left faults limit seats old new) (moved : Moved tells seat next site after was is (store_result ended)) (back : SeatsAreBack at next seats)
    (limited : list_all (is_at_limit limit) (map as_answer next.calls) ≡ true) (history : OneHistory at.first next.calls (map calls_at seats) end) where
  lanes_there : AreLanesOf at.first limit old
  lanes_there = subst (λ (s : Group). AreLanesOf s limit old) (sym first_is) lanes

  no_calls : seat.calls ≡ []
  no_calls = ap (λ (s : MoverSeatState). s.calls) seat_is

  module _ (result : EpochEnd) (same : store_result ended ≡ end_result result) (ended_so : IfReached result (λ g. g ≡ end)) where
    moved_there : Moved tells seat next site after was is (end_result result)
    moved_there = subst (λ (r : Result (Unit {0}) StoreError). Moved tells seat next site after was is r) same moved

    pub goes_by : UsesNumbers seat next site after (store_result ended) → EpochGoes tells left faults limit group old new site after was is result
    goes_by numbers =
        subst (λ (s : Group). EpochGoes tells left faults limit s old new site after was is result) first_is
        (epoch_goes tells left faults limit at old new seat next seats end site after was is result no_calls lanes_there may.rests.idle may.marked may.knows.below read moved_there back limited history ended_so
        (subst (λ (r : Result (Unit {0}) StoreError). UsesNumbers seat next site after r) same numbers))

  -- at the limit
  module _ (reached : HasReached limit new next after) (may_then : MayMove tells limit next after is) (noted : says end (MoverNote next.last next.known)) (long : length new ≡ length old) (so : store_result ended ≡ Ok tt) where
    pub reached_by : ReachedBy tells left limit group old new site end after is
    reached_by =
        let result = ends.Reached end in
        let m = moved_there result so refl in
        let alone = seats_are tells left faults limit at old new seat next seats end site after was is result no_calls lanes_there may.rests.idle may.marked may.knows.below read m back limited history refl in
        let changes = changes_so tells left faults limit at old new seat next seats end site after was is result no_calls lanes_there may.rests.idle may.marked may.knows.below read m back limited history refl in
        let log = log_of at.first end next.calls seats history in
        let parts = λ (k : ℕ) (low : k < length old). reader_part at.first end next.calls seats history k (omega (arith, low, lanes_there.many, back.many)) in
        record {
          cut = ap (λ (t : Stamp). t.0) noted.0 ∙ reached.cut;
          time = at_time limit site after m.steps m.is_left reached.time changes m.going;
          settled = reached.settled;
          same = record { many = long; each = λ k d low. same_lane left faults limit (seat_at seats k) (slice_index_or old k d) (slice_index_or new k d) (slice_index_or old k d).reader (slice_index_or new k d).reader (read.each k d low) };
          lanes = lanes_again left faults limit at.first end log seats old new history.runs alone lanes_there long read parts reached.done;
          at_limit = lanes_at_limit left faults limit at.first end log seats old new history.runs alone lanes_there long read parts reached.done;
          begins = may_begin tells limit next end after is noted may_then;
          broken = λ traces before up low turns broke. lanes_broke left faults limit at.first end log seats old new history.runs alone lanes_there long read parts reached.done traces up turns before low broke;
          awaits = λ traces up keeps turns come.
              let keeps_there = subst IsGroupSound (sym first_is) keeps in
              let bears = epoch_bears tells left faults limit at old new seat next seats end site after was is result no_calls lanes_there may.rests.idle may.marked may.knows.below read m back limited history refl in
              breaks_are_to_come left faults limit at.first end log seats old new history.runs alone lanes_there long read parts reached.done traces up turns site.time may.knows.below (bears.fed traces keeps_there turns) (subst (BreaksAreToCome traces site.time) (sym first_is) come);
          stands = λ size keeps apart sized failed carried.
              let keeps_there = subst IsGroupSound (sym first_is) keeps in
              let sized_there = subst (AreSized size) (sym first_is) sized in
              let failed_there = subst (λ (s : Group). FailedAreOwed size s site.told) (sym first_is) failed in
              let carried_there = subst (λ (s : Group). CarriedAsLive s site.told) (sym first_is) carried in
              let owed = owed_so tells left faults limit at old new seat next seats end site after was is result no_calls lanes_there may.rests.idle may.marked may.knows.below read m back limited history refl in
              let pairs = (at_time limit site after m.steps m.is_left reached.time changes m.going).pairs in
              let begins = may_begin tells limit next end after is noted may_then in (
                failed_owe size at.first end log site.told after.told (deeds_of m.steps) keeps_there sized_there history.runs alone failed_there carried_there pairs owed,
                carried_again at.first end site.told after.told (sizes_stay at.first at.first log end history.runs alone refl) carried_there pairs (apart_again site.told after.told pairs apart) begins.knows.rows,
              );
        }
