-- What an epoch leaves at its limit.
use Rattle.std.proofs.Common.{◌≡◌, ◌≢◌, ◌<◌, ◌≤◌, ℕ, true, List, length, map, Option, Some, None, refl, sym, ap, ◌∙◌, subst, arith}
use Rattle.std.specs.Prelude.{IsSomeAnd, slice_index_or}
use Rattle.std.specs.List.{list_all}
use Rattle.std.proofs.lemmas.Option.{slice_get_within}
use Rattle.tod_stamp.specs.declared.stamp.Stamp.{Stamp}
use Rattle.crash_plant.specs.Moments.{PlantState}
use Rattle.write_trace.specs.declared.trace.Trace.{Trace}
use Rattle.sidefile.specs.declared.hand.Halt.{Halt}
use Rattle.sidefile.specs.Breaks.{break_of}
use Rattle.group_state.specs.Groups.{Group}
use Rattle.group_state.specs.Runs.{Answer, Runs}
use Rattle.fed_logs.specs.Feeds.{part_of_reader}
use Rattle.fed_logs.specs.Logs.{IsFedLog, is_call_of_seat}
use Rattle.fed_logs.specs.ShownBreaks.{BreaksAreToCome, is_break_below}
use Rattle.fed_logs.proofs.BreaksToCome.{later_breaks_are_to_come}
use Rattle.fed_logs.proofs.ReadCalls.{some_trace}
use Rattle.fed_logs.specs.Reads.{ReadsOn}
use Rattle.fed_logs.specs.Reporters.{break_bound}
use Rattle.site_store.specs.DeedChanges.{AreByChanges, DeedOfChanges, deeds_of}
use Rattle.turn_group.specs.Notes.{KnownVolume, says}
use Rattle.turn_group.specs.Notes.SeatNote.{MoverNote}
use Rattle.turn_group.specs.Seats.{MoverSeatState, ReaderSeatState, calls_at, seat_at}
use Rattle.turn_group.specs.Calls.{as_answer}
use Rattle.site_store.specs.Sites.{SiteState}
use Rattle.mover.specs.declared.lane.Lane.{Lane}
use Rattle.mover.specs.Readers.{LaneReaderState}
use Rattle.mover.specs.Lanes.{HadBroken, IsReaderOf, broken_by}
use Rattle.mover.specs.Moves.{IsInStep, IsLeftAfter, KnowsRows, MayMove, SessionGoesOn}
use Rattle.mover.specs.Rounds.{AllRead, AreLanesOf, IsDone, Read}
use Rattle.record_rows.specs.ToldRows.{InPlaces}
use Rattle.mover.specs.Epochs.{AllTurnOut, IsAtLimit, IsAtTime, IsSamePair, LanesBrokeAs, MayBeginEpoch, TurnsOut, break_below}
use Rattle.mover.proofs.BreaksBelow.{all_below}
use Rattle.mover.proofs.LaneFeeds.{some_item}
use Rattle.mover.proofs.LanesAgain.{count_stays, done_at_limit, done_goes, reader_again, sizes_stay}
use Rattle.mover.proofs.LanesBroken.{broke_so}
use Rattle.mover.proofs.PairsStay.{pairs_stay}

-- a bound of breaks is the limit
bound_is : (limit : ℕ) → 0 < limit → break_bound limit ≡ limit
bound_is limit up = omega (arith, up)

module _ {S : Type 0} (left : S → Option (List ℕ)) (faults : S → ℕ) (limit : ℕ) (first end : Group) (log : List Answer) (seats : List (Option ReaderSeatState)) (old new : List (Lane S)) (runs : Runs first log end) (alone : list_all is_call_of_seat log ≡ true) (lanes : AreLanesOf first limit old) (same : length new ≡ length old)
    (read : AllRead left faults limit seats old new) (parts : (k : ℕ) → k < length old → part_of_reader k log ≡ map as_answer (calls_at (seat_at seats k))) (done : (k : ℕ) (d : Lane S) → k < length new → IsSomeAnd (slice_index_or new k d).reader IsDone) where
  abbrev ReadAt : (k : ℕ) → Lane S → (was is : LaneReaderState) → Type 0
  ReadAt k d was is = Read left faults limit (seat_at seats k) (slice_index_or old k d) (slice_index_or new k d) was is

  -- what holds of a lane's reader that is done
  by_new : (k : ℕ) (d : Lane S) → k < length old → (P : LaneReaderState → Type 0) → ((was is : LaneReaderState) → IsReaderOf first k limit was → ReadAt k d was is → IsDone is → P is) → IsSomeAnd (slice_index_or new k d).reader P
  by_new k d low P by = of (slice_index_or old k d).reader (slice_index_or new k d).reader (lanes.each k d low) (read.each k d low) (done k d (omega (arith, low, same)))
    where
      of : (p q : Option LaneReaderState) → IsSomeAnd p (IsReaderOf first k limit) → IsSomeAnd p (λ was. IsSomeAnd q (ReadAt k d was)) → IsSomeAnd q IsDone → IsSomeAnd q P
      of None q is h done = absurd is
      of (Some was) None is h done = absurd h
      of (Some was) (Some now) is h done = by was now is h done

  pub lanes_again : AreLanesOf end limit new
  lanes_again = record {
    many = same ∙ lanes.many ∙ sym (count_stays first end (sizes_stay first first log end runs alone refl));
    each = λ k d low.
        let below : k < length old = omega (arith, low, same) in
        by_new k d below (IsReaderOf end k limit) (λ was is reader h done.
        reader_again first end log runs alone k limit (omega (arith, below, lanes.many)) (left (slice_index_or old k d).source) (left (slice_index_or new k d).source) was is reader h.same
        (subst (λ (l : List Answer). ReadsOn (left (slice_index_or old k d).source) (left (slice_index_or new k d).source) was.feed is.feed l) (sym (parts k below)) h.reads_on) h.within (done_goes limit is done h.stands));
  }

  pub lanes_at_limit : (k : ℕ) (d : Lane S) → k < length new → IsSomeAnd (slice_index_or new k d).reader (IsAtLimit limit)
  lanes_at_limit k d low = by_new k d (omega (arith, low, same)) (IsAtLimit limit) (λ was is reader h done. done_at_limit limit is done h.stands)

  -- ---- for traces

  module _ (traces : List Trace) (up : 0 < limit) (turns : AllTurnOut left traces old new) where
    pub lanes_broke : (before : ℕ) → before ≤ limit → LanesBrokeAs before traces old → LanesBrokeAs limit traces new
    lanes_broke before low broke = record {
      each = λ k t d at.
          let below : k < length old = omega (arith, slice_get_within traces k t at, turns.many) in
          lane_broke k t d (slice_index_or old k d).reader (slice_index_or new k d).reader (lanes.each k d below) (read.each k d below) (done k d (omega (arith, below, same))) (turns.each k t d at) (broke.each k t d at);
    }
      where
        lane_broke : (k : ℕ) (t : Trace) (d : Lane S) (p q : Option LaneReaderState) → IsSomeAnd p (IsReaderOf first k limit) → IsSomeAnd p (λ was. IsSomeAnd q (ReadAt k d was)) → IsSomeAnd q IsDone
            → IsSomeAnd p (λ was. IsSomeAnd q (λ is. (was.feed.halted ≡ None → TurnsOut left t (slice_index_or old k d) (slice_index_or new k d) was is) × (was.feed.halted ≢ None → HadBroken t was.feed))) → broken_by p ≡ break_below before (break_of t)
            → broken_by q ≡ break_below limit (break_of t)
        lane_broke k t d None q is h done out was_so = absurd is
        lane_broke k t d (Some was) None is h done out was_so = absurd h
        lane_broke k t d (Some was) (Some now) is h done out was_so =
            broke_so left t limit up (slice_index_or old k d) (slice_index_or new k d) was now (map as_answer (calls_at (seat_at seats k))) h.reads_on (done_at_limit limit now done h.stands) (done_goes limit now done h.stands) before low is.goes out.0 h.below.halts was_so

    -- Each reader reported breaks below the limit alone.
    own_below : (k : ℕ) → k < length first.controls → list_all (is_break_below limit) (part_of_reader k log) ≡ true
    own_below k low =
        let below : k < length old = omega (arith, low, lanes.many) in
        let t = some_trace traces k (omega (arith, below, turns.many)) in
        let d = some_item old k below in
        subst (λ (l : List Answer). list_all (is_break_below limit) l ≡ true) (sym (parts k below)) (of k t.0 d (slice_index_or old k d).reader (slice_index_or new k d).reader (read.each k d below) (turns.each k t.0 d t.1))
      where
        of : (k : ℕ) (t : Trace) (d : Lane S) (p q : Option LaneReaderState) → IsSomeAnd p (λ was. IsSomeAnd q (ReadAt k d was))
            → IsSomeAnd p (λ was. IsSomeAnd q (λ is. (was.feed.halted ≡ None → TurnsOut left t (slice_index_or old k d) (slice_index_or new k d) was is) × (was.feed.halted ≢ None → HadBroken t was.feed)))
            → list_all (is_break_below limit) (map as_answer (calls_at (seat_at seats k))) ≡ true
        of k t d None q h out = absurd h
        of k t d (Some was) None h out = absurd h
        of k t d (Some was) (Some now) h out = halted was.feed.halted refl
          where
            halted : (halt : Option Halt) → was.feed.halted ≡ halt → list_all (is_break_below limit) (map as_answer (calls_at (seat_at seats k))) ≡ true
            halted None on = subst (λ (n : ℕ). list_all (is_break_below n) (map as_answer (calls_at (seat_at seats k))) ≡ true) (bound_is limit up) (h.below.told (out.0 on).bytes (out.0 on).ahead)
            halted (Some halt) stopped = ap (list_all (is_break_below limit)) (h.reads_on.stays halt stopped).1

    pub breaks_are_to_come : (time : ℕ) → time ≤ limit → IsFedLog traces first end log → BreaksAreToCome traces time first → BreaksAreToCome traces limit end
    breaks_are_to_come time low fed come = later_breaks_are_to_come traces first end log time limit fed (all_below limit first log end runs alone own_below) low come

-- ---- the site

pub at_time : (limit : ℕ) (site after : SiteState) (steps : List DeedOfChanges) → IsLeftAfter site after (deeds_of steps) → after.time ≡ limit → AreByChanges site.level site.time site.told steps → SessionGoesOn site after → IsAtTime limit site after
at_time limit site after steps is_left time changes going = record { deeds = deeds_of steps; is_left = is_left; time = time; pairs = subst (InPlaces IsSamePair site.told) (sym is_left.rows) (pairs_stay site.level site.time site.told steps changes); going = going }

-- The state has the last cut and the volumes that the mover's seat knows. So the next epoch may begin.
pub may_begin : (tells : Type 0) (limit : ℕ) (seat : MoverSeatState) (end : Group) (after : SiteState) (plant : PlantState) → says end (MoverNote seat.last seat.known) → MayMove tells limit seat after plant → MayBeginEpoch tells limit end after plant
may_begin tells limit seat end after plant noted may = record {
  rests = may.rests;
  marked = may.marked;
  knows = record {
    rows = subst (λ (known : List (List KnownVolume)). KnowsRows known after.told) (sym noted.1) may.knows.rows;
    controls = subst (λ (known : List (List KnownVolume)). length known ≤ after.controls) (sym noted.1) may.knows.controls;
    in_step = subst (λ (last : Stamp). IsInStep last.0 after.time after.told) (sym noted.0) may.knows.in_step;
    below = may.knows.below;
    told = may.knows.told;
  };
}
