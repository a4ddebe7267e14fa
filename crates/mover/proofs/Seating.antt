-- Lanes of an epoch: their readers take seats of a table that was just made, and give them back.
use Rattle.std.proofs.Common.{◌≡◌, ◌<◌, ◌+◌, ℕ, true, List, [], length, map, Option, Some, None, refl, sym, ap, subst, ◌∙◌, arith}
use Rattle.std.specs.Prelude.{IsSomeAnd, slice_index_or, ◌∷◌}
use Rattle.std.specs.List.{All, list_all}
use Rattle.std.proofs.lemmas.List.FromFn.{get_or-map-range_with_len, length-map-range_with_len}
use Rattle.group_state.specs.Runs.{Answer}
use Rattle.mover.specs.Groups.{is_at_limit}
use Rattle.fed_logs.specs.Reads.{ReadsOn}
use Rattle.fed_logs.specs.Limits.{GoesUpTo}
use Rattle.turn_group.specs.Calls.{as_answer}
use Rattle.turn_group.specs.Seats.{MoverSeatState, ReaderSeatState, TurnState, calls_at, new_reader, new_readers, seat_at}
use Rattle.mover.specs.declared.lane.Lane.{Lane}
use Rattle.mover.specs.Readers.{LaneReaderState}
use Rattle.mover.specs.Lanes.{AllLanesRead, BreaksInRound, HasFaultFrom, HasSeatOf, IsReaderOf, LaneGivesSeat, LaneTakesSeat, MayLaneRead, MayRead, with_seat}
use Rattle.mover.specs.Moves.{IsStillAt}
use Rattle.mover.specs.Rounds.{AllRead, AreLanesOf, AreNewSeats, HasReached, IsDone, Read, SeatsAreBack}
use Rattle.site_store.specs.Sites.{SiteState}
use Rattle.mover.proofs.LanesOn.{DidRead}

-- the seat of a controller at the start
pub seat_new : (at : TurnState) (n k : ℕ) → k < n → seat_at (new_readers at.table at.first n) k ≡ Some (new_reader at.table at.first k)
seat_new at n k low = get_or-map-range_with_len (λ (j : ℕ). Some (new_reader at.table at.first j)) 0 n k k None low (omega arith)

pub seats_many : (at : TurnState) (n : ℕ) → length (new_readers at.table at.first n) ≡ n
seats_many at n = length-map-range_with_len (λ (j : ℕ). Some (new_reader at.table at.first j)) 0 n

module _ (at : TurnState) (limit k : ℕ) where
  abbrev seated : LaneReaderState → LaneReaderState
  seated r = record r { seat = Some (new_reader at.table at.first k); last = None }

  abbrev without_seat : LaneReaderState → LaneReaderState
  without_seat r = record r { seat = None }

  -- A reader that took its controller's seat may read.
  may_begin : (r : LaneReaderState) → IsReaderOf at.first k limit r → MayRead at limit (seated r)
  may_begin r is = (
    record {
      seat = new_reader at.table at.first k;
      has = refl;
      tells_for = record {
        sits = record { here = refl; begun = refl; sized = is.sized };
        told = record { control = sym is.control; volumes = refl; floor = is.floor; reporting = is.reporting };
      };
      within = is.within;
      stands = is.goes;
    },
    is.goes,
  )

  pub may_sit : (old new : Option LaneReaderState) → IsSomeAnd old (IsReaderOf at.first k limit) → new ≡ with_seat (Some (new_reader at.table at.first k)) old → IsSomeAnd new (MayRead at limit)
  may_sit None new is took = absurd is
  may_sit (Some r) new is took = subst (λ (o : Option LaneReaderState). IsSomeAnd o (MayRead at limit)) (sym took) (may_begin r is)

  -- A reader that read in its seat still has it.
  record StillSits (was r : LaneReaderState) : Type 0 where
    seat : ReaderSeatState
    has : r.seat ≡ Some seat
    here : seat.table ≡ at.table
    control : seat.control ≡ k

  module _ {S : Type 0} (left : S → Option (List ℕ)) (faults : S → ℕ) where
    seated_still : (s t : S) (was r : LaneReaderState) → IsReaderOf at.first k limit was → DidRead left faults at limit s t (Some (seated was)) (Some r) → StillSits was r
    seated_still s t was r is did = record {
      seat = did.0.seat;
      has = did.0.has;
      here = did.0.tells_for.sits.here;
      control = did.0.tells_for.told.control ∙ did.1.same.control ∙ is.control;
    }

    pub has_seat : (s t : S) (old took did : Option LaneReaderState) → IsSomeAnd old (IsReaderOf at.first k limit) → took ≡ with_seat (Some (new_reader at.table at.first k)) old → DidRead left faults at limit s t took did
        → IsSomeAnd did (λ r. IsSomeAnd r.seat (λ seat. (seat.table ≡ at.table) × (seat.control ≡ k)))
    has_seat s t None took did is by reads = absurd is
    has_seat s t (Some was) took did is by reads = of did (subst (λ (o : Option LaneReaderState). DidRead left faults at limit s t o did) by reads)
      where
        of : (did : Option LaneReaderState) → DidRead left faults at limit s t (Some (seated was)) did → IsSomeAnd did (λ r. IsSomeAnd r.seat (λ seat. (seat.table ≡ at.table) × (seat.control ≡ k)))
        of None reads = absurd reads
        of (Some r) reads =
            let q = seated_still s t was r is reads in
            subst (λ (o : Option ReaderSeatState). IsSomeAnd o (λ seat. (seat.table ≡ at.table) × (seat.control ≡ k))) (sym q.has) (q.here, q.control)

    -- What a reader did in the turns of its seat, by the seat that is back.
    module _ (a b : Lane S) (seat : Option ReaderSeatState) where
      read_by : (s t : S) (was r : LaneReaderState) → DidRead left faults at limit s t (Some (seated was)) (Some r) → s ≡ a.source → b.source ≡ t → seat ≡ r.seat → Read left faults limit seat a b was (without_seat r)
      read_by s t was r did source then is =
          let answers : did.1.gained ≡ map as_answer (calls_at seat) = sym did.1.answers ∙ ap (λ (o : Option ReaderSeatState). map as_answer (calls_at o)) (sym is) in
          record {
            same = did.1.same;
            reads_on = subst (λ (l : List Answer). ReadsOn (left a.source) (left b.source) was.feed r.feed l) answers
                (subst (λ (x : S). ReadsOn (left x) (left b.source) was.feed r.feed did.1.gained) source (subst (λ (x : S). ReadsOn (left s) (left x) was.feed r.feed did.1.gained) (sym then) did.1.reads_on));
            up_to = subst (λ (l : List Answer). GoesUpTo limit (left a.source) (left b.source) was.feed r.feed l) answers
                (subst (λ (x : S). GoesUpTo limit (left x) (left b.source) was.feed r.feed did.1.gained) source (subst (λ (x : S). GoesUpTo limit (left s) (left x) was.feed r.feed did.1.gained) (sym then) did.1.up_to));
            below = subst (λ (l : List Answer). BreaksInRound limit (left a.source) was.feed r.feed l) answers (subst (λ (x : S). BreaksInRound limit (left x) was.feed r.feed did.1.gained) source did.1.below);
            fault = subst (λ (x : S). HasFaultFrom was.feed.halted (faults x) (faults b.source) r.feed.halted) source (subst (λ (x : S). HasFaultFrom was.feed.halted (faults s) (faults x) r.feed.halted) (sym then) did.1.fault);
            within = did.0.within;
            stands = did.0.stands;
          }

      pub reads_back : (s t : S) (old took did new : Option LaneReaderState) → IsSomeAnd old (IsReaderOf at.first k limit) → s ≡ a.source → took ≡ with_seat (Some (new_reader at.table at.first k)) old → DidRead left faults at limit s t took did → b.source ≡ t
          → IsSomeAnd did (λ r. (seat ≡ r.seat) × (new ≡ Some (record r { seat = None }))) → IsSomeAnd old (λ was. IsSomeAnd new (Read left faults limit seat a b was))
      reads_back s t None took did new is source by reads then gave = absurd is
      reads_back s t (Some was) took did new is source by reads then gave = of did (subst (λ (o : Option LaneReaderState). DidRead left faults at limit s t o did) by reads) gave
        where
          of : (did : Option LaneReaderState) → DidRead left faults at limit s t (Some (seated was)) did → IsSomeAnd did (λ r. (seat ≡ r.seat) × (new ≡ Some (record r { seat = None }))) → IsSomeAnd new (Read left faults limit seat a b was)
          of None reads gave = absurd reads
          of (Some r) reads gave = subst (λ (o : Option LaneReaderState). IsSomeAnd o (Read left faults limit seat a b was)) (sym gave.1) (read_by s t was r reads source then gave.0)

-- A reader that is done is so without its seat.
pub done_back : (seat : Option ReaderSeatState) (did new : Option LaneReaderState) → IsSomeAnd did (λ r. (seat ≡ r.seat) × (new ≡ Some (record r { seat = None }))) → IsSomeAnd did IsDone → IsSomeAnd new IsDone
done_back seat None new gave done = absurd done
done_back seat (Some r) new gave done = subst (λ (o : Option LaneReaderState). IsSomeAnd o IsDone) (sym gave.1) done

first_lane : {S : Type 0} (lanes : List (Lane S)) (k : ℕ) → k < length lanes → Lane S
first_lane [] k low = absurd (omega (arith, low))
first_lane (lane ∷ lanes) k low = lane

-- ---- all lanes

-- What lanes and seats are once the seats are back in their places.
pub record SeatsGoBack {S : Type 0} (left : S → Option (List ℕ)) (faults : S → ℕ) (at : TurnState) (limit : ℕ) (first did last : List (Lane S)) (mover : MoverSeatState) (readers : List (Option ReaderSeatState)) (site : SiteState) : Type 0 where
  pub read : AllRead left faults limit readers first last
  pub seats : SeatsAreBack at mover readers
  pub reached : HasReached limit did mover site → HasReached limit last mover site

module _ {S : Type 0} (left : S → Option (List ℕ)) (faults : S → ℕ) (at : TurnState) (limit : ℕ) (first : List (Lane S)) (mover : MoverSeatState) (seats : List (Option ReaderSeatState)) (are : AreLanesOf at.first limit first) (new : AreNewSeats at mover seats) where
  pub at_table : mover.table ≡ at.table
  at_table = ap (λ (s : MoverSeatState). s.table) new.mover_is

  -- The mover has made no call yet.
  pub none_limited : list_all (is_at_limit limit) (map as_answer mover.calls) ≡ true
  none_limited = ap (λ (s : MoverSeatState). list_all (is_at_limit limit) (map as_answer s.calls)) new.mover_is

  pub as_many : length seats ≡ length first
  as_many = ap length new.readers_are ∙ seats_many at (length at.first.controls) ∙ sym are.many

  seat_is : (k : ℕ) → k < length first → seat_at seats k ≡ Some (new_reader at.table at.first k)
  seat_is k low = ap (λ (l : List (Option ReaderSeatState)). seat_at l k) new.readers_are ∙ seat_new at (length at.first.controls) k (omega (arith, low, are.many))

  module _ (taken : List (Lane S)) (same : length taken ≡ length first) (takes : (k : ℕ) (d : Lane S) → k < length first → LaneTakesSeat seats k (slice_index_or first k d) (slice_index_or taken k d)) where
    took : (k : ℕ) (d : Lane S) → k < length first → (slice_index_or taken k d).reader ≡ with_seat (Some (new_reader at.table at.first k)) (slice_index_or first k d).reader
    took k d low = (takes k d low).1 ∙ ap (λ (o : Option ReaderSeatState). with_seat o (slice_index_or first k d).reader) (seat_is k low)

    pub all_may : All (MayLaneRead at limit) taken
    all_may k d low =
        let low : k < length first = omega (arith, low, same) in
        may_sit at limit k (slice_index_or first k d).reader (slice_index_or taken k d).reader (are.each k d low) (took k d low)

    module _ (did : List (Lane S)) (reads : AllLanesRead left faults at limit taken did) where
      has_place : (k : ℕ) (d : Lane S) → k < length first → IsSomeAnd (slice_index_or did k d).reader (λ r. IsSomeAnd r.seat (λ seat. (seat.table ≡ at.table) × (seat.control ≡ k)))
      has_place k d low = has_seat at limit k left faults (slice_index_or taken k d).source (slice_index_or did k d).source (slice_index_or first k d).reader (slice_index_or taken k d).reader (slice_index_or did k d).reader (are.each k d low) (took k d low)
          (reads.each k d (omega (arith, low, same)))

      pub all_have_seats : (k : ℕ) (d : Lane S) → k < length did → HasSeatOf k (slice_index_or did k d)
      all_have_seats k d low = of (slice_index_or did k d).reader (has_place k d (omega (arith, low, same, reads.same)))
        where
          of_seat : (seat : Option ReaderSeatState) → IsSomeAnd seat (λ s. (s.table ≡ at.table) × (s.control ≡ k)) → IsSomeAnd seat (λ s. s.control ≡ k)
          of_seat None has = absurd has
          of_seat (Some s) has = has.1

          of : (r : Option LaneReaderState) → IsSomeAnd r (λ r. IsSomeAnd r.seat (λ s. (s.table ≡ at.table) × (s.control ≡ k))) → IsSomeAnd r (λ r. IsSomeAnd r.seat (λ s. s.control ≡ k))
          of None has = absurd has
          of (Some r) has = of_seat r.seat has

      module _ (last : List (Lane S)) (back : List (Option ReaderSeatState)) (gives : (k : ℕ) (d : Lane S) → k < length did → LaneGivesSeat back k (slice_index_or did k d) (slice_index_or last k d)) where
        gave : (k : ℕ) (d : Lane S) → k < length first → LaneGivesSeat back k (slice_index_or did k d) (slice_index_or last k d)
        gave k d low = gives k d (omega (arith, low, same, reads.same))

        all_read : AllRead left faults limit back first last
        all_read = record {
          each = λ k d low. reads_back at limit k left faults (slice_index_or first k d) (slice_index_or last k d) (seat_at back k) (slice_index_or taken k d).source (slice_index_or did k d).source (slice_index_or first k d).reader (slice_index_or taken k d).reader
              (slice_index_or did k d).reader (slice_index_or last k d).reader (are.each k d low) (takes k d low).0 (took k d low) (reads.each k d (omega (arith, low, same))) (gave k d low).0 (gave k d low).1;
        }

        reached_back : (end : MoverSeatState) (site : SiteState) → length last ≡ length did → HasReached limit did end site → HasReached limit last end site
        reached_back end site many reached = record {
          cut = reached.cut;
          time = reached.time;
          settled = reached.settled;
          done = λ k d low. done_back (seat_at back k) (slice_index_or did k d).reader (slice_index_or last k d).reader (gives k d (omega (arith, low, many))).1 (reached.done k d (omega (arith, low, many)));
        }

        seat_back : (lane : Lane S) (k : ℕ) → k < length first → IsSomeAnd (seat_at back k) (λ seat. (seat.table ≡ at.table) × (seat.control ≡ k))
        seat_back lane k low = of (slice_index_or did k lane).reader (has_place k lane low) (gave k lane low).1
          where
            of : (reader : Option LaneReaderState) → IsSomeAnd reader (λ r. IsSomeAnd r.seat (λ seat. (seat.table ≡ at.table) × (seat.control ≡ k)))
                → IsSomeAnd reader (λ r. (seat_at back k ≡ r.seat) × ((slice_index_or last k lane).reader ≡ Some (record r { seat = None }))) → IsSomeAnd (seat_at back k) (λ seat. (seat.table ≡ at.table) × (seat.control ≡ k))
            of None has gave = absurd has
            of (Some r) has gave = subst (λ (o : Option ReaderSeatState). IsSomeAnd o (λ seat. (seat.table ≡ at.table) × (seat.control ≡ k))) (sym gave.0) has

        seats_back : (end : MoverSeatState) → IsStillAt mover end → length back ≡ length did → SeatsAreBack at end back
        seats_back end still many =
            let all : length back ≡ length first = many ∙ reads.same ∙ same in
            record {
              mover_at = still.here ∙ at_table;
              begun = still.begun ∙ ap (λ (s : MoverSeatState). s.first) new.mover_is;
              many = all ∙ are.many;
              all = still.all ∙ ap (λ (s : MoverSeatState). s.seats) new.mover_is ∙ ap (λ n. n + 1) (sym are.many ∙ sym all);
              each = λ k low. let below : k < length first = omega (arith, low, all) in seat_back (first_lane first k below) k below;
            }

        -- All is as `rounds` says.
        pub all_back : (end : MoverSeatState) (site : SiteState) → IsStillAt mover end → length last ≡ length did → length back ≡ length did → SeatsGoBack left faults at limit first did last end back site
        all_back end site still many all = record { read = all_read; seats = seats_back end still all; reached = reached_back end site many }
