-- A reader's part of a round, put together.
use Rattle.std.proofs.Common.{◌≡◌, ℕ, false, List, [], ◌∷◌, ◌++◌, map, Option, Some, None, inl, inr, refl, sym, ap, ◌∙◌, subst, append-nil, append_assoc}
use Rattle.std.specs.Option.{is_some}
use Rattle.write_trace.specs.declared.header.VolumeHead.{VolumeHead}
use Rattle.sidefile.specs.declared.hand.Halt.{Halt}
use Rattle.sidefile.specs.declared.hand.Halt.TheVariants as halts
use Rattle.sidefile.specs.Halts.{broken_in}
use Rattle.pending_queue.specs.declared.room.Room.{Room}
use Rattle.group_state.specs.declared.joining.CopyJoin.{CopyJoin}
use Rattle.group_state.specs.declared.joining.CopyJoin.TheVariants as copyings
use Rattle.group_state.specs.Runs.{Answer}
use Rattle.fed_logs.specs.declared.reading.Reading.{Reading}
use Rattle.fed_logs.specs.declared.reading.Reading.TheVariants as readings
use Rattle.fed_logs.specs.LaneFeeds.{FeedState}
use Rattle.fed_logs.specs.Steps.{held_answer, wanted_answer}
use Rattle.fed_logs.specs.Reporters.{IsToldBy, HasFaultBy, IsHaltBelow, IsCopiedBy, WasRefused, copying_answers}
use Rattle.fed_logs.proofs.Below.{nothing_breaks, below_in_turn, copies_report_no_break}
use Rattle.fed_logs.proofs.InTurn.{reads_nothing}
use Rattle.fed_logs.proofs.Telling.{tells_nothing, tells_in_turn}
use Rattle.fed_logs.proofs.UpToLimit.{copies_go_up_to, none_up_to, nothing_up_to, reports_up_to_in_turn}
use Rattle.turn_group.specs.Calls.{as_answer}
use Rattle.turn_group.specs.Seats.{ReaderSeatState, TurnState, calls_at}
use Rattle.mover.specs.Readers.{LaneReaderState, reporter_of}
use Rattle.mover.specs.Lanes.{AreLastCopies, AreLastOf, DidPart, EndsIn, HasFaultFrom, IsRefusal, MayGoOn, MayRead, ReadsInRound, SeatCopies, SeatReports, SeatTakesLimit, TellsFor, answers_at, answers_of}

-- ---- breaks

pub is_unbroken : (halted : Option Halt) → broken_in halted ≡ None → ¬ (halted ≡ Some halts.NoMemory) → halted ≡ None
is_unbroken None none goes = refl
is_unbroken (Some (halts.Broken cause upto)) none goes = absurd cc
is_unbroken (Some halts.NoMemory) none goes = absurd (goes refl)

pub no_fault : (halted : Option Halt) (n : ℕ) → HasFaultFrom halted n n halted
no_fault None n = refl
no_fault (Some halt) n = refl

pub fault_from : (old now : Option Halt) (faults risen : ℕ) → old ≡ None → HasFaultBy faults risen now → HasFaultFrom old faults risen now
fault_from old now faults risen none by = subst (λ (h : Option Halt). HasFaultFrom h faults risen now) (sym none) by

-- A feed that reads on has met no fault.
pub no_fault_yet : (faults risen : ℕ) (halted : Option Halt) → halted ≡ None → HasFaultBy faults risen halted → risen ≡ faults
no_fault_yet faults risen halted goes by = subst (λ (h : Option Halt). HasFaultBy faults risen h) goes by

-- What is counted after it is counted from before.
pub fault_then : (faults mid risen : ℕ) (halted : Option Halt) → mid ≡ faults → HasFaultBy mid risen halted → HasFaultBy faults risen halted
fault_then faults mid risen halted same by = subst (λ (n : ℕ). HasFaultBy n risen halted) same by

-- ---- what seats report

pub tells_none : (heads : List VolumeHead) (left : Option (List ℕ)) (feed : FeedState) (seat : ReaderSeatState) → SeatReports heads left left feed feed seat seat
tells_none heads left feed seat = tells_nothing left feed (reporter_of heads seat)

pub tells_then : (heads : List VolumeHead) (before mid now : Option (List ℕ)) (a b c : FeedState) (s t u : ReaderSeatState) → SeatReports heads before mid a b s t → SeatReports heads mid now b c t u → SeatReports heads before now a c s u
tells_then heads before mid now a b c s t u h k = tells_in_turn before mid now a b c (reporter_of heads s) (reporter_of heads t) (reporter_of heads u) h k

pub takes_none : (heads : List VolumeHead) (limit : ℕ) (left : Option (List ℕ)) (feed : FeedState) (seat : ReaderSeatState) → SeatTakesLimit heads limit left left feed feed seat seat
takes_none heads limit left feed seat = record { up_to = nothing_up_to limit left feed (reporter_of heads seat); below = nothing_breaks limit left feed (reporter_of heads seat) }

pub takes_then : (heads : List VolumeHead) (limit : ℕ) (before mid now : Option (List ℕ)) (a b c : FeedState) (s t u : ReaderSeatState) → SeatReports heads before mid a b s t → SeatTakesLimit heads limit before mid a b s t → SeatReports heads mid now b c t u
    → SeatTakesLimit heads limit mid now b c t u → SeatTakesLimit heads limit before now a c s u
takes_then heads limit before mid now a b c s t u h low k then = record {
  up_to = reports_up_to_in_turn limit before mid now a b c (reporter_of heads s) (reporter_of heads t) (reporter_of heads u) h low.up_to k then.up_to;
  below = below_in_turn limit before mid now a b c (reporter_of heads s) (reporter_of heads t) (reporter_of heads u) h low.below k then.below;
}

pub copies_none : (heads : List VolumeHead) (feed : FeedState) (seat : ReaderSeatState) → SeatCopies heads feed seat seat
copies_none heads feed seat = record { reads = λ left. tells_none heads left feed seat; takes = λ limit left. takes_none heads limit left feed seat }

pub copies_then : (heads : List VolumeHead) (feed : FeedState) (s t u : ReaderSeatState) → SeatCopies heads feed s t → SeatCopies heads feed t u → SeatCopies heads feed s u
copies_then heads feed s t u h k = record {
  reads = λ left. tells_then heads left left left feed feed feed s t u (h.reads left) (k.reads left);
  takes = λ limit left. takes_then heads limit left left left feed feed feed s t u (h.reads left) (h.takes limit left) (k.reads left) (k.takes limit left);
}

-- One step that copies.
pub copies_one : (heads : List VolumeHead) (feed : FeedState) (s t : ReaderSeatState) (joined : Option CopyJoin) → feed.halted ≡ None → ((left : Option (List ℕ)) → SeatReports heads left left feed feed s t) → IsCopiedBy joined feed (reporter_of heads s) (reporter_of heads t)
    → SeatCopies heads feed s t
copies_one heads feed s t joined goes reads copied = record {
  reads = reads;
  takes = λ limit left. record {
    up_to = copies_go_up_to limit left joined feed (reporter_of heads s) (reporter_of heads t) (reads left) copied;
    below = copies_report_no_break limit left joined feed (reporter_of heads s) (reporter_of heads t) goes copied;
  };
}

pub reads_and_copies : (heads : List VolumeHead) (before now : Option (List ℕ)) (old feed : FeedState) (s t u : ReaderSeatState) → SeatReports heads before now old feed s t → SeatCopies heads feed t u → SeatReports heads before now old feed s u
reads_and_copies heads before now old feed s t u h k = tells_then heads before now now old feed feed s t u h (k.reads now)

pub takes_and_copies : (heads : List VolumeHead) (limit : ℕ) (before now : Option (List ℕ)) (old feed : FeedState) (s t u : ReaderSeatState) → SeatReports heads before now old feed s t → SeatTakesLimit heads limit before now old feed s t → SeatCopies heads feed t u
    → SeatTakesLimit heads limit before now old feed s u
takes_and_copies heads limit before now old feed s t u h low k = takes_then heads limit before now now old feed feed s t u h low (k.reads now) (k.takes limit now)

-- ---- how calls end

pub ends_here : (Is : List Answer → Type 0) (before last after : List Answer) → after ≡ before ++ last → Is last → EndsIn Is before after
ends_here Is before last after same so = record { earlier = []; last = last; answers = same ∙ ap (λ (l : List Answer). l ++ last) (sym (append-nil before)); so = so }

-- What ends calls ends all calls from before on.
pub ends_after : (Is : List Answer → Type 0) (before gained mid after : List Answer) → mid ≡ before ++ gained → EndsIn Is mid after → EndsIn Is before after
ends_after Is before gained mid after same h = record {
  earlier = gained ++ h.earlier;
  last = h.last;
  answers = h.answers ∙ ap (λ (l : List Answer). (l ++ h.earlier) ++ h.last) same ∙ ap (λ (l : List Answer). l ++ h.last) (append_assoc before gained h.earlier);
  so = h.so;
}

-- The batch that is held was refused.
pub ends_refused : (room : Room) (feed : FeedState) (heads : List VolumeHead) (told after : ReaderSeatState) → WasRefused room feed (reporter_of heads told) (reporter_of heads after) → EndsIn (IsRefusal room feed) (answers_at told) (answers_at after)
ends_refused room feed heads told after was = ends_here (IsRefusal room feed) (answers_at told) (held_answer was.batch room ∷ []) (answers_at after) was.answers (was.batch, was.holds, refl)

-- No track was wanted.
pub ends_unwanted : (heads : List VolumeHead) (feed : FeedState) (told after : ReaderSeatState) → told.control ≡ feed.side.control → IsCopiedBy None feed (reporter_of heads told) (reporter_of heads after) → EndsIn (AreLastCopies feed.side.control feed) (answers_at told) (answers_at after)
ends_unwanted heads feed told after own copied =
    ends_here (AreLastCopies feed.side.control feed) (answers_at told) (wanted_answer feed.side.control None ∷ []) (answers_at after) (copied ∙ ap (λ (k : ℕ). answers_at told ++ wanted_answer k None ∷ []) own) (inl refl)

-- There was no room for the track that was wanted.
pub ends_full : (heads : List VolumeHead) (feed : FeedState) (told after : ReaderSeatState) (room : Room) → told.control ≡ feed.side.control → IsCopiedBy (Some (copyings.Held room)) feed (reporter_of heads told) (reporter_of heads after)
    → EndsIn (AreLastCopies feed.side.control feed) (answers_at told) (answers_at after)
ends_full heads feed told after room own copied =
    ends_here (AreLastCopies feed.side.control feed) (answers_at told) (copying_answers feed.side.control feed.primary copied.volume copied.track copied.at (copyings.Held room)) (answers_at after)
    (copied.answers ∙ ap (λ (k : ℕ). answers_at told ++ copying_answers k feed.primary copied.volume copied.track copied.at (copyings.Held room)) own) (inr (copied.volume, copied.track, copied.at, room, refl))

-- A reader that is not at the limit ends where it read on to.
pub ends_reading : (reading : Reading) (k : ℕ) (feed : FeedState) (before gained after : List Answer) → after ≡ before ++ gained → (reading ≡ readings.Joined → ⊥) → (reading ≡ readings.AtLimit → ⊥)
    → ((room : Room) → reading ≡ readings.Held room → EndsIn (IsRefusal room feed) before after) → EndsIn (AreLastOf reading k feed) before after
ends_reading readings.Joined k feed before gained after same joins at held = absurd (joins refl)
ends_reading (readings.Held room) k feed before gained after same joins at held = held room refl
ends_reading readings.AtLimit k feed before gained after same joins at held = absurd (at refl)
ends_reading readings.Broken k feed before gained after same joins at held = ends_here (AreLastOf readings.Broken k feed) before gained after same tt
ends_reading readings.NoMemory k feed before gained after same joins at held = ends_here (AreLastOf readings.NoMemory k feed) before gained after same tt

-- ---- a reader

abbrev seat_or : ReaderSeatState → Option ReaderSeatState → ReaderSeatState
seat_or seat None = seat
seat_or seat (Some other) = other

abbrev reader_with : FeedState → Option ReaderSeatState → Option Reading → LaneReaderState
reader_with feed seat last = record { feed = feed; seat = seat; last = last }

module _ (at : TurnState) (limit : ℕ) (old : LaneReaderState) (may : MayRead at limit old) where
  -- The seat that a reader has tells for its feed.
  pub tells_of : (seat : ReaderSeatState) → old.seat ≡ Some seat → TellsFor at old.feed seat
  tells_of seat is = subst (λ (s : ReaderSeatState). TellsFor at old.feed s) (ap (seat_or seat) (sym may.0.has ∙ is)) may.0.tells_for

pub reads_none : (limit : ℕ) (left : Option (List ℕ)) (n : ℕ) (old : LaneReaderState) (feed : FeedState) (seat : Option ReaderSeatState) (was last : Option Reading) → reader_with feed seat was ≡ old → ReadsInRound limit left left n n old (reader_with feed seat last)
reads_none limit left n old feed seat was last is = subst (λ (r : LaneReaderState). ReadsInRound limit left left n n r (reader_with feed seat last)) is (record {
  gained = [];
  answers = sym (append-nil (answers_of (reader_with feed seat last)));
  same = record { control = refl; heads = refl };
  reads_on = reads_nothing left feed;
  up_to = none_up_to limit left feed;
  below = record { told = λ bytes there. refl; halts = λ goes bytes there. subst (IsHaltBelow limit) (sym goes) tt };
  fault = no_fault feed.halted n;
})

-- A reader that has broken does no more in its part.
pub did_nothing : (old : LaneReaderState) (feed : FeedState) (seat : Option ReaderSeatState) (was : Option Reading) → reader_with feed seat was ≡ old → DidPart old (reader_with feed seat (Some readings.Broken))
did_nothing old feed seat was is =
    let next = reader_with feed seat (Some readings.Broken) in
    subst (λ (r : LaneReaderState). DidPart r next) is (record {
      reading = readings.Broken;
      is = refl;
      ends = ends_here (AreLastOf readings.Broken feed.side.control feed) (answers_of next) [] (answers_of next) (sym (append-nil (answers_of next))) tt;
    })

-- A feed that hasn't broken, and may be used, reads on.
pub goes_on : (feed : FeedState) → is_some (broken_in feed.halted) ≡ false → MayGoOn feed → feed.halted ≡ None
goes_on feed unbroken goes = is_unbroken feed.halted (none_of (broken_in feed.halted) unbroken) goes
  where
    none_of : {A : Type 0} → (a : Option A) → is_some a ≡ false → a ≡ None
    none_of None is = refl
    none_of (Some x) is = absurd cc

-- Reading and copying in turns of a seat.
pub reads_part : (limit : ℕ) (before now : Option (List ℕ)) (faults risen : ℕ) (old : LaneReaderState) (seat next : ReaderSeatState) (feed : FeedState) (heads : List VolumeHead) (last : Option Reading) → old.seat ≡ Some seat → old.feed.halted ≡ None
    → IsToldBy old.feed (reporter_of heads seat) → IsToldBy feed (reporter_of heads next) → SeatReports heads before now old.feed feed seat next → SeatTakesLimit heads limit before now old.feed feed seat next → HasFaultBy faults risen feed.halted
    → ReadsInRound limit before now faults risen old (reader_with feed (Some next) last)
reads_part limit before now faults risen old seat next feed heads last is goes was told reads takes by = record {
  gained = reads.gained;
  answers = reads.answers ∙ ap (λ (s : Option ReaderSeatState). map as_answer (calls_at s) ++ reads.gained) (sym is);
  same = record { control = sym told.control ∙ reads.same.control ∙ was.control; heads = sym told.volumes ∙ was.volumes };
  reads_on = reads.reads_on;
  up_to = takes.up_to reads.gained reads.answers;
  below = record { told = λ bytes there. takes.below.told_so bytes there reads.gained reads.answers; halts = takes.below.halts };
  fault = fault_from old.feed.halted feed.halted faults risen goes by;
}
