-- Each reader's part of an epoch's log is fed by its trace.
use Rattle.std.proofs.Common.{◌≡◌, ◌≢◌, ◌<◌, ℕ, true, List, [], ◌∷◌, length, map, Option, Some, None, refl, sym, ap, ◌∙◌, subst, arith}
use Rattle.std.specs.Prelude.{IsSomeAnd, slice_index_or}
use Rattle.std.specs.List.{list_all}
use Rattle.std.proofs.lemmas.Option.{slice_get_within}
use Rattle.write_trace.specs.declared.trace.Trace.{Trace}
use Rattle.sidefile.specs.declared.hand.Halt.{Halt}
use Rattle.group_state.specs.Groups.{Group}
use Rattle.group_state.specs.Runs.{Answer, Runs}
use Rattle.group_state.specs.SoundStates.{IsGroupSound}
use Rattle.fed_logs.specs.ToldTracks.{floor_of}
use Rattle.fed_logs.specs.Feeds.{AreFedBy, is_up_to_limit, part_of_reader}
use Rattle.fed_logs.specs.Logs.{IsFedLog, is_call_of_seat}
use Rattle.fed_logs.specs.Reads.{ReadsOn, Went}
use Rattle.fed_logs.specs.Limits.{IsHeldUpTo}
use Rattle.turn_group.specs.Calls.{as_answer}
use Rattle.turn_group.specs.Seats.{ReaderSeatState, calls_at}
use Rattle.mover.specs.declared.lane.Lane.{Lane}
use Rattle.mover.specs.Readers.{LaneReaderState}
use Rattle.mover.specs.Lanes.{HadBroken, HasFaultFrom, IsReaderOf}
use Rattle.mover.specs.Rounds.{AreLanesOf, Read}
use Rattle.mover.specs.Epochs.{AllTurnOut, LaneWent, TurnsOut}

-- some item of a list that has one
pub some_item : {A : Type 0} (items : List A) (k : ℕ) → k < length items → A
some_item [] k low = absurd (omega (arith, low))
some_item (x ∷ items) k low = x

module _ {S : Type 0} (left : S → Option (List ℕ)) (t : Trace) (old new : Lane S) (was is : LaneReaderState) (run : List Answer) (reads : ReadsOn (left old.source) (left new.source) was.feed is.feed run) (out : TurnsOut left t old new was is) (goes : was.feed.halted ≡ None) where
  -- what the bytes are that still come after what the reader used
  abbrev later_of : List ℕ
  later_of = let r = reads.reads goes out.bytes out.ahead in (out.gave r.used r.rest r.split r.left).0

  -- Calls of a reader that read on at first were fed by its trace, and it stands so after them.
  pub went_so : Went out.outlook later_of t was.feed is.feed run
  went_so =
      let r = reads.reads goes out.bytes out.ahead in
      let g = out.gave r.used r.rest r.split r.left in
      r.reads out.outlook t g.0 g.1 g.2 g.3

module _ {S : Type 0} (left : S → Option (List ℕ)) (faults : S → ℕ) (t : Trace) where
  -- how a lane's trace turns out, if it reads on at first, or that it had broken
  abbrev pub LaneTurnsOut : (old new : Lane S) → Type 0
  LaneTurnsOut old new = IsSomeAnd old.reader (λ was. IsSomeAnd new.reader (λ is. (was.feed.halted ≡ None → TurnsOut left t old new was is) × (was.feed.halted ≢ None → HadBroken t was.feed)))

  lane_fed : (first : Group) (k limit : ℕ) (run : List Answer) (old new : Lane S) → IsSomeAnd old.reader (IsReaderOf first k limit) → LaneWent left faults run old new → LaneTurnsOut old new → AreFedBy t (floor_of first k) run
  lane_fed first k limit run old new reader went turns = of old.reader new.reader reader went turns
    where
      of : (p q : Option LaneReaderState) → IsSomeAnd p (IsReaderOf first k limit)
          → IsSomeAnd p (λ was. IsSomeAnd q (λ is. ReadsOn (left old.source) (left new.source) was.feed is.feed run × HasFaultFrom was.feed.halted (faults old.source) (faults new.source) is.feed.halted))
          → IsSomeAnd p (λ was. IsSomeAnd q (λ is. (was.feed.halted ≡ None → TurnsOut left t old new was is) × (was.feed.halted ≢ None → HadBroken t was.feed))) → AreFedBy t (floor_of first k) run
      of None q reader went turns = absurd reader
      of (Some was) None reader went turns = absurd went
      of (Some was) (Some is) reader went turns = halted was.feed.halted refl
        where
          halted : (halt : Option Halt) → was.feed.halted ≡ halt → AreFedBy t (floor_of first k) run
          halted None goes = subst (λ (n : ℕ). AreFedBy t n run) (sym (reader.floor goes)) (went_so left t old new was is run went.0 (turns.0 goes) goes).fed
          halted (Some halt) stopped = subst (AreFedBy t (floor_of first k)) (sym (went.0.stays halt stopped).1) tt

  -- The calls of a reader that holds no batch at first go as far towards the limit as the trace lets them.
  pub lane_up_to : (limit : ℕ) (seat : Option ReaderSeatState) (old new : Lane S) → IsSomeAnd old.reader (λ was. IsSomeAnd new.reader (Read left faults limit seat old new was)) → IsSomeAnd old.reader (λ r. r.feed.halted ≡ None → r.feed.held ≡ None) → LaneTurnsOut old new
      → list_all (is_up_to_limit limit t) (map as_answer (calls_at seat)) ≡ true
  lane_up_to limit seat old new read none turns = of old.reader new.reader read none turns
    where
      of : (p q : Option LaneReaderState) → IsSomeAnd p (λ was. IsSomeAnd q (Read left faults limit seat old new was)) → IsSomeAnd p (λ r. r.feed.halted ≡ None → r.feed.held ≡ None)
          → IsSomeAnd p (λ was. IsSomeAnd q (λ is. (was.feed.halted ≡ None → TurnsOut left t old new was is) × (was.feed.halted ≢ None → HadBroken t was.feed))) → list_all (is_up_to_limit limit t) (map as_answer (calls_at seat)) ≡ true
      of None q read none turns = absurd read
      of (Some was) None read none turns = absurd read
      of (Some was) (Some is) read none turns = halted was.feed.halted refl
        where
          halted : (halt : Option Halt) → was.feed.halted ≡ halt → list_all (is_up_to_limit limit t) (map as_answer (calls_at seat)) ≡ true
          halted None goes =
              let out = turns.0 goes in
              let u = read.up_to goes out.bytes out.ahead in
              let g = out.gave u.reads.used u.reads.rest u.reads.split u.reads.left in
              (u.went out.outlook t g.0 g.1 g.2 g.3 (subst (IsHeldUpTo limit t) (sym (none goes)) tt)).calls
          halted (Some halt) stopped = ap (list_all (is_up_to_limit limit t)) (read.reads_on.stays halt stopped).1

module _ {S : Type 0} (left : S → Option (List ℕ)) (faults : S → ℕ) (first end : Group) (limit : ℕ) (log : List Answer) (old new : List (Lane S)) (keeps : IsGroupSound first) (runs : Runs first log end) (seats : list_all is_call_of_seat log ≡ true) (lanes : AreLanesOf first limit old)
    (went : (k : ℕ) (d : Lane S) → k < length old → LaneWent left faults (part_of_reader k log) (slice_index_or old k d) (slice_index_or new k d)) where
  pub log_is_fed : (traces : List Trace) → AllTurnOut left traces old new → IsFedLog traces first end log
  log_is_fed traces turns = record {
    falls = turns.falls;
    each = turns.many ∙ lanes.many;
    kept = keeps;
    runs = runs;
    seats = seats;
    fed = λ k t at.
        let low : k < length old = omega (arith, slice_get_within traces k t at, turns.many) in
        let d = some_item old k low in
        lane_fed left faults t first k limit (part_of_reader k log) (slice_index_or old k d) (slice_index_or new k d) (lanes.each k d low) (went k d low) (turns.each k t d at);
  }
