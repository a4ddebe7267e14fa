-- Traces that turn out so after two epochs turn out so after each.
use Rattle.std.proofs.Common.{◌≡◌, ◌≢◌, ◌<◌, ℕ, List, [], ◌++◌, length, Option, Some, None, refl, sym, ap, ◌∙◌, subst, arith, append_assoc}
use Rattle.std.specs.Prelude.{IsSomeAnd, slice_get, slice_index_or}
use Rattle.std.proofs.lemmas.List.{append_cancel_right}
use Rattle.std.proofs.lemmas.Option.{same_Some, slice_get_within}
use Rattle.write_trace.specs.declared.trace.Trace.{Trace}
use Rattle.sidefile.specs.AheadEntries.{IsAhead}
use Rattle.sidefile.specs.declared.hand.Halt.{Halt}
use Rattle.sidefile.specs.declared.hand.Halt.TheVariants as halts
use Rattle.group_state.specs.Runs.{Answer}
use Rattle.fed_logs.specs.LaneFeeds.{FeedState}
use Rattle.fed_logs.specs.Reads.{AreLeft, HasRead, IsStillToCome, MayTurnOut, MayTurnOutOf, Outlook, ReadsOn, ReadsBytes, StandsSo}
use Rattle.fed_logs.specs.Reads.Outlook.{Whole, Failing}
use Rattle.fed_logs.proofs.InTurn.{no_halt, reads_in_turn}
use Rattle.mover.specs.declared.lane.Lane.{Lane}
use Rattle.mover.specs.Readers.{LaneReaderState}
use Rattle.mover.specs.Lanes.{HadBroken, MayGoOn}
use Rattle.mover.specs.Epochs.{TurnsOut}
use Rattle.mover.specs.TurningOut.{LanesReadInTurn, TracesTurnOutInTurn}
use Rattle.mover.proofs.LaneFeeds.{went_so}

-- ---- reading on in turn

pub lanes_read_in_turn : {S : Type 0} → (left : S → Option (List ℕ)) → LanesReadInTurn left
lanes_read_in_turn {S} left old mid new first then = record {
  same = then.same ∙ first.same;
  each = λ k d low. of (slice_index_or old k d) (slice_index_or mid k d) (slice_index_or new k d) (slice_index_or old k d).reader (slice_index_or mid k d).reader (slice_index_or new k d).reader (first.each k d low) (then.each k d (omega (arith, low, first.same)));
}
  where
    of : (a b c : Lane S) (p q r : Option LaneReaderState) → IsSomeAnd p (λ was. IsSomeAnd q (λ is. (gained : List Answer) × ReadsOn (left a.source) (left b.source) was.feed is.feed gained))
        → IsSomeAnd q (λ was. IsSomeAnd r (λ is. (gained : List Answer) × ReadsOn (left b.source) (left c.source) was.feed is.feed gained))
        → IsSomeAnd p (λ was. IsSomeAnd r (λ is. (gained : List Answer) × ReadsOn (left a.source) (left c.source) was.feed is.feed gained))
    of a b c None q r h k = absurd h
    of a b c (Some was) None r h k = absurd h
    of a b c (Some was) (Some is) None h k = absurd k
    of a b c (Some was) (Some is) (Some end) h k = (h.0 ++ k.0, reads_in_turn (left a.source) (left b.source) (left c.source) was.feed is.feed end.feed h.0 k.0 h.1 k.1)

-- ---- one lane that reads on between the two

-- What still comes after less comes after more.
still_before : (o : Outlook) (rest used more later : List ℕ) → rest ≡ used ++ more → IsStillToCome o more later → IsStillToCome o rest (used ++ later)
still_before Whole rest used more later split come = ap (λ (x : List ℕ). used ++ x) come ∙ sym split
still_before Failing rest used more later split come = tt

-- A feed that reads on may turn out so with any bytes, if it may with some.
any_later : (o : Outlook) (some later : List ℕ) (feed : FeedState) → feed.halted ≡ None → MayTurnOutOf o some feed → MayTurnOutOf o later feed
any_later o some later feed on may = subst (λ (h : Option Halt). MayTurnOut o later h feed.side.reader.stopped) (sym on) (of o (subst (λ (h : Option Halt). MayTurnOut o some h feed.side.reader.stopped) on may))
  where
    of : (o : Outlook) → MayTurnOut o some None feed.side.reader.stopped → MayTurnOut o later None feed.side.reader.stopped
    of Whole may = tt
    of Failing may = may

module _ {S : Type 0} (left : S → Option (List ℕ)) (t : Trace) (old mid new : Lane S) (was is end : LaneReaderState) (first then : List Answer) (reads : ReadsOn (left old.source) (left mid.source) was.feed is.feed first) (more : ReadsOn (left mid.source) (left new.source) is.feed end.feed then)
    (out : TurnsOut left t old new was end) (goes : was.feed.halted ≡ None) where
  abbrev o : Outlook
  o = out.outlook

  abbrev r : ReadsBytes (left mid.source) was.feed is.feed first out.bytes
  r = reads.reads goes out.bytes out.ahead

  module _ (on : is.feed.halted ≡ None) where
    ahead_mid : IsAhead is.feed.side.reader (left mid.source) r.rest
    ahead_mid = subst (λ (h : Option Halt). AreLeft (left mid.source) h is.feed.side.reader r.rest) on r.left

    abbrev s : ReadsBytes (left new.source) is.feed end.feed then r.rest
    s = more.reads on r.rest ahead_mid

    -- however the bytes after the first calls are split
    both : (used rest : List ℕ) → r.rest ≡ used ++ rest → out.bytes ≡ (r.used ++ used) ++ rest
    both used rest split = r.split ∙ ap (λ (x : List ℕ). r.used ++ x) split ∙ sym (append_assoc r.used used rest)

    abbrev g : (later : List ℕ) × IsStillToCome o s.rest later × MayTurnOutOf o later end.feed × HasRead o ((r.used ++ s.used) ++ later) t was.feed
    g = out.gave (r.used ++ s.used) s.rest (both s.used s.rest s.split) s.left

    may_mid : (later : List ℕ) → MayTurnOutOf o later is.feed
    may_mid later = any_later o (s.used ++ g.0) later is.feed on (s.could o g.0 g.2)

    read_mid : HasRead o (r.used ++ (s.used ++ g.0)) t was.feed
    read_mid = subst (λ (x : List ℕ). HasRead o x t was.feed) (append_assoc r.used s.used g.0) g.3

    -- The first calls used what they used: the bytes that are left are told, if the trace may fail after them.
    same_used : (used rest : List ℕ) → out.bytes ≡ used ++ rest → AreLeft (left mid.source) is.feed.halted is.feed.side.reader rest → is.feed.side.reader.stopped ≡ None → used ≡ r.used
    same_used used rest split there reads_on =
        let told : IsAhead is.feed.side.reader (left mid.source) rest = subst (λ (h : Option Halt). AreLeft (left mid.source) h is.feed.side.reader rest) on there in
        let same : rest ≡ r.rest = same_Some rest r.rest (sym (told reads_on) ∙ ahead_mid reads_on) in
        append_cancel_right used r.used r.rest (ap (λ (x : List ℕ). used ++ x) (sym same) ∙ sym split ∙ r.split)

    gave_first : (u : Outlook) → u ≡ o → (used rest : List ℕ) → out.bytes ≡ used ++ rest → AreLeft (left mid.source) is.feed.halted is.feed.side.reader rest
        → (later : List ℕ) × IsStillToCome u rest later × MayTurnOutOf u later is.feed × HasRead u (used ++ later) t was.feed
    gave_first Whole same used rest split there =
        let come : s.used ++ g.0 ≡ r.rest = subst (λ (u : Outlook). IsStillToCome u r.rest (s.used ++ g.0)) (sym same) (still_before o r.rest s.used s.rest g.0 s.split g.1) in
        let all : r.used ++ (s.used ++ g.0) ≡ used ++ rest = ap (λ (x : List ℕ). r.used ++ x) come ∙ sym r.split ∙ split in
        (rest, refl, subst (λ (u : Outlook). MayTurnOutOf u rest is.feed) (sym same) (may_mid rest), subst (λ (u : Outlook). HasRead u (used ++ rest) t was.feed) (sym same) (subst (λ (x : List ℕ). HasRead o x t was.feed) all read_mid))
    gave_first Failing same used rest split there =
        let reads_on = subst (λ (h : Option Halt). MayTurnOut Failing [] h is.feed.side.reader.stopped) on (subst (λ (u : Outlook). MayTurnOutOf u [] is.feed) (sym same) (may_mid [])) in
        let later = s.used ++ g.0 in (
          later,
          tt,
          subst (λ (u : Outlook). MayTurnOutOf u later is.feed) (sym same) (may_mid later),
          subst (λ (u : Outlook). HasRead u (used ++ later) t was.feed) (sym same) (subst (λ (x : List ℕ). HasRead o (x ++ later) t was.feed) (sym (same_used used rest split there reads_on)) read_mid),
        )

    pub first_out : TurnsOut left t old mid was is
    first_out = record { outlook = o; bytes = out.bytes; ahead = out.ahead; gave = gave_first o refl }

    pub then_out : TurnsOut left t mid new is end
    then_out = record {
      outlook = o;
      bytes = r.rest;
      ahead = ahead_mid;
      gave = λ used rest split there.
          let h = out.gave (r.used ++ used) rest (both used rest split) there in
          let later = used ++ h.0 in
          let went = r.reads o t later (still_before o r.rest used rest h.0 split h.1) (may_mid later) (subst (λ (x : List ℕ). HasRead o x t was.feed) (append_assoc r.used used h.0) h.3) in
          (h.0, h.1, h.2, subst (λ (h : Option Halt). StandsSo o later t is.feed h) on went.stands);
    }

  -- ---- one lane that has halted between the two

  module _ (halt : Halt) (stopped : is.feed.halted ≡ Some halt) where
    pub same_feed : end.feed ≡ is.feed
    same_feed = (more.stays halt stopped).0

    pub same_left : left new.source ≡ left mid.source
    same_left = (more.stays halt stopped).2

    abbrev pub halted_out : TurnsOut left t old mid was is
    halted_out = record {
      outlook = o;
      bytes = out.bytes;
      ahead = out.ahead;
      gave = λ used rest split there.
          let after = subst (λ (f : FeedState). AreLeft (left mid.source) f.halted f.side.reader rest) (sym same_feed) there in
          let h = out.gave used rest split (subst (λ (n : Option (List ℕ)). AreLeft n end.feed.halted end.feed.side.reader rest) (sym same_left) after) in
          (h.0, h.1, subst (MayTurnOutOf o h.0) same_feed h.2, h.3);
    }

    pub has_broken : MayGoOn is.feed → HadBroken t is.feed
    has_broken may = of halt stopped (subst (λ (h : Option Halt). StandsSo o later t is.feed h) stopped went)
      where
        later : List ℕ
        later = (halted_out.gave r.used r.rest r.split r.left).0

        went : StandsSo o later t is.feed is.feed.halted
        went = (went_so left t old mid was is first reads halted_out goes).stands

        of : (halt : Halt) → is.feed.halted ≡ Some halt → StandsSo o later t is.feed (Some halt) → HadBroken t is.feed
        of (halts.Broken cause upto) at stands = (cause, upto, at, stands)
        of halts.NoMemory at stands = absurd (may at)

-- ---- all lanes

abbrev TurnsOutSo : {S : Type 0} → (left : S → Option (List ℕ)) → Trace → (old new : Lane S) → (was is : LaneReaderState) → Type 0
TurnsOutSo left t old new was is = (was.feed.halted ≡ None → TurnsOut left t old new was is) × (was.feed.halted ≢ None → HadBroken t was.feed)

not_none : (halted : Option Halt) (halt : Halt) → halted ≡ Some halt → halted ≢ None
not_none halted halt is none = no_halt halted halt none is

module _ {S : Type 0} (left : S → Option (List ℕ)) (t : Trace) (old mid new : Lane S) (was is end : LaneReaderState) (first then : List Answer) (reads : ReadsOn (left old.source) (left mid.source) was.feed is.feed first) (more : ReadsOn (left mid.source) (left new.source) is.feed end.feed then) (may : MayGoOn is.feed)
    (turns : TurnsOutSo left t old new was end) where
  in_turn : TurnsOutSo left t old mid was is × TurnsOutSo left t mid new is end
  in_turn = from was.feed.halted refl
    where
      between : (was.feed.halted ≡ None) → (h : Option Halt) → is.feed.halted ≡ h → TurnsOutSo left t old mid was is × TurnsOutSo left t mid new is end
      between goes None on = (
        (λ goes. first_out left t old mid new was is end first then reads more (turns.0 goes) goes on, turns.1),
        (λ on. then_out left t old mid new was is end first then reads more (turns.0 goes) goes on, λ not. absurd (not on)),
      )
      between goes (Some halt) stopped = (
        (λ goes. halted_out left t old mid new was is end first then reads more (turns.0 goes) goes halt stopped, turns.1),
        (λ on. absurd (no_halt is.feed.halted halt on stopped), λ not. has_broken left t old mid new was is end first then reads more (turns.0 goes) goes halt stopped may),
      )

      from : (h : Option Halt) → was.feed.halted ≡ h → TurnsOutSo left t old mid was is × TurnsOutSo left t mid new is end
      from None goes = between goes is.feed.halted refl
      from (Some halt) stopped =
          let same : is.feed ≡ was.feed = (reads.stays halt stopped).0 in
          let still : is.feed.halted ≡ Some halt = ap (λ (f : FeedState). f.halted) same ∙ stopped in (
            (λ goes. absurd (no_halt was.feed.halted halt goes stopped), turns.1),
            (λ on. absurd (no_halt is.feed.halted halt on still), λ not. subst (HadBroken t) (sym same) (turns.1 (not_none was.feed.halted halt stopped))),
          )

abbrev Out : {S : Type 0} → (left : S → Option (List ℕ)) → Trace → (a b : Lane S) → (p q : Option LaneReaderState) → Type 0
Out left t a b p q = IsSomeAnd p (λ was. IsSomeAnd q (λ is. TurnsOutSo left t a b was is))

pub traces_turn_out : {S : Type 0} → (left : S → Option (List ℕ)) → TracesTurnOutInTurn left
traces_turn_out {S} left traces old mid new first may then turns = (
  record { many = turns.many; falls = turns.falls; each = λ k t d at. (both k t d at).0 },
  record { many = turns.many ∙ sym first.same; falls = turns.falls; each = λ k t d at. (both k t d at).1 },
)
  where
    of : (t : Trace) (a b c : Lane S) (p q r : Option LaneReaderState) → IsSomeAnd p (λ was. IsSomeAnd q (λ is. (gained : List Answer) × ReadsOn (left a.source) (left b.source) was.feed is.feed gained)) → IsSomeAnd q (λ is. MayGoOn is.feed)
        → IsSomeAnd q (λ was. IsSomeAnd r (λ is. (gained : List Answer) × ReadsOn (left b.source) (left c.source) was.feed is.feed gained)) → Out left t a c p r → Out left t a b p q × Out left t b c q r
    of t a b c None q r h m k out = absurd h
    of t a b c (Some was) None r h m k out = absurd h
    of t a b c (Some was) (Some is) None h m k out = absurd k
    of t a b c (Some was) (Some is) (Some end) h m k out = in_turn left t a b c was is end h.0 k.0 h.1 k.1 m out

    both : (k : ℕ) (t : Trace) (d : Lane S) → slice_get traces k ≡ Some t → Out left t (slice_index_or old k d) (slice_index_or mid k d) (slice_index_or old k d).reader (slice_index_or mid k d).reader
        × Out left t (slice_index_or mid k d) (slice_index_or new k d) (slice_index_or mid k d).reader (slice_index_or new k d).reader
    both k t d at =
        let low : k < length old = omega (arith, slice_get_within traces k t at, turns.many) in
        of t (slice_index_or old k d) (slice_index_or mid k d) (slice_index_or new k d) (slice_index_or old k d).reader (slice_index_or mid k d).reader (slice_index_or new k d).reader (first.each k d low) (may k d (omega (arith, low, first.same))) (then.each k d (omega (arith, low, first.same))) (turns.each k t d at)
