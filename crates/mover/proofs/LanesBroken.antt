-- A lane that reached its limit has broken exactly if its trace has a break below the limit.
use Rattle.std.proofs.Common.{◌≡◌, ◌<◌, ◌≤◌, ℕ, nat_lt, Bool, true, false, cond, List, Option, Some, None, refl, sym, ap, ◌∙◌, subst, arith}
use Rattle.std.specs.Prelude.{option_map}
use Rattle.std.proofs.lemmas.Bool.{lt-ltb, ltb-true}
use Rattle.tod_stamp.specs.declared.stamp.Stamp.{Stamp}
use Rattle.ckd_track.specs.declared.write.Batch.{Batch}
use Rattle.ckd_track.specs.declared.write.Cause.{Cause}
use Rattle.write_trace.specs.declared.trace.Trace.{Trace}
use Rattle.sidefile.specs.declared.hand.Halt.{Halt}
use Rattle.sidefile.specs.declared.hand.Halt.TheVariants as halts
use Rattle.sidefile.specs.AheadEntries.{IsAhead}
use Rattle.sidefile.specs.Breaks.{Break, break_of, has_broken, is_below}
use Rattle.sidefile.specs.Halts.{broken_in}
use Rattle.group_state.specs.Runs.{Answer}
use Rattle.fed_logs.specs.LaneFeeds.{FeedState}
use Rattle.fed_logs.specs.Reads.{HasRead, IsHeldRun, Outlook, ReadsOn, StandsSo}
use Rattle.fed_logs.specs.Reporters.{IsHaltBelow}
use Rattle.mover.specs.declared.lane.Lane.{Lane}
use Rattle.mover.specs.Readers.{LaneReaderState}
use Rattle.mover.specs.Lanes.{MayGoOn}
use Rattle.mover.specs.Epochs.{IsAtLimit, TurnsOut, break_below}
use Rattle.mover.proofs.LaneFeeds.{went_so}

-- ---- a trace's break

abbrev below_of : (limit : ℕ) → Break → (t : Bool) → Option (Stamp × Cause)
below_of limit b t = cond t (Some (record { 0 = b.upto }, b.cause)) None

none_below : (limit : ℕ) (t : Trace) → has_broken t limit ≡ false → break_below limit (break_of t) ≡ None
none_below limit t none = of (break_of t) refl
  where
    of : (b : Option Break) → break_of t ≡ b → break_below limit b ≡ None
    of None is = refl
    of (Some b) is = ap (below_of limit b) (ap (λ (o : Option Break). is_below (option_map (λ (b : Break). b.upto) o) limit) (sym is) ∙ none)

some_below : (limit : ℕ) (b : Option Break) (cause : Cause) (upto : Stamp) → b ≡ Some (record { cause = cause; upto = upto.0 }) → upto.0 < limit → break_below limit b ≡ Some (upto, cause)
some_below limit b cause upto is low = ap (break_below limit) is ∙ ap (below_of limit (record { cause = cause; upto = upto.0 })) (lt-ltb upto.0 limit low)

-- A break that lies below a time lies below a later one.
still_below : (before limit : ℕ) → before ≤ limit → (b : Option Break) (at : Stamp × Cause) → Some at ≡ break_below before b → break_below before b ≡ break_below limit b
still_below before limit up None at is = refl
still_below before limit up (Some b) at is = of (nat_lt b.upto before) refl
  where
    of : (t : Bool) → nat_lt b.upto before ≡ t → below_of before b (nat_lt b.upto before) ≡ below_of limit b (nat_lt b.upto limit)
    of true low = ap (below_of before b) low ∙ ap (below_of limit b) (sym (lt-ltb b.upto limit (omega (arith, up, ltb-true b.upto before low))))
    of false not_low = absurd (let e : Some at ≡ None = is ∙ ap (below_of before b) not_low in cc e)

-- ---- a reader

-- What is read of a trace up to a limit has no break below it.
read_up_to : (o : Outlook) (later : List ℕ) (t : Trace) (limit : ℕ) (feed : FeedState) → HasRead o later t feed → feed.held ≡ None → feed.primary.time ≡ limit → has_broken t limit ≡ false
read_up_to o later t limit feed read none at = subst (λ (n : ℕ). has_broken t n ≡ false) up read.unbroken
  where
    up : feed.side.upto ≡ limit
    up = sym (subst (λ (h : Option Batch). IsHeldRun h read.run feed.primary.time feed.side.upto) none read.is_held).1 ∙ at

stands_below : (limit : ℕ) → 0 < limit → (o : Outlook) (later : List ℕ) (t : Trace) (r : LaneReaderState) → IsAtLimit limit r → MayGoOn r.feed → IsHaltBelow limit r.feed.halted → StandsSo o later t r.feed r.feed.halted → broken_in r.feed.halted ≡ break_below limit (break_of t)
stands_below limit up o later t r at goes below stands = of r.feed.halted refl below stands
  where
    of : (halted : Option Halt) → r.feed.halted ≡ halted → IsHaltBelow limit halted → StandsSo o later t r.feed halted → broken_in halted ≡ break_below limit (break_of t)
    of None is below read = let l = at is in sym (none_below limit t (read_up_to o later t limit r.feed read l.0 l.1))
    of (Some (halts.Broken cause upto)) is below broken = sym (some_below limit (break_of t) cause upto broken.is (omega (arith, below, up)))
    of (Some halts.NoMemory) is below stands = absurd (goes is)

module _ {S : Type 0} (left : S → Option (List ℕ)) (t : Trace) (limit : ℕ) (up : 0 < limit) (old new : Lane S) (was is : LaneReaderState) (run : List Answer) (reads : ReadsOn (left old.source) (left new.source) was.feed is.feed run) (at : IsAtLimit limit is) (goes : MayGoOn is.feed) where
  -- a reader that read on at first
  pub broke_now : (on : was.feed.halted ≡ None) → TurnsOut left t old new was is → IsHaltBelow limit is.feed.halted → broken_in is.feed.halted ≡ break_below limit (break_of t)
  broke_now on out below =
      let r = reads.reads on out.bytes out.ahead in
      let g = out.gave r.used r.rest r.split r.left in
      stands_below limit up out.outlook g.0 t is at goes below (went_so left t old new was is run reads out on).stands

  -- a reader that had broken
  pub broke_before : (before : ℕ) (halt : Halt) → before ≤ limit → MayGoOn was.feed → was.feed.halted ≡ Some halt → broken_in was.feed.halted ≡ break_below before (break_of t) → broken_in is.feed.halted ≡ break_below limit (break_of t)
  broke_before before halt low was_goes stopped broke = ap (λ (f : FeedState). broken_in f.halted) (reads.stays halt stopped).0 ∙ broke ∙ of halt stopped
    where
      of : (halt : Halt) → was.feed.halted ≡ Some halt → break_below before (break_of t) ≡ break_below limit (break_of t)
      of (halts.Broken cause upto) stopped = still_below before limit low (break_of t) (upto, cause) (ap broken_in (sym stopped) ∙ broke)
      of halts.NoMemory stopped = absurd (was_goes stopped)

  -- Either way it has broken as its trace has below the limit.
  pub broke_so : (before : ℕ) → before ≤ limit → MayGoOn was.feed → (was.feed.halted ≡ None → TurnsOut left t old new was is) → (was.feed.halted ≡ None → (bytes : List ℕ) → IsAhead was.feed.side.reader (left old.source) bytes → IsHaltBelow limit is.feed.halted)
      → broken_in was.feed.halted ≡ break_below before (break_of t) → broken_in is.feed.halted ≡ break_below limit (break_of t)
  broke_so before low was_goes turns below broke = of was.feed.halted refl
    where
      of : (halted : Option Halt) → was.feed.halted ≡ halted → broken_in is.feed.halted ≡ break_below limit (break_of t)
      of None on = let out = turns on in broke_now on out (below on out.bytes out.ahead)
      of (Some halt) stopped = broke_before before halt low was_goes stopped broke
