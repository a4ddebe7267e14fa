-- What a hand leaves ahead, however the trace turns out.
use Rattle.std.proofs.Common.{◌≡◌, ◌≤◌, ◌+◌, ◌-◌, ℕ, true, false, nat_le, List, [], ◌∷◌, ◌++◌, length, Option, Some, None, refl, sym, ap, subst, ◌∙◌, arith}
use Rattle.std.specs.List.{list_all}
use Rattle.std.proofs.lemmas.Bool.{and_parts, and_from, leb-true, le-leb, ltb-false}
use Rattle.ckd_track.specs.declared.layout.TheConstants.{WRITES_OF_RUN}
use Rattle.tod_stamp.specs.declared.stamp.Stamp.{Stamp}
use Rattle.ckd_track.specs.declared.write.Batch.{Batch}
use Rattle.ckd_track.specs.declared.write.Cause.{Cause}
use Rattle.write_trace.specs.declared.entry.Entry.{Entry}
use Rattle.write_trace.specs.declared.trace.Trace.{Trace}
use Rattle.write_trace.specs.Entries.{stamp_of}
use Rattle.write_trace.specs.Writes.{writes_of}
use Rattle.sidefile.specs.declared.hand.Hand.{Hand}
use Rattle.sidefile.specs.declared.hand.Hand.TheVariants as hands
use Rattle.sidefile.specs.Runs.{run_stamp, runs, is_crowded}
use Rattle.sidefile.specs.Breaks.{break_in, cause_of, stamp}
use Rattle.sidefile.specs.AheadEntries.{ahead, cause_ahead}
use Rattle.sidefile.specs.ExactHands.{IsHand, LeavesRuns}
use Rattle.sidefile.specs.Hands.{batch_of, broken, hand, left_after}
use Rattle.sidefile.specs.States.{SidefileState, front_of}
use Rattle.sidefile.proofs.HandLaws.{Step, step, GoesTo, IsAbove, first_stamp}
use Rattle.sidefile.proofs.HandLaws.Step.{Takes, Waits, Breaks}
use Rattle.sidefile.proofs.RunLaws.{begins}
use Rattle.fed_logs.specs.Feeds.{IsBatchOf, is_between}
use Rattle.fed_logs.specs.Reads.{Outlook, EndsAsAhead, IsStillToCome, MayTurnOut, do_rise}
use Rattle.fed_logs.specs.Reads.Outlook.{Whole, Failing}
use Rattle.fed_logs.proofs.FeedEntries.{begin_with_run, first_run, stamp_between}

-- ---- however the trace turns out

-- A hand is that of the runs of these bytes, which end as the trace does, and leaves those of the later bytes.
pub record Leaves (o : Outlook) (t : Trace) (control limit : ℕ) (old new : SidefileState) (used later : List ℕ) (given : Hand) : Type 0 where
  pub hand_is : given ≡ hand control (cause_of t.end) limit (runs (ahead old.waiting old.reader (used ++ later)))
  pub runs_left : runs (ahead new.waiting new.reader later) ≡ left_after given (runs (ahead old.waiting old.reader (used ++ later)))
  pub ends_so : EndsAsAhead o t new.reader later

pub leaves : (o : Outlook) (t : Trace) (control limit : ℕ) (now : Option (List ℕ)) (old new : SidefileState) (bytes later : List ℕ) (given : Hand) → IsHand control limit (front_of old) bytes given
    → (l : LeavesRuns control limit now (front_of old) (front_of new) bytes given) → IsStillToCome o l.rest later → MayTurnOut o later None new.reader.stopped → EndsAsAhead o t old.reader (l.used ++ later)
    → Leaves o t control limit old new l.used later given
leaves Whole t control limit now old new bytes later given is l come turn ends =
    let same : bytes ≡ l.used ++ later = l.split ∙ ap (λ (r : List ℕ). l.used ++ r) (sym come) in
    let cause : cause_ahead old.reader bytes ≡ cause_of t.end = ap (cause_ahead old.reader) same ∙ ends in
    record {
      hand_is = is ∙ ap (λ (c : Option Cause). hand control c limit (runs (ahead old.waiting old.reader bytes))) cause ∙ ap (λ (b : List ℕ). hand control (cause_of t.end) limit (runs (ahead old.waiting old.reader b))) same;
      runs_left = ap (λ (r : List ℕ). runs (ahead new.waiting new.reader r)) come ∙ l.runs ∙ ap (λ (b : List ℕ). left_after given (runs (ahead old.waiting old.reader b))) same;
      ends_so = ap (cause_ahead new.reader) come ∙ l.same_end ∙ cause;
    }
leaves Failing t control limit now old new bytes later given is l come turn ends =
    let same = l.fronts turn later in
    record { hand_is = same.hand (cause_of t.end); runs_left = same.runs; ends_so = ends }

-- a reader that may go on after a hand went on before
pub could_turn_out : (o : Outlook) (control limit : ℕ) (now : Option (List ℕ)) (old new : SidefileState) (bytes later : List ℕ) (given : Hand) → (l : LeavesRuns control limit now (front_of old) (front_of new) bytes given)
    → MayTurnOut o later None new.reader.stopped → MayTurnOut o (l.used ++ later) None old.reader.stopped
could_turn_out Whole control limit now old new bytes later given l turn = tt
could_turn_out Failing control limit now old new bytes later given l turn = l.went_on turn

-- ---- a batch

-- A batch is that of the first run that was ahead, which is after a time, up to the batch's. It goes up to the limit, or to just before what is
-- left. What is left is after the batch's time, and so is the break.
pub record TakesRun (limit low : ℕ) (cause : Option Cause) (old new : List Entry) (batch : Batch) : Type 0 where
  pub run : List Entry
  pub split : old ≡ run ++ new
  pub is : IsBatchOf run batch
  pub later : low ≤ batch.upto.0
  pub within : list_all (is_between low batch.upto.0) run ≡ true
  pub goes : GoesTo limit batch.upto.0 (runs new)
  pub above : IsAbove batch.upto.0 (runs new)
  pub clean : runs new ≡ [] → cause ≡ None
  pub same : break_in cause (runs new) ≡ break_in cause (runs old)

-- A batch goes up to its run's stamp at least, and not up to the next one.
goes_up : (limit upto stamp : ℕ) (more : List (List Entry)) → stamp ≤ limit → IsAbove stamp more → GoesTo limit upto more → stamp ≤ upto
goes_up limit upto stamp [] there above goes = omega (arith, there, goes)
goes_up limit upto stamp (next ∷ more) there above goes = omega (arith, there, above, goes)

goes_above : (limit upto : ℕ) (more : List (List Entry)) → 1 ≤ upto → GoesTo limit upto more → IsAbove upto more
goes_above limit upto [] some goes = tt
goes_above limit upto (next ∷ more) some goes = omega (arith, some, goes)

break_left : (cause : Option Cause) (run : List Entry) (more : List (List Entry)) → is_crowded run ≡ false → (more ≡ [] → cause ≡ None) → break_in cause more ≡ break_in cause (run ∷ more)
break_left cause run [] crowded clean = rw (clean refl, crowded) refl
break_left cause run (next ∷ more) crowded clean = rw crowded refl

pub takes_run : (control limit low : ℕ) (cause : Option Cause) (old new : List Entry) (batch : Batch) → do_rise (low + 1) old ≡ true → hands.Batch batch ≡ hand control cause limit (runs old) → runs new ≡ left_after (hands.Batch batch) (runs old) → TakesRun limit low cause old new batch
takes_run control limit low cause old new batch rise is left = choose (step control cause limit (runs old))
  where
    choose : Step control cause limit (runs old) → TakesRun limit low cause old new batch
    choose (Takes run more upto first h there goes crowded clean) =
        let same : batch ≡ batch_of control run upto = (let b : hands.Batch batch ≡ hands.Batch (batch_of control run upto) = is ∙ h in cc b) in
        let after : runs new ≡ more = left ∙ ap (left_after (hands.Batch batch)) first in
        let up : batch.upto.0 ≡ upto = ap (λ (b : Batch). b.upto.0) same in
        let writes : batch.writes ≡ writes_of run = ap (λ (b : Batch). b.writes) same in
        let f = first_run low old run more rise first in
        let low_is = f.above in
        let high : run_stamp run ≤ upto = goes_up limit upto (run_stamp run) more there f.later goes in
        record {
          run = run;
          split = begin_with_run old new run more first after;
          is = record { one = ap length f.one; writes = writes; room = (let few = ltb-false WRITES_OF_RUN (length (writes_of run)) crowded in omega (arith, few, ap length writes)) };
          later = omega (arith, low_is, high, up);
          within = stamp_between low batch.upto.0 (run_stamp run) run low_is (omega (arith, high, up)) f.stamps;
          goes = subst (λ (n : ℕ). GoesTo limit n (runs new)) (sym up) (subst (GoesTo limit upto) (sym after) goes);
          above = subst (λ (n : ℕ). IsAbove n (runs new)) (sym up) (subst (IsAbove upto) (sym after) (goes_above limit upto more (omega (arith, low_is, high)) goes));
          clean = λ none. clean (sym after ∙ none);
          same = ap (break_in cause) after ∙ break_left cause run more crowded clean ∙ ap (break_in cause) (sym first);
        }
    choose (Waits h above clean) = absurd (let b : hands.Batch batch ≡ hands.AtLimit = is ∙ h in cc b)
    choose (Breaks b h upto there some br) = absurd (let c : hands.Batch batch ≡ broken b = is ∙ h in cc c)

-- ---- the limit

-- At a limit the first run that is ahead is above it, and without a run the trace has no break to come.
pub record WaitsAbove (cause : Option Cause) (limit : ℕ) (entries : List Entry) : Type 0 where
  pub above : IsAbove limit (runs entries)
  pub clean : runs entries ≡ [] → cause ≡ None

pub waits_above : (control limit : ℕ) (cause : Option Cause) (entries : List Entry) → hands.AtLimit ≡ hand control cause limit (runs entries) → WaitsAbove cause limit entries
waits_above control limit cause entries is = choose (step control cause limit (runs entries))
  where
    choose : Step control cause limit (runs entries) → WaitsAbove cause limit entries
    choose (Takes run more upto first h there goes crowded clean) = absurd (let b : hands.AtLimit ≡ hands.Batch (batch_of control run upto) = is ∙ h in cc b)
    choose (Waits h above clean) = record { above = above; clean = clean }
    choose (Breaks b h upto there some br) = absurd (let c : hands.AtLimit ≡ broken b = is ∙ h in cc c)

-- ---- a break

-- The break that is handed over is that of the runs that are ahead, and these are after its time.
pub record GivesUp (cause : Option Cause) (entries : List Entry) (why : Cause) (upto : Stamp) : Type 0 where
  pub break_is : break_in cause (runs entries) ≡ Some (record { cause = why; upto = upto.0 })
  pub later : do_rise (upto.0 + 1) entries ≡ true

-- entries that rise do so from the stamp of their first run
from_first : (low n : ℕ) (entries : List Entry) → do_rise (low + 1) entries ≡ true → n ≡ first_stamp (runs entries) - 1 → do_rise (n + 1) entries ≡ true
from_first low n [] rise at = refl
from_first low n (e ∷ entries) rise at =
    let b = begins e entries in
    let parts = and_parts (nat_le (low + 1) (stamp_of e)) (do_rise (stamp_of e) entries) rise in
    let from = leb-true (low + 1) (stamp_of e) parts.0 in
    let is : n ≡ stamp_of e - 1 = at ∙ ap (λ (rs : List (List Entry)). first_stamp rs - 1) b.is in
    and_from (nat_le (n + 1) (stamp_of e)) (do_rise (stamp_of e) entries) (le-leb (n + 1) (stamp_of e) (omega (arith, from, is))) parts.1

pub gives_up : (control limit low : ℕ) (cause : Option Cause) (entries : List Entry) (why : Cause) (upto : Stamp) → do_rise (low + 1) entries ≡ true → hands.Broken why upto ≡ hand control cause limit (runs entries) → GivesUp cause entries why upto
gives_up control limit low cause entries why upto rise is = choose (step control cause limit (runs entries))
  where
    choose : Step control cause limit (runs entries) → GivesUp cause entries why upto
    choose (Takes run more up first h there goes crowded clean) = absurd (let b : hands.Broken why upto ≡ hands.Batch (batch_of control run up) = is ∙ h in cc b)
    choose (Waits h above clean) = absurd (let b : hands.Broken why upto ≡ hands.AtLimit = is ∙ h in cc b)
    choose (Breaks b h at there some br) =
        let same : hands.Broken why upto ≡ hands.Broken b.cause (stamp b.upto) = is ∙ h in
        let causes : b.cause ≡ why = cc same in
        let stamps : stamp b.upto ≡ upto = cc same in
        let time : b.upto ≡ upto.0 = ap (λ (s : Stamp). s.0) stamps in
        record {
          break_is = br ∙ ap (λ (c : Cause). Some (record { cause = c; upto = b.upto })) causes ∙ ap (λ (n : ℕ). Some (record { cause = why; upto = n })) time;
          later = subst (λ (n : ℕ). do_rise (n + 1) entries ≡ true) time (from_first low b.upto entries rise at);
        }
