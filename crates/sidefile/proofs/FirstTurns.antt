-- A turn where no entry waits: the next is looked at first.
use Rattle.std.proofs.Common.{◌≡◌, ℕ, ◌≤◌, List, [], ◌∷◌, ◌++◌, Option, Some, None, inr, sym, ap, subst, ◌∙◌, append_assoc, append-nil, arith}
use Rattle.tod_stamp.specs.Fields.{Left}
use Rattle.ckd_track.specs.declared.write.Cause.{Cause}
use Rattle.ckd_track.specs.declared.write.Cause.TheVariants.{ReadFault, BadTrace, Crowded}
use Rattle.write_trace.specs.declared.header.VolumeHead.{VolumeHead}
use Rattle.write_trace.specs.declared.entry.Entry.{Entry}
use Rattle.write_trace.specs.declared.trace.TraceEnd.TheVariants as ends
use Rattle.write_trace.specs.declared.next.Stopped.{Stopped}
use Rattle.write_trace.specs.declared.next.Stopped.TheVariants.{AtEnd}
use Rattle.write_trace.specs.Answers.{ReaderState, ReadsEntry, EndsThere}
use Rattle.sidefile.specs.declared.hand.Hand.{Hand}
use Rattle.sidefile.specs.declared.hand.Hand.TheVariants as hands
use Rattle.sidefile.specs.declared.look.Look.TheVariants as looks
use Rattle.sidefile.specs.declared.turn.Handover.{Handover}
use Rattle.sidefile.specs.Runs.{runs}
use Rattle.sidefile.specs.Breaks.{stamp}
use Rattle.sidefile.specs.Hands.{hand, left_after}
use Rattle.sidefile.specs.AheadEntries.{IsAhead, IsFault, read_of, entries_ahead, ahead, cause_ahead}
use Rattle.sidefile.specs.ExactHands.{SidefileFront, HandsSame, IsHand, LeavesRuns, IsDue, runs_ahead}
use Rattle.sidefile.specs.Looks.{EntriesAreRead, FindsNext}
use Rattle.sidefile.specs.States.{HoldsRun, HasFault}
use Rattle.sidefile.specs.Turns.{front, IsHandover}
use Rattle.sidefile.proofs.Steps.{reads_all, ends_there, bad_there, fails_there, fault_before}
use Rattle.sidefile.proofs.TurnLaws.{ahead_open, ahead_ended}

pub waiting_is : {control limit upto : ℕ} {before now : Option (List ℕ)} {faults risen : ℕ} {old new : ReaderState} {turn : Handover} (w v : Option Entry) → w ≡ v
    → IsHandover control limit upto before now faults risen v old new turn → IsHandover control limit upto before now faults risen w old new turn
waiting_is {control} {limit} {upto} {before} {now} {faults} {risen} {old} {new} {turn} w v e h = subst (λ (x : Option Entry). IsHandover control limit upto before now faults risen x old new turn) (sym e) h

-- where no entry waits
pub ahead_none : (r : ReaderState) (bytes : List ℕ) → r.stopped ≡ None → ahead None r bytes ≡ (read_of r bytes).0
ahead_none r bytes goes = ap (λ (s : Option Stopped). entries_ahead s r bytes) goes

-- ---- an entry was read first

module _ {before mid : Option (List ℕ)} {r s : ReaderState} (e : Entry) (goes : r.stopped ≡ None) (reads : ReadsEntry before mid r s e) where
  same_ahead : (bytes rest : List ℕ) (p : EntriesAreRead r s (e ∷ []) bytes rest) (more : List ℕ) → ahead None r (p.used ++ more) ≡ ahead (Some e) s more
  same_ahead bytes rest p more = ahead_none r (p.used ++ more) goes ∙ ap (λ (x : List Entry × Left). x.0) (p.fronts more) ∙ sym (ahead_open e s more reads.goes_on)

  same_all : (bytes rest : List ℕ) → EntriesAreRead r s (e ∷ []) bytes rest → ahead None r bytes ≡ ahead (Some e) s rest
  same_all bytes rest p = ap (ahead None r) p.split ∙ same_ahead bytes rest p rest

  -- the same hand is due
  hand_first : (control limit : ℕ) (given : Hand) → ((rest : List ℕ) → IsAhead s mid rest → IsHand control limit (front (Some e) s) rest given)
      → (bytes : List ℕ) → IsAhead r before bytes → IsHand control limit (front None r) bytes given
  hand_first control limit given due bytes is_ahead =
      let (rest, told, p) = reads_all before mid r s e goes reads bytes (is_ahead goes) in
      let same = same_all bytes rest p in
      due rest (λ g. told) ∙ ap (λ (c : Option Cause). hand control c limit (runs_ahead (front (Some e) s) rest)) p.same_end ∙ ap (λ (es : List Entry). hand control (cause_ahead r bytes) limit (runs es)) (sym same)

  same_after : (control limit : ℕ) (after : SidefileFront) (given : Hand) (bytes rest : List ℕ) (p : EntriesAreRead r s (e ∷ []) bytes rest) (used more : List ℕ)
      → HandsSame control limit (front (Some e) s) after used more given → HandsSame control limit (front None r) after (p.used ++ used) more given
  same_after control limit after given bytes rest p used more same =
      let parts = append_assoc p.used used more in
      let all = ap (ahead None r) parts ∙ same_ahead bytes rest p (used ++ more) in
      record {
        hand = λ cause. same.hand cause ∙ ap (λ (es : List Entry). hand control cause limit (runs es)) (sym all);
        runs = same.runs ∙ ap (λ (es : List Entry). left_after given (runs es)) (sym all);
        fault = λ fault. subst (λ (b : List ℕ). IsFault r b) (sym parts) (fault_before r s (e ∷ []) bytes rest p (used ++ more) (same.fault fault));
      }

  -- and the same is left
  hand_and_rest : (control limit : ℕ) (now : Option (List ℕ)) (after : SidefileFront) (given : Hand)
      → ((rest : List ℕ) → IsAhead s mid rest → IsHand control limit (front (Some e) s) rest given × LeavesRuns control limit now (front (Some e) s) after rest given)
      → (bytes : List ℕ) → IsAhead r before bytes → IsHand control limit (front None r) bytes given × LeavesRuns control limit now (front None r) after bytes given
  hand_and_rest control limit now after given due bytes is_ahead =
      let (rest, told, p) = reads_all before mid r s e goes reads bytes (is_ahead goes) in
      let same = same_all bytes rest p in
      let l = (due rest (λ g. told)).1 in (
        hand_first control limit given (λ rest there. (due rest there).0) bytes is_ahead,
        record {
          used = p.used ++ l.used;
          rest = l.rest;
          split = p.split ∙ ap (λ (u : List ℕ). p.used ++ u) l.split ∙ sym (append_assoc p.used l.used l.rest);
          there = l.there;
          runs = l.runs ∙ ap (λ (es : List Entry). left_after given (runs es)) (sym same);
          same_end = l.same_end ∙ p.same_end;
          went_on = λ g. goes;
          fronts = λ g more. same_after control limit after given bytes rest p l.used more (l.fronts g more);
        },
      )

  due_first : (control limit : ℕ) (now : Option (List ℕ)) (after : SidefileFront) (given : Hand) → IsDue control limit mid now (front (Some e) s) after given → IsDue control limit before now (front None r) after given
  due_first control limit now after (hands.Batch batch) due = hand_and_rest control limit now after (hands.Batch batch) due
  due_first control limit now after hands.AtLimit due = hand_and_rest control limit now after hands.AtLimit due
  due_first control limit now after (hands.Broken ReadFault upto) due = λ bytes is_ahead.
      let (rest, told, p) = reads_all before mid r s e goes reads bytes (is_ahead goes) in
      let d = due rest (λ g. told) in
      record {
        front = p.used ++ d.front;
        left = d.left;
        split = p.split ∙ ap (λ (u : List ℕ). p.used ++ u) d.split ∙ sym (append_assoc p.used d.front d.left);
        told = d.told;
        went_on = goes;
        fault = fault_before r s (e ∷ []) bytes rest p d.front d.fault;
        hand = d.hand ∙ ap (λ (es : List Entry). hand control (Some ReadFault) limit (runs es)) (sym (same_ahead bytes rest p d.front));
      }
  due_first control limit now after (hands.Broken (BadTrace place) upto) due = hand_first control limit (hands.Broken (BadTrace place) upto) due
  due_first control limit now after (hands.Broken (Crowded stamp) upto) due = hand_first control limit (hands.Broken (Crowded stamp) upto) due
  due_first control limit now after hands.NoMemory due = tt

  pub turn_first : (control limit upto : ℕ) (now : Option (List ℕ)) (f1 f2 f3 : ℕ) (t : ReaderState) (turn : Handover) → f2 ≡ f1
      → IsHandover control limit upto mid now f2 f3 (Some e) s t turn → IsHandover control limit upto before now f1 f3 None r t turn
  turn_first control limit upto now f1 f2 f3 t turn count h = record {
    due = due_first control limit now (front turn.waiting t) turn.hand h.due;
    holds = subst (λ (v : List VolumeHead). HoldsRun v control upto limit turn.hand) reads.volumes h.holds;
    fault = subst (λ n. HasFault n f3 turn.hand) count h.fault;
    volumes = h.volumes ∙ reads.volumes;
    rises = h.rises;
    within = h.within;
    keeps = h.keeps;
  }

-- ---- no entry was read

pub turn_ended : (control limit upto : ℕ) (before now : Option (List ℕ)) (f1 f2 : ℕ) (r t : ReaderState) → upto ≤ limit
    → ((bytes : List ℕ) → IsAhead r before bytes → (ahead None r bytes ≡ []) × (cause_ahead r bytes ≡ None)) → t.volumes ≡ r.volumes → t.stopped ≡ Some (AtEnd ends.Ended) → f2 ≡ f1
    → IsHandover control limit upto before now f1 f2 None r t (record { hand = hands.AtLimit; waiting = None })
turn_ended control limit upto before now f1 f2 r t le none volumes stopped count = record {
  due = λ bytes is_ahead.
      let (empty, clean) = none bytes is_ahead in
      let gone = ahead_ended t [] stopped in (
        sym (ap (λ (es : List Entry). hand control (cause_ahead r bytes) limit (runs es)) empty ∙ ap (λ (c : Option Cause). hand control c limit []) clean),
        record {
          used = bytes;
          rest = [];
          split = sym (append-nil bytes);
          there = λ g. let both = sym g ∙ stopped in absurd cc;
          runs = ap runs (gone.0 ∙ sym empty);
          same_end = gone.1 ∙ sym clean;
          went_on = λ g. let both = sym g ∙ stopped in absurd cc;
          fronts = λ g more. let both = sym g ∙ stopped in absurd cc;
        },
      );
  holds = tt;
  fault = count;
  volumes = volumes;
  rises = le;
  within = omega arith;
  keeps = inr stopped;
}

pub turn_bad : (control limit upto : ℕ) (before now : Option (List ℕ)) (f1 f2 : ℕ) (r t : ReaderState) (cause : Cause) → upto ≡ 0 → r.stopped ≡ None → FindsNext before now f1 f2 r t (looks.Bad cause)
    → IsHandover control limit upto before now f1 f2 None r t (record { hand = hands.Broken cause (stamp 0); waiting = None })
turn_bad control limit upto before now f1 f2 r t (BadTrace place) zero goes (at, bad, stops, count) = record {
  due = λ bytes is_ahead.
      let (read, end) = bad_there before r place goes at bad bytes (is_ahead goes) in
      sym (ap (λ (es : List Entry). hand control (cause_ahead r bytes) limit (runs es)) (ahead_none r bytes goes ∙ read) ∙ ap (λ (c : Option Cause). hand control c limit []) end);
  holds = tt;
  fault = count;
  volumes = stops.volumes;
  rises = omega (arith, zero);
  within = omega arith;
  keeps = tt;
}
turn_bad control limit upto before now f1 f2 r t ReadFault zero goes (fails, stops, rose) = record {
  due = λ bytes is_ahead.
      let (left, told, whole, split, read, cut) = fails_there before now r t fails bytes (is_ahead goes) in
      record { front = whole; left = left; split = split; told = told; went_on = goes; fault = cut; hand = sym (ap (λ (es : List Entry). hand control (Some ReadFault) limit (runs es)) (ahead_none r whole goes ∙ read)) };
  holds = tt;
  fault = rose;
  volumes = stops.volumes;
  rises = omega (arith, zero);
  within = omega arith;
  keeps = tt;
}
turn_bad control limit upto before now f1 f2 r t (Crowded s) zero goes finds = absurd finds

-- where a look read no entry at its end
pub none_left : (before : Option (List ℕ)) (r : ReaderState) → r.stopped ≡ None → EndsThere before r → (bytes : List ℕ) → IsAhead r before bytes → (ahead None r bytes ≡ []) × (cause_ahead r bytes ≡ None)
none_left before r goes ended bytes is_ahead = let (read, end) = ends_there before r goes ended bytes (is_ahead goes) in (ahead_none r bytes goes ∙ read, end)
