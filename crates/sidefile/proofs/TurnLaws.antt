-- One turn: what is handed over of the run that an entry begins.
use Rattle.std.proofs.Common.{◌≡◌, ◌≢◌, ℕ, ◌-◌, ◌<◌, ◌≤◌, min, Bool, true, false, nat_eq, ◌&&◌, List, [], ◌∷◌, ◌++◌, length, Option, Some, None, inr, refl, sym, ap, subst, ◌∙◌, append_assoc, append-nil, arith}
use Rattle.std.specs.Prelude.{All}
use Rattle.std.proofs.lemmas.Bool.{eqb-true}
use Rattle.std.proofs.lemmas.List.Elements.{All-nil, All-cons, All-append}
use Rattle.ckd_track.specs.declared.layout.TheConstants.{WRITES_OF_RUN}
use Rattle.tod_stamp.specs.Fields.{Left}
use Rattle.tod_stamp.specs.declared.stamp.Stamp.{Stamp}
use Rattle.ckd_track.specs.declared.write.Batch.{Batch}
use Rattle.ckd_track.specs.declared.write.Write.{Write}
use Rattle.ckd_track.specs.declared.write.Cause.{Cause}
use Rattle.ckd_track.specs.declared.write.Cause.TheVariants.{ReadFault, BadTrace, Crowded}
use Rattle.write_trace.specs.declared.header.VolumeHead.{VolumeHead}
use Rattle.write_trace.specs.declared.entry.Entry.{Entry}
use Rattle.write_trace.specs.declared.entry.Entry.TheVariants.{Written, Idle}
use Rattle.write_trace.specs.declared.trace.TraceEnd.TheVariants as ends
use Rattle.write_trace.specs.Entries.{stamp_of}
use Rattle.write_trace.specs.Writes.{writes_of, IsWriteTo}
use Rattle.write_trace.specs.declared.next.Stopped.{Stopped}
use Rattle.write_trace.specs.declared.next.Stopped.TheVariants.{AtEnd}
use Rattle.write_trace.specs.Answers.{ReaderState}
use Rattle.sidefile.specs.declared.hand.Hand.{Hand}
use Rattle.sidefile.specs.declared.hand.Hand.TheVariants as hands
use Rattle.sidefile.specs.declared.look.Look.{Look}
use Rattle.sidefile.specs.declared.look.Look.TheVariants as looks
use Rattle.sidefile.specs.declared.turn.Handover.{Handover}
use Rattle.sidefile.specs.Runs.{runs}
use Rattle.sidefile.specs.Breaks.{stamp, break_after}
use Rattle.sidefile.specs.Hands.{batch_of, broken_or, hand, left_after}
use Rattle.sidefile.specs.AheadEntries.{IsAhead, read_of, entries_ahead, ahead, cause_ahead, cause_to_come}
use Rattle.sidefile.specs.ExactHands.{SidefileFront, HandsSame, IsHand, LeavesRuns, runs_ahead}
use Rattle.sidefile.specs.Looks.{IsEntryTo, EntriesAreRead, have_stamp, FoundAfter, TakesRun}
use Rattle.sidefile.specs.States.{IsRunOf}
use Rattle.sidefile.specs.Turns.{IsHandover, front}
use Rattle.sidefile.proofs.RunLaws.{hand_above, hand_before, hand_at_end, hand_crowded, left_before, left_at_end}
use Rattle.sidefile.proofs.Steps.{fault_before}

both_true : (a b : Bool) → (a && b) ≡ true → (a ≡ true) × (b ≡ true)
both_true true b e = (refl, e)
both_true false b e = absurd cc

-- what is ahead after an entry that waits, where the reader goes on, and where it does not
pub ahead_open : (first : Entry) (r : ReaderState) (bytes : List ℕ) → r.stopped ≡ None → ahead (Some first) r bytes ≡ first ∷ (read_of r bytes).0
ahead_open first r bytes goes = ap (λ (s : Option Stopped). first ∷ entries_ahead s r bytes) goes

pub ahead_ended : (r : ReaderState) (bytes : List ℕ) → r.stopped ≡ Some (AtEnd ends.Ended) → (ahead None r bytes ≡ []) × (cause_ahead r bytes ≡ None)
ahead_ended r bytes stopped = (ap (λ (s : Option Stopped). entries_ahead s r bytes) stopped, ap (λ (s : Option Stopped). cause_to_come s r bytes) stopped)

stamps_are : (s : ℕ) (entries : List Entry) → have_stamp s entries ≡ true → All (λ w. w.stamp.0 ≡ s) (writes_of entries)
stamps_are s [] e = All-nil (λ (w : Write). w.stamp.0 ≡ s)
stamps_are s (Written w ∷ entries) e =
    let parts = both_true (nat_eq w.stamp.0 s) (have_stamp s entries) e in
    All-cons (λ (w : Write). w.stamp.0 ≡ s) w (writes_of entries) (eqb-true w.stamp.0 s parts.0) (stamps_are s entries parts.1)
stamps_are s (Idle stamp ∷ entries) e = stamps_are s entries (both_true (nat_eq stamp.0 s) (have_stamp s entries) e).1

first_stamps : (first : Entry) (taken : List Entry) → have_stamp (stamp_of first) taken ≡ true → All (λ w. w.stamp.0 ≡ stamp_of first) (writes_of (first ∷ taken))
first_stamps (Written w) taken e = All-cons (λ (v : Write). v.stamp.0 ≡ w.stamp.0) w (writes_of taken) refl (stamps_are w.stamp.0 taken e)
first_stamps (Idle stamp) taken e = stamps_are stamp.0 taken e

all_writes : (first : Entry) (taken : List Entry) (one all : List Write) → one ≡ [] ++ writes_of (first ∷ []) → all ≡ one ++ writes_of taken → all ≡ writes_of (first ∷ taken)
all_writes (Written w) taken one all is more = more ∙ ap (λ (ws : List Write). ws ++ writes_of taken) is
all_writes (Idle stamp) taken one all is more = more ∙ ap (λ (ws : List Write). ws ++ writes_of taken) is

batch_is : (control : ℕ) (all writes : List Write) (upto : Stamp) (time : ℕ) → all ≡ writes → upto.0 ≡ time
    → hands.Batch (record { control = control; writes = all; upto = upto }) ≡ hands.Batch (record { control = control; writes = writes; upto = stamp time })
batch_is control all writes upto time e f =
    ap (λ (ws : List Write). hands.Batch (record { control = control; writes = ws; upto = upto })) e
    ∙ ap (λ n. hands.Batch (record { control = control; writes = writes; upto = stamp n })) f

pub at_stamp : {before now : Option (List ℕ)} {faults risen : ℕ} {old new : ReaderState} {one all : List Write} {look : Look} (s n : ℕ) → s ≡ n → TakesRun before now faults risen old new s one all look
    → TakesRun before now faults risen old new n one all look
at_stamp {before} {now} {faults} {risen} {old} {new} {one} {all} {look} s n e h = subst (λ k. TakesRun before now faults risen old new k one all look) e h

pub turn_is : {control limit upto : ℕ} {before now : Option (List ℕ)} {faults risen : ℕ} {waiting : Option Entry} {old new : ReaderState} (t u : Handover) → t ≡ u
    → IsHandover control limit upto before now faults risen waiting old new u → IsHandover control limit upto before now faults risen waiting old new t
turn_is {control} {limit} {upto} {before} {now} {faults} {risen} {waiting} {old} {new} t u e h = subst (λ (x : Handover). IsHandover control limit upto before now faults risen waiting old new x) (sym e) h

-- ---- what is left

-- Where the same is handed over whatever stands after the bytes that were used, it is handed over of all bytes.
pub leaves_same : (control limit : ℕ) (told : Option (List ℕ)) (old new : SidefileFront) (used rest bytes : List ℕ) (given : Hand) → bytes ≡ used ++ rest → IsAhead new.reader told rest
    → cause_ahead new.reader rest ≡ cause_ahead old.reader bytes → old.reader.stopped ≡ None → ((after : List ℕ) → HandsSame control limit old new used after given)
    → IsHand control limit old bytes given × LeavesRuns control limit told old new bytes given
leaves_same control limit told old new used rest bytes given split there end goes same =
    let all = same rest in (
      all.hand (cause_ahead old.reader bytes) ∙ ap (λ (b : List ℕ). hand control (cause_ahead old.reader bytes) limit (runs_ahead old b)) (sym split),
      record {
        used = used;
        rest = rest;
        split = split;
        there = there;
        runs = all.runs ∙ ap (λ (b : List ℕ). left_after given (runs_ahead old b)) (sym split);
        same_end = end;
        went_on = λ g. goes;
        fronts = λ g after. same after;
      },
    )

-- ---- above the limit

pub turn_above : (control limit upto : ℕ) (told : Option (List ℕ)) (faults : ℕ) (first : Entry) (r : ReaderState)
    → limit < stamp_of first → upto ≤ limit → IsEntryTo r.volumes first → r.last ≡ stamp_of first → r.stopped ≡ None
    → IsHandover control limit upto told told faults faults (Some first) r r (record { hand = hands.AtLimit; waiting = Some first })
turn_above control limit upto told faults first r above le kept last goes = record {
  due = λ bytes there. leaves_same control limit told (front (Some first) r) (front (Some first) r) [] bytes bytes hands.AtLimit refl there refl goes (λ after. record {
    hand = λ cause. sym (ap (λ (es : List Entry). hand control cause limit (runs es)) (ahead_open first r after goes) ∙ hand_above control cause limit first (read_of r after).0 above);
    runs = refl;
    fault = λ fault. fault;
  });
  holds = tt;
  fault = refl;
  volumes = refl;
  rises = le;
  within = omega arith;
  keeps = (kept, above, last, goes);
}

-- ---- a run

module _ {before now : Option (List ℕ)} {faults risen : ℕ} {old new : ReaderState} {one all : List Write} {look : Look} (first : Entry) (h : TakesRun before now faults risen old new (stamp_of first) one all look)
    (control limit upto : ℕ) (kept : IsEntryTo old.volumes first) (goes : old.stopped ≡ None) (there : stamp_of first ≤ limit) (above : upto < stamp_of first) (is_one : one ≡ [] ++ writes_of (first ∷ [])) where
  writes_are : all ≡ writes_of (first ∷ h.taken)
  writes_are = all_writes first h.taken one all is_one h.writes

  room : length (writes_of (first ∷ h.taken)) ≤ WRITES_OF_RUN
  room = subst (λ (ws : List Write). length ws ≤ WRITES_OF_RUN) writes_are h.room

  -- what a batch of the run keeps
  run_kept : (time : Stamp) → stamp_of first ≤ time.0 → time.0 ≤ limit → IsRunOf old.volumes control upto limit (record { control = control; writes = all; upto = time })
  run_kept time from within = record {
    from = refl;
    kept = subst (λ (ws : List Write). All (IsWriteTo old.volumes) ws) (sym (h.writes ∙ ap (λ (ws : List Write). ws ++ writes_of h.taken) is_one)) (All-append (IsWriteTo old.volumes) ([] ++ writes_of (first ∷ [])) (writes_of h.taken) kept.1 h.kept);
    room = h.room;
    stamp = stamp_of first;
    stamps = subst (λ (ws : List Write). All (λ w. w.stamp.0 ≡ stamp_of first) ws) (sym writes_are) (first_stamps first h.taken h.stamps);
    above = above;
    there = from;
    within = within;
  }

  ahead_is : (bytes : List ℕ) (entries : List Entry) → (read_of old bytes).0 ≡ entries → ahead (Some first) old bytes ≡ first ∷ entries
  ahead_is bytes entries e = ahead_open first old bytes goes ∙ ap (λ (es : List Entry). first ∷ es) e

  -- the end ends the run
  at_end : (cause : Option Cause) (bytes : List ℕ) → (read_of old bytes).0 ≡ h.taken
      → hand control cause limit (runs (ahead (Some first) old bytes)) ≡ broken_or (hands.Batch (batch_of control (first ∷ h.taken) limit)) (break_after cause (stamp_of first))
  at_end cause bytes e = ap (λ (es : List Entry). hand control cause limit (runs es)) (ahead_is bytes h.taken e) ∙ hand_at_end control cause limit first h.taken h.stamps there room

  -- the same is handed over whatever stands after the next entry
  same_next : (e : Entry) (time : Stamp) (bytes rest : List ℕ) (p : EntriesAreRead old new (h.taken ++ e ∷ []) bytes rest) → stamp_of first ≢ stamp_of e → new.stopped ≡ None → time.0 ≡ min limit (stamp_of e - 1)
      → (after : List ℕ) → HandsSame control limit (front (Some first) old) (front (Some e) new) p.used after (hands.Batch (record { control = control; writes = all; upto = time }))
  same_next e time bytes rest p other goes_on is after =
      let more = (read_of new after).0 in
      let entries = ahead_is (p.used ++ after) (h.taken ++ e ∷ more) (ap (λ (x : List Entry × Left). x.0) (p.fronts after) ∙ append_assoc h.taken (e ∷ []) more) in
      let batch : Batch = record { control = control; writes = all; upto = time } in
      record {
        hand = λ cause.
            batch_is control all (writes_of (first ∷ h.taken)) time (min limit (stamp_of e - 1)) writes_are is
            ∙ sym (ap (λ (es : List Entry). hand control cause limit (runs es)) entries ∙ hand_before control cause limit first h.taken e more h.stamps other there room);
        runs = ap runs (ahead_open e new after goes_on) ∙ left_before first h.taken e more batch h.stamps other ∙ sym (ap (λ (es : List Entry). left_after (hands.Batch batch) (runs es)) entries);
        fault = fault_before old new (h.taken ++ e ∷ []) bytes rest p after;
      }

  -- the same with the parts of what was found after the run
  pub next_turn : (e : Entry) (time : Stamp) → FoundAfter before now faults risen old new (stamp_of first) h.taken all (looks.Next e) → time.0 ≡ min limit (stamp_of e - 1)
      → IsHandover control limit upto before now faults risen (Some first) old new (record { hand = hands.Batch (record { control = control; writes = all; upto = time }); waiting = Some e })
  next_turn e time (reads, e_kept, later, last, goes_on, count) is =
      let other : stamp_of first ≢ stamp_of e = λ same. omega (arith, same, later) in
      let from : stamp_of first ≤ time.0 = omega (arith, is, later, there) in
      let within : time.0 ≤ limit = omega (arith, is) in
      let early : time.0 < stamp_of e = omega (arith, is, later) in
      record {
        due = λ bytes is_ahead.
            let (rest, told, p) = reads bytes (is_ahead goes) in
            leaves_same control limit now (front (Some first) old) (front (Some e) new) p.used rest bytes (hands.Batch (record { control = control; writes = all; upto = time }))
            p.split (λ g. told) p.same_end goes (same_next e time bytes rest p other goes_on is);
        holds = run_kept time from within;
        fault = count;
        volumes = h.volumes;
        rises = omega (arith, above, from);
        within = within;
        keeps = (subst (λ (v : List VolumeHead). IsEntryTo v e) (sym h.volumes) e_kept, early, last, goes_on);
      }

  pub last_turn : FoundAfter before now faults risen old new (stamp_of first) h.taken all looks.Ended → (time : Stamp) → time.0 ≡ limit
      → IsHandover control limit upto before now faults risen (Some first) old new (record { hand = hands.Batch (record { control = control; writes = all; upto = time }); waiting = None })
  last_turn (ended, stopped, count) time is = record {
    due = λ bytes is_ahead.
        let (read, end) = ended bytes (is_ahead goes) in
        let batch : Batch = record { control = control; writes = all; upto = time } in
        let gone = ahead_ended new [] stopped in (
          batch_is control all (writes_of (first ∷ h.taken)) time limit writes_are is ∙ sym (at_end (cause_ahead old bytes) bytes read ∙ ap (λ (o : Option Cause). broken_or (hands.Batch (batch_of control (first ∷ h.taken) limit)) (break_after o (stamp_of first))) end),
          record {
            used = bytes;
            rest = [];
            split = sym (append-nil bytes);
            there = λ g. let both = sym g ∙ stopped in absurd cc;
            runs = ap runs gone.0 ∙ left_at_end first h.taken batch h.stamps ∙ sym (ap (λ (es : List Entry). left_after (hands.Batch batch) (runs es)) (ahead_is bytes h.taken read));
            same_end = gone.1 ∙ sym end;
            went_on = λ g. goes;
            fronts = λ g after. let both = sym g ∙ stopped in absurd cc;
          },
        );
    holds = run_kept time (omega (arith, is, there)) (omega (arith, is));
    fault = count;
    volumes = h.volumes;
    rises = omega (arith, above, there, is);
    within = omega (arith, is);
    keeps = inr stopped;
  }

  pub broken_turn : (cause : Cause) → FoundAfter before now faults risen old new (stamp_of first) h.taken all (looks.Bad cause)
      → IsHandover control limit upto before now faults risen (Some first) old new (record { hand = hands.Broken cause (stamp (stamp_of first - 1)); waiting = None })
  broken_turn (BadTrace place) (ended, count) = record {
    due = λ bytes is_ahead.
        let (read, end) = ended bytes (is_ahead goes) in
        sym (at_end (cause_ahead old bytes) bytes read ∙ ap (λ (o : Option Cause). broken_or (hands.Batch (batch_of control (first ∷ h.taken) limit)) (break_after o (stamp_of first))) end);
    holds = tt;
    fault = count;
    volumes = h.volumes;
    rises = omega (arith, above);
    within = omega (arith, there);
    keeps = tt;
  }
  broken_turn ReadFault (fails, rose) = record {
    due = λ bytes is_ahead.
        let (left, told, whole, split, read, cut) = fails bytes (is_ahead goes) in
        record { front = whole; left = left; split = split; told = told; went_on = goes; fault = cut; hand = sym (at_end (Some ReadFault) whole read) };
    holds = tt;
    fault = rose;
    volumes = h.volumes;
    rises = omega (arith, above);
    within = omega (arith, there);
    keeps = tt;
  }
  broken_turn (Crowded s) (is, full, after, count) = record {
    due = λ bytes is_ahead.
        let (w, more, read, same) = after bytes (is_ahead goes) in
        let due_hand = ap (λ (es : List Entry). hand control (cause_ahead old bytes) limit (runs es)) (ahead_is bytes (h.taken ++ Written w ∷ more) read)
        ∙ hand_crowded control (cause_ahead old bytes) limit first h.taken w more h.stamps same there (ap length (sym writes_are) ∙ full) in
        ap (λ n. hands.Broken (Crowded (stamp n)) (stamp (stamp_of first - 1))) is ∙ sym due_hand;
    holds = tt;
    fault = count;
    volumes = h.volumes;
    rises = omega (arith, above);
    within = omega (arith, there);
    keeps = tt;
  }
