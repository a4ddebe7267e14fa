-- Each step of a reader reads on.
use Rattle.std.proofs.Common.{◌≡◌, ◌≤◌, ◌+◌, ℕ, Bool, true, false, cond, nat_lt, nat_le, List, [], ◌∷◌, ◌++◌, Option, Some, None, refl, sym, ap, subst, ◌∙◌, arith, append-nil, append_assoc}
use Rattle.std.specs.Prelude.{filter, MatchBool, option_map}
use Rattle.std.specs.List.{list_all}
use Rattle.std.proofs.lemmas.Bool.{and_parts, leb-true, le-leb, le-ltb, ltb-false}
use Rattle.std.proofs.lemmas.List.Elements.{filter-append}
use Rattle.tod_stamp.specs.declared.stamp.Stamp.{Stamp}
use Rattle.ckd_track.specs.declared.rec.Rec.{Rec}
use Rattle.ckd_track.specs.declared.write.Batch.{Batch}
use Rattle.ckd_track.specs.declared.write.Cause.{Cause}
use Rattle.ckd_track.specs.declared.write.Cause.TheVariants.{ReadFault, BadTrace, Crowded}
use Rattle.ckd_track.specs.declared.write.Write.{Write}
use Rattle.write_trace.specs.declared.entry.Entry.{Entry}
use Rattle.write_trace.specs.declared.next.Stopped.{Stopped}
use Rattle.write_trace.specs.declared.trace.Trace.{Trace}
use Rattle.write_trace.specs.Answers.{ReaderState}
use Rattle.write_trace.specs.Entries.{stamp_of}
use Rattle.write_trace.specs.Writes.{writes_of}
use Rattle.primary_ctl.specs.States.{PrimaryState, track_of, base_in, is_on, after_writes}
use Rattle.sidefile.specs.declared.hand.Hand.{Hand}
use Rattle.sidefile.specs.declared.hand.Hand.TheVariants as hands
use Rattle.sidefile.specs.declared.hand.Halt.{Halt}
use Rattle.sidefile.specs.declared.hand.Halt.TheVariants as halts
use Rattle.sidefile.specs.Runs.{runs}
use Rattle.sidefile.specs.Breaks.{Break, break_in, break_of, cause_of, has_broken, is_below}
use Rattle.sidefile.specs.AheadEntries.{IsAhead, IsFault, ahead, cause_ahead}
use Rattle.sidefile.specs.ExactHands.{IsHand, LeavesRuns}
use Rattle.sidefile.specs.Hands.{hand}
use Rattle.sidefile.specs.States.{SidefileState, front_of}
use Rattle.group_state.specs.Runs.{Answer}
use Rattle.fed_logs.specs.ToldTracks.{has_changed, is_write_up_to}
use Rattle.fed_logs.specs.Feeds.{AreFedBy, IsBatchOf, entries_between, is_between}
use Rattle.fed_logs.specs.LaneFeeds.{FeedState}
use Rattle.fed_logs.specs.Reads.{Outlook, IsHeldRun, HasRead, HasTracksAt, HasBroken, MayTurnOut, IsToFail, IsStillToCome, StandsSo, Went, AreLeft, ReadsBytes, do_rise, is_up_to}
use Rattle.fed_logs.specs.Reads.Outlook.{Whole, Failing}
use Rattle.group_state.specs.HistoryLaws.{joined_answer}
use Rattle.fed_logs.specs.Steps.{HandsOver, TakesBatch, IsIdle, primary_at, held_answer, raised_answer, broken_answer, wanted_answer, copied_answer}
use Rattle.fed_logs.specs.Steps.FeedStep.{Hands, Joins, Lacks, Holds, Passes, Breaks, Wants, Asks, Copies}
use Rattle.fed_logs.specs.FeedLaws.{StepsReadOn, ReadTracksAreThePrimary, NothingIsReadFirst}
use Rattle.fed_logs.proofs.FeedEntries.{all_more, all_append, after_then, writes_then, rise_lower, rise_after, held_between, up_to_time, up_to_more, none_between, up_to_later, above_rises, above_unbroken, same_runs}
use Rattle.fed_logs.proofs.Hands.{leaves, could_turn_out, takes_run, waits_above, gives_up}
use Rattle.fed_logs.proofs.InTurn.{no_halt, unbroken}

-- ---- outlooks

-- a source that fails so may turn out so
may_fail : (later : List ℕ) (halted : Option Halt) (reader : ReaderState) → IsToFail later halted reader → MayTurnOut Failing later halted reader.stopped
may_fail later None reader fails = fails.0
may_fail later (Some (halts.Broken ReadFault upto)) reader fails = fails
may_fail later (Some (halts.Broken (BadTrace place) upto)) reader fails = absurd fails
may_fail later (Some (halts.Broken (Crowded stamp) upto)) reader fails = absurd fails
may_fail later (Some halts.NoMemory) reader fails = absurd fails

-- ---- what is held

module _ (o : Outlook) (rest : List ℕ) (t : Trace) (feed : FeedState) (read : HasRead o rest t feed) where
  abbrev entries : List Entry
  entries = ahead feed.side.waiting feed.side.reader rest

  rising : do_rise 0 entries ≡ true
  rising = rise_after 0 (read.before ++ read.run) entries (subst (λ (es : List Entry). do_rise 0 es ≡ true) (sym read.all) read.rise)

  with_batch : (batch : Batch) → feed.held ≡ Some batch → IsHeldRun (Some batch) read.run feed.primary.time feed.side.upto
  with_batch batch held = subst (λ (h : Option Batch). IsHeldRun h read.run feed.primary.time feed.side.upto) held read.is_held

  with_none : feed.held ≡ None → IsHeldRun None read.run feed.primary.time feed.side.upto
  with_none held = subst (λ (h : Option Batch). IsHeldRun h read.run feed.primary.time feed.side.upto) held read.is_held

  -- where none is held
  all_read : feed.held ≡ None → (read.before ++ []) ++ entries ≡ t.entries
  all_read held = ap (λ (run : List Entry). (read.before ++ run) ++ entries) (sym (with_none held).0) ∙ read.all

  -- what the held run has
  within : (h : Option Batch) → IsHeldRun h read.run feed.primary.time feed.side.upto → (feed.primary.time ≤ feed.side.upto) × (list_all (is_between feed.primary.time feed.side.upto) read.run ≡ true)
  within None h = (
    let e = h.1 in omega (arith, e),
    ap (λ (run : List Entry). list_all (is_between feed.primary.time feed.side.upto) run) h.0,
  )
  within (Some batch) h = (h.2, h.3)

  tracks_at : HasTracksAt t feed.primary.time feed.primary
  tracks_at v x =
      let held = within feed.held read.is_held in
      read.tracks v x
      ∙ ap (after_writes (base_in t.header.base v x)) (sym (up_to_time feed.primary.time feed.side.upto read.before read.run entries read.reported held.1 read.later v x held.0))
      ∙ ap (λ (es : List Entry). after_writes (base_in t.header.base v x) (filter (is_write_up_to v x feed.primary.time) (writes_of es))) read.all

pub read_tracks : ReadTracksAreThePrimary
read_tracks o rest t feed read = tracks_at o rest t feed read

-- ---- a batch is joined

module _ (o : Outlook) (later : List ℕ) (t : Trace) (old : FeedState) (batch : Batch) (held : old.held ≡ Some batch) (read : HasRead o later t old) where
  joined_fed : AreFedBy t old.primary.time (joined_answer batch ∷ [])
  joined_fed =
      let time = old.primary.time in
      let upto = old.side.upto in
      let h = with_batch o later t old read batch held in
      let w = within o later t old read old.held read.is_held in
      let run_is : entries_between t time batch.upto.0 ≡ read.run =
      ap (entries_between t time) h.1 ∙ ap (filter (is_between time upto)) (sym read.all) ∙ held_between time upto read.before read.run (ahead old.side.waiting old.side.reader later) read.reported w.1 read.later in (
        (subst (λ (es : List Entry). IsBatchOf es batch) (sym run_is) h.0, ap (has_broken t) h.1 ∙ read.unbroken),
        tt,
      )

  joined_read : (primary : PrimaryState) → TakesBatch batch old.primary primary → HasRead o later t (record old { primary = primary; held = None })
  joined_read primary takes =
      let h = with_batch o later t old read batch held in
      let w = within o later t old read old.held read.is_held in
      let time : primary.time ≡ old.side.upto = takes.time ∙ h.1 in
      record {
        rise = read.rise;
        before = read.before ++ read.run;
        run = [];
        all = ap (λ (es : List Entry). es ++ ahead old.side.waiting old.side.reader later) (append-nil (read.before ++ read.run)) ∙ read.all;
        is_held = (refl, time);
        reported = all_append (is_up_to primary.time) read.before read.run (up_to_more old.primary.time primary.time read.before (let low = w.0 in omega (arith, low, time)) read.reported)
            (all_more (is_between old.primary.time old.side.upto) (is_up_to primary.time) read.run
            (λ e is. le-leb (stamp_of e) primary.time (let l = leb-true (stamp_of e) old.side.upto (and_parts (nat_lt old.primary.time (stamp_of e)) (nat_le (stamp_of e) old.side.upto) is).1 in omega (arith, l, time))) w.1);
        later = read.later;
        tracks = λ v x.
            let base = base_in t.header.base v x in
            let on : Write → Bool = is_on v x in
            takes.tracks v x
            ∙ ap (λ (recs : List Rec). after_writes recs (filter on batch.writes)) (read.tracks v x)
            ∙ sym (after_then base (filter on (writes_of read.before)) (filter on batch.writes))
            ∙ ap (λ (ws : List Write). after_writes base (filter on (writes_of read.before) ++ filter on ws)) h.0.writes
            ∙ ap (after_writes base) (sym (filter-append on (writes_of read.before) (writes_of read.run)))
            ∙ ap (λ (ws : List Write). after_writes base (filter on ws)) (sym (writes_then read.before read.run));
        ends_so = read.ends_so;
        break_ahead = read.break_ahead;
        unbroken = read.unbroken;
      }

-- ---- a batch is handed over

module _ (before now : Option (List ℕ)) (limit : ℕ) (old : FeedState) (side : SidefileState) (idle : IsIdle old) where
  module _ (batch : Batch) (h : HandsOver before now limit old.side side (hands.Batch batch)) (bytes : List ℕ) (there : IsAhead old.side.reader before bytes) where
    pub handed_read : (o : Outlook) (t : Trace) (later : List ℕ) → IsStillToCome o (h.due bytes there).1.rest later → MayTurnOut o later None side.reader.stopped → HasRead o ((h.due bytes there).1.used ++ later) t old
        → HasRead o later t (record old { side = side; held = Some batch })
    handed_read o t later come turn read =
        let d = h.due bytes there in
        let was = d.1.used ++ later in
        let cause = cause_of t.end in
        let v = leaves o t old.side.control limit now old.side side bytes later (hands.Batch batch) d.0 d.1 come turn read.ends_so in
        let entries = ahead old.side.waiting old.side.reader was in
        let next = ahead side.waiting side.reader later in
        let r = takes_run old.side.control limit old.side.upto cause entries next batch read.later v.hand_is v.runs_left in
        let rises : do_rise 0 next ≡ true = rise_after 0 r.run next (subst (λ (es : List Entry). do_rise 0 es ≡ true) r.split (rising o was t old read)) in
        let after : do_rise (batch.upto.0 + 1) next ≡ true = above_rises batch.upto.0 next rises r.above in
        let even : old.primary.time ≡ old.side.upto = (with_none o was t old read idle.none).1 in
        let upto = h.upto in
        let same : break_in cause (runs next) ≡ break_of t = r.same ∙ read.break_ahead in
        record {
          rise = read.rise;
          before = read.before;
          run = r.run;
          all = append_assoc read.before r.run next ∙ ap (λ (es : List Entry). read.before ++ es) (sym r.split) ∙ ap (λ (es : List Entry). es ++ entries) (sym (append-nil read.before)) ∙ all_read o was t old read idle.none;
          is_held = (
            r.is,
            sym upto,
            let low = r.later in omega (arith, even, upto, low),
            subst (λ (n : ℕ). list_all (is_between n side.upto) r.run ≡ true) (sym even) (subst (λ (n : ℕ). list_all (is_between old.side.upto n) r.run ≡ true) (sym upto) r.within),
          );
          reported = read.reported;
          later = subst (λ (n : ℕ). do_rise (n + 1) next ≡ true) (sym upto) after;
          tracks = read.tracks;
          ends_so = v.ends_so;
          break_ahead = same;
          unbroken = ap (has_broken t) upto ∙ ap (λ (b : Option Break). is_below (option_map (λ x. x.upto) b) batch.upto.0) (sym same) ∙ above_unbroken batch.upto.0 cause next after r.clean;
        }

  -- ---- the limit

  module _ (h : HandsOver before now limit old.side side hands.AtLimit) (low : old.side.upto ≤ limit) (bytes : List ℕ) (there : IsAhead old.side.reader before bytes) where
    passed_read : (k : ℕ) (at : Stamp) → at.0 ≡ limit → (o : Outlook) (t : Trace) (later : List ℕ) → IsStillToCome o (h.due bytes there).1.rest later → MayTurnOut o later None side.reader.stopped
        → HasRead o ((h.due bytes there).1.used ++ later) t old → AreFedBy t old.primary.time (raised_answer k at ∷ []) × HasRead o later t (record old { side = side; primary = primary_at limit old.primary })
    passed_read k at is o t later come turn read =
        let d = h.due bytes there in
        let was = d.1.used ++ later in
        let cause = cause_of t.end in
        let v = leaves o t old.side.control limit now old.side side bytes later hands.AtLimit d.0 d.1 come turn read.ends_so in
        let entries = ahead old.side.waiting old.side.reader was in
        let next = ahead side.waiting side.reader later in
        let same : next ≡ entries = same_runs next entries v.runs_left in
        let w = waits_above old.side.control limit cause entries v.hand_is in
        let after : do_rise (limit + 1) entries ≡ true = above_rises limit entries (rising o was t old read) w.above in
        let even : old.primary.time ≡ old.side.upto = (with_none o was t old read idle.none).1 in
        let upto = h.upto in
        let all = all_read o was t old read idle.none in
        let unbroken : has_broken t limit ≡ false = ap (λ (b : Option Break). is_below (option_map (λ x. x.upto) b) limit) (sym read.break_ahead) ∙ above_unbroken limit cause entries after w.clean in
        let none : entries_between t old.primary.time limit ≡ [] = ap (filter (is_between old.primary.time limit)) (sym all) ∙ none_between old.primary.time limit read.before entries read.reported after in (
          (
            (subst (λ (n : ℕ). entries_between t old.primary.time n ≡ []) (sym is) none, subst (λ (n : ℕ). has_broken t n ≡ false) (sym is) unbroken),
            tt,
          ),
          record {
            rise = read.rise;
            before = read.before;
            run = [];
            all = ap (λ (es : List Entry). (read.before ++ []) ++ es) same ∙ all;
            is_held = subst (λ (b : Option Batch). IsHeldRun b [] limit side.upto) (sym idle.none) (refl, sym upto);
            reported = up_to_more old.primary.time limit read.before (omega (arith, even, low)) read.reported;
            later = subst (λ (n : ℕ). do_rise (n + 1) next ≡ true) (sym upto) (subst (λ (es : List Entry). do_rise (limit + 1) es ≡ true) (sym same) after);
            tracks = read.tracks;
            ends_so = v.ends_so;
            break_ahead = ap (λ (es : List Entry). break_in cause (runs es)) same ∙ read.break_ahead;
            unbroken = ap (has_broken t) upto ∙ unbroken;
          },
        )

  -- ---- a break

  broken_read : (k : ℕ) (cause : Cause) (upto : Stamp) (o : Outlook) (t : Trace) (bytes : List ℕ) (read : HasRead o bytes t old)
      → hands.Broken cause upto ≡ hand old.side.control (cause_of t.end) limit (runs (ahead old.side.waiting old.side.reader bytes)) → (next : FeedState) → next.primary ≡ primary_at upto.0 old.primary
      → AreFedBy t old.primary.time (broken_answer k upto cause ∷ []) × HasBroken t cause upto.0 next
  broken_read k cause upto o t bytes read is next primary =
      let entries = ahead old.side.waiting old.side.reader bytes in
      let g = gives_up old.side.control limit old.side.upto (cause_of t.end) entries cause upto read.later is in
      let break_is : break_of t ≡ Some (record { cause = cause; upto = upto.0 }) = sym read.break_ahead ∙ g.break_is in
      let even : old.primary.time ≡ old.side.upto = (with_none o bytes t old read idle.none).1 in
      let below : nat_lt upto.0 old.side.upto ≡ false = ap (λ (b : Option Break). is_below (option_map (λ x. x.upto) b) old.side.upto) (sym break_is) ∙ read.unbroken in
      let low : old.primary.time ≤ upto.0 = (let l = ltb-false upto.0 old.side.upto below in omega (arith, l, even)) in
      let all = all_read o bytes t old read idle.none in
      let none : entries_between t old.primary.time upto.0 ≡ [] = ap (filter (is_between old.primary.time upto.0)) (sym all) ∙ none_between old.primary.time upto.0 read.before entries read.reported g.later in (
        ((none, break_is), tt),
        record {
          time = ap (λ (p : PrimaryState). p.time) primary;
          is = break_is;
          tracks = λ v x.
              ap (λ (p : PrimaryState). track_of p v x) primary
              ∙ read.tracks v x
              ∙ ap (after_writes (base_in t.header.base v x)) (sym (up_to_later v x old.primary.time upto.0 read.before entries low read.reported g.later))
              ∙ ap (λ (es : List Entry). after_writes (base_in t.header.base v x) (filter (is_write_up_to v x upto.0) (writes_of es))) all;
        },
      )

  -- the feed after a break
  abbrev after_break : (cause : Cause) → (upto : Stamp) → FeedState
  after_break cause upto = record old { side = side; primary = primary_at upto.0 old.primary; halted = Some (halts.Broken cause upto) }

  -- by a fault of the source
  broken_by_fault : (k : ℕ) (upto : Stamp) → HandsOver before now limit old.side side (hands.Broken ReadFault upto) → (bytes : List ℕ) → IsAhead old.side.reader before bytes
      → ReadsBytes now old (after_break ReadFault upto) (broken_answer k upto ReadFault ∷ []) bytes
  broken_by_fault k upto h bytes there =
      let d = h.due bytes there in
      record {
        used = d.front;
        rest = d.left;
        split = d.split;
        left = d.told;
        could = could d.front d.went_on;
        fails = λ later none. subst (λ (x : Option Halt). IsToFail (d.front ++ later) x old.side.reader) (sym idle.goes_on)
            (d.went_on, subst (λ (b : List ℕ). IsFault old.side.reader b) (sym (append-nil d.front) ∙ ap (λ (x : List ℕ). d.front ++ x) (sym none)) d.fault);
        reads = reads d.front d.left d.hand;
      }
    where
      could : (front : List ℕ) → old.side.reader.stopped ≡ None → (o : Outlook) (later : List ℕ) → MayTurnOut o later (Some (halts.Broken ReadFault upto)) side.reader.stopped → MayTurnOut o (front ++ later) old.halted old.side.reader.stopped
      could front stopped Whole later turn = absurd turn
      could front stopped Failing later turn = subst (λ (x : Option Halt). MayTurnOut Failing (front ++ later) x old.side.reader.stopped) (sym idle.goes_on) stopped

      reads : (front left : List ℕ) → hands.Broken ReadFault upto ≡ hand old.side.control (Some ReadFault) limit (runs (ahead old.side.waiting old.side.reader front)) → (o : Outlook) (t : Trace) (later : List ℕ)
          → IsStillToCome o left later → MayTurnOut o later (Some (halts.Broken ReadFault upto)) side.reader.stopped → HasRead o (front ++ later) t old → Went o later t old (after_break ReadFault upto) (broken_answer k upto ReadFault ∷ [])
      reads front left is Whole t later come turn read = absurd turn
      reads front left is Failing t later come turn read =
          let all : front ++ later ≡ front = ap (λ (x : List ℕ). front ++ x) turn ∙ append-nil front in
          let fault : Some ReadFault ≡ cause_of t.end = ap cause_of (sym read.ends_so) in
          let given : hands.Broken ReadFault upto ≡ hand old.side.control (cause_of t.end) limit (runs (ahead old.side.waiting old.side.reader (front ++ later))) =
          is ∙ ap (λ (c : Option Cause). hand old.side.control c limit (runs (ahead old.side.waiting old.side.reader front))) fault
          ∙ ap (λ (b : List ℕ). hand old.side.control (cause_of t.end) limit (runs (ahead old.side.waiting old.side.reader b))) (sym all) in
          let b = broken_read k ReadFault upto Failing t (front ++ later) read given (after_break ReadFault upto) refl in
          record { fed = b.0; stands = b.1 }

  -- A break by the trace itself can't come where its source is to fail.
  abbrev IsOfTrace : Cause → Type 0
  IsOfTrace cause = (upto : Stamp) (o : Outlook) (later : List ℕ) → MayTurnOut o later (Some (halts.Broken cause upto)) side.reader.stopped → o ≡ Whole

  broken_by_trace : (k : ℕ) (cause : Cause) (upto : Stamp) → IsOfTrace cause → ((rest : List ℕ) → AreLeft now (Some (halts.Broken cause upto)) side.reader rest)
      → ((bytes : List ℕ) → IsAhead old.side.reader before bytes → IsHand old.side.control limit (front_of old.side) bytes (hands.Broken cause upto)) → (bytes : List ℕ) → IsAhead old.side.reader before bytes
      → ReadsBytes now old (after_break cause upto) (broken_answer k upto cause ∷ []) bytes
  broken_by_trace k cause upto of left due bytes there =
      record {
        used = bytes;
        rest = [];
        split = sym (append-nil bytes);
        left = left [];
        could = λ o later turn. subst (λ (x : Outlook). MayTurnOut x (bytes ++ later) old.halted old.side.reader.stopped) (sym (of upto o later turn))
            (subst (λ (x : Option Halt). MayTurnOut Whole (bytes ++ later) x old.side.reader.stopped) (sym idle.goes_on) tt);
        fails = λ later fails. absurd (let e : Failing ≡ Whole = of upto Failing later (may_fail later (Some (halts.Broken cause upto)) side.reader fails) in cc e);
        reads = λ o t later come turn read. reads o (of upto o later turn) t later come read;
      }
    where
      reads : (o : Outlook) → o ≡ Whole → (t : Trace) (later : List ℕ) → IsStillToCome o [] later → HasRead o (bytes ++ later) t old → Went o later t old (after_break cause upto) (broken_answer k upto cause ∷ [])
      reads Whole is t later come read =
          let all : bytes ≡ bytes ++ later = sym (append-nil bytes) ∙ ap (λ (x : List ℕ). bytes ++ x) (sym come) in
          let ends : cause_ahead old.side.reader bytes ≡ cause_of t.end = ap (cause_ahead old.side.reader) all ∙ read.ends_so in
          let given : hands.Broken cause upto ≡ hand old.side.control (cause_of t.end) limit (runs (ahead old.side.waiting old.side.reader (bytes ++ later))) =
          due bytes there ∙ ap (λ (c : Option Cause). hand old.side.control c limit (runs (ahead old.side.waiting old.side.reader bytes))) ends
          ∙ ap (λ (b : List ℕ). hand old.side.control (cause_of t.end) limit (runs (ahead old.side.waiting old.side.reader b))) all in
          let b = broken_read k cause upto Whole t (bytes ++ later) read given (after_break cause upto) refl in
          record { fed = b.0; stands = b.1 }
      reads Failing is t later come read = absurd (cc is)

  bad_is_of_trace : (place : ℕ) → IsOfTrace (BadTrace place)
  bad_is_of_trace place upto Whole later turn = refl
  bad_is_of_trace place upto Failing later turn = absurd turn

  crowded_is_of_trace : (stamp : Stamp) → IsOfTrace (Crowded stamp)
  crowded_is_of_trace stamp upto Whole later turn = refl
  crowded_is_of_trace stamp upto Failing later turn = absurd turn

  broken_bytes : (k : ℕ) (cause : Cause) (upto : Stamp) → HandsOver before now limit old.side side (hands.Broken cause upto) → (bytes : List ℕ) → IsAhead old.side.reader before bytes
      → ReadsBytes now old (after_break cause upto) (broken_answer k upto cause ∷ []) bytes
  broken_bytes k ReadFault upto h bytes there = broken_by_fault k upto h bytes there
  broken_bytes k (BadTrace place) upto h bytes there = broken_by_trace k (BadTrace place) upto (bad_is_of_trace place) (λ rest. tt) h.due bytes there
  broken_bytes k (Crowded stamp) upto h bytes there = broken_by_trace k (Crowded stamp) upto (crowded_is_of_trace stamp) (λ rest. tt) h.due bytes there

-- ---- steps

-- a step from a feed that reads on
goes_from : (before now : Option (List ℕ)) (old new : FeedState) (gained : List Answer) → old.halted ≡ None → (halt : Halt) → old.halted ≡ Some halt → (new ≡ old) × (gained ≡ []) × (now ≡ before)
goes_from before now old new gained goes halt is = absurd (no_halt old.halted halt goes is)

match_both : (b : Bool) (P Q : Type 0) → P → Q → MatchBool b P Q
match_both true P Q p q = p
match_both false P Q p q = q

cond_same : (b : Bool) (n : ℕ) → cond b n n ≡ n
cond_same true n = refl
cond_same false n = refl

-- no outlook but a whole trace where there was no memory
of_no_memory : (o : Outlook) (later used : List ℕ) (old : FeedState) (stopped : Option Stopped) → old.halted ≡ None → MayTurnOut o later (Some halts.NoMemory) stopped → MayTurnOut o (used ++ later) old.halted old.side.reader.stopped
of_no_memory Whole later used old stopped goes turn = subst (λ (x : Option Halt). MayTurnOut Whole (used ++ later) x old.side.reader.stopped) (sym goes) tt
of_no_memory Failing later used old stopped goes turn = absurd turn

-- A step that asks the source for nothing, and leaves the sidefile as it was.
still_reads : (before now : Option (List ℕ)) (old new : FeedState) (gained : List Answer) → old.halted ≡ None → now ≡ before → new.halted ≡ None → new.side ≡ old.side
    → ((o : Outlook) (t : Trace) (later : List ℕ) → HasRead o later t old → AreFedBy t old.primary.time gained × HasRead o later t new) → (bytes : List ℕ) → IsAhead old.side.reader before bytes → ReadsBytes now old new gained bytes
still_reads before now old new gained goes same still side reads bytes there = record {
  used = [];
  rest = bytes;
  split = refl;
  left = subst (λ (x : Option Halt). AreLeft now x new.side.reader bytes) (sym still)
      (subst (λ (s : SidefileState). IsAhead s.reader now bytes) (sym side) (subst (λ (n : Option (List ℕ)). IsAhead old.side.reader n bytes) (sym same) there));
  could = λ o later turn. subst (λ (x : Option Halt). MayTurnOut o later x old.side.reader.stopped) (still ∙ sym goes) (subst (λ (s : SidefileState). MayTurnOut o later new.halted s.reader.stopped) side turn);
  fails = λ later fails. subst (λ (x : Option Halt). IsToFail later x old.side.reader) (still ∙ sym goes) (subst (λ (s : SidefileState). IsToFail later new.halted s.reader) side fails);
  reads = λ o t later come turn read.
      let r = reads o t later read in
      record { fed = r.0; stands = subst (λ (x : Option Halt). StandsSo o later t new x) (sym still) r.1 };
}

-- A step that hands over, and reads on.
abbrev pub hands_on : (before now : Option (List ℕ)) (limit : ℕ) (old new : FeedState) (gained : List Answer) (given : Hand) → old.halted ≡ None → new.halted ≡ None → (bytes : List ℕ)
    → (l : LeavesRuns old.side.control limit now (front_of old.side) (front_of new.side) bytes given)
    → ((o : Outlook) (t : Trace) (later : List ℕ) → IsStillToCome o l.rest later → MayTurnOut o later None new.side.reader.stopped → HasRead o (l.used ++ later) t old → AreFedBy t old.primary.time gained × HasRead o later t new)
    → ReadsBytes now old new gained bytes
hands_on before now limit old new gained given goes still bytes l reads = record {
  used = l.used;
  rest = l.rest;
  split = l.split;
  left = subst (λ (x : Option Halt). AreLeft now x new.side.reader l.rest) (sym still) l.there;
  could = λ o later turn. subst (λ (x : Option Halt). MayTurnOut o (l.used ++ later) x old.side.reader.stopped) (sym goes)
      (could_turn_out o old.side.control limit now old.side new.side bytes later given l (subst (λ (x : Option Halt). MayTurnOut o later x new.side.reader.stopped) still turn));
  fails = λ later fails.
      let then : IsToFail later None new.side.reader = subst (λ (x : Option Halt). IsToFail later x new.side.reader) still fails in
      subst (λ (x : Option Halt). IsToFail (l.used ++ later) x old.side.reader) (sym goes) (l.went_on then.0, (l.fronts then.0 later).fault then.1);
  reads = λ o t later come turn read.
      let r = reads o t later come (subst (λ (x : Option Halt). MayTurnOut o later x new.side.reader.stopped) still turn) read in
      record { fed = r.0; stands = subst (λ (x : Option Halt). StandsSo o later t new x) (sym still) r.1 };
}

pub steps_read_on : StepsReadOn
steps_read_on before now limit _ _ _ (Hands old side batch idle h) = record {
  stays = goes_from before now old (record old { side = side; held = Some batch }) [] idle.goes_on;
  floor = λ not. refl;
  reporting = λ goes. refl;
  told = unbroken old.halted [];
  reads = λ goes bytes there.
      let l = (h.due bytes there).1 in
      hands_on before now limit.0 old (record old { side = side; held = Some batch }) [] (hands.Batch batch) idle.goes_on idle.goes_on bytes l
      (λ o t later come turn read. (tt, handed_read before now limit.0 old side idle batch h bytes there o t later come turn read));
}
steps_read_on before now limit _ _ _ (Joins old batch primary goes held same takes) = record {
  stays = goes_from before now old (record old { primary = primary; held = None }) (joined_answer batch ∷ []) goes;
  floor = λ not. sym takes.time;
  reporting = λ goes. refl;
  told = unbroken old.halted (joined_answer batch ∷ []);
  reads = λ still. still_reads before now old (record old { primary = primary; held = None }) (joined_answer batch ∷ []) goes same goes refl
      (λ o t later read. (joined_fed o later t old batch held read, joined_read o later t old batch held read primary takes));
}
steps_read_on before now limit _ _ _ (Lacks old batch primary goes held same) = record {
  stays = goes_from before now old (record old { primary = primary; held = None; halted = Some halts.NoMemory }) (joined_answer batch ∷ []) goes;
  floor = λ not. absurd (not refl);
  reporting = λ goes. absurd cc;
  told = λ goes cause upto broke. absurd (cc broke);
  reads = λ still bytes there. record {
    used = [];
    rest = bytes;
    split = refl;
    left = tt;
    could = λ o later turn. of_no_memory o later [] old old.side.reader.stopped goes turn;
    fails = λ later fails. absurd fails;
    reads = λ o t later come turn read. record { fed = joined_fed o later t old batch held read; stands = tt };
  };
}
steps_read_on before now limit _ _ _ (Holds old batch room goes held same) = record {
  stays = goes_from before now old old (held_answer batch room ∷ []) goes;
  floor = λ not. refl;
  reporting = λ goes. refl;
  told = unbroken old.halted (held_answer batch room ∷ []);
  reads = λ still. still_reads before now old old (held_answer batch room ∷ []) goes same goes refl (λ o t later read. (tt, read));
}
steps_read_on before now limit _ _ _ (Passes old side idle h low) = record {
  stays = goes_from before now old (record old { side = side; primary = primary_at limit.0 old.primary }) (raised_answer old.side.control limit ∷ []) idle.goes_on;
  floor = λ not. refl;
  reporting = λ goes. refl;
  told = unbroken old.halted (raised_answer old.side.control limit ∷ []);
  reads = λ goes bytes there.
      let l = (h.due bytes there).1 in
      hands_on before now limit.0 old (record old { side = side; primary = primary_at limit.0 old.primary }) (raised_answer old.side.control limit ∷ []) hands.AtLimit idle.goes_on idle.goes_on bytes l
      (passed_read before now limit.0 old side idle h low bytes there old.side.control limit refl);
}
steps_read_on before now limit _ _ _ (Breaks old side cause upto idle h) = record {
  stays = goes_from before now old (record old { side = side; primary = primary_at upto.0 old.primary; halted = Some (halts.Broken cause upto) }) (broken_answer old.side.control upto cause ∷ []) idle.goes_on;
  floor = λ not. refl;
  reporting = λ goes. absurd cc;
  told = λ goes why at broke. refl;
  reads = λ goes. broken_bytes before now limit.0 old side idle old.side.control cause upto h;
}
steps_read_on before now limit _ _ _ (Wants old side idle h) = record {
  stays = goes_from before now old (record old { side = side; halted = Some halts.NoMemory }) [] idle.goes_on;
  floor = λ not. refl;
  reporting = λ goes. absurd cc;
  told = λ goes cause upto broke. absurd (cc broke);
  reads = λ goes bytes there. record {
    used = bytes;
    rest = [];
    split = sym (append-nil bytes);
    left = tt;
    could = λ o later turn. of_no_memory o later bytes old side.reader.stopped idle.goes_on turn;
    fails = λ later fails. absurd fails;
    reads = λ o t later come turn read. record { fed = tt; stands = tt };
  };
}
steps_read_on before now limit _ _ _ (Asks old k found goes same) = record {
  stays = goes_from before now old old (wanted_answer k found ∷ []) goes;
  floor = λ not. refl;
  reporting = λ goes. refl;
  told = unbroken old.halted (wanted_answer k found ∷ []);
  reads = λ still. still_reads before now old old (wanted_answer k found ∷ []) goes same goes refl (λ o t later read. (tt, read));
}
steps_read_on before now limit _ _ _ (Copies old k v x at slot reply goes same is) = record {
  stays = goes_from before now old old (copied_answer k v x at slot reply ∷ []) goes;
  floor = λ not. cond_same (has_changed reply) old.primary.time;
  reporting = λ goes. refl;
  told = unbroken old.halted (copied_answer k v x at slot reply ∷ []);
  reads = λ still. still_reads before now old old (copied_answer k v x at slot reply ∷ []) goes same goes refl
      (λ o t later read. (
        match_both (has_changed reply) _ (Unit {0}) (is ∙ tracks_at o later t old read v x, tt) tt,
        read,
      ));
}

-- ---- at the start

pub first_is_unread : NothingIsReadFirst
first_is_unread o rest t feed first entries rise ends =
    let all : ahead feed.side.waiting feed.side.reader rest ≡ t.entries = ap (λ (w : Option Entry). ahead w feed.side.reader rest) first.waiting ∙ entries in
    let even : feed.primary.time ≡ feed.side.upto = first.time ∙ sym first.upto in
    record {
      rise = rise_lower 0 1 t.entries (omega arith) rise;
      before = [];
      run = [];
      all = all;
      is_held = subst (λ (h : Option Batch). IsHeldRun h [] feed.primary.time feed.side.upto) (sym first.held) (refl, even);
      reported = refl;
      later = subst (λ (n : ℕ). do_rise (n + 1) (ahead feed.side.waiting feed.side.reader rest) ≡ true) (sym first.upto) (subst (λ (es : List Entry). do_rise 1 es ≡ true) (sym all) rise);
      tracks = first.tracks;
      ends_so = ends;
      break_ahead = ap (λ (es : List Entry). break_in (cause_of t.end) (runs es)) all;
      unbroken = ap (has_broken t) first.upto ∙ not_below_0 (break_of t);
    }
  where
    not_below_0 : (b : Option Break) → is_below (option_map (λ x. x.upto) b) 0 ≡ false
    not_below_0 None = refl
    not_below_0 (Some b) = le-ltb b.upto 0 (omega arith)
