-- What sources give after headers that were read turns out to be traces of the lanes.
use Rattle.std.proofs.Common.{◌≡◌, ◌≢◌, inl, inr, ℕ, zero, suc, ◌+◌, ◌<◌, ◌≤◌, not, Bool, true, nat_le, List, [], ◌∷◌, ◌++◌, length, take, get_or, Option, Some, None, Result, Ok, refl, sym, ap, subst, ◌∙◌, append-nil, arith, slice_get}
use Rattle.std.specs.Prelude.{IsSomeAnd}
use Rattle.std.specs.List.{list_all}
use Rattle.std.proofs.lemmas.Bool.{and_from, and_parts, cases_eq, le-leb, leb-true, ne_eqb}
use Rattle.std.proofs.lemmas.List.{length-append, length-map}
use Rattle.std.proofs.lemmas.Option.{slice_get_within}
use Rattle.std.proofs.Math.Seq.{take-append_seam}
use Rattle.ckd_track.specs.declared.write.Cause.TheVariants.{BadTrace, Crowded, ReadFault}
use Rattle.ckd_track.specs.Writes.{writes_never_fall}
use Rattle.tod_stamp.specs.declared.stamp.Stamp.{Stamp}
use Rattle.write_trace.specs.declared.entry.Entry.{Entry}
use Rattle.write_trace.specs.declared.entry.Entry.TheVariants.{Idle, Written}
use Rattle.write_trace.specs.declared.header.Header.{Header}
use Rattle.write_trace.specs.declared.next.Stopped.{Stopped}
use Rattle.write_trace.specs.declared.trace.HeaderError.{HeaderError}
use Rattle.write_trace.specs.declared.trace.Trace.{Trace}
use Rattle.write_trace.specs.Entries.{stamp_of}
use Rattle.write_trace.specs.Starts.{ReadsHeader}
use Rattle.write_trace.specs.Writes.{writes_of}
use Rattle.primary_ctl.specs.Primaries.{none_falls}
use Rattle.primary_ctl.specs.States.{PrimaryState}
use Rattle.sidefile.specs.declared.hand.Halt.{Halt}
use Rattle.sidefile.specs.declared.hand.Halt.TheVariants as halts
use Rattle.sidefile.specs.AheadEntries.{IsAhead}
use Rattle.sidefile.specs.States.{SidefileState}
use Rattle.group_state.specs.Runs.{Answer}
use Rattle.fed_logs.specs.FeedLaws.{ComeSo, IsAfterHeader}
use Rattle.fed_logs.specs.LaneFeeds.{FeedState}
use Rattle.fed_logs.specs.Reads.{AreLeft, HasRead, IsToFail, MayTurnOut, ReadsBytes, ReadsOn, do_rise}
use Rattle.fed_logs.specs.Reads.Outlook.{Failing, Whole}
use Rattle.fed_logs.specs.Reporters.{HasFaultBy}
use Rattle.fed_logs.proofs.Beginning.{headers_begin_traces}
use Rattle.mover.specs.declared.lane.Lane.{Lane}
use Rattle.mover.specs.Epochs.{AllTurnOut, LaneWent, TurnsOut}
use Rattle.mover.specs.Lanes.{HadBroken, HasFaultFrom, first_reader, reader_in}
use Rattle.mover.specs.Moves.{most_faults}
use Rattle.mover.specs.Readers.{LaneReaderState}
use Rattle.xrc_session.specs.Lanes.{AllTold, AllWent, AreTracesGiven, HaveHeadsOf, SourceBytes, SourceTold, TurnOutFrom, trace_given}
use Rattle.xrc_session.specs.Openings.{StayGood, first_named_again, serials_in_header}
use Rattle.xrc_session.proofs.OpenedLane.{given_front, given_whole, is_quiet}
use Rattle.xrc_session.proofs.OpenedLanes.{AllOpened, GiveHeads, IsOpened, heads_in, heads_read, none_stops, opened_at}

-- ---- stamps

writes_rise : (last : ℕ) (entries : List Entry) → do_rise last entries ≡ true → writes_never_fall last (writes_of entries) ≡ true
writes_rise last [] rise = refl
writes_rise last (Written w ∷ entries) rise =
    let parts = and_parts (nat_le last w.stamp.0) (do_rise w.stamp.0 entries) rise in
    and_from (nat_le last w.stamp.0) (writes_never_fall w.stamp.0 (writes_of entries)) parts.0 (writes_rise w.stamp.0 entries parts.1)
writes_rise last (Idle stamp ∷ entries) rise =
    let parts = and_parts (nat_le last stamp.0) (do_rise stamp.0 entries) rise in
    writes_rise last entries (lower last stamp.0 entries (leb-true last stamp.0 parts.0) parts.1)
  where
    lower : (low last : ℕ) (entries : List Entry) → low ≤ last → do_rise last entries ≡ true → do_rise low entries ≡ true
    lower low last [] less rise = refl
    lower low last (e ∷ entries) less rise =
        let parts = and_parts (nat_le last (stamp_of e)) (do_rise (stamp_of e) entries) rise in
        let above = leb-true last (stamp_of e) parts.0 in
        and_from (nat_le low (stamp_of e)) (do_rise (stamp_of e) entries) (le-leb low (stamp_of e) (omega arith)) parts.1

-- ---- how a reader halted

-- Its source failed, and its feed broke by that.
abbrev HasFailed : Option Halt → Type 0
HasFailed halted = (upto : Stamp) × (halted ≡ Some (halts.Broken ReadFault upto))

failed_by : (faults risen : ℕ) (halted : Option Halt) → HasFaultBy faults risen halted → risen ≢ faults → HasFailed halted
failed_by faults risen None by other = absurd (other by)
failed_by faults risen (Some (halts.Broken ReadFault upto)) by other = (upto, refl)
failed_by faults risen (Some (halts.Broken (BadTrace place) upto)) by other = absurd (other by)
failed_by faults risen (Some (halts.Broken (Crowded at) upto)) by other = absurd (other by)
failed_by faults risen (Some halts.NoMemory) by other = absurd (other by)

-- It may turn out whole if its source's count stays below the largest.
whole_by : (faults risen : ℕ) (later : List ℕ) (halted : Option Halt) (stopped : Option Stopped) → HasFaultBy faults risen halted → risen ≡ faults → risen < most_faults → MayTurnOut Whole later halted stopped
whole_by faults risen later None stopped by same below = tt
whole_by faults risen later (Some (halts.Broken ReadFault upto)) stopped by same below = elim by [ inl more ↦ omega arith | inr most ↦ omega arith ]
whole_by faults risen later (Some (halts.Broken (BadTrace place) upto)) stopped by same below = tt
whole_by faults risen later (Some (halts.Broken (Crowded at) upto)) stopped by same below = tt
whole_by faults risen later (Some halts.NoMemory) stopped by same below = tt

front_is : (a b c : List ℕ) → a ++ c ≡ b ++ c → a ≡ b
front_is a b c e =
    let long : length a ≡ length b = (let same = ap length e in omega (arith, length-append a c, length-append b c)) in
    sym (take-append_seam a c) ∙ ap (λ (n : ℕ). take n (a ++ c)) long ∙ ap (take (length b)) e ∙ take-append_seam b c

-- ---- one lane

-- The trace that a lane's source turned out to give.
pub record TurnedOut {S : Type 0} (left : S → Option (List ℕ)) (s : SourceBytes) (head : Header) (opened last : Lane S) (was is : LaneReaderState) : Type 0 where
  pub trace : Trace
  pub given : trace_given s ≡ Ok trace
  pub headed : trace.header ≡ head
  pub rises : writes_never_fall 0 (writes_of trace.entries) ≡ true
  pub out : TurnsOut left trace opened last was is

module _ {S : Type 0} (left : S → Option (List ℕ)) (faults : S → ℕ) (control : ℕ) (named : List (List ℕ)) (before opened last : Lane S) (o : IsOpened left faults control named before opened) (s : SourceBytes) (told : SourceTold left faults before.source last.source s)
    (run : List Answer) (is : LaneReaderState) where
  abbrev was : LaneReaderState
  was = first_reader o.side o.primary

  abbrev feed : FeedState
  feed = record { side = o.side; primary = o.primary; held = None; halted = None }

  module _ (reads_on : ReadsOn (left opened.source) (left last.source) was.feed is.feed run) (by : HasFaultBy (faults opened.source) (faults last.source) is.feed.halted) where
    -- the bytes after the header
    abbrev rest : List ℕ
    rest = (o.reads.reads s.held told.held).0

    there : IsAhead o.side.reader (left opened.source) rest
    there goes = (o.reads.reads s.held told.held).1

    after : IsAfterHeader s.held (left opened.source) o.head feed rest
    after = record { reads = subst (λ (b : Option (List ℕ)). ReadsHeader b (left opened.source) o.head o.side.reader) told.held o.reads; first = o.fresh; there = there }

    feed_is : was.feed ≡ feed
    feed_is = ap (λ (h : Option Halt). record { side = o.side; primary = o.primary; held = None; halted = h }) o.halted

    used_up : ReadsBytes (left last.source) was.feed is.feed run rest
    used_up = reads_on.reads o.halted rest there

    -- All bytes came.
    whole : faults last.source ≡ faults before.source → TurnedOut left s o.head opened last was is
    whole same =
        let begins = headers_begin_traces s.held (left opened.source) o.head feed rest after Whole rest [] refl in
        record {
          trace = begins.trace;
          given = given_whole s (is_quiet left faults before.source last.source s told same) ∙ begins.is;
          headed = begins.headed;
          rises = writes_rise 0 begins.trace.entries begins.unread.rise;
          out = record {
            outlook = Whole;
            bytes = rest;
            ahead = there;
            gave = λ used later split are_left. (
              later,
              refl,
              whole_by (faults opened.source) (faults last.source) later is.feed.halted is.feed.side.reader.stopped by (same ∙ sym o.quiet) told.below,
              subst (λ (f : FeedState). HasRead Whole (used ++ later) begins.trace f) (sym feed_is) (subst (λ (l : List ℕ). HasRead Whole l begins.trace feed) split begins.unread),
            );
          };
        }

    -- Some came, and the source failed after them.
    failing : faults last.source ≢ faults before.source → TurnedOut left s o.head opened last was is
    failing other =
        let (upto, halted) = failed_by (faults opened.source) (faults last.source) is.feed.halted by (λ same. other (same ∙ o.quiet)) in
        let bytes = used_up in
        let left_now : left last.source ≡ Some bytes.rest = subst (λ (h : Option Halt). AreLeft (left last.source) h is.feed.side.reader bytes.rest) halted bytes.left in
        let same_rest : bytes.rest ≡ s.rest = cc (left_now, told.rest) in
        let fails = bytes.fails [] (subst (λ (h : Option Halt). IsToFail [] h is.feed.side.reader) (sym halted) refl) in
        let faulty = subst (λ (h : Option Halt). IsToFail (bytes.used ++ []) h o.side.reader) o.halted fails in
        let come : ComeSo Failing o.side.reader rest (bytes.used ++ []) s.rest = (bytes.split ∙ ap (λ (l : List ℕ). bytes.used ++ l) same_rest ∙ ap (λ (l : List ℕ). l ++ s.rest) (sym (append-nil bytes.used)), faulty.1) in
        let begins = headers_begin_traces s.held (left opened.source) o.head feed rest after Failing (bytes.used ++ []) s.rest come in
        let failed = told.failed ∙ ap not (ne_eqb (faults last.source) (faults before.source) other) in
        record {
          trace = begins.trace;
          given = given_front s failed ∙ begins.is;
          headed = begins.headed;
          rises = writes_rise 0 begins.trace.entries begins.unread.rise;
          out = record {
            outlook = Failing;
            bytes = rest;
            ahead = there;
            gave = λ used later split are_left.
                let now : left last.source ≡ Some later = subst (λ (h : Option Halt). AreLeft (left last.source) h is.feed.side.reader later) halted are_left in
                let same_later : later ≡ bytes.rest = cc (now, left_now) in
                let same_used = front_is used bytes.used bytes.rest (ap (λ (l : List ℕ). used ++ l) (sym same_later) ∙ sym split ∙ bytes.split) in (
                  [],
                  tt,
                  subst (λ (h : Option Halt). MayTurnOut Failing [] h is.feed.side.reader.stopped) (sym halted) refl,
                  subst (λ (f : FeedState). HasRead Failing (used ++ []) begins.trace f) (sym feed_is) (subst (λ (l : List ℕ). HasRead Failing (l ++ []) begins.trace feed) (sym same_used) begins.unread),
                );
          };
        }

    turns_out : TurnedOut left s o.head opened last was is
    turns_out = elim (cases_eq (faults last.source) (faults before.source)) [ inl same ↦ whole same | inr other ↦ failing other ]

-- A lane's reader that went on so.
pub record WentTo {S : Type 0} (left : S → Option (List ℕ)) (s : SourceBytes) (head : Header) (side : SidefileState) (primary : PrimaryState) (opened last : Lane S) : Type 0 where
  pub is : LaneReaderState
  pub reader : reader_in last ≡ Some is
  pub turned : TurnedOut left s head opened last (first_reader side primary) is

-- A reader read on so, and its source's count rose so.
abbrev WentBy : {S : Type 0} → (left : S → Option (List ℕ)) → (faults : S → ℕ) → (run : List Answer) → (opened last : Lane S) → (was is : LaneReaderState) → Type 0
WentBy left faults run opened last was is = ReadsOn (left opened.source) (left last.source) was.feed is.feed run × HasFaultFrom was.feed.halted (faults opened.source) (faults last.source) is.feed.halted

went_to : {S : Type 0} (left : S → Option (List ℕ)) (faults : S → ℕ) (control : ℕ) (named : List (List ℕ)) (before opened last : Lane S) (o : IsOpened left faults control named before opened) (s : SourceBytes) → SourceTold left faults before.source last.source s
    → (run : List Answer) → LaneWent left faults run opened last → WentTo left s o.head o.side o.primary opened last
went_to left faults control named before opened last o s told run went =
    of (reader_in last) refl (subst (λ (r : Option LaneReaderState). IsSomeAnd r (λ was. IsSomeAnd (reader_in last) (WentBy left faults run opened last was))) o.reader went)
  where
    of : (r : Option LaneReaderState) → reader_in last ≡ r → IsSomeAnd r (WentBy left faults run opened last (first_reader o.side o.primary)) → WentTo left s o.head o.side o.primary opened last
    of None at does = absurd does
    of (Some is) at does = record {
      is = is;
      reader = at;
      turned = turns_out left faults control named before opened last o s told run is does.0 (subst (λ (h : Option Halt). HasFaultFrom h (faults opened.source) (faults last.source) is.feed.halted) o.halted does.1);
    }

-- ---- all lanes

one_trace : (a b : Trace) (r : Result Trace HeaderError) → r ≡ Ok a → r ≡ Ok b → a ≡ b
one_trace a b r e f = cc (e, f)

-- the trace that a source gave, by the place
given_at : (sources : List SourceBytes) (traces : List Trace) (k : ℕ) (t : Trace) → AreTracesGiven sources traces → slice_get traces k ≡ Some t → (s : SourceBytes) × (slice_get sources k ≡ Some s) × (trace_given s ≡ Ok t)
given_at [] [] k t are at = absurd (let less = slice_get_within [] k t at in omega arith)
given_at [] (x ∷ traces) k t are at = absurd (cc are)
given_at (s ∷ sources) [] k t are at = absurd (cc are)
given_at (s ∷ sources) (x ∷ traces) zero t are at = (s, refl, (let same : x ≡ t = cc at in cc same))
given_at (s ∷ sources) (x ∷ traces) (suc k) t are at = given_at sources traces k t (cc are) at

-- What passes a test at each place passes it in all.
all_at : {A : Type 0} (p : A → Bool) (xs : List A) → ((k : ℕ) (x : A) → slice_get xs k ≡ Some x → p x ≡ true) → list_all p xs ≡ true
all_at p [] each = refl
all_at p (x ∷ xs) each =
    and_from (p x) (list_all p xs) (each 0 x refl) (all_at p xs (λ k y at. each (suc k) y at))

same_heads : {S : Type 0} (traces : List Trace) (opened : List (Lane S)) → length traces ≡ length opened → ((k : ℕ) (t : Trace) (d : Lane S) → slice_get traces k ≡ Some t → t.header.volumes ≡ heads_in (get_or opened k d)) → HaveHeadsOf opened traces
same_heads [] [] many each = refl
same_heads [] (o ∷ opened) many each = absurd (omega arith)
same_heads (t ∷ traces) [] many each = absurd (omega arith)
same_heads (t ∷ traces) (o ∷ opened) many each =
    let first = each 0 t o refl in
    let rest = same_heads traces opened (omega arith) (λ k x d at. each (suc k) x d at) in
    cc (first, rest)

module _ {S : Type 0} (left : S → Option (List ℕ)) (faults : S → ℕ) (before opened last : List (Lane S)) (all : AllOpened left faults 0 [] before opened) (same : length opened ≡ length before) (sources : List SourceBytes) (told : AllTold left faults before last sources)
    (went : AllWent left faults opened last) where
  -- Each lane's source turned out to give a trace.
  record TurnedAt (k : ℕ) (d : Lane S) (s : SourceBytes) : Type 0 where
    named : List (List ℕ)
    o : IsOpened left faults (0 + k) named (get_or before k d) (get_or opened k d)
    to : WentTo left s o.head o.side o.primary (get_or opened k d) (get_or last k d)

  turned_at : (k : ℕ) (d : Lane S) (s : SourceBytes) → slice_get sources k ≡ Some s → TurnedAt k d s
  turned_at k d s at =
      let inside : k < length opened = (let less = slice_get_within sources k s at in let many = told.many in omega arith) in
      let (named, o) = opened_at left faults 0 [] before opened all k d inside in
      let (run, goes) = went.each k d inside in
      record { named = named; o = o; to = went_to left faults (0 + k) named (get_or before k d) (get_or opened k d) (get_or last k d) o s (told.each k d s at) run goes }

  module _ (traces : List Trace) (are : AreTracesGiven sources traces) where
    count : length traces ≡ length opened
    count = sym (length-map traces (λ t. Ok t)) ∙ ap length (sym are) ∙ length-map sources trace_given ∙ told.many ∙ sym same

    each : (k : ℕ) (t : Trace) (d : Lane S) → slice_get traces k ≡ Some t → let a = get_or opened k d in let b = get_or last k d in
        IsSomeAnd (reader_in a) (λ was. IsSomeAnd (reader_in b) (λ is. (was.feed.halted ≡ None → TurnsOut left t a b was is) × (was.feed.halted ≢ None → HadBroken t was.feed)))
    each k t d at =
        let (s, there, given) = given_at sources traces k t are at in
        let turned = turned_at k d s there in
        let same_trace = one_trace turned.to.turned.trace t (trace_given s) turned.to.turned.given given in
        let a = get_or opened k d in
        let b = get_or last k d in
        let was = first_reader turned.o.side turned.o.primary in
        subst (λ (r : Option LaneReaderState). IsSomeAnd r (λ was. IsSomeAnd (reader_in b) (λ is. (was.feed.halted ≡ None → TurnsOut left t a b was is) × (was.feed.halted ≢ None → HadBroken t was.feed)))) (sym turned.o.reader)
        (subst (λ (r : Option LaneReaderState). IsSomeAnd r (λ is. (was.feed.halted ≡ None → TurnsOut left t a b was is) × (was.feed.halted ≢ None → HadBroken t was.feed))) (sym turned.to.reader)
        (λ none. subst (λ (x : Trace). TurnsOut left x a b was turned.to.is) same_trace turned.to.turned.out, λ some. absurd (some turned.o.halted)))

    falls_at : (d : Lane S) (k : ℕ) (t : Trace) → slice_get traces k ≡ Some t → writes_never_fall 0 (writes_of t.entries) ≡ true
    falls_at d k t at =
        let (s, there, given) = given_at sources traces k t are at in
        let turned = turned_at k d s there in
        subst (λ (x : Trace). writes_never_fall 0 (writes_of x.entries) ≡ true) (one_trace turned.to.turned.trace t (trace_given s) turned.to.turned.given given) turned.to.turned.rises

    heads_at : (k : ℕ) (t : Trace) (d : Lane S) → slice_get traces k ≡ Some t → t.header.volumes ≡ heads_in (get_or opened k d)
    heads_at k t d at =
        let (s, there, given) = given_at sources traces k t are at in
        let turned = turned_at k d s there in
        ap (λ (x : Trace). x.header.volumes) (sym (one_trace turned.to.turned.trace t (trace_given s) turned.to.turned.given given)) ∙ ap (λ (h : Header). h.volumes) turned.to.turned.headed
        ∙ sym (heads_read left faults (0 + k) turned.named (get_or before k d) (get_or opened k d) turned.o)

    none_fall : none_falls traces ≡ true
    none_fall = of opened count
      where
        of : (lanes : List (Lane S)) → length traces ≡ length lanes → none_falls traces ≡ true
        of [] many = all_at (λ t. writes_never_fall 0 (writes_of t.entries)) traces (λ k t at. absurd (let less = slice_get_within traces k t at in omega arith))
        of (d ∷ lanes) many = all_at (λ t. writes_never_fall 0 (writes_of t.entries)) traces (falls_at d)

    turn_out : AllTurnOut left traces opened last × HaveHeadsOf opened traces
    turn_out = (record { many = count; falls = none_fall; each = each }, same_heads traces opened count heads_at)

-- Whatever sources turn out to give.
pub turn_out_from : {S : Type 0} (left : S → Option (List ℕ)) (faults : S → ℕ) (before opened : List (Lane S)) → AllOpened left faults 0 [] before opened → length opened ≡ length before → TurnOutFrom left faults before opened
turn_out_from left faults before opened all same = λ last sources traces told are went. turn_out left faults before opened last all same sources told went traces are

-- ---- their headers

module _ {S : Type 0} (left : S → Option (List ℕ)) (faults : S → ℕ) where
  give_later : (k : ℕ) (named : List (List ℕ)) (before opened last : List (Lane S)) (sources : List SourceBytes) → AllOpened left faults k named before opened → AllTold left faults before last sources → AllWent left faults opened last
      → GiveHeads left faults named opened sources
  give_later k named [] [] last [] all told went = tt
  give_later k named [] [] last (s ∷ sources) all told went = absurd (let many = told.many in omega arith)
  give_later k named [] (o ∷ opened) last sources all told went = absurd all
  give_later k named (b ∷ before) [] last sources all told went = absurd all
  give_later k named (b ∷ before) (o ∷ opened) [] sources all told went = absurd (let many = went.many in omega arith)
  give_later k named (b ∷ before) (o ∷ opened) (l ∷ last) [] all told went = absurd (let many = told.many in omega arith)
  give_later k named (b ∷ before) (o ∷ opened) (l ∷ last) (s ∷ sources) all told went =
      let its = all.0 in
      let (run, goes) = went.each 0 o (omega arith) in
      let to = went_to left faults k named b o l its s (told.each 0 b s refl) run goes in
      let volumes : to.turned.trace.header.volumes ≡ its.head.volumes = ap (λ (h : Header). h.volumes) to.turned.headed in (
        record { trace = to.turned.trace; given = to.turned.given; volumes = volumes ∙ sym (heads_read left faults k named b o its); apart = ap (first_named_again named 0) volumes ∙ its.apart },
        give_later (k + 1) (named ++ serials_in_header (heads_in o)) before opened last sources all.1
            (record { many = (let many = told.many in omega arith); each = λ j d t at. told.each (suc j) d t at }) (record { many = (let many = went.many in omega arith); each = λ j d less. went.each (suc j) d (omega arith) }),
      )

pub stay_good : {S : Type 0} (left : S → Option (List ℕ)) (faults : S → ℕ) (before opened : List (Lane S)) → AllOpened left faults 0 [] before opened → StayGood left faults before opened
stay_good left faults before opened all = λ last sources told went. none_stops left faults opened sources (give_later left faults 0 [] before opened last sources all told went)
