-- One lane is opened, or its header stops the call.
use Rattle.std.proofs.Common.{◌≡◌, ◌⊎◌, inl, inr, ℕ, ◌+◌, ◌-◌, not, Bool, true, false, cond, List, [], ◌∷◌, ◌++◌, length, take, Option, Some, None, Result, Ok, Err, refl, sym, ap, subst, ◌∙◌, arith}
use Rattle.std.proofs.lemmas.Bool.{eq-eqb, le-leb, ne_eqb}
use Rattle.std.proofs.lemmas.List.{length-append}
use Rattle.std.proofs.Math.Seq.{take-append_seam}
use Rattle.xrc_edge.specs.Causes.{Rose}
use Rattle.tod_stamp.specs.Fields.{Bad, Left, place_of}
use Rattle.tod_stamp.specs.Fields.Bad.{Cut}
use Rattle.write_trace.specs.declared.header.Header.{Header}
use Rattle.write_trace.specs.declared.trace.HeaderError.{HeaderError}
use Rattle.write_trace.specs.declared.trace.HeaderError.TheVariants as header
use Rattle.write_trace.specs.declared.trace.Trace.{Trace}
use Rattle.write_trace.specs.Answers.{ReaderState}
use Rattle.write_trace.specs.WholeTraces.{after_header, bad_start, entries_from, most_bytes, trace_of, whole_trace}
use Rattle.write_trace.specs.Headers.{header_at, serial_place}
use Rattle.write_trace.specs.Starts.{ReadsHeader, Starts}
use Rattle.write_trace.specs.UnreadBytes.{seen}
use Rattle.mover.specs.declared.lane.Lane.{Lane}
use Rattle.xrc_status.specs.declared.stop.Stop.{Stop}
use Rattle.xrc_status.specs.declared.stop.Stop.TheVariants.{BadHeader, HeaderFault, NoMemory}
use Rattle.xrc_session.specs.Lanes.{AllTold, SourceBytes, SourceTold, trace_given}
use Rattle.xrc_session.specs.Openings.{StopsByHeaders, first_named_again, serials_in_header, stop_of_header, stop_of_headers}

-- ---- whether a source failed

-- Its count stays.
pub is_quiet : {S : Type 0} (left : S → Option (List ℕ)) (faults : S → ℕ) (before now : S) (s : SourceBytes) → SourceTold left faults before now s → faults now ≡ faults before → s.has_failed ≡ false
is_quiet left faults before now s told same = told.failed ∙ ap not (eq-eqb (faults now) (faults before) same)

-- It rose.
pub has_risen : {S : Type 0} (left : S → Option (List ℕ)) (faults : S → ℕ) (before now : S) (s : SourceBytes) → SourceTold left faults before now s → Rose (faults before) (faults now) → s.has_failed ≡ true
has_risen left faults before now s told rose = told.failed ∙ ap not (ne_eqb (faults now) (faults before) (λ same. elim rose [ inl more ↦ omega arith | inr most ↦ let below = told.below in omega arith ]))

-- ---- the trace of what a source gave

read_header : (told : List ℕ) (h : Header) (left : Left) → header_at (whole_trace told) ≡ Ok (h, left) → trace_of false told ≡ Ok (after_header false told h (entries_from (length left.bytes) h.version h.volumes 0 left))
unfolding trace_of
read_header told h left is = rw (is, trace_of) refl

bad_header : (failed : Bool) (told : List ℕ) (bad : Bad) → header_at (whole_trace told) ≡ Err bad → trace_of failed told ≡ Err (bad_start failed told bad)
unfolding trace_of
bad_header failed told bad is = rw (is, trace_of) refl

-- what a source gave that didn't fail, and one that did
pub given_whole : (s : SourceBytes) → s.has_failed ≡ false → trace_given s ≡ trace_of false s.held
given_whole s quiet = ap (λ (b : Bool). trace_of b (cond b (take (length s.held - length s.rest) s.held) s.held)) quiet

pub given_front : (s : SourceBytes) → s.has_failed ≡ true → trace_given s ≡ trace_of true (take (length s.held - length s.rest) s.held)
given_front s failed = ap (λ (b : Bool). trace_of b (cond b (take (length s.held - length s.rest) s.held) s.held)) failed

front_of_both : (given left : List ℕ) → take (length (given ++ left) - length left) (given ++ left) ≡ given
front_of_both given left = let n : length (given ++ left) - length left ≡ length given = omega (arith, length-append given left) in ap (λ (k : ℕ). take k (given ++ left)) n ∙ take-append_seam given left

module _ {S : Type 0} (left : S → Option (List ℕ)) (faults : S → ℕ) (before now : S) (s : SourceBytes) (told : SourceTold left faults before now s) where
  -- A header that was read is that of the trace.
  pub trace_read : (head : Header) (reader : ReaderState) → ReadsHeader (left before) (left now) head reader → faults now ≡ faults before → (t : Trace) × (trace_given s ≡ Ok t) × (t.header ≡ head)
  trace_read head reader reads same =
      let (rest, there, is, long) = reads.reads s.held told.held in
      let after = seen reader.left.place rest in (
        after_header false s.held head (entries_from (length after.bytes) head.version head.volumes 0 after),
        given_whole s (is_quiet left faults before now s told same) ∙ read_header s.held head after is,
        refl,
      )

  -- An error is why the trace's header is refused.
  pub trace_refused : (error : HeaderError) → Starts (left before) (left now) (faults before) (faults now) (Err error) → (error ≡ header.NoMemory) ⊎ (trace_given s ≡ Err error)
  trace_refused (header.BadHeader place) starts =
      let (bad, is, at) = starts.0 s.held told.held in
      inr (given_whole s (is_quiet left faults before now s told starts.1) ∙ bad_header false s.held bad is ∙ ap (λ (e : HeaderError). Err e) (not_fault s.held bad ∙ ap header.BadHeader at))
    where
      not_fault : (given : List ℕ) (bad : Bad) → bad_start false given bad ≡ header.BadHeader (place_of bad)
      not_fault given (Cut place) = refl
      not_fault given bad = refl
  trace_refused header.HeaderFault starts =
      let (given, ends) = starts.0 s.held s.rest told.held told.rest in
      let failed = has_risen left faults before now s told starts.1 in
      let front = ap (λ (l : List ℕ). take (length l - length s.rest) l) ends.all ∙ front_of_both given s.rest in
      inr (given_front s failed ∙ ap (trace_of true) front ∙ bad_header true given (Cut ends.cut.0) ends.cut.1 ∙ ap (λ (b : Bool). Err (cond b header.HeaderFault (header.BadHeader ends.cut.0))) (le-leb (length given) most_bytes ends.within))
  trace_refused header.NoMemory starts = inl refl

-- ---- the stop by one header

pub stop_refused : (k : ℕ) (named : List (List ℕ)) (s : SourceBytes) (sources : List SourceBytes) (error : HeaderError) → trace_given s ≡ Err error → stop_of_headers k named (s ∷ sources) ≡ Some (stop_of_header k error)
stop_refused k named s sources error is = rw (is, stop_of_headers) refl

pub stop_again : (k : ℕ) (named : List (List ℕ)) (s : SourceBytes) (sources : List SourceBytes) (t : Trace) (v : ℕ) → trace_given s ≡ Ok t → first_named_again named 0 t.header.volumes ≡ Some v
    → stop_of_headers k named (s ∷ sources) ≡ Some (BadHeader k (serial_place t.header.version v))
stop_again k named s sources t v is again = rw (is, again, stop_of_headers) refl

pub stop_passed : (k : ℕ) (named : List (List ℕ)) (s : SourceBytes) (sources : List SourceBytes) (t : Trace) → trace_given s ≡ Ok t → first_named_again named 0 t.header.volumes ≡ None
    → stop_of_headers k named (s ∷ sources) ≡ stop_of_headers (k + 1) (named ++ serials_in_header t.header.volumes) sources
stop_passed k named s sources t is fresh = rw (is, fresh, stop_of_headers) refl

-- ---- one lane

-- There is one source.
one_source : {S : Type 0} (left : S → Option (List ℕ)) (faults : S → ℕ) (before opened : Lane S) (sources : List SourceBytes) → AllTold left faults (before ∷ []) (opened ∷ []) sources
    → (s : SourceBytes) × (sources ≡ s ∷ []) × SourceTold left faults before.source opened.source s
one_source left faults before opened [] told = absurd (let many = told.many in omega arith)
one_source left faults before opened (s ∷ []) told = (s, refl, told.each 0 before s refl)
one_source left faults before opened (s ∷ t ∷ more) told = absurd (let many = told.many in omega arith)

-- What is due by the one source is due by the lane.
by_source : {S : Type 0} (left : S → Option (List ℕ)) (faults : S → ℕ) (k : ℕ) (named : List (List ℕ)) (before opened : Lane S) (e : Option Stop)
    → ((s : SourceBytes) → SourceTold left faults before.source opened.source s → stop_of_headers k named (s ∷ []) ≡ e) → (sources : List SourceBytes) → AllTold left faults (before ∷ []) (opened ∷ []) sources → stop_of_headers k named sources ≡ e
by_source left faults k named before opened e due sources told = let (s, is, its) = one_source left faults before opened sources told in ap (stop_of_headers k named) is ∙ due s its

module _ {S T : Type 0} (left : S → Option (List ℕ)) (faults : S → ℕ) (k : ℕ) (named : List (List ℕ)) where
  -- Memory was wanting.
  pub stops_for_memory : (before now : List (Lane S)) (result : Result T Stop) → result ≡ Err NoMemory → StopsByHeaders left faults k named before now result
  stops_for_memory before now result is = record { due = λ sources stop told due. inr is; stops = λ sources stop told stopped. inl (cc (is, stopped)) }

  -- The stop is the one that is due.
  pub stops_exactly : (before now : List (Lane S)) (result : Result T Stop) (e : Stop) → result ≡ Err e → ((sources : List SourceBytes) → AllTold left faults before now sources → stop_of_headers k named sources ≡ Some e) → StopsByHeaders left faults k named before now result
  stops_exactly before now result e is exact = record {
    due = λ sources stop told due. inl (let same = exact sources told in cc (is, due, same));
    stops = λ sources stop told stopped. inr (exact sources told ∙ (let same : e ≡ stop = cc (is, stopped) in ap (λ (x : Stop). Some x) same));
  }

  -- None is due.
  pub stops_never : (before now : List (Lane S)) (x : T) → ((sources : List SourceBytes) → AllTold left faults before now sources → stop_of_headers k named sources ≡ None) → (let result : Result T Stop = Ok x in StopsByHeaders left faults k named before now result)
  stops_never before now x none = record { due = λ sources stop told due. absurd (let same = none sources told in cc (due, same)); stops = λ sources stop told stopped. absurd (cc stopped) }

  module _ (before opened : Lane S) where
    -- The header can't be read.
    pub lane_refused : (result : Result T Stop) (error : HeaderError) → Starts (left before.source) (left opened.source) (faults before.source) (faults opened.source) (Err error) → result ≡ Err (stop_of_header k error)
        → StopsByHeaders left faults k named (before ∷ []) (opened ∷ []) result
    lane_refused result header.NoMemory starts is = stops_for_memory (before ∷ []) (opened ∷ []) result is
    lane_refused result (header.BadHeader place) starts is = stops_exactly (before ∷ []) (opened ∷ []) result (BadHeader k place) is (by_source left faults k named before opened (Some (BadHeader k place)) (λ s told. of s (trace_refused left faults before.source opened.source s told (header.BadHeader place) starts)))
      where
        of : (s : SourceBytes) → (header.BadHeader place ≡ header.NoMemory) ⊎ (trace_given s ≡ Err (header.BadHeader place)) → stop_of_headers k named (s ∷ []) ≡ Some (BadHeader k place)
        of s (inl none) = absurd (cc none)
        of s (inr is) = stop_refused k named s [] (header.BadHeader place) is
    lane_refused result header.HeaderFault starts is = stops_exactly (before ∷ []) (opened ∷ []) result (HeaderFault k) is (by_source left faults k named before opened (Some (HeaderFault k)) (λ s told. of s (trace_refused left faults before.source opened.source s told header.HeaderFault starts)))
      where
        of : (s : SourceBytes) → (header.HeaderFault ≡ header.NoMemory) ⊎ (trace_given s ≡ Err header.HeaderFault) → stop_of_headers k named (s ∷ []) ≡ Some (HeaderFault k)
        of s (inl none) = absurd (cc none)
        of s (inr is) = stop_refused k named s [] header.HeaderFault is

    module _ (head : Header) (reader : ReaderState) (reads : ReadsHeader (left before.source) (left opened.source) head reader) (quiet : faults opened.source ≡ faults before.source) where
      -- It was read, and a serial is named again.
      pub lane_again : (result : Result T Stop) (v : ℕ) (stop : Stop) → first_named_again named 0 head.volumes ≡ Some v → stop ≡ BadHeader k (serial_place head.version v) → result ≡ Err stop → StopsByHeaders left faults k named (before ∷ []) (opened ∷ []) result
      lane_again result v stop again same is =
          stops_exactly (before ∷ []) (opened ∷ []) result (BadHeader k (serial_place head.version v)) (is ∙ ap (λ (e : Stop). Err e) same) (by_source left faults k named before opened (Some (BadHeader k (serial_place head.version v))) (λ s told.
          let (t, its, headed) = trace_read left faults before.source opened.source s told head reader reads quiet in
          stop_again k named s [] t v its (ap (λ (h : Header). first_named_again named 0 h.volumes) headed ∙ again) ∙ ap (λ (h : Header). Some (BadHeader k (serial_place h.version v))) headed))

      -- It was read, and none is.
      pub lane_passes : (x : T) → first_named_again named 0 head.volumes ≡ None → (let result : Result T Stop = Ok x in StopsByHeaders left faults k named (before ∷ []) (opened ∷ []) result)
      lane_passes x fresh =
          stops_never (before ∷ []) (opened ∷ []) x (by_source left faults k named before opened None (λ s told.
          let (t, its, headed) = trace_read left faults before.source opened.source s told head reader reads quiet in
          stop_passed k named s [] t its (ap (λ (h : Header). first_named_again named 0 h.volumes) headed ∙ fresh)))

-- So it is of the lane that has its reader.
pub lane_passes_on : {S T : Type 0} (left : S → Option (List ℕ)) (faults : S → ℕ) (k : ℕ) (named : List (List ℕ)) (before opened : Lane S) (source : S) (head : Header) (reader : ReaderState) (x : T) → opened.source ≡ source
    → ReadsHeader (left before.source) (left source) head reader → faults source ≡ faults before.source → first_named_again named 0 head.volumes ≡ None → (let result : Result T Stop = Ok x in StopsByHeaders left faults k named (before ∷ []) (opened ∷ []) result)
lane_passes_on left faults k named before opened source head reader x is reads quiet fresh =
    lane_passes left faults k named before opened head reader (subst (λ s. ReadsHeader (left before.source) (left s) head reader) (sym is) reads) (ap faults is ∙ quiet) x fresh
