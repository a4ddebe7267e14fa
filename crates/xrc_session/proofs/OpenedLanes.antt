-- Lanes are opened one after another.
use Rattle.std.proofs.Common.{◌≡◌, ◌⊎◌, inl, inr, ℕ, zero, suc, ◌+◌, ◌<◌, ◌≤◌, List, [], ◌∷◌, ◌++◌, length, take, drop, get_or, set, Option, Some, None, Result, Ok, Err, refl, sym, ap, subst, ◌∙◌, append-nil, append_assoc, arith, slice_get}
use Rattle.std.specs.Prelude.{IsSomeAnd, IsTrue}
use Rattle.std.specs.List.{All}
use Rattle.std.proofs.lemmas.List.Elements.{All-get_or}
use Rattle.std.proofs.lemmas.List.{drop-set-lt, drop_more, length-append, length-set, length-take-le, set_split, take-append-drop, take_all, take_more, take_more_set}
use Rattle.write_trace.specs.declared.header.Header.{Header}
use Rattle.write_trace.specs.declared.header.VolumeHead.{VolumeHead}
use Rattle.write_trace.specs.declared.trace.HeaderError.{HeaderError}
use Rattle.write_trace.specs.declared.trace.Trace.{Trace}
use Rattle.write_trace.specs.Starts.{ReadsHeader}
use Rattle.pair_table.specs.declared.names.NamedVolume.{NamedVolume}
use Rattle.pair_table.specs.Naming.{Naming, none_alike}
use Rattle.primary_ctl.specs.States.{PrimaryState}
use Rattle.sidefile.specs.States.{SidefileState}
use Rattle.consistency.specs.Stages.{volumes_named}
use Rattle.fed_logs.specs.FeedLaws.{IsFirstFeed}
use Rattle.mover.specs.declared.lane.Lane.{Lane}
use Rattle.mover.specs.Readers.{LaneReaderState}
use Rattle.mover.specs.Lanes.{first_reader, reader_in}
use Rattle.xrc_status.specs.declared.stop.Stop.{Stop}
use Rattle.xrc_status.specs.declared.stop.Stop.TheVariants.{NoMemory}
use Rattle.xrc_session.specs.Lanes.{AllTold, HaveVolumes, SourceBytes, SourceTold, heads_of_reader, primaries_in, trace_given}
use Rattle.xrc_session.specs.Openings.{AreLanesOpened, AreSerialsNamed, OpensLane, StopsByHeaders, first_named_again, serials_in_header, stop_of_headers}
use Rattle.xrc_session.proofs.NamedVolumes.{volumes_of_header}
use Rattle.xrc_session.proofs.OpenedLane.{stop_again, stop_passed, stop_refused, stops_never, trace_read}

-- ---- one of the lanes

-- the volumes of the header of a lane's trace
abbrev pub heads_in : {S : Type 0} → Lane S → List VolumeHead
heads_in lane = heads_of_reader (reader_in lane)

-- A lane was opened after these serials.
pub record IsOpened {S : Type 0} (left : S → Option (List ℕ)) (faults : S → ℕ) (control : ℕ) (named : List (List ℕ)) (before opened : Lane S) : Type 0 where
  pub head : Header
  pub side : SidefileState
  pub primary : PrimaryState
  pub reader : reader_in opened ≡ Some (first_reader side primary)
  pub of_control : side.control ≡ control
  pub halted : side.halted ≡ None
  pub apart : first_named_again named 0 head.volumes ≡ None
  pub fresh : IsFirstFeed head (record { side = side; primary = primary; held = None; halted = None })
  pub reads : ReadsHeader (left before.source) (left opened.source) head side.reader
  pub quiet : faults opened.source ≡ faults before.source

abbrev pub opened_by : {S : Type 0} (left : S → Option (List ℕ)) (faults : S → ℕ) (control : ℕ) (named : List (List ℕ)) (names : Naming) (before opened : Lane S) (named_now : List (List ℕ)) (names_now : Naming)
    → OpensLane left faults control named names before opened named_now names_now → IsOpened left faults control named before opened
opened_by left faults control named names before opened named_now names_now o = record {
  head = o.head;
  side = o.side;
  primary = o.primary;
  reader = o.reader;
  of_control = o.of_control;
  halted = o.halted;
  apart = o.apart;
  fresh = o.fresh;
  reads = o.reads;
  quiet = o.quiet;
}

-- Its volumes are those of the header.
pub heads_read : {S : Type 0} (left : S → Option (List ℕ)) (faults : S → ℕ) (control : ℕ) (named : List (List ℕ)) (before opened : Lane S) (o : IsOpened left faults control named before opened) → heads_in opened ≡ o.head.volumes
heads_read left faults control named before opened o = ap heads_of_reader o.reader ∙ o.reads.volumes

-- ---- lanes in a row

-- the serials of the volumes of lanes
abbrev pub serials_of : {S : Type 0} → List (Lane S) → List (List ℕ)
serials_of [] = []
serials_of (lane ∷ lanes) = serials_in_header (heads_in lane) ++ serials_of lanes

module _ {S : Type 0} (left : S → Option (List ℕ)) (faults : S → ℕ) where
  -- Each was opened after the serials of those before it.
  abbrev pub AllOpened : (control : ℕ) → (named : List (List ℕ)) → (before opened : List (Lane S)) → Type 0
  AllOpened k named [] [] = Unit {0}
  AllOpened k named [] (o ∷ opened) = ⊥
  AllOpened k named (b ∷ before) [] = ⊥
  AllOpened k named (b ∷ before) (o ∷ opened) = IsOpened left faults k named b o × AllOpened (k + 1) (named ++ serials_in_header (heads_in o)) before opened

  -- The sources of all told these bytes.
  abbrev pub ToldAll : (before now : List (Lane S)) → List SourceBytes → Type 0
  ToldAll [] [] [] = Unit {0}
  ToldAll [] [] (s ∷ sources) = ⊥
  ToldAll [] (o ∷ now) sources = ⊥
  ToldAll (b ∷ before) [] sources = ⊥
  ToldAll (b ∷ before) (o ∷ now) [] = ⊥
  ToldAll (b ∷ before) (o ∷ now) (s ∷ sources) = SourceTold left faults b.source o.source s × ToldAll before now sources

  pub told_all : (before now : List (Lane S)) (sources : List SourceBytes) → length now ≡ length before → AllTold left faults before now sources → ToldAll before now sources
  told_all [] [] [] same told = tt
  told_all [] [] (s ∷ sources) same told = let many = told.many in omega arith
  told_all [] (o ∷ now) sources same told = omega arith
  told_all (b ∷ before) [] sources same told = omega arith
  told_all (b ∷ before) (o ∷ now) [] same told = let many = told.many in omega arith
  told_all (b ∷ before) (o ∷ now) (s ∷ sources) same told =
      (told.each 0 b s refl, told_all before now sources (omega arith) (record { many = (let many = told.many in omega arith); each = λ k d t at. told.each (suc k) d t at }))

  -- One more lane was opened.
  pub opened_more : (k : ℕ) (named : List (List ℕ)) (before opened : List (Lane S)) (b o : Lane S) (j : ℕ) (after : List (List ℕ)) → AllOpened k named before opened → j ≡ k + length before → after ≡ named ++ serials_of opened → IsOpened left faults j after b o
      → AllOpened k named (before ++ b ∷ []) (opened ++ o ∷ [])
  opened_more k named [] [] b o j after all at serials is = (subst (λ (n : ℕ). IsOpened left faults n named b o) (let e : j ≡ k = omega arith in e) (subst (λ (l : List (List ℕ)). IsOpened left faults j l b o) (serials ∙ append-nil named) is), tt)
  opened_more k named [] (x ∷ opened) b o j after all at serials is = absurd all
  opened_more k named (y ∷ before) [] b o j after all at serials is = absurd all
  opened_more k named (y ∷ before) (x ∷ opened) b o j after all at serials is =
      (all.0, opened_more (k + 1) (named ++ serials_in_header (heads_in x)) before opened b o j after all.1 (omega arith) (serials ∙ sym (append_assoc named (serials_in_header (heads_in x)) (serials_of opened))) is)

  -- ---- the headers that sources gave

  -- A source gave the trace with the volumes of an opened lane, of which none has a serial that was named.
  pub record GivesHead (named : List (List ℕ)) (opened : Lane S) (s : SourceBytes) : Type 0 where
    pub trace : Trace
    pub given : trace_given s ≡ Ok trace
    pub volumes : trace.header.volumes ≡ heads_in opened
    pub apart : first_named_again named 0 trace.header.volumes ≡ None

  abbrev pub GiveHeads : (named : List (List ℕ)) → (opened : List (Lane S)) → List SourceBytes → Type 0
  GiveHeads named [] [] = Unit {0}
  GiveHeads named [] (s ∷ sources) = ⊥
  GiveHeads named (o ∷ opened) [] = ⊥
  GiveHeads named (o ∷ opened) (s ∷ sources) = GivesHead named o s × GiveHeads (named ++ serials_in_header (heads_in o)) opened sources

  -- Lanes that were just opened did so.
  give_now : (k : ℕ) (named : List (List ℕ)) (before opened : List (Lane S)) (sources : List SourceBytes) → AllOpened k named before opened → ToldAll before opened sources → GiveHeads named opened sources
  give_now k named [] [] [] all told = tt
  give_now k named [] [] (s ∷ sources) all told = absurd told
  give_now k named [] (o ∷ opened) sources all told = absurd all
  give_now k named (b ∷ before) [] sources all told = absurd all
  give_now k named (b ∷ before) (o ∷ opened) [] all told = absurd told
  give_now k named (b ∷ before) (o ∷ opened) (s ∷ sources) all told =
      let its = all.0 in
      let (t, given, headed) = trace_read left faults b.source o.source s told.0 its.head its.side.reader its.reads its.quiet in
      let volumes : t.header.volumes ≡ its.head.volumes = ap (λ (h : Header). h.volumes) headed in (
        record { trace = t; given = given; volumes = volumes ∙ sym (heads_read left faults k named b o its); apart = ap (first_named_again named 0) volumes ∙ its.apart },
        give_now (k + 1) (named ++ serials_in_header (heads_in o)) before opened sources all.1 told.1,
      )

  -- Headers that stop no call are passed.
  pub stop_after : (k : ℕ) (named : List (List ℕ)) (opened : List (Lane S)) (sources rest : List SourceBytes) (j : ℕ) → j ≡ k + length opened → GiveHeads named opened sources
      → stop_of_headers k named (sources ++ rest) ≡ stop_of_headers j (named ++ serials_of opened) rest
  stop_after k named [] [] rest j at give = ap (λ (n : ℕ). stop_of_headers n named rest) (let e : k ≡ j = omega arith in e) ∙ ap (λ (l : List (List ℕ)). stop_of_headers j l rest) (sym (append-nil named))
  stop_after k named [] (s ∷ sources) rest j at give = absurd give
  stop_after k named (o ∷ opened) [] rest j at give = absurd give
  stop_after k named (o ∷ opened) (s ∷ sources) rest j at give =
      let its = give.0 in
      stop_passed k named s (sources ++ rest) its.trace its.given its.apart
      ∙ ap (λ (l : List VolumeHead). stop_of_headers (k + 1) (named ++ serials_in_header l) (sources ++ rest)) its.volumes
      ∙ stop_after (k + 1) (named ++ serials_in_header (heads_in o)) opened sources rest j (omega arith) give.1
      ∙ ap (λ (l : List (List ℕ)). stop_of_headers j l rest) (append_assoc named (serials_in_header (heads_in o)) (serials_of opened))

  -- None of all stops.
  pub none_stops : (opened : List (Lane S)) (sources : List SourceBytes) → GiveHeads [] opened sources → stop_of_headers 0 [] sources ≡ None
  none_stops opened sources give = ap (stop_of_headers 0 []) (sym (append-nil sources)) ∙ stop_after 0 [] opened sources [] (length opened) (omega arith) give

  -- ---- a stop at one of the lanes

  -- The sources up to one of the lanes, and those after it.
  record Splits (before opened : List (Lane S)) (b o : Lane S) (sources : List SourceBytes) : Type 0 where
    first : List SourceBytes
    source : SourceBytes
    others : List SourceBytes
    are : sources ≡ first ++ source ∷ others
    told : ToldAll before opened first
    here : SourceTold left faults b.source o.source source

  split : (before opened : List (Lane S)) (b o : Lane S) (later after : List (Lane S)) (sources : List SourceBytes) → length opened ≡ length before → ToldAll (before ++ b ∷ later) (opened ++ o ∷ after) sources → Splits before opened b o sources
  split [] [] b o later after [] same told = absurd told
  split [] [] b o later after (s ∷ sources) same told = record { first = []; source = s; others = sources; are = refl; told = tt; here = told.0 }
  split [] (x ∷ opened) b o later after sources same told = absurd (omega arith)
  split (y ∷ before) [] b o later after sources same told = absurd (omega arith)
  split (y ∷ before) (x ∷ opened) b o later after [] same told = absurd told
  split (y ∷ before) (x ∷ opened) b o later after (s ∷ sources) same told =
      let rest = split before opened b o later after sources (omega arith) told.1 in
      record { first = s ∷ rest.first; source = rest.source; others = rest.others; are = ap (λ (l : List SourceBytes). s ∷ l) rest.are; told = (told.0, rest.told); here = rest.here }

-- The stop by one header is that by it and more.
stop_stays : (k : ℕ) (named : List (List ℕ)) (s : SourceBytes) (sources : List SourceBytes) (stop : Stop) → stop_of_headers k named (s ∷ []) ≡ Some stop → stop_of_headers k named (s ∷ sources) ≡ Some stop
stop_stays k named s sources stop due = of (trace_given s) refl
  where
    read : (t : Trace) (again : Option ℕ) → trace_given s ≡ Ok t → first_named_again named 0 t.header.volumes ≡ again → stop_of_headers k named (s ∷ sources) ≡ Some stop
    read t (Some v) is at = stop_again k named s sources t v is at ∙ sym (stop_again k named s [] t v is at) ∙ due
    read t None is at = absurd (let none = sym (stop_passed k named s [] t is at) ∙ due in cc none)

    of : (given : Result Trace HeaderError) → trace_given s ≡ given → stop_of_headers k named (s ∷ sources) ≡ Some stop
    of (Err error) is = stop_refused k named s sources error is ∙ sym (stop_refused k named s [] error is) ∙ due
    of (Ok t) is = read t (first_named_again named 0 t.header.volumes) is refl

module _ {S T : Type 0} (left : S → Option (List ℕ)) (faults : S → ℕ) (before opened : List (Lane S)) (all : AllOpened left faults 0 [] before opened) (same : length opened ≡ length before) where
  -- All were opened.
  pub all_pass : (x : T) → (let result : Result T Stop = Ok x in StopsByHeaders left faults 0 [] before opened result)
  all_pass x = stops_never left faults 0 [] before opened x (λ sources told. none_stops left faults opened sources (give_now left faults 0 [] before opened sources all (told_all left faults before opened sources same told)))

  -- One after them stops the call.
  module _ (b o : Lane S) (later after : List (Lane S)) (as_many : length after ≡ length later) (its result : Result T Stop) (e : Stop) (was : its ≡ Err e) (is : result ≡ Err e)
      (by_lane : StopsByHeaders left faults (length opened) (serials_of opened) (b ∷ []) (o ∷ []) its) where
    due_there : (sources : List SourceBytes) → AllTold left faults (before ++ b ∷ later) (opened ++ o ∷ after) sources → (e ≡ NoMemory) ⊎ (stop_of_headers 0 [] sources ≡ Some e)
    due_there sources told =
        let many : length (opened ++ o ∷ after) ≡ length (before ++ b ∷ later) = length-append opened (o ∷ after) ∙ omega arith ∙ sym (length-append before (b ∷ later)) in
        let parts = split left faults before opened b o later after sources same (told_all left faults (before ++ b ∷ later) (opened ++ o ∷ after) sources many told) in
        let front = ap (stop_of_headers 0 []) parts.are ∙ stop_after left faults 0 [] opened parts.first (parts.source ∷ parts.others) (length opened) (omega arith) (give_now left faults 0 [] before opened parts.first all parts.told) in
        elim (by_lane.stops (parts.source ∷ []) e (record { many = refl; each = one parts.source parts.here }) was) [
          | inl memory ↦ inl memory
          | inr due ↦ inr (front ∙ stop_stays (length opened) (serials_of opened) parts.source parts.others e due)
        ]
      where
        one : (s : SourceBytes) → SourceTold left faults b.source o.source s → (k : ℕ) (d : Lane S) (t : SourceBytes) → slice_get (s ∷ []) k ≡ Some t → SourceTold left faults (get_or (b ∷ []) k d).source (get_or (o ∷ []) k d).source t
        one s here zero d t at = subst (SourceTold left faults b.source o.source) (let e : s ≡ t = cc at in e) here
        one s here (suc k) d t at = absurd (cc at)

    pub one_stops : StopsByHeaders left faults 0 [] (before ++ b ∷ later) (opened ++ o ∷ after) result
    one_stops = record {
      due = λ sources stop told due. elim (due_there sources told) [ inl memory ↦ inr (is ∙ ap (λ (x : Stop). Err x) memory) | inr exact ↦ inl (cc (is, exact, due)) ];
      stops = λ sources stop told stopped. let same : e ≡ stop = cc (is, stopped) in elim (due_there sources told) [ inl memory ↦ inl (sym same ∙ memory) | inr exact ↦ inr (exact ∙ ap (λ (x : Stop). Some x) same) ];
    }

-- ---- so far

primaries_more : {S : Type 0} (k : ℕ) (lanes : List (Lane S)) (o : Lane S) → primaries_in k (lanes ++ o ∷ []) ≡ primaries_in k lanes ++ volumes_named (k + length lanes) 0 (heads_in o)
primaries_more k [] o = append-nil (volumes_named k 0 (heads_in o)) ∙ ap (λ (n : ℕ). volumes_named n 0 (heads_in o)) (omega arith)
primaries_more k (x ∷ lanes) o =
    ap (λ (l : List NamedVolume). volumes_named k 0 (heads_in x) ++ l) (primaries_more (k + 1) lanes o ∙ ap (λ (n : ℕ). primaries_in (k + 1) lanes ++ volumes_named n 0 (heads_in o)) (omega arith))
    ∙ sym (append_assoc (volumes_named k 0 (heads_in x)) (primaries_in (k + 1) lanes) (volumes_named (k + length (x ∷ lanes)) 0 (heads_in o)))

serials_more : {S : Type 0} (lanes : List (Lane S)) (o : Lane S) → serials_of (lanes ++ o ∷ []) ≡ serials_of lanes ++ serials_in_header (heads_in o)
serials_more [] o = append-nil (serials_in_header (heads_in o))
serials_more (x ∷ lanes) o = ap (λ (l : List (List ℕ)). serials_in_header (heads_in x) ++ l) (serials_more lanes o) ∙ sym (append_assoc (serials_in_header (heads_in x)) (serials_of lanes) (serials_in_header (heads_in o)))

-- The lanes below a number were opened, and their volumes were named. The others are as they were.
pub record HasOpened {S : Type 0} (left : S → Option (List ℕ)) (faults : S → ℕ) (initial now : List (Lane S)) (below : ℕ) (named : List (List ℕ)) (before names : Naming) : Type 0 where
  pub many : length now ≡ length initial
  pub rest : drop below now ≡ drop below initial
  pub opened : AllOpened left faults 0 [] (take below initial) (take below now)
  pub named_are : named ≡ serials_of (take below now)
  pub names_are : names ≡ record before { primaries = primaries_in 0 (take below now) }
  pub serials : AreSerialsNamed below named names

module _ {S : Type 0} (left : S → Option (List ℕ)) (faults : S → ℕ) (initial now : List (Lane S)) (k : ℕ) (named : List (List ℕ)) (before names : Naming) (so_far : HasOpened left faults initial now k named before names) (inside : k < length initial) where
  seam : (d : Lane S) → initial ≡ take k initial ++ get_or initial k d ∷ drop (k + 1) initial
  seam d = sym (take-append-drop k initial) ∙ ap (λ (l : List (Lane S)). take k initial ++ l) (drop_more initial k d inside)

  long : length (take k initial) ≡ k
  long = length-take-le k initial (omega arith)

  long_now : length (take k now) ≡ k
  long_now = length-take-le k now (let many = so_far.many in omega arith)

  -- The lane is as it was.
  pub lane_was : (d : Lane S) → get_or now k d ≡ get_or initial k d
  lane_was d =
      let same = sym (drop_more now k d (let many = so_far.many in omega arith)) ∙ so_far.rest ∙ drop_more initial k d inside in
      cc same

  set_seam : (o : Lane S) → set now k o ≡ take k now ++ o ∷ drop (k + 1) initial
  set_seam o =
      let here : k < length now = (let many = so_far.many in omega arith) in
      let d = o in
      let rest = sym (drop_more now k d here) ∙ so_far.rest ∙ drop_more initial k d inside in
      let tail : drop (k + 1) now ≡ drop (k + 1) initial = cc rest in
      let same : suc k ≡ k + 1 = omega arith in
      set_split now k o here ∙ ap (λ (l : List (Lane S)). take k now ++ o ∷ l) (ap (λ (n : ℕ). drop n now) same ∙ tail)

  module _ (d b o : Lane S) (was : b ≡ get_or initial k d) where
    -- One more was opened.
    pub opened_next : (named_now : List (List ℕ)) (names_now : Naming) → OpensLane left faults k named names b o named_now names_now → AreSerialsNamed (k + 1) named_now names_now → HasOpened left faults initial (set now k o) (k + 1) named_now before names_now
    opened_next named_now names_now opens serials =
        let here : k < length now = (let many = so_far.many in omega arith) in
        let its = opened_by left faults k named names b o named_now names_now opens in
        let volumes = heads_read left faults k named b o its in
        let front = take_more_set now k o here in
        let back = take_more initial k d inside ∙ ap (λ (l : Lane S). take k initial ++ l ∷ []) (sym was) in
        let all = opened_more left faults 0 [] (take k initial) (take k now) b o k named so_far.opened (let e = long in omega arith) so_far.named_are its in
        record {
          many = length-set now k o ∙ so_far.many;
          rest = after_rest here;
          opened = subst (λ (l : List (Lane S)). AllOpened left faults 0 [] (take (k + 1) initial) l) (sym front) (subst (λ (l : List (Lane S)). AllOpened left faults 0 [] l (take k now ++ o ∷ [])) (sym back) all);
          named_are =
              opens.named_are ∙ ap (λ (l : List (List ℕ)). l ++ serials_in_header opens.head.volumes) so_far.named_are ∙ ap (λ (l : List VolumeHead). serials_of (take k now) ++ serials_in_header l) (sym volumes)
              ∙ sym (serials_more (take k now) o) ∙ ap serials_of (sym front);
          names_are =
              opens.names_are ∙ ap (λ (n : Naming). record n { primaries = n.primaries ++ volumes_named k 0 opens.head.volumes }) so_far.names_are
              ∙ ap (λ (l : List NamedVolume). record before { primaries = l })
              (ap (λ (l : List VolumeHead). primaries_in 0 (take k now) ++ volumes_named k 0 l) (sym volumes) ∙ ap (λ (n : ℕ). primaries_in 0 (take k now) ++ volumes_named n 0 (heads_in o)) (let e = long_now in omega arith)
              ∙ sym (primaries_more 0 (take k now) o) ∙ ap (primaries_in 0) (sym front));
          serials = serials;
        }
      where
        after_rest : k < length now → drop (k + 1) (set now k o) ≡ drop (k + 1) initial
        after_rest here =
            let rest = sym (drop_more now k o here) ∙ so_far.rest ∙ drop_more initial k o inside in
            let tail : drop (k + 1) now ≡ drop (k + 1) initial = cc rest in
            drop-set-lt (k + 1) now k o (omega arith) ∙ tail

    -- This one stops the call.
    pub stops_here : {T : Type 0} (its result : Result T Stop) (e : Stop) → its ≡ Err e → result ≡ Err e → StopsByHeaders left faults k named (b ∷ []) (o ∷ []) its → StopsByHeaders left faults 0 [] initial (set now k o) result
    stops_here its result e was_err is by_lane =
        let at_length = subst (λ (n : ℕ). StopsByHeaders left faults n named (b ∷ []) (o ∷ []) its) (sym long_now) by_lane in
        let after = subst (λ (l : List (List ℕ)). StopsByHeaders left faults (length (take k now)) l (b ∷ []) (o ∷ []) its) so_far.named_are at_length in
        let all = one_stops left faults (take k initial) (take k now) so_far.opened (long_now ∙ sym long) b o (drop (k + 1) initial) (drop (k + 1) initial) refl its result e was_err is after in
        let initial_is = seam d ∙ ap (λ (l : Lane S). take k initial ++ l ∷ drop (k + 1) initial) (sym was) in
        subst (λ (l : List (Lane S)). StopsByHeaders left faults 0 [] initial l result) (sym (set_seam o)) (subst (λ (l : List (Lane S)). StopsByHeaders left faults 0 [] l (take k now ++ o ∷ drop (k + 1) initial) result) (sym initial_is) all)

-- No lane has its reader.
pub unread_at : {S : Type 0} (lanes : List (Lane S)) → All (λ lane. reader_in lane ≡ None) lanes → (k : ℕ) (d : Lane S) → k < length lanes → reader_in (get_or lanes k d) ≡ None
unread_at lanes unread k d inside = All-get_or (λ lane. reader_in lane ≡ None) lanes k d inside unread

-- ---- all of them

-- Each of the lanes.
pub opened_at : {S : Type 0} (left : S → Option (List ℕ)) (faults : S → ℕ) (k : ℕ) (named : List (List ℕ)) (before opened : List (Lane S)) → AllOpened left faults k named before opened → (j : ℕ) (d : Lane S) → j < length opened
    → (after : List (List ℕ)) × IsOpened left faults (k + j) after (get_or before j d) (get_or opened j d)
opened_at left faults k named [] [] all j d inside = absurd (omega arith)
opened_at left faults k named [] (o ∷ opened) all j d inside = absurd all
opened_at left faults k named (b ∷ before) [] all j d inside = absurd all
opened_at left faults k named (b ∷ before) (o ∷ opened) all zero d inside = (named, subst (λ (n : ℕ). IsOpened left faults n named b o) (let e : k ≡ k + 0 = omega arith in e) all.0)
opened_at left faults k named (b ∷ before) (o ∷ opened) all (suc j) d inside =
    let (after, is) = opened_at left faults (k + 1) (named ++ serials_in_header (heads_in o)) before opened all.1 j d (omega arith) in
    (after, subst (λ (n : ℕ). IsOpened left faults n after (get_or before j d) (get_or opened j d)) (let e : k + 1 + j ≡ k + suc j = omega arith in e) is)

module _ {S : Type 0} (left : S → Option (List ℕ)) (faults : S → ℕ) (initial now : List (Lane S)) (k : ℕ) (named : List (List ℕ)) (before names : Naming) (so_far : HasOpened left faults initial now k named before names) (all : length now ≤ k) where
  pub all_opened : AllOpened left faults 0 [] initial now
  all_opened =
      subst (λ (l : List (Lane S)). AllOpened left faults 0 [] initial l) (take_all k now all)
      (subst (λ (l : List (Lane S)). AllOpened left faults 0 [] l (take k now)) (take_all k initial (let many = so_far.many in omega arith)) so_far.opened)

  pub names_all : (names.primaries ≡ primaries_in 0 now) × IsTrue (none_alike names.primaries) × (names.labels ≡ before.labels) × (names.broken ≡ before.broken)
  names_all = (ap (λ (n : Naming). n.primaries) so_far.names_are ∙ ap (primaries_in 0) (take_all k now all), so_far.serials.apart, ap (λ (n : Naming). n.labels) so_far.names_are, ap (λ (n : Naming). n.broken) so_far.names_are)

  pub have_volumes : HaveVolumes now
  have_volumes = λ j d inside.
      let (after, o) = opened_at left faults 0 [] initial now all_opened j d inside in
      subst (λ (l : List VolumeHead). 1 ≤ length l) (sym (heads_read left faults (0 + j) after (get_or initial j d) (get_or now j d) o)) (volumes_of_header o.head o.reads.kept).some

  pub are_opened : AreLanesOpened left faults initial now
  are_opened = record { many = so_far.many; each = each; quiet = quiet }
    where
      its : (j : ℕ) (d : Lane S) → j < length now → (after : List (List ℕ)) × IsOpened left faults (0 + j) after (get_or initial j d) (get_or now j d)
      its j d inside = opened_at left faults 0 [] initial now all_opened j d inside

      each : (j : ℕ) (d : Lane S) → j < length now → IsSomeAnd (reader_in (get_or now j d)) (λ r. (r.feed.side.control ≡ j) × (r.feed.halted ≡ None) × (r.feed.side.upto ≡ 0) × (r.feed.primary.time ≡ 0))
      each j d inside =
          let (after, o) = its j d inside in
          subst (λ (r : Option LaneReaderState). IsSomeAnd r (λ r. (r.feed.side.control ≡ j) × (r.feed.halted ≡ None) × (r.feed.side.upto ≡ 0) × (r.feed.primary.time ≡ 0))) (sym o.reader)
          (o.of_control ∙ (let e : 0 + j ≡ j = omega arith in e), o.halted, o.fresh.upto, o.fresh.time)

      quiet : (j : ℕ) (d : Lane S) → j < length now → faults (get_or now j d).source ≡ faults (get_or initial j d).source
      quiet j d inside = (its j d inside).1.quiet

  pub lanes_pass : {T : Type 0} (x : T) → (let result : Result T Stop = Ok x in StopsByHeaders left faults 0 [] initial now result)
  lanes_pass x = all_pass left faults initial now all_opened so_far.many x
