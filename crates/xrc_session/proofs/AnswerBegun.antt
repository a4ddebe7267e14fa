-- The rows that a command adds or resumes: their controllers count, and their volumes have their tracks.
use Rattle.std.proofs.Common.{◌≡◌, inl, inr, ℕ, zero, suc, ◌+◌, ◌*◌, ◌<◌, ◌==◌, Bool, true, false, not, cond, ◌&&◌, List, [], ◌∷◌, ◌++◌, length, map, Option, Some, None, refl, sym, ap, subst, ◌∙◌, arith, true≢false, slice_get, nat_lt}
use Rattle.std.specs.Prelude.{bytes_eq, find, IfSome}
use Rattle.std.specs.List.{Contains, list_all, list_any}
use Rattle.std.proofs.lemmas.Bool.{and_parts, eqb-true, or_cases, or_left, or_right}
use Rattle.std.proofs.lemmas.List.Folds.{list_any-append}
use Rattle.std.proofs.lemmas.List.Sums.{AllPass-from_list_all}
use Rattle.std.proofs.lemmas.Option.{same_Some}
use Rattle.std.proofs.lemmas.Slice.Eq.{bytes_eq-Decides}
use Rattle.xrc_edge.specs.declared.limits.TheConstants.{TRACKS_OF_CYLINDER}
use Rattle.crash_plant.specs.Moments.{PlantState}
use Rattle.write_trace.specs.declared.header.VolumeHead.{VolumeHead}
use Rattle.write_trace.specs.declared.trace.Trace.{Trace}
use Rattle.write_trace.specs.Headers.{cylinders_of}
use Rattle.pair_table.specs.declared.command.Change.{Change}
use Rattle.pair_table.specs.declared.command.Change.TheVariants.{Nothing, Started, Added, Resumed, Gone, Suspended, Ended}
use Rattle.pair_table.specs.declared.command.Command.{Command}
use Rattle.pair_table.specs.declared.command.Command.TheVariants.{Start, AddPair, DelPair, Suspend, Query, End}
use Rattle.pair_table.specs.declared.command.Refusal.TheVariants.{ControlBroken, SecondaryInUse, TooSmall}
use Rattle.pair_table.specs.declared.names.NamedDevice.{NamedDevice}
use Rattle.pair_table.specs.declared.names.NamedVolume.{NamedVolume}
use Rattle.pair_table.specs.declared.row.PairRow.{PairRow}
use Rattle.pair_table.specs.Commands.{PrimariesAreNamed, add_to, added, change_of, has_named_primary, is_volume_of, new_row, new_row_for, rows_after}
use Rattle.pair_table.specs.Naming.{Naming, are_alike, is_broken, labelled_device, none_alike, primary_of}
use Rattle.pair_table.specs.Refusals.{is_of_primary, refuses_command, refuses_found, refuses_label, refuses_new, refuses_primary, row_of_primary}
use Rattle.pair_table.specs.Tables.{are_below, is_of, none_clash, resumed_in, row_changed, row_of}
use Rattle.pair_table.proofs.StateLaws.{changed_of_primary}
use Rattle.group_state.specs.Groups.{Group}
use Rattle.consistency.specs.Stages.{primaries_named, tracks_of_row, volumes_named}
use Rattle.mover.proofs.Pairs.{Among, among_of, contains_of}
use Rattle.xrc_session.specs.Answering.{ControlsCount}
use Rattle.xrc_session.specs.CarriedLaws.{BegunControlsCount, FitsOn}
use Rattle.xrc_session.specs.Lanes.{sizes_of, tracks_of_volume}
use Rattle.xrc_session.specs.Taking.{IfAdds, is_begun}
use Rattle.xrc_session.proofs.AnswerRows.{one_of_device}
use Rattle.xrc_session.proofs.CarriedRows.{among_either}
use Rattle.xrc_session.proofs.JoinsRows.{some_of}
use Rattle.xrc_session.proofs.RestingRows.{map_back}
use Rattle.xrc_session.proofs.Walking.{found_in}

-- ---- names

same_bytes : (a b : List ℕ) → bytes_eq a b ≡ true → a ≡ b
same_bytes a b is = (bytes_eq-Decides a b).0 is

any_of : {X : Type 0} (test : X → Bool) (x : X) (items : List X) → Contains items x → test x ≡ true → list_any test items ≡ true
any_of test x [] there is = absurd (let low = there.1 in omega (arith, low))
any_of test x (y ∷ items) (zero, low, same) is = or_left (test y) (list_any test items) (ap test same ∙ is)
any_of test x (y ∷ items) (suc i, low, same) is = or_right (test y) (list_any test items) (any_of test x items (i, omega (arith, low), same) is)

passes_when_found : {X : Type 0} (test : X → Bool) (x : X) (items : List X) → find test items ≡ Some x → test x ≡ true
passes_when_found test x [] at = absurd cc
passes_when_found test x (y ∷ items) at = by_test (test y) refl at (passes_when_found test x items)
  where
    by_test : (b : Bool) → test y ≡ b → cond b (Some y) (find test items) ≡ Some x → (find test items ≡ Some x → test x ≡ true) → test x ≡ true
    by_test true is at rest = ap test (sym (same_Some y x at)) ∙ is
    by_test false is at rest = rest at

-- Of volumes that aren't alike the one of a serial is found.
found_by_serial : (p : List ℕ) (w : NamedVolume) (volumes : List NamedVolume) → none_alike volumes ≡ true → Contains volumes w → bytes_eq w.serial p ≡ true → find (λ v. bytes_eq v.serial p) volumes ≡ Some w
found_by_serial p w [] apart there is = absurd (let low = there.1 in omega (arith, low))
found_by_serial p w (v ∷ volumes) apart (zero, low, same) is = let here : bytes_eq v.serial p ≡ true = ap (λ (x : NamedVolume). bytes_eq x.serial p) same ∙ is in rw here (ap (λ (x : NamedVolume). Some x) same)
found_by_serial p w (v ∷ volumes) apart (suc i, low, same) is =
    by_test (bytes_eq v.serial p) refl (found_by_serial p w volumes parts.1 (i, omega (arith, low), same) is)
  where
    parts : (not (list_any (are_alike v) volumes) ≡ true) × (none_alike volumes ≡ true)
    parts = and_parts (not (list_any (are_alike v) volumes)) (none_alike volumes) apart

    by_test : (b : Bool) → bytes_eq v.serial p ≡ b → find (λ v. bytes_eq v.serial p) volumes ≡ Some w → cond b (Some v) (find (λ v. bytes_eq v.serial p) volumes) ≡ Some w
    by_test false at rest = rest
    by_test true at rest =
        let one : v.serial ≡ w.serial = same_bytes v.serial p at ∙ sym (same_bytes w.serial p is) in
        let alike : are_alike v w ≡ true = or_left (bytes_eq v.serial w.serial) (v.control == w.control && v.volume == w.volume) ((bytes_eq-Decides v.serial w.serial).1 one) in
        absurd (true≢false (sym parts.0 ∙ ap not (any_of (are_alike v) w volumes (i, omega (arith, low), same) alike)))

-- ---- the controller of a row that is begun

module _ (names : Naming) (apart : none_alike names.primaries ≡ true) where
  -- A row of a named primary is of its controller.
  control_named : (p : List ℕ) (v : NamedVolume) (r : PairRow) → primary_of p names ≡ Some v → r.primary ≡ p → has_named_primary names r ≡ true → r.control ≡ v.control
  control_named p v r found of named =
      let has = some_of (is_volume_of r) names.primaries named in
      let w = has.item in
      let cylinders = and_parts ((bytes_eq w.serial r.primary && w.control == r.control) && w.volume == r.volume) (w.cylinders == r.cylinders) has.is in
      let volume = and_parts (bytes_eq w.serial r.primary && w.control == r.control) (w.volume == r.volume) cylinders.0 in
      let control = and_parts (bytes_eq w.serial r.primary) (w.control == r.control) volume.0 in
      let serial : bytes_eq w.serial p ≡ true = ap (bytes_eq w.serial) (sym of) ∙ control.0 in
      let same : w ≡ v = (let there = found_by_serial p w names.primaries apart has.among serial in cc) in
      sym (eqb-true w.control r.control control.1) ∙ ap (λ (x : NamedVolume). x.control) same

  module _ (time : ℕ) (rows : List PairRow) (clear : none_clash rows ≡ true) where
    -- What is so of each row that a change makes pending, where a command of a primary made the change.
    abbrev Unbroken : Change → List PairRow → Type 0
    Unbroken change next = (r : PairRow) → Among r next → is_begun change r.device ≡ true → has_named_primary names r ≡ true → is_broken r.control names ≡ false

    unbroken_of : (p : List ℕ) (v : NamedVolume) → primary_of p names ≡ Some v → is_broken v.control names ≡ false → (r : PairRow) → r.primary ≡ p → has_named_primary names r ≡ true → is_broken r.control names ≡ false
    unbroken_of p v found whole r of named = ap (λ (k : ℕ). is_broken k names) (control_named p v r found of named) ∙ whole

    module _ (p s : List ℕ) (group : Option (List ℕ)) (v : NamedVolume) (found : primary_of p names ≡ Some v) (whole : is_broken v.control names ≡ false) where
      resumed_whole : (x : PairRow) → row_of_primary p rows ≡ Some x → Unbroken (Resumed x.device) (map (λ o. cond (is_of_primary x.primary o) (resumed_in group o) o) rows)
      resumed_whole x is r there begun named =
          let there_x = found_in (is_of_primary p) rows x is in
          let back = map_back (row_changed x.device (resumed_in group)) r rows (subst (Among r) (sym (changed_of_primary p (resumed_in group) rows x clear is)) there) in
          let device : x.device ≡ back.0.device = eqb-true x.device r.device begun ∙ ap (λ (o : PairRow). o.device) (sym back.2) ∙ by_device (is_of x.device back.0) back.0 in
          let same : x ≡ back.0 = one_of_device x back.0 rows clear there_x back.1 device in
          let primary : r.primary ≡ x.primary = ap (λ (o : PairRow). o.primary) (sym back.2) ∙ by_primary (is_of x.device back.0) back.0 ∙ ap (λ (o : PairRow). o.primary) (sym same) in
          unbroken_of p v found whole r (primary ∙ same_bytes x.primary p (passes_when_found (is_of_primary p) x rows is)) named
        where
          by_device : (b : Bool) (o : PairRow) → (let y : PairRow = cond b (resumed_in group o) o in y.device) ≡ o.device
          by_device true o = refl
          by_device false o = refl

          by_primary : (b : Bool) (o : PairRow) → (let y : PairRow = cond b (resumed_in group o) o in y.primary) ≡ o.primary
          by_primary true o = refl
          by_primary false o = refl

      added_whole : (l : NamedDevice) → refuses_new rows v l ≡ None → Unbroken (Added l.device) (rows ++ new_row s group v l ∷ [])
      added_whole l own r there begun named = elim (among_either r (new_row s group v l) rows there) [
        | inl before ↦ absurd (true≢false (sym (any_of (is_of l.device) r rows (contains_of r rows before) begun) ∙ unused (list_any (is_of l.device) rows) own))
        | inr same ↦ unbroken_of p v found whole r (ap (λ (o : PairRow). o.primary) (sym same) ∙ same_bytes v.serial p (passes_when_found (λ w. bytes_eq w.serial p) v names.primaries found)) named
      ]
        where
          unused : (b : Bool) → cond b (Some SecondaryInUse) (cond (nat_lt l.cylinders v.cylinders) (Some (TooSmall (TRACKS_OF_CYLINDER * v.cylinders))) None) ≡ None → b ≡ false
          unused true own = absurd cc
          unused false own = refl

    pair_whole : (p s : List ℕ) (group : Option (List ℕ)) → refuses_primary p s names rows (primary_of p names) ≡ None → Unbroken (change_of names (AddPair p s group) rows) (rows_after names time (AddPair p s group) rows)
    pair_whole p s group own = by_volume (primary_of p names) refl own
      where
        RowsBy : Option PairRow → Option NamedVolume → Option NamedDevice → Type 0
        RowsBy o v l = Unbroken (added o l) (add_to group rows o (new_row_for s group v l))

        by_found : (v : NamedVolume) → primary_of p names ≡ Some v → is_broken v.control names ≡ false → (o : Option PairRow) → row_of_primary p rows ≡ o → (l : Option NamedDevice) → refuses_label p s rows v l ≡ None → RowsBy o (Some v) l
        by_found v found whole None none None own = absurd cc
        by_found v found whole None none (Some l) own = added_whole p s group v found whole l (ap (refuses_found s rows v l) (sym none) ∙ own)
        by_found v found whole (Some x) is l own = resumed_whole p s group v found whole x is

        by_broken : (v : NamedVolume) → primary_of p names ≡ Some v → (b : Bool) → is_broken v.control names ≡ b → cond b (Some (ControlBroken v.control)) (refuses_label p s rows v (labelled_device s names)) ≡ None
            → RowsBy (row_of_primary p rows) (Some v) (labelled_device s names)
        by_broken v found true whole own = absurd cc
        by_broken v found false whole own = by_found v found whole (row_of_primary p rows) refl (labelled_device s names) own

        by_volume : (v : Option NamedVolume) → primary_of p names ≡ v → refuses_primary p s names rows v ≡ None → RowsBy (row_of_primary p rows) v (labelled_device s names)
        by_volume None found own = absurd cc
        by_volume (Some v) found own = by_broken v found (is_broken v.control names) refl own

    whole_by : (command : Command) → refuses_command names rows command ≡ None → Unbroken (change_of names command rows) (rows_after names time command rows)
    whole_by (Start level) own r there begun named = absurd (true≢false (sym begun))
    whole_by (AddPair p s group) own r there begun named = pair_whole p s group own r there begun named
    whole_by (DelPair choice) own r there begun named = absurd (true≢false (sym begun))
    whole_by (Suspend choice) own r there begun named = absurd (true≢false (sym begun))
    whole_by Query own r there begun named = absurd (true≢false (sym begun))
    whole_by End own r there begun named = absurd (true≢false (sym begun))

    -- The controller of a row that a command adds or resumes counts, if the unbroken controllers do.
    pub begun_count : (s : Group) (command : Command) → refuses_command names rows command ≡ None → PrimariesAreNamed names (rows_after names time command rows) → ControlsCount names s
        → BegunControlsCount s (change_of names command rows) (rows_after names time command rows)
    begun_count s command own all count r has begun =
        let next = rows_after names time command rows in
        let there = among_of next r has in
        let named : has_named_primary names r ≡ true = ap (has_named_primary names) (sym has.2) ∙ AllPass-from_list_all (has_named_primary names) next all has.0 r has.1 in
        let v = some_of (is_volume_of r) names.primaries named in
        let w = v.item in
        let cylinders = and_parts ((bytes_eq w.serial r.primary && w.control == r.control) && w.volume == r.volume) (w.cylinders == r.cylinders) v.is in
        let volume = and_parts (bytes_eq w.serial r.primary && w.control == r.control) (w.volume == r.volume) cylinders.0 in
        let control = and_parts (bytes_eq w.serial r.primary) (w.control == r.control) volume.0 in
        let low : r.control < length s.controls = subst (λ (k : ℕ). k < length s.controls) (eqb-true w.control r.control control.1) (count.below w v.among) in
        (low, count.counted r.control low (whole_by command own r there begun named))

-- ---- the tracks of a row that is added

module _ (r : PairRow) where
  -- One of a header's volumes, from a number on, is the row's.
  record IsVolumeThere (k first : ℕ) (heads : List VolumeHead) : Type 0 where
    place : ℕ
    control : r.control ≡ k
    volume : r.volume ≡ first + place
    cylinders : cylinders_of heads place ≡ r.cylinders

  volume_there : (k first : ℕ) (heads : List VolumeHead) → list_any (is_volume_of r) (volumes_named k first heads) ≡ true → IsVolumeThere k first heads
  volume_there k first [] has = absurd (true≢false (sym has))
  volume_there k first (head ∷ heads) has = elim (or_cases (is_volume_of r named) (list_any (is_volume_of r) (volumes_named k (first + 1) heads)) has) [
    | inl is ↦
        let cylinders = and_parts ((bytes_eq head.serial r.primary && k == r.control) && first == r.volume) (head.cylinders == r.cylinders) is in
        let volume = and_parts (bytes_eq head.serial r.primary && k == r.control) (first == r.volume) cylinders.0 in
        let control = and_parts (bytes_eq head.serial r.primary) (k == r.control) volume.0 in
        record {
          place = zero;
          control = sym (eqb-true k r.control control.1);
          volume = (let at = eqb-true first r.volume volume.1 in omega (arith, at));
          cylinders = eqb-true head.cylinders r.cylinders cylinders.1;
        }
    | inr later ↦
        let found = volume_there k (first + 1) heads later in
        let at = found.volume in
        record { place = suc found.place; control = found.control; volume = omega (arith, at); cylinders = found.cylinders }
  ]
    where
      named : NamedVolume
      named = record { serial = head.serial; control = k; volume = first; cylinders = head.cylinders }

  -- One of the traces, from a controller on, has the row's tracks.
  record IsTraceThere (k : ℕ) (traces : List Trace) : Type 0 where
    place : ℕ
    control : r.control ≡ k + place
    tracks : tracks_of_volume (slice_get traces place) r.volume ≡ tracks_of_row r

  trace_there : (k : ℕ) (traces : List Trace) → list_any (is_volume_of r) (primaries_named k traces) ≡ true → IsTraceThere k traces
  trace_there k [] has = absurd (true≢false (sym has))
  trace_there k (t ∷ traces) has =
      elim (or_cases (list_any (is_volume_of r) (volumes_named k 0 t.header.volumes)) (list_any (is_volume_of r) (primaries_named (k + 1) traces))
      (sym (list_any-append (is_volume_of r) (volumes_named k 0 t.header.volumes) (primaries_named (k + 1) traces)) ∙ has)) [
        | inl here ↦
            let found = volume_there k 0 t.header.volumes here in
            let same : r.volume ≡ found.place = (let at = found.volume in omega (arith, at)) in
            record {
              place = zero;
              control = (let at = found.control in omega (arith, at));
              tracks = ap (λ (n : ℕ). TRACKS_OF_CYLINDER * n) (ap (cylinders_of t.header.volumes) same ∙ found.cylinders);
            }
        | inr later ↦
            let found = trace_there (k + 1) traces later in
            record { place = suc found.place; control = (let at = found.control in omega (arith, at)); tracks = found.tracks }
      ]

-- The volumes of the traces have the tracks of the rows whose primaries they name.
sized_by_traces : (traces : List Trace) (names : Naming) (r : PairRow) → names.primaries ≡ primaries_named 0 traces → has_named_primary names r ≡ true → sizes_of traces r.control r.volume ≡ tracks_of_row r
sized_by_traces traces names r are named =
    let found = trace_there r 0 traces (ap (list_any (is_volume_of r)) (sym are) ∙ named) in
    let same : r.control ≡ found.place = (let at = found.control in omega (arith, at)) in
    ap (λ (k : ℕ). tracks_of_volume (slice_get traces k) r.volume) same ∙ found.tracks

-- So a row that is added fits the plant and the traces.
pub added_fits : (plant : PlantState) (traces : List Trace) (names : Naming) (change : Change) (after : List PairRow) → names.primaries ≡ primaries_named 0 traces → PrimariesAreNamed names after → are_below plant.volumes after ≡ true
    → IfAdds change after (FitsOn plant (sizes_of traces))
added_fits plant traces names Nothing after are named below = tt
added_fits plant traces names Started after are named below = tt
added_fits plant traces names (Added device) after are named below = of (row_of device after) refl
  where
    each : (test : PairRow → Bool) (r : PairRow) → list_all test after ≡ true → Contains after r → test r ≡ true
    each test r all has = ap test (sym has.2) ∙ AllPass-from_list_all test after all has.0 r has.1

    of : (o : Option PairRow) → row_of device after ≡ o → IfSome o (FitsOn plant (sizes_of traces))
    of None is = tt
    of (Some r) is =
        let has = contains_of r after (found_in (is_of device) after r is) in
        record { below = each (λ s. nat_lt s.device plant.volumes) r below has; sized = sized_by_traces traces names r are (each (has_named_primary names) r named has) }
added_fits plant traces names (Resumed device) after are named below = tt
added_fits plant traces names (Gone devices) after are named below = tt
added_fits plant traces names (Suspended devices) after are named below = tt
added_fits plant traces names Ended after are named below = tt
