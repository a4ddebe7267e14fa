-- What a run of a script may speak of has names.
use Rattle.std.proofs.Common.{◌≡◌, inl, inr, ℕ, zero, suc, ◌+◌, Bool, true, false, List, [], ◌∷◌, ◌++◌, length, take, drop, Option, Some, None, Result, Ok, Err, refl, sym, ap, subst, ◌∙◌, arith}
use Rattle.std.specs.Prelude.{◌&&◌, ◌==◌, bytes_eq, codes, if◌then◌else◌, map, nat_le, slice_range, sum_by}
use Rattle.std.specs.Int.{w16, w32, from_be_bytes}
use Rattle.std.specs.List.{list_all}
use Rattle.std.proofs.lemmas.List.Folds.{list_all-append}
use Rattle.tod_stamp.specs.Fields.{◌>>=◌, Left, Bad, number_at, within}
use Rattle.tod_stamp.specs.Names.{is_serial, name_in}
use Rattle.tod_stamp.proofs.FieldLaws.{bind_ok}
use Rattle.crash_plant.specs.declared.device.Device.TheVariants.{Volume}
use Rattle.crash_plant.specs.Moments.{PlantState}
use Rattle.write_trace.specs.declared.header.Header.{Header}
use Rattle.write_trace.specs.declared.header.VolumeHead.{VolumeHead}
use Rattle.write_trace.specs.declared.trace.HeaderError.{HeaderError}
use Rattle.write_trace.specs.declared.trace.Trace.{Trace}
use Rattle.write_trace.specs.WholeTraces.{after_header, bad_start, entries_from, trace_of, whole_trace}
use Rattle.write_trace.specs.Headers.{are_volumes, bases_at, header_at, tracks_of, version_at, volumes_at}
use Rattle.write_trace.proofs.HeaderSteps.{volumes_keep}
use Rattle.write_trace.proofs.FieldsAgain.{first_volume}
use Rattle.pair_table.specs.declared.names.NamedDevice.{NamedDevice}
use Rattle.pair_table.specs.declared.names.NamedVolume.{NamedVolume}
use Rattle.volume_label.specs.Labels.{label_of, with_serial}
use Rattle.volume_label.specs.declared.label.Label.{Label}
use Rattle.volume_label.proofs.Labels.{name_parts}
use Rattle.consistency.specs.Stages.{primaries_named, volumes_named}
use Rattle.xrc_session.specs.Lanes.{AreTracesGiven, SourceBytes, bytes_given, trace_given}
use Rattle.xrc_session.specs.Runs.{AreLabels, GivesLabel, front_of_volume, named_by}
use Rattle.xrc_session.specs.Runs.AreLabels.{Given, Last}

-- ---- headers

abbrev after_volumes : (version : ℕ) → List VolumeHead → Left → Result (Header × Left) Bad
after_volumes version volumes left = number_at w32 (λ n. nat_le n (sum_by tracks_of volumes)) left >>= (λ k. bases_at version volumes k.0 (0, 0) k.1 >>= (λ b. Ok (record { version = version; volumes = volumes; base = b.0 }, b.1)))

abbrev after_version : (version : ℕ) → Left → Result (Header × Left) Bad
after_version version left = number_at w16 (within 1 32) left >>= (λ c. volumes_at version c.0 [] c.1 >>= (λ v. after_volumes version v.0 v.1))

-- The volumes of a header that is read are a header's.
header_keeps : (left : Left) (x : Header × Left) → header_at left ≡ Ok x → are_volumes x.0.version [] x.0.volumes ≡ true
unfolding header_at
header_keeps left x e =
    let one = bind_ok (version_at left) (λ m. after_version m.0 m.1) x e in
    by_version one.0.0 one.0.1 one.2
  where
    header_is : (a b : Header × Left) → (let p : Result (Header × Left) Bad = Ok a in let q : Result (Header × Left) Bad = Ok b in p ≡ q) → a ≡ b
    header_is a b same = cc

    by_version : (version : ℕ) (after : Left) → after_version version after ≡ Ok x → are_volumes x.0.version [] x.0.volumes ≡ true
    by_version version after same =
        let two = bind_ok (number_at w16 (within 1 32) after) (λ c. volumes_at version c.0 [] c.1 >>= (λ v. after_volumes version v.0 v.1)) x same in
        let three = bind_ok (volumes_at version two.0.0 [] two.0.1) (λ v. after_volumes version v.0 v.1) x two.2 in
        let volumes = three.0.0 in
        let four = bind_ok (number_at w32 (λ n. nat_le n (sum_by tracks_of volumes)) three.0.1) (λ k. bases_at version volumes k.0 (0, 0) k.1 >>= (λ b. Ok (record { version = version; volumes = volumes; base = b.0 }, b.1))) x three.2 in
        let five = bind_ok (bases_at version volumes four.0.0 (0, 0) four.0.1) (λ b. Ok (record { version = version; volumes = volumes; base = b.0 }, b.1)) x four.2 in
        let found : Header × Left = (record { version = version; volumes = volumes; base = five.0.0 }, five.0.1) in
        subst (λ (h : Header × Left). are_volumes h.0.version [] h.0.volumes ≡ true) (header_is found x five.2) (volumes_keep version two.0.0 [] two.0.1 three.0 three.1).rules

-- They have serials.
serials_named : (version : ℕ) (seen : List (List ℕ)) (control volume : ℕ) (heads : List VolumeHead) → are_volumes version seen heads ≡ true → list_all (λ (v : NamedVolume). is_serial v.serial) (volumes_named control volume heads) ≡ true
serials_named version seen control volume [] are = refl
serials_named version seen control volume (v ∷ heads) are =
    let first = first_volume version seen v heads are in
    both first.serial (serials_named version (v.serial ∷ seen) control (volume + 1) heads first.others)
  where
    both : {b c : Bool} → b ≡ true → c ≡ true → (b && c) ≡ true
    both {b} {c} x y = ap (λ (e : Bool). e && c) x ∙ y

-- ---- traces

abbrev trace_with : (failed : Bool) → List ℕ → Result (Header × Left) Bad → Result Trace HeaderError
trace_with failed given read = elim read [
  | Ok h ↦ Ok (after_header failed given h.0 (entries_from (length h.1.bytes) h.0.version h.0.volumes 0 h.1))
  | Err bad ↦ Err (bad_start failed given bad)
]

trace_is : (failed : Bool) (given : List ℕ) → trace_of failed given ≡ trace_with failed given (header_at (whole_trace given))
unfolding trace_of
trace_is failed given = refl

-- A trace that sources gave has volumes with serials.
trace_keeps : (failed : Bool) (given : List ℕ) (t : Trace) → trace_of failed given ≡ Ok t → are_volumes t.header.version [] t.header.volumes ≡ true
trace_keeps failed given t is = by_header (header_at (whole_trace given)) refl (sym (trace_is failed given) ∙ is)
  where
    trace_same : (a b : Trace) → (let p : Result Trace HeaderError = Ok a in let q : Result Trace HeaderError = Ok b in p ≡ q) → a ≡ b
    trace_same a b same = cc

    by_header : (r : Result (Header × Left) Bad) → header_at (whole_trace given) ≡ r → trace_with failed given r ≡ Ok t → are_volumes t.header.version [] t.header.volumes ≡ true
    by_header (Ok h) read same =
        subst (λ (x : Trace). are_volumes x.header.version [] x.header.volumes ≡ true) (trace_same (after_header failed given h.0 (entries_from (length h.1.bytes) h.0.version h.0.volumes 0 h.1)) t same) (header_keeps (whole_trace given) h read)
    by_header (Err bad) read same = absurd cc

pub traces_have_serials : (control : ℕ) (sources : List SourceBytes) (traces : List Trace) → AreTracesGiven sources traces → list_all (λ (v : NamedVolume). is_serial v.serial) (primaries_named control traces) ≡ true
traces_have_serials control [] [] given = refl
traces_have_serials control [] (t ∷ traces) given = absurd cc
traces_have_serials control (s ∷ sources) [] given = absurd cc
traces_have_serials control (s ∷ sources) (t ∷ traces) given =
    let first : trace_given s ≡ Ok t = head_is (trace_given s) (Ok t) (map trace_given sources) (map (λ x. Ok x) traces) given in
    let others : AreTracesGiven sources traces = tail_is (trace_given s) (Ok t) (map trace_given sources) (map (λ x. Ok x) traces) given in
    list_all-append (λ (v : NamedVolume). is_serial v.serial) (volumes_named control 0 t.header.volumes) (primaries_named (control + 1) traces)
    ∙ ap (λ (b : Bool). b && list_all (λ (v : NamedVolume). is_serial v.serial) (primaries_named (control + 1) traces)) (serials_named t.header.version [] control 0 t.header.volumes (trace_keeps s.has_failed (bytes_given s) t first))
    ∙ traces_have_serials (control + 1) sources traces others
  where
    head_is : (a b : Result Trace HeaderError) (xs ys : List (Result Trace HeaderError)) → a ∷ xs ≡ b ∷ ys → a ≡ b
    head_is a b xs ys same = cc

    tail_is : (a b : Result Trace HeaderError) (xs ys : List (Result Trace HeaderError)) → a ∷ xs ≡ b ∷ ys → xs ≡ ys
    tail_is a b xs ys same = cc

-- ---- labels

label_serial : (length_is : ℕ) (bytes : List ℕ) (label : Label) → label_of length_is bytes ≡ Some label → is_serial label.serial ≡ true
label_serial length_is bytes label is = by_form (length bytes == 14 && bytes_eq (codes "XVOL") (take 4 bytes)) is
  where
    label_is : (a b : Label) → Some a ≡ Some b → a ≡ b
    label_is a b same = cc

    by_room : (b : Bool) (serial : List ℕ) (cylinders : ℕ) → is_serial serial ≡ true → (if b then Some (record { serial = serial; cylinders = cylinders }) else None) ≡ Some label → is_serial label.serial ≡ true
    by_room true serial cylinders valid same = subst (λ (l : Label). is_serial l.serial ≡ true) (label_is (record { serial = serial; cylinders = cylinders }) label same) valid
    by_room false serial cylinders valid same = absurd cc

    by_serial : (o : Option (List ℕ)) → name_in 6 (slice_range bytes 4 10) ≡ o → with_serial length_is o (from_be_bytes w32 (drop 10 bytes)) ≡ Some label → is_serial label.serial ≡ true
    by_serial None found same = absurd cc
    by_serial (Some serial) found same = by_room _ serial (from_be_bytes w32 (drop 10 bytes)) (name_parts (slice_range bytes 4 10) serial found).0 same

    by_form : (b : Bool) → (if b then with_serial length_is (name_in 6 (slice_range bytes 4 10)) (from_be_bytes w32 (drop 10 bytes)) else None) ≡ Some label → is_serial label.serial ≡ true
    by_form true same = by_serial (name_in 6 (slice_range bytes 4 10)) refl same
    by_form false same = absurd cc

named_serial : (d length_is : ℕ) (bytes : List ℕ) → list_all (λ (l : NamedDevice). is_serial l.serial) (named_by d (label_of length_is bytes)) ≡ true
named_serial d length_is bytes = by_label (label_of length_is bytes) refl
  where
    by_label : (o : Option Label) → label_of length_is bytes ≡ o → list_all (λ (l : NamedDevice). is_serial l.serial) (named_by d o) ≡ true
    by_label None is = refl
    by_label (Some label) is = ap (λ (b : Bool). b && true) (label_serial length_is bytes label is)

gives_serials : (old new : PlantState) (d : ℕ) (labels : List NamedDevice) → GivesLabel old new d labels → list_all (λ (l : NamedDevice). is_serial l.serial) labels ≡ true
gives_serials old new d labels (inl its) = ap (list_all (λ (l : NamedDevice). is_serial l.serial)) its ∙ named_serial d (old.lengths (Volume d)) (front_of_volume old d)
gives_serials old new d labels (inr none) = ap (list_all (λ (l : NamedDevice). is_serial l.serial)) none.0

-- The labels of volumes have serials.
pub labels_have_serials : (old new : PlantState) (d : ℕ) (labels : List NamedDevice) → AreLabels old new d labels → list_all (λ (l : NamedDevice). is_serial l.serial) labels ≡ true
labels_have_serials old new _ _ (Last d past) = refl
labels_have_serials old new _ _ (Given d here more there gives rest) =
    list_all-append (λ (l : NamedDevice). is_serial l.serial) here more ∙ ap (λ (b : Bool). b && list_all (λ (l : NamedDevice). is_serial l.serial) more) (gives_serials old new d here gives) ∙ labels_have_serials old new (d + 1) more rest

-- There are labels that volumes give, whether they were read or not.
pub some_labels : (old new : PlantState) (left d : ℕ) → d + left ≡ old.volumes → (labels : List NamedDevice) × AreLabels old new d labels
some_labels old new zero d all = ([], Last d (omega (arith, all)))
some_labels old new (suc left) d all =
    let more = some_labels old new left (d + 1) (omega (arith, all)) in (
      named_by d (label_of (old.lengths (Volume d)) (front_of_volume old d)) ++ more.0,
      Given d (named_by d (label_of (old.lengths (Volume d)) (front_of_volume old d))) more.0 (omega (arith, all)) (inl refl) more.1,
    )
