-- Volumes that are named by their labels.
use Rattle.std.proofs.Common.{◌≡◌, inl, inr, ℕ, zero, suc, ◌+◌, ◌*◌, ◌<◌, ◌≤◌, ◌&&◌, true, nat_lt, nat_le, List, [], ◌∷◌, ◌++◌, take, Option, Some, None, Result, Ok, Err, refl, sym, ap, subst, ◌∙◌, append-nil, append_assoc, add-one, arith}
use Rattle.std.specs.Prelude.{OnErr, OnOk, IsTrue, slice_index_or}
use Rattle.std.specs.List.{All, list_all}
use Rattle.std.proofs.lemmas.Bool.{and_from, and_parts, cases_eq, lt-ltb}
use Rattle.std.proofs.lemmas.List.Elements.{All-append, All-cons, All-nil}
use Rattle.std.proofs.lemmas.List.Folds.{list_all-append}
use Rattle.crash_plant.specs.declared.device.Device.TheVariants.{Volume}
use Rattle.crash_plant.specs.Calls.{SameSite, WorksOn}
use Rattle.crash_plant.proofs.Steps.{works_on_here, works_on_more, works_on_trans}
use Rattle.crash_plant.specs.Moments.{Follows, PlantState, Same, on}
use Rattle.pair_table.specs.declared.names.NamedDevice.{NamedDevice}
use Rattle.pair_table.specs.Naming.{Naming, with_label}
use Rattle.site_store.specs.Commands.{LabelsFit, label_has_volume}
use Rattle.site_store.specs.Records.{IsVolume, VolumesStay}
use Rattle.site_store.proofs.VolumesStaying.{stay_here, stay_then}
use Rattle.volume_label.specs.declared.label.Label.{Label}
use Rattle.volume_label.specs.Labels.{holds_cylinders, label_of}
use Rattle.xrc_session.specs.Runs.{AreLabels, AreLabelsRead, GivesLabel, IsFaultless, NamesLabel, front_of_volume, named_by}
use Rattle.xrc_session.specs.Runs.AreLabels.{Given, Last}

-- ---- one volume

-- One volume was read.
pub stay_by_read : (tells : Type 0) (device : ℕ) (old new : PlantState) → (tells → new.bytes (Volume device) ≡ old.bytes (Volume device)) → (tells → Follows Same (on old (Volume device)) (on new (Volume device)))
    → WorksOn tells (λ d. d ≡ Volume device) old new → VolumesStay tells old new
stay_by_read tells device old new same moments works = record {
  bytes = λ told d. elim (cases_eq d device) [ inl here ↦ subst (λ e. new.bytes (Volume e) ≡ old.bytes (Volume e)) (sym here) (same told) | inr other ↦ (works.others told (Volume d) (λ is. other (cc is))).bytes ];
  images = λ told d. elim (cases_eq d device) [
    | inl here ↦ subst (λ e. Follows Same (on old (Volume e)) (on new (Volume e))) (sym here) (moments told)
    | inr other ↦ (works.others told (Volume d) (λ is. other (cc is))).images
  ];
}

-- It gave its label, and its count is as before.
pub names_its : {E : Type 0} (result : Result (Unit {0}) E) (old new : PlantState) (d : ℕ) (was now : Naming) (label : Label) → label_of (old.lengths (Volume d)) (front_of_volume old d) ≡ Some label → new.faults (Volume d) ≡ old.faults (Volume d)
    → OnOk result (now ≡ with_label (record { device = d; serial = label.serial; cylinders = label.cylinders }) was) → OnOk result (NamesLabel old new d was now)
names_its (Ok x) old new d was now label is same named =
    let its : NamedDevice = record { device = d; serial = label.serial; cylinders = label.cylinders } in
    record { labels = its ∷ []; gives = inl (ap (named_by d) (sym is)); faultless = All-cons (IsFaultless old new) its [] same (All-nil (IsFaultless old new)); are = named }
names_its (Err e) old new d was now label is same named = tt

-- It gave none.
pub names_none : (old new : PlantState) (d : ℕ) (names : Naming) → GivesLabel old new d [] → NamesLabel old new d names names
names_none old new d names gives = record {
  labels = [];
  gives = gives;
  faultless = All-nil (IsFaultless old new);
  are = ap (λ (labels : List NamedDevice). record names { labels = labels }) (sym (append-nil names.labels));
}

-- What a volume gives is its own.
gives_own : (old new : PlantState) (d : ℕ) (labels : List NamedDevice) → GivesLabel old new d labels → All (λ (l : NamedDevice). l.device ≡ d) labels
gives_own old new d labels gives = elim gives [
  | inl its ↦ subst (All (λ (l : NamedDevice). l.device ≡ d)) (sym its) (of (label_of (old.lengths (Volume d)) (front_of_volume old d)))
  | inr none ↦ subst (All (λ (l : NamedDevice). l.device ≡ d)) (sym none.0) (All-nil (λ (l : NamedDevice). l.device ≡ d))
]
  where
    of : (o : Option Label) → All (λ (l : NamedDevice). l.device ≡ d) (named_by d o)
    of None = All-nil (λ (l : NamedDevice). l.device ≡ d)
    of (Some label) = All-cons (λ (l : NamedDevice). l.device ≡ d) (record { device = d; serial = label.serial; cylinders = label.cylinders }) [] refl (All-nil (λ (l : NamedDevice). l.device ≡ d))

-- ---- labels that fit

fits_alike : (old new : PlantState) → SameSite old new → (l : NamedDevice) → label_has_volume new l ≡ label_has_volume old l
fits_alike old new same l =
    ap (λ (n : ℕ). nat_lt l.device n && nat_le (512 + l.cylinders * 860160) (new.lengths (Volume l.device))) same.volumes
    ∙ ap (λ (n : ℕ). nat_lt l.device old.volumes && nat_le (512 + l.cylinders * 860160) n) (same.lengths (Volume l.device))

all_fit_then : (old new : PlantState) → SameSite old new → (labels : List NamedDevice) → IsTrue (list_all (label_has_volume old) labels) → IsTrue (list_all (label_has_volume new) labels)
all_fit_then old new same [] fit = fit
all_fit_then old new same (l ∷ labels) fit =
    let both = and_parts (label_has_volume old l) (list_all (label_has_volume old) labels) fit in
    and_from (label_has_volume new l) (list_all (label_has_volume new) labels) (fits_alike old new same l ∙ both.0) (all_fit_then old new same labels both.1)

-- Labels fit a plant of the same numbers and lengths.
pub labels_fit_then : (old new : PlantState) (names : Naming) → SameSite old new → LabelsFit old names → LabelsFit new names
labels_fit_then old new names same fit = all_fit_then old new same names.labels fit

-- A label fits as its volume has room for its cylinders.
one_fits : (plant : PlantState) (names : Naming) (l : NamedDevice) → l.device < plant.volumes → IsTrue (holds_cylinders (plant.lengths (Volume l.device)) l.cylinders) → LabelsFit plant names → LabelsFit plant (with_label l names)
one_fits plant names l there room fit =
    let has = and_from (nat_lt l.device plant.volumes) (nat_le (512 + l.cylinders * 860160) (plant.lengths (Volume l.device))) (lt-ltb l.device plant.volumes there) (and_parts (nat_le 1 l.cylinders) _ room).1 in
    list_all-append (label_has_volume plant) names.labels (l ∷ [])
    ∙ and_from (list_all (label_has_volume plant) names.labels) (label_has_volume plant l && true) fit (and_from (label_has_volume plant l) true has refl)

pub labels_fit_more : {E : Type 0} (result : Result (Unit {0}) E) (old new : PlantState) (was now : Naming) (l : NamedDevice) → SameSite old new → l.device < old.volumes
    → IsTrue (holds_cylinders (old.lengths (Volume l.device)) l.cylinders) → LabelsFit old was → OnOk result (now ≡ with_label l was) → OnErr result (now ≡ was) → LabelsFit new now
labels_fit_more (Ok x) old new was now l same there room fit ok err = subst (LabelsFit new) (sym ok) (labels_fit_then old new (with_label l was) same (one_fits old was l there room fit))
labels_fit_more (Err e) old new was now l same there room fit ok err = subst (LabelsFit new) (sym err) (labels_fit_then old new was same fit)

-- ---- all volumes

-- What a volume gives by calls it gives since earlier ones that left it as it was.
gives_since : (old mid new : PlantState) (d : ℕ) (labels : List NamedDevice) → SameSite old mid → mid.bytes (Volume d) ≡ old.bytes (Volume d) → old.faults (Volume d) ≤ mid.faults (Volume d)
    → GivesLabel mid new d labels → GivesLabel old new d labels
gives_since old mid new d labels same bytes later gives = elim gives [
  | inl its ↦
      inl (its ∙ ap (λ (n : ℕ). named_by d (label_of n (front_of_volume mid d))) (same.lengths (Volume d)) ∙ ap (λ (b : List ℕ). named_by d (label_of (old.lengths (Volume d)) (take 14 b))) bytes)
  | inr none ↦ inr (none.0, elim none.1 [ inl rose ↦ inl (omega arith) | inr most ↦ inr most ])
]

-- It gives the same if its count rises later.
gives_still : (old mid new : PlantState) (d : ℕ) (labels : List NamedDevice) → old.faults (Volume d) ≤ mid.faults (Volume d) → mid.faults (Volume d) ≤ new.faults (Volume d) → GivesLabel old mid d labels → GivesLabel old new d labels
gives_still old mid new d labels before later gives = elim gives [
  | inl its ↦ inl its
  | inr none ↦ inr (none.0, elim none.1 [ inl rose ↦ inl (omega arith) | inr most ↦ elim (cases_eq (new.faults (Volume d)) (mid.faults (Volume d))) [ inl same ↦ inr (same ∙ most) | inr more ↦ inl (omega arith) ] ])
]

-- The labels that the volumes below a number gave, in order.
abbrev pub Gave : (old new : PlantState) → (below : ℕ) → List NamedDevice → Type 0
Gave old new zero all = all ≡ []
Gave old new (suc n) all = (before : List NamedDevice) × (labels : List NamedDevice) × (all ≡ before ++ labels) × GivesLabel old new n labels × Gave old new n before

gave_still : (old mid new : PlantState) (n : ℕ) (all : List NamedDevice) → ((d : ℕ) → old.faults (Volume d) ≤ mid.faults (Volume d)) → ((d : ℕ) → mid.faults (Volume d) ≤ new.faults (Volume d)) → Gave old mid n all → Gave old new n all
gave_still old mid new zero all before later gave = gave
gave_still old mid new (suc n) all before later gave = (gave.0, gave.1, gave.2, gives_still old mid new n gave.1 (before n) (later n) gave.3, gave_still old mid new n gave.0 before later gave.4)

are_labels : (old new : PlantState) (n : ℕ) (all more : List NamedDevice) → n ≤ old.volumes → Gave old new n all → AreLabels old new n more → AreLabels old new 0 (all ++ more)
are_labels old new zero all more within gave rest = subst (λ (l : List NamedDevice). AreLabels old new 0 (l ++ more)) (sym gave) rest
are_labels old new (suc n) all more within gave rest =
    let (before, labels, are, gives, earlier) = gave in
    let here = Given n labels more (omega arith) gives (rw add-one rest) in
    subst (AreLabels old new 0) (sym (append_assoc before labels more) ∙ ap (λ (l : List NamedDevice). l ++ more) (sym are)) (are_labels old new n before (labels ++ more) (omega arith) earlier here)

-- A label is of a volume below a number, which had no fault.
abbrev pub IsFaultlessBelow : (old now : PlantState) → (below : ℕ) → NamedDevice → Type 0
IsFaultlessBelow old now below l = (l.device < below) × IsFaultless old now l

-- The volumes below a number were named by their labels, and the others weren't read.
pub record IsLabelled (tells : Type 0) (old now : PlantState) (was names : Naming) (below : ℕ) : Type 0 where
  pub primaries : names.primaries ≡ was.primaries
  pub broken : names.broken ≡ was.broken
  pub fit : LabelsFit now names
  pub stay : VolumesStay tells old now
  pub works : WorksOn tells IsVolume old now
  pub gave : tells → Gave old now below names.labels
  pub faultless : tells → All (IsFaultlessBelow old now below) names.labels
  pub unread : (d : ℕ) → below ≤ d → now.faults (Volume d) ≡ old.faults (Volume d)

-- None was yet.
pub labelled_none : (tells : Type 0) (now : PlantState) (names : Naming) → names.labels ≡ [] → IsLabelled tells now now names names 0
labelled_none tells now names none = record {
  primaries = refl;
  broken = refl;
  fit = ap (list_all (label_has_volume now)) none;
  stay = stay_here tells now;
  works = works_on_here tells IsVolume now;
  gave = λ told. none;
  faultless = λ told. subst (All (IsFaultlessBelow now now 0)) (sym none) (All-nil (IsFaultlessBelow now now 0));
  unread = λ d later. refl;
}

module _ (tells : Type 0) (old mid new : PlantState) (was names : Naming) (n : ℕ) (so_far : IsLabelled tells old mid was names n) (stay : VolumesStay tells mid new) (works : WorksOn tells (λ d. d ≡ Volume n) mid new) where
  abbrev step : WorksOn tells IsVolume mid new
  step = works_on_more tells (λ d. d ≡ Volume n) IsVolume mid new (λ d is. subst IsVolume (sym is) tt) works

  pub works_next : WorksOn tells IsVolume old new
  works_next = works_on_trans tells IsVolume old mid new so_far.works step

  pub stay_next : VolumesStay tells old new
  stay_next = stay_then tells old mid new so_far.works.elapses step.elapses so_far.stay stay

  gave_next : (next : Naming) → tells → NamesLabel mid new n names next → Gave old new (suc n) next.labels
  gave_next next told named =
      let here = gives_since old mid new n named.labels so_far.works.site (so_far.stay.bytes told n) (so_far.works.faults (Volume n)) named.gives in
      (names.labels, named.labels, ap (λ (m : Naming). m.labels) named.are, here, gave_still old mid new n names.labels (λ d. so_far.works.faults (Volume d)) (λ d. works.faults (Volume d)) (so_far.gave told))

  -- The counts of the other volumes are as they were.
  unread_next : (d : ℕ) → ¬ d ≡ n → new.faults (Volume d) ≡ mid.faults (Volume d)
  unread_next d other = works.others_faults (Volume d) (λ is. other (cc is))

  faultless_next : (next : Naming) → tells → NamesLabel mid new n names next → All (IsFaultlessBelow old new (suc n)) next.labels
  faultless_next next told named =
      subst (All (IsFaultlessBelow old new (suc n))) (sym (ap (λ (m : Naming). m.labels) named.are))
      (All-append (IsFaultlessBelow old new (suc n)) names.labels named.labels
      (λ k d less.
      let was = so_far.faultless told k d less in
      (omega (arith, was.0), unread_next (slice_index_or names.labels k d).device (λ same. omega (arith, same, was.0)) ∙ was.1))
      (λ k d less.
      let own = gives_own mid new n named.labels named.gives k d less in
      (omega (arith, own), named.faultless k d less ∙ so_far.unread (slice_index_or named.labels k d).device (omega (arith, own)))))

  pub labelled_next : (next : Naming) → LabelsFit new next → (next.primaries ≡ names.primaries) × (next.broken ≡ names.broken) → (tells → NamesLabel mid new n names next) → IsLabelled tells old new was next (n + 1)
  labelled_next next fit others named = record {
    primaries = others.0 ∙ so_far.primaries;
    broken = others.1 ∙ so_far.broken;
    fit = fit;
    stay = stay_next;
    works = works_next;
    gave = λ told. rw add-one (gave_next next told (named told));
    faultless = λ told. rw add-one (faultless_next next told (named told));
    unread = λ d later. unread_next d (λ same. omega (arith, same, later)) ∙ so_far.unread d (omega (arith, later));
  }

pub labelled_all : (tells : Type 0) (old now : PlantState) (was names : Naming) (n : ℕ) → n ≡ old.volumes → IsLabelled tells old now was names n → tells → AreLabelsRead old now names.labels
labelled_all tells old now was names n all labelled told = record {
  are = subst (AreLabels old now 0) (append-nil names.labels) (are_labels old now n names.labels [] (omega arith) (labelled.gave told) (Last n (omega arith)));
  faultless = λ k d less. (labelled.faultless told k d less).1;
}

-- ---- labels over more calls

-- Labels that volumes give by calls they give since earlier ones that left them as they were.
pub labels_since : (old mid new : PlantState) (d : ℕ) (labels : List NamedDevice) → SameSite old mid → ((v : ℕ) → mid.bytes (Volume v) ≡ old.bytes (Volume v)) → ((v : ℕ) → old.faults (Volume v) ≤ mid.faults (Volume v)) → AreLabels mid new d labels → AreLabels old new d labels
labels_since old mid new _ _ same bytes later (Last d all) = Last d (let volumes = same.volumes in omega arith)
labels_since old mid new _ _ same bytes later (Given d given more there gives rest) =
    Given d given more (let volumes = same.volumes in omega arith) (gives_since old mid new d given same (bytes d) (later d) gives) (labels_since old mid new (d + 1) more same bytes later rest)

-- They are the same if counts rise later.
pub labels_still : (old mid new : PlantState) (d : ℕ) (labels : List NamedDevice) → ((v : ℕ) → old.faults (Volume v) ≤ mid.faults (Volume v)) → ((v : ℕ) → mid.faults (Volume v) ≤ new.faults (Volume v)) → AreLabels old mid d labels → AreLabels old new d labels
labels_still old mid new _ _ before later (Last d all) = Last d all
labels_still old mid new _ _ before later (Given d given more there gives rest) = Given d given more there (gives_still old mid new d given (before d) (later d) gives) (labels_still old mid new (d + 1) more before later rest)

-- Labels that were read by calls were read since earlier ones that left the volumes as they were.
pub read_since : (old mid new : PlantState) (labels : List NamedDevice) → SameSite old mid → ((v : ℕ) → mid.bytes (Volume v) ≡ old.bytes (Volume v)) → ((v : ℕ) → mid.faults (Volume v) ≡ old.faults (Volume v)) → AreLabelsRead mid new labels → AreLabelsRead old new labels
read_since old mid new labels same bytes faults read = record {
  are = labels_since old mid new 0 labels same bytes (λ v. omega (arith, faults v)) read.are;
  faultless = λ k d less. read.faultless k d less ∙ faults (slice_index_or labels k d).device;
}

-- So they were by later calls, too, that left the volumes' counts as they were.
pub read_still : (old mid new : PlantState) (labels : List NamedDevice) → ((v : ℕ) → old.faults (Volume v) ≤ mid.faults (Volume v)) → ((v : ℕ) → new.faults (Volume v) ≡ mid.faults (Volume v)) → AreLabelsRead old mid labels → AreLabelsRead old new labels
read_still old mid new labels before faults read = record {
  are = labels_still old mid new 0 labels before (λ v. omega (arith, faults v)) read.are;
  faultless = λ k d less. faults (slice_index_or labels k d).device ∙ read.faultless k d less;
}
