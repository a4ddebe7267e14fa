-- Labels, from call to call.
use Rattle.std.proofs.Common.{◌≡◌, ◌≢◌, ◌≤◌, ◌+◌, ◌-◌, inl, inr, ℕ, true, List, [], length, drop, take, Option, Some, None, Result, Ok, Err, OnOk, sym, ◌∙◌, ap, subst, arith}
use Rattle.std.specs.Prelude.{slice_get, slice_index_or, slice_range}
use Rattle.std.proofs.lemmas.Bool.{cases_eq, cases_lt}
use Rattle.std.proofs.lemmas.List.{drop-drop}
use Rattle.xrc_edge.specs.Causes.{HasCause, Rose}
use Rattle.ckd_track.specs.declared.rec.Rec.{Rec}
use Rattle.ckd_track.specs.Images.{image}
use Rattle.ckd_track.specs.SlotPlaces.{slot_place, slot_track}
use Rattle.crash_plant.specs.declared.device.Device.TheVariants.{Volume}
use Rattle.crash_plant.specs.Bytes.{Torn}
use Rattle.crash_plant.specs.Moments.{Standing, PlantState, on, Follows, IsDurable, SamePast, Same}
use Rattle.crash_plant.proofs.Steps.{follows_then}
use Rattle.applier.specs.Slots.{BeginsWithTrack, DiffersInSlots}
use Rattle.pair_table.specs.declared.row.PairRow.{PairRow}
use Rattle.pair_table.specs.Tables.{none_clash}
use Rattle.site_means.specs.Answers.{ReadsAll}
use Rattle.site_means.specs.Sight.{walked, walked_by}
use Rattle.site_means.proofs.Meanings.{same_seen, seen_meaning}
use Rattle.volume_label.specs.Labels.{label_spelling}
use Rattle.xrc_journal.specs.Items.{Item}
use Rattle.xrc_journal.specs.Contents.{content_through}
use Rattle.xrecover.specs.declared.labelling.Labelling.{Labelling}
use Rattle.xrecover.specs.declared.labelling.Labelling.TheVariants.{AsPrimary, AsItIs}
use Rattle.xrecover.specs.RedoneVolumes.{BearsLabel, Draws, Recovers, SameLabel}
use Rattle.xrecover.specs.Works.{OfOneVolume, Works}
use Rattle.xrecover.specs.Labels.{AreNamed, IsNamed, KeepsLabel, LabelsLast, TreatsLabel, TreatsLabels}
use Rattle.xrecover.proofs.Going.{Apart, none_duplex, same_row}
use Rattle.xrecover.proofs.Works.{rose_later}

-- ---- slots lie after the label

range_after : (place from to : ℕ) (b c : List ℕ) → drop place c ≡ drop place b → place ≤ from → slice_range c from to ≡ slice_range b from to
range_after place from to b c same le =
    let at : place + (from - place) ≡ from = omega (arith, le) in
    ap (λ (k : ℕ). take (to - from) (drop k c)) (sym at)
    ∙ ap (λ (l : List ℕ). take (to - from) l) (sym (drop-drop (from - place) place c) ∙ ap (λ (l : List ℕ). drop (from - place) l) same ∙ drop-drop (from - place) place b)
    ∙ ap (λ (k : ℕ). take (to - from) (drop k b)) at

begins_by : (x : ℕ) (b c : List ℕ) (t : Option (List Rec)) → drop 14 c ≡ drop 14 b → BeginsWithTrack b x t → BeginsWithTrack c x t
begins_by x b c (Some recs) same begins = range_after 14 (slot_place x) (slot_place x + length (image recs)) b c same (omega arith) ∙ begins
begins_by x b c None same begins = begins

-- What is the same after the label has the same slots.
draws_by : (device : ℕ) (items : List Item) (a b c : List ℕ) → drop 14 c ≡ drop 14 b → Draws device items a b → Draws device items a c
draws_by device items a b c same draws x has = begins_by x b c (content_through device x items (slot_track a x)) same (draws x has)

pub slots_label : (v : ℕ) (items : List Item) (b c : List ℕ) → DiffersInSlots v items b c → SameLabel b c
slots_label v items b c d = d.others 0 14 (omega arith) (λ x has. inl (omega arith))

-- ---- on one device

-- Where nothing changes no label does.
pub label_same : (a b : Standing) → Follows Same a b → Follows SameLabel a b
label_same a b f t from to z left = let start = f t from to z left in (start.0, start.1, ap (λ (l : List ℕ). take 14 l) start.2)

module _ (device : ℕ) (items : List Item) where
  -- No label changes,
  pub label_kept : (a b : Standing) → Follows SameLabel a b → LabelsLast device items a b
  label_kept a b f t from to z left = inl (f t from to z left)

  -- or nothing changed before,
  pub last_after : (a b c : Standing) → a.clock ≤ b.clock → Follows Same a b → b.bytes ≡ a.bytes → SamePast b c → LabelsLast device items b c → LabelsLast device items a c
  last_after a b c le f same k last t from to z left = elim (cases_lt t b.clock) [
    | inl early ↦ inl (label_same a b f t from (omega (arith, early)) z (k.same t (omega (arith, early)) (omega (arith, early)) z left))
    | inr late ↦ elim (last t late to z left) [
      | inl was ↦ let start = label_same a b f b.clock le (omega arith) was.0 was.1 in inl (start.0, start.1, was.2 ∙ start.2)
      | inr is ↦ inr (subst (λ (l : List ℕ). Draws device items l z) same is.0, is.1)
    ]
  ]

  -- or nothing changes afterwards.
  pub last_before : (a b c : Standing) → a.clock ≤ b.clock → LabelsLast device items a b → SamePast b c → Follows Same b c → c.bytes ≡ b.bytes → LabelsLast device items a c
  last_before a b c le last k f same t from to z left = elim (cases_lt t b.clock) [
    | inl early ↦ elim (last t from (omega (arith, early)) z (k.same t (omega (arith, early)) (omega (arith, early)) z left)) [
      | inl was ↦ inl was
      | inr is ↦ inr (is.0, is.1 ∙ ap (λ (l : List ℕ). drop 14 l) (sym same))
    ]
    | inr late ↦
        let mid = f t late to z left in
        elim (last b.clock le (omega arith) mid.0 mid.1) [
          | inl was ↦ inl (was.0, was.1, ap (λ (l : List ℕ). take 14 l) mid.2 ∙ was.2)
          | inr is ↦ inr (subst (λ (l : List ℕ). Draws device items a.bytes l) (sym mid.2) is.0, ap (λ (l : List ℕ). drop 14 l) mid.2 ∙ is.1 ∙ ap (λ (l : List ℕ). drop 14 l) (sym same))
        ]
  ]

  -- The slots were redone before, and hold their content in the end.
  pub last_redone : (a b c : Standing) → a.clock ≤ b.clock → Follows SameLabel a b → Draws device items a.bytes c.bytes → SamePast b c → LabelsLast device [] b c → LabelsLast device items a c
  last_redone a b c le f draws k last t from to z left = elim (cases_lt t b.clock) [
    | inl early ↦ inl (f t from (omega (arith, early)) z (k.same t (omega (arith, early)) (omega (arith, early)) z left))
    | inr late ↦ elim (last t late to z left) [
      | inl was ↦ let start = f b.clock le (omega arith) was.0 was.1 in inl (start.0, start.1, was.2 ∙ start.2)
      | inr is ↦ inr (draws_by device items a.bytes c.bytes z is.1 draws, is.1)
    ]
  ]

-- A label is written after a sync.
pub label_last : (device : ℕ) (a b c : Standing) → a.clock ≤ b.clock → Follows Same a b → b.bytes ≡ a.bytes → IsDurable b → SamePast b c → Follows (Torn 0 14) b c → Torn 0 14 b.bytes c.bytes → LabelsLast device [] a c
label_last device a b c le f same durable k torn now = last_after device [] a b c le f same k
    (λ t from to z left. let start = torn t from to z left in inr ((λ x none. absurd cc), start.2.after ∙ ap (λ (l : List ℕ). drop 14 l) (durable start.0 start.1) ∙ sym now.after))

-- ---- on a plant

module _ (tells : Type 0) (told : tells) where
  -- reads, and what follows them
  pub labels_read : (items : List Item) (a b : PlantState) → ReadsAll tells a b → (v : ℕ) → LabelsLast v items (on a (Volume v)) (on b (Volume v))
  labels_read items a b r v = label_kept v items (on a (Volume v)) (on b (Volume v)) (label_same (on a (Volume v)) (on b (Volume v)) (r.moments told (Volume v)))

  pub labels_after : (step : _) (a b c : PlantState) → ReadsAll tells a b → Works tells step b c → ((v : ℕ) → LabelsLast v (walked b b.bytes) (on b (Volume v)) (on c (Volume v))) → (v : ℕ) → LabelsLast v (walked a a.bytes) (on a (Volume v)) (on c (Volume v))
  labels_after step a b c r w last v = last_after v (walked a a.bytes) (on a (Volume v)) (on b (Volume v)) (on c (Volume v)) ((r.only.elapses told).kept (Volume v)).later
      (r.moments told (Volume v)) (r.same told (Volume v)) ((w.elapses told).kept (Volume v))
      (subst (λ (l : List Item). LabelsLast v l (on b (Volume v)) (on c (Volume v))) (ap walked_by (seen_meaning a b (same_seen tells a b r told))) (last v))

  -- One pair more: its volume was as at first, and the others stay.
  module _ (front : List PairRow) (r : PairRow) (items : List Item) (step : List ℕ → List ℕ → Type 0) (a b c : PlantState) (apart : Apart front r) (before : Works tells (Recovers front items) a b) (works : Works tells (OfOneVolume r.device step) b c) where
    untouched : (x y : List ℕ) → Recovers front items (Volume r.device) x y → y ≡ x
    untouched x y p = p.1 (λ has. let none = none_duplex front r apart in absurd (cc (has, none)))

    pub labels_pair : (own : List Item) → own ≡ items → ((v : ℕ) → LabelsLast v items (on a (Volume v)) (on b (Volume v))) → LabelsLast r.device own (on b (Volume r.device)) (on c (Volume r.device)) → (v : ℕ) → LabelsLast v items (on a (Volume v)) (on c (Volume v))
    labels_pair own same last here v = elim (cases_eq v r.device) [
      | inl is ↦ subst (λ (n : ℕ). LabelsLast n items (on a (Volume n)) (on c (Volume n))) (sym is)
          (last_after r.device items (on a (Volume r.device)) (on b (Volume r.device)) (on c (Volume r.device)) ((before.elapses told).kept (Volume r.device)).later
          (λ t from to z left. let start = before.moments told (Volume r.device) t from to z left in (start.0, start.1, untouched start.0 z start.2))
          (untouched (a.bytes (Volume r.device)) (b.bytes (Volume r.device)) (before.bytes told (Volume r.device))) ((works.elapses told).kept (Volume r.device))
          (subst (λ (l : List Item). LabelsLast r.device l (on b (Volume r.device)) (on c (Volume r.device))) same here))
      | inr differ ↦
          last_before v items (on a (Volume v)) (on b (Volume v)) (on c (Volume v)) ((before.elapses told).kept (Volume v)).later (last v) ((works.elapses told).kept (Volume v))
          (λ t from to z left. let start = works.moments told (Volume v) t from to z left in (start.0, start.1, (start.2).1 differ)) ((works.bytes told (Volume v)).1 differ)
    ]

-- ---- the labels in the end

-- A label that was kept before
pub named_then : (row : PairRow) (a b c : PlantState) → SameLabel (a.bytes (Volume row.device)) (b.bytes (Volume row.device)) → a.faults (Volume row.device) ≤ b.faults (Volume row.device) → IsNamed row b c → IsNamed row a c
named_then row a b c same le named quiet = elim (named (λ rose. quiet (rose_later (a.faults (Volume row.device)) (b.faults (Volume row.device)) (c.faults (Volume row.device)) le rose))) [
  | inl kept ↦ inl (kept ∙ same)
  | inr is ↦ inr is
]

-- and a volume that stays afterwards.
pub named_still : (row : PairRow) (a b c : PlantState) → c.bytes (Volume row.device) ≡ b.bytes (Volume row.device) → c.faults (Volume row.device) ≡ b.faults (Volume row.device) → IsNamed row a b → IsNamed row a c
named_still row a b c same count named quiet = elim (named (λ rose. quiet (subst (λ (n : ℕ). Rose (a.faults (Volume row.device)) n) (sym count) rose))) [
  | inl kept ↦ inl (ap (λ (l : List ℕ). take 14 l) same ∙ kept)
  | inr is ↦ inr (ap (λ (l : List ℕ). take 14 l) same ∙ is)
]

-- A label was written, or the count rose.
pub named_by : {E : Type 0} (row : PairRow) (a b c : PlantState) (r : Result (Unit {0}) E) → a.faults (Volume row.device) ≤ b.faults (Volume row.device) → HasCause (b.faults (Volume row.device)) (c.faults (Volume row.device)) r
    → OnOk r (take 14 (c.bytes (Volume row.device)) ≡ label_spelling (record { serial = row.primary; cylinders = row.cylinders })) → IsNamed row a c
named_by row a b c (Ok v) le cause label quiet = inr label
named_by row a b c (Err e) le cause label quiet = absurd (quiet (rose_later (a.faults (Volume row.device)) (b.faults (Volume row.device)) (c.faults (Volume row.device)) le cause.failed))

-- Where the bytes are the same so are labels.
pub named_same : (rows : List PairRow) (a b : PlantState) → ((v : ℕ) → b.bytes (Volume v) ≡ a.bytes (Volume v)) → AreNamed rows a b
named_same rows a b same k d lt duplex quiet = inl (ap (λ (l : List ℕ). take 14 l) (same (slice_index_or rows k d).device))

-- Calls after others that only read
pub named_after : (rows : List PairRow) (a b c : PlantState) → ((v : ℕ) → b.bytes (Volume v) ≡ a.bytes (Volume v)) → ((v : ℕ) → a.faults (Volume v) ≤ b.faults (Volume v)) → AreNamed rows b c → AreNamed rows a c
named_after rows a b c same le named k d lt duplex =
    let row = slice_index_or rows k d in
    named_then row a b c (ap (λ (l : List ℕ). take 14 l) (same row.device)) (le row.device) (named k d lt duplex)

-- One pair more, of whose device no other row is.
pub named_pair : (tells : Type 0) (told : tells) (rows : List PairRow) (i : ℕ) (r : PairRow) (items : List Item) (step : List ℕ → List ℕ → Type 0) (a b c : PlantState) → none_clash rows ≡ true → slice_get rows i ≡ Some r → Apart (take i rows) r
    → Works tells (Recovers (take i rows) items) a b → Works tells (OfOneVolume r.device step) b c → ((v : ℕ) → v ≢ r.device → c.faults (Volume v) ≡ b.faults (Volume v)) → AreNamed rows a b → IsNamed r b c → AreNamed rows a c
named_pair tells told rows i r items step a b c keeps is apart before works counts named here k d lt duplex =
    let row = slice_index_or rows k d in
    elim (cases_eq row.device r.device) [
      | inl own ↦ subst (λ (q : PairRow). IsNamed q a c) (sym (same_row rows i r k d keeps is lt own))
          (named_then r a b c
          (ap (λ (l : List ℕ). take 14 l) (untouched tells told (take i rows) r items step a b c apart before works (a.bytes (Volume r.device)) (b.bytes (Volume r.device)) (before.bytes told (Volume r.device))))
          (before.faults (Volume r.device)) here)
      | inr differ ↦ named_still row a b c ((works.bytes told (Volume row.device)).1 differ) (counts row.device differ) (named k d lt duplex)
    ]

-- ---- what becomes of labels

-- A label that stays, and stays again.
pub keeps_then : (a b c : Standing) → a.clock ≤ b.clock → KeepsLabel a b → SamePast b c → KeepsLabel b c → KeepsLabel a c
keeps_then a b c le k kept l = record {
  bytes = l.bytes ∙ k.bytes;
  moments = follows_then a b c SameLabel SameLabel SameLabel le k.moments kept l.moments (λ p q here s. s) (λ p q r here there e f. f ∙ e);
}

-- It stays where a device does.
pub keeps_same : (a b : Standing) → b.bytes ≡ a.bytes → Follows Same a b → KeepsLabel a b
keeps_same a b same f = record { bytes = ap (λ (l : List ℕ). take 14 l) same; moments = label_same a b f }

-- A volume bears its label after calls that kept the one that was there.
pub bears_then : (labelling : Labelling) (row : PairRow) (a b c : List ℕ) → SameLabel a b → BearsLabel labelling row b c → BearsLabel labelling row a c
bears_then AsPrimary row a b c same bears = bears
bears_then AsItIs row a b c same bears = bears ∙ same

-- calls that keep a label
pub treats_kept : (labelling : Labelling) (row : PairRow) (items : List Item) (a b : PlantState) → KeepsLabel (on a (Volume row.device)) (on b (Volume row.device)) → TreatsLabel labelling row items a b
treats_kept AsPrimary row items a b k = (label_kept row.device items (on a (Volume row.device)) (on b (Volume row.device)) k.moments, λ quiet. inl k.bytes)
treats_kept AsItIs row items a b k = k

module _ (tells : Type 0) (told : tells) where
  -- calls that read, and calls after them
  pub treats_read : (labelling : Labelling) (rows : List PairRow) (items : List Item) (a b : PlantState) → ReadsAll tells a b → TreatsLabels labelling rows items a b
  treats_read AsPrimary rows items a b r = (labels_read tells told items a b r, named_same rows a b (λ v. r.same told (Volume v)))
  treats_read AsItIs rows items a b r = λ v. keeps_same (on a (Volume v)) (on b (Volume v)) (r.same told (Volume v)) (r.moments told (Volume v))

  pub treats_after : (labelling : Labelling) (rows : List PairRow) (step : _) (a b c : PlantState) → ReadsAll tells a b → Works tells step b c → TreatsLabels labelling rows (walked b b.bytes) b c → TreatsLabels labelling rows (walked a a.bytes) a c
  treats_after AsPrimary rows step a b c r w t = (labels_after tells told step a b c r w t.0, named_after rows a b c (λ v. r.same told (Volume v)) (λ v. r.only.faults (Volume v)) t.1)
  treats_after AsItIs rows step a b c r w t = λ v.
      keeps_then (on a (Volume v)) (on b (Volume v)) (on c (Volume v)) ((r.only.elapses told).kept (Volume v)).later (keeps_same (on a (Volume v)) (on b (Volume v)) (r.same told (Volume v)) (r.moments told (Volume v))) ((w.elapses told).kept (Volume v)) (t v)

  -- One pair more.
  pub treats_pair : (labelling : Labelling) (rows : List PairRow) (i : ℕ) (r : PairRow) (items own : List Item) (step : List ℕ → List ℕ → Type 0) (a b c : PlantState) → none_clash rows ≡ true → slice_get rows i ≡ Some r → Apart (take i rows) r
      → Works tells (Recovers (take i rows) items) a b → Works tells (OfOneVolume r.device step) b c → ((v : ℕ) → v ≢ r.device → c.faults (Volume v) ≡ b.faults (Volume v)) → own ≡ items
      → TreatsLabels labelling rows items a b → TreatsLabel labelling r own b c → TreatsLabels labelling rows items a c
  treats_pair AsPrimary rows i r items own step a b c keeps is apart before works counts same t here = (
    labels_pair tells told (take i rows) r items step a b c apart before works own same t.0 here.0,
    named_pair tells told rows i r items step a b c keeps is apart before works counts t.1 here.1,
  )
  treats_pair AsItIs rows i r items own step a b c keeps is apart before works counts same t here = λ v. keeps_then (on a (Volume v)) (on b (Volume v)) (on c (Volume v)) ((before.elapses told).kept (Volume v)).later (t v) ((works.elapses told).kept (Volume v)) (kept_here v)
    where
      kept_here : (v : ℕ) → KeepsLabel (on b (Volume v)) (on c (Volume v))
      kept_here v = elim (cases_eq v r.device) [
        | inl own ↦ subst (λ (n : ℕ). KeepsLabel (on b (Volume n)) (on c (Volume n))) (sym own) here
        | inr differ ↦
            keeps_same (on b (Volume v)) (on c (Volume v)) ((works.bytes told (Volume v)).1 differ) (λ t from to z left. let start = works.moments told (Volume v) t from to z left in (start.0, start.1, (start.2).1 differ))
      ]
