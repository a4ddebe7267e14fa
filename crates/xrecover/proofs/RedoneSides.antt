-- The walk's items applied side by side, and then the volumes finished row by row.
use Rattle.std.proofs.Common.{◌≡◌, ◌≤◌, ◌+◌, ◌&&◌, ◌||◌, ◌<◌, inl, inr, ℕ, Bool, true, false, cond, List, [], ◌∷◌, length, refl, sym, ◌∙◌, subst, arith}
use Rattle.std.specs.Prelude.{All, Contains, filter, map, slice_index_or}
use Rattle.std.specs.List.{list_any}
use Rattle.std.proofs.lemmas.Bool.{and_parts, cases_Bool}
use Rattle.std.proofs.lemmas.List.Elements.{All-nil, All-cons, All-head, All-tail, All-contains_itself}
use Rattle.std.proofs.lemmas.Option.{slice_get-get_or}
use Rattle.crash_plant.specs.declared.device.Device.{Device}
use Rattle.crash_plant.specs.declared.device.Device.TheVariants.{Control, State, Journal, Volume}
use Rattle.crash_plant.specs.Moments.{PlantState, on}
use Rattle.pair_table.specs.declared.row.PairRow.{PairRow}
use Rattle.xrc_journal.specs.Items.{Item}
use Rattle.xrc_journal.specs.Jobs.{FailsByCount}
use Rattle.applier.specs.Slots.{DiffersInSlots}
use Rattle.xrecover.specs.declared.labelling.Labelling.{Labelling}
use Rattle.xrecover.specs.declared.labelling.Labelling.TheVariants.{AsPrimary, AsItIs}
use Rattle.xrecover.specs.FinishedPairs.{FinishesPairs}
use Rattle.xrecover.specs.Labels.{KeepsLabels, LabelsLast, TreatsLabels}
use Rattle.xrecover.specs.Pairs.{AreFaulty, HasDuplex, SparesOthers, duplex_devices, is_duplex_of}
use Rattle.pair_table.specs.States.{is_duplex}
use Rattle.xrecover.specs.RedoneVolumes.{Draws, HoldsTracks, Recovers, Redone, SameLabel}
use Rattle.xrecover.specs.SideVolumes.{AppliesSides, OfVolumes}
use Rattle.xrecover.specs.Works.{Works}
use Rattle.xrecover.proofs.Contents.{draws_after, track_kept}
use Rattle.xrecover.proofs.Fails.{counted_same, counted_then}
use Rattle.xrecover.proofs.Going.{all_listed, either}
use Rattle.xrecover.proofs.Labels.{bears_then, keeps_same, keeps_then, label_kept, last_redone, named_then, slots_label}
use Rattle.xrecover.proofs.Relations.{differs_redoes, redoes_more, redoes_then}
use Rattle.xrecover.proofs.Rows.{duplex_at}
use Rattle.xrecover.proofs.Works.{works_more, works_trans}

-- ---- the devices of duplex pairs

filter_same : (f g : ℕ → Bool) (xs : List ℕ) → All (λ v. f v ≡ g v) xs → filter f xs ≡ filter g xs
filter_same f g [] same = refl
filter_same f g (x ∷ xs) same = (λ i. cond (All-head (λ v. f v ≡ g v) x xs same i) (x ∷ filter_same f g xs (All-tail (λ v. f v ≡ g v) x xs same) i) (filter_same f g xs (All-tail (λ v. f v ≡ g v) x xs same) i))

of_duplex : (P : ℕ → Type 0) (rows : List PairRow) → All (λ row. is_duplex row.state ≡ true → P row.device) rows → All P (duplex_devices rows)
of_duplex P [] all = All-nil P
of_duplex P (q ∷ rows) all = by_state (is_duplex q.state) refl (of_duplex P rows (All-tail (λ row. is_duplex row.state ≡ true → P row.device) q rows all))
  where
    by_state : (d : Bool) → is_duplex q.state ≡ d → All P (duplex_devices rows) → All P (map (λ (p : PairRow). p.device) (cond d (q ∷ filter (λ p. is_duplex p.state) rows) (filter (λ p. is_duplex p.state) rows)))
    by_state true is more = All-cons P q.device (duplex_devices rows) (All-head (λ row. is_duplex row.state ≡ true → P row.device) q rows all is) more
    by_state false is more = more

has_at : (rows : List PairRow) (k : ℕ) (d : PairRow) → k < length rows → is_duplex (slice_index_or rows k d).state ≡ true → HasDuplex rows (slice_index_or rows k d).device
has_at rows k d lt duplex = duplex_at rows k (slice_index_or rows k d) (slice_get-get_or rows k d lt) duplex

-- ---- after the walk

module _ (tells : Type 0) (rows : List PairRow) (items : List Item) (was left : ℕ → Bool) (a b : PlantState) (walk : AppliesSides tells items was left a b) (duplex : (v : ℕ) → HasDuplex rows v → was v ≡ false) (others : (v : ℕ) → ¬ HasDuplex rows v → was v ≡ true) where
  recovers_sides : (d : Device) (x y : List ℕ) → OfVolumes was (λ v b c. DiffersInSlots v items b c) d x y → Recovers rows items d x y
  recovers_sides Control x y p = p
  recovers_sides State x y p = p
  recovers_sides (Journal j) x y p = p
  recovers_sides (Volume v) x y p = (λ has. differs_redoes v items items x y (λ x h. h) (p.0 (duplex v has)), λ none. p.1 (others v none))

  pub walk_works : Works tells (Recovers rows items) a b
  walk_works = works_more tells (OfVolumes was (λ v b c. DiffersInSlots v items b c)) (Recovers rows items) a b (λ told d x y p. recovers_sides d x y p) walk.works

  label_step : (v : ℕ) (x y : List ℕ) → OfVolumes was (λ v b c. DiffersInSlots v items b c) (Volume v) x y → SameLabel x y
  label_step v x y p = elim (cases_Bool (was v)) [
    | inl alone ↦ subst (λ (l : List ℕ). SameLabel x l) (sym (p.1 alone)) refl
    | inr live ↦ slots_label v items x y (p.0 live)
  ]

  pub walk_labels : tells → KeepsLabels a b
  walk_labels told v = record {
    bytes = label_step v (a.bytes (Volume v)) (b.bytes (Volume v)) (walk.works.bytes told (Volume v));
    moments = λ t from to z is. let start = walk.works.moments told (Volume v) t from to z is in (start.0, start.1, label_step v start.0 z start.2);
  }

  pub walk_treats : (labelling : Labelling) → tells → TreatsLabels labelling rows items a b
  walk_treats AsPrimary told = (λ v. label_kept v items (on a (Volume v)) (on b (Volume v)) (walk_labels told v).moments, λ k d lt duplex quiet. inl (walk_labels told (slice_index_or rows k d).device).bytes)
  walk_treats AsItIs told = walk_labels told

  pub walk_once : (v : ℕ) → b.faults (Volume v) ≤ a.faults (Volume v) + 1
  walk_once v = elim (cases_Bool (was v)) [
    | inl alone ↦ omega (arith, walk.still v alone)
    | inr live ↦ (walk.count v live).by_one
  ]

  pub walk_spared : SparesOthers rows a.faults b.faults
  walk_spared v none = walk.still v (others v none)

  -- ---- and the volumes finished

  module _ (labelling : Labelling) (failed : List ℕ) (c : PlantState) (fin : FinishesPairs tells labelling rows left failed b c) where
    both : (d : Device) (x y z : List ℕ) → Recovers rows items d x y → Recovers rows [] d y z → Recovers rows items d x z
    both Control x y z p q = q ∙ p
    both State x y z p q = q ∙ p
    both (Journal j) x y z p q = q ∙ p
    both (Volume v) x y z p q = (λ has. redoes_then v items x y z (p.0 has) (redoes_more v [] items y z (λ x none. absurd cc) (q.0 has)), λ none. q.1 none ∙ p.1 none)

    pub all_works : Works tells (Recovers rows items) a c
    all_works = works_trans tells (Recovers rows items) (Recovers rows []) (Recovers rows items) a b c both (λ d x y p. p) walk_works fin.works

    -- ---- which failed

    abbrev had_failed : ℕ → Bool
    had_failed v = list_any (is_duplex_of v) rows && (left v || fin.has_failed v)

    listed : failed ≡ filter had_failed (duplex_devices rows)
    listed = fin.listed ∙ filter_same (either left fin.has_failed) had_failed (duplex_devices rows) (of_duplex (λ v. either left fin.has_failed v ≡ had_failed v) rows (λ k d lt is i. sym (has_at rows k d lt is) i && either left fin.has_failed (slice_index_or rows k d).device))

    counted_stays : (v : ℕ) → fin.has_failed v ≡ false → c.faults (Volume v) ≡ b.faults (Volume v)
    counted_stays v fine = (fin.counted v).same fine

    unfailed : (v : ℕ) → left v ≡ true → fin.has_failed v ≡ false
    unfailed v alone = elim (cases_Bool (fin.has_failed v)) [
      | inl bad ↦ let fit = fin.were_fit v bad in absurd (cc (alone, fit))
      | inr fine ↦ fine
    ]

    counted : (v : ℕ) → FailsByCount (had_failed v) (a.faults (Volume v)) (c.faults (Volume v))
    counted v = elim (cases_Bool (list_any (is_duplex_of v) rows)) [
      | inr none ↦
          let out : ¬ HasDuplex rows v = λ has. absurd (cc (has, none)) in
          let fine : fin.has_failed v ≡ false = elim (cases_Bool (fin.has_failed v)) [ inl bad ↦ absurd (out (fin.are_duplex v bad)) | inr fine ↦ fine ] in
          subst (λ (h : Bool). FailsByCount h (a.faults (Volume v)) (c.faults (Volume v))) (λ i. sym none i && (left v || fin.has_failed v)) (counted_same (a.faults (Volume v)) (c.faults (Volume v)) (counted_stays v fine ∙ walk.still v (others v out)))
      | inl has ↦ subst (λ (h : Bool). FailsByCount h (a.faults (Volume v)) (c.faults (Volume v))) (λ i. sym has i && (left v || fin.has_failed v)) (of_pair has)
    ]
      where
        of_pair : HasDuplex rows v → FailsByCount (left v || fin.has_failed v) (a.faults (Volume v)) (c.faults (Volume v))
        of_pair has = elim (cases_Bool (left v)) [
          | inl alone ↦
              subst (λ (h : Bool). FailsByCount (h || fin.has_failed v) (a.faults (Volume v)) (c.faults (Volume v))) (sym alone)
              (subst (λ (n : ℕ). FailsByCount true (a.faults (Volume v)) n) (sym (counted_stays v (unfailed v alone))) (subst (λ (h : Bool). FailsByCount h (a.faults (Volume v)) (b.faults (Volume v))) alone (walk.count v (duplex v has))))
          | inr fit ↦
              subst (λ (h : Bool). FailsByCount (h || fin.has_failed v) (a.faults (Volume v)) (c.faults (Volume v))) (sym fit)
              (counted_then (fin.has_failed v) (a.faults (Volume v)) (b.faults (Volume v)) (c.faults (Volume v)) ((walk.count v (duplex v has)).same fit) (fin.counted v))
        ]

    pub all_faulty : AreFaulty rows a.faults c.faults failed
    all_faulty = record { has_failed = had_failed; listed = listed; are_duplex = λ v is. (and_parts (list_any (is_duplex_of v) rows) (left v || fin.has_failed v) is).0; counted = counted }

    pub all_once : (v : ℕ) → c.faults (Volume v) ≤ a.faults (Volume v) + 1
    all_once v = (counted v).by_one

    pub all_spared : SparesOthers rows a.faults c.faults
    all_spared v none =
        let fine : fin.has_failed v ≡ false = elim (cases_Bool (fin.has_failed v)) [ inl bad ↦ absurd (none (fin.are_duplex v bad)) | inr fine ↦ fine ] in
        counted_stays v fine ∙ walk_spared v none

    -- ---- what they hold

    module _ (told : tells) (content : (v : ℕ) → left v ≡ false → Draws v items (a.bytes (Volume v)) (b.bytes (Volume v)) × HoldsTracks v items (a.bytes (Volume v)) (b.bytes (Volume v))) where
      draws_now : (v : ℕ) → HasDuplex rows v → left v ≡ false → Draws v items (a.bytes (Volume v)) (c.bytes (Volume v))
      draws_now v has fit = draws_after v items (a.bytes (Volume v)) (b.bytes (Volume v)) (c.bytes (Volume v)) (content v fit).0 ((fin.works.bytes told (Volume v)).0 has)

      holds_now : (v : ℕ) → HasDuplex rows v → left v ≡ false → HoldsTracks v items (a.bytes (Volume v)) (c.bytes (Volume v))
      holds_now v has fit x room = track_kept v x [] (b.bytes (Volume v)) (c.bytes (Volume v)) ((fin.works.bytes told (Volume v)).0 has) (λ none. absurd cc) ∙ (content v fit).1 x room

      good_flags : (x y : Bool) → ¬ ((x || y) ≡ true) → (x ≡ false) × (y ≡ false)
      good_flags true y none = absurd (none refl)
      good_flags false true none = absurd (none refl)
      good_flags false false none = (refl, refl)

      among : All (λ row. is_duplex row.state ≡ true → either left fin.has_failed row.device ≡ true → Contains failed row.device) rows
      among = all_listed (Contains failed) (either left fin.has_failed) rows (subst (λ (l : List ℕ). All (Contains failed) l) fin.listed (All-contains_itself failed))

      pub all_redone : Redone labelling rows items failed a c
      all_redone k d lt is good =
          let row = slice_index_or rows k d in
          let v = row.device in
          let flags = good_flags (left v) (fin.has_failed v) (λ bad. good (among k d lt is bad)) in
          let done = fin.redone told k d lt is flags.0 flags.1 in
          record {
            draws = draws_now v (has_at rows k d lt is) flags.0;
            content = holds_now v (has_at rows k d lt is) flags.0;
            label = bears_then labelling row (a.bytes (Volume v)) (b.bytes (Volume v)) (c.bytes (Volume v)) (walk_labels told v).bytes done.label;
            durable = done.durable;
          }

      later : (v : ℕ) → a.clock ≤ b.clock
      later v = ((walk.works.elapses told).kept (Volume v)).later

      -- A volume that failed stays, and one that is finished was redone.
      last_of : (v : ℕ) → LabelsLast v [] (on b (Volume v)) (on c (Volume v)) → LabelsLast v items (on a (Volume v)) (on c (Volume v))
      last_of v last = elim (cases_Bool (left v)) [
        | inl alone ↦
            let stays = fin.stays told v alone in
            let kept = keeps_then (on a (Volume v)) (on b (Volume v)) (on c (Volume v)) (later v) (walk_labels told v) ((fin.works.elapses told).kept (Volume v)) (keeps_same (on b (Volume v)) (on c (Volume v)) stays.0 stays.1) in
            label_kept v items (on a (Volume v)) (on c (Volume v)) kept.moments
        | inr fit ↦ elim (cases_Bool (list_any (is_duplex_of v) rows)) [
          | inl has ↦ last_redone v items (on a (Volume v)) (on b (Volume v)) (on c (Volume v)) (later v) (walk_labels told v).moments (draws_now v has fit) ((fin.works.elapses told).kept (Volume v)) last
          | inr none ↦
              let alone = walk.kept v (others v (λ has. absurd (cc (has, none)))) in
              absurd (cc (alone, fit))
        ]
      ]

      pub all_treats : TreatsLabels labelling rows [] b c → TreatsLabels labelling rows items a c
      all_treats treats = by_labelling labelling treats
        where
          by_labelling : (l : Labelling) → TreatsLabels l rows [] b c → TreatsLabels l rows items a c
          by_labelling AsPrimary t = (
            λ v. last_of v (t.0 v),
            λ k d lt is. let row = slice_index_or rows k d in named_then row a b c (walk_labels told row.device).bytes (walk.works.faults (Volume row.device)) (t.1 k d lt is),
          )
          by_labelling AsItIs t = λ v. keeps_then (on a (Volume v)) (on b (Volume v)) (on c (Volume v)) (later v) (walk_labels told v) ((fin.works.elapses told).kept (Volume v)) (t v)
