-- What a call on one journal or one volume leaves, on a plant without a past.
use Rattle.std.proofs.Common.{◌≡◌, ◌≢◌, ℕ, ◌≤◌, ◌<◌, List, [], length, slice_set, slice_index_or, refl, sym, ◌∙◌, subst, arith, true, false}
use Rattle.std.proofs.lemmas.List.{length-set}
use Rattle.crash_plant.specs.declared.device.Device.{Device}
use Rattle.crash_plant.specs.declared.device.Device.TheVariants.{Control, State, Journal, Volume}
use Rattle.crash_plant.specs.Calls.{WorksOn, Lends, TakesBack}
use Rattle.crash_plant.specs.Devices.{Sight, contents_of, seen_at, seen_of}
use Rattle.crash_plant.specs.PastlessPlants.{AgreesBut, Contents, still, still_disk}
use Rattle.crash_plant.proofs.Seen.{seen_is, seen_set, seen_of_journal, seen_of_volume, seen_of_journal_same, seen_of_volume_same, seen_set_same, seen_set_other, seen_set_later}
use Rattle.crash_plant.proofs.Still.{works_on_still, lends_still, takes_back_still}

module _ {D P : Type 0} (sight : Sight D P) (tells : Type 0) (control state : D) (journals : List D) (volumes : List P) (heard said script : List ℕ) (console_faults : ℕ) (device : Device) (number j : ℕ) (index_is : j ≡ number) where
  abbrev before : Contents
  before = contents_of sight control state journals volumes heard said script console_faults

  -- a call on a journal
  pub only_journal : (old new : D) → device ≡ Journal number → old ≡ slice_index_or journals j old → sight.disk_length new ≡ sight.disk_length old → sight.disk_faults old ≤ sight.disk_faults new
      → WorksOn tells (λ d. d ≡ device) (still before) (still (contents_of sight control state (slice_set journals j new) volumes heard said script console_faults))
  only_journal old new is was same later = works_on_still tells _ _ _ (record {
    journals = length-set journals j new;
    volumes = refl;
    lengths = λ d. seen_of_journal_same sight.disk_length sight.place_length 0 control state journals volumes j new d (λ less. same ∙ sym (seen_is sight.disk_length 0 journals j old was less));
    bytes = λ d other. seen_of_journal sight.disk_bytes sight.place_bytes [] control state journals volumes j new d (λ here. other (here ∙ at));
    faults = λ d other. seen_of_journal sight.disk_faults sight.place_faults 0 control state journals volumes j new d (λ here. other (here ∙ at));
    heard = refl;
    said = refl;
    script = refl;
    console_faults = refl;
  }) (λ v. refl) counts
    where
      at : Journal j ≡ device
      at = cc

      counts : (d : Device) → seen_of sight.disk_faults sight.place_faults 0 control state journals volumes d ≤ seen_of sight.disk_faults sight.place_faults 0 control state (slice_set journals j new) volumes d
      counts Control = omega arith
      counts State = omega arith
      counts (Journal i) = seen_set_later sight.disk_faults journals j i new (λ less. omega (arith, later, seen_is sight.disk_faults 0 journals j old was less))
      counts (Volume v) = omega arith

  agrees_volume : (new : P) → device ≡ Volume number → (j < length volumes → sight.place_length new ≡ seen_at sight.place_length 0 volumes j)
      → AgreesBut (λ d. d ≡ device) before (contents_of sight control state journals (slice_set volumes j new) heard said script console_faults)
  agrees_volume new is same = record {
    journals = refl;
    volumes = length-set volumes j new;
    lengths = λ d. seen_of_volume_same sight.disk_length sight.place_length 0 control state journals volumes j new d same;
    bytes = λ d other. seen_of_volume sight.disk_bytes sight.place_bytes [] control state journals volumes j new d (λ here. other (here ∙ at));
    faults = λ d other. seen_of_volume sight.disk_faults sight.place_faults 0 control state journals volumes j new d (λ here. other (here ∙ at));
    heard = refl;
    said = refl;
    script = refl;
    console_faults = refl;
  }
    where
      at : Volume j ≡ device
      at = cc

  -- a call on a volume that is here
  pub only_volume : (old new : P) → device ≡ Volume number → old ≡ slice_index_or volumes j old → sight.place_length new ≡ sight.place_length old → sight.place_faults old ≤ sight.place_faults new → sight.place_is_lent new ≡ sight.place_is_lent old
      → WorksOn tells (λ d. d ≡ device) (still before) (still (contents_of sight control state journals (slice_set volumes j new) heard said script console_faults))
  only_volume old new is was same later lent = works_on_still tells _ _ _ (agrees_volume new is (λ less. same ∙ sym (seen_is sight.place_length 0 volumes j old was less)))
      (λ v. seen_set_same sight.place_is_lent false volumes j v new (λ less. lent ∙ sym (seen_is sight.place_is_lent false volumes j old was less))) counts
    where
      counts : (d : Device) → seen_of sight.disk_faults sight.place_faults 0 control state journals volumes d ≤ seen_of sight.disk_faults sight.place_faults 0 control state journals (slice_set volumes j new) d
      counts Control = omega arith
      counts State = omega arith
      counts (Journal i) = omega arith
      counts (Volume v) = seen_set_later sight.place_faults volumes j v new (λ less. omega (arith, later, seen_is sight.place_faults 0 volumes j old was less))

-- lending a volume and taking it back
module _ {D P : Type 0} (sight : Sight D P) (tells : Type 0) (control state : D) (journals : List D) (volumes : List P) (heard said script : List ℕ) (console_faults : ℕ) (number j : ℕ) (index_is : j ≡ number) (within : j < length volumes) (new : P) (bytes : List ℕ) (length_is faults : ℕ) where
  abbrev plant : List P → Contents
  plant places = contents_of sight control state journals places heard said script console_faults

  others : (w : ℕ) → w ≢ number → (plant (slice_set volumes j new)).is_lent w ≡ (plant volumes).is_lent w
  others w other = seen_set_other sight.place_is_lent false volumes j w new (λ same. other (same ∙ index_is))

  now : {B : Type 0} (see : P → B) (none : B) → seen_at see none (slice_set volumes j new) number ≡ see new
  now see none = subst (λ (n : ℕ). seen_at see none (slice_set volumes j new) n ≡ see new) index_is (seen_set see none volumes j new within)

  pub lends_volume : (old : P) → old ≡ slice_index_or volumes j old → sight.place_length new ≡ seen_at sight.place_length 0 volumes number → sight.place_faults new ≡ sight.place_faults old → sight.place_is_lent new ≡ true → length_is ≡ sight.place_length old → faults ≡ sight.place_faults old → (tells → bytes ≡ sight.place_bytes old)
      → Lends tells number (still (plant volumes)) (still (plant (slice_set volumes j new))) (still_disk bytes length_is faults)
  lends_volume old was same kept is_lent size count told = lends_still tells number (plant volumes) (plant (slice_set volumes j new)) bytes length_is faults
      (agrees_volume sight tells control state journals volumes heard said script console_faults (Volume number) number j index_is new refl (λ less. subst (λ (n : ℕ). sight.place_length new ≡ seen_at sight.place_length 0 volumes n) (sym index_is) same)) others
      (now sight.place_is_lent false ∙ is_lent) (now sight.place_faults 0 ∙ kept ∙ sym (then sight.place_faults 0)) (size ∙ sym (then sight.place_length 0)) (count ∙ sym (then sight.place_faults 0)) (λ t. told t ∙ sym (then sight.place_bytes []))
    where
      then : {B : Type 0} (see : P → B) (none : B) → seen_at see none volumes number ≡ see old
      then see none = subst (λ (n : ℕ). seen_at see none volumes n ≡ see old) index_is (seen_is see none volumes j old was within)

  pub takes_back_volume : sight.place_length new ≡ seen_at sight.place_length 0 volumes number → sight.place_is_lent new ≡ false → sight.place_faults new ≡ faults → (tells → sight.place_bytes new ≡ bytes)
      → TakesBack tells number (still (plant volumes)) (still (plant (slice_set volumes j new))) (still_disk bytes length_is faults)
  takes_back_volume same is_back count told = takes_back_still tells number (plant volumes) (plant (slice_set volumes j new)) bytes length_is faults
      (agrees_volume sight tells control state journals volumes heard said script console_faults (Volume number) number j index_is new refl (λ less. subst (λ (n : ℕ). sight.place_length new ≡ seen_at sight.place_length 0 volumes n) (sym index_is) same)) others
      (now sight.place_is_lent false ∙ is_back) (now sight.place_faults 0 ∙ count) (λ t. now sight.place_bytes [] ∙ told t)
