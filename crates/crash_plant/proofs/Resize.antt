-- What a change of one disk's length leaves of a plant in memory.
use Rattle.std.proofs.Common.{◌≡◌, ℕ, ◌<◌, List, [], length, slice_set, slice_index_or, refl, sym, ◌∙◌, ap, subst, arith, false, Result, Ok, Err, OnOk, OnErr}
use Rattle.std.proofs.lemmas.List.{length-set}
use Rattle.crash_plant.specs.declared.device.Device.{Device}
use Rattle.crash_plant.specs.declared.device.Device.TheVariants.{Journal, Volume}
use Rattle.crash_plant.specs.declared.plain_disk.PlainDisk.{PlainDisk}
use Rattle.crash_plant.specs.declared.plain_plant.VolumePlace.{VolumePlace}
use Rattle.crash_plant.specs.Bytes.{resized}
use Rattle.crash_plant.specs.Moments.{PlantState}
use Rattle.crash_plant.specs.Calls.{NoneLent, SameLoan}
use Rattle.crash_plant.specs.Devices.{contents_of}
use Rattle.crash_plant.specs.NewPlants.{Resizes, SameDevices}
use Rattle.crash_plant.specs.PlainPlant.{plain_sight, disk_bytes, disk_length, place_bytes, place_length, place_is_lent}
use Rattle.crash_plant.specs.PastlessPlants.{Contents, still}
use Rattle.crash_plant.proofs.Seen.{seen_is, seen_is_at, seen_of_journal, seen_of_journal_here, seen_of_journal_same, seen_of_volume, seen_of_volume_here, seen_of_volume_same, seen_set_same}
use Rattle.crash_plant.proofs.Still.{loan_still}

-- What an answer shows, it shows of what follows.
pub on_ok : {T E P Q : Type 0} (result : Result T E) → (P → Q) → OnOk result P → OnOk result Q
on_ok (Ok x) leads holds = leads holds
on_ok (Err e) leads holds = tt

pub on_err : {T E P Q : Type 0} (result : Result T E) → (P → Q) → OnErr result P → OnErr result Q
on_err (Ok x) leads holds = tt
on_err (Err e) leads holds = leads holds

module _ (control state : PlainDisk) (journals : List PlainDisk) (volumes : List VolumePlace) (heard said script : List ℕ) (console_faults : ℕ) (device : Device) (number j : ℕ) (index_is : j ≡ number) where
  abbrev plant : List PlainDisk → List VolumePlace → Contents
  plant disks places = contents_of plain_sight control state disks places heard said script console_faults

  module _ (old new : PlainDisk) (is : device ≡ Journal number) (within : j < length journals) (was : old ≡ slice_index_or journals j old) where
    -- the journal is resized
    pub resizes_journal : (n : ℕ) → length (disk_bytes new) ≡ n → disk_bytes new ≡ resized n (disk_bytes old) → Resizes device n (still (plant journals volumes)) (still (plant (slice_set journals j new) volumes))
    resizes_journal n size bytes = record {
      bytes = subst (λ (d : Device). (plant (slice_set journals j new) volumes).bytes d ≡ resized n ((plant journals volumes).bytes d)) (sym is)
          (seen_of_journal_here disk_bytes place_bytes [] control state journals volumes j number new index_is within ∙ bytes ∙ ap (λ (l : List ℕ). resized n l) (sym (seen_is_at disk_bytes [] journals j number old index_is was within)));
      length_is = subst (λ (d : Device). (plant (slice_set journals j new) volumes).lengths d ≡ n) (sym is) (seen_of_journal_here disk_length place_length 0 control state journals volumes j number new index_is within ∙ size);
      other_bytes = λ d other. seen_of_journal disk_bytes place_bytes [] control state journals volumes j new d (λ same. other (same ∙ at));
      other_lengths = λ d other. seen_of_journal disk_length place_length 0 control state journals volumes j new d (λ same. other (same ∙ at));
      journals = length-set journals j new;
      volumes = refl;
      loans = λ v. loan_still v (plant journals volumes) (plant (slice_set journals j new) volumes) refl;
      faults = λ d. seen_of_journal_same (λ disk. 0) (λ place. 0) 0 control state journals volumes j new d (λ less. sym (seen_is (λ (disk : PlainDisk). 0) 0 journals j old was less));
      console = record { heard = refl; said = refl; script = refl; console_faults = refl };
    }
      where
        at : Journal j ≡ device
        at = cc

    -- the journal holds what it held
    pub same_journal : disk_bytes new ≡ disk_bytes old → SameDevices (still (plant journals volumes)) (still (plant (slice_set journals j new) volumes))
    same_journal bytes = record {
      site = record { journals = length-set journals j new; volumes = refl; lengths = λ d. seen_of_journal_same disk_length place_length 0 control state journals volumes j new d (λ less. ap length bytes ∙ sym (seen_is disk_length 0 journals j old was less)) };
      loans = λ v. loan_still v (plant journals volumes) (plant (slice_set journals j new) volumes) refl;
      bytes = λ d. seen_of_journal_same disk_bytes place_bytes [] control state journals volumes j new d (λ less. bytes ∙ sym (seen_is disk_bytes [] journals j old was less));
      faults = λ d. seen_of_journal_same (λ disk. 0) (λ place. 0) 0 control state journals volumes j new d (λ less. sym (seen_is (λ (disk : PlainDisk). 0) 0 journals j old was less));
    }

  module _ (old new : VolumePlace) (is : device ≡ Volume number) (within : j < length volumes) (was : old ≡ slice_index_or volumes j old) (here : place_is_lent new ≡ place_is_lent old) where
    loans : (v : ℕ) → SameLoan v (still (plant journals volumes)) (still (plant journals (slice_set volumes j new)))
    loans v = loan_still v (plant journals volumes) (plant journals (slice_set volumes j new)) (seen_set_same place_is_lent false volumes j v new (λ less. here ∙ sym (seen_is place_is_lent false volumes j old was less)))

    -- the volume is resized
    pub resizes_volume : (n : ℕ) → place_length new ≡ n → place_bytes new ≡ resized n (place_bytes old) → Resizes device n (still (plant journals volumes)) (still (plant journals (slice_set volumes j new)))
    resizes_volume n size bytes = record {
      bytes = subst (λ (d : Device). (plant journals (slice_set volumes j new)).bytes d ≡ resized n ((plant journals volumes).bytes d)) (sym is)
          (seen_of_volume_here disk_bytes place_bytes [] control state journals volumes j number new index_is within ∙ bytes ∙ ap (λ (l : List ℕ). resized n l) (sym (seen_is_at place_bytes [] volumes j number old index_is was within)));
      length_is = subst (λ (d : Device). (plant journals (slice_set volumes j new)).lengths d ≡ n) (sym is) (seen_of_volume_here disk_length place_length 0 control state journals volumes j number new index_is within ∙ size);
      other_bytes = λ d other. seen_of_volume disk_bytes place_bytes [] control state journals volumes j new d (λ same. other (same ∙ at));
      other_lengths = λ d other. seen_of_volume disk_length place_length 0 control state journals volumes j new d (λ same. other (same ∙ at));
      journals = refl;
      volumes = length-set volumes j new;
      loans = loans;
      faults = λ d. seen_of_volume_same (λ disk. 0) (λ place. 0) 0 control state journals volumes j new d (λ less. sym (seen_is (λ (place : VolumePlace). 0) 0 volumes j old was less));
      console = record { heard = refl; said = refl; script = refl; console_faults = refl };
    }
      where
        at : Volume j ≡ device
        at = cc

    -- the volume holds what it held
    pub same_volume : place_length new ≡ place_length old → place_bytes new ≡ place_bytes old → SameDevices (still (plant journals volumes)) (still (plant journals (slice_set volumes j new)))
    same_volume size bytes = record {
      site = record { journals = refl; volumes = length-set volumes j new; lengths = λ d. seen_of_volume_same disk_length place_length 0 control state journals volumes j new d (λ less. size ∙ sym (seen_is place_length 0 volumes j old was less)) };
      loans = loans;
      bytes = λ d. seen_of_volume_same disk_bytes place_bytes [] control state journals volumes j new d (λ less. bytes ∙ sym (seen_is place_bytes [] volumes j old was less));
      faults = λ d. seen_of_volume_same (λ disk. 0) (λ place. 0) 0 control state journals volumes j new d (λ less. sym (seen_is (λ (place : VolumePlace). 0) 0 volumes j old was less));
    }

-- A change of a device lends no volume.
pub none_lent_resized : (device : Device) (n : ℕ) (a b : PlantState) → Resizes device n a b → NoneLent a → NoneLent b
none_lent_resized device n a b resizes home v there = (resizes.loans v).is_lent ∙ home v (omega (arith, there, resizes.volumes))

pub none_lent_same : (a b : PlantState) → SameDevices a b → NoneLent a → NoneLent b
none_lent_same a b same home v there = (same.loans v).is_lent ∙ home v (omega (arith, there, same.site.volumes))
