-- The volumes of a group given back after they were read.
use Rattle.std.proofs.Common.{◌≡◌, ℕ, ◌≤◌, ◌<◌, ◌&&◌, ◌||◌, inl, inr, Bool, true, false, not, List, [], ◌∷◌, length, map, get_or, Option, Some, None, refl, sym, ap, subst, ◌∙◌, arith}
use Rattle.std.specs.Prelude.{is_some}
use Rattle.std.specs.List.{AllZip, list_any}
use Rattle.std.proofs.lemmas.Bool.{and_parts, cases_Bool}
use Rattle.std.proofs.lemmas.List.{get_or-map, get_or_default, length-map}
use Rattle.std.proofs.lemmas.List.Elements.{AllZip-get_or, length_all_zip}
use Rattle.ckd_track.specs.declared.write.Kind.{Kind}
use Rattle.ckd_track.specs.SlotPlaces.{slot_track}
use Rattle.crash_plant.specs.declared.device.Device.{Device}
use Rattle.crash_plant.specs.declared.device.Device.TheVariants.{Volume}
use Rattle.crash_plant.specs.Moments.{Standing, PlantState, SamePast, Follows, Same}
use Rattle.pair_table.specs.declared.row.PairRow.{PairRow}
use Rattle.pending_queue.specs.Entries.{WaitingEntry}
use Rattle.xrc_journal.specs.declared.job.VolumeJob.{VolumeJob}
use Rattle.xrc_journal.specs.Items.{Item}
use Rattle.xrc_journal.specs.Contents.{content_through}
use Rattle.xrc_journal.specs.Jobs.{FailsByCount, OnVolume}
use Rattle.applier.specs.Returns.{AreBack, AreRead, IsBack, WorksOnLent}
use Rattle.applier.specs.Disks.{IsLentTo, OnDisks, without_disk}
use Rattle.applier.specs.Loans.{AreOut, AreWorkedOn, HoldsVolume, LendsWhere, WorkedOn}
use Rattle.applier.proofs.Works.{works_lent_more}
use Rattle.image_former.specs.Changes.{AreSpelled, changed_through}
use Rattle.image_former.specs.Entries.{HasEntry}
use Rattle.image_former.specs.Forms.{StandFor}
use Rattle.image_former.specs.Jobs.{HasNoEntry, OnVolumes, is_failed_of}
use Rattle.site_store.specs.Causes.{FailByCounts}
use Rattle.site_store.specs.Logging.{FailByEntries, HasEntryOn, is_entry_of_device}
use Rattle.site_store.specs.Jobs.{are_home_from, has_job_failed}
use Rattle.site_store.proofs.LentJobs.{Home, home_at, home_from, on_device}
use Rattle.site_store.proofs.LogFails.{flag_low}

-- What is said of lent volumes is said of disks.
on_disks : {D : Type 0} (state : D → Standing) (holds : Standing → Standing → Type 0) (o n : Option D) → OnVolume state holds o n → OnDisks (λ was is. holds (state was) (state is)) o n
on_disks state holds (Some a) (Some b) is = is
on_disks state holds None None is = is
on_disks state holds (Some a) None is = absurd is
on_disks state holds None (Some b) is = absurd is

module _ {D : Type 0} (tells own : Type 0) (state : D → Standing) (rows : List PairRow) (entries : List WaitingEntry) (lent given : List (VolumeJob D))
    (devices : AllZip (λ old new. new.device ≡ old.device) lent given) (alone : AllZip (λ old new. old.failed ≡ true → new ≡ old) lent given)
    (cause : AllZip (λ old new. old.failed ≡ false → OnVolume state (λ was is. FailsByCount new.failed was.faults is.faults) old.disk new.disk) lent given)
    (lengths : OnVolumes state (λ was is. is.length_is ≡ was.length_is) lent given) (past : own → OnVolumes state SamePast lent given) where
  size : length lent ≡ length given
  size = length_all_zip (λ old new. new.device ≡ old.device) lent given devices

  -- The counts of lent volumes don't fall.
  later : (i : ℕ) (d : VolumeJob D) → i < length lent → OnVolume state (λ was is. was.faults ≤ is.faults) (get_or lent i d).disk (get_or given i d).disk
  later i d lt = by_mark (get_or lent i d).failed refl
    where
      here : (o : Option D) → OnVolume state (λ was is. was.faults ≤ is.faults) o o
      here (Some disk) = omega arith
      here None = tt

      raised : (failed : Bool) (o n : Option D) → OnVolume state (λ was is. FailsByCount failed was.faults is.faults) o n → OnVolume state (λ was is. was.faults ≤ is.faults) o n
      raised failed (Some a) (Some b) is = is.later
      raised failed None None is = tt
      raised failed (Some a) None is = absurd is
      raised failed None (Some b) is = absurd is

      by_mark : (b : Bool) → (get_or lent i d).failed ≡ b → OnVolume state (λ was is. was.faults ≤ is.faults) (get_or lent i d).disk (get_or given i d).disk
      by_mark true failed = subst (λ (j : VolumeJob D). OnVolume state (λ was is. was.faults ≤ is.faults) (get_or lent i d).disk j.disk) (sym (AllZip-get_or _ lent given i d d alone lt failed)) (here (get_or lent i d).disk)
      by_mark false good = raised (get_or given i d).failed (get_or lent i d).disk (get_or given i d).disk (AllZip-get_or _ lent given i d d cause lt good)

  pub worked : AreWorkedOn own state lent given
  worked = record {
    same = sym size;
    devices = λ i d lt. AllZip-get_or _ lent given i d d devices lt;
    disks = λ i d lt. by_disk (get_or lent i d).disk (get_or given i d).disk (AllZip-get_or _ lent given i d d lengths lt) (λ told. AllZip-get_or _ lent given i d d (past told) lt) (later i d lt);
  }
    where
      by_disk : (o n : Option D) → OnVolume state (λ was is. is.length_is ≡ was.length_is) o n → (own → OnVolume state SamePast o n) → OnVolume state (λ was is. was.faults ≤ is.faults) o n → OnDisks (λ was is. WorkedOn own (state was) (state is)) o n
      by_disk (Some a) (Some b) long kept up = record { past = kept; length_is = long; faults = up }
      by_disk None None long kept up = tt
      by_disk (Some a) None long kept up = absurd long
      by_disk None (Some b) long kept up = absurd long

  pub are_read : (own → OnVolumes state (Follows Same) lent given) → (own → OnVolumes state (λ was is. is.bytes ≡ was.bytes) lent given) → AreRead own state lent given
  are_read moments bytes = record {
    moments = λ told i d lt. on_disks state (Follows Same) (get_or lent i d).disk (get_or given i d).disk (AllZip-get_or _ lent given i d d (moments told) (omega (arith, lt, size)));
    bytes = λ told i d lt. on_disks state (λ was is. is.bytes ≡ was.bytes) (get_or lent i d).disk (get_or given i d).disk (AllZip-get_or _ lent given i d d (bytes told) (omega (arith, lt, size)));
  }

  -- ---- back

  module _ (start mid end : PlantState) (old : List (VolumeJob D)) (wanted : List Bool) (home : are_home_from 0 old ≡ true) (volumes : length old ≡ start.volumes) (few : start.volumes ≤ 64)
      (are_wanted : (d : ℕ) → d < 64 → get_or wanted d false ≡ list_any (is_entry_of_device rows d) entries)
      (same : length lent ≡ length old) (lends : (i : ℕ) (d : VolumeJob D) → i < length old → LendsWhere (get_or wanted i false) (get_or old i d) (get_or lent i d)) (out : AreOut tells own state start mid lent lent) (back : AreBack tells state start end lent given)
      (not_called : AllZip (λ old new. HasNoEntry rows entries old.device → new ≡ old) lent given) where
    abbrev pub Wants : ℕ → Type 0
    Wants i = get_or wanted i false ≡ true

    device_at : (i : ℕ) (d : VolumeJob D) → i < length lent → (get_or lent i d).device ≡ i
    device_at i d lt = (lends i d (omega (arith, lt, same))).device ∙ omega (arith, (home_at 0 old home i d (omega (arith, lt, same))).device)

    given_at : (i : ℕ) (d : VolumeJob D) → i < length given → (get_or given i d).device ≡ i
    given_at i d lt = AllZip-get_or _ lent given i d d devices (omega (arith, lt, size)) ∙ device_at i d (omega (arith, lt, size))

    -- A disk is there before and after, or neither.
    some_same : (i : ℕ) (d : VolumeJob D) → i < length lent → is_some (get_or given i d).disk ≡ is_some (get_or lent i d).disk
    some_same i d lt = by_disk (get_or lent i d).disk (get_or given i d).disk (later i d lt)
      where
        by_disk : (o n : Option D) → OnVolume state (λ was is. was.faults ≤ is.faults) o n → is_some n ≡ is_some o
        by_disk (Some a) (Some b) is = refl
        by_disk None None is = refl
        by_disk (Some a) None is = absurd is
        by_disk None (Some b) is = absurd is

    -- the jobs are at home again
    pub home_again : are_home_from 0 (map without_disk given) ≡ true
    home_again = home_from 0 (map without_disk given) each
      where
        each : (i : ℕ) (d : VolumeJob D) → i < length (map without_disk given) → Home 0 i (get_or (map without_disk given) i d)
        each i d lt =
            let less : i < length given = omega (arith, lt, length-map given without_disk) in
            subst (Home 0 i) (sym (get_or-map without_disk given i d d less)) (record { device = omega (arith, given_at i d less); idle = refl })

    -- ---- the devices

    not_lent : (i : ℕ) → ((d : VolumeJob D) → i < length given → is_some (get_or given i d).disk ≡ false) → ¬ IsLentTo given (Volume i)
    not_lent i none among =
        let job = among.0 in
        let j = among.1.0 in
        let less : j < length given = among.1.1.0 in
        let is : i ≡ job.device = cc among.3 in
        let at : job.device ≡ j = ap (λ (k : VolumeJob D). k.device) among.1.1.1 ∙ given_at j job less in
        let here : i ≡ j = is ∙ at in
        let has : is_some (get_or given j job).disk ≡ true = ap (λ (k : VolumeJob D). is_some k.disk) (sym among.1.1.1) ∙ among.2 in
        let no = none job (omega (arith, less, here)) in
        absurd (cc (no, has, here))

    pub only_entries : WorksOnLent tells (λ device. (d : ℕ) × (device ≡ Volume d) × HasEntryOn rows entries d) start end
    only_entries = works_lent_more tells (IsLentTo given) (λ device. (d : ℕ) × (device ≡ Volume d) × HasEntryOn rows entries d) start end wider back.works
      where
        wider : (device : Device) → IsLentTo given device → (d : ℕ) × (device ≡ Volume d) × HasEntryOn rows entries d
        wider device among =
            let job = among.0 in
            let j = among.1.0 in
            let less : j < length given = among.1.1.0 in
            let at : job.device ≡ j = ap (λ (k : VolumeJob D). k.device) among.1.1.1 ∙ given_at j job less in
            let lt : j < length lent = omega (arith, less, size) in
            let has : is_some (get_or given j job).disk ≡ true = ap (λ (k : VolumeJob D). is_some k.disk) (sym among.1.1.1) ∙ among.2 in
            let l = lends j job (omega (arith, lt, same)) in
            let both = and_parts (get_or wanted j false) (not (get_or old j job).failed) (sym l.disk ∙ sym (some_same j job lt) ∙ has) in
            (j, among.3 ∙ ap Volume at, sym (are_wanted j (omega (arith, lt, same, volumes, few))) ∙ both.0)

    -- ---- why jobs fail

    -- a job without a disk
    idle_stays : (i : ℕ) (d : VolumeJob D) → i < length lent → is_some (get_or lent i d).disk ≡ false → end.faults (Volume i) ≡ start.faults (Volume i)
    idle_stays i d lt none = back.works.others_faults (Volume i) (not_lent i (λ e less. some_same i e (omega (arith, less, size)) ∙ still e))
      where
        still : (e : VolumeJob D) → is_some (get_or lent i e).disk ≡ false
        still e = ap (λ (j : VolumeJob D). is_some j.disk) (get_or_default lent i e d lt) ∙ none

    counted : (i : ℕ) (d : VolumeJob D) → i < length lent → (get_or lent i d).failed ≡ false → FailsByCount (get_or given i d).failed (start.faults (Volume i)) (end.faults (Volume i))
    counted i d lt good = by_disk (get_or lent i d).disk (get_or given i d).disk refl
        (subst (λ (v : ℕ). OnDisks (HoldsVolume tells own state start mid v) (get_or lent i d).disk (get_or lent i d).disk) (device_at i d lt) (out.disks i d lt))
        (subst (λ (v : ℕ). OnDisks (λ was is. IsBack tells start end v (state was) (state is)) (get_or lent i d).disk (get_or given i d).disk) (given_at i d (omega (arith, lt, size))) (back.disks i d (omega (arith, lt, size))))
        (AllZip-get_or _ lent given i d d cause lt good)
      where
        none_on : is_some (get_or lent i d).disk ≡ false → HasNoEntry rows entries (get_or lent i d).device
        none_on none x has =
            let l = lends i d (omega (arith, lt, same)) in
            let here : HasEntry rows i x entries = subst (λ (v : ℕ). HasEntry rows v x entries) (device_at i d lt) has in
            let yes : get_or wanted i false ≡ true = are_wanted i (omega (arith, lt, same, volumes, few)) ∙ on_device rows entries i x here in
            let some : false ≡ true = sym none ∙ l.disk ∙ (λ j. yes j && not ((sym l.failed ∙ good) j)) in
            absurd cc

        by_disk : (o n : Option D) → (get_or lent i d).disk ≡ o → OnDisks (HoldsVolume tells own state start mid i) o o → OnDisks (λ was is. IsBack tells start end i (state was) (state is)) o n → OnVolume state (λ was is. FailsByCount (get_or given i d).failed was.faults is.faults) o n
            → FailsByCount (get_or given i d).failed (start.faults (Volume i)) (end.faults (Volume i))
        by_disk (Some a) (Some b) is holds came by_count = subst (λ (x : Type 0). x) (λ j. FailsByCount (get_or given i d).failed (holds.out.from.faults j) (sym came.faults j)) by_count
        by_disk None None is holds came by_count =
            let none : is_some (get_or lent i d).disk ≡ false = ap is_some is in
            let unchanged : get_or given i d ≡ get_or lent i d = AllZip-get_or _ lent given i d d not_called lt (none_on none) in
            let fine : (get_or given i d).failed ≡ false = ap (λ (j : VolumeJob D). j.failed) unchanged ∙ good in
            let stays = idle_stays i d lt none in
            record { later = omega (arith, stays); by_one = omega (arith, stays); same = λ e. stays; rose = λ bad. absurd (cc (bad, fine)) }
        by_disk (Some a) None is holds came by_count = absurd came
        by_disk None (Some b) is holds came by_count = absurd came

    -- a job of a place, for where one is wanted
    some_at : (jobs : List (VolumeJob D)) (i : ℕ) → i < length jobs → VolumeJob D
    some_at [] i lt = absurd (omega (arith, lt))
    some_at (job ∷ jobs) i lt = job

    failed_at : (i : ℕ) (d : VolumeJob D) → i < length lent → get_or (map has_job_failed old) i false ≡ (get_or lent i d).failed
    failed_at i d lt = get_or-map has_job_failed old i d false (omega (arith, lt, same)) ∙ sym (lends i d (omega (arith, lt, same))).failed

    failed_then : (i : ℕ) (d : VolumeJob D) → i < length lent → get_or (map has_job_failed (map without_disk given)) i false ≡ (get_or given i d).failed
    failed_then i d lt =
        let less : i < length given = omega (arith, lt, size) in
        get_or-map has_job_failed (map without_disk given) i (without_disk d) false (omega (arith, less, length-map given without_disk))
        ∙ ap (λ (j : VolumeJob D). j.failed) (get_or-map without_disk given i d (without_disk d) less)

    pub fails : FailByCounts (map has_job_failed old) (map has_job_failed (map without_disk given)) start.faults end.faults
    fails = record {
      size = length-map (map without_disk given) has_job_failed ∙ length-map given without_disk ∙ sym size ∙ same ∙ sym (length-map old has_job_failed);
      alone = λ i lt failed.
          let less : i < length lent = omega (arith, lt, same, length-map old has_job_failed) in
          let d = some_at lent i less in
          let bad : (get_or lent i d).failed ≡ true = sym (failed_at i d less) ∙ failed in
          let l = lends i d (omega (arith, less, same)) in
          let none : is_some (get_or lent i d).disk ≡ false = l.disk ∙ (λ j. get_or wanted i false && not ((sym l.failed ∙ bad) j)) ∙ never (get_or wanted i false) in
          (failed_then i d less ∙ ap (λ (j : VolumeJob D). j.failed) (AllZip-get_or _ lent given i d d alone less bad) ∙ bad, idle_stays i d less none);
      by_count = λ i lt good.
          let less : i < length lent = omega (arith, lt, same, length-map old has_job_failed) in
          let d = some_at lent i less in
          subst (λ (b : Bool). FailsByCount b (start.faults (Volume i)) (end.faults (Volume i))) (sym (failed_then i d less)) (counted i d less (sym (failed_at i d less) ∙ good));
    }
      where
        never : (b : Bool) → (b && false) ≡ false
        never true = refl
        never false = refl

    -- A job whose volume has no entry isn't worked on.
    pub by_entries : FailByEntries rows entries (map has_job_failed old) (map has_job_failed (map without_disk given))
    by_entries i down =
        let less : i < length lent = omega (arith, flag_low (map has_job_failed (map without_disk given)) i down, length-map (map without_disk given) has_job_failed, length-map given without_disk, size) in
        elim (cases_Bool (list_any (is_entry_of_device rows i) entries)) [
          | inl has ↦ inr has
          | inr none ↦ inl (was less none)
        ]
      where
        was : i < length lent → list_any (is_entry_of_device rows i) entries ≡ false → get_or (map has_job_failed old) i false ≡ true
        was less none =
            let d = some_at lent i less in
            let apart : HasNoEntry rows entries (get_or lent i d).device = λ x has. absurd (cc (on_device rows entries i x (subst (λ (v : ℕ). HasEntry rows v x entries) (device_at i d less) has), none)) in
            failed_at i d less ∙ sym (ap (λ (j : VolumeJob D). j.failed) (AllZip-get_or _ lent given i d d not_called less apart)) ∙ sym (failed_then i d less) ∙ down

    -- ---- what the items do

    pub content : tells → (items : List Item) → (own → AllZip (λ was is. is.failed ≡ false → OnVolume state (λ a b. StandFor rows entries was.device items a.bytes) was.disk is.disk) lent given) → (v x : ℕ) → v < start.volumes
        → get_or (map has_job_failed (map without_disk given)) v false ≡ false → HasEntry rows v x entries → (kinds : List Kind) → AreSpelled entries kinds → content_through v x items (slot_track (start.bytes (Volume v)) x) ≡ changed_through rows v x entries kinds (slot_track (start.bytes (Volume v)) x)
    content told items stand v x within fine has kinds spelled =
        by_disk (get_or lent v d).disk (get_or given v d).disk refl (subst (λ (u : ℕ). OnDisks (HoldsVolume tells own state start mid u) (get_or lent v d).disk (get_or lent v d).disk) (device_at v d less) (out.disks v d less))
        (λ mine. AllZip-get_or _ lent given v d d (stand mine) less (sym (failed_then v d less) ∙ fine))
      where
        less : v < length lent
        less = omega (arith, within, same, volumes)

        d : VolumeJob D
        d = some_at lent v less

        good : (get_or lent v d).failed ≡ false
        good = elim (cases_Bool (get_or lent v d).failed) [
          | inl bad ↦ let still = ap (λ (j : VolumeJob D). j.failed) (AllZip-get_or _ lent given v d d alone less bad) ∙ bad in let not_bad = sym (failed_then v d less) ∙ fine in absurd (cc (still, not_bad))
          | inr fine ↦ fine
        ]

        -- a device with an entry was lent
        lent_there : (get_or lent v d).disk ≡ None → ⊥
        lent_there is =
            let l = lends v d (omega (arith, less, same)) in
            let yes : get_or wanted v false ≡ true = are_wanted v (omega (arith, within, few)) ∙ on_device rows entries v x has in
            let some : false ≡ true = sym (ap is_some is) ∙ l.disk ∙ (λ j. yes j && not ((sym l.failed ∙ good) j)) in
            cc

        by_disk : (o n : Option D) → (get_or lent v d).disk ≡ o → OnDisks (HoldsVolume tells own state start mid v) o o → (own → OnVolume state (λ a b. StandFor rows entries (get_or lent v d).device items a.bytes) o n)
            → content_through v x items (slot_track (start.bytes (Volume v)) x) ≡ changed_through rows v x entries kinds (slot_track (start.bytes (Volume v)) x)
        by_disk (Some a) (Some b) is holds stands = subst (λ (l : List ℕ). content_through v x items (slot_track l x) ≡ changed_through rows v x entries kinds (slot_track l x)) (holds.out.from.bytes told)
            ((subst (λ (u : ℕ). StandFor rows entries u items (state a).bytes) (device_at v d less) (stands (holds.tells_own told))) x kinds spelled)
        by_disk (Some a) None is holds stands = absurd (stands (holds.tells_own told))
        by_disk None n is holds stands = absurd (lent_there is)

  -- A device that has failed among jobs whose disks are back had failed before.
  pub failed_back : (device : ℕ) (jobs : List (VolumeJob D)) → list_any (is_failed_of device) (map without_disk jobs) ≡ list_any (is_failed_of device) jobs
  failed_back device [] = refl
  failed_back device (job ∷ jobs) = ap (λ (b : Bool). is_failed_of device job || b) (failed_back device jobs)
