-- The volumes of jobs lent, worked on side by side, and given back.
use Rattle.std.proofs.Common.{◌≡◌, ℕ, zero, suc, ◌≤◌, ◌<◌, ◌&&◌, inl, inr, Bool, true, false, not, List, [], ◌∷◌, length, map, get_or, Option, Some, None, refl, sym, ap, subst, ◌∙◌, arith}
use Rattle.std.specs.Prelude.{is_some}
use Rattle.std.specs.List.{All}
use Rattle.std.proofs.lemmas.Bool.{and_parts, cases_Bool}
use Rattle.std.proofs.lemmas.List.{get_or-map, get_or_default, length-map}
use Rattle.ckd_track.specs.SlotPlaces.{slot_end}
use Rattle.crash_plant.specs.declared.device.Device.{Device}
use Rattle.crash_plant.specs.declared.device.Device.TheVariants.{Volume}
use Rattle.crash_plant.specs.Moments.{Follows, IsDurable, PlantState, Standing, Stays, on}
use Rattle.xrc_journal.specs.declared.job.VolumeJob.{VolumeJob}
use Rattle.xrc_journal.specs.Contents.{HasItem}
use Rattle.xrc_journal.specs.Items.{Item}
use Rattle.xrc_journal.specs.Jobs.{FailsByCount, OnVolume}
use Rattle.applier.specs.Returns.{AreBack, AreRead, IsBack, WorksOnLent}
use Rattle.applier.specs.Disks.{IsLentTo, OnDisks, without_disk}
use Rattle.applier.specs.Jobs.{HasSlots}
use Rattle.applier.specs.Loans.{AreOut, AreWorkedOn, HoldsVolume, LendsWhere, WorkedOn}
use Rattle.applier.specs.Sides.{AppliesToJob, HasItsSlots, SyncsJob, SyncsVolume}
use Rattle.applier.specs.Slots.{DiffersInSlots, HoldsContent}
use Rattle.applier.proofs.InSlots.{differs_here}
use Rattle.applier.proofs.LentVolumes.{back_durable, back_follows}
use Rattle.applier.proofs.Works.{works_lent_more}
use Rattle.site_store.specs.Applying.{AppliesToVolume}
use Rattle.site_store.specs.Causes.{FailByCounts}
use Rattle.site_store.specs.Jobs.{are_home_from, has_device, has_job_failed}
use Rattle.site_store.specs.Marking.{IsAmong}
use Rattle.site_store.proofs.ItemTracks.{no_items}
use Rattle.site_store.proofs.LentJobs.{Home, home_at, home_from}

no_disk : {A : Type 0} (o : Option A) → is_some o ≡ false → o ≡ None
no_disk None e = refl
no_disk (Some x) e = absurd cc

never : (b : Bool) → (b && false) ≡ false
never true = refl
never false = refl

either_way : (a b : Bool) → (a && b) ≡ (b && a)
either_way true b = sym (alone b)
  where
    alone : (c : Bool) → (c && true) ≡ c
    alone true = refl
    alone false = refl
either_way false b = sym (never b)

-- A flag that is set stands among the flags.
pub flag_there : (flags : List Bool) (d : ℕ) → get_or flags d false ≡ true → d < length flags
flag_there [] d set = absurd (cc set)
flag_there (flag ∷ flags) zero set = omega arith
flag_there (flag ∷ flags) (suc d) set = let lt = flag_there flags d set in omega (arith, lt)

-- ---- the volumes are lent

-- Jobs that were at home have the disks of the volumes that are wanted, unless they have failed.
pub record Lent {D : Type 0} (tells own : Type 0) (state : D → Standing) (start mid : PlantState) (old lent : List (VolumeJob D)) (wanted : List Bool) : Type 0 where
  pub home : are_home_from 0 old ≡ true
  pub same : length lent ≡ length old
  pub lends : (i : ℕ) (d : VolumeJob D) → i < length old → LendsWhere (get_or wanted i false) (get_or old i d) (get_or lent i d)
  pub out : AreOut tells own state start mid lent lent

module _ {D : Type 0} (tells own : Type 0) (state : D → Standing) (start mid : PlantState) (old lent : List (VolumeJob D)) (wanted : List Bool) (l : Lent tells own state start mid old lent wanted) where
  lent_at : (i : ℕ) (d : VolumeJob D) → i < length lent → (get_or lent i d).device ≡ i
  lent_at i d lt = (l.lends i d (omega (arith, lt, l.same))).device ∙ omega (arith, (home_at 0 old l.home i d (omega (arith, lt, l.same))).device)

  lent_holds : (i : ℕ) (d : VolumeJob D) → i < length lent → OnDisks (HoldsVolume tells own state start mid i) (get_or lent i d).disk (get_or lent i d).disk
  lent_holds i d lt = subst (λ (v : ℕ). OnDisks (HoldsVolume tells own state start mid v) (get_or lent i d).disk (get_or lent i d).disk) (lent_at i d lt) (l.out.disks i d lt)

  -- Where items are wanted, the slots of their tracks lie in the disks.
  pub have_slots : (items : List Item) → ((d x : ℕ) → HasItem d x items → slot_end x ≤ start.lengths (Volume d)) → ((d : ℕ) → get_or wanted d false ≡ has_device d items) → All (HasItsSlots state items) lent
  have_slots items room are_wanted i d lt good =
      subst (λ (v : ℕ). HasSlots state v items (get_or lent i d).disk) (sym (lent_at i d lt))
      (by_disk (get_or lent i d).disk (lent_holds i d lt) (l.lends i d (omega (arith, lt, l.same))).disk (sym (l.lends i d (omega (arith, lt, l.same))).failed ∙ good))
    where
      by_disk : (o : Option D) → OnDisks (HoldsVolume tells own state start mid i) o o → is_some o ≡ (get_or wanted i false && not (get_or old i d).failed) → (get_or old i d).failed ≡ false → HasSlots state i items o
      by_disk (Some disk) holds is fine = λ x has. omega (arith, room i x has, holds.out.from.length_is)
      by_disk None holds is fine =
          let none : get_or wanted i false ≡ false = sym (is ∙ (λ j. get_or wanted i false && not (fine j)) ∙ either_way (get_or wanted i false) true) in
          λ x. no_items i x items (sym (are_wanted i) ∙ none)

-- ---- and given back

-- They were worked on, and are back.
pub record Sides {D : Type 0} (tells own : Type 0) (state : D → Standing) (start mid end : PlantState) (old lent given : List (VolumeJob D)) (wanted : List Bool) : Type 0 where
  pub lent_first : Lent tells own state start mid old lent wanted
  pub worked : AreWorkedOn own state lent given
  pub back : AreBack tells state start end lent given

module _ {D : Type 0} (tells own : Type 0) (state : D → Standing) (start mid end : PlantState) (old lent given : List (VolumeJob D)) (wanted : List Bool) (s : Sides tells own state start mid end old lent given wanted) where
  same : length lent ≡ length old
  same = s.lent_first.same

  lends : (i : ℕ) (d : VolumeJob D) → i < length old → LendsWhere (get_or wanted i false) (get_or old i d) (get_or lent i d)
  lends = s.lent_first.lends

  device_at : (i : ℕ) (d : VolumeJob D) → i < length lent → (get_or lent i d).device ≡ i
  device_at = lent_at tells own state start mid old lent wanted s.lent_first

  given_at : (i : ℕ) (d : VolumeJob D) → i < length lent → (get_or given i d).device ≡ i
  given_at i d lt = s.worked.devices i d lt ∙ device_at i d lt

  -- A disk is there before and after, or neither.
  some_same : (i : ℕ) (d : VolumeJob D) → i < length lent → is_some (get_or given i d).disk ≡ is_some (get_or lent i d).disk
  some_same i d lt = by_disk (get_or lent i d).disk (get_or given i d).disk (s.worked.disks i d lt)
    where
      by_disk : (o n : Option D) → OnDisks (λ was is. WorkedOn own (state was) (state is)) o n → is_some n ≡ is_some o
      by_disk (Some a) (Some b) is = refl
      by_disk None None is = refl
      by_disk (Some a) None is = absurd is
      by_disk None (Some b) is = absurd is

  -- the jobs are at home again
  pub home_again : are_home_from 0 (map without_disk given) ≡ true
  home_again = home_from 0 (map without_disk given) each
    where
      each : (i : ℕ) (d : VolumeJob D) → i < length (map without_disk given) → Home 0 i (get_or (map without_disk given) i d)
      each i d lt =
          let less : i < length given = omega (arith, lt, length-map given without_disk) in
          subst (Home 0 i) (sym (get_or-map without_disk given i d d less)) (record { device = omega (arith, given_at i d (omega (arith, less, s.worked.same))); idle = refl })

  pub count_again : length (map without_disk given) ≡ length old
  count_again = length-map given without_disk ∙ s.worked.same ∙ same

  -- ---- the devices

  not_lent : (i : ℕ) (d : VolumeJob D) → i < length lent → is_some (get_or lent i d).disk ≡ false → ¬ IsLentTo given (Volume i)
  not_lent i d lt none among =
      let job = among.0 in
      let j = among.1.0 in
      let less : j < length lent = omega (arith, among.1.1.0, s.worked.same) in
      let is : i ≡ job.device = cc among.3 in
      let at : job.device ≡ j = ap (λ (k : VolumeJob D). k.device) among.1.1.1 ∙ given_at j job less in
      let here : j ≡ i = sym (is ∙ at) in
      let has : is_some (get_or lent j job).disk ≡ true = sym (some_same j job less) ∙ ap (λ (k : VolumeJob D). is_some k.disk) (sym among.1.1.1) ∙ among.2 in
      let no : is_some (get_or lent j job).disk ≡ false = ap (λ (k : ℕ). is_some (get_or lent k job).disk) here ∙ ap (λ (k : VolumeJob D). is_some k.disk) (get_or_default lent i job d lt) ∙ none in
      absurd (cc (no, has))

  -- Only the volumes that are wanted were worked on.
  pub only_wanted : WorksOnLent tells (IsAmong wanted) start end
  only_wanted = works_lent_more tells (IsLentTo given) (IsAmong wanted) start end wider s.back.works
    where
      wider : (device : Device) → IsLentTo given device → IsAmong wanted device
      wider device among =
          let job = among.0 in
          let j = among.1.0 in
          let lt : j < length lent = omega (arith, among.1.1.0, s.worked.same) in
          let at : job.device ≡ j = ap (λ (k : VolumeJob D). k.device) among.1.1.1 ∙ given_at j job lt in
          let has : is_some (get_or given j job).disk ≡ true = ap (λ (k : VolumeJob D). is_some k.disk) (sym among.1.1.1) ∙ among.2 in
          let both = and_parts (get_or wanted j false) (not (get_or old j job).failed) (sym (lends j job (omega (arith, lt, same))).disk ∙ sym (some_same j job lt) ∙ has) in
          subst (IsAmong wanted) (sym (among.3 ∙ ap Volume at)) both.0

  -- ---- which jobs have failed

  -- a job of a place, for where one is wanted
  some_at : (jobs : List (VolumeJob D)) (i : ℕ) → i < length jobs → VolumeJob D
  some_at [] i lt = absurd (omega (arith, lt))
  some_at (job ∷ jobs) i lt = job

  failed_at : (i : ℕ) (d : VolumeJob D) → i < length lent → get_or (map has_job_failed old) i false ≡ (get_or lent i d).failed
  failed_at i d lt = get_or-map has_job_failed old i d false (omega (arith, lt, same)) ∙ sym (lends i d (omega (arith, lt, same))).failed

  failed_then : (i : ℕ) (d : VolumeJob D) → i < length lent → get_or (map has_job_failed (map without_disk given)) i false ≡ (get_or given i d).failed
  failed_then i d lt =
      let less : i < length given = omega (arith, lt, s.worked.same) in
      get_or-map has_job_failed (map without_disk given) i (without_disk d) false (omega (arith, less, length-map given without_disk))
      ∙ ap (λ (j : VolumeJob D). j.failed) (get_or-map without_disk given i d (without_disk d) less)

  -- ---- a job and its volume

  -- A job whose volume was lent, or one whose volume was left alone.
  lent_disk : (i : ℕ) (d : VolumeJob D) → i < length lent → is_some (get_or lent i d).disk ≡ (get_or wanted i false && not (get_or lent i d).failed)
  lent_disk i d lt = let one = lends i d (omega (arith, lt, same)) in one.disk ∙ (λ j. get_or wanted i false && not (sym one.failed j))

  holds_at : (i : ℕ) (d : VolumeJob D) → i < length lent → OnDisks (HoldsVolume tells own state start mid i) (get_or lent i d).disk (get_or lent i d).disk
  holds_at = lent_holds tells own state start mid old lent wanted s.lent_first

  back_at : (i : ℕ) (d : VolumeJob D) → i < length lent → OnDisks (λ was is. IsBack tells start end i (state was) (state is)) (get_or lent i d).disk (get_or given i d).disk
  back_at i d lt = subst (λ (v : ℕ). OnDisks (λ was is. IsBack tells start end v (state was) (state is)) (get_or lent i d).disk (get_or given i d).disk) (given_at i d lt) (s.back.disks i d (omega (arith, lt, s.worked.same)))

  -- The disk before and after.
  pub record OnDisk (i : ℕ) (o n : Option D) : Type 0 where
    pub was : D
    pub is : D
    pub old_is : o ≡ Some was
    pub new_is : n ≡ Some is
    pub holds : HoldsVolume tells own state start mid i was was
    pub came : IsBack tells start end i (state was) (state is)

  disk_at : (i : ℕ) (d : VolumeJob D) → i < length lent → is_some (get_or lent i d).disk ≡ true → OnDisk i (get_or lent i d).disk (get_or given i d).disk
  disk_at i d lt has = by_disk (get_or lent i d).disk (get_or given i d).disk has (holds_at i d lt) (back_at i d lt)
    where
      by_disk : (o n : Option D) → is_some o ≡ true → OnDisks (HoldsVolume tells own state start mid i) o o → OnDisks (λ was is. IsBack tells start end i (state was) (state is)) o n → OnDisk i o n
      by_disk (Some a) (Some b) has holds came = record { was = a; is = b; old_is = refl; new_is = refl; holds = holds; came = came }
      by_disk (Some a) None has holds came = absurd came
      by_disk None n has holds came = absurd cc

  -- What is said of a job's volume before and after is said of these disks.
  on_disk : (i : ℕ) (holds : Standing → Standing → Type 0) (o n : Option D) (at : OnDisk i o n) → OnVolume state holds o n → holds (state at.was) (state at.is)
  on_disk i holds o n at fact = subst (λ (p : Option D). OnVolume state holds (Some at.was) p) at.new_is (subst (λ (p : Option D). OnVolume state holds p n) at.old_is fact)

  counts : (i : ℕ) (failed : Bool) (o n : Option D) (at : OnDisk i o n) → OnVolume state (λ was is. FailsByCount failed was.faults is.faults) o n → FailsByCount failed (start.faults (Volume i)) (end.faults (Volume i))
  counts i failed o n at fact =
      subst (λ (k : ℕ). FailsByCount failed (start.faults (Volume i)) k) (sym at.came.faults)
      (subst (λ (k : ℕ). FailsByCount failed k (state at.is).faults) at.holds.out.from.faults (on_disk i (λ was is. FailsByCount failed was.faults is.faults) o n at fact))

  idle_faults : (i : ℕ) (d : VolumeJob D) → i < length lent → is_some (get_or lent i d).disk ≡ false → end.faults (Volume i) ≡ start.faults (Volume i)
  idle_faults i d lt none = s.back.works.others_faults (Volume i) (not_lent i d lt none)

  idle_stays : (i : ℕ) (d : VolumeJob D) → i < length lent → is_some (get_or lent i d).disk ≡ false → tells → Stays (on start (Volume i)) (on end (Volume i))
  idle_stays i d lt none told = s.back.works.others told (Volume i) (not_lent i d lt none)

  -- ---- syncs

  module _ (each : (i : ℕ) (d : VolumeJob D) → i < length lent → SyncsJob state own (get_or lent i d) (get_or given i d)) where
    idle_flag : (i : ℕ) (d : VolumeJob D) → i < length lent → is_some (get_or lent i d).disk ≡ false → (get_or given i d).failed ≡ (get_or lent i d).failed
    idle_flag i d lt none = ap (λ (j : VolumeJob D). j.failed) ((each i d lt).without_disk (no_disk (get_or lent i d).disk none))

    counted : (i : ℕ) (d : VolumeJob D) → i < length lent → (get_or lent i d).failed ≡ false → FailsByCount (get_or given i d).failed (start.faults (Volume i)) (end.faults (Volume i))
    counted i d lt good = elim (cases_Bool (is_some (get_or lent i d).disk)) [
      | inl has ↦
          counts i (get_or given i d).failed (get_or lent i d).disk (get_or given i d).disk (disk_at i d lt has)
          (weaker (get_or lent i d).disk (get_or given i d).disk ((each i d lt).synced good))
      | inr none ↦
          let fine : (get_or given i d).failed ≡ false = idle_flag i d lt none ∙ good in
          let stays = idle_faults i d lt none in
          record { later = omega (arith, stays); by_one = omega (arith, stays); same = λ e. stays; rose = λ bad. absurd (cc (bad, fine)) }
    ]
      where
        weaker : (o n : Option D) → OnVolume state (SyncsVolume own (get_or given i d).failed) o n → OnVolume state (λ was is. FailsByCount (get_or given i d).failed was.faults is.faults) o n
        weaker (Some a) (Some b) is = is.cause
        weaker None None is = tt
        weaker (Some a) None is = absurd is
        weaker None (Some b) is = absurd is

    pub syncs_fail : FailByCounts (map has_job_failed old) (map has_job_failed (map without_disk given)) start.faults end.faults
    syncs_fail = record {
      size = length-map (map without_disk given) has_job_failed ∙ count_again ∙ sym (length-map old has_job_failed);
      alone = λ i lt failed.
          let less : i < length lent = omega (arith, lt, same, length-map old has_job_failed) in
          let d = some_at lent i less in
          let bad : (get_or lent i d).failed ≡ true = sym (failed_at i d less) ∙ failed in
          let none : is_some (get_or lent i d).disk ≡ false = lent_disk i d less ∙ (λ j. get_or wanted i false && not (bad j)) ∙ never (get_or wanted i false) in
          (failed_then i d less ∙ idle_flag i d less none ∙ bad, idle_faults i d less none);
      by_count = λ i lt good.
          let less : i < length lent = omega (arith, lt, same, length-map old has_job_failed) in
          let d = some_at lent i less in
          subst (λ (b : Bool). FailsByCount b (start.faults (Volume i)) (end.faults (Volume i))) (sym (failed_then i d less)) (counted i d less (sym (failed_at i d less) ∙ good));
    }

    pub syncs_read : AreRead own state lent given
    syncs_read = record {
      moments = λ told i d lt. by_flag i d (omega (arith, lt, s.worked.same)) told (λ was is. Follows (λ b c. c ≡ b) was is) (λ a t from to c left. (c, left_at a t from to c left, refl)) (λ a b is. is.moments told);
      bytes = λ told i d lt. by_flag i d (omega (arith, lt, s.worked.same)) told (λ was is. is.bytes ≡ was.bytes) (λ a. refl) (λ a b is. is.bytes told);
    }
      where
        left_at : (a : Standing) (t : ℕ) → a.clock ≤ t → t ≤ a.clock → (c : List ℕ) → a.images t c → a.images a.clock c
        left_at a t from to c left = let here : t ≡ a.clock = omega (arith, from, to) in subst (λ (k : ℕ). a.images k c) here left

        by_flag : (i : ℕ) (d : VolumeJob D) → i < length lent → own → (holds : Standing → Standing → Type 0) → ((a : Standing) → holds a a) → ((a b : Standing) → SyncsVolume own (get_or given i d).failed a b → holds a b)
            → OnDisks (λ was is. holds (state was) (state is)) (get_or lent i d).disk (get_or given i d).disk
        by_flag i d lt told holds here synced = elim (cases_Bool (get_or lent i d).failed) [
          | inl bad ↦ subst (λ (j : VolumeJob D). OnDisks (λ was is. holds (state was) (state is)) (get_or lent i d).disk j.disk) (sym ((each i d lt).left_alone bad)) (unchanged (get_or lent i d).disk)
          | inr good ↦ changed (get_or lent i d).disk (get_or given i d).disk ((each i d lt).synced good)
        ]
          where
            unchanged : (o : Option D) → OnDisks (λ was is. holds (state was) (state is)) o o
            unchanged (Some a) = here (state a)
            unchanged None = tt

            changed : (o n : Option D) → OnVolume state (SyncsVolume own (get_or given i d).failed) o n → OnDisks (λ was is. holds (state was) (state is)) o n
            changed (Some a) (Some b) is = synced (state a) (state b) is
            changed None None is = tt
            changed (Some a) None is = absurd is
            changed None (Some b) is = absurd is

    -- A volume that was wanted and whose job hasn't failed is durable.
    pub syncs_durable : tells → (i : ℕ) → i < length lent → get_or wanted i false ≡ true → get_or (map has_job_failed (map without_disk given)) i false ≡ false → IsDurable (on end (Volume i))
    syncs_durable told i lt marked fine =
        let d = some_at lent i lt in
        let fine_then : (get_or given i d).failed ≡ false = sym (failed_then i d lt) ∙ fine in
        let good : (get_or lent i d).failed ≡ false = elim (cases_Bool (get_or lent i d).failed) [
          | inl bad ↦ let still = ap (λ (j : VolumeJob D). j.failed) ((each i d lt).left_alone bad) ∙ bad in absurd (cc (still, fine_then))
          | inr good ↦ good
        ] in
        let has : is_some (get_or lent i d).disk ≡ true = lent_disk i d lt ∙ (λ j. marked j && not (good j)) in
        let at = disk_at i d lt has in
        let synced : SyncsVolume own (get_or given i d).failed (state at.was) (state at.is) = on_disk i (SyncsVolume own (get_or given i d).failed) (get_or lent i d).disk (get_or given i d).disk at ((each i d lt).synced good) in
        back_durable tells i start end (state at.was) (state at.is) told at.came (synced.durable (at.holds.tells_own told) fine_then)

  -- ---- items

  module _ (items : List Item) (each : (i : ℕ) (d : VolumeJob D) → i < length lent → AppliesToJob state own items (get_or lent i d) (get_or given i d)) where
    module _ (i : ℕ) (d : VolumeJob D) (lt : i < length lent) where
      idle_job : is_some (get_or lent i d).disk ≡ false → (get_or given i d).failed ≡ (get_or lent i d).failed
      idle_job none = ap (λ (j : VolumeJob D). j.failed) ((each i d lt).without_disk (no_disk (get_or lent i d).disk none))

      good_job : is_some (get_or lent i d).disk ≡ true → (get_or lent i d).failed ≡ false
      good_job has = not_true (get_or lent i d).failed (and_parts (get_or wanted i false) (not (get_or lent i d).failed) (sym (lent_disk i d lt) ∙ has)).1
        where
          not_true : (b : Bool) → not b ≡ true → b ≡ false
          not_true true e = absurd cc
          not_true false e = refl

      -- where it isn't lent, and where it is
      applies_idle : (applies : Bool) → applies ≡ false → is_some (get_or lent i d).disk ≡ false → AppliesToVolume tells items applies (get_or lent i d).failed (get_or given i d).failed i start end
      applies_idle applies unapplied none =
          let stays = idle_stays i d lt none in
          record {
            stays = λ _ told. stays told;
            same_count = λ _. idle_faults i d lt none;
            same_job = λ _. idle_job none;
            count = λ applied. absurd (cc (unapplied, applied));
            content = λ told applied. absurd (cc (unapplied, applied));
            slots = λ told. subst (λ (b : List ℕ). DiffersInSlots i items (start.bytes (Volume i)) b) (sym (stays told).bytes) (differs_here i items (start.bytes (Volume i)));
            moments = λ told t from to c left. let was = (stays told).images t from to c left in (was.0, was.1, subst (λ (b : List ℕ). DiffersInSlots i items was.0 b) (sym was.2) (differs_here i items was.0));
          }

      device_is : (get_or lent i d).device ≡ i
      device_is = device_at i d lt

      applies_lent : (applies : Bool) → applies ≡ true → is_some (get_or lent i d).disk ≡ true → AppliesToVolume tells items applies (get_or lent i d).failed (get_or given i d).failed i start end
      applies_lent applies is_applied has =
          let at = disk_at i d lt has in
          let o = (get_or lent i d).disk in
          let n = (get_or given i d).disk in
          let one = each i d lt in
          record {
            stays = λ unapplied. absurd (cc (unapplied, is_applied));
            same_count = λ unapplied. absurd (cc (unapplied, is_applied));
            same_job = λ unapplied. absurd (cc (unapplied, is_applied));
            count = λ _. counts i (get_or given i d).failed o n at (one.cause (good_job has));
            content = λ told _ fine.
                let own_told = at.holds.tells_own told in
                let holds : HoldsContent (get_or lent i d).device items (state at.was).bytes (state at.is).bytes = on_disk i (λ was is. HoldsContent (get_or lent i d).device items was.bytes is.bytes) o n at (one.content own_told fine) in
                subst (λ (x : Type 0). x) (λ j. HoldsContent (device_is j) items (at.holds.out.from.bytes told j) (sym (at.came.bytes told) j)) holds;
            slots = λ told.
                let own_told = at.holds.tells_own told in
                let differs : DiffersInSlots (get_or lent i d).device items (state at.was).bytes (state at.is).bytes = on_disk i (λ was is. DiffersInSlots (get_or lent i d).device items was.bytes is.bytes) o n at (one.bytes own_told) in
                subst (λ (x : Type 0). x) (λ j. DiffersInSlots (device_is j) items (at.holds.out.from.bytes told j) (sym (at.came.bytes told) j)) differs;
            moments = λ told.
                let own_told = at.holds.tells_own told in
                let follows : Follows (DiffersInSlots (get_or lent i d).device items) (state at.was) (state at.is) = on_disk i (Follows (DiffersInSlots (get_or lent i d).device items)) o n at (one.moments own_told) in
                back_follows tells i start end (state at.was) (state at.is) (DiffersInSlots i items) told at.came (differs_here i items) (subst (λ (v : ℕ). Follows (DiffersInSlots v items) (state at.was) (state at.is)) device_is follows);
          }

      applies_at : (applies : Bool) → applies ≡ is_some (get_or lent i d).disk → AppliesToVolume tells items applies (get_or lent i d).failed (get_or given i d).failed i start end
      applies_at applies is = elim (cases_Bool (is_some (get_or lent i d).disk)) [
        | inl has ↦ applies_lent applies (is ∙ has) has
        | inr none ↦ applies_idle applies (is ∙ none) none
      ]

    pub applied_sides : (i : ℕ) → i < length old
        → (let was = get_or (map has_job_failed old) i false in AppliesToVolume tells items (not was && get_or wanted i false) was (get_or (map has_job_failed (map without_disk given)) i false) i start end)
    applied_sides i less =
        let lt : i < length lent = omega (arith, less, same) in
        let d = some_at lent i lt in
        let flag = failed_at i d lt in
        subst (λ (x : Type 0). x) (λ j. AppliesToVolume tells items (not (sym flag j) && get_or wanted i false) (sym flag j) (sym (failed_then i d lt) j) i start end)
        (applies_at i d lt (not (get_or lent i d).failed && get_or wanted i false) (either_way (not (get_or lent i d).failed) (get_or wanted i false) ∙ sym (lent_disk i d lt)))
