-- The volumes that aren't left alone lent, written side by side, and given back.
use Rattle.std.proofs.Common.{take, drop, ◌≡◌, ℕ, zero, suc, ◌+◌, ◌++◌, ◌||◌, nat_lt, replicate, length-append, ◌<◌, ◌≤◌, ◌&&◌, inl, inr, Bool, true, false, not, List, [], ◌∷◌, length, map, get_or, Option, Some, None, refl, sym, ap, subst, ◌∙◌, arith}
use Rattle.std.specs.Prelude.{is_some}
use Rattle.std.specs.List.{All, list_any}
use Rattle.std.proofs.lemmas.Bool.{and_parts, cases_Bool, cases_lt, eqb-true, ltb-true}
use Rattle.std.proofs.lemmas.List.{append-nil, drop_all, take_all, get_or-map, get_or_past, length-map, length-replicate, map-append}
use Rattle.ckd_track.specs.SlotPlaces.{slot_end}
use Rattle.crash_plant.specs.declared.device.Device.{Device}
use Rattle.crash_plant.specs.declared.device.Device.TheVariants.{Control, State, Journal, Volume}
use Rattle.crash_plant.specs.Calls.{NoneLent, SameSite}
use Rattle.crash_plant.specs.Moments.{Follows, PlantState, Standing, on}
use Rattle.xrc_journal.specs.declared.job.VolumeJob.{VolumeJob}
use Rattle.xrc_journal.specs.Contents.{HasItem}
use Rattle.xrc_journal.specs.Items.{Item}
use Rattle.xrc_journal.specs.Jobs.{FailsByCount, OnVolume}
use Rattle.applier.specs.Returns.{AreBack, IsBack}
use Rattle.applier.specs.Disks.{IsLentTo, OnDisks, without_disk}
use Rattle.applier.specs.Jobs.{HasSlots}
use Rattle.applier.specs.Loans.{AreOut, AreWorkedOn, HoldsVolume, LendsWhere, WorkedOn}
use Rattle.applier.specs.Sides.{AppliesToJob, HasItsSlots}
use Rattle.applier.specs.Slots.{DiffersInSlots, HoldsContent}
use Rattle.applier.proofs.InSlots.{differs_here}
use Rattle.applier.proofs.LentVolumes.{back_follows}
use Rattle.site_means.specs.Answers.{IsStore}
use Rattle.pair_table.specs.declared.row.PairRow.{PairRow}
use Rattle.pair_table.specs.Tables.{are_below, is_of}
use Rattle.xrecover.specs.Pairs.{HasDuplex, is_duplex_of}
use Rattle.pair_table.specs.States.{is_duplex}
use Rattle.xrecover.specs.SideVolumes.{AppliesSides, AreHome, AreSet, OfVolumes, is_left}
use Rattle.xrc_journal.specs.Jobs.{has_job_failed}

not_true : (b : Bool) → not b ≡ true → b ≡ false
not_true true e = absurd cc
not_true false e = refl

-- ---- jobs at home

-- What is so of each element, and of one after them.
push_at : {X : Type 0} (P : ℕ → X → Type 0) (xs : List X) (x : X) → ((i : ℕ) (d : X) → i < length xs → P i (get_or xs i d)) → P (length xs) x → (i : ℕ) (d : X) → i < length (xs ++ x ∷ []) → P i (get_or (xs ++ x ∷ []) i d)
push_at P [] x each last zero d lt = last
push_at P [] x each last (suc i) d lt = absurd (omega (arith, lt))
push_at P (y ∷ xs) x each last zero d lt = each 0 d (omega arith)
push_at P (y ∷ xs) x each last (suc i) d lt = push_at (λ k. P (suc k)) xs x (λ j e less. each (suc j) e (omega (arith, less))) last i d (omega (arith, lt))

module _ {V : Type 0} where
  pub home_later : (old new : PlantState) (jobs : List (VolumeJob V)) → SameSite old new → AreHome old.volumes jobs → AreHome new.volumes jobs
  home_later old new jobs site home = record { count = home.count ∙ sym site.volumes; device = home.device; idle = home.idle }

  pub home_push : (n : ℕ) (jobs : List (VolumeJob V)) (job : VolumeJob V) → AreHome n jobs → job.device ≡ n → job.disk ≡ None → AreHome (n + 1) (jobs ++ job ∷ [])
  home_push n jobs job home device idle = record {
    count = length-append jobs (job ∷ []) ∙ omega (arith, home.count);
    device = push_at (λ i j. j.device ≡ i) jobs job home.device (device ∙ sym home.count);
    idle = push_at (λ i j. j.disk ≡ None) jobs job home.idle idle;
  }

  -- A flag that is so of each volume before is so of one more.
  pub left_push : (flag : ℕ → Bool) (jobs : List (VolumeJob V)) (job : VolumeJob V) → ((v : ℕ) → v < length jobs → is_left jobs v ≡ flag v) → job.failed ≡ flag (length jobs) → (v : ℕ) → v < length jobs + 1 → is_left (jobs ++ job ∷ []) v ≡ flag v
  left_push flag jobs job before here v lt =
      let parts : map has_job_failed (jobs ++ job ∷ []) ≡ map has_job_failed jobs ++ job.failed ∷ [] = map-append has_job_failed jobs (job ∷ []) in
      ap (λ (l : List Bool). get_or l v true) parts
      ∙ push_at (λ i b. b ≡ flag i) (map has_job_failed jobs) job.failed
      (λ i d less. let there : i < length jobs = omega (arith, less, length-map jobs has_job_failed) in get_or-map has_job_failed jobs i job d there ∙ sym (get_or-map has_job_failed jobs i job true there) ∙ before i there)
      (here ∙ ap flag (sym (length-map jobs has_job_failed))) v true (omega (arith, lt, length-append (map has_job_failed jobs) (job.failed ∷ []), length-map jobs has_job_failed))

  -- A volume that isn't left alone is one of theirs.
  pub volume_of : (jobs : List (VolumeJob V)) (volumes : ℕ) → AreHome volumes jobs → (v : ℕ) → is_left jobs v ≡ false → v < volumes
  volume_of jobs volumes home v live = elim (cases_lt v (length jobs)) [
    | inl lt ↦ omega (arith, lt, home.count)
    | inr past ↦
        let left : is_left jobs v ≡ true = get_or_past (map has_job_failed jobs) v true (omega (arith, past, length-map jobs has_job_failed)) in
        absurd (cc (left, live))
  ]

  -- The flag of a job is that of its volume.
  pub flag_of : (jobs : List (VolumeJob V)) (v : ℕ) (d : VolumeJob V) → v < length jobs → is_left jobs v ≡ (get_or jobs v d).failed
  flag_of jobs v d lt = get_or-map has_job_failed jobs v d true lt

-- A list written over whole is what was written.
pub written_whole : {X : Type 0} (n : ℕ) (xs ys : List X) → length xs ≡ length ys → n ≡ length ys → take n (xs ++ drop (length xs) ys) ≡ xs
written_whole n xs ys same size = ap (λ (l : List _). take n (xs ++ l)) (drop_all (length xs) ys (omega (arith, same))) ∙ ap (λ (l : List _). take n l) (append-nil xs) ∙ take_all n xs (omega (arith, same, size))

-- ---- flags

set_at : (n : ℕ) (k : ℕ) (d : Bool) → k < length (replicate n true) → get_or (replicate n true) k d ≡ true
set_at zero k d lt = absurd (omega (arith, lt))
set_at (suc n) zero d lt = refl
set_at (suc n) (suc k) d lt = set_at n k d (omega (arith, lt))

pub are_set : (n : ℕ) (flags : List Bool) → flags ≡ replicate n true → AreSet n flags
are_set n flags is = subst (λ (l : List Bool). AreSet n l) (sym is) (record { size = length-replicate n true; set = set_at n })

duplex_below : (volumes : ℕ) (rows : List PairRow) (v : ℕ) → are_below volumes rows ≡ true → HasDuplex rows v → v < volumes
duplex_below volumes [] v below has = absurd cc
duplex_below volumes (q ∷ rows) v below has =
    let parts = and_parts (nat_lt q.device volumes) (are_below volumes rows) below in
    by_first (is_duplex_of v q) refl has (ltb-true q.device volumes parts.0) (duplex_below volumes rows v parts.1)
  where
    by_first : (b : Bool) → is_duplex_of v q ≡ b → (b || list_any (is_duplex_of v) rows) ≡ true → q.device < volumes → (HasDuplex rows v → v < volumes) → v < volumes
    by_first true e has there more = omega (arith, eqb-true v q.device (and_parts (is_of v q) (is_duplex q.state) e).0, there)
    by_first false e has there more = more has

-- The volumes that aren't left alone are those of duplex pairs.
module _ {V : Type 0} (volumes : ℕ) (rows : List PairRow) (jobs : List (VolumeJob V)) (home : AreHome volumes jobs) (left : (v : ℕ) → v < volumes → is_left jobs v ≡ not (list_any (is_duplex_of v) rows)) where
  pub duplex_live : are_below volumes rows ≡ true → (v : ℕ) → HasDuplex rows v → is_left jobs v ≡ false
  duplex_live below v has = left v (duplex_below volumes rows v below has) ∙ ap not has

  pub others_left : (v : ℕ) → ¬ HasDuplex rows v → is_left jobs v ≡ true
  others_left v none = elim (cases_lt v volumes) [
    | inr past ↦ get_or_past (map has_job_failed jobs) v true (omega (arith, past, home.count, length-map jobs has_job_failed))
    | inl lt ↦ elim (cases_Bool (list_any (is_duplex_of v) rows)) [
      | inl has ↦ absurd (none has)
      | inr absent ↦ left v lt ∙ ap not absent
    ]
  ]

-- ---- the volumes are lent

pub record Lent {D : Type 0} (tells own : Type 0) (state : D → Standing) (start mid : PlantState) (old lent : List (VolumeJob D)) (flags : List Bool) : Type 0 where
  pub home : AreHome start.volumes old
  pub set : AreSet start.volumes flags
  pub same : length lent ≡ length old
  pub lends : (i : ℕ) (d : VolumeJob D) → i < length old → LendsWhere (get_or flags i false) (get_or old i d) (get_or lent i d)
  pub out : AreOut tells own state start mid lent lent

module _ {D : Type 0} (tells own : Type 0) (state : D → Standing) (start mid : PlantState) (old lent : List (VolumeJob D)) (flags : List Bool) (l : Lent tells own state start mid old lent flags) where
  lent_at : (i : ℕ) (d : VolumeJob D) → i < length lent → (get_or lent i d).device ≡ i
  lent_at i d lt = (l.lends i d (omega (arith, lt, l.same))).device ∙ l.home.device i d (omega (arith, lt, l.same))

  lent_holds : (i : ℕ) (d : VolumeJob D) → i < length lent → OnDisks (HoldsVolume tells own state start mid i) (get_or lent i d).disk (get_or lent i d).disk
  lent_holds i d lt = subst (λ (v : ℕ). OnDisks (HoldsVolume tells own state start mid v) (get_or lent i d).disk (get_or lent i d).disk) (lent_at i d lt) (l.out.disks i d lt)

  -- A job has its disk exactly where it isn't left alone.
  lent_disk : (i : ℕ) (d : VolumeJob D) → i < length lent → is_some (get_or lent i d).disk ≡ not (get_or lent i d).failed
  lent_disk i d lt =
      let one = l.lends i d (omega (arith, lt, l.same)) in
      let yes : get_or flags i false ≡ true = l.set.set i false (omega (arith, lt, l.same, l.home.count, l.set.size)) in
      one.disk ∙ (λ j. yes j && not (sym one.failed j))

  pub have_slots : (items : List Item) → ((d x : ℕ) → HasItem d x items → slot_end x ≤ start.lengths (Volume d)) → All (HasItsSlots state items) lent
  have_slots items room i d lt good =
      subst (λ (v : ℕ). HasSlots state v items (get_or lent i d).disk) (sym (lent_at i d lt)) (by_disk (get_or lent i d).disk (lent_holds i d lt) (lent_disk i d lt ∙ ap not good))
    where
      by_disk : (o : Option D) → OnDisks (HoldsVolume tells own state start mid i) o o → is_some o ≡ true → HasSlots state i items o
      by_disk (Some disk) holds is = λ x has. omega (arith, room i x has, holds.out.from.length_is)
      by_disk None holds is = absurd cc

-- ---- and given back

pub record Sides {D : Type 0} (tells own : Type 0) (state : D → Standing) (start mid end : PlantState) (old lent given : List (VolumeJob D)) (flags : List Bool) (items : List Item) : Type 0 where
  pub first : Lent tells own state start mid old lent flags
  pub worked : AreWorkedOn own state lent given
  pub back : AreBack tells state start end lent given
  pub each : (i : ℕ) (d : VolumeJob D) → i < length lent → AppliesToJob state own items (get_or lent i d) (get_or given i d)

module _ {D : Type 0} (tells own : Type 0) (state : D → Standing) (start mid end : PlantState) (old lent given : List (VolumeJob D)) (flags : List Bool) (items : List Item) (s : Sides tells own state start mid end old lent given flags items) where
  device_at : (i : ℕ) (d : VolumeJob D) → i < length lent → (get_or lent i d).device ≡ i
  device_at = lent_at tells own state start mid old lent flags s.first

  given_at : (i : ℕ) (d : VolumeJob D) → i < length lent → (get_or given i d).device ≡ i
  given_at i d lt = s.worked.devices i d lt ∙ device_at i d lt

  -- A disk is there before and after, or neither.
  some_same : (i : ℕ) (d : VolumeJob D) → i < length lent → is_some (get_or given i d).disk ≡ is_some (get_or lent i d).disk
  some_same i d lt = by_disk (get_or lent i d).disk (get_or given i d).disk (s.worked.disks i d lt)
    where
      by_disk : (o n : Option D) → OnDisks (λ was is. WorkedOn own (state was) (state is)) o n → is_some n ≡ is_some o
      by_disk (Some a) (Some b) is = refl
      by_disk None None is = refl
      by_disk (Some a) None is = absurd is
      by_disk None (Some b) is = absurd is

  -- the jobs are at home again
  pub home_again : AreHome end.volumes (map without_disk given)
  home_again = record {
    count = length-map given without_disk ∙ s.worked.same ∙ s.first.same ∙ s.first.home.count ∙ sym s.back.works.site.volumes;
    device = λ i d lt.
        let less : i < length given = omega (arith, lt, length-map given without_disk) in
        ap (λ (j : VolumeJob D). j.device) (get_or-map without_disk given i d d less) ∙ given_at i d (omega (arith, less, s.worked.same));
    idle = λ i d lt.
        let less : i < length given = omega (arith, lt, length-map given without_disk) in
        ap (λ (j : VolumeJob D). j.disk) (get_or-map without_disk given i d d less);
  }

  -- ---- which volumes are left alone

  -- a job, for where one is wanted
  some_at : (jobs : List (VolumeJob D)) (i : ℕ) → i < length jobs → VolumeJob D
  some_at [] i lt = absurd (omega (arith, lt))
  some_at (job ∷ jobs) i lt = job

  was_left : (i : ℕ) (d : VolumeJob D) → i < length lent → is_left old i ≡ (get_or lent i d).failed
  was_left i d lt = get_or-map has_job_failed old i d true (omega (arith, lt, s.first.same)) ∙ sym (s.first.lends i d (omega (arith, lt, s.first.same))).failed

  now_left : (i : ℕ) (d : VolumeJob D) → i < length lent → is_left (map without_disk given) i ≡ (get_or given i d).failed
  now_left i d lt =
      let less : i < length given = omega (arith, lt, s.worked.same) in
      get_or-map has_job_failed (map without_disk given) i (without_disk d) true (omega (arith, less, length-map given without_disk))
      ∙ ap (λ (j : VolumeJob D). j.failed) (get_or-map without_disk given i d (without_disk d) less)

  -- A volume that isn't left alone has a job.
  has_job : (v : ℕ) → is_left old v ≡ false → v < length lent
  has_job v live = elim (cases_lt v (length lent)) [
    | inl lt ↦ lt
    | inr past ↦
        let left : is_left old v ≡ true = get_or_past (map has_job_failed old) v true (omega (arith, past, length-map old has_job_failed, s.first.same)) in
        absurd (cc (left, live))
  ]

  -- One that is left alone isn't lent.
  left_home : (v : ℕ) → is_left old v ≡ true → ¬ IsLentTo given (Volume v)
  left_home v left among =
      let job = among.0 in
      let j = among.1.0 in
      let lt : j < length lent = omega (arith, among.1.1.0, s.worked.same) in
      let device : v ≡ job.device = cc among.3 in
      let here : j ≡ v = sym (device ∙ ap (λ (k : VolumeJob D). k.device) among.1.1.1 ∙ given_at j job lt) in
      let has : is_some (get_or lent j job).disk ≡ true = sym (some_same j job lt) ∙ ap (λ (k : VolumeJob D). is_some k.disk) (sym among.1.1.1) ∙ among.2 in
      let live : (get_or lent j job).failed ≡ false = not_true (get_or lent j job).failed (sym (lent_disk tells own state start mid old lent flags s.first j job lt) ∙ has) in
      let bad : (get_or lent j job).failed ≡ true = sym (was_left j job lt) ∙ ap (λ (k : ℕ). is_left old k) here ∙ left in
      absurd (cc (live, bad))

  not_lent : (d : Device) → IsStore d → ¬ IsLentTo given d
  not_lent Control is among = cc among.3
  not_lent State is among = cc among.3
  not_lent (Journal j) is among = cc among.3
  not_lent (Volume v) is among = absurd is

  -- ---- a volume that was lent

  -- its disk before and after
  pub record OnDisk (i : ℕ) (o n : Option D) : Type 0 where
    pub was : D
    pub is : D
    pub old_is : o ≡ Some was
    pub new_is : n ≡ Some is
    pub holds : HoldsVolume tells own state start mid i was was
    pub came : IsBack tells start end i (state was) (state is)

  disk_at : (i : ℕ) (d : VolumeJob D) → i < length lent → is_some (get_or lent i d).disk ≡ true → OnDisk i (get_or lent i d).disk (get_or given i d).disk
  disk_at i d lt has = by_disk (get_or lent i d).disk (get_or given i d).disk has (lent_holds tells own state start mid old lent flags s.first i d lt)
      (subst (λ (v : ℕ). OnDisks (λ was is. IsBack tells start end v (state was) (state is)) (get_or lent i d).disk (get_or given i d).disk) (given_at i d lt) (s.back.disks i d (omega (arith, lt, s.worked.same))))
    where
      by_disk : (o n : Option D) → is_some o ≡ true → OnDisks (HoldsVolume tells own state start mid i) o o → OnDisks (λ was is. IsBack tells start end i (state was) (state is)) o n → OnDisk i o n
      by_disk (Some a) (Some b) has holds came = record { was = a; is = b; old_is = refl; new_is = refl; holds = holds; came = came }
      by_disk (Some a) None has holds came = absurd came
      by_disk None n has holds came = absurd cc

  -- What is said of a job's volume before and after is said of these disks.
  on_disk : (i : ℕ) (holds : Standing → Standing → Type 0) (o n : Option D) (at : OnDisk i o n) → OnVolume state holds o n → holds (state at.was) (state at.is)
  on_disk i holds o n at fact = subst (λ (p : Option D). OnVolume state holds (Some at.was) p) at.new_is (subst (λ (p : Option D). OnVolume state holds p n) at.old_is fact)

  module _ (v : ℕ) (live : is_left old v ≡ false) where
    lt_is : v < length lent
    lt_is = has_job v live

    job : VolumeJob D
    job = some_at lent v lt_is

    fit : (get_or lent v job).failed ≡ false
    fit = sym (was_left v job lt_is) ∙ live

    at : OnDisk v (get_or lent v job).disk (get_or given v job).disk
    at = disk_at v job lt_is (lent_disk tells own state start mid old lent flags s.first v job lt_is ∙ ap not fit)

    one : AppliesToJob state own items (get_or lent v job) (get_or given v job)
    one = s.each v job lt_is

    device_is : (get_or lent v job).device ≡ v
    device_is = device_at v job lt_is

    live_count : FailsByCount (is_left (map without_disk given) v) (start.faults (Volume v)) (end.faults (Volume v))
    live_count =
        let fact = on_disk v (λ was is. FailsByCount (get_or given v job).failed was.faults is.faults) (get_or lent v job).disk (get_or given v job).disk at (one.cause fit) in
        subst (λ (b : Bool). FailsByCount b (start.faults (Volume v)) (end.faults (Volume v))) (sym (now_left v job lt_is))
        (subst (λ (k : ℕ). FailsByCount (get_or given v job).failed (start.faults (Volume v)) k) (sym at.came.faults) (subst (λ (k : ℕ). FailsByCount (get_or given v job).failed k (state at.is).faults) at.holds.out.from.faults fact))

    live_bytes : tells → DiffersInSlots v items (start.bytes (Volume v)) (end.bytes (Volume v))
    live_bytes told =
        let own_told = at.holds.tells_own told in
        let differs : DiffersInSlots (get_or lent v job).device items (state at.was).bytes (state at.is).bytes = on_disk v (λ was is. DiffersInSlots (get_or lent v job).device items was.bytes is.bytes) (get_or lent v job).disk (get_or given v job).disk at (one.bytes own_told) in
        subst (λ (x : Type 0). x) (λ j. DiffersInSlots (device_is j) items (at.holds.out.from.bytes told j) (sym (at.came.bytes told) j)) differs

    live_moments : tells → Follows (DiffersInSlots v items) (on start (Volume v)) (on end (Volume v))
    live_moments told =
        let own_told = at.holds.tells_own told in
        let follows : Follows (DiffersInSlots (get_or lent v job).device items) (state at.was) (state at.is) = on_disk v (Follows (DiffersInSlots (get_or lent v job).device items)) (get_or lent v job).disk (get_or given v job).disk at (one.moments own_told) in
        back_follows tells v start end (state at.was) (state at.is) (DiffersInSlots v items) told at.came (differs_here v items) (subst (λ (w : ℕ). Follows (DiffersInSlots w items) (state at.was) (state at.is)) device_is follows)

    pub live_content : tells → is_left (map without_disk given) v ≡ false → HoldsContent v items (start.bytes (Volume v)) (end.bytes (Volume v))
    live_content told fine =
        let own_told = at.holds.tells_own told in
        let holds : HoldsContent (get_or lent v job).device items (state at.was).bytes (state at.is).bytes =
        on_disk v (λ was is. HoldsContent (get_or lent v job).device items was.bytes is.bytes) (get_or lent v job).disk (get_or given v job).disk at (one.content own_told (sym (now_left v job lt_is) ∙ fine)) in
        subst (λ (x : Type 0). x) (λ j. HoldsContent (device_is j) items (at.holds.out.from.bytes told j) (sym (at.came.bytes told) j)) holds

  -- ---- all volumes

  left_kept : (v : ℕ) → is_left old v ≡ true → is_left (map without_disk given) v ≡ true
  left_kept v left = elim (cases_lt v (length lent)) [
    | inr past ↦ get_or_past (map has_job_failed (map without_disk given)) v true (omega (arith, past, length-map (map without_disk given) has_job_failed, length-map given without_disk, s.worked.same))
    | inl lt ↦
        let d = some_at lent v lt in
        let bad : (get_or lent v d).failed ≡ true = sym (was_left v d lt) ∙ left in
        now_left v d lt ∙ ap (λ (j : VolumeJob D). j.failed) ((s.each v d lt).left_alone bad) ∙ bad
  ]

  pub left_before : (v : ℕ) → is_left (map without_disk given) v ≡ false → is_left old v ≡ false
  left_before v fine = elim (cases_Bool (is_left old v)) [
    | inl left ↦ let now = left_kept v left in absurd (cc (now, fine))
    | inr live ↦ live
  ]

  step : Device → List ℕ → List ℕ → Type 0
  step = OfVolumes (is_left old) (λ v b c. DiffersInSlots v items b c)

  bytes_by : tells → (d : Device) → OfVolumes (is_left old) (λ v b c. DiffersInSlots v items b c) d (start.bytes d) (end.bytes d)
  bytes_by told Control = (s.back.works.others told Control (not_lent Control tt)).bytes
  bytes_by told State = (s.back.works.others told State (not_lent State tt)).bytes
  bytes_by told (Journal j) = (s.back.works.others told (Journal j) (not_lent (Journal j) tt)).bytes
  bytes_by told (Volume v) = (λ live. live_bytes v live told, λ left. (s.back.works.others told (Volume v) (left_home v left)).bytes)

  moments_by : tells → (d : Device) → Follows (OfVolumes (is_left old) (λ v b c. DiffersInSlots v items b c) d) (on start d) (on end d)
  moments_by told Control = (s.back.works.others told Control (not_lent Control tt)).images
  moments_by told State = (s.back.works.others told State (not_lent State tt)).images
  moments_by told (Journal j) = (s.back.works.others told (Journal j) (not_lent (Journal j) tt)).images
  moments_by told (Volume v) = λ t from to c left. elim (cases_Bool (is_left old v)) [
    | inl alone ↦
        let was = (s.back.works.others told (Volume v) (left_home v alone)).images t from to c left in
        (was.0, was.1, (λ live. absurd (cc (alone, live)), λ again. was.2))
    | inr live ↦
        let was = live_moments v live told t from to c left in
        (was.0, was.1, (λ again. was.2, λ alone. absurd (cc (alone, live))))
  ]

  pub applies_sides : (NoneLent start → NoneLent end) → AppliesSides tells items (is_left old) (is_left (map without_disk given)) start end
  applies_sides home = record {
    works = record {
      site = s.back.works.site;
      home = home;
      elapses = s.back.works.elapses;
      silent = s.back.works.silent;
      bytes = bytes_by;
      moments = moments_by;
      console_faults = s.back.works.console_faults;
      faults = s.back.works.faults;
    };
    kept = left_kept;
    still = λ v left. s.back.works.others_faults (Volume v) (left_home v left);
    count = live_count;
  }

  pub counts_stay : (d : Device) → IsStore d → end.faults d ≡ start.faults d
  counts_stay d is = s.back.works.others_faults d (not_lent d is)
