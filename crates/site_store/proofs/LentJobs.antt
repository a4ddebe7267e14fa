-- The volumes of a group lent, read and given back.
use Rattle.std.proofs.Common.{◌≡◌, ◌≢◌, ℕ, suc, ◌+◌, ◌*◌, ◌≤◌, ◌<◌, ◌==◌, ◌&&◌, ◌||◌, Bool, true, false, not, cond, nat_lt, nat_le, List, [], ◌∷◌, length, get_or, Option, Some, None, refl, sym, ap, subst, ◌∙◌, arith, eqb-true, eq-eqb}
use Rattle.std.specs.Prelude.{find, is_some, is_none, IsSomeAnd, count_by}
use Rattle.std.specs.List.{All, list_any, list_all}
use Rattle.std.proofs.lemmas.Bool.{and_parts, and_from, ltb-true, leb-true}
use Rattle.std.proofs.lemmas.List.Sums.{sum_by-cons}
use Rattle.ckd_track.specs.SlotPlaces.{slot_end}
use Rattle.crash_plant.specs.declared.device.Device.TheVariants.{Volume}
use Rattle.crash_plant.specs.Moments.{Standing, PlantState}
use Rattle.pair_table.specs.declared.row.PairRow.{PairRow}
use Rattle.pending_queue.specs.Entries.{WaitingEntry}
use Rattle.xrc_journal.specs.declared.job.VolumeJob.{VolumeJob}
use Rattle.applier.specs.Disks.{OnDisks}
use Rattle.applier.specs.Loans.{AreOut, HoldsVolume, LendsWhere}
use Rattle.image_former.specs.Entries.{HasEntry, entry_device, entry_row, is_device, is_entry_on, is_row_of, row_device}
use Rattle.image_former.specs.Jobs.{HasOneJob, HasSlotsOf, HoldsSlots, is_job_of}
use Rattle.site_store.specs.Logging.{HasEntryOn, IsOfSomeRow, is_entry_of_device}
use Rattle.site_store.specs.Jobs.{are_home_from}
use Rattle.site_store.specs.Standing.{row_has_volume}
use Rattle.site_store.proofs.HomeJobs.{job_at}

-- ---- jobs at home

none_is : {A : Type 0} (o : Option A) → is_none o ≡ true → o ≡ None
none_is None e = refl
none_is (Some x) e = absurd cc

module _ {D : Type 0} where
  -- the job at a place
  pub record Home (first i : ℕ) (job : VolumeJob D) : Type 0 where
    pub device : job.device ≡ first + i
    pub idle : job.disk ≡ None

  pub home_at : (first : ℕ) (jobs : List (VolumeJob D)) → are_home_from first jobs ≡ true → (i : ℕ) (d : VolumeJob D) → i < length jobs → Home first i (get_or jobs i d)
  home_at first jobs home i d lt = let at = job_at first jobs i d home lt in record { device = at.0; idle = none_is (get_or jobs i d).disk at.1 }

  pub home_from : (first : ℕ) (jobs : List (VolumeJob D)) → ((i : ℕ) (d : VolumeJob D) → i < length jobs → Home first i (get_or jobs i d)) → are_home_from first jobs ≡ true
  home_from first [] each = refl
  home_from first (job ∷ jobs) each =
      let here = each 0 job (omega arith) in
      and_from (job.device == first && is_none job.disk) (are_home_from (suc first) jobs)
      (and_from (job.device == first) (is_none job.disk) (eq-eqb job.device first (omega (arith, here.device))) (ap is_none here.idle))
      (home_from (suc first) jobs (λ i d lt. let there = each (suc i) d (omega (arith, lt)) in record { device = omega (arith, there.device); idle = there.idle }))

  -- each device of theirs has one
  count_none : (d first : ℕ) (jobs : List (VolumeJob D)) → ((i : ℕ) (j : VolumeJob D) → i < length jobs → (get_or jobs i j).device ≡ first + i) → d < first → count_by (is_job_of d) jobs ≡ 0
  count_none d first [] each lt = refl
  count_none d first (job ∷ jobs) each lt =
      let here = each 0 job (omega arith) in
      let rest = count_none d (suc first) jobs (λ i j less. omega (arith, each (suc i) j (omega (arith, less)))) (omega (arith, lt)) in
      sum_by-cons (λ (j : VolumeJob D). cond (is_job_of d j) 1 0) job jobs ∙ one (job.device == d) refl here rest
    where
      one : (b : Bool) → (job.device == d) ≡ b → job.device ≡ first + 0 → count_by (is_job_of d) jobs ≡ 0 → cond (job.device == d) 1 0 + count_by (is_job_of d) jobs ≡ 0
      one false e here rest = (λ i. cond (e i) 1 0 + rest i)
      one true e here rest = absurd (omega (arith, eqb-true job.device d e, here, lt))

  pub count_one : (d first : ℕ) (jobs : List (VolumeJob D)) → ((i : ℕ) (j : VolumeJob D) → i < length jobs → (get_or jobs i j).device ≡ first + i) → first ≤ d → d < first + length jobs → count_by (is_job_of d) jobs ≡ 1
  count_one d first [] each le lt = absurd (omega (arith, le, lt))
  count_one d first (job ∷ jobs) each le lt =
      let here = each 0 job (omega arith) in
      sum_by-cons (λ (j : VolumeJob D). cond (is_job_of d j) 1 0) job jobs ∙ one (job.device == d) refl here (λ later. count_one d (suc first) jobs rest (omega (arith, later)) (omega (arith, lt)))
    where
      rest : (i : ℕ) (j : VolumeJob D) → i < length jobs → (get_or jobs i j).device ≡ suc first + i
      rest i j less = omega (arith, each (suc i) j (omega (arith, less)))

      one : (b : Bool) → (job.device == d) ≡ b → job.device ≡ first + 0 → (first < d → count_by (is_job_of d) jobs ≡ 1) → cond (job.device == d) 1 0 + count_by (is_job_of d) jobs ≡ 1
      one true e here more = (λ i. cond (e i) 1 0 + count_none d (suc first) jobs rest (omega (arith, eqb-true job.device d e, here)) i)
      one false e here more =
          let differ : job.device ≢ d = λ is. cc (eq-eqb job.device d is, e) in
          (λ i. cond (e i) 1 0 + more (omega (arith, differ, here, le)) i)

-- ---- entries

-- an element that passes a test, and its place
pub record Found {A : Type 0} (test : A → Bool) (xs : List A) : Type 0 where
  pub element : A
  pub place : ℕ
  pub within : place < length xs
  pub there : get_or xs place element ≡ element
  pub passes : test element ≡ true

pub found_any : {A : Type 0} (test : A → Bool) (xs : List A) → list_any test xs ≡ true → Found test xs
found_any test [] has = absurd cc
found_any {A} test (x ∷ xs) has = by_first (test x) refl has (found_any test xs)
  where
    by_first : (b : Bool) → test x ≡ b → (b || list_any test xs) ≡ true → (list_any test xs ≡ true → Found test xs) → Found test (x ∷ xs)
    by_first true e has later = record { element = x; place = 0; within = omega arith; there = refl; passes = e }
    by_first false e has later =
        let more = later has in
        record { element = more.element; place = suc more.place; within = omega (arith, more.within); there = more.there; passes = more.passes }

any_wider : {A : Type 0} (one more : A → Bool) (xs : List A) → ((x : A) → one x ≡ true → more x ≡ true) → list_any one xs ≡ true → list_any more xs ≡ true
any_wider one more [] wider has = absurd cc
any_wider one more (x ∷ xs) wider has = by_first (one x) refl has (any_wider one more xs wider)
  where
    by_first : (b : Bool) → one x ≡ b → (b || list_any one xs) ≡ true → (list_any one xs ≡ true → list_any more xs ≡ true) → (more x || list_any more xs) ≡ true
    by_first true e has later = λ i. wider x e i || list_any more xs
    by_first false e has later = after (more x) (later has)
      where
        after : (c : Bool) → list_any more xs ≡ true → (c || list_any more xs) ≡ true
        after true has = refl
        after false has = has

pub on_device : (rows : List PairRow) (entries : List WaitingEntry) (device x : ℕ) → HasEntry rows device x entries → HasEntryOn rows entries device
on_device rows entries device x has = any_wider (is_entry_on rows device x) (is_entry_of_device rows device) entries (λ e on. (and_parts (is_entry_of_device rows device e) (e.head.track == x) on).0) has

-- what all rows pass a row that is found passes
all_found : (test found : PairRow → Bool) (rows : List PairRow) (row : PairRow) → list_all test rows ≡ true → find found rows ≡ Some row → test row ≡ true
all_found test found [] row all is = absurd cc
all_found test found (r ∷ rows) row all is =
    let parts = and_parts (test r) (list_all test rows) all in
    by_first (found r) parts.0 (all_found test found rows row parts.1) is
  where
    by_first : (b : Bool) → test r ≡ true → (find found rows ≡ Some row → test row ≡ true) → cond b (Some r) (find found rows) ≡ Some row → test row ≡ true
    by_first true first more e = let same : r ≡ row = cc in ap test (sym same) ∙ first
    by_first false first more e = more e

-- the row of an entry
pub record RowOf (start : PlantState) (rows : List PairRow) (entry : WaitingEntry) : Type 0 where
  pub row : PairRow
  pub found : entry_row rows entry ≡ Some row
  pub within : entry.head.track < row.cylinders * 15
  pub there : row.device < start.volumes
  pub reach : 512 + row.cylinders * 860160 ≤ start.lengths (Volume row.device)

pub row_of_entry : (start : PlantState) (rows : List PairRow) (entry : WaitingEntry) → list_all (row_has_volume start) rows ≡ true → IsOfSomeRow rows entry → RowOf start rows entry
row_of_entry start rows entry below live = by_row (entry_row rows entry) refl live
  where
    by_row : (o : Option PairRow) → entry_row rows entry ≡ o → IsSomeAnd o (λ row. entry.head.track < row.cylinders * 15) → RowOf start rows entry
    by_row None is live = absurd live
    by_row (Some row) is live =
        let parts = and_parts (nat_lt row.device start.volumes) (nat_le (512 + row.cylinders * 860160) (start.lengths (Volume row.device))) (all_found (row_has_volume start) (is_row_of entry.head) rows row below is) in
        record { row = row; found = is; within = live; there = ltb-true row.device start.volumes parts.0; reach = leb-true (512 + row.cylinders * 860160) (start.lengths (Volume row.device)) parts.1 }

-- Each entry is on one of the first 64 devices.
pub low_devices : (start : PlantState) (rows : List PairRow) (entries : List WaitingEntry) → list_all (row_has_volume start) rows ≡ true → All (IsOfSomeRow rows) entries → start.volumes ≤ 64 → All (λ entry. IsSomeAnd (entry_device rows entry) (λ device. device < 64)) entries
low_devices start rows entries below live few k e lt =
    let r = row_of_entry start rows (get_or entries k e) below (live k e lt) in
    subst (λ (o : Option PairRow). IsSomeAnd (row_device o) (λ device. device < 64)) (sym r.found) (omega (arith, r.there, few))

-- The slot of a track with an entry lies in its volume.
pub slot_reach : (start : PlantState) (rows : List PairRow) (entries : List WaitingEntry) → list_all (row_has_volume start) rows ≡ true → All (IsOfSomeRow rows) entries → (device x : ℕ) → HasEntry rows device x entries → slot_end x ≤ start.lengths (Volume device)
slot_reach start rows entries below live device x has =
    let f = found_any (is_entry_on rows device x) entries has in
    let e = f.element in
    let r = row_of_entry start rows e below (subst (IsOfSomeRow rows) f.there (live f.place e f.within)) in
    let parts = and_parts (is_entry_of_device rows device e) (e.head.track == x) f.passes in
    let is : r.row.device ≡ device = eqb-true r.row.device device (ap (λ (o : Option PairRow). is_device device (row_device o)) (sym r.found) ∙ parts.0) in
    let reach = subst (λ (d : ℕ). 512 + r.row.cylinders * 860160 ≤ start.lengths (Volume d)) is r.reach in
    omega (arith, reach, r.within, eqb-true e.head.track x parts.1)

-- ---- the volumes are lent

module _ {D : Type 0} (tells own : Type 0) (state : D → Standing) (start mid : PlantState) (rows : List PairRow) (entries : List WaitingEntry) (old lent : List (VolumeJob D)) (wanted : List Bool) (home : are_home_from 0 old ≡ true)
    (volumes : length old ≡ start.volumes) (few : start.volumes ≤ 64) (below : list_all (row_has_volume start) rows ≡ true) (live : All (IsOfSomeRow rows) entries) (are_wanted : (d : ℕ) → d < 64 → get_or wanted d false ≡ list_any (is_entry_of_device rows d) entries)
    (same : length lent ≡ length old) (lends : (i : ℕ) (d : VolumeJob D) → i < length old → LendsWhere (get_or wanted i false) (get_or old i d) (get_or lent i d)) (out : AreOut tells own state start mid lent lent) where
  pub device_at : (i : ℕ) (d : VolumeJob D) → i < length lent → (get_or lent i d).device ≡ i
  device_at i d lt = (lends i d (omega (arith, lt, same))).device ∙ omega (arith, (home_at 0 old home i d (omega (arith, lt, same))).device)

  pub one_job : All (HasOneJob rows lent) entries
  one_job k e lt =
      let entry = get_or entries k e in
      let r = row_of_entry start rows entry below (live k e lt) in
      subst (λ (o : Option PairRow). IsSomeAnd (row_device o) (λ device. count_by (is_job_of device) lent ≡ 1)) (sym r.found)
      (count_one r.row.device 0 lent (λ i j less. omega (arith, device_at i j less)) (omega arith) (omega (arith, r.there, volumes, same)))

  pub slots : All (HasSlotsOf state rows entries) lent
  slots i d lt good =
      let job = get_or lent i d in
      let at = device_at i d lt in
      let l = lends i d (omega (arith, lt, same)) in
      subst (λ (v : ℕ). HoldsSlots state rows v entries job.disk) (sym at) (by_disk job.disk (subst (λ (v : ℕ). OnDisks (HoldsVolume tells own state start mid v) job.disk job.disk) at (out.disks i d lt)) l.disk (sym l.failed ∙ good))
    where
      by_disk : (o : Option D) → OnDisks (HoldsVolume tells own state start mid i) o o → is_some o ≡ (get_or wanted i false && not (get_or old i d).failed) → (get_or old i d).failed ≡ false → HoldsSlots state rows i entries o
      by_disk (Some disk) holds is good = λ x has. omega (arith, slot_reach start rows entries below live i x has, holds.out.from.length_is, holds.worked.length_is)
      by_disk None holds is good = λ x has.
          let yes : get_or wanted i false ≡ true = are_wanted i (omega (arith, lt, same, volumes, few)) ∙ on_device rows entries i x has in
          let some : false ≡ true = is ∙ (λ j. yes j && not (good j)) in
          absurd cc
