-- Entries on low tracks of two devices, and the jobs of these, in tests.
use Rattle.std.proofs.Common.{◌≡◌, ◌≤◌, ◌+◌, ◌==◌, ℕ, zero, suc, List, [], ◌∷◌, get_or, take, Option, Some, None, sym, subst, arith}
use Rattle.std.specs.Prelude.{slice_get, map, find, count_by, IsSomeAnd}
use Rattle.std.specs.List.{All}
use Rattle.std.proofs.lemmas.Bool.{and_parts, eqb-true}
use Rattle.std.proofs.lemmas.List.Elements.{All-more}
use Rattle.std.proofs.lemmas.List.Folds.{Any-from_list_any}
use Rattle.std.proofs.lemmas.Option.{slice_get_within, get_or_from_slice_get}
use Rattle.crash_plant.specs.Moments.{Standing}
use Rattle.xrc_journal.specs.declared.job.VolumeJob.{VolumeJob}
use Rattle.pair_table.specs.declared.row.PairRow.{PairRow}
use Rattle.pending_queue.specs.declared.head.EntryHead.{EntryHead}
use Rattle.pending_queue.specs.Entries.{WaitingEntry}
use Rattle.image_former.specs.Entries.{is_row_of, row_device, entry_device, is_device, is_entry_on, HasEntry}
use Rattle.image_former.specs.Jobs.{is_job_of, HasOneJob, HoldsSlots, HasSlotsOf}
use Rattle.image_former.proofs.Entries.{head_in, entry_there}

-- the entry is on one of the first four tracks
abbrev pub IsLow : WaitingEntry → Type 0
IsLow entry = entry.head.track ≤ 3

-- the entry is on device 0 or 1
abbrev pub IsNear : List PairRow → WaitingEntry → Type 0
IsNear rows entry = IsSomeAnd (entry_device rows entry) (λ device. device ≤ 1)

-- What all heads have, all entries have.
pub heads_more : (P : EntryHead → Type 0) (entries : List WaitingEntry) (i : ℕ) (h : EntryHead) → slice_get (map head_in entries) i ≡ Some h → P h
    → All (λ (e : WaitingEntry). P e.head) (take i entries) → All (λ (e : WaitingEntry). P e.head) (take (i + 1) entries)
heads_more P entries i h shown has before =
    let t = entry_there entries i h shown in
    let own : P t.entry.head = subst P (sym t.head) has in
    All-more (λ (e : WaitingEntry). P e.head) entries i t.entry (slice_get_within entries i t.entry t.there) before
    (subst (λ (e : WaitingEntry). P e.head) (sym (get_or_from_slice_get entries i t.entry t.entry t.there)) own)

near_by : (o : Option ℕ) (device : ℕ) → Some device ≡ o → device ≤ 1 → IsSomeAnd o (λ d. d ≤ 1)
near_by o device is le = subst (λ (p : Option ℕ). IsSomeAnd p (λ d. d ≤ 1)) is le

pub near_more : (rows : List PairRow) (entries : List WaitingEntry) (i : ℕ) (h : EntryHead) (device : ℕ) → slice_get (map head_in entries) i ≡ Some h → Some device ≡ row_device (find (is_row_of h) rows) → device ≤ 1
    → All (IsNear rows) (take i entries) → All (IsNear rows) (take (i + 1) entries)
near_more rows entries i h device shown is le before =
    heads_more (λ (g : EntryHead). IsSomeAnd (row_device (find (is_row_of g) rows)) (λ d. d ≤ 1)) entries i h shown (near_by (row_device (find (is_row_of h) rows)) device is le) before

-- ---- one job of each device

one_each : {D : Type 0} (a b : VolumeJob D) → a.device ≡ 0 → b.device ≡ 1 → (d : ℕ) → d ≤ 1 → count_by (is_job_of d) (a ∷ b ∷ []) ≡ 1
one_each a b first second zero le = λ j. count_by (λ (n : ℕ). n == 0) (first j ∷ second j ∷ [])
one_each a b first second (suc zero) le = λ j. count_by (λ (n : ℕ). n == 1) (first j ∷ second j ∷ [])
one_each a b first second (suc (suc d)) le = absurd (omega (arith, le))

pub one_job_each : {D : Type 0} (rows : List PairRow) (a b : VolumeJob D) (entries : List WaitingEntry) → a.device ≡ 0 → b.device ≡ 1 → All (IsNear rows) entries → All (HasOneJob rows (a ∷ b ∷ [])) entries
one_job_each rows a b entries first second near k d lt = by_device (entry_device rows (get_or entries k d)) (near k d lt)
  where
    by_device : (o : Option ℕ) → IsSomeAnd o (λ n. n ≤ 1) → IsSomeAnd o (λ n. count_by (is_job_of n) (a ∷ b ∷ []) ≡ 1)
    by_device (Some n) le = one_each a b first second n le
    by_device None le = le

-- ---- slots of low tracks

low_track : (rows : List PairRow) (device x : ℕ) (entries : List WaitingEntry) → All IsLow entries → HasEntry rows device x entries → x ≤ 3
low_track rows device x entries low has =
    let found = Any-from_list_any (is_entry_on rows device x) entries has in
    let e = found.1 in
    let at : get_or entries found.0 e ≡ e = found.3 in
    let parts = and_parts (is_device device (entry_device rows e)) (e.head.track == x) found.4 in
    let le : e.head.track ≤ 3 = subst IsLow at (low found.0 e found.2) in
    omega (arith, le, eqb-true e.head.track x parts.1)

module _ {D : Type 0} (state : D → Standing) where
  -- the volume ends with the slot of track 3
  abbrev pub IsLong : D → Type 0
  IsLong volume = (state volume).length_is ≡ 229888

  low_slots : (rows : List PairRow) (device : ℕ) (entries : List WaitingEntry) (disk : Option D) → All IsLow entries → IsSomeAnd disk IsLong → HoldsSlots state rows device entries disk
  low_slots rows device entries (Some volume) low long = λ x has. omega (arith, long, low_track rows device x entries low has)
  low_slots rows device entries None low long = absurd long

  pub slots_of_both : (rows : List PairRow) (a b : VolumeJob D) (entries : List WaitingEntry) → IsSomeAnd a.disk IsLong → IsSomeAnd b.disk IsLong → All IsLow entries → All (HasSlotsOf state rows entries) (a ∷ b ∷ [])
  slots_of_both rows a b entries first second low zero d lt = λ good. low_slots rows a.device entries a.disk low first
  slots_of_both rows a b entries first second low (suc zero) d lt = λ good. low_slots rows b.device entries b.disk low second
  slots_of_both rows a b entries first second low (suc (suc k)) d lt = absurd (omega (arith, lt))
