-- Which rows are hit, one row after another.
use Rattle.std.proofs.Common.{◌≡◌, inl, inr, ℕ, zero, suc, ◌<◌, set, Some, ◌==◌, ◌&&◌, ◌||◌, cond, Bool, true, false, List, [], ◌∷◌, length, map, filter, get_or, refl, sym, ap, subst, ◌∙◌, arith}
use Rattle.std.specs.Prelude.{slice_get, nat_lt}
use Rattle.std.specs.List.{list_any}
use Rattle.std.proofs.lemmas.Bool.{and_parts, cases_eq, eq-eqb, ltb-true, ne_eqb}
use Rattle.std.proofs.lemmas.List.{get_or-set_other, get_or-set_same}
use Rattle.pair_table.specs.declared.row.PairRow.{PairRow}
use Rattle.pair_table.specs.Devices.{is_among}
use Rattle.pair_table.specs.Tables.{are_below}
use Rattle.record_rows.specs.Hits.{hit_now, is_hit_now}
use Rattle.xrc_journal.specs.declared.job.VolumeJob.{VolumeJob}
use Rattle.site_store.specs.Hits.{are_some}
use Rattle.site_store.specs.Jobs.{has_job_failed}

-- some row is hit exactly where the list of the devices that are isn't empty
pub any_hit : (failed : List Bool) (rows : List PairRow) → list_any (is_hit_now failed) rows ≡ are_some (hit_now failed rows)
any_hit failed [] = refl
any_hit failed (r ∷ rows) = by_case (is_hit_now failed r) (any_hit failed rows)
  where
    by_case : (b : Bool) → list_any (is_hit_now failed) rows ≡ are_some (hit_now failed rows) → (b || list_any (is_hit_now failed) rows) ≡ are_some (map (λ s. s.device) (cond b (r ∷ filter (is_hit_now failed) rows) (filter (is_hit_now failed) rows)))
    by_case true more = refl
    by_case false more = more

-- whether a row is hit and on a device
abbrev pub hits_device : (failed : List Bool) → (device : ℕ) → PairRow → Bool
hits_device failed d r = is_hit_now failed r && r.device == d

pub among_hit : (failed : List Bool) (d : ℕ) (rows : List PairRow) → list_any (hits_device failed d) rows ≡ is_among d (hit_now failed rows)
among_hit failed d [] = refl
among_hit failed d (r ∷ rows) = by_case (is_hit_now failed r) (among_hit failed d rows)
  where
    by_case : (b : Bool) → list_any (hits_device failed d) rows ≡ is_among d (hit_now failed rows) → ((b && r.device == d) || list_any (hits_device failed d) rows) ≡ is_among d (map (λ s. s.device) (cond b (r ∷ filter (is_hit_now failed) rows) (filter (is_hit_now failed) rows)))
    by_case true more = ap (λ (b : Bool). r.device == d || b) more
    by_case false more = more

-- the flag of a job among the flags of all
pub flag_at : {V : Type 0} (jobs : List (VolumeJob V)) (i : ℕ) (job : VolumeJob V) → i < length jobs → (get_or jobs i job).failed ≡ get_or (map has_job_failed jobs) i false
flag_at [] i job lt = absurd (omega (arith, lt))
flag_at (j ∷ jobs) zero job lt = refl
flag_at (j ∷ jobs) (suc i) job lt = flag_at jobs i job (omega (arith, lt))

-- a row of a table is on a device below its devices
pub row_below : (n : ℕ) (rows : List PairRow) (i : ℕ) (row : PairRow) → are_below n rows ≡ true → slice_get rows i ≡ Some row → row.device < n
row_below n [] i row below is = absurd cc
row_below n (r ∷ rows) zero row below is =
    let same : r ≡ row = cc is in
    subst (λ (s : PairRow). s.device < n) same (ltb-true r.device n (and_parts (nat_lt r.device n) (are_below n rows) below).0)
row_below n (r ∷ rows) (suc i) row below is = row_below n rows i row (and_parts (nat_lt r.device n) (are_below n rows) below).1 is

-- A row that stands somewhere passes, so some row does.
pub any_at : (test : PairRow → Bool) (rows : List PairRow) (i : ℕ) (row : PairRow) → slice_get rows i ≡ Some row → test row ≡ true → list_any test rows ≡ true
any_at test [] i row is passes = absurd cc
any_at test (r ∷ rows) zero row is passes = let same : r ≡ row = cc is in ap (λ (b : Bool). b || list_any test rows) (ap test same ∙ passes)
any_at test (r ∷ rows) (suc i) row is passes = after (test r) (any_at test rows i row is passes)
  where
    after : (b : Bool) → list_any test rows ≡ true → (b || list_any test rows) ≡ true
    after true has = refl
    after false has = has

-- one flag more may be set
pub flag_or : (flags : List Bool) (i d : ℕ) (b : Bool) → i < length flags → get_or (set flags i (get_or flags i false || b)) d false ≡ (get_or flags d false || (b && i == d))
flag_or flags i d b within = elim (cases_eq i d) [
  | inl same ↦
      (λ k. get_or (set flags i (get_or flags i false || b)) (sym same k) false) ∙ get_or-set_same flags i (get_or flags i false || b) false within
      ∙ (λ k. get_or flags (same k) false || b) ∙ ap (λ (c : Bool). get_or flags d false || c) (sym (with_true b) ∙ ap (λ (c : Bool). b && c) (sym (eq-eqb i d same)))
  | inr other ↦
      get_or-set_other flags i d (get_or flags i false || b) false (λ is. other (sym is))
      ∙ sym (or_false (get_or flags d false)) ∙ ap (λ (c : Bool). get_or flags d false || c) (sym (with_false b) ∙ ap (λ (c : Bool). b && c) (sym (ne_eqb i d other)))
]
  where
    with_true : (c : Bool) → (c && true) ≡ c
    with_true true = refl
    with_true false = refl

    with_false : (c : Bool) → (c && false) ≡ false
    with_false true = refl
    with_false false = refl

    or_false : (c : Bool) → (c || false) ≡ c
    or_false true = refl
    or_false false = refl
