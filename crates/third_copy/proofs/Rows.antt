-- Rows of one device are one row.
use Rattle.std.proofs.Common.{◌≡◌, ◌≢◌, ◌<◌, ◌≤◌, ◌+◌, ◌&&◌, ◌++◌, ◌∷◌, [], inl, inr, ℕ, Bool, true, false, cond, nat_le, List, take, Some, sym, ◌∙◌, ap, arith, length-take, append-nil}
use Rattle.std.specs.Prelude.{Contains, filter, slice_get, slice_index_or}
use Rattle.std.proofs.Common.{get_or-take}
use Rattle.std.proofs.lemmas.List.Elements.{filter-append}
use Rattle.std.proofs.lemmas.Bool.{and_parts, cases_eq, cases_lt, leb-true}
use Rattle.std.proofs.lemmas.Option.{get_or_from_slice_get, slice_get-get_or, slice_get_within}
use Rattle.pair_table.specs.declared.row.PairRow.{PairRow}
use Rattle.pair_table.specs.Rows.{keeps_row_rules}
use Rattle.pair_table.specs.Tables.{AreRowsSound}
use Rattle.tod_stamp.specs.Fields.{within}
use Rattle.pair_table.specs.States.{is_duplex}
use Rattle.xrecover.specs.Pairs.{duplex_devices}
use Rattle.xrecover.proofs.Going.{apart_before, devices_append, take_more}

-- A row that stands after another one is of another device.
pub rows_differ : (rows : List PairRow) (i k : ℕ) (p r : PairRow) → AreRowsSound rows → i < k → slice_get rows i ≡ Some p → slice_get rows k ≡ Some r → p.device ≢ r.device
rows_differ rows i k p r sound before at_i at_k same =
    let within = slice_get_within rows k r at_k in
    let apart = apart_before rows k r sound.apart at_k i p (omega (arith, before, within, length-take k rows)) in
    let is : slice_index_or (take k rows) i p ≡ p = get_or-take k rows i p before ∙ get_or_from_slice_get rows i p p at_i in
    apart (ap (λ (q : PairRow). q.device) is ∙ same)

pub same_at : (rows : List PairRow) (i k : ℕ) (p r : PairRow) → AreRowsSound rows → slice_get rows i ≡ Some p → slice_get rows k ≡ Some r → p.device ≡ r.device → p ≡ r
same_at rows i k p r sound at_i at_k same = elim (cases_eq i k) [
  | inl is ↦ let both = sym at_i ∙ ap (λ (n : ℕ). slice_get rows n) is ∙ at_k in cc
  | inr differs ↦ elim (cases_lt i k) [
    | inl before ↦ absurd (rows_differ rows i k p r sound before at_i at_k same)
    | inr after ↦ absurd (rows_differ rows k i r p sound (omega (arith, after, differs)) at_k at_i (sym same))
  ]
]

-- a row that the rows have stands at a place
pub place_of_row : (rows : List PairRow) (r : PairRow) → Contains rows r → (k : ℕ) × (slice_get rows k ≡ Some r)
place_of_row rows r has = (has.0, slice_get-get_or rows has.0 r has.1 ∙ ap Some has.2)

pub same_row : (rows : List PairRow) (p r : PairRow) → AreRowsSound rows → Contains rows p → Contains rows r → p.device ≡ r.device → p ≡ r
same_row rows p r sound has_p has_r same =
    let i = place_of_row rows p has_p in
    let k = place_of_row rows r has_r in
    same_at rows i.0 k.0 p r sound i.1 k.1 same

-- a row that stands at a place is one of the rows
pub contained : (rows : List PairRow) (k : ℕ) (r : PairRow) → slice_get rows k ≡ Some r → Contains rows r
contained rows k r at = (k, slice_get_within rows k r at, get_or_from_slice_get rows k r r at)

-- ---- the devices of pairs that keep a test

module _ (f : ℕ → Bool) (rows : List PairRow) (i : ℕ) (r : PairRow) (at : slice_get rows i ≡ Some r) where
  more : (d : Bool) → is_duplex r.state ≡ d → filter f (duplex_devices (take (i + 1) rows)) ≡ filter f (duplex_devices (take i rows)) ++ filter f (cond d (r.device ∷ []) [])
  more d is = ap (λ (l : List PairRow). filter f (duplex_devices l)) (take_more rows i r at) ∙ ap (filter f) (devices_append (take i rows) r d is) ∙ filter-append f (duplex_devices (take i rows)) (cond d (r.device ∷ []) [])

  pub devices_kept : is_duplex r.state ≡ true → f r.device ≡ true → filter f (duplex_devices (take (i + 1) rows)) ≡ filter f (duplex_devices (take i rows)) ++ r.device ∷ []
  devices_kept duplex is = more true duplex ∙ ap (λ (b : Bool). filter f (duplex_devices (take i rows)) ++ cond b (r.device ∷ []) []) is

  pub devices_dropped : is_duplex r.state ≡ true → f r.device ≡ false → filter f (duplex_devices (take (i + 1) rows)) ≡ filter f (duplex_devices (take i rows))
  devices_dropped duplex is = more true duplex ∙ ap (λ (b : Bool). filter f (duplex_devices (take i rows)) ++ cond b (r.device ∷ []) []) is ∙ append-nil (filter f (duplex_devices (take i rows)))

  pub devices_other : is_duplex r.state ≡ false → filter f (duplex_devices (take (i + 1) rows)) ≡ filter f (duplex_devices (take i rows))
  devices_other other = more false other ∙ append-nil (filter f (duplex_devices (take i rows)))

-- ---- the cylinders of a row

pub few_cylinders : (r : PairRow) → keeps_row_rules r ≡ true → r.cylinders ≤ 1000000
few_cylinders r rules =
    let parts = and_parts (nat_le r.control 15 && nat_le r.volume 31) (within 1 1000000 r.cylinders) rules in
    leb-true r.cylinders 1000000 (and_parts (nat_le 1 r.cylinders) (nat_le r.cylinders 1000000) parts.1).1
