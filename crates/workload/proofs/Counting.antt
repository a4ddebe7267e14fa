-- Records that are counted, row by row and track by track.
use Rattle.std.proofs.Common.{◌≡◌, ◌≤◌, ◌<◌, ◌+◌, ◌++◌, ◌∷◌, [], ℕ, zero, suc, Bool, cond, List, Some, length, take, refl, sym, ◌∙◌, ap, arith, length-append}
use Rattle.std.specs.Prelude.{count_by, slice_get, sum_by}
use Rattle.std.specs.List.{flat_map, range_with_len}
use Rattle.std.proofs.lemmas.Bool.{leb-true}
use Rattle.std.proofs.lemmas.List.{flat_map_more}
use Rattle.std.proofs.lemmas.List.Sums.{sum_by-append, sum_by-cons, sum_by_push}
use Rattle.ckd_track.specs.declared.rec.Rec.{Rec}
use Rattle.ckd_track.specs.Tracks.{IsTrack, record_size, rises_above, track_size}
use Rattle.ckd_track.proofs.ImageLaws.{both_true}
use Rattle.pair_table.specs.declared.row.PairRow.{PairRow}
use Rattle.workload.specs.declared.tally.Tally.{Tally}
use Rattle.workload.specs.Tallies.{content_sum, with_records}
use Rattle.workload.specs.Summaries.{is_duplex_pair}

-- ---- sizes

few_by_size : (recs : List Rec) → length recs ≤ track_size recs
few_by_size [] = omega arith
few_by_size (rec ∷ recs) = omega (arith, sum_by-cons record_size rec recs, few_by_size recs)

pub track_is_small : (recs : List Rec) → IsTrack recs → track_size recs ≤ 56664
track_is_small recs is = leb-true (track_size recs) 56664 (both_true (rises_above 0 recs) _ is).1

pub track_has_few : (recs : List Rec) → IsTrack recs → length recs ≤ 56664
track_has_few recs is = omega (arith, few_by_size recs, track_is_small recs is)

-- ---- tallies

pub none_counted : (t : Tally) → t ≡ with_records t []
none_counted t =
    let records : t.records ≡ t.records + 0 = omega arith in
    let sum : t.sum ≡ t.sum + 0 = omega arith in
    λ i. record { records = records i; sum = sum i }

pub counted_then : (t : Tally) (a b : List Rec) → with_records (with_records t a) b ≡ with_records t (a ++ b)
counted_then t a b =
    let records : t.records + length a + length b ≡ t.records + length (a ++ b) = omega (arith, length-append a b) in
    let sum : t.sum + sum_by content_sum a + sum_by content_sum b ≡ t.sum + sum_by content_sum (a ++ b) = omega (arith, sum_by-append content_sum a b) in
    λ i. record { records = records i; sum = sum i }

-- ---- rows

-- There is a row at each place below their number.
next_row : (rows : List PairRow) (i : ℕ) → i < length rows → (row : PairRow) × (slice_get rows i ≡ Some row) × (take (suc i) rows ≡ take i rows ++ row ∷ [])
next_row [] i lt = absurd (omega (arith, lt))
next_row (r ∷ rows) zero lt = (r, refl, refl)
next_row (r ∷ rows) (suc i) lt = let next = next_row rows i (omega (arith, lt)) in (next.0, next.1, ap (λ (l : List PairRow). r ∷ l) next.2)

pub row_at : (rows : List PairRow) (i : ℕ) → i < length rows → (row : PairRow) × (slice_get rows i ≡ Some row) × (take (i + 1) rows ≡ take i rows ++ row ∷ [])
row_at rows i lt =
    let next = next_row rows i lt in
    let on : i + 1 ≡ suc i = omega arith in
    (next.0, next.1, ap (λ (n : ℕ). take n rows) on ∙ next.2)

-- One row more that is duplex or isn't.
pub duplex_more : (rows : List PairRow) (i count new : ℕ) (row : PairRow) (b : Bool) → take (i + 1) rows ≡ take i rows ++ row ∷ [] → b ≡ is_duplex_pair row → count ≡ count_by is_duplex_pair (take i rows) → new ≡ count + cond b 1 0
    → new ≡ count_by is_duplex_pair (take (i + 1) rows)
duplex_more rows i count new row b more is so_far next =
    next ∙ ap (λ (n : ℕ). n + cond b 1 0) so_far ∙ ap (λ (c : Bool). count_by is_duplex_pair (take i rows) + cond c 1 0) is
    ∙ sym (sum_by_push (λ (r : PairRow). cond (is_duplex_pair r) 1 0) (take i rows) row) ∙ ap (λ (l : List PairRow). count_by is_duplex_pair l) (sym more)

-- The records of one row more.
pub rows_more : (part : PairRow → List Rec) (rows : List PairRow) (i : ℕ) (row : PairRow) → take (i + 1) rows ≡ take i rows ++ row ∷ [] → flat_map part (take i rows) ++ part row ≡ flat_map part (take (i + 1) rows)
rows_more part rows i row more = flat_map_more part [] (take i rows) row ∙ ap (λ (l : List PairRow). flat_map part l) (sym more)

-- ---- tracks

range_more : (a n : ℕ) → range_with_len a (suc n) ≡ range_with_len a n ++ (a + n) ∷ []
range_more a zero = let here : a ≡ a + 0 = omega arith in ap (λ (k : ℕ). k ∷ []) here
range_more a (suc n) = let on : a + 1 + n ≡ a + suc n = omega arith in ap (λ (l : List ℕ). a ∷ l) (range_more (a + 1) n ∙ ap (λ (k : ℕ). range_with_len (a + 1) n ++ k ∷ []) on)

-- The records of one track more.
pub tracks_more : (part : ℕ → List Rec) (n : ℕ) → flat_map part (range_with_len 0 n) ++ part n ≡ flat_map part (range_with_len 0 (n + 1))
tracks_more part n =
    let on : suc n ≡ n + 1 = omega arith in
    let here : n ≡ 0 + n = omega arith in
    flat_map_more part [] (range_with_len 0 n) n
    ∙ ap (λ (k : ℕ). flat_map part (range_with_len 0 n ++ k ∷ [])) here
    ∙ ap (λ (l : List ℕ). flat_map part l) (sym (range_more 0 n)) ∙ ap (λ (k : ℕ). flat_map part (range_with_len 0 k)) on
