-- Rows of words: those of either, and how many ones.
use Rattle.std.proofs.Common.{◌≡◌, ℕ, suc, ◌+◌, ◌-◌, ◌*◌, ◌/◌, ◌<◌, ◌≤◌, ◌^◌, List, [], ◌∷◌, ◌++◌, length, get_or, take, drop, map, inl, inr, refl, sym, ap, ◌∙◌, arith, take-add, length-append, w64, Fits}
use Rattle.std.specs.Prelude.{bit_or, count_ones}
use Rattle.std.specs.List.{sum_by}
use borrow.Rule.Slice.PartMut.{put_mid}
use Rattle.std.specs.Simd.Lanes.{zip2, sum_l, chunk, put_chunk, fold_l, Each2, Steps}
use Rattle.std.proofs.lemmas.List.{ext_get_or, length-take, length-drop, take_rest, get_or-take, get_or-drop, get_or_append_left, get_or-append_right}
use Rattle.std.proofs.lemmas.List.Sums.{sum_by-cons, sum_by-append, sum_by-le, sum_by-take-le, sum_by-take-drop}
use Rattle.std.proofs.lemmas.List.Elements.{All-from_get_or}
use Rattle.std.proofs.lemmas.Simd.{get_or-zip2, length-zip2, length-chunk, length-put_chunk, get_or-chunk, get_or-put_chunk_below, get_or-put_chunk_at, get_or-put_chunk_above, sum-zip2, adds_fit, sum_fits, fold-sum}
use Rattle.std.proofs.lemmas.Bool.{cases_lt}
use Rattle.change_map.proofs.Counts.{ones_few}

-- a row whose words are each that of either row
pub or_whole : (us vs ws : List ℕ) → length vs ≡ length us → length ws ≡ length us
    → ((k : ℕ) → k < length us → get_or ws k 0 ≡ bit_or (get_or us k 0) (get_or vs k 0)) → ws ≡ zip2 bit_or us vs
or_whole us vs ws same long each =
    ext_get_or 0 ws (zip2 bit_or us vs) (long ∙ sym (length-zip2 bit_or us vs (sym same))) (
    λ k within. each k (omega arith) ∙ sym (get_or-zip2 bit_or us vs k 0 0 0 (omega arith) (omega arith))
    )

pub length_or : (us vs ws : List ℕ) → length vs ≡ length us → ws ≡ zip2 bit_or us vs → length ws ≡ length us
length_or us vs ws same are = ap length are ∙ length-zip2 bit_or us vs (sym same)

pub get_or-or : (us vs ws : List ℕ) → length vs ≡ length us → ws ≡ zip2 bit_or us vs
    → (k : ℕ) → k < length us → get_or ws k 0 ≡ bit_or (get_or us k 0) (get_or vs k 0)
get_or-or us vs ws same are k within = ap (λ xs. get_or xs k 0) are ∙ get_or-zip2 bit_or us vs k 0 0 0 within (omega arith)

-- ---- counts

sum_of_counts : (xs : List ℕ) → sum_l (map (λ (x : ℕ). x) (map count_ones xs)) ≡ sum_by count_ones xs
sum_of_counts [] = refl
sum_of_counts (x ∷ xs) = omega (arith, sum_by-cons count_ones x xs, sum_of_counts xs)

length_of_counts : (xs : List ℕ) → length (map (λ (x : ℕ). x) (map count_ones xs)) ≡ length xs
length_of_counts [] = refl
length_of_counts (x ∷ xs) = ap suc (length_of_counts xs)

-- words that fit have few ones
ones_of_words : (ws : List ℕ) → ((k : ℕ) → Fits w64 (get_or ws k 0)) → sum_by count_ones ws ≤ length ws * 64
ones_of_words ws fits =
    sum_by-le count_ones 64 ws (All-from_get_or (λ w. count_ones w ≤ 64) ws 0 (λ k _. ones_few (get_or ws k 0) (fits k).fits))

-- Eight words are counted lane by lane, after those that are counted already.
module _ (ws counts : List ℕ) (k : ℕ) (fits : (i : ℕ) → Fits w64 (get_or ws i 0)) (few : length ws < 2 ^ 32) (within : k < length ws / 8) (lanes : length counts ≡ 8) (counted : sum_l counts ≡ sum_by count_ones (take (k * 8) ws)) where
  eight_long : length (map (λ (x : ℕ). x) (map count_ones (chunk (k * 8) 8 ws))) ≡ 8
  eight_long = length_of_counts (chunk (k * 8) 8 ws) ∙ length-chunk (k * 8) 8 ws (omega arith)

  eight_more : sum_l counts + sum_l (map (λ (x : ℕ). x) (map count_ones (chunk (k * 8) 8 ws))) ≡ sum_by count_ones (take ((k + 1) * 8) ws)
  eight_more =
      let next : (k + 1) * 8 ≡ k * 8 + 8 = omega arith in
      omega (arith, counted, sum_of_counts (chunk (k * 8) 8 ws), ap (λ n. sum_by count_ones (take n ws)) next, ap (sum_by count_ones) (take-add (k * 8) 8 ws), sum_by-append count_ones (take (k * 8) ws) (chunk (k * 8) 8 ws))

  pub counts_fit : Each2 (λ a b. Fits w64 (a + b)) counts (map (λ (x : ℕ). x) (map count_ones (chunk (k * 8) 8 ws)))
  counts_fit =
      adds_fit w64 counts (map (λ (x : ℕ). x) (map count_ones (chunk (k * 8) 8 ws)))
      (omega (arith, eight_more, sum_by-take-le count_ones ws ((k + 1) * 8), ones_of_words ws fits))

  pub lanes_kept : length (zip2 (λ a b. a + b) counts (map (λ (x : ℕ). x) (map count_ones (chunk (k * 8) 8 ws)))) ≡ 8
  lanes_kept =
      length-zip2 (λ a b. a + b) counts (map (λ (x : ℕ). x) (map count_ones (chunk (k * 8) 8 ws))) (lanes ∙ sym eight_long) ∙ lanes

  pub lanes_counted : sum_l (zip2 (λ a b. a + b) counts (map (λ (x : ℕ). x) (map count_ones (chunk (k * 8) 8 ws)))) ≡ sum_by count_ones (take ((k + 1) * 8) ws)
  lanes_counted =
      sum-zip2 counts (map (λ (x : ℕ). x) (map count_ones (chunk (k * 8) 8 ws))) (lanes ∙ sym eight_long) ∙ eight_more

-- What is left is counted too.
module _ (ws counts : List ℕ) (k : ℕ) (fits : (i : ℕ) → Fits w64 (get_or ws i 0)) (few : length ws < 2 ^ 32) (counted : sum_l counts ≡ sum_by count_ones (take (k * 8) ws)) where
  pub sums_fit : Steps (λ s x. Fits w64 (s + x)) (λ s x. s + x) 0 counts
  sums_fit = sum_fits w64 0 counts (omega (arith, counted, sum_by-take-le count_ones ws (k * 8), ones_of_words ws fits))

  pub all_counted : (rest : ℕ) → k ≡ length ws / 8 → rest ≡ sum_by count_ones (take (length ws - length ws / 8 * 8) (drop (length ws / 8 * 8) ws))
      → fold_l (λ s x. s + x) 0 counts + rest ≡ sum_by count_ones ws
  all_counted rest end are =
      omega (
        arith,
        fold-sum 0 counts,
        counted,
        are,
        ap (sum_by count_ones) (take_rest ws (length ws / 8 * 8)),
        ap (λ n. sum_by count_ones (take (n * 8) ws)) end,
        sum_by-take-drop count_ones ws (length ws / 8 * 8),
      )

  pub all_fits : (rest : ℕ) → k ≡ length ws / 8 → rest ≡ sum_by count_ones (take (length ws - length ws / 8 * 8) (drop (length ws / 8 * 8) ws))
      → fold_l (λ s x. s + x) 0 counts + rest < 2 ^ 64
  all_fits rest end are = omega (arith, all_counted rest end are, ones_of_words ws fits)

-- ---- those of either

-- Eight words are put in place, after those that are done.
module _ (us vs ws : List ℕ) (k : ℕ) (same : length vs ≡ length us) (within : k < length us / 8) (long : length ws ≡ length us) (done : (j : ℕ) → j < k * 8 → get_or ws j 0 ≡ bit_or (get_or us j 0) (get_or vs j 0)) (left : (j : ℕ) → k * 8 ≤ j → get_or ws j 0 ≡ get_or us j 0) where
  eight : List ℕ
  eight = zip2 bit_or (chunk (k * 8) 8 ws) (chunk (k * 8) 8 vs)

  ours_long : length (chunk (k * 8) 8 ws) ≡ 8
  ours_long = length-chunk (k * 8) 8 ws (omega arith)

  theirs_long : length (chunk (k * 8) 8 vs) ≡ 8
  theirs_long = length-chunk (k * 8) 8 vs (omega arith)

  eight_are : length eight ≡ 8
  unfolding eight
  eight_are = length-zip2 bit_or (chunk (k * 8) 8 ws) (chunk (k * 8) 8 vs) (ours_long ∙ sym theirs_long) ∙ ours_long

  put_here : (i : ℕ) → i < 8 → get_or (put_chunk (k * 8) ws eight) (k * 8 + i) 0 ≡ bit_or (get_or us (k * 8 + i) 0) (get_or vs (k * 8 + i) 0)
  unfolding eight
  put_here i small =
      get_or-put_chunk_at (k * 8) ws eight i 0 (omega (arith, eight_are)) (omega (arith, eight_are))
      ∙ get_or-zip2 bit_or (chunk (k * 8) 8 ws) (chunk (k * 8) 8 vs) i 0 0 0 (omega (arith, ours_long)) (omega (arith, theirs_long))
      ∙ ap (λ u. bit_or u (get_or (chunk (k * 8) 8 vs) i 0)) (get_or-chunk (k * 8) 8 ws i 0 small ∙ left (k * 8 + i) (omega arith))
      ∙ ap (λ v. bit_or (get_or us (k * 8 + i) 0) v) (get_or-chunk (k * 8) 8 vs i 0 small)

  pub put_long : length (put_chunk (k * 8) ws (zip2 bit_or (chunk (k * 8) 8 ws) (chunk (k * 8) 8 vs))) ≡ length us
  put_long = length-put_chunk (k * 8) ws (zip2 bit_or (chunk (k * 8) 8 ws) (chunk (k * 8) 8 vs)) ∙ long

  pub put_done : (j : ℕ) → j < (k + 1) * 8
      → get_or (put_chunk (k * 8) ws (zip2 bit_or (chunk (k * 8) 8 ws) (chunk (k * 8) 8 vs))) j 0 ≡ bit_or (get_or us j 0) (get_or vs j 0)
  unfolding eight
  put_done j before = elim (cases_lt j (k * 8)) [
    | inl lower ↦ get_or-put_chunk_below (k * 8) ws eight j 0 lower ∙ done j lower
    | inr here ↦
        let at : k * 8 + (j - k * 8) ≡ j = omega arith in
        ap (λ i. get_or (put_chunk (k * 8) ws eight) i 0) (sym at)
        ∙ put_here (j - k * 8) (omega arith)
        ∙ ap (λ i. bit_or (get_or us i 0) (get_or vs i 0)) at
  ]

  pub put_left : (j : ℕ) → (k + 1) * 8 ≤ j → get_or (put_chunk (k * 8) ws (zip2 bit_or (chunk (k * 8) 8 ws) (chunk (k * 8) 8 vs))) j 0 ≡ get_or us j 0
  unfolding eight
  put_left j after = get_or-put_chunk_above (k * 8) ws eight j 0 (omega (arith, eight_are)) ∙ left j (omega arith)

-- The words after the last eight are put in place too.
module _ (us vs ws ys : List ℕ) (k : ℕ) (same : length vs ≡ length us) (end : k ≡ length us / 8) (long : length ws ≡ length us) (done : (j : ℕ) → j < k * 8 → get_or ws j 0 ≡ bit_or (get_or us j 0) (get_or vs j 0)) (left : (j : ℕ) → k * 8 ≤ j → get_or ws j 0 ≡ get_or us j 0) where
  module _ (a n m : ℕ) (at : a ≡ k * 8) (ours : n ≡ length ws - a) (theirs : m ≡ length vs - a) (are : ys ≡ zip2 bit_or (take n (drop a ws)) (take m (drop a vs))) where
    n_long : length (take n (drop a ws)) ≡ n
    n_long = omega (arith, length-take n (drop a ws), length-drop a ws)

    m_long : length (take m (drop a vs)) ≡ m
    m_long = omega (arith, length-take m (drop a vs), length-drop a vs)

    rest_long : length ys ≡ n
    rest_long = ap length are ∙ length-zip2 bit_or (take n (drop a ws)) (take m (drop a vs)) (omega (arith, n_long, m_long)) ∙ n_long

    front_long : length (take a ws) ≡ a
    front_long = omega (arith, length-take a ws)

    whole_long : length (put_mid a n ws ys) ≡ length us
    whole_long =
        omega (arith, length-append (take a ws) (ys ++ drop n (drop a ws)), length-append ys (drop n (drop a ws)), length-drop n (drop a ws), length-drop a ws, front_long, rest_long)

    rest_here : (i : ℕ) → i < n → get_or ys i 0 ≡ bit_or (get_or us (a + i) 0) (get_or vs (a + i) 0)
    rest_here i small =
        ap (λ (xs : List ℕ). get_or xs i 0) are
        ∙ get_or-zip2 bit_or (take n (drop a ws)) (take m (drop a vs)) i 0 0 0 (omega (arith, n_long)) (omega (arith, m_long))
        ∙ ap (λ u. bit_or u (get_or (take m (drop a vs)) i 0)) (get_or-take n (drop a ws) i 0 small ∙ get_or-drop a ws i 0 ∙ left (a + i) (omega arith))
        ∙ ap (λ v. bit_or (get_or us (a + i) 0) v) (get_or-take m (drop a vs) i 0 (omega arith) ∙ get_or-drop a vs i 0)

    pub put_rest : put_mid a n ws ys ≡ zip2 bit_or us vs
    put_rest = or_whole us vs (put_mid a n ws ys) same whole_long (
        λ j within. elim (cases_lt j a) [
          | inl lower ↦
              get_or_append_left (take a ws) (ys ++ drop n (drop a ws)) 0 j (omega (arith, front_long))
              ∙ get_or-take a ws j 0 lower
              ∙ done j (omega arith)
          | inr after ↦
              let place : a + (j - a) ≡ j = omega arith in
              get_or-append_right (take a ws) (ys ++ drop n (drop a ws)) a j 0 front_long after
              ∙ get_or_append_left ys (drop n (drop a ws)) 0 (j - a) (omega (arith, rest_long))
              ∙ rest_here (j - a) (omega arith)
              ∙ ap (λ i. bit_or (get_or us i 0) (get_or vs i 0)) place
        ]
        )
