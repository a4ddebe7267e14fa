-- How many bits are set in words, and how many tracks the set in them has.
use Rattle.std.proofs.Common.{◌≡◌, ℕ, zero, suc, ◌+◌, ◌-◌, ◌*◌, ◌/◌, ◌%◌, ◌^◌, ◌<◌, ◌≤◌, false, cond, nat_eq, List, length, get_or, take, inl, inr, refl, sym, ap, ◌∙◌, arith}
use Rattle.std.specs.Prelude.{count_ones}
use Rattle.std.specs.List.{sum_by}
use Rattle.std.proofs.lemmas.Nat.{ones_cat, ones-le, ones_le_self, zero_from_ones, shr-shr}
use Rattle.std.proofs.lemmas.Bool.{cases_eq}
use Rattle.std.proofs.lemmas.List.Sums.{sum_by_more}
use Rattle.std.proofs.lemmas.List.FromFn.{sum_by-map-range_with_len_more}
use Rattle.change_map.specs.Sets.{size}
use Rattle.change_map.specs.Words.{has_bit, set_in, AreWordsSound}
use Rattle.change_map.proofs.InWords.{read_here}

one_bit : (b : ℕ) → b < 2 → count_ones b ≡ b
one_bit b small = elim (cases_eq (count_ones b) 0) [
  | inl none ↦ none ∙ sym (zero_from_ones b none)
  | inr some ↦ omega (arith, ones_le_self b)
]

bit_flag : (b : ℕ) → b < 2 → cond (nat_eq b 1) 1 0 ≡ b
bit_flag zero p = refl
bit_flag (suc zero) p = refl
bit_flag (suc (suc b)) p = absurd (omega arith)

-- the ones of a number are those of its half and its last bit
ones_half : (n : ℕ) → count_ones n ≡ count_ones (n / 2) + n % 2
ones_half n =
    let parts : n ≡ n / 2 * 2 + n % 2 = omega arith in
    ap count_ones parts ∙ ones_cat 1 (n / 2) (n % 2) (omega arith) ∙ ap (λ b. count_ones (n / 2) + b) (one_bit (n % 2) (omega arith))

-- one track more
size_more : (ws : List ℕ) (n : ℕ) → size (set_in (n + 1) ws) ≡ size (set_in n ws) + cond (has_bit ws n) 1 0
size_more ws n = sum_by-map-range_with_len_more (λ b. cond b 1 0) (has_bit ws) 0 n n (omega arith)

-- the tracks of a word up to one of its bits, and the ones that are left after it
size_in_word : (ws : List ℕ) (k w : ℕ) → w ≡ get_or ws k 0 → (i : ℕ) → i ≤ 64
    → size (set_in (64 * k + i) ws) + count_ones (w / 2 ^ i) ≡ size (set_in (64 * k) ws) + count_ones w
size_in_word ws k w is zero within =
    let same : 64 * k + zero ≡ 64 * k = omega arith in
    let whole : w / 2 ^ zero ≡ w = omega arith in
    omega (arith, ap (λ m. size (set_in m ws)) same, ap count_ones whole)
size_in_word ws k w is (suc i) within =
    let next : 64 * k + suc i ≡ 64 * k + i + 1 = omega arith in
    let at : (64 * k + i) % 64 ≡ i = omega arith in
    let bit : cond (has_bit ws (64 * k + i)) 1 0 ≡ w / 2 ^ i % 2 =
    ap (λ b. cond b 1 0) (sym (read_here ws k w (64 * k + i) is (omega arith)) ∙ ap (λ j. nat_eq (w / 2 ^ j % 2) 1) at)
    ∙ bit_flag (w / 2 ^ i % 2) (omega arith) in
    let half : w / 2 ^ i / 2 ≡ w / 2 ^ suc i = shr-shr w i 1 ∙ ap (λ j. w / 2 ^ j) (omega arith) in
    omega (arith, ap (λ m. size (set_in m ws)) next, size_more ws (64 * k + i), bit, ones_half (w / 2 ^ i), ap count_ones half, size_in_word ws k w is i (omega arith))

-- the tracks of a whole word are its ones
size_of_word : (ws : List ℕ) (k w : ℕ) → w ≡ get_or ws k 0 → w < 2 ^ 64
    → size (set_in (64 * (k + 1)) ws) ≡ size (set_in (64 * k) ws) + count_ones w
size_of_word ws k w is fits =
    let next : 64 * (k + 1) ≡ 64 * k + 64 = omega arith in
    let none : w / 2 ^ 64 ≡ 0 = omega arith in
    omega (arith, ap (λ m. size (set_in m ws)) next, size_in_word ws k w is 64 (omega arith), ap count_ones none, one_bit 0 (omega arith))

pub size_of_words : (ws : List ℕ) → ((k : ℕ) → get_or ws k 0 < 2 ^ 64) → (k : ℕ) → k ≤ length ws
    → size (set_in (64 * k) ws) ≡ sum_by count_ones (take k ws)
size_of_words ws fits zero within = refl
size_of_words ws fits (suc k) within =
    let next : suc k ≡ k + 1 = omega arith in
    omega (arith, ap (λ m. size (set_in (64 * m) ws)) next, ap (λ m. sum_by count_ones (take m ws)) next, size_of_word ws k (get_or ws k 0) refl (fits k), sum_by_more count_ones ws k 0 (omega arith), size_of_words ws fits k (omega arith))

-- no track past the last is counted
size_past : (ws : List ℕ) (n d : ℕ) → ((x : ℕ) → n ≤ x → has_bit ws x ≡ false) → size (set_in (n + d) ws) ≡ size (set_in n ws)
size_past ws n zero clear = let same : n + zero ≡ n = omega arith in ap (λ m. size (set_in m ws)) same
size_past ws n (suc d) clear =
    let next : n + suc d ≡ n + d + 1 = omega arith in
    omega (arith, ap (λ m. size (set_in m ws)) next, size_more ws (n + d), ap {B = ℕ} (λ b. cond b 1 0) (clear (n + d) (omega arith)), size_past ws n d clear)

pub size_kept : (n : ℕ) (ws : List ℕ) → AreWordsSound n ws → size (set_in (64 * length ws) ws) ≡ size (set_in n ws)
size_kept n ws keeps =
    let end : n + (64 * length ws - n) ≡ 64 * length ws = omega (arith, keeps.whole) in
    ap (λ m. size (set_in m ws)) (sym end) ∙ size_past ws n (64 * length ws - n) keeps.clear

-- a number of 64 bits has at most 64 ones
pub ones_few : (w : ℕ) → w < 2 ^ 64 → count_ones w ≤ 64
ones_few w fits = ones-le 64 w fits
