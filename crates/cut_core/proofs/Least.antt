-- The last cut is at most each live floor, so that the least of them is a legal cut.
use Rattle.std.proofs.Common.{inl, inr, ◌≡◌, ℕ, zero, suc, ◌<◌, ◌≤◌, min, Bool, true, false, not, cond, nat_le, ◌&&◌, ◌||◌, List, refl, arith}
use Rattle.std.proofs.lemmas.Bool.{and_from, not-true, le-leb}
use Rattle.cut_core.specs.Events.{Event, floor, is_done, last_cut}
use Rattle.cut_core.specs.LegalHistories.{is_below_floors, least_floor}
use Rattle.cut_core.specs.LeastCuts.{FloorsAreAbove, LeastIsLegal, LeastIsGreatest}
use Rattle.cut_core.proofs.Legality.{forms_at}
use Rattle.cut_core.proofs.Ends.{clash}
use Rattle.cut_core.proofs.Kept.{IsAbove, above_cut, legal_kept}

pub floors_are_above : FloorsAreAbove
floors_are_above n past k legal lt live = elim ((legal_kept n past legal).floors k lt) [
  | inl done ↦ absurd (clash (is_done k past) done (not-true (is_done k past) live))
  | inr le ↦ le
]

-- ---- the least floor

-- what is at most the limit and the live floors is at most the least of them
at_most_least : (n limit c : ℕ) (past : List Event) → c ≤ limit → ((k : ℕ) → k < n → IsAbove c k past) → c ≤ least_floor n limit past
at_most_least zero limit c past le at = le
at_most_least (suc n) limit c past le at = choose (is_done n past) refl (at n (omega arith)) (at_most_least n limit c past le (λ k lt. at k (omega arith)))
  where
    choose : (d : Bool) → is_done n past ≡ d → IsAbove c n past → c ≤ least_floor n limit past → c ≤ cond (not d) (min (floor n past) (least_floor n limit past)) (least_floor n limit past)
    choose true is this rest = rest
    choose false is (inr le) rest = omega arith
    choose false is (inl done) rest = absurd cc

-- a cut up to the least floor isn't above a live one
below_least : (n limit c : ℕ) (past : List Event) → c ≤ least_floor n limit past → is_below_floors n c past ≡ true
below_least zero limit c past le = refl
below_least (suc n) limit c past le = choose (is_done n past) (below_least n limit c past) le
  where
    choose : (d : Bool) → (c ≤ least_floor n limit past → is_below_floors n c past ≡ true) → c ≤ cond (not d) (min (floor n past) (least_floor n limit past)) (least_floor n limit past) → ((not (not d) || nat_le c (floor n past)) && is_below_floors n c past) ≡ true
    choose true below le = below le
    choose false below le = and_from (nat_le c (floor n past)) (is_below_floors n c past) (le-leb c (floor n past) (omega arith)) (below (omega arith))

pub least_is_legal : LeastIsLegal
least_is_legal n limit past legal le =
    let c = least_floor n limit past in
    and_from (nat_le (last_cut past) c) (is_below_floors n c past)
    (le-leb (last_cut past) c (at_most_least n limit (last_cut past) past le (legal_kept n past legal).floors))
    (below_least n limit c past (omega arith))

pub least_is_greatest : LeastIsGreatest
least_is_greatest n limit c past le legal =
    at_most_least n limit c past le (λ k lt. above_cut n c k past (forms_at n c past legal).floors lt)
