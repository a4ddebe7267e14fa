-- A copied track of a group has a stamp from the cut before to the group's.
use Rattle.std.proofs.Common.{◌≡◌, ℕ, Bool, true, false, nat_lt, nat_le, ◌&&◌, ◌||◌, [], ◌∷◌, refl, arith}
use Rattle.std.specs.Prelude.{filter}
use Rattle.std.proofs.lemmas.Bool.{and_from, ltb-true, le-leb}
use Rattle.cut_core.specs.Events.{last_cut}
use Rattle.cut_core.specs.Events.Event.{Form}
use Rattle.cut_core.specs.Groups.{CarriedEntry, is_copy, waiting_in, comes_before}
use Rattle.cut_core.specs.Cuts.{CopiesAreBetween}
use Rattle.cut_core.proofs.Filters.{all_filter, all_passing, all_order}
use Rattle.cut_core.proofs.Legality.{legal_front}
use Rattle.cut_core.proofs.Kept.{is_past, legal_kept}

abbrev is_between : (low cut : ℕ) → CarriedEntry → Bool
is_between low cut e = nat_le low e.stamp && nat_le e.stamp cut

past_from : (low : ℕ) (e : CarriedEntry) → is_past low e ≡ true → nat_le low e.stamp ≡ true
past_from low e is = choose (nat_lt low e.stamp) refl (is_copy e) is
  where
    choose : (t : Bool) → nat_lt low e.stamp ≡ t → (c : Bool) → (t || (c && nat_le low e.stamp)) ≡ true → nat_le low e.stamp ≡ true
    choose true lt c is = le-leb low e.stamp (omega (arith, ltb-true low e.stamp lt))
    choose false lt true is = is
    choose false lt false is = absurd cc

pub copies_are_between : CopiesAreBetween
copies_are_between n before later cut legal =
    let kept = legal_kept n before (legal_front n [] before (Form cut ∷ later) legal) in
    let low = last_cut before in
    let due = all_passing (is_past low) (λ e. nat_le e.stamp cut) (is_between low cut) (waiting_in [] before) kept.waits
    (λ e past le. and_from (nat_le low e.stamp) (nat_le e.stamp cut) (past_from low e past) le) in
    all_filter (is_between low cut) is_copy _ (all_order comes_before (is_between low cut) (filter (λ e. nat_le e.stamp cut) (waiting_in [] before)) due)
