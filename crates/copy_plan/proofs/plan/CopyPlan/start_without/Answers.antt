use Rattle.std.proofs.Common.{◌≡◌, Some, ap, inl, inr, sym, ◌∙◌, arith, not, nat_eq}
use Rattle.std.proofs.lemmas.Bool.{cases_lt, and_right}
use Rattle.change_map.specs.Sets.{has_track, without_track, least_from}
use Rattle.change_map.proofs.InSets.{least_is_some, has_without, gone}
use Rattle.copy_plan.proofs.plan.CopyPlan.start_without.Goals as goal

pub returns-in-Some-clause-none_before : goal.returns-in-Some-clause-none_before
returns-in-Some-clause-none_before c =
    let tracks = c.args.self.now.wanted in
    let x = c.args.x in
    let here : least_from tracks 0 ≡ Some x = sym c.in-Some.ensures.least ∙ ap Some c.if-next-x.true in
    let found = least_is_some tracks 0 x here in
    λ y before. elim (cases_lt y x) [
      | inl lower ↦ has_without tracks x y ∙ and_right (not (nat_eq y x)) (has_track tracks y) (found.none_before y (omega arith) lower)
      | inr at ↦ let same : y ≡ x = omega arith in ap (has_track (without_track tracks x)) same ∙ gone tracks x
    ]
