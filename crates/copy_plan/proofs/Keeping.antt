-- A plan is left sound when a track was joined.
use Rattle.std.proofs.Common.{◌≡◌, ℕ, ◌+◌, ◌-◌, ◌<◌, ◌≤◌, List, Bool, true, false, length, ap, ◌∙◌, arith}
use Rattle.std.proofs.lemmas.List.{length-set}
use Rattle.change_map.specs.Sets.{has_track, without_track, size}
use Rattle.change_map.proofs.InSets.{size_without}
use Rattle.copy_plan.specs.Plans.{IsPlanSound}

pub joined_keeps : (old new : List Bool) (left from start joined x : ℕ) → IsPlanSound old left from joined → has_track old x ≡ true
    → new ≡ without_track old x → start ≤ length old → ((y : ℕ) → y < start → has_track (without_track old x) y ≡ false)
    → IsPlanSound new (left - 1) start (joined + 1)
joined_keeps old new left from start joined x keeps wanted are within none =
    let long : length new ≡ length old = ap length are ∙ length-set old x false in
    let fewer = size_without old x wanted in
    let few = keeps.few in
    let counted = keeps.counted in
    let all = keeps.within in
    record {
      few = omega arith;
      counted = omega (arith, ap size are);
      within = omega (arith, ap size are);
      start = omega arith;
      none_before = λ y before. ap (λ tracks. has_track tracks y) are ∙ none y before;
    }
