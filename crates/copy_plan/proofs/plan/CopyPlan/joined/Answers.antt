use Rattle.std.proofs.Common.{◌≡◌, ℕ, ◌<◌, ◌≤◌, length, true, false, ap, sym, ◌∙◌, arith}
use Rattle.change_map.specs.Sets.{has_track, without_track}
use Rattle.copy_plan.specs.Plans.{PlanState}
use Rattle.copy_plan.proofs.Keeping.{joined_keeps}
use Rattle.copy_plan.proofs.plan.CopyPlan.joined.Goals as goal

pub invariant_of-self : goal.invariant_of-self
invariant_of-self c =
    let inside = c.self.inside in
    let x = c.args.x in
    let start = c.start_without-self-inside in
    let same : c.args.self.now.wanted ≡ inside.wanted = ap (λ (plan : PlanState). plan.wanted) (sym c.self.view_is) in
    let wanted : has_track inside.wanted x ≡ true = ap (λ tracks. has_track tracks x) (sym same) ∙ c.requires in
    let within : start.result ≤ length inside.wanted = omega (arith, start.ensures.within, ap length same) in
    let none : (y : ℕ) → y < start.result → has_track (without_track inside.wanted x) y ≡ false =
    λ y before. ap (λ tracks. has_track (without_track tracks x) y) (sym same) ∙ start.ensures.none_before y before in
    joined_keeps inside.wanted c.clear.new.self inside.left inside.from start.result inside.joined x c.self.invariant wanted c.clear.ensures within none
