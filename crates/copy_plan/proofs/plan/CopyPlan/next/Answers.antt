use Rattle.std.proofs.Common.{◌≡◌, ap, ◌∙◌, arith}
use Rattle.change_map.specs.Sets.{least_from}
use Rattle.change_map.proofs.InSets.{least_skips, some_had}
use Rattle.copy_plan.specs.Plans.{PlanState}
use Rattle.copy_plan.proofs.plan.CopyPlan.next.Goals as goal

least : (c : goal.After-next_from) → c.next_from.result ≡ least_from c.args.self.now.wanted 0
least c =
    let tracks = c.self.inside.wanted in
    c.next_from.ensures.least
    ∙ least_skips tracks 0 c.self.inside.from (omega arith) (λ x _ before. c.self.invariant.none_before x before)
    ∙ ap (λ (plan : PlanState). least_from plan.wanted 0) c.self.view_is

pub returns-clause-least : goal.returns-clause-least
returns-clause-least c = least c

pub returns-clause-wanted : goal.returns-clause-wanted
returns-clause-wanted c = some_had c.args.self.now.wanted 0 c.next_from.result (least c)
