use Rattle.std.proofs.Common.{get_or, ap, ◌∙◌}
use Rattle.std.specs.Prelude.{slice_set}
use Rattle.copy_plan.specs.Plans.{PlanState}
use Rattle.group_state.specs.Volumes.{copied_track}
use Rattle.group_state.proofs.volumes.join_copy.Goals as goal

pub returns : goal.returns
returns c =
    let volumes = c.args.volumes.now in
    let place = c.in-Some.place in
    let d = c.index-volumes-place.result in
    ap (λ (p : PlanState). slice_set volumes place (record (get_or volumes place d) { plan = p })) c.joined.ensures ∙ c.in-Some.ensures.some.changes (copied_track c.args.track) d
