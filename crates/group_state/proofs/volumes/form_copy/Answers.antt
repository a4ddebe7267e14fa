use Rattle.std.proofs.Common.{get_or, ap, ◌∙◌}
use Rattle.std.specs.Prelude.{slice_set}
use Rattle.copy_plan.specs.Plans.{PlanState}
use Rattle.group_state.specs.Volumes.{formed_track}
use Rattle.group_state.proofs.volumes.form_copy.Goals as goal

pub returns : goal.returns
returns c =
    let volumes = c.args.volumes.now in
    let place = c.in-Some.place in
    let d = c.index-volumes-place.result in
    ap (λ (p : PlanState). slice_set volumes place (record (get_or volumes place d) { plan = p })) c.formed.ensures ∙ c.in-Some.ensures.some.changes formed_track d
