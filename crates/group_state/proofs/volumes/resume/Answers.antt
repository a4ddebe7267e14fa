use Rattle.std.proofs.Common.{ap, ◌∙◌}
use Rattle.std.specs.Prelude.{slice_set}
use Rattle.group_state.specs.declared.volume.Volume.{Volume}
use Rattle.group_state.specs.Volumes.{resumed_volume}
use Rattle.group_state.proofs.volumes.resume.Goals as goal

pub returns-clause-volumes : goal.returns-clause-volumes
returns-clause-volumes c =
    ap (λ (u : Volume). slice_set c.args.volumes.now c.in-Some.place u) c.resume.ensures.volume ∙ c.in-Some.ensures.some.changes resumed_volume c.index-volumes-place.result
