use Rattle.std.proofs.Common.{refl, ap, sym, ◌∙◌}
use Rattle.std.specs.Prelude.{slice_set}
use Rattle.group_state.specs.declared.volume.Volume.{Volume}
use Rattle.group_state.specs.Volumes.{noted_write}
use Rattle.group_state.proofs.VolumeLaws.{none_changed}
use Rattle.group_state.proofs.volumes.note_write.Goals as goal

pub returns-in_default : goal.returns-in_default
returns-in_default c = sym (none_changed c.args.write.now.volume (noted_write c.args.write.now.track) c.args.volumes.now (c.in_default.ensures.none refl))

pub returns : goal.returns
returns c =
    let volumes = c.args.volumes.now in
    let place = c.in-Some.place in
    ap (λ (u : Volume). slice_set volumes place u) c.note_write.ensures ∙ c.in-Some.ensures.some.changes (noted_write c.args.write.now.track) c.index-volumes-place.result
