use Rattle.std.proofs.Common.{◌≡◌, List, ◌++◌, length, drop, take, ap, sym, subst, ◌∙◌, arith}
use Rattle.group_state.specs.declared.volume.Volume.{Volume}
use Rattle.group_state.specs.Volumes.{with_volume, resumed_volume}
use Rattle.group_state.specs.Controls.{ControlState, resumed}
use Rattle.group_state.specs.SoundStates.{AreVolumesSound, is_dropped}
use Rattle.group_state.proofs.Numbers.{volumes_resumed}
use Rattle.group_state.proofs.SoundLaws.{written_back}
use Rattle.group_state.proofs.control.Control.resume.Goals as goal

-- what is closed is the controller with the volume resumed
closed : (c : goal.After-self-1) → (let s = c.self.inside in
    let view : ControlState = record { queue = s.queue.state; floor = s.floor; phase = s.phase; volumes = s.volumes.items } in
    let now : ControlState = record { queue = s.queue.state; floor = s.floor; phase = s.phase; volumes = take s.volumes.len (c.resume.new.volumes ++ drop (length c.resume.new.volumes) s.volumes.items) } in
    now ≡ resumed c.args.number view)
closed c =
    let s = c.self.inside in
    let new = c.resume.new.volumes in
    let items = written_back s.volumes.len new (drop (length new) s.volumes.items) (omega arith) ∙ c.resume.ensures.volumes ∙ ap (λ (us : List Volume). with_volume c.args.number resumed_volume us) c.as_mut_slice.ensures.value in
    λ i. record { queue = s.queue.state; floor = s.floor; phase = s.phase; volumes = items i }

pub invariant_of-self : goal.invariant_of-self
invariant_of-self c =
    let s = c.self.inside in
    let view : ControlState = record { queue = s.queue.state; floor = s.floor; phase = s.phase; volumes = s.volumes.items } in
    subst AreVolumesSound (sym (closed c)) (volumes_resumed c.args.number view c.self.invariant (ap (λ (v : ControlState). is_dropped c.args.number v.volumes) c.self.view_is ∙ c.requires.dropped))

pub returns-clause-volume : goal.returns-clause-volume
returns-clause-volume c = closed c ∙ ap (resumed c.args.number) c.self.view_is
