use Rattle.std.proofs.Common.{List, length, drop, ap, sym, subst, ◌∙◌, arith}
use Rattle.pending_queue.specs.Entries.{entry_tracks}
use Rattle.group_state.specs.declared.volume.Volume.{Volume}
use Rattle.group_state.specs.Volumes.{with_volume, dropped_volume}
use Rattle.group_state.specs.Controls.{ControlState}
use Rattle.group_state.specs.SoundStates.{AreVolumesSound}
use Rattle.group_state.proofs.Numbers.{volumes_dropped}
use Rattle.group_state.proofs.SoundLaws.{written_back}
use Rattle.group_state.proofs.control.Control.drop_volume.Goals as goal

pub invariant_of-self : goal.invariant_of-self
invariant_of-self c =
    let s = c.self.inside in
    let view : ControlState = record { queue = s.queue.state; floor = s.floor; phase = s.phase; volumes = s.volumes.items } in
    let new = c.drop_volume.new.volumes in
    let queue = c.drop_volume.ensures.queue in
    let items = written_back s.volumes.len new (drop (length new) s.volumes.items) (omega arith) ∙ c.drop_volume.ensures.volumes
    ∙ ap (λ (us : List Volume). with_volume c.args.number (dropped_volume c.args.all (entry_tracks c.args.number s.queue.state.waiting)) us) c.as_mut_slice.ensures.value in
    subst AreVolumesSound (λ i. record { queue = sym queue i; floor = s.floor; phase = s.phase; volumes = sym items i }) (volumes_dropped c.args.number c.args.all view c.self.invariant)
