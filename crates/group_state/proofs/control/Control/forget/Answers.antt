use Rattle.std.proofs.Common.{List, ap, sym, subst, ◌∙◌}
use Rattle.std.specs.List.{remove}
use Rattle.group_state.specs.declared.volume.Volume.{Volume}
use Rattle.group_state.specs.Volumes.{without_number}
use Rattle.group_state.specs.Controls.{ControlState}
use Rattle.group_state.specs.SoundStates.{AreVolumesSound, is_dropped}
use Rattle.group_state.proofs.Numbers.{volumes_forgotten}
use Rattle.group_state.proofs.control.Control.forget.Goals as goal

pub invariant_of-self : goal.invariant_of-self
invariant_of-self c =
    let s = c.self.inside in
    let view : ControlState = record { queue = s.queue.state; floor = s.floor; phase = s.phase; volumes = s.volumes.items } in
    let place = c.in-Some.place in
    let items = c.remove.ensures.items ∙ ap (λ (us : List Volume). remove us place) (sym c.as_slice.ensures.value) ∙ c.in-Some.ensures.some.removes ∙ ap (without_number c.args.number) c.as_slice.ensures.value in
    subst AreVolumesSound (λ i. record { queue = s.queue.state; floor = s.floor; phase = s.phase; volumes = sym items i })
    (volumes_forgotten c.args.number view c.self.invariant (ap (λ (v : ControlState). is_dropped c.args.number v.volumes) c.self.view_is ∙ c.requires.dropped))
