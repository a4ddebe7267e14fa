use Rattle.std.proofs.Common.{List, [], ◌∷◌, ◌++◌, Bool, true, ap, sym, subst, ◌∙◌, arith}
use Rattle.change_map.specs.Sets.{no_track}
use Rattle.group_state.specs.Controls.{ControlState}
use Rattle.group_state.specs.SoundStates.{AreVolumesSound, MayCarry}
use Rattle.group_state.proofs.Numbers.{volumes_begun}
use Rattle.group_state.proofs.control.Control.carry.Goals as goal

pub invariant_of-self-2 : goal.invariant_of-self-2
invariant_of-self-2 c =
    let s = c.self.inside in
    let view : ControlState = record { queue = s.queue.state; floor = s.floor; phase = s.phase; volumes = s.volumes.items } in
    let map = c.clear_all.ensures ∙ ap no_track c.requires.sizes in
    let items = c.in_ok-push.ensures.items ∙ ap (λ (m : List Bool). s.volumes.items ++ record { number = c.args.number; carried = true; plan = c.args.plan; map = m } ∷ []) map in
    subst AreVolumesSound (λ i. record { queue = s.queue.state; floor = s.floor; phase = s.phase; volumes = sym items i })
    (volumes_begun c.args.number c.args.plan view c.self.invariant (subst (λ (v : ControlState). MayCarry v c.args.number c.args.plan) (sym c.self.view_is) c.requires.may) (omega arith))
