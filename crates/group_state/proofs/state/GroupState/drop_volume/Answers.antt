use Rattle.std.proofs.Common.{◌≡◌}
use Rattle.group_state.specs.Controls.{dropped}
use Rattle.group_state.specs.Groups.{control_at}
use Rattle.group_state.proofs.Kept.{keeps_then, keeps_dropped, kept_call}
use Rattle.group_state.proofs.state.GroupState.drop_volume.Goals as goal

pub invariant_of-self : goal.invariant_of-self
invariant_of-self c =
    let s = c.self.inside in
    let old = c.index_mut.result.now in
    kept_call (record { controls = s.controls.items; last = s.last }) c.args.self.now c.args.control c.drop_volume.new.self old c.self.invariant c.self.view_is c.requires.control c.index_mut.ensures.value
    (λ (is : old ≡ control_at c.args.self.now c.args.control). keeps_then s.last c.drop_volume.new.self (dropped c.args.volume c.args.all old) old c.drop_volume.ensures (keeps_dropped s.last c.args.volume c.args.all old))
