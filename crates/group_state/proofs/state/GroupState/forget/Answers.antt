use Rattle.std.proofs.Common.{◌≡◌, ap, ◌∙◌}
use Rattle.group_state.specs.Controls.{ControlState, forgotten}
use Rattle.group_state.specs.Groups.{control_at}
use Rattle.group_state.specs.SoundStates.{is_dropped}
use Rattle.group_state.proofs.Kept.{keeps_then, keeps_forgotten, kept_call}
use Rattle.group_state.proofs.state.GroupState.forget.Goals as goal

pub invariant_of-self : goal.invariant_of-self
invariant_of-self c =
    let s = c.self.inside in
    let old = c.index_mut.result.now in
    kept_call (record { controls = s.controls.items; last = s.last }) c.args.self.now c.args.control c.forget.new.self old c.self.invariant c.self.view_is c.requires.control c.index_mut.ensures.value
    (λ (is : old ≡ control_at c.args.self.now c.args.control). keeps_then s.last c.forget.new.self (forgotten c.args.volume old) old c.forget.ensures (keeps_forgotten s.last c.args.volume old (ap (λ (x : ControlState). is_dropped c.args.volume x.volumes) is ∙ c.requires.dropped)))
