use Rattle.std.proofs.Common.{◌≡◌, ap, ◌∙◌}
use Rattle.group_state.specs.Controls.{ControlState, resumed}
use Rattle.group_state.specs.Groups.{control_at}
use Rattle.group_state.specs.SoundStates.{is_dropped}
use Rattle.group_state.proofs.Kept.{keeps_then, keeps_resumed, kept_call}
use Rattle.group_state.proofs.state.GroupState.resume.Goals as goal

pub invariant_of-self : goal.invariant_of-self
invariant_of-self c =
    let s = c.self.inside in
    let old = c.index_mut.result.now in
    kept_call (record { controls = s.controls.items; last = s.last }) c.args.self.now c.args.control c.resume.new.self old c.self.invariant c.self.view_is c.requires.control c.index_mut.ensures.value
    (λ (is : old ≡ control_at c.args.self.now c.args.control). keeps_then s.last c.resume.new.self (resumed c.args.volume old) old c.resume.ensures.volume (keeps_resumed s.last c.args.volume old (ap (λ (x : ControlState). is_dropped c.args.volume x.volumes) is ∙ c.requires.dropped)))
