use Rattle.std.proofs.Common.{◌≡◌, ap, sym, ◌∙◌}
use Rattle.group_state.specs.Volumes.{is_wanted}
use Rattle.group_state.specs.Controls.{ControlState, copied}
use Rattle.group_state.specs.Groups.{control_at}
use Rattle.group_state.specs.SoundStates.{is_track_within}
use Rattle.group_state.proofs.Kept.{keeps_result, keeps_copied, control_here, kept_call}
use Rattle.group_state.proofs.state.GroupState.copied.Goals as goal

pub invariant_of-self : goal.invariant_of-self
invariant_of-self c =
    let s = c.self.inside in
    let old = c.index_mut.result.now in
    let there = control_here (record { controls = s.controls.items; last = s.last }) c.args.self.now c.args.control c.index.result.now c.self.view_is c.requires.control c.index.ensures in
    kept_call (record { controls = s.controls.items; last = s.last }) c.args.self.now c.args.control c.copied.new.self old c.self.invariant c.self.view_is c.requires.control c.index_mut.ensures.value
    (λ (is : old ≡ control_at c.args.self.now c.args.control). keeps_result s.last c.copied.result c.copied.new.self (copied c.args.volume c.args.track c.args.at c.args.slot.now old) old c.copied.ensures.joined c.copied.ensures.refused (keeps_copied s.last c.args.volume c.args.track c.args.at c.args.slot.now old (c.requires.floor ∙ ap (λ (x : ControlState). x.floor) (sym is)) (ap (λ (x : ControlState). is_wanted c.args.volume c.args.track x.volumes) (is ∙ sym there) ∙ sym c.wants.ensures ∙ c.if-not-wants.false) (ap (λ (x : ControlState). is_track_within x.volumes c.args.volume c.args.track) is ∙ c.requires.track)))
