use Rattle.std.proofs.Common.{◌≡◌, sym, subst}
use Rattle.group_state.specs.Controls.{ControlState, begun_volume}
use Rattle.group_state.specs.Groups.{control_at}
use Rattle.group_state.specs.SoundStates.{MayCarry}
use Rattle.group_state.proofs.Kept.{keeps_result, keeps_begun, kept_call}
use Rattle.group_state.proofs.state.GroupState.carry.Goals as goal

pub invariant_of-self : goal.invariant_of-self
invariant_of-self c =
    let s = c.self.inside in
    let old = c.index_mut.result.now in
    kept_call (record { controls = s.controls.items; last = s.last }) c.args.self.now c.args.control c.carry.new.self old c.self.invariant c.self.view_is c.requires.control c.index_mut.ensures.value
    (λ (is : old ≡ control_at c.args.self.now c.args.control). keeps_result s.last c.carry.result c.carry.new.self (begun_volume c.args.volume c.args.plan old) old c.carry.ensures.ok c.carry.ensures.err (keeps_begun s.last c.args.volume c.args.plan old (subst (λ (x : ControlState). MayCarry x c.args.volume c.args.plan) (sym is) c.requires.may)))
