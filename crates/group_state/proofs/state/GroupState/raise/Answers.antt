use Rattle.std.proofs.Common.{◌≡◌, sym, subst}
use Rattle.group_state.specs.Controls.{ControlState, raised}
use Rattle.group_state.specs.Groups.{control_at}
use Rattle.group_state.specs.SoundStates.{MayReport}
use Rattle.group_state.proofs.Kept.{keeps_then, keeps_raised, kept_call}
use Rattle.group_state.proofs.state.GroupState.raise.Goals as goal

pub invariant_of-self : goal.invariant_of-self
invariant_of-self c =
    let s = c.self.inside in
    let old = c.index_mut.result.now in
    kept_call (record { controls = s.controls.items; last = s.last }) c.args.self.now c.args.control c.raise.new.self old c.self.invariant c.self.view_is c.requires.control c.index_mut.ensures.value
    (λ (is : old ≡ control_at c.args.self.now c.args.control). keeps_then s.last c.raise.new.self (raised c.args.upto old) old c.raise.ensures (keeps_raised s.last c.args.upto old (subst (λ (x : ControlState). MayReport x c.args.upto) (sym is) c.requires.legal)))
