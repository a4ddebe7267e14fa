use Rattle.std.proofs.Common.{◌≡◌, sym, subst}
use Rattle.group_state.specs.Controls.{ControlState, broke}
use Rattle.group_state.specs.Groups.{control_at}
use Rattle.group_state.specs.SoundStates.{MayReport}
use Rattle.group_state.proofs.Kept.{keeps_then, keeps_broke, kept_call}
use Rattle.group_state.proofs.state.GroupState.broken.Goals as goal

pub invariant_of-self : goal.invariant_of-self
invariant_of-self c =
    let s = c.self.inside in
    let old = c.index_mut.result.now in
    kept_call (record { controls = s.controls.items; last = s.last }) c.args.self.now c.args.control c.broken.new.self old c.self.invariant c.self.view_is c.requires.control c.index_mut.ensures.value
    (λ (is : old ≡ control_at c.args.self.now c.args.control). keeps_then s.last c.broken.new.self (broke c.args.upto c.args.cause old) old c.broken.ensures (keeps_broke s.last c.args.upto c.args.cause old (subst (λ (x : ControlState). MayReport x c.args.upto) (sym is) c.requires.legal)))
