use Rattle.std.proofs.Common.{sym, subst}
use Rattle.group_state.specs.Controls.{ControlState}
use Rattle.group_state.specs.SoundStates.{MayReport}
use Rattle.group_state.proofs.Numbers.{volumes_raised}
use Rattle.group_state.proofs.control.Control.raise.Goals as goal

pub invariant_of-self : goal.invariant_of-self
invariant_of-self c = volumes_raised c.args.upto _ c.self.invariant (subst (λ (s : ControlState). MayReport s c.args.upto) (sym c.self.view_is) c.requires.legal)
