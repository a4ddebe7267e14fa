use Rattle.std.proofs.Common.{◌≡◌, sym, subst}
use Rattle.group_state.specs.Controls.{ControlState, joined}
use Rattle.group_state.specs.Groups.{control_at}
use Rattle.group_state.specs.SoundStates.{MayJoin}
use Rattle.group_state.proofs.Kept.{keeps_result, keeps_joined, kept_call}
use Rattle.group_state.proofs.state.GroupState.join_ref.Goals as goal

pub invariant_of-self : goal.invariant_of-self
invariant_of-self c =
    let s = c.self.inside in
    let old = c.index_mut.result.now in
    kept_call (record { controls = s.controls.items; last = s.last }) c.args.self.now c.args.batch.now.control c.join.new.self old c.self.invariant c.self.view_is c.requires.control c.index_mut.ensures.value
    (λ (is : old ≡ control_at c.args.self.now c.args.batch.now.control). keeps_result s.last c.join.result c.join.new.self (joined c.args.batch.now old) old c.join.ensures.joined c.join.ensures.refused (keeps_joined s.last c.args.batch.now old (subst (λ (x : ControlState). MayJoin x c.args.batch.now) (sym is) c.requires.legal)))
