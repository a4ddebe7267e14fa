use Rattle.std.proofs.Common.{List, [], ◌∷◌, ◌++◌, ap, sym, subst, ◌∙◌, arith}
use Rattle.group_state.specs.Controls.{ControlState, new_control}
use Rattle.group_state.specs.Groups.{new_controls}
use Rattle.group_state.specs.SoundStates.{IsGroupSound}
use Rattle.group_state.proofs.GroupLaws.{new_more}
use Rattle.group_state.proofs.Kept.{kept_first}
use Rattle.group_state.proofs.state.GroupState.make.Goals as goal

pub loop-k-preserved : goal.loop-k-preserved
loop-k-preserved c =
    let k = c.loop-k.k in
    c.in_ok-push.ensures.items ∙ ap (λ (cs : List ControlState). cs ++ c.in_ok-make.field-0 ∷ []) c.loop-k.invariant
    ∙ ap (λ (x : ControlState). new_controls k 0 c.args.records c.args.blocks ++ x ∷ []) (c.in_ok-make.ensures ∙ ap (λ n. new_control n c.args.records c.args.blocks) (omega arith))
    ∙ sym (new_more k 0 c.args.records c.args.blocks)

pub invariant_of-result : goal.invariant_of-result
invariant_of-result c =
    let k = c.loop-k.k in
    subst (λ (cs : List ControlState). IsGroupSound (record { controls = cs; last = record { 0 = 0 } })) (sym c.loop-k.invariant) (kept_first k c.args.records c.args.blocks (omega (arith, c.requires.some)) (omega (arith, c.requires.few)) c.requires.records)
