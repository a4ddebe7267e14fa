use Rattle.std.proofs.Common.{◌≡◌, ℕ, false, length, None, ap, subst, ◌∙◌, arith}
use Rattle.std.specs.Prelude.{◌↔◌}
use Rattle.std.proofs.lemmas.List.{get_or_default}
use Rattle.group_state.specs.Volumes.{is_wanted}
use Rattle.group_state.specs.Controls.{ControlState, new_control}
use Rattle.group_state.specs.Groups.{Group, control_at}
use Rattle.group_state.proofs.state.GroupState.next_wanted.Goals as goal

pub returns-clause-none : goal.returns-clause-none
returns-clause-none c =
    let k = c.args.control in
    let items = c.self.inside.controls.items in
    let found = c.index.result.now in
    let at : found ≡ control_at c.args.self.now k =
    c.index.ensures ∙ get_or_default items k found (new_control 0 0 0) (omega (arith, ap (λ (g : Group). length g.controls) c.self.view_is, c.requires.control))
    ∙ ap (λ (g : Group). control_at g k) c.self.view_is in
    subst (λ (v : ControlState). (c.next_wanted.result ≡ None) ↔ ((w x : ℕ) → is_wanted w x v.volumes ≡ false)) at c.next_wanted.ensures.none
