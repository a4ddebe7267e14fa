use Rattle.std.proofs.Common.{◌≡◌, ℕ, true, false, None, ap, subst, ◌∙◌}
use Rattle.std.specs.Prelude.{IfSome, ◌↔◌}
use Rattle.group_state.specs.Volumes.{is_wanted, next_wanted}
use Rattle.group_state.specs.Controls.{ControlState}
use Rattle.group_state.proofs.WantedLaws.{answer_wanted, answer_none}
use Rattle.group_state.proofs.control.Control.next_wanted.Goals as goal

pub returns-clause-wanted : goal.returns-clause-wanted
returns-clause-wanted c =
    let r = c.next_wanted.result in
    let items = c.self.inside.volumes.items in
    subst (λ (v : ControlState). IfSome r (λ p. is_wanted p.0 p.1 v.volumes ≡ true)) c.self.view_is
    (answer_wanted items c.self.invariant.sound.distinct r (c.next_wanted.ensures ∙ ap next_wanted c.as_slice.ensures.value))

pub returns-clause-none : goal.returns-clause-none
returns-clause-none c =
    let r = c.next_wanted.result in
    let items = c.self.inside.volumes.items in
    subst (λ (v : ControlState). (r ≡ None) ↔ ((w x : ℕ) → is_wanted w x v.volumes ≡ false)) c.self.view_is
    (answer_none items c.self.invariant.sound.distinct r (c.next_wanted.ensures ∙ ap next_wanted c.as_slice.ensures.value))
