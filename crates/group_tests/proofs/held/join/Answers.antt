use Rattle.std.proofs.Common.{ap, sym, subst}
use Rattle.tod_stamp.specs.declared.stamp.Stamp.{Stamp}
use Rattle.group_state.specs.Groups.{Group, control_at}
use Rattle.group_state.specs.SoundStates.{MayJoin}
use Rattle.group_tests.specs.ReadyStates.{CarriesFirst}
use Rattle.group_tests.proofs.Ready.{may_join, ready_joined}
use Rattle.group_tests.proofs.held.join.Goals as goal

pub join-requires-clause-legal : goal.join-requires-clause-legal
join-requires-clause-legal g c =
    let b = c.longest_updates.result in
    let state = c.args.state.now in
    let ready = c.requires.ready in
    subst (λ k. MayJoin (control_at state k) b) (sym c.longest_updates.ensures.control)
    (may_join c.args.before c.args.at (control_at state 0) b ready.reporting ready.told c.requires.later ready.within (ap (λ (t : Stamp). t.0) c.longest_updates.ensures.upto) c.longest_updates.ensures.first)

pub returns-in-Joined : goal.returns-in-Joined
returns-in-Joined g c =
    let b = c.longest_updates.result in
    subst (λ (s : Group). CarriesFirst c.args.at s) (sym c.join.ensures.step.1)
    (ready_joined c.args.before c.args.at c.args.state.now b c.requires.ready c.requires.later c.longest_updates.ensures.control (ap (λ (t : Stamp). t.0) c.longest_updates.ensures.upto))

pub returns-in-Held : goal.returns-in-Held
returns-in-Held g c =
    let b = c.longest_updates.result in
    subst (λ (s : Group). CarriesFirst c.args.at s) (sym c.join.ensures.step.1)
    (ready_joined c.args.before c.args.at c.args.state.now b c.requires.ready c.requires.later c.longest_updates.ensures.control (ap (λ (t : Stamp). t.0) c.longest_updates.ensures.upto))
