use Rattle.std.proofs.Common.{sym, ap, subst, ◌∙◌}
use Rattle.std.specs.List.{flat_map}
use Rattle.group_state.specs.Groups.{Group}
use Rattle.xrc_session.specs.Taking.{AllMay, IsSoundForRows, after_calls, command_calls, drop_calls}
use Rattle.xrc_session.proofs.CallRuns.{after_both, first_may, second_may}
use Rattle.xrc_session.proofs.Changed.{taken}
use Rattle.xrc_session.proofs.taking.take_change.Goals as goal

pub take_command-requires : goal.take_command-requires
take_command-requires c =
    let change = c.args.change.now in
    let before = c.args.before.now in
    let after = c.args.table.now.rows in
    let walk = taken c.args.group.now change before after c.requires.kept c.requires.may in
    record { may = first_may (command_calls change c.args.group.now before after) (flat_map (drop_calls change before) after) c.args.group.now walk.may }

pub drop_suspended-requires : goal.drop_suspended-requires
drop_suspended-requires c =
    let change = c.args.change.now in
    let before = c.args.before.now in
    let after = c.args.table.now.rows in
    let drops = flat_map (drop_calls change before) after in
    let walk = taken c.args.group.now change before after c.requires.kept c.requires.may in
    record { may = subst (AllMay drops) (sym c.in_ok-tracks.ensures.calls) (second_may (command_calls change c.args.group.now before after) drops c.args.group.now walk.may) }

pub returns-clause-calls : goal.returns-clause-calls
returns-clause-calls c =
    let change = c.args.change.now in
    let before = c.args.before.now in
    let after = c.args.table.now.rows in
    let drops = flat_map (drop_calls change before) after in
    c.drop_suspended.ensures.calls ∙ ap (after_calls drops) c.in_ok-tracks.ensures.calls ∙ sym (after_both (command_calls change c.args.group.now before after) drops c.args.group.now)

pub returns-clause-kept : goal.returns-clause-kept
returns-clause-kept c =
    subst (λ (s : Group). IsSoundForRows s c.args.table.now.rows) (sym (returns-clause-calls c)) (taken c.args.group.now c.args.change.now c.args.before.now c.args.table.now.rows c.requires.kept c.requires.may).ends
