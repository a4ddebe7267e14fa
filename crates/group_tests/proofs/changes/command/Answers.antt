use Rattle.std.proofs.Common.{rules, ◌≡◌, List, Ok, sym, subst}
use Rattle.std.specs.Prelude.{IfOk, OnOk}
use Rattle.pair_table.specs.declared.row.PairRow.{PairRow}
use Rattle.pair_table.specs.Commands.{MayCommand, answer, table_after}
use Rattle.pair_table.specs.Tables.{AreRowsSound, Table}
use Rattle.group_state.specs.Groups.{Group}
use Rattle.xrc_session.specs.Taking.{MayTake, after_calls, calls_of_change}
use Rattle.group_tests.specs.Changes.{TakesChanges}
use Rattle.group_tests.proofs.TakenPairs.{command_taken, commanded_again}
use Rattle.group_tests.proofs.changes.command.Goals as goal

pub take_change-taken-requires-clause-may : goal.take_change-taken-requires-clause-may
take_change-taken-requires-clause-may g c =
    let pairs = c.args.pairs.now in
    let session = c.session-session.result in
    let command = c.args.command.now in
    let change = c.expect-change.result in
    let next = table_after pairs.names pairs.table session command c.args.at in
    let ok : c.command-answer.result ≡ Ok change = search rules in
    let is : answer pairs.names pairs.table session command ≡ Ok change = subst (λ r. IfOk r (λ made. answer pairs.names pairs.table session command ≡ Ok made)) ok c.command-answer.ensures.change in
    let after : c.command-answer.new.self ≡ next = subst (λ r. OnOk r (c.command-answer.new.self ≡ next)) ok c.command-answer.ensures.ok in
    let keeps : AreRowsSound next.rows = subst (λ (t : Table). AreRowsSound t.rows) after c.len.ensures.rules in
    let before : c.as_slice.result.now ≡ pairs.table.rows = search rules in
    subst (λ (rows : List PairRow). MayTake pairs.state change rows c.command-answer.new.self.rows) (sym before)
    (subst (λ (t : Table). MayTake pairs.state change pairs.table.rows t.rows) (sym after) (command_taken pairs.names pairs.table session command change c.args.at pairs.state c.requires is keeps))

pub returns : goal.returns
returns g c =
    let pairs = c.args.pairs.now in
    let session = c.session-session.result in
    let command = c.args.command.now in
    let change = c.expect-change.result in
    let next = table_after pairs.names pairs.table session command c.args.at in
    let made = c.command-answer.new.self in
    let ok : c.command-answer.result ≡ Ok change = search rules in
    let is : answer pairs.names pairs.table session command ≡ Ok change = subst (λ r. IfOk r (λ x. answer pairs.names pairs.table session command ≡ Ok x)) ok c.command-answer.ensures.change in
    let after : made ≡ next = subst (λ r. OnOk r (c.command-answer.new.self ≡ next)) ok c.command-answer.ensures.ok in
    let keeps : AreRowsSound next.rows = subst (λ (t : Table). AreRowsSound t.rows) after c.len.ensures.rules in
    let may : MayCommand pairs.names next.rows = subst (λ (t : Table). MayCommand pairs.names t.rows) after c.command-answer.ensures.again in
    let before : c.as_slice.result.now ≡ pairs.table.rows = search rules in
    let taken : c.take_change-taken.result ≡ Ok c.expect.result = search rules in
    let calls : c.take_change-taken.new.group ≡ after_calls (calls_of_change change pairs.state c.as_slice.result.now made.rows) pairs.state =
    subst (λ r. OnOk r (c.take_change-taken.new.group ≡ after_calls (calls_of_change change pairs.state c.as_slice.result.now made.rows) pairs.state)) taken c.take_change-taken.ensures.calls in
    subst (λ (s : Group). TakesChanges pairs.names made s) (sym calls)
    (subst (λ (rows : List PairRow). TakesChanges pairs.names made (after_calls (calls_of_change change pairs.state rows made.rows) pairs.state)) (sym before)
    (subst (λ (t : Table). TakesChanges pairs.names t (after_calls (calls_of_change change pairs.state pairs.table.rows t.rows) pairs.state)) (sym after) (commanded_again pairs.names pairs.table session command change c.args.at pairs.state c.requires is keeps may)))
