use Rattle.std.proofs.Common.{rules, ◌≡◌, true, List, Ok, sym, subst}
use Rattle.std.specs.Prelude.{OnOk}
use Rattle.pair_table.specs.declared.command.Change.TheVariants.{Nothing}
use Rattle.pair_table.specs.declared.row.PairRow.{PairRow}
use Rattle.pair_table.specs.Tables.{Table}
use Rattle.group_state.specs.Groups.{Group}
use Rattle.xrc_session.specs.Taking.{MayTake, after_calls, calls_of_change}
use Rattle.group_tests.specs.Changes.{TakesChanges, are_live}
use Rattle.group_tests.proofs.TakenPairs.{failed_again, failure_taken}
use Rattle.group_tests.proofs.changes.fail.Goals as goal

pub take_change-taken-requires-clause-may : goal.take_change-taken-requires-clause-may
take_change-taken-requires-clause-may g c =
    let pairs = c.args.pairs.now in
    let first : c.as_slice.result.now ≡ pairs.table.rows = search rules in
    let before : c.as_slice-2.result.now ≡ pairs.table.rows = search rules in
    let checked : are_live c.as_slice.result.now ≡ true = search rules in
    let live : are_live pairs.table.rows ≡ true = subst (λ (rows : List PairRow). are_live rows ≡ true) first checked in
    subst (λ (rows : List PairRow). MayTake pairs.state Nothing rows c.set_state.new.self.rows) (sym before)
    (subst (λ (t : Table). MayTake pairs.state Nothing pairs.table.rows t.rows) (sym c.set_state.ensures) (failure_taken pairs.names pairs.table 0 c.args.at pairs.state c.requires live))

pub returns : goal.returns
returns g c =
    let pairs = c.args.pairs.now in
    let next = c.set_state.new.self in
    let first : c.as_slice.result.now ≡ pairs.table.rows = search rules in
    let before : c.as_slice-2.result.now ≡ pairs.table.rows = search rules in
    let checked : are_live c.as_slice.result.now ≡ true = search rules in
    let live : are_live pairs.table.rows ≡ true = subst (λ (rows : List PairRow). are_live rows ≡ true) first checked in
    let ok : c.take_change-taken.result ≡ Ok c.expect.result = search rules in
    let calls : c.take_change-taken.new.group ≡ after_calls (calls_of_change Nothing pairs.state c.as_slice-2.result.now next.rows) pairs.state =
    subst (λ r. OnOk r (c.take_change-taken.new.group ≡ after_calls (calls_of_change Nothing pairs.state c.as_slice-2.result.now next.rows) pairs.state)) ok c.take_change-taken.ensures.calls in
    subst (λ (s : Group). TakesChanges pairs.names next s) (sym calls)
    (subst (λ (rows : List PairRow). TakesChanges pairs.names next (after_calls (calls_of_change Nothing pairs.state rows next.rows) pairs.state)) (sym before)
    (subst (λ (t : Table). TakesChanges pairs.names t (after_calls (calls_of_change Nothing pairs.state pairs.table.rows t.rows) pairs.state)) (sym c.set_state.ensures) (failed_again pairs.names pairs.table 0 c.args.at pairs.state c.requires live)))
