use Rattle.std.proofs.Common.{◌≡◌, ◌+◌, drop, Some, slice_get, sym, ap, subst, ◌∙◌}
use Rattle.std.specs.List.{flat_map}
use Rattle.std.proofs.lemmas.Option.{get_or_from_slice_get, slice_get_within}
use Rattle.image_former.proofs.Lists.{item_there}
use Rattle.pair_table.specs.declared.row.PairState.{PairState}
use Rattle.pair_table.specs.States.{owes}
use Rattle.xrc_session.specs.Taking.{AllMay, after_calls, drop_call, drop_calls}
use Rattle.xrc_session.proofs.CallRuns.{next_leads, next_may}
use Rattle.xrc_session.proofs.taking.drop_suspended.Goals as goal

pub drop_row-requires : goal.drop_row-requires
drop_row-requires c =
    let row = c.row-item.result in
    let rows = c.args.table.now.rows in
    let i = c.loop-row.row-index in
    let found : slice_get rows i ≡ Some row = item_there c.rows-row-items.result.now rows i row c.rows-row-items.ensures.rows c.loop-row-test.true c.row-item.is in
    let next = next_may (drop_calls c.args.change.now c.args.before.now) rows i row c.loop-row.group (slice_get_within rows i row found) (get_or_from_slice_get rows i row row found) c.loop-row.invariant.may in
    record { may = subst (λ (was : PairState). AllMay (drop_call row (owes was row.state)) c.loop-row.group) (sym c.state_by_command-was.ensures) next.may }

pub loop-row-preserved : goal.loop-row-preserved
loop-row-preserved c =
    let row = c.row-item.result in
    let rows = c.args.table.now.rows in
    let i = c.loop-row.row-index in
    let calls = drop_calls c.args.change.now c.args.before.now in
    let found : slice_get rows i ≡ Some row = item_there c.rows-row-items.result.now rows i row c.rows-row-items.ensures.rows c.loop-row-test.true c.row-item.is in
    let low = slice_get_within rows i row found in
    let is = get_or_from_slice_get rows i row row found in
    let next = next_may calls rows i row c.loop-row.group low is c.loop-row.invariant.may in
    let reached : c.drop_row.new.group ≡ after_calls (calls row) c.loop-row.group =
    c.drop_row.ensures.calls ∙ ap (λ (was : PairState). after_calls (drop_call row (owes was row.state)) c.loop-row.group) c.state_by_command-was.ensures in
    record {
      may = subst (AllMay (flat_map calls (drop (i + 1) rows))) (sym reached) next.later;
      leads = ap (after_calls (flat_map calls (drop (i + 1) rows))) reached ∙ next_leads calls rows i row c.loop-row.group low is ∙ c.loop-row.invariant.leads;
    }
