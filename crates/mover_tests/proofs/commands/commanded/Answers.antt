use Rattle.std.proofs.Common.{◌≡◌, List, Ok, Result, ap, sym, subst, ◌∙◌}
use Rattle.pair_table.specs.declared.row.PairRow.{PairRow}
use Rattle.pair_table.specs.Tables.{Table}
use Rattle.site_store.specs.Changing.{LogsChange}
use Rattle.site_store.specs.declared.store_error.StoreError.{StoreError}
use Rattle.mover.specs.declared.lane.Lane.{Lane}
use Rattle.xrc_session.specs.Taking.{MayTake}
use Rattle.mover_tests.specs.Courses.{AreUnbroken}
use Rattle.mover_tests.proofs.Commanding.{goes_after, may_log, may_take, there_after}
use Rattle.mover_tests.proofs.Homes.{then_ok}
use Rattle.mover_tests.proofs.commands.commanded.Goals as goal

pub log_change-requires-clause-may : goal.log_change-requires-clause-may
log_change-requires-clause-may g c κs within =
    let course = c.args.course in
    may_log g.P.Plant.tells course.names c.args.command.now c.answered-change.result c.args.at.0 course.lanes.items course.group course.site (g.P.Plant.state c.args.plant.now) c.requires.there c.requires.may c.answered-change.new.site c.answered-change.ensures

pub take_change-taken-requires-clause-may : goal.take_change-taken-requires-clause-may
take_change-taken-requires-clause-may g c =
    let course = c.args.course in
    let change = c.answered-change.result in
    let changed = c.answered-change.new.site in
    let next = c.log_change.new.self in
    let old = g.P.Plant.state c.args.plant.now in
    let before : c.as_slice-rows.result.now ≡ course.site.table.rows = c.as_slice-rows.ensures.value ∙ c.rows_of-before.ensures ∙ ap (λ (t : Table). t.rows) c.table.ensures.table in
    let after : c.table-2.result.now.rows ≡ next.table.rows = ap (λ (t : Table). t.rows) c.table-2.ensures.table in
    let logs : LogsChange c.args.at.0 change changed next old c.args.plant.now c.log_change.new.plant (Ok tt) = subst (λ (r : Result (Unit {0}) StoreError). LogsChange c.args.at.0 change changed next old c.args.plant.now c.log_change.new.plant r) c.expect.ensures c.log_change.ensures.ok in
    let whole : AreUnbroken course.lanes.items = subst (λ (l : List (Lane g.row.S.Denot)). AreUnbroken l) c.as_slice.ensures.value c.assert_whole.ensures in
    subst (λ (rows : List PairRow). MayTake course.group change rows c.table-2.result.now.rows) (sym before)
    (subst (λ (rows : List PairRow). MayTake course.group change course.site.table.rows rows) (sym after)
    (may_take g.P.Plant.tells course.names c.args.command.now change c.args.at.0 course.lanes.items course.group course.site old c.requires.there c.requires.may (g.P.Plant.state c.log_change.new.plant) changed next c.args.plant.now c.log_change.new.plant c.answered-change.ensures logs whole))

pub returns-clause-there : goal.returns-clause-there
returns-clause-there g c =
    let course = c.args.course in
    let change = c.answered-change.result in
    let changed = c.answered-change.new.site in
    let next = c.log_change.new.self in
    let old = g.P.Plant.state c.args.plant.now in
    let logs : LogsChange c.args.at.0 change changed next old c.args.plant.now c.log_change.new.plant (Ok tt) = subst (λ (r : Result (Unit {0}) StoreError). LogsChange c.args.at.0 change changed next old c.args.plant.now c.log_change.new.plant r) c.expect.ensures c.log_change.ensures.ok in
    there_after g.P.Plant.tells course.names c.args.command.now change c.args.at.0 course.lanes.items course.group course.site old c.requires.there c.requires.may (g.P.Plant.state c.log_change.new.plant) changed next c.args.plant.now c.log_change.new.plant c.answered-change.ensures logs
    c.take_change-taken.new.group c.as_slice-rows.result.now c.table-2.result.now.rows (c.as_slice-rows.ensures.value ∙ c.rows_of-before.ensures ∙ ap (λ (t : Table). t.rows) c.table.ensures.table) (ap (λ (t : Table). t.rows) c.table-2.ensures.table)
    (then_ok c.log_change.result c.expect.ensures c.log_change.ensures.leaves) c.log_change.ensures.failed.size c.log_change.ensures.others.site (then_ok c.take_change-taken.result c.expect-2.ensures c.take_change-taken.ensures.calls) (then_ok c.take_change-taken.result c.expect-2.ensures c.take_change-taken.ensures.kept)

pub returns-clause-may : goal.returns-clause-may
returns-clause-may g c =
    let course = c.args.course in
    let change = c.answered-change.result in
    let changed = c.answered-change.new.site in
    let next = c.log_change.new.self in
    let old = g.P.Plant.state c.args.plant.now in
    let logs : LogsChange c.args.at.0 change changed next old c.args.plant.now c.log_change.new.plant (Ok tt) = subst (λ (r : Result (Unit {0}) StoreError). LogsChange c.args.at.0 change changed next old c.args.plant.now c.log_change.new.plant r) c.expect.ensures c.log_change.ensures.ok in
    goes_after g.P.Plant.tells course.names c.args.command.now change c.args.at.0 course.lanes.items course.group course.site old c.requires.there c.requires.may (g.P.Plant.state c.log_change.new.plant) changed next c.args.plant.now c.log_change.new.plant c.answered-change.ensures logs
    c.take_change-taken.new.group c.as_slice-rows.result.now c.table-2.result.now.rows (c.as_slice-rows.ensures.value ∙ c.rows_of-before.ensures ∙ ap (λ (t : Table). t.rows) c.table.ensures.table) (ap (λ (t : Table). t.rows) c.table-2.ensures.table)
    (then_ok c.log_change.result c.expect.ensures c.log_change.ensures.leaves) c.log_change.ensures.failed.size c.log_change.ensures.others.site (then_ok c.take_change-taken.result c.expect-2.ensures c.take_change-taken.ensures.calls) (then_ok c.take_change-taken.result c.expect-2.ensures c.take_change-taken.ensures.kept)
