use Rattle.std.proofs.Common.{rules, ◌≡◌, List, length, replicate, ap, subst, sym, ◌∙◌}
use Rattle.std.specs.List.{list_all}
use Rattle.mover.specs.declared.lane.Lane.{Lane}
use Rattle.pair_table.specs.Rows.{is_row}
use Rattle.pair_table.specs.Tables.{Table}
use Rattle.mover_tests.specs.Courses.{AreUnbroken}
use Rattle.mover_tests.specs.Steps.{HaveControlsReported}
use Rattle.mover_tests.proofs.Stepping.{told_at}
use Rattle.mover_tests.proofs.steps.stepping.Goals as goal

pub returns-clause-told : goal.returns-clause-told
returns-clause-told g c =
    let course = c.args.course in
    let at = c.args.at.0 in
    let items : c.expect-told.result.items ≡ replicate (length course.group.controls) at = search rules in
    let whole : AreUnbroken course.lanes.items = subst (λ (l : List (Lane g.row.S.Denot)). AreUnbroken l) c.as_slice.ensures.value c.assert_whole.ensures in
    subst (λ (told : List _). HaveControlsReported told at course.group) (sym items)
    (told_at g.P.Plant.tells at course.names course.lanes.items course.group course.site (g.P.Plant.state c.args.plant.now) c.requires.there c.requires.may whole (ap (λ (t : Table). list_all is_row t.rows) (sym c.table.ensures.table) ∙ c.len.ensures.rules.each))
