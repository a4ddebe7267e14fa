use Rattle.std.proofs.Common.{rules, ◌≡◌, ◌≤◌, sym, subst, ◌∙◌}
use Rattle.mover_tests.specs.Courses.{AreOpened}
use Rattle.mover_tests.proofs.Going.{may_begin}
use Rattle.mover_tests.proofs.courses.begun.Goals as goal

pub returns-clause-may : goal.returns-clause-may
returns-clause-may g c =
    let n = c.len-controls.result in
    let names = c.label_volumes.new.names in
    let primaries : names.primaries ≡ c.args.lanes.named.items = c.label_volumes.ensures.primaries ∙ c.names_of-names.ensures.primaries ∙ c.as_slice.ensures.value in
    may_begin g.P.Plant.tells n 32 3552 c.session.result c.args.level c.args.at names c.args.lanes.all.items (g.P.Plant.state c.args.plant.now) (g.P.Plant.state c.format-made.new.plant) c.format-made.ensures.others.site c.label_volumes.ensures.labels
    (search rules) (search rules) (search rules) (search rules) (subst (AreOpened c.args.lanes.all.items) (sym primaries) c.requires.opened)
    c.make.result c.expect-group.result c.format-made.result c.expect-site.result c.expect-group.ensures c.expect-site.ensures c.make.ensures c.format-made.ensures.ok c.format-made.ensures.fits c.format-made.ensures.stands
