use Rattle.std.proofs.Common.{ℕ, Option, ap, ◌∙◌, subst}
use Rattle.site_means.specs.Walk.{body_place}
use Rattle.site_means.specs.declared.walking.Walking.{Walking}
use Rattle.pair_table.specs.Tables.{are_below}
use Rattle.site_means.specs.Steps.{TakesRows}
use Rattle.site_means.proofs.Finishing.{group_moves}
use Rattle.site_means.proofs.walking.Walking.pass_group.Goals as goal

pub returns-in-Ok-None-clause-passes : goal.returns-in-Ok-None-clause-passes
returns-in-Ok-None-clause-passes c = λ places.
    let old = c.args.self.now in
    let items = c.args.body.now.items in
    let taken = subst (λ (b : Option ℕ). TakesRows c.args.volumes (body_place old.at) items b old.table c.take_rows.new.self.table) c.in-Ok-None.field-0-is (c.in-Ok-None.ensures.rows c.requires.below places) in
    group_moves c.args.volumes c.args.time c.args.after items old c.take_rows.new.self c.move_on.new.self c.take_rows.ensures.rest taken c.move_on.ensures

pub returns-in-Ok-None-clause-below : goal.returns-in-Ok-None-clause-below
returns-in-Ok-None-clause-below c = ap (λ (w : Walking). are_below c.args.volumes w.table.rows) c.move_on.ensures ∙ c.in-Ok-None.ensures.below c.requires.below c.in-Ok-None.field-0-is
