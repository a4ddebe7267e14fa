use Rattle.std.proofs.Common.{ℕ, None, ap, sym, ◌∙◌, Option, subst, arith}
use Rattle.site_means.specs.Walk.{body_place}
use Rattle.site_means.specs.Steps.{TakesRows}
use Rattle.site_means.proofs.Goes.{below_through}
use Rattle.pair_table.specs.Tables.{Table, are_below}
use Rattle.site_means.proofs.Taking.{takes_none, takes_some, place_fits}
use Rattle.site_means.proofs.walking.Walking.take_rows.Goals as goal

pub returns-in-None-clause-rows : goal.returns-in-None-clause-rows
returns-in-None-clause-rows c = λ below places. takes_none c.args.volumes (body_place c.args.self.now.at) c.args.body.now.items c.args.self.now.table c.take_rows.new.table (subst (λ (b : Option ℕ). TakesRows c.args.volumes 0 c.args.body.now.items b c.args.self.now.table c.take_rows.new.table) c.in-None.is (c.in_ok-take_rows.ensures.rows below))

pub returns-in-Some-clause-rows : goal.returns-in-Some-clause-rows
returns-in-Some-clause-rows c = λ below places.
    let taken = subst (λ (b : Option ℕ). TakesRows c.args.volumes 0 c.args.body.now.items b c.args.self.now.table c.take_rows.new.table) c.in-Some.is (c.in_ok-take_rows.ensures.rows below) in
    let fits = place_fits c.args.volumes c.in-Some.offset c.args.self.now.at c.args.body.now.items c.args.self.now.table c.take_rows.new.table taken (places c.take_rows.ensures.items) in
    takes_some c.args.volumes (body_place c.args.self.now.at) c.args.body.now.items c.args.self.now.table c.take_rows.new.table c.in-Some.offset c.saturating_add-in-Some.result (omega (arith, fits, c.saturating_add.ensures, c.saturating_add-in-Some.ensures)) taken

pub returns-in-None-clause-below : goal.returns-in-None-clause-below
returns-in-None-clause-below c = λ below none.
    let items = c.args.body.now.items in
    let old = c.args.self.now.table in
    let taken = subst (λ (b : Option ℕ). TakesRows c.args.volumes 0 items b old c.take_rows.new.table) c.in-None.is (c.in_ok-take_rows.ensures.rows below) in
    ap (λ (t : Table). are_below c.args.volumes t.rows) (taken.1 (λ i. None)) ∙ below_through c.args.volumes 0 old.rows items below (sym taken.0)
