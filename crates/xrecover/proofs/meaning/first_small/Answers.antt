use Rattle.std.proofs.Common.{◌≡◌, ◌+◌, suc, Some, ℕ, drop, sym, ap, ◌∙◌, arith}
use Rattle.std.specs.Prelude.{slice_get}
use Rattle.std.specs.Option.{option_copied}
use Rattle.xrecover.specs.Pairs.{first_small}
use Rattle.xrecover.proofs.Rows.{below_at, small_here, small_next}
use Rattle.xrecover.proofs.meaning.first_small.Goals as goal

pub is_small-requires-clause-there : goal.is_small-requires-clause-there
is_small-requires-clause-there g c κs within =
    let row = c.unwrap.result.now in
    let is : slice_get c.args.table.now.rows c.loop-place.place ≡ Some row = sym c.row.ensures.row ∙ ap option_copied c.unwrap.ensures in
    below_at (g.P.Plant.state c.args.plant.now).volumes c.args.table.now.rows c.loop-place.place row c.requires.below is

pub returns-then-is_small : goal.returns-then-is_small
returns-then-is_small g c =
    let plant = g.P.Plant.state c.args.plant.now in
    let row = c.unwrap.result.now in
    let is : slice_get c.args.table.now.rows c.loop-place.place ≡ Some row = sym c.row.ensures.row ∙ ap option_copied c.unwrap.ensures in
    sym (c.loop-place.invariant ∙ small_here plant c.args.table.now.rows c.loop-place.place row is (sym c.is_small.ensures ∙ c.if-is_small.true))

pub loop-place-preserved : goal.loop-place-preserved
loop-place-preserved g c =
    let plant = g.P.Plant.state c.args.plant.now in
    let row = c.unwrap.result.now in
    let next : suc c.loop-place.place ≡ c.loop-place.place + 1 = omega arith in
    let is : slice_get c.args.table.now.rows c.loop-place.place ≡ Some row = sym c.row.ensures.row ∙ ap option_copied c.unwrap.ensures in
    c.loop-place.invariant ∙ small_next plant c.args.table.now.rows c.loop-place.place row is (sym c.is_small.ensures ∙ c.if-is_small.false) ∙ ap (λ (n : ℕ). first_small plant (drop n c.args.table.now.rows)) next
