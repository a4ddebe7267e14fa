use Rattle.std.proofs.Common.{rules, arith, ◌≡◌, ℕ, ◌+◌, suc, List, [], ◌∷◌, ◌++◌, Some, take, slice_get, ap, ◌∙◌}
use Rattle.pair_table.specs.declared.row.PairRow.{PairRow}
use Rattle.mover_tests.proofs.Commanding.{taken_next}
use Rattle.mover_tests.proofs.commands.rows_of.Goals as goal

pub loop-place-preserved : goal.loop-place-preserved
loop-place-preserved g c =
    let rows = c.args.table.now.rows in
    let place = c.loop-place.place in
    let row = c.expect-row.result.now in
    let pushed : c.push.new.self.items ≡ c.loop-place.rows.items ++ row ∷ [] = search rules in
    let at : slice_get rows place ≡ Some row = search rules in
    let next : suc place ≡ place + 1 = omega arith in
    pushed ∙ ap (λ (first : List PairRow). first ++ row ∷ []) c.loop-place.invariant ∙ taken_next rows place row at ∙ ap (λ (n : ℕ). take n rows) next
