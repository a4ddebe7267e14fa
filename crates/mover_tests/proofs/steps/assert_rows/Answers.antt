use Rattle.std.proofs.Common.{rules, ◌≡◌, ◌<◌, ◌*◌, Option, take, sym, ap, subst, ◌∙◌, arith}
use Rattle.std.specs.List.{All}
use Rattle.std.specs.Option.{option_copied}
use Rattle.std.proofs.lemmas.List.{take_all}
use Rattle.site_store.specs.Logging.{IsOfSomeRow}
use Rattle.mover_tests.proofs.GroupEntries.{rows_more}
use Rattle.mover_tests.proofs.steps.assert_rows.Goals as goal

pub loop-place-preserved : goal.loop-place-preserved
loop-place-preserved g c =
    let row = c.expect-row.result.now in
    let low : c.head-head.result.track < row.cylinders * 15 = search rules in
    rows_more c.args.table.now.rows c.args.formed.now.entries c.loop-place.place c.head-head.result row c.head-head.ensures (ap (λ (o : Option _). option_copied o) (sym c.expect-row.ensures) ∙ c.row_of_entry.ensures) low c.loop-place.invariant

pub returns : goal.returns
returns g c =
    let entries = c.args.formed.now.entries in
    let all : take c.loop-place.place entries ≡ entries = take_all c.loop-place.place entries (omega (arith, c.loop-place-test.false, c.count-place-end.ensures)) in
    subst (All (IsOfSomeRow c.args.table.now.rows)) all c.loop-place.invariant
