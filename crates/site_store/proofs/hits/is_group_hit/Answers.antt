use Rattle.std.proofs.Common.{rules, ◌≡◌, Some, length, take, sym, ap, ◌∙◌, arith}
use Rattle.std.specs.Prelude.{slice_get}
use Rattle.std.specs.List.{list_any}
use Rattle.std.proofs.lemmas.List.{take_all}
use Rattle.image_former.proofs.Lists.{any_more, item_there}
use Rattle.site_store.specs.Hits.{is_hit_in_group}
use Rattle.site_store.proofs.HitRows.{any_at, row_below}
use Rattle.site_store.proofs.hits.is_group_hit.Goals as goal

pub is_hit_in_group-requires : goal.is_hit_in_group-requires
is_hit_in_group-requires c =
    let rows = c.args.table.now.rows in
    let i = c.loop-row.row-index in
    row_below 64 rows i c.row-item.result c.requires (item_there c.rows-row-items.result.now rows i c.row-item.result c.rows-row-items.ensures.rows c.loop-row-test.true c.row-item.is)

pub returns-then-is_hit_in_group : goal.returns-then-is_hit_in_group
returns-then-is_hit_in_group c =
    let rows = c.args.table.now.rows in
    let i = c.loop-row.row-index in
    let there : slice_get rows i ≡ Some c.row-item.result = item_there c.rows-row-items.result.now rows i c.row-item.result c.rows-row-items.ensures.rows c.loop-row-test.true c.row-item.is in
    sym (any_at (is_hit_in_group c.args.hit.now c.args.like.now.group) rows i c.row-item.result there (sym c.is_hit_in_group.ensures ∙ c.if-is_hit_in_group.true))

pub loop-row-preserved : goal.loop-row-preserved
loop-row-preserved c =
    let rows = c.args.table.now.rows in
    let i = c.loop-row.row-index in
    let there : slice_get rows i ≡ Some c.row-item.result = item_there c.rows-row-items.result.now rows i c.row-item.result c.rows-row-items.ensures.rows c.loop-row-test.true c.row-item.is in
    any_more (is_hit_in_group c.args.hit.now c.args.like.now.group) rows i c.row-item.result there ∙ search (rules, c.loop-row.invariant, c.is_hit_in_group.ensures, c.if-is_hit_in_group.false)

pub returns : goal.returns
returns c =
    let rows = c.args.table.now.rows in
    let all : take c.loop-row.row-index rows ≡ rows = take_all c.loop-row.row-index rows (omega (arith, c.loop-row-test.false, ap length c.rows-row-items.ensures.rows)) in
    sym (ap (list_any (is_hit_in_group c.args.hit.now c.args.like.now.group)) (sym all) ∙ c.loop-row.invariant)
