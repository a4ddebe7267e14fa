use Rattle.std.proofs.Common.{rules, ◌≡◌, Some, length, map, take, sym, ap, ◌∙◌, arith}
use Rattle.std.specs.Prelude.{slice_get}
use Rattle.std.specs.List.{list_any}
use Rattle.std.proofs.lemmas.List.{take_all}
use Rattle.image_former.proofs.Lists.{any_more, item_there}
use Rattle.record_rows.specs.Hits.{is_hit_now}
use Rattle.site_store.specs.Jobs.{has_job_failed}
use Rattle.site_store.proofs.HitRows.{any_at, any_hit, row_below}
use Rattle.site_store.proofs.hits.is_any_hit.Goals as goal

pub is_hit-requires : goal.is_hit-requires
is_hit-requires g c =
    let rows = c.args.table.now.rows in
    let i = c.loop-row.row-index in
    row_below (length c.args.jobs.now) rows i c.row-item.result c.requires (item_there c.rows-row-items.result.now rows i c.row-item.result c.rows-row-items.ensures.rows c.loop-row-test.true c.row-item.is)

pub returns-then-is_hit : goal.returns-then-is_hit
returns-then-is_hit g c =
    let rows = c.args.table.now.rows in
    let i = c.loop-row.row-index in
    let failed = map has_job_failed c.args.jobs.now in
    let there : slice_get rows i ≡ Some c.row-item.result = item_there c.rows-row-items.result.now rows i c.row-item.result c.rows-row-items.ensures.rows c.loop-row-test.true c.row-item.is in
    sym (any_at (is_hit_now failed) rows i c.row-item.result there (sym c.is_hit.ensures ∙ c.if-is_hit.true)) ∙ any_hit failed rows

pub loop-row-preserved : goal.loop-row-preserved
loop-row-preserved g c =
    let rows = c.args.table.now.rows in
    let i = c.loop-row.row-index in
    let there : slice_get rows i ≡ Some c.row-item.result = item_there c.rows-row-items.result.now rows i c.row-item.result c.rows-row-items.ensures.rows c.loop-row-test.true c.row-item.is in
    any_more (is_hit_now (map has_job_failed c.args.jobs.now)) rows i c.row-item.result there ∙ search (rules, c.loop-row.invariant, c.is_hit.ensures, c.if-is_hit.false)

pub returns : goal.returns
returns g c =
    let rows = c.args.table.now.rows in
    let failed = map has_job_failed c.args.jobs.now in
    let all : take c.loop-row.row-index rows ≡ rows = take_all c.loop-row.row-index rows (omega (arith, c.loop-row-test.false, ap length c.rows-row-items.ensures.rows)) in
    sym (ap (list_any (is_hit_now failed)) (sym all) ∙ c.loop-row.invariant) ∙ any_hit failed rows
