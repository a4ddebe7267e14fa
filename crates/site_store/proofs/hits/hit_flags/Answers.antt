use Rattle.std.proofs.Common.{◌≡◌, ◌<◌, ◌||◌, ◌&&◌, ◌==◌, Bool, false, Some, ℕ, List, length, map, take, set, get_or, sym, ap, ◌∙◌, arith}
use Rattle.std.specs.Prelude.{slice_get}
use Rattle.std.specs.List.{list_any}
use Rattle.std.proofs.lemmas.List.{get_or-replicate, length-replicate, length-set, take_all}
use Rattle.image_former.proofs.Lists.{any_more, item_there}
use Rattle.pair_table.specs.declared.row.PairRow.{PairRow}
use Rattle.record_rows.specs.Hits.{is_hit_now}
use Rattle.site_store.specs.Jobs.{has_job_failed}
use Rattle.site_store.proofs.HitRows.{among_hit, flag_or, hits_device, row_below}
use Rattle.site_store.proofs.hits.hit_flags.Goals as goal

pub loop-row-init : goal.loop-row-init
loop-row-init g c = record {
  long = length-replicate 64 false;
  are = λ d lt. get_or-replicate 64 d false false lt;
}

pub is_hit-is_hit-requires : goal.is_hit-is_hit-requires
is_hit-is_hit-requires g c =
    let rows = c.args.table.now.rows in
    let i = c.loop-row.row-index in
    let there : slice_get rows i ≡ Some c.row-item.result = item_there c.rows-row-items.result.now rows i c.row-item.result c.rows-row-items.ensures.rows c.loop-row-test.true c.row-item.is in
    row_below (length c.args.jobs.now) rows c.loop-row.row-index c.row-item.result c.requires.below there

pub bounds-devices-device : goal.bounds-devices-device
bounds-devices-device g c =
    let rows = c.args.table.now.rows in
    let i = c.loop-row.row-index in
    let there : slice_get rows i ≡ Some c.row-item.result = item_there c.rows-row-items.result.now rows i c.row-item.result c.rows-row-items.ensures.rows c.loop-row-test.true c.row-item.is in
    omega (arith, row_below (length c.args.jobs.now) rows c.loop-row.row-index c.row-item.result c.requires.below there, c.requires.few)

pub bounds-devices-device-in-loop-row : goal.bounds-devices-device-in-loop-row
bounds-devices-device-in-loop-row g c =
    let rows = c.args.table.now.rows in
    let i = c.loop-row.row-index in
    let there : slice_get rows i ≡ Some c.row-item.result = item_there c.rows-row-items.result.now rows i c.row-item.result c.rows-row-items.ensures.rows c.loop-row-test.true c.row-item.is in
    omega (arith, row_below (length c.args.jobs.now) rows c.loop-row.row-index c.row-item.result c.requires.below there, c.requires.few)

pub loop-row-preserved : goal.loop-row-preserved
loop-row-preserved g c =
    let rows = c.args.table.now.rows in
    let failed = map has_job_failed c.args.jobs.now in
    let row = c.row-item.result in
    let i = c.loop-row.row-index in
    let there : slice_get rows i ≡ Some row = item_there c.rows-row-items.result.now rows i c.row-item.result c.rows-row-items.ensures.rows c.loop-row-test.true c.row-item.is in
    let low : row.device < 64 = omega (arith, row_below (length c.args.jobs.now) rows i row c.requires.below there, c.requires.few) in
    let inv = c.loop-row.invariant in
    let hit : c.is_hit-is_hit.result ≡ is_hit_now failed row = c.is_hit-is_hit.ensures in
    let k = c.from-device.result in
    let at : k ≡ row.device = c.from-device.ensures in
    let put : c.either.result ≡ (get_or c.loop-row.devices k false || is_hit_now failed row) = c.either.ensures ∙ ap (λ (b : Bool). get_or c.loop-row.devices k false || b) hit in
    record {
      long = length-set c.loop-row.devices k c.either.result ∙ inv.long;
      are = λ d lt.
          ap (λ (b : Bool). get_or (set c.loop-row.devices k b) d false) put
          ∙ flag_or c.loop-row.devices k d (is_hit_now failed row) (omega (arith, low, at, inv.long))
          ∙ ap (λ (n : ℕ). get_or c.loop-row.devices d false || (is_hit_now failed row && n == d)) at
          ∙ ap (λ (b : Bool). b || hits_device failed d row) (inv.are d lt)
          ∙ sym (any_more (hits_device failed d) rows i row there);
    }

pub returns-clause-hit : goal.returns-clause-hit
returns-clause-hit g c d lt =
    let rows = c.args.table.now.rows in
    let failed = map has_job_failed c.args.jobs.now in
    let all : take c.loop-row.row-index rows ≡ rows = take_all c.loop-row.row-index rows (omega (arith, c.loop-row-test.false, ap length c.rows-row-items.ensures.rows)) in
    c.loop-row.invariant.are d lt ∙ ap (λ (l : List PairRow). list_any (hits_device failed d) l) all ∙ among_hit failed d rows
