use Rattle.std.proofs.Common.{◌≡◌, inl, inr, ◌<◌, ◌||◌, false, ℕ, Some, length, get_or, set, sym, ap, ◌∙◌, arith}
use Rattle.std.specs.Prelude.{slice_get}
use Rattle.std.proofs.lemmas.Bool.{cases_eq}
use Rattle.std.proofs.lemmas.List.{get_or-set_other, get_or-set_same, length-replicate, length-set}
use Rattle.std.proofs.lemmas.Option.{same_Some, slice_get-get_or}
use Rattle.image_former.proofs.Lists.{item_there}
use Rattle.pair_table.specs.declared.row.PairRow.{PairRow}
use Rattle.site_store.proofs.HitRows.{row_below}
use Rattle.site_store.proofs.Reached.{other_device, reaches_by, reaches_is}
use Rattle.site_store.proofs.hits.reached_devices.Goals as goal

pub loop-row-init : goal.loop-row-init
loop-row-init c = record { long = length-replicate 64 false; are = λ n r lt. absurd (omega (arith, lt)) }

pub reaches-by_mark-requires-clause-row : goal.reaches-by_mark-requires-clause-row
reaches-by_mark-requires-clause-row c =
    let rows = c.args.table.now.rows in
    let i = c.loop-row.row-index in
    row_below 64 rows i c.row-item.result c.requires (item_there c.rows-row-items.result.now rows i c.row-item.result c.rows-row-items.ensures.rows c.loop-row-test.true c.row-item.is)

pub reaches-by_hit-requires-clause-row : goal.reaches-by_hit-requires-clause-row
reaches-by_hit-requires-clause-row c =
    let rows = c.args.table.now.rows in
    let i = c.loop-row.row-index in
    row_below 64 rows i c.row-item.result c.requires (item_there c.rows-row-items.result.now rows i c.row-item.result c.rows-row-items.ensures.rows c.loop-row-test.true c.row-item.is)

pub bounds-reached-device : goal.bounds-reached-device
bounds-reached-device c =
    let rows = c.args.table.now.rows in
    let i = c.loop-row.row-index in
    omega (arith, c.from-device.ensures, row_below 64 rows i c.row-item.result c.requires (item_there c.rows-row-items.result.now rows i c.row-item.result c.rows-row-items.ensures.rows c.loop-row-test.true c.row-item.is))

pub loop-row-preserved : goal.loop-row-preserved
loop-row-preserved c =
    let rows = c.args.table.now.rows in
    let i = c.loop-row.row-index in
    let row = c.row-item.result in
    let there : slice_get rows i ≡ Some row = item_there c.rows-row-items.result.now rows i row c.rows-row-items.ensures.rows c.loop-row-test.true c.row-item.is in
    let low : row.device < 64 = row_below 64 rows i row c.requires there in
    let flags = c.loop-row.reached in
    let inv = c.loop-row.invariant in
    let k = c.from-device.result in
    let at : k ≡ row.device = c.from-device.ensures in
    let is = c.either.result in
    let put : is ≡ (reaches_by c.args.level rows c.args.marked.now row || reaches_by c.args.level rows c.args.hit.now row) = c.either.ensures ∙ (λ j. c.reaches-by_mark.ensures j || c.reaches-by_hit.ensures j) in
    record {
      long = length-set flags k is ∙ inv.long;
      are = λ n r lt at_n. elim (cases_eq n i) [
        | inl same ↦
            let one : r ≡ row = same_Some r row (sym at_n ∙ ap (slice_get rows) same ∙ there) in
            ap (λ (m : ℕ). get_or (set flags k is) m false) (ap (λ (s : PairRow). s.device) one ∙ sym at) ∙ get_or-set_same flags k is false (omega (arith, low, at, inv.long)) ∙ put
            ∙ ap (λ (s : PairRow). reaches_by c.args.level rows c.args.marked.now s || reaches_by c.args.level rows c.args.hit.now s) (sym one)
        | inr other ↦
            let before : n < i = omega (arith, lt, other) in
            get_or-set_other flags k r.device is false (λ e. other_device rows n i r row c.rows-row-items.ensures.sound.apart before at_n there (e ∙ at)) ∙ inv.are n r before at_n
      ];
    }

pub returns : goal.returns
returns c was now marked hit r has =
    let rows = c.args.table.now.rows in
    let there : slice_get rows has.0 ≡ Some r = slice_get-get_or rows has.0 r has.1 ∙ ap Some has.2 in
    let low : r.device < 64 = row_below 64 rows has.0 r c.requires there in
    let within = has.1 in
    c.loop-row.invariant.are has.0 r (omega (arith, within, c.loop-row-test.false, ap length c.rows-row-items.ensures.rows)) there
    ∙ (λ i. reaches_is c.args.level was c.args.marked.now rows r marked low c.requires i || reaches_is c.args.level now c.args.hit.now rows r hit low c.requires i)
