use Rattle.std.proofs.Common.{rules, ◌≡◌, true, sym, ◌∙◌}
use Rattle.site_means.proofs.Taking.{at_first, rest_are, rest_items, next_of, taken_next}
use Rattle.site_means.proofs.rows.take_rows.Goals as goal

pub loop-item-init : goal.loop-item-init
loop-item-init c = at_first c.args.volumes c.args.body.now.items c.args.table.now c.bytes-bytes.result.now c.bytes-bytes.ensures.keep c.bytes-bytes.ensures.spelled

pub first_item-requires : goal.first_item-requires
first_item-requires c = rest_items c.args.volumes c.args.body.now.items c.args.table.now c.bytes-bytes.result.now c.loop-item.at c.loop-item.table c.loop-item.invariant

pub loop-item-preserved : goal.loop-item-preserved
loop-item-preserved c =
    let t = c.loop-item.invariant in
    let told = c.first_item.ensures.item t.earlier t.todo t.keep (rest_are c.args.volumes c.args.body.now.items c.args.table.now c.bytes-bytes.result.now c.loop-item.at c.loop-item.table t) in
    let n = next_of c.args.volumes c.args.body.now.items c.args.table.now c.bytes-bytes.result.now c.loop-item.at c.loop-item.table t c.in-Some.item c.in-Some.length (sym c.in-Some.is ∙ told) in
    let fit : c.in_ok-take_item.field-0 ≡ true = search rules in
    taken_next c.args.volumes c.args.body.now.items c.args.table.now c.bytes-bytes.result.now c.loop-item.at c.loop-item.table t c.in-Some.item c.in-Some.length n c.take_item.new.table c.in_ok-take_item.field-0 fit
    (λ below. c.in_ok-take_item.ensures.fits t.earlier n.i n.is n.told_is below) (c.in_ok-take_item.ensures.taken n.i n.told_is fit)
