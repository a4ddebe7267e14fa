use Rattle.std.proofs.Common.{List, sym, subst, ◌∙◌}
use Rattle.xrc_journal.specs.Items.{Item}
use Rattle.applier.specs.Sides.{HoldsOfEach}
use Rattle.applier.specs.Writes.{WritesInTurn}
use Rattle.applier.proofs.Going.{reading_start, rest_are, next_of, next_told, next_has, read_more, all_read}
use Rattle.applier.proofs.Places.{each_none, each_more, each_room, each_applies, rising_here}
use Rattle.applier.proofs.rising.apply_rising.Goals as goal

pub loop-item-init : goal.loop-item-init
loop-item-init g c = record {
  reading = reading_start c.args.body.now.items c.bytes-bytes.result.now c.bytes-bytes.ensures.keep c.bytes-bytes.ensures.spelled;
  writes = each_none g.D.Disk.state g.D.Disk.tells c.args.jobs.now;
}

pub apply_item_to-requires-clause-rising : goal.apply_item_to-requires-clause-rising
apply_item_to-requires-clause-rising g c =
    let inv = c.loop-item.invariant in
    rising_here g.D.Disk.state g.D.Disk.tells inv.reading.done c.args.jobs.now c.loop-item.jobs inv.writes c.requires.rising

pub apply_item_to-requires-clause-item : goal.apply_item_to-requires-clause-item
apply_item_to-requires-clause-item g c =
    let r = c.loop-item.invariant.reading in
    let bytes = c.bytes-bytes.result.now in
    let items = c.args.body.now.items in
    let at = c.loop-item.at in
    let n = next_of items bytes at r c.in-Some.item c.in-Some.length (sym c.in-Some.is ∙ c.first_item.ensures.item r.earlier r.todo r.keep (rest_are items bytes at r)) in
    (n.i, next_told items bytes at r c.in-Some.item c.in-Some.length n)

pub apply_item_to-requires-clause-room : goal.apply_item_to-requires-clause-room
apply_item_to-requires-clause-room g c =
    let inv = c.loop-item.invariant in
    let r = inv.reading in
    let bytes = c.bytes-bytes.result.now in
    let items = c.args.body.now.items in
    let at = c.loop-item.at in
    let n = next_of items bytes at r c.in-Some.item c.in-Some.length (sym c.in-Some.is ∙ c.first_item.ensures.item r.earlier r.todo r.keep (rest_are items bytes at r)) in
    let t = next_told items bytes at r c.in-Some.item c.in-Some.length n in
    each_room g.D.Disk.state g.D.Disk.tells r.done c.args.jobs.now c.loop-item.jobs inv.writes items c.in-Some.item _ n.i t (next_has items bytes at r c.in-Some.item c.in-Some.length n) c.requires.slots

pub loop-item-preserved : goal.loop-item-preserved
loop-item-preserved g c =
    let inv = c.loop-item.invariant in
    let r = inv.reading in
    let bytes = c.bytes-bytes.result.now in
    let items = c.args.body.now.items in
    let at = c.loop-item.at in
    let n = next_of items bytes at r c.in-Some.item c.in-Some.length (sym c.in-Some.is ∙ c.first_item.ensures.item r.earlier r.todo r.keep (rest_are items bytes at r)) in
    let t = next_told items bytes at r c.in-Some.item c.in-Some.length n in
    record {
      reading = read_more items bytes at r c.in-Some.item c.in-Some.length n;
      writes = each_more g.D.Disk.state g.D.Disk.tells r.done c.args.jobs.now c.loop-item.jobs inv.writes n.i c.apply_item_to.new.jobs (c.apply_item_to.ensures n.i t);
    }

pub returns : goal.returns
returns g c =
    let inv = c.loop-item.invariant in
    let r = inv.reading in
    let bytes = c.bytes-bytes.result.now in
    let items = c.args.body.now.items in
    let at = c.loop-item.at in
    let none = sym c.in_default.is ∙ c.first_item.ensures.item r.earlier r.todo r.keep (rest_are items bytes at r) in
    each_applies g.D.Disk.state g.D.Disk.tells items c.args.jobs.now c.loop-item.jobs c.bytes-bytes.ensures.keep c.requires.slots g.met.D.Disk.length_told
    (subst (λ (l : List Item). HoldsOfEach (WritesInTurn g.D.Disk.state g.D.Disk.tells l) c.args.jobs.now c.loop-item.jobs) (sym (all_read items bytes at r none)) inv.writes)
