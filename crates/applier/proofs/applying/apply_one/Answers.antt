use Rattle.std.proofs.Common.{List, sym, subst, ◌∙◌}
use Rattle.xrc_journal.specs.Items.{Item}
use Rattle.applier.specs.Writes.{WritesInTurn}
use Rattle.applier.proofs.Going.{reading_start, rest_are, next_of, next_told, next_has, read_more, all_read}
use Rattle.applier.proofs.InTurn.{in_turn_more, in_turn_none}
use Rattle.applier.proofs.Places.{room_of_item}
use Rattle.applier.proofs.Volumes.{applies_in_turn}
use Rattle.applier.proofs.applying.apply_one.Goals as goal

pub loop-item-init : goal.loop-item-init
loop-item-init g c = record {
  reading = reading_start c.args.body.now.items c.bytes-bytes.result.now c.bytes-bytes.ensures.keep c.bytes-bytes.ensures.spelled;
  writes = in_turn_none g.D.Disk.state g.D.Disk.tells c.args.job.now;
}

pub apply_item-requires-clause-item : goal.apply_item-requires-clause-item
apply_item-requires-clause-item g c =
    let r = c.loop-item.invariant.reading in
    let bytes = c.bytes-bytes.result.now in
    let items = c.args.body.now.items in
    let at = c.loop-item.at in
    let n = next_of items bytes at r c.in-Some.item c.in-Some.length (sym c.in-Some.is ∙ c.first_item.ensures.item r.earlier r.todo r.keep (rest_are items bytes at r)) in
    (n.i, next_told items bytes at r c.in-Some.item c.in-Some.length n)

pub apply_item-requires-clause-room : goal.apply_item-requires-clause-room
apply_item-requires-clause-room g c =
    let inv = c.loop-item.invariant in
    let r = inv.reading in
    let bytes = c.bytes-bytes.result.now in
    let items = c.args.body.now.items in
    let at = c.loop-item.at in
    let n = next_of items bytes at r c.in-Some.item c.in-Some.length (sym c.in-Some.is ∙ c.first_item.ensures.item r.earlier r.todo r.keep (rest_are items bytes at r)) in
    let t = next_told items bytes at r c.in-Some.item c.in-Some.length n in
    room_of_item g.D.Disk.state g.D.Disk.tells items c.in-Some.item _ n.i t (next_has items bytes at r c.in-Some.item c.in-Some.length n) r.done c.args.job.now c.loop-item.job c.requires inv.writes

pub loop-item-preserved : goal.loop-item-preserved
loop-item-preserved g c =
    let inv = c.loop-item.invariant in
    let r = inv.reading in
    let bytes = c.bytes-bytes.result.now in
    let items = c.args.body.now.items in
    let at = c.loop-item.at in
    let n = next_of items bytes at r c.in-Some.item c.in-Some.length (sym c.in-Some.is ∙ c.first_item.ensures.item r.earlier r.todo r.keep (rest_are items bytes at r)) in
    let t = next_told items bytes at r c.in-Some.item c.in-Some.length n in
    record {
      reading = read_more items bytes at r c.in-Some.item c.in-Some.length n;
      writes = in_turn_more g.D.Disk.state g.D.Disk.tells r.done n.i c.args.job.now c.loop-item.job c.apply_item.new.job inv.writes (c.apply_item.ensures n.i t);
    }

pub returns : goal.returns
returns g c =
    let inv = c.loop-item.invariant in
    let r = inv.reading in
    let bytes = c.bytes-bytes.result.now in
    let items = c.args.body.now.items in
    let at = c.loop-item.at in
    let none = sym c.in_default.is ∙ c.first_item.ensures.item r.earlier r.todo r.keep (rest_are items bytes at r) in
    applies_in_turn g.D.Disk.state g.D.Disk.tells items c.args.job.now c.loop-item.job c.bytes-bytes.ensures.keep c.requires g.met.D.Disk.length_told
    (subst (λ (l : List Item). WritesInTurn g.D.Disk.state g.D.Disk.tells l c.args.job.now c.loop-item.job) (sym (all_read items bytes at r none)) inv.writes)
