use Rattle.std.proofs.Common.{rules, ◌≡◌, ◌==◌, true, length, subst}
use Rattle.std.specs.Prelude.{slice_range}
use Rattle.xrc_journal.specs.declared.reading.BodyItem.{BodyItem}
use Rattle.applier.specs.Writes.{IsItemTold}
use Rattle.applier.proofs.Writing.{told_image, room_for, item_writes}
use Rattle.applier.proofs.applying.write_item.Goals as goal

pub write-requires : goal.write-requires
write-requires g c =
    let i = c.requires.item.0 in
    let is = told_image c.in-Image.of c.in-Image.track c.args.bytes.now i (subst (λ (b : BodyItem). IsItemTold b c.args.bytes.now i) c.in-Image.is c.requires.item.1) in
    let here : (c.in-Image.of == c.args.device) ≡ true = search rules in
    room_for c.args.item c.args.device c.in-Image.of c.in-Image.track c.args.bytes.now i is here c.in-Image.is (g.D.Disk.state c.args.disk.now).length_is c.requires.room c.slot_place.result c.slot_place.ensures

pub returns-in-Image : goal.returns-in-Image
returns-in-Image g c i t =
    let here : (c.in-Image.of == c.args.device) ≡ true = search rules in
    let is = told_image c.in-Image.of c.in-Image.track c.args.bytes.now i (subst (λ (b : BodyItem). IsItemTold b c.args.bytes.now i) c.in-Image.is t) in
    item_writes g.D.Disk.state g.D.Disk.tells c.args.device c.in-Image.of c.in-Image.track is.recs c.args.disk.now c.write.new.self c.write.result here is.are i c.slot_place.result (slice_range c.args.bytes.now 7 (length c.args.bytes.now)) is.is c.slot_place.ensures
    is.bytes_are (record {
      done = c.write.ensures.written;
      torn = c.write.ensures.torn;
      past = c.write.ensures.past;
      moments = c.write.ensures.moments;
      size = c.write.ensures.length;
      cause = c.write.ensures.cause;
    })
