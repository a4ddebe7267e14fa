use Rattle.std.proofs.Common.{arith}
use Rattle.xrc_journal.specs.Bodies.{BeginsWith}
use Rattle.xrc_journal.proofs.Scans.{image_length, image_bad}
use Rattle.xrc_journal.proofs.Told.{image_told}
use Rattle.xrc_journal.proofs.reading.image.Goals as goal

pub overflow_add-result : goal.overflow_add-result
overflow_add-result c =
    let r = c.requires.item in
    let begins : BeginsWith c.args.bytes.now r.item = record { earlier = r.earlier; rest = r.rest; keeps = r.keeps; parts = r.parts } in
    let len = image_length c.args.bytes.now r.item _ _ c.in-Ok.length c.requires.tag begins c.in-Ok.ensures.ok c.in-Ok.ensures.length in
    omega (arith, len.1)

pub unreachable-requires : goal.unreachable-requires
unreachable-requires c =
    let r = c.requires.item in
    image_bad c.args.bytes.now r.item c.in-Err.field-0 c.requires.tag (record { earlier = r.earlier; rest = r.rest; keeps = r.keeps; parts = r.parts }) c.in-Err.ensures.err

pub returns : goal.returns
returns c = λ item begins. image_told c.args.bytes.now item _ _ c.in-Ok.length _ _ c.requires.tag begins (omega (arith, c.read_u16-device.ensures)) (omega (arith, c.read_u32-track.ensures)) c.in-Ok.ensures.ok c.in-Ok.ensures.length
