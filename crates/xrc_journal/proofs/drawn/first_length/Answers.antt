use Rattle.std.proofs.Common.{refl, arith}
use Rattle.xrc_journal.specs.Bodies.{BeginsWith}
use Rattle.xrc_journal.proofs.Scans.{image_length, image_bad}
use Rattle.xrc_journal.proofs.Told.{tagged_size}
use Rattle.xrc_journal.proofs.drawn.first_length.Goals as goal

pub overflow_add-result : goal.overflow_add-result
overflow_add-result c =
    let r = c.requires in
    let begins : BeginsWith c.args.bytes.now r.item = record { earlier = r.earlier; rest = r.rest; keeps = r.keeps; parts = r.parts } in
    let len = image_length c.args.bytes.now r.item _ _ c.in-Ok.length c.in-1.is begins c.in-Ok.ensures.ok c.in-Ok.ensures.length in
    omega (arith, len.1)

pub unreachable-requires : goal.unreachable-requires
unreachable-requires c =
    let r = c.requires in
    image_bad c.args.bytes.now r.item c.in-Err.field-0 c.in-1.is (record { earlier = r.earlier; rest = r.rest; keeps = r.keeps; parts = r.parts }) c.in-Err.ensures.err

pub returns-in-Ok : goal.returns-in-Ok
returns-in-Ok c = λ item begins. (image_length c.args.bytes.now item _ _ c.in-Ok.length c.in-1.is begins c.in-Ok.ensures.ok c.in-Ok.ensures.length).0

pub returns-in-3 : goal.returns-in-3
returns-in-3 c = λ item begins. tagged_size 1 c.args.bytes.now item refl c.in-3.is begins

pub returns-in-5 : goal.returns-in-5
returns-in-5 c = λ item begins. tagged_size 2 c.args.bytes.now item refl c.in-5.is begins
