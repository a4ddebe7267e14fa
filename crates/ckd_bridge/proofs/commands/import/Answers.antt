use Rattle.std.proofs.Common.{◌∙◌, ℕ, List, ◌++◌, Err, ap, subst}
use Rattle.ckd_bridge.specs.Jobs.{imported_piece}
use Rattle.ckd_bridge.specs.Pieces.{Copies, pieces_up_to}
use Rattle.ckd_bridge.specs.Sinks.{Appends}
use Rattle.write_trace.specs.Headers.{header_spelling}
use Rattle.ckd_bridge.specs.declared.stop.ImageFile.TheVariants.{First}
use Rattle.ckd_bridge.specs.Tracks.{shape_of_image}
use Rattle.ckd_bridge.specs.Commands.{imported_header, tracks_of_shape}
use Rattle.ckd_bridge.proofs.Endings.{stops}
use Rattle.ckd_bridge.proofs.Headers.{pieces_are_header}
use Rattle.ckd_bridge.proofs.commands.import.Goals as goal

pub returns-in-Ok-copy_pieces-clause-imported : goal.returns-in-Ok-copy_pieces-clause-imported
returns-in-Ok-copy_pieces-clause-imported g c = λ tells.
    let image = (g.D.Disk.state c.args.files.now.first).bytes in
    let shape = c.in-Ok.shape in
    let copied = rw (c.read_image_shape.ensures.same tells) at (c.in-Ok-copy_pieces.ensures.copies tells) in
    let whole =
    ap (λ (t : List ℕ). t ++ pieces_up_to (imported_piece shape image) (tracks_of_shape shape)) (c.as_slice.ensures ∙ c.in-Ok-before_base.ensures)
    ∙ pieces_are_header c.args.serial shape image copied.0 in
    (c.in-Ok.ensures.shape tells, copied.0, subst (λ (t : List ℕ). Appends t (g.S.Sink.written c.args.trace.now) (g.S.Sink.written c.copy_pieces.new.sink)) whole copied.1)

pub returns-clause-imported : goal.returns-clause-imported
returns-clause-imported g c = λ tells.
    let image = (g.D.Disk.state c.args.files.now.first).bytes in
    let old = g.S.Sink.written c.args.trace.now in
    let new = g.S.Sink.written c.copy_pieces.new.sink in
    let copied =
    subst (λ (t : List ℕ). Copies {X = Unit {0}} (imported_piece c.in-Ok.shape t) (tracks_of_shape c.in-Ok.shape) c.as_slice.result.now old new (Err c.in-Err-copy_pieces.stop)) (c.read_image_shape.ensures.same tells) (c.in-Err-copy_pieces.ensures.copies tells) in
    stops (Unit {0}) (shape_of_image First image) (λ shape. imported_piece shape image) (λ shape. header_spelling (imported_header c.args.serial shape image)) c.in-Ok.shape c.as_slice.result.now old new c.in-Err-copy_pieces.stop
    (c.in-Ok.ensures.shape tells) copied
