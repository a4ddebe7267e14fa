use Rattle.ckd_bridge.proofs.commands.capture.Goals as goal

pub returns-in-Ok-copy_pieces-clause-captured : goal.returns-in-Ok-copy_pieces-clause-captured
returns-in-Ok-copy_pieces-clause-captured g c = λ tells.
    let same = c.captured_shape.ensures.same tells in
    let copied = rw (same.first_bytes, same.second_bytes) at (c.in-Ok-copy_pieces.ensures.copies tells) in
    (c.in-Ok.ensures.shape tells, copied.0, copied.1)
