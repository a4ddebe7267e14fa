use Rattle.std.proofs.Common.{◌∙◌, sym, arith}
use Rattle.ckd_track.proofs.Steps.{reads_after}
use Rattle.ckd_track.proofs.reading.after_records.Goals as goal

pub overflow_sub-room : goal.overflow_sub-room
overflow_sub-room c = omega (arith, c.in_ok-head.ensures.head.fits)

pub loop-preserved : goal.loop-preserved
loop-preserved c =
    let is = c.in_ok-head.ensures.head in
    let on = reads_after c.args.count c.loop.counter c.loop.place c.loop.last c.loop.room c.loop.rest.now c.in_ok-head.head c.in_ok-head.after.now c.loop-test.true is c.in_ok-head.ensures.read in
    record { same = rw (c.spelled_length.ensures, c.size-room.ensures) (sym on ∙ c.loop.invariant.same); within = omega (arith, is.fits) }
