use Rattle.std.proofs.Common.{arith}
use Rattle.ckd_track.specs.Heads.{IsFirst}
use Rattle.ckd_track.proofs.Steps.{first_read}
use Rattle.ckd_track.proofs.reading.record.Goals as goal

pub returns-clause-read : goal.returns-clause-read
returns-clause-read c =
    let is : IsFirst c.args.bytes.now c.args.room c.first-head.result c.split_at.result.1.now =
    record { is_head = c.first-head.ensures; fits = omega arith; whole = omega arith; rest_is = rw (← c.spelled_length-2.ensures) c.split_at.ensures.back } in
    first_read c.args.place c.args.last c.args.room c.args.bytes.now c.first-head.result c.split_at.result.1.now (omega arith) is

pub returns-clause-head : goal.returns-clause-head
returns-clause-head c = record { is_head = c.first-head.ensures; fits = omega arith; whole = omega arith; rest_is = rw (← c.spelled_length-2.ensures) c.split_at.ensures.back }
