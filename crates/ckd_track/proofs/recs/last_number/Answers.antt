use Rattle.std.proofs.Common.{◌<◌, length, arith}
use Rattle.ckd_track.proofs.TrackLaws.{last_item}
use Rattle.ckd_track.proofs.recs.last_number.Goals as goal

pub returns-in-len1-up : goal.returns-in-len1-up
returns-in-len1-up c =
    let some : 0 < length c.args.recs.now = omega (arith, c.in-len1-up.len_at_least) in
    let last = last_item 0 c.args.recs.now c.rec-item.result some in
    let h = c.rec-item in
    cc
