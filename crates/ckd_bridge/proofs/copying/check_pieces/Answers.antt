use Rattle.std.proofs.Common.{◌∙◌, sym}
use Rattle.ckd_bridge.specs.Jobs.{piece_of}
use Rattle.ckd_bridge.proofs.Runs.{good_more}
use Rattle.ckd_bridge.proofs.Standings.{bytes_then, lengths_then, same_pieces}
use Rattle.ckd_bridge.proofs.copying.check_pieces.Goals as goal

pub loop-number-preserved : goal.loop-number-preserved
loop-number-preserved g c =
    let state = g.D.Disk.state in
    let first = state c.args.files.now.first in
    let second = state c.args.files.now.second in
    let there = state c.loop-number.files.first in
    let other = state c.loop-number.files.second in
    let job = c.args.job.now in
    let so_far = c.loop-number.invariant in
    record {
      good = λ tells. good_more (piece_of job first.bytes second.bytes) c.loop-number.number c.in-Ok.field-0 (so_far.good tells) (sym (same_pieces job first second there other c.loop-number.number (so_far.same tells)) ∙ c.in-Ok.ensures.piece tells);
      same = λ tells. bytes_then first second there other (state c.piece.new.files.first) (state c.piece.new.files.second) (so_far.same tells) (c.piece.ensures.same tells);
      length = lengths_then first second there other (state c.piece.new.files.first) (state c.piece.new.files.second) so_far.length c.piece.ensures.length;
      faults = c.in-Ok.ensures.cause ∙ so_far.faults;
    }
