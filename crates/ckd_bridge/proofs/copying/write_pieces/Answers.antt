use Rattle.std.proofs.Common.{◌∙◌, ℕ, List, sym, subst}
use Rattle.ckd_bridge.specs.Jobs.{piece_of}
use Rattle.ckd_bridge.specs.Sinks.{Appends}
use Rattle.ckd_bridge.proofs.Runs.{puts_a_piece}
use Rattle.ckd_bridge.proofs.Standings.{bytes_then, lengths_then, same_pieces}
use Rattle.ckd_bridge.proofs.copying.write_pieces.Goals as goal

pub loop-number-preserved : goal.loop-number-preserved
loop-number-preserved g c =
    let state = g.D.Disk.state in
    let written = g.S.Sink.written in
    let first = state c.args.files.now.first in
    let second = state c.args.files.now.second in
    let there = state c.loop-number.files.first in
    let other = state c.loop-number.files.second in
    let job = c.args.job.now in
    let so_far = c.loop-number.invariant in
    let put : Appends c.in-Ok.piece (written c.loop-number.sink) (written c.put.new.sink) =
    subst (λ (t : List ℕ). Appends t (written c.loop-number.sink) (written c.put.new.sink)) c.as_slice.ensures c.in-Ok-put.ensures.written in
    record {
      put = λ tells.
          puts_a_piece (piece_of job first.bytes second.bytes) c.loop-number.number c.in-Ok.piece (written c.args.sink.now) (written c.loop-number.sink) (written c.put.new.sink) (so_far.put tells)
          (sym (same_pieces job first second there other c.loop-number.number (so_far.same tells)) ∙ c.in-Ok.ensures.piece tells) put;
      same = λ tells. bytes_then first second there other (state c.piece.new.files.first) (state c.piece.new.files.second) (so_far.same tells) (c.piece.ensures.same tells);
      length = lengths_then first second there other (state c.piece.new.files.first) (state c.piece.new.files.second) so_far.length c.piece.ensures.length;
      faults = c.in-Ok.ensures.cause ∙ so_far.faults;
      sink_faults = c.in-Ok-put.ensures.cause ∙ so_far.sink_faults;
    }
