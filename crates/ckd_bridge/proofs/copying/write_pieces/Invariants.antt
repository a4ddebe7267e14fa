use Rattle.std.proofs.Common.{◌≡◌}
use Rattle.ckd_bridge.specs.Jobs.{ReadSame, SameLengths, fault_counts, piece_of}
use Rattle.ckd_bridge.specs.Sinks.{Appends}
use Rattle.ckd_bridge.specs.Pieces.{pieces_up_to}
use Rattle.ckd_bridge.proofs.copying.write_pieces.Given as goal

-- the pieces before the number are put, and the files are as they were
abbrev pub invariant-loop-number : goal.invariant-loop-number
invariant-loop-number g l =
    let state = g.D.Disk.state in
    record {
      put : g.D.Disk.tells → Appends (pieces_up_to (piece_of l.job (state l.fn.files.first).bytes (state l.fn.files.second).bytes) l.number) (g.S.Sink.written l.fn.sink) (g.S.Sink.written l.sink);
      same : g.D.Disk.tells → ReadSame (state l.fn.files.first) (state l.fn.files.second) (state l.files.first) (state l.files.second);
      length : SameLengths (state l.fn.files.first) (state l.fn.files.second) (state l.files.first) (state l.files.second);
      faults : fault_counts (state l.files.first) (state l.files.second) ≡ fault_counts (state l.fn.files.first) (state l.fn.files.second);
      sink_faults : g.S.Sink.faults l.sink ≡ g.S.Sink.faults l.fn.sink;
    }
