use Rattle.std.proofs.Common.{◌≡◌}
use Rattle.ckd_bridge.specs.Jobs.{ReadSame, SameLengths, fault_counts, piece_of}
use Rattle.ckd_bridge.specs.Pieces.{AreGood}
use Rattle.ckd_bridge.proofs.copying.check_pieces.Given as goal

-- the pieces before the number are good, and the files are as they were
abbrev pub invariant-loop-number : goal.invariant-loop-number
invariant-loop-number g l =
    let state = g.D.Disk.state in
    record {
      good : g.D.Disk.tells → AreGood (piece_of l.job (state l.fn.files.first).bytes (state l.fn.files.second).bytes) l.number;
      same : g.D.Disk.tells → ReadSame (state l.fn.files.first) (state l.fn.files.second) (state l.files.first) (state l.files.second);
      length : SameLengths (state l.fn.files.first) (state l.fn.files.second) (state l.files.first) (state l.files.second);
      faults : fault_counts (state l.files.first) (state l.files.second) ≡ fault_counts (state l.fn.files.first) (state l.fn.files.second);
    }
