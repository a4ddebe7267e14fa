use Rattle.std.proofs.Common.{◌≡◌, ◌<◌, ℕ, not}
use Rattle.std.specs.List.{list_any}
use Rattle.pair_table.specs.Tables.{AreRowsSound}
use Rattle.xrecover.specs.Pairs.{is_duplex_of}
use Rattle.xrecover.specs.SideVolumes.{AreHome, is_left}
use Rattle.xrecover.proofs.sides.jobs_of.Given as goal

-- the jobs of the volumes before this one
abbrev pub invariant-loop-device : goal.invariant-loop-device
invariant-loop-device g l = record {
  home : AreHome l.device l.jobs.items;
  left : AreRowsSound l.table.rows → (v : ℕ) → v < l.device → is_left l.jobs.items v ≡ not (list_any (is_duplex_of v) l.table.rows);
}
