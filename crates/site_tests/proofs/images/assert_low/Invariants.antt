use Rattle.std.proofs.Common.{take}
use Rattle.std.specs.List.{All}
use Rattle.site_tests.proofs.LowEntries.{IsLow, IsNear}
use Rattle.site_tests.proofs.images.assert_low.Given as goal

abbrev pub invariant-loop-place : goal.invariant-loop-place
invariant-loop-place g l = record {
  tracks : All IsLow (take l.place l.formed.entries);
  devices : All (IsNear l.table.rows) (take l.place l.formed.entries);
}
