use Rattle.std.proofs.Common.{◌≡◌, [], take}
use Rattle.site_store.specs.Changing.{pairs_of}
use Rattle.site_store.proofs.changing.has_row.Given as goal

-- no device before has a row
abbrev pub invariant-loop-device : goal.invariant-loop-device
invariant-loop-device l = pairs_of (take l.device-index l.devices) l.table.rows ≡ []
