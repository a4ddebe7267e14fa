use Rattle.std.proofs.Common.{◌≡◌, false, take}
use Rattle.xrc_recovery.proofs.lines.is_among.Given as goal
use Rattle.pair_table.specs.Devices.{is_among}

-- it is none of those before
abbrev pub invariant-loop-place : goal.invariant-loop-place
invariant-loop-place l = is_among l.device (take l.place l.outcome.failed) ≡ false
