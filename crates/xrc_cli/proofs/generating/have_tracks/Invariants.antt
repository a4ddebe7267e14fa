use Rattle.std.proofs.Common.{take}
use Rattle.std.specs.List.{All}
use Rattle.crash_plant.specs.PlainPlant.{plain_state}
use Rattle.workload.specs.Summaries.{HasTracks}
use Rattle.xrc_cli.proofs.generating.have_tracks.Given as goal

-- The pairs so far have their tracks.
abbrev pub invariant-loop-place : goal.invariant-loop-place
invariant-loop-place l = All (HasTracks (plain_state l.plant)) (take l.place l.table.rows)
