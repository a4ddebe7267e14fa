use Rattle.std.proofs.Common.{◌≡◌}
use Rattle.std.specs.List.{flat_map, range_with_len}
use Rattle.crash_plant.specs.declared.device.Device.TheVariants.{Volume}
use Rattle.crash_plant.specs.PlainPlant.{plain_state}
use Rattle.workload.specs.Tallies.{HasGrown, with_records}
use Rattle.workload.specs.Summaries.{LeavesAsItWas, slot_records}
use Rattle.workload.proofs.tracks.add_row.Given as goal

-- the records of the tracks so far
abbrev pub invariant-loop-number : goal.invariant-loop-number
invariant-loop-number l = record {
  counts : l.tally ≡ with_records l.fn.counted (flat_map (slot_records ((plain_state l.fn.plant).bytes (Volume l.row.device))) (range_with_len 0 l.number));
  grows : HasGrown l.number l.fn.counted l.tally;
  leaves : LeavesAsItWas (plain_state l.fn.plant) (plain_state l.plant);
}
