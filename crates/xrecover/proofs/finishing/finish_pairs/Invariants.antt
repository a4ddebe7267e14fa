use Rattle.std.proofs.Common.{◌≡◌, ◌≤◌, [], length, take, vec_capacity, vec_len}
use Rattle.crash_plant.specs.declared.device.Device.{Device}
use Rattle.site_means.specs.Answers.{IsStore}
use Rattle.xrecover.specs.Labels.{TreatsLabels}
use Rattle.xrecover.specs.SideVolumes.{is_left}
use Rattle.xrecover.proofs.Going.{Going}
use Rattle.xrecover.proofs.finishing.finish_pairs.Given as goal

-- the pairs before are finished, or their volumes failed, and the list has room for the others
abbrev pub invariant-loop-place : goal.invariant-loop-place
invariant-loop-place g l = record {
  going : Going g.P.Plant.tells l.labelling (is_left l.jobs) [] (take l.place l.table.rows) l.failed.items (g.P.Plant.state l.fn.plant) (g.P.Plant.state l.plant);
  treats : g.P.Plant.tells → TreatsLabels l.labelling l.table.rows [] (g.P.Plant.state l.fn.plant) (g.P.Plant.state l.plant);
  counts : (d : Device) → IsStore d → (g.P.Plant.state l.plant).faults d ≡ (g.P.Plant.state l.fn.plant).faults d;
  count : vec_len l.failed ≤ l.place;
  places : length l.table.rows ≤ vec_capacity l.failed;
}
