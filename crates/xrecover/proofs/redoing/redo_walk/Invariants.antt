use Rattle.std.proofs.Common.{◌≡◌, ◌<◌, ◌-◌, ◌^◌, ℕ, false}
use Rattle.crash_plant.specs.declared.device.Device.{Device}
use Rattle.crash_plant.specs.declared.device.Device.TheVariants.{Journal, Volume}
use Rattle.site_means.specs.Answers.{IsStore}
use Rattle.site_means.specs.Images.{shape_of}
use Rattle.site_means.specs.Sight.{walked}
use Rattle.xrecover.specs.SideVolumes.{AppliesSides, AreHome, is_left}
use Rattle.xrecover.proofs.Again.{Reads}
use Rattle.xrecover.proofs.redoing.redo_walk.Given as goal

-- what was done so far, and where the walk stands
abbrev pub invariant-loop-time : goal.invariant-loop-time
invariant-loop-time g l = record {
  applies : AppliesSides g.P.Plant.tells (walked (g.P.Plant.state l.fn.plant) (g.P.Plant.state l.fn.plant).bytes) (is_left l.fn.jobs) (is_left l.jobs) (g.P.Plant.state l.fn.plant) (g.P.Plant.state l.plant);
  counts : (d : Device) → IsStore d → (g.P.Plant.state l.plant).faults d ≡ (g.P.Plant.state l.fn.plant).faults d;
  jobs : AreHome (g.P.Plant.state l.plant).volumes l.jobs;
  set : l.at.set < (g.P.Plant.state l.plant).journals;
  place : l.at.place < (g.P.Plant.state l.plant).lengths (Journal l.at.set);
  room : l.body.room ≡ l.fn.body.room;
  reads : g.P.Plant.tells → Reads (shape_of (g.P.Plant.state l.fn.plant)) (g.P.Plant.state l.fn.plant).bytes (walked (g.P.Plant.state l.fn.plant) (g.P.Plant.state l.fn.plant).bytes) (λ (v : ℕ). is_left l.jobs v ≡ false) (λ (v : ℕ). (g.P.Plant.state l.fn.plant).bytes (Volume v)) (λ (v : ℕ). (g.P.Plant.state l.plant).bytes (Volume v)) l.at l.last.0;
}

abbrev pub decreases-loop-time : goal.decreases-loop-time
decreases-loop-time g l = 2 ^ 64 - l.at.number
