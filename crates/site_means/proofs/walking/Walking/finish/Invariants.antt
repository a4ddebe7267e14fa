use Rattle.std.proofs.Common.{◌≡◌, ◌-◌, ◌^◌}
use Rattle.crash_plant.specs.declared.device.Device.{Device}
use Rattle.site_means.specs.Answers.{ReadsAll}
use Rattle.site_means.specs.Images.{shape_of}
use Rattle.site_means.specs.Steps.{HasEnteredOne, WalkStands}
use Rattle.site_means.specs.declared.reading.FirstRead.TheVariants.{Synced}
use Rattle.site_means.proofs.Finishing.{AreSettled, Going}
use Rattle.site_means.proofs.walking.Walking.finish.Given as goal

-- how far the walk has come; nothing has changed, and nothing failed
abbrev pub invariant-loop-settled : goal.invariant-loop-settled
invariant-loop-settled g l = record {
  reads : ReadsAll g.P.Plant.tells (g.P.Plant.state l.fn.plant) (g.P.Plant.state l.plant);
  faults : (d : Device) → (g.P.Plant.state l.plant).faults d ≡ (g.P.Plant.state l.fn.plant).faults d;
  room : l.body.room ≡ l.fn.body.room;
  stands : WalkStands (g.P.Plant.state l.plant) l.self;
  durable : g.P.Plant.tells → l.first ≡ Synced → HasEnteredOne l.fn.self → AreSettled (g.P.Plant.state l.plant) l.settled l.self;
  going : g.P.Plant.tells → Going (shape_of (g.P.Plant.state l.fn.plant)) (g.P.Plant.state l.fn.plant).bytes l.fn.self l.self;
}

abbrev pub decreases-loop-settled : goal.decreases-loop-settled
decreases-loop-settled g l = 2 ^ 64 - l.self.at.number
