use Rattle.std.proofs.Common.{ℕ, ◌<◌, ◌≤◌}
use Rattle.std.specs.Prelude.{min}
use Rattle.crash_plant.specs.declared.device.Device.TheVariants.{Journal}
use Rattle.xrc_journal.specs.Records.{most_body}
use Rattle.site_means.specs.Steps.{IsLongest}
use Rattle.site_means.proofs.lengths.longest_body.Given as goal

-- the most so far, which is one journal's
abbrev pub invariant-loop-number : goal.invariant-loop-number
invariant-loop-number g l = record {
  room : (j : ℕ) → j < l.number → min ((g.P.Plant.state l.plant).lengths (Journal j)) most_body ≤ l.longest;
  exact : IsLongest (g.P.Plant.state l.plant) l.longest;
}
