-- What choices that show points bear.
use Rattle.std.proofs.Common.{refl}
use Rattle.site_means.specs.Images.{Images, Shape}
use Rattle.consistency.specs.Stages.{ScriptRun, Stage}
use Rattle.consistency.specs.Bearing.{Bears, MayBeMeant, ShowsPoint}
use Rattle.consistency.specs.Leads.{Point}

-- Images that show a point which may be meant bear its time.
pub points_bear : (run : ScriptRun) (s : Stage) (shape : Shape) (p : Point) (images : Images) → ShowsPoint run shape p images → MayBeMeant run s p → Bears run s shape images p.time
points_bear run s shape p images shows may = record { point = p; at = refl; shows = shows; may = may }
