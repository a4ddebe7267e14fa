-- Points that the devices of a plant go through.
use Rattle.std.proofs.Common.{ℕ, ◌<◌, ◌≤◌, List, Option, sym, subst, arith}
use Rattle.std.specs.Prelude.{IfSome}
use Rattle.std.specs.List.{All}
use Rattle.crash_plant.specs.Calls.{Elapses, SameSite}
use Rattle.crash_plant.specs.Choices.{Choice, IsChoice}
use Rattle.crash_plant.specs.Moments.{PlantState}
use Rattle.crash_plant.proofs.Choices.{past_choice}
use Rattle.site_means.specs.Images.{Shape, shape_of}
use Rattle.site_means.proofs.Goes.{shape_same}
use Rattle.consistency.specs.Stages.{ScriptRun, Stage}
use Rattle.consistency.specs.Bearing.{Bears, GoesThroughPoints, MayBeMeant, ShowsPoint}
use Rattle.consistency.specs.Leads.{Point}
use Rattle.passages.specs.Points.{GoesThrough, Throughout}
use Rattle.consistency.specs.Ways.{PassedPoint, Way}
use Rattle.consistency.proofs.Bearing.{points_bear}
use Rattle.passages.proofs.InARow.{all_shown, passed_still}

pub points_stay : (old new : PlantState) → SameSite old new → Elapses old new → 0 < old.clock → (run : ScriptRun) (from to : ℕ) (p : Point) (points : List PassedPoint) (next : Option Point) → to ≤ old.clock
    → GoesThroughPoints run old from p points to next → GoesThroughPoints run new from p points to next
points_stay old new site elapses up run from to p points next le goes =
    subst (λ (shape : Shape). GoesThrough (IsChoice new) (ShowsPoint run shape) from p points to next) (sym (shape_same old new site))
    (passed_still Point Way Choice (IsChoice old) (IsChoice new) (ShowsPoint run (shape_of old)) from to p points next (λ t within c has. past_choice old new t c site elapses up (omega (arith, within, le)) has) goes)

pub points_bear_throughout : (plant : PlantState) (run : ScriptRun) (s : Stage) (from to : ℕ) (p : Point) (points : List PassedPoint) (next : Option Point) → MayBeMeant run s p → All (λ n. MayBeMeant run s n.point) points → IfSome next (MayBeMeant run s)
    → GoesThroughPoints run plant from p points to next → Throughout (IsChoice plant) from to (λ c. (time : ℕ) × Bears run s (shape_of plant) c time)
points_bear_throughout plant run s from to p points next here each on goes t since within c has =
    let shown = all_shown Point Way Choice (IsChoice plant) (ShowsPoint run (shape_of plant)) (MayBeMeant run s) from to p points next here each on goes t since within c has in
    (shown.0.time, points_bear run s (shape_of plant) shown.0 c shown.2 shown.1)
