-- The points before a line's command are passed up to a moment of their own.
use Rattle.std.proofs.Common.{ℕ, ◌≤◌, Bool, true, false, List, [], ◌∷◌, Option, None, subst, arith}
use Rattle.std.specs.Prelude.{if◌then◌else◌}
use Rattle.crash_plant.specs.Choices.{Choice, IsChoice}
use Rattle.crash_plant.specs.Moments.{PlantState}
use Rattle.site_means.specs.Images.{shape_of}
use Rattle.xrc_command.specs.declared.line.Line.{Line}
use Rattle.consistency.specs.Stages.{ScriptRun}
use Rattle.consistency.specs.Answering.{is_command_of, points_before}
use Rattle.consistency.specs.Bearing.{GoesThroughPoints, ShowsPoint}
use Rattle.consistency.specs.Pauses.{HasPassed}
use Rattle.consistency.specs.PointLaws.{IsWalked}
use Rattle.consistency.specs.Leads.{Point}
use Rattle.passages.specs.Points.{Throughout}
use Rattle.consistency.specs.Ways.{Leg, PassedPoint}

module _ (run : ScriptRun) (plant : PlantState) where
  -- The first points up to the command of a line are passed, up to a moment at which the last of them is shown.
  abbrev PassedUpTo : (from : ℕ) → Point → List PassedPoint → (to : ℕ) → Type 0
  PassedUpTo from p points to = (mid : ℕ) × (from ≤ mid) × (mid ≤ to) × GoesThroughPoints run plant from p points mid None

  front_passed : (number from to : ℕ) (p : Point) (points : List PassedPoint) → Throughout (IsChoice plant) from from (ShowsPoint run (shape_of plant) p) → GoesThroughPoints run plant from p points to None → PassedUpTo from p (points_before number points) to
  front_passed number from to p [] here goes = (to, goes.0, omega arith, goes)
  front_passed number from to p (n ∷ points) here goes = by_way (is_command_of number n.way) (front_passed number n.moment to n.point points goes.2 goes.3)
    where
      by_way : (b : Bool) → PassedUpTo n.moment n.point (points_before number points) to → PassedUpTo from p (if b then [] else n ∷ points_before number points) to
      by_way true rest = (from, omega arith, omega (arith, goes.0, rest.1, rest.2), (omega arith, here))
      by_way false rest = (rest.0, omega (arith, goes.0, rest.1), rest.2, (goes.0, goes.1, goes.2, rest.3))

-- The points that a reply speaks of are a way of the devices.
pub told_points_are_walked : (plant : PlantState) (run : ScriptRun) (asked : ℕ → Option Line) (first : Leg) (points : List PassedPoint) (number by : ℕ) (passed : HasPassed run asked first points plant by)
    → ((t : ℕ) → passed.from ≤ t → t ≤ by → (c : Choice) × IsChoice plant t c) → (to : ℕ) × (to ≤ by) × IsWalked run plant passed.from to first.point (points_before number points)
told_points_are_walked plant run asked first points number by passed some =
    let front = front_passed run plant number passed.from by first.point points here passed.goes in
    (front.0, front.2, record { begins = passed.begins; goes = front.3; some = λ t since within. some t since (omega (arith, within, front.2)) })
  where
    here : Throughout (IsChoice plant) passed.from passed.from (ShowsPoint run (shape_of plant) first.point)
    here t since within c is = passed.begins c (subst (λ (n : ℕ). IsChoice plant n c) (omega (arith, since, within)) is)
