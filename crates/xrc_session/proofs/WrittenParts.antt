-- Volumes that are written in parts, over calls in turn.
use Rattle.std.proofs.Common.{◌≡◌, inl, inr, ℕ, ◌<◌, ◌≤◌, true, List, [], ◌∷◌, ◌++◌, Option, refl, sym, ap, subst, ◌∙◌, append-nil, arith}
use Rattle.std.specs.List.{list_all}
use Rattle.std.proofs.lemmas.List.Concat.{flat_map-append}
use Rattle.crash_plant.specs.declared.device.Device.TheVariants.{Control, Volume}
use Rattle.crash_plant.specs.Calls.{Elapses, SameSite}
use Rattle.crash_plant.specs.Choices.{Choice, IsChoice}
use Rattle.crash_plant.specs.Moments.{PlantState}
use Rattle.pair_table.specs.declared.row.PairRow.{PairRow}
use Rattle.passages.specs.Points.{last_point}
use Rattle.passages.proofs.InARow.{moments_rise}
use Rattle.site_means.specs.Images.{shape_of}
use Rattle.consistency.specs.Bearing.{GoesThroughPoints, ShowsPoint}
use Rattle.consistency.specs.Stages.{ScriptRun}
use Rattle.consistency.specs.Leads.{Point}
use Rattle.consistency.specs.Ways.{PassedPoint, Way, is_on_the_way}
use Rattle.xrc_session.specs.Frames.{ChangesRows}
use Rattle.xrc_session.specs.WrittenParts.{ArePassedWithin, PassesInParts, WritesInParts, WritesPart, WritesRows, WrittenPart, points_of_parts, rows_followed}
use Rattle.xrc_session.proofs.LastPoints.{last_append}
use Rattle.xrc_session.proofs.RowFrames.{differs_none}

-- ---- moments

passed_later : (from to upto : ℕ) (points : List PassedPoint) → from ≤ upto → ArePassedWithin upto to points → ArePassedWithin from to points
passed_later from to upto [] early passed = tt
passed_later from to upto (n ∷ points) early passed = (let first = passed.0 in omega (arith, early, first), passed.1, passed_later from to upto points early passed.2)

-- Points that devices go through are passed meanwhile.
pub passed_within : (run : ScriptRun) (plant : PlantState) (from to : ℕ) (p : Point) (points : List PassedPoint) (next : Option Point) → GoesThroughPoints run plant from p points to next → ArePassedWithin from to points
passed_within run plant from to p [] next goes = tt
passed_within run plant from to p (n ∷ points) next goes = (
  goes.0,
  moments_rise Point Way Choice (IsChoice plant) (ShowsPoint run (shape_of plant)) n.moment to n.point points next goes.3,
  passed_later from to n.moment points goes.0 (passed_within run plant n.moment to n.point points next goes.3),
)

-- A part takes no time or some.
part_rises : (plant : PlantState) (from : ℕ) (p : Point) (part : WrittenPart) → WritesPart plant from p part → from ≤ part.at
part_rises plant from p part (passed, inl followed) = followed.1.0
part_rises plant from p part (passed, inr none) = none.0

pub parts_rise : (plant : PlantState) (from to : ℕ) (p : Point) (parts : List WrittenPart) → WritesInParts plant from to p parts → from ≤ to
parts_rise plant from to p [] writes = omega (arith, writes)
parts_rise plant from to p (part ∷ parts) writes =
    let first = part_rises plant from p part writes.0 in
    let rest = parts_rise plant part.at to (last_point p part.points) parts writes.1 in
    omega (arith, first, rest)

-- ---- in turn

pub parts_append : (plant : PlantState) (from mid to : ℕ) (p : Point) (parts more : List WrittenPart) → WritesInParts plant from mid p parts → WritesInParts plant mid to (last_point p (points_of_parts parts)) more → WritesInParts plant from to p (parts ++ more)
parts_append plant from mid to p [] more first then = subst (λ (t : ℕ). WritesInParts plant t to p more) first then
parts_append plant from mid to p (part ∷ parts) more first then = (
  first.0,
  parts_append plant part.at mid to (last_point p part.points) parts more first.1
      (subst (λ (q : Point). WritesInParts plant mid to q more) (last_append p part.points (points_of_parts parts)) then),
)

-- Points that are passed in parts, and then more of them, are passed so together.
pub parts_then : (plant : PlantState) (from mid to : ℕ) (p : Point) (points more : List PassedPoint) → PassesInParts plant from mid p points → PassesInParts plant mid to (last_point p points) more → PassesInParts plant from to p (points ++ more)
parts_then plant from mid to p points more first then = (
  first.0 ++ then.0,
  points_append points more first.0 then.0 first.1 then.1,
  parts_append plant from mid to p first.0 then.0 first.2 (subst (λ (xs : List PassedPoint). WritesInParts plant mid to (last_point p xs) then.0) first.1 then.2),
)
  where
    points_append : (points more : List PassedPoint) (parts others : List WrittenPart) → points ≡ points_of_parts parts → more ≡ points_of_parts others → points ++ more ≡ points_of_parts (parts ++ others)
    points_append points more parts others one two = ap (λ (xs : List PassedPoint). xs ++ more) one ∙ ap (λ (xs : List PassedPoint). points_of_parts parts ++ xs) two ∙ sym (flat_map-append (λ part. part.points) parts others)

-- Where nothing is called no point is passed.
pub no_parts : (plant : PlantState) (p : Point) → PassesInParts plant plant.clock plant.clock p []
no_parts plant p = ([], refl, refl)

quiet_rows : (plant : PlantState) → WritesRows plant plant.clock plant.clock []
quiet_rows plant = (omega arith, λ d there t since within c is. let now : t ≡ plant.clock = omega (arith, since, within) in (c, subst (λ (n : ℕ). plant.images n (Volume d) c) now is, differs_none d [] c c refl))

-- Points that are passed where nothing is called are passed in one part.
pub part_quiet : (plant : PlantState) (p : Point) (points : List PassedPoint) → ArePassedWithin plant.clock plant.clock points → PassesInParts plant plant.clock plant.clock p points
part_quiet plant p points passed = (record { at = plant.clock; points = points } ∷ [], sym (append-nil points), ((passed, inr (quiet_rows plant)), refl))

-- ---- calls

module _ (old new : PlantState) (site : SameSite old new) (elapses : Elapses old new) (up : 0 < old.clock) where
  rows_stay : (from to : ℕ) (rows : List PairRow) → to ≤ old.clock → WritesRows old from to rows → WritesRows new from to rows
  rows_stay from to rows below w = (
    w.0,
    λ d there t since within c is.
        let was = w.1 d (omega (arith, there, site.volumes)) t since within c ((elapses.kept (Volume d)).same t up (omega (arith, within, below)) c is) in
        (was.0, (elapses.kept (Volume d)).all from up (omega (arith, w.0, below)) was.0 was.1, was.2),
  )

  part_stays : (from : ℕ) (p : Point) (part : WrittenPart) → part.at ≤ old.clock → WritesPart old from p part → WritesPart new from p part
  part_stays from p part below (passed, inl followed) = (passed, inl (followed.0, rows_stay from part.at (rows_followed p.rows) below followed.1))
  part_stays from p part below (passed, inr none) = (passed, inr (rows_stay from part.at [] below none))

  -- What was written stays as it was.
  pub parts_stay : (from to : ℕ) (p : Point) (parts : List WrittenPart) → to ≤ old.clock → WritesInParts old from to p parts → WritesInParts new from to p parts
  parts_stay from to p [] below writes = writes
  parts_stay from to p (part ∷ parts) below writes =
      let rest = parts_rise old part.at to (last_point p part.points) parts writes.1 in
      (part_stays from p part (omega (arith, rest, below)) writes.0, parts_stay part.at to (last_point p part.points) parts below writes.1)

  pub passed_parts_stay : (from to : ℕ) (p : Point) (points : List PassedPoint) → to ≤ old.clock → PassesInParts old from to p points → PassesInParts new from to p points
  passed_parts_stay from to p points below passes = (passes.0, passes.1, parts_stay from to p passes.0 below passes.2)

  rows_now : (rows : List PairRow) → ChangesRows rows old new → WritesRows new old.clock new.clock rows
  rows_now rows changes = (
    (elapses.kept Control).later,
    λ d there t since within c is.
        let was = changes.moments d (omega (arith, there, site.volumes)) t since within c is in
        (was.0, (elapses.kept (Volume d)).all old.clock up (omega arith) was.0 was.1, was.2),
  )

  -- Calls on the way write slots of rows that aren't suspended at first.
  pub part_on_the_way : (p : Point) (points : List PassedPoint) → ArePassedWithin old.clock new.clock points → list_all is_on_the_way points ≡ true → ChangesRows (rows_followed p.rows) old new → PassesInParts new old.clock new.clock p points
  part_on_the_way p points passed ways changes = (record { at = new.clock; points = points } ∷ [], sym (append-nil points), ((passed, inl (ways, rows_now (rows_followed p.rows) changes)), refl))

  -- Others write none.
  pub part_unwritten : (p : Point) (points : List PassedPoint) → ArePassedWithin old.clock new.clock points → ChangesRows [] old new → PassesInParts new old.clock new.clock p points
  part_unwritten p points passed changes = (record { at = new.clock; points = points } ∷ [], sym (append-nil points), ((passed, inr (rows_now [] changes)), refl))
