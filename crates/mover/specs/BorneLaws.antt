-- The laws of deeds that bear. Each is the contract of a public function.
use Rattle.std.specs.Prelude.{ℕ, suc, ◌<◌, ◌≤◌, List, length, take, Option, Some, None}
use Rattle.crash_plant.specs.Choices.{AtEveryMoment, AtNow, Choice, IsChoice}
use Rattle.crash_plant.specs.Moments.{PlantState}
use Rattle.site_means.specs.Images.{shape_of}
use Rattle.site_store.specs.DeedChanges.{deeds_of}
use Rattle.site_store.specs.DoneDeeds.{BeginsDeeds, DoesDeeds}
use Rattle.pair_table.specs.declared.row.PairRow.{PairRow}
use Rattle.fed_logs.specs.Moves.{Plans}
use Rattle.consistency.specs.Bearing.{Bears, ShowsPoint}
use Rattle.consistency.specs.Leads.{Point}
use Rattle.consistency.specs.Ways.{IsAtWork}
use Rattle.mover.specs.Points.{point_after_deeds}
use Rattle.mover.specs.OwedTracks.{CarriedAsLive, FailedAreOwed}
use Rattle.mover.specs.Working.{LinesAsked, IsKeptToEnd, PassesPoints, SeesFirst, StandsForRows, Work, WorkBegins}
use Rattle.mover.specs.Working.{excepted_last, last_point_of, named_steps, point_then, time_then}

-- ---- what is seen

-- What a choice shows after the first of the deeds is the point that is meant then: each duplex row's device holds its primary's tracks.
abbrev pub SeenDeedsShowPoints : PlantState → Type 0
SeenDeedsShowPoints start = (work : Work) → WorkBegins start work → (n : ℕ) → n ≤ length work.steps → (c : Choice) → SeesFirst start work n c
    → ShowsPoint work.run (shape_of start) (point_then n work) c

-- It bears the time that is meant then, by its rows and breaks too.
abbrev pub SeenDeedsBear : PlantState → Type 0
SeenDeedsBear start = (work : Work) → WorkBegins start work → (n : ℕ) → n ≤ length work.steps → (c : Choice) → SeesFirst start work n c
    → Bears work.run work.stage (shape_of start) c (time_then n work)

-- ---- at every moment

-- calls that begin the work's deeds, and calls that do them all
abbrev pub Begins : (old new : PlantState) → Work → Type 0
Begins old new work = BeginsDeeds work.excepted work.leg.point.rows (deeds_of work.steps) old new

abbrev pub DoesWork : (old new : PlantState) → Work → Type 0
DoesWork old new work = DoesDeeds work.excepted work.leg.point.rows (deeds_of work.steps) old new

-- Each moment of calls that begin the deeds bears: whatever a crash leaves then bears one time.
abbrev pub BegunDeedsBear : (old new : PlantState) → Type 0
BegunDeedsBear old new = (work : Work) → WorkBegins old work → 0 < old.clock → Begins old new work
    → AtEveryMoment (λ c. (time : ℕ) × Bears work.run work.stage (shape_of new) c time) old new

-- the point after one deed more than there are moments
abbrev pub next_point : Work → (moments : List ℕ) → Option Point
next_point work moments = Some (point_after_deeds work.run.level work.leg.point (take (suc (length moments)) (named_steps work)))

-- Calls that begin the deeds pass their points, and the next one is on its way. Calls that do them all pass all.
abbrev pub BegunDeedsPassPoints : (old new : PlantState) → Type 0
BegunDeedsPassPoints old new = (work : Work) (asked : LinesAsked) → WorkBegins old work → IsAtWork work.run asked work.leg
    → (begins : Begins old new work) → PassesPoints old new work asked begins.moments (named_steps work) (next_point work begins.moments)

abbrev pub DoneDeedsPassPoints : (old new : PlantState) → Type 0
DoneDeedsPassPoints old new = (work : Work) (asked : LinesAsked) → WorkBegins old work → IsAtWork work.run asked work.leg
    → (does : DoesWork old new work) → PassesPoints old new work asked does.moments (named_steps work) None

-- ---- at the end

-- Where all of the mover's calls were kept and all deeds are done, the shared state stands for the rows again, at the point that is meant then,
-- which whatever a crash leaves shows. There is some choice at the start. Rows that their devices suspended on the way have had their volumes
-- dropped with all tracks by then, and volumes are carried as their rows are live.
abbrev pub StandsForRowsAgain : (old new : PlantState) → Type 0
StandsForRowsAgain old new = (work : Work) (time : ℕ) (rows : List PairRow) (known : Plans)
    → WorkBegins old work → DoesWork old new work → IsKeptToEnd work time rows known
    → FailedAreOwed work.size work.ended rows → CarriedAsLive work.ended rows → (some : (c : Choice) × IsChoice old old.clock c)
    → StandsForRows work.run work.size new (excepted_last work) work.ended (last_point_of work) known
    × AtNow (ShowsPoint work.run (shape_of new) (last_point_of work)) new
