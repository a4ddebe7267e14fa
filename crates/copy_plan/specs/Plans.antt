-- What a copy plan is to its callers.
use Rattle.std.specs.Prelude.{◌≡◌, ℕ, ◌+◌, ◌-◌, ◌≤◌, ◌<◌, ◌^◌, ◌==◌, ◌&&◌, List, Bool, false, length}
use Rattle.change_map.specs.Sets.{has_track, without_track, size}

pub record PlanState : Type 0 where
  -- the tracks that are wanted
  pub wanted : List Bool
  -- how many were joined and are not yet formed
  pub joined : ℕ

-- the plan that wants exactly the tracks of a set, of which none is joined
abbrev pub fresh_plan : (tracks : List Bool) → PlanState
fresh_plan tracks = record { wanted = tracks; joined = 0 }

-- the plan after a wanted track was joined: it is wanted no longer
abbrev pub with_joined : PlanState → (track : ℕ) → PlanState
with_joined plan x = record { wanted = without_track plan.wanted x; joined = plan.joined + 1 }

-- the plan after a joined track was formed
abbrev pub with_formed : PlanState → PlanState
with_formed plan = record plan { joined = plan.joined - 1 }

-- whether nothing is wanted, and all that was joined is formed
abbrev pub is_complete : PlanState → Bool
is_complete plan = size plan.wanted == 0 && plan.joined == 0

-- A plan is sound beside its map: no more is joined than is wanted no longer; how many tracks are wanted; and a track
-- below which none is.
pub record IsPlanSound (tracks : List Bool) (left from joined : ℕ) : Type 0 where
  pub few : length tracks < 2 ^ 32
  pub counted : left ≡ size tracks
  pub within : joined + left ≤ length tracks
  pub start : from ≤ length tracks
  pub none_before : (x : ℕ) → x < from → has_track tracks x ≡ false
