use Rattle.site_store.proofs.Syncs.{SyncedJobs}
use Rattle.site_store.proofs.syncing.sync_in_turn.Given as goal

-- the volumes before are synced
abbrev pub invariant-loop-place : goal.invariant-loop-place
invariant-loop-place g l = SyncedJobs g.P.Plant.tells l.written l.fn.jobs l.jobs l.place (g.P.Plant.state l.fn.plant) (g.P.Plant.state l.plant)
