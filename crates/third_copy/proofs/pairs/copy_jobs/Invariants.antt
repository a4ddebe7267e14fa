use Rattle.std.proofs.Common.{◌≤◌, length, vec_capacity, vec_len}
use Rattle.third_copy.proofs.JobsDone.{JobsSoFar}
use Rattle.third_copy.proofs.pairs.copy_jobs.Given as goal

-- the jobs before are done, or they failed, and the list has room for the others
abbrev pub invariant-loop-job : goal.invariant-loop-job
invariant-loop-job g l = record {
  so_far : JobsSoFar g.P.Plant.tells l.jobs l.failed l.job-index l.done.items (g.P.Plant.state l.fn.plant) (g.P.Plant.state l.plant);
  count : vec_len l.done ≤ l.job-index;
  places : length l.jobs ≤ vec_capacity l.done;
}
