use Rattle.std.proofs.Common.{◌≤◌, length, vec_capacity, vec_len}
use Rattle.third_copy.proofs.Finding.{Finding}
use Rattle.third_copy.proofs.jobs.jobs_of.Given as goal

-- the targets of the pairs before were looked for, and the list has room for the others
abbrev pub invariant-loop-place : goal.invariant-loop-place
invariant-loop-place g l = record {
  finding : Finding g.P.Plant.tells l.means l.shift l.place l.jobs.items (g.P.Plant.state l.fn.plant) (g.P.Plant.state l.plant);
  count : vec_len l.jobs ≤ l.place;
  places : length l.means.table.rows ≤ vec_capacity l.jobs;
}
