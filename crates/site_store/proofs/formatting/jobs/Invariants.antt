use Rattle.std.proofs.Common.{◌≡◌, true, false, length, map, replicate}
use Rattle.site_store.specs.Jobs.{are_home_from, has_job_failed}
use Rattle.site_store.proofs.formatting.jobs.Given as goal

-- the jobs of the volumes before this one
abbrev pub invariant-loop-device : goal.invariant-loop-device
invariant-loop-device g l = record {
  home : are_home_from 0 l.jobs.items ≡ true;
  size : length l.jobs.items ≡ l.device;
  good : map has_job_failed l.jobs.items ≡ replicate l.device false;
}
