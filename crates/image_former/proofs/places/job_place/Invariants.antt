use Rattle.std.proofs.Common.{◌≡◌, take, false}
use Rattle.std.specs.List.{list_any}
use Rattle.image_former.specs.Jobs.{is_job_of}
use Rattle.image_former.proofs.places.job_place.Given as goal

-- no job before is the device's
abbrev pub invariant-loop-place : goal.invariant-loop-place
invariant-loop-place g l = list_any (is_job_of l.device) (take l.place l.jobs) ≡ false
