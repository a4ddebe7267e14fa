use Rattle.std.proofs.Common.{◌≡◌, [], count_by}
use Rattle.std.specs.List.{AllZip}
use Rattle.image_former.specs.Steps.{GoesBy, is_job_live}
use Rattle.image_former.proofs.forming.form_all.Given as goal

-- the body is empty again
abbrev pub invariant-loop-body : goal.invariant-loop-body
invariant-loop-body g l = AllZip (GoesBy g.D.Disk.state g.D.Disk.tells l.table.rows l.formed.entries) l.fn.jobs l.jobs
    × (l.body.items ≡ []) × (l.body.room ≡ l.fn.body.room)

-- Each round leaves one live job fewer.
abbrev pub decreases-loop-body : goal.decreases-loop-body
decreases-loop-body g l = count_by is_job_live l.jobs
