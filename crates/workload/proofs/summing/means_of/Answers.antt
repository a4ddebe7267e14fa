use Rattle.std.proofs.Common.{Result, Err, ap}
use Rattle.crash_plant.specs.PlainPlant.{plain_state}
use Rattle.site_means.specs.declared.means.Means.{Means}
use Rattle.site_means.specs.declared.site_error.SiteError.{SiteError}
use Rattle.site_means.specs.Meaning.{meaning}
use Rattle.workload.proofs.Holding.{has_session, is_whole}
use Rattle.workload.proofs.Leaving.{leaves_read, never_rises}
use Rattle.workload.proofs.summing.means_of.Goals as goal

-- the answer of an error
abbrev failed : SiteError → Result Means SiteError
failed e = Err e

pub unreachable-requires : goal.unreachable-requires
unreachable-requires c =
    let old = plain_state c.args.plant.now in
    has_session (meaning old old.bytes) c.requires.means c.in-Err-NoSession.field-0 c.requires.meant (c.in-Err-NoSession.ensures.says tt) c.in-Err-NoSession.field-0-is

pub unreachable-requires-in-Err-Damaged : goal.unreachable-requires-in-Err-Damaged
unreachable-requires-in-Err-Damaged c =
    let old = plain_state c.args.plant.now in
    is_whole (meaning old old.bytes) c.requires.means c.in-Err-Damaged.field-0 c.requires.meant (c.in-Err-Damaged.ensures.says tt) c.in-Err-Damaged.field-0-0 c.in-Err-Damaged.field-0-1 c.in-Err-Damaged.field-0-is

pub unreachable-requires-in-Err-Fault : goal.unreachable-requires-in-Err-Fault
unreachable-requires-in-Err-Fault c = never_rises c.args.plant.now c.examine.new.plant c.in-Err-Fault.field-0-0 (c.in-Err-Fault.ensures.cause.rose c.in-Err-Fault.field-0-0 (ap failed c.in-Err-Fault.field-0-is))

pub unreachable-requires-in-Err-TooSmall : goal.unreachable-requires-in-Err-TooSmall
unreachable-requires-in-Err-TooSmall c =
    let short = (c.in-Err-TooSmall.ensures.too_small c.in-Err-TooSmall.field-0-0 c.in-Err-TooSmall.field-0-1 (ap failed c.in-Err-TooSmall.field-0-is)).0 in
    let long = c.requires.long in
    cc

pub returns-in-Ok-clause-leaves : goal.returns-in-Ok-clause-leaves
returns-in-Ok-clause-leaves c = leaves_read c.args.plant.now c.examine.new.plant c.examine.ensures.others

pub returns-in-Err-NoMemory-clause-leaves : goal.returns-in-Err-NoMemory-clause-leaves
returns-in-Err-NoMemory-clause-leaves c = leaves_read c.args.plant.now c.examine.new.plant c.examine.ensures.others
