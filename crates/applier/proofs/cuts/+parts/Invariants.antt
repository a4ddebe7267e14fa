use Rattle.std.proofs.Common.{◌+◌, ◌*◌}
use Rattle.applier.proofs.cuts.+parts.Given as goal

abbrev pub decreases-work_on_both-first : goal.decreases-work_on_both-first
decreases-work_on_both-first g l = 3 * l.cuts + 1

abbrev pub decreases-work_on_both-second : goal.decreases-work_on_both-second
decreases-work_on_both-second g l = 3 * l.cuts + 1

abbrev pub decreases-work_in_parts : goal.decreases-work_in_parts
decreases-work_in_parts g l = 3 * l.cuts

abbrev pub decreases-work_on_both : goal.decreases-work_on_both
decreases-work_on_both g l = 3 * l.cuts + 2
