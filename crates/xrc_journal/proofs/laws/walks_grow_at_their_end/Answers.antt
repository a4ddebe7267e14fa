use Rattle.xrc_journal.proofs.RingWalking.{walks_kept, groups_added, switches_added}
use Rattle.xrc_journal.proofs.laws.walks_grow_at_their_end.Goals as goal

pub returns : goal.returns
returns c = record { kept = walks_kept; group = groups_added; switch = switches_added }
