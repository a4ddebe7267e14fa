use Rattle.xrc_journal.proofs.RingWalking.{sets_in_turn}
use Rattle.xrc_journal.proofs.RingOnes.{walks_through_one, walks_within}
use Rattle.xrc_journal.proofs.laws.walks_enter_sets_in_turn.Goals as goal

pub returns : goal.returns
returns c = record { turn = sets_in_turn; one = walks_through_one; within = walks_within }
