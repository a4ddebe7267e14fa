use Rattle.fed_logs.proofs.LiveEntries.{live_in_turn}
use Rattle.fed_logs.proofs.logs.live_entries_in_turn.Goals as goal

pub returns : goal.returns
returns c = live_in_turn
