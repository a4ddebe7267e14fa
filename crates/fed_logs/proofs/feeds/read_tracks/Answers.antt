use Rattle.fed_logs.proofs.Stepping.{read_tracks}
use Rattle.fed_logs.proofs.feeds.read_tracks.Goals as goal

pub returns : goal.returns
returns c = read_tracks
