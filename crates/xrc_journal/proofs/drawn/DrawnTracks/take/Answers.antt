use Rattle.xrc_journal.specs.Bodies.{earlier_of}
use Rattle.xrc_journal.proofs.DrawnSets.{one_more}
use Rattle.xrc_journal.proofs.drawn.DrawnTracks.take.Goals as goal

pub returns-in-Ok-clause-known : goal.returns-in-Ok-clause-known
returns-in-Ok-clause-known c = λ kept. one_more c.args.self.now.tracks.keys c.insert.new.self.keys (earlier_of c.args.body.now).drawn c.args.device c.args.track c.in-Ok.ensures.updates.0 (c.requires.known kept)
