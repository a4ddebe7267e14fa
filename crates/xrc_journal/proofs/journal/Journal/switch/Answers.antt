use Rattle.xrc_journal.specs.Items.{form_of}
use Rattle.xrc_journal.proofs.RingSwitches.{none_put}
use Rattle.xrc_journal.proofs.journal.Journal.switch.Goals as goal

pub returns-then-set-self-clause-moments : goal.returns-then-set-self-clause-moments
returns-then-set-self-clause-moments g c told = let old = g.P.Plant.state c.args.plant.now in none_put (form_of old) old.journals c.args.self.now.marked c.args.self.now.at c.args.cut.0 old
