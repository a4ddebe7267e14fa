use Rattle.xrc_cli.proofs.words.asked_of_three.Goals as goal

pub returns-clause-range : goal.returns-clause-range
returns-clause-range c = tt
