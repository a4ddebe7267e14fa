use Rattle.xrc_cli.proofs.words.asked_of_two.Goals as goal

pub returns-then-eq-clause-range : goal.returns-then-eq-clause-range
returns-then-eq-clause-range c = tt
