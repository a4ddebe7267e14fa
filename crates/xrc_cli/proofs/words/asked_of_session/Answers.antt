use Rattle.xrc_cli.proofs.words.asked_of_session.Goals as goal

pub returns-in-recover-clause-range : goal.returns-in-recover-clause-range
returns-in-recover-clause-range c = tt

pub returns-in-advance-clause-range : goal.returns-in-advance-clause-range
returns-in-advance-clause-range c = tt

pub returns-in-query-clause-range : goal.returns-in-query-clause-range
returns-in-query-clause-range c = tt
