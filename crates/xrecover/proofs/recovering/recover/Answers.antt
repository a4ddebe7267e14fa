use Rattle.xrecover.proofs.recovering.recover.Goals as goal

pub returns-clause-labels : goal.returns-clause-labels
returns-clause-labels g c = λ told. (c.redo_site.ensures.treats told).0

pub returns-clause-named : goal.returns-clause-named
returns-clause-named g c = λ told. (c.redo_site.ensures.treats told).1
