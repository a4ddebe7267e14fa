use Rattle.passages.proofs.InARow.{all_shown, in_a_row, moments_rise, on_its_way, some_shown}
use Rattle.passages.proofs.laws.points_are_passed.Goals as goal

pub returns-clause-row : goal.returns-clause-row
returns-clause-row g c = in_a_row g.row.Point.Denot g.row.Way.Denot g.row.Left.Denot g.T.Passage.left g.T.Passage.shows

pub returns-clause-seen : goal.returns-clause-seen
returns-clause-seen g c = some_shown g.row.Point.Denot g.row.Way.Denot g.row.Left.Denot g.T.Passage.left g.T.Passage.shows

pub returns-clause-rise : goal.returns-clause-rise
returns-clause-rise g c = moments_rise g.row.Point.Denot g.row.Way.Denot g.row.Left.Denot g.T.Passage.left g.T.Passage.shows

pub returns-clause-good : goal.returns-clause-good
returns-clause-good g c = all_shown g.row.Point.Denot g.row.Way.Denot g.row.Left.Denot g.T.Passage.left g.T.Passage.shows g.T.Passage.is_good

pub returns-clause-on_its_way : goal.returns-clause-on_its_way
returns-clause-on_its_way g c = on_its_way g.row.Point.Denot g.row.Way.Denot g.row.Left.Denot g.T.Passage.left g.T.Passage.shows
