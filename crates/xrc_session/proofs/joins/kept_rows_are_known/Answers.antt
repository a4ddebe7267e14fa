use Rattle.xrc_session.proofs.JoinsRows.{kept_known}
use Rattle.xrc_session.proofs.joins.kept_rows_are_known.Goals as goal

pub returns : goal.returns
returns c = kept_known
