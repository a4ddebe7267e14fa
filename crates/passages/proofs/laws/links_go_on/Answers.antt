use Rattle.passages.proofs.InARow.{links_go_on}
use Rattle.passages.proofs.laws.links_go_on.Goals as goal

pub returns : goal.returns
returns g c = links_go_on g.row.Base.Denot g.row.Next.Denot g.T.Links.link g.T.Links.after
