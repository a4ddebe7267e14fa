use Rattle.mover.proofs.Ending.{stands_for_rows_again}
use Rattle.mover.proofs.borne.done_deeds_stand.Goals as goal

pub returns : goal.returns
returns g c = stands_for_rows_again (g.P.Plant.state c.args.old.now) (g.P.Plant.state c.args.new.now)
