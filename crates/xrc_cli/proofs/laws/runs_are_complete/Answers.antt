use Rattle.xrc_cli.proofs.Complete.{is_complete}
use Rattle.xrc_cli.proofs.laws.runs_are_complete.Goals as goal

pub returns : goal.returns
returns g c = λ told session storage before now status sources ends given opens good quiet below.
    is_complete g.P.Plant.tells told g.P.Plant.state g.S.Source.left g.S.Source.faults c.args.old.now c.args.new.now session storage before now status sources ends given opens good quiet below
