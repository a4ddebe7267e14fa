use Rattle.xrc_cli.proofs.CopiesHold.{copies_hold}
use Rattle.xrc_cli.proofs.laws.copies_hold_primaries.Goals as goal

pub returns : goal.returns
returns g c = λ told session shift status ends failed pairs run p shows r pair good before z left x below.
    copies_hold g.P.Plant.tells told (g.P.Plant.state c.args.old.now) (g.P.Plant.state c.args.new.now) session shift status ends failed pairs run p shows r pair good before z left x below
