use Rattle.primary_ctl.specs.States.{is_place, found}
use Rattle.primary_ctl.proofs.Places.{put_at}
use Rattle.primary_ctl.proofs.held.Held.put.Goals as goal

pub returns : goal.returns
returns c = λ v t. put_at (is_place c.args.volume c.args.track (v, t)) (found c.insert.new.self.entries v t) (found c.args.self.now v t) c.args.content
    (rw (← c.self.view_is) (c.in_ok-insert.ensures.updates.0 (v, t)))
