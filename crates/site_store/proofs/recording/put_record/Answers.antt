use Rattle.site_store.specs.Recording.{group_with}
use Rattle.site_store.proofs.RecordPuts.{here_by_placement, here_shows, spot_by_placement, switched_by_placement}
use Rattle.site_store.proofs.recording.put_record.Goals as goal

pub returns-in-Here-clause-shows : goal.returns-in-Here-clause-shows
returns-in-Here-clause-shows g c =
    let j = c.args.journal.now in
    let old = g.P.Plant.state c.args.plant.now in
    let new = g.P.Plant.state c.put_group.new.plant in
    let group = group_with c.args.cut.0 c.args.body.now.items in
    here_by_placement g.P.Plant.tells c.args.placement j.marked j.at group old new c.put_group.result c.in-Here.is
    (here_shows g.P.Plant.tells j.marked j.at group old new c.put_group.result (record { works = c.put_group.ensures.only; moments = c.put_group.ensures.moments }) c.put_group.ensures.put)

pub returns-in-Switched : goal.returns-in-Switched
returns-in-Switched g c =
    let j = c.args.journal.now in
    let old = g.P.Plant.state c.args.plant.now in
    let new = g.P.Plant.state c.put_switched.new.plant in
    let group = group_with c.args.cut.0 c.args.body.now.items in
    let k = c.put_switched in
    record {
      shows = switched_by_placement g.P.Plant.tells c.args.placement j.marked j.at group old new k.result c.in-Switched.is k.ensures.shows;
      at = spot_by_placement old.journals c.args.placement c.args.body.now.items j.at k.new.journal.at k.result c.in-Switched.is k.ensures.at;
      marked = k.ensures.marked;
      only = k.ensures.only;
      cause = k.ensures.cause;
      unspent = k.ensures.unspent;
    }
