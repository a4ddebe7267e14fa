use Rattle.site_store.proofs.RingPlants.{all_end, end_durable, room_read}
use Rattle.site_store.proofs.ring.walks_end.Goals as goal

pub returns-clause-end : goal.returns-clause-end
returns-clause-end g c = all_end (g.P.Plant.state c.args.plant.now)

pub returns-clause-room : goal.returns-clause-room
returns-clause-room g c = room_read (g.P.Plant.state c.args.plant.now)

pub returns-clause-durable : goal.returns-clause-durable
returns-clause-durable g c = end_durable (g.P.Plant.state c.args.plant.now)
