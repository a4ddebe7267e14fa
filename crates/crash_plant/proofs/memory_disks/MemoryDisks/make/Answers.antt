use Rattle.crash_plant.proofs.FreshDisks.{fresh_is, fresh_view}
use Rattle.crash_plant.proofs.memory_disks.MemoryDisks.make.Goals as goal

pub returns-clause-fresh : goal.returns-clause-fresh
returns-clause-fresh c = fresh_view (record { control = c.new.result; state = c.new-2.result; journals = c.in_ok-journals.journals; volumes = c.in_ok-volumes.volumes }) c.args.control c.args.state c.args.journals.items c.args.volumes.items
    (fresh_is c.new.result c.args.control c.new.ensures.held c.new.ensures.base c.new.ensures.past) (fresh_is c.new-2.result c.args.state c.new-2.ensures.held c.new-2.ensures.base c.new-2.ensures.past)
    c.in_ok-journals.ensures.number c.in_ok-journals.ensures.fresh c.in_ok-volumes.ensures.number c.in_ok-volumes.ensures.fresh
