use Rattle.crash_plant.specs.declared.device.Device.TheVariants.{State}
use Rattle.site_means.proofs.ReadAll.{reads_one}
use Rattle.site_means.proofs.examining.find_state.Goals as goal

pub returns-in-Ok-clause-others : goal.returns-in-Ok-clause-others
returns-in-Ok-clause-others g c = reads_one g.P.Plant.tells State _ _ tt c.get.ensures.same c.get.ensures.moments c.get.ensures.others

pub returns-in-Err-Damaged-clause-others : goal.returns-in-Err-Damaged-clause-others
returns-in-Err-Damaged-clause-others g c = reads_one g.P.Plant.tells State _ _ tt c.get.ensures.same c.get.ensures.moments c.get.ensures.others

pub returns-in-Err-Fault-clause-others : goal.returns-in-Err-Fault-clause-others
returns-in-Err-Fault-clause-others g c = reads_one g.P.Plant.tells State _ _ tt c.get.ensures.same c.get.ensures.moments c.get.ensures.others

pub returns-in-Err-NoMemory-clause-others : goal.returns-in-Err-NoMemory-clause-others
returns-in-Err-NoMemory-clause-others g c = reads_one g.P.Plant.tells State _ _ tt c.get.ensures.same c.get.ensures.moments c.get.ensures.others
