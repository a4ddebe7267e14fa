use Rattle.site_store.proofs.Walking.{throughs_walked, walks_through}
use Rattle.site_store.proofs.Meant.{end_entered, meant_ends, meant_low, meant_shut}
use Rattle.site_store.proofs.ring.walks_are_through.Goals as goal

pub returns-clause-through : goal.returns-clause-through
returns-clause-through c = walks_through

pub returns-clause-back : goal.returns-clause-back
returns-clause-back c = throughs_walked

pub returns-clause-end : goal.returns-clause-end
returns-clause-end c = meant_ends

pub returns-clause-shut : goal.returns-clause-shut
returns-clause-shut c = meant_shut

pub returns-clause-entered : goal.returns-clause-entered
returns-clause-entered c = end_entered

pub returns-clause-number : goal.returns-clause-number
returns-clause-number c = meant_low
