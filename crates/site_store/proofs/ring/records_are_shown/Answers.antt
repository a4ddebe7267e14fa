use Rattle.site_store.proofs.Meant.{group_had, group_put, switch_had, switch_put, untouched_shown}
use Rattle.site_store.proofs.ring.records_are_shown.Goals as goal

pub returns-clause-untouched : goal.returns-clause-untouched
returns-clause-untouched c = untouched_shown

pub returns-clause-puts_group : goal.returns-clause-puts_group
returns-clause-puts_group c = group_put

pub returns-clause-has_group : goal.returns-clause-has_group
returns-clause-has_group c = group_had

pub returns-clause-puts_switch : goal.returns-clause-puts_switch
returns-clause-puts_switch c = switch_put

pub returns-clause-has_switch : goal.returns-clause-has_switch
returns-clause-has_switch c = switch_had
