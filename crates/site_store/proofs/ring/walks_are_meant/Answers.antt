use Rattle.site_store.proofs.Meant.{group_added, kept_same, switch_added}
use Rattle.site_store.proofs.ring.walks_are_meant.Goals as goal

pub returns-clause-kept : goal.returns-clause-kept
returns-clause-kept c = kept_same

pub returns-clause-group : goal.returns-clause-group
returns-clause-group c = group_added

pub returns-clause-switch : goal.returns-clause-switch
returns-clause-switch c = switch_added
