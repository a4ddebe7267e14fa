use Rattle.group_state.proofs.RunLaws.{forms_give_groups}
use Rattle.group_state.proofs.Causes.{breaks_were_reported}
use Rattle.group_state.proofs.CopiedTracks.{copies_were_reported}
use Rattle.group_state.proofs.DonePlans.{done_plans_are_shown}
use Rattle.group_state.proofs.history_laws.forms_give_groups.Goals as goal

pub returns-clause-groups : goal.returns-clause-groups
returns-clause-groups c = forms_give_groups

pub returns-clause-breaks : goal.returns-clause-breaks
returns-clause-breaks c = breaks_were_reported

pub returns-clause-done : goal.returns-clause-done
returns-clause-done c = done_plans_are_shown

pub returns-clause-copies : goal.returns-clause-copies
returns-clause-copies c = copies_were_reported
