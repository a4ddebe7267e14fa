use Rattle.group_state.proofs.RunLaws.{no_late_join}
use Rattle.group_state.proofs.CutLaws.{forms_are_complete}
use Rattle.group_state.proofs.history_laws.runs_keep_to_cuts.Goals as goal

pub returns-clause-no_late_join : goal.returns-clause-no_late_join
returns-clause-no_late_join c = no_late_join

pub returns-clause-complete : goal.returns-clause-complete
returns-clause-complete c = forms_are_complete
