use Rattle.cut_core.proofs.Complete.{complete}
use Rattle.cut_core.proofs.Late.{no_late}
use Rattle.cut_core.proofs.Copies.{copies_are_between}
use Rattle.cut_core.proofs.laws.cut_theorem.Goals as goal

pub returns-clause-no_late_write : goal.returns-clause-no_late_write
returns-clause-no_late_write c = no_late

pub returns-clause-copies : goal.returns-clause-copies
returns-clause-copies c = copies_are_between

pub returns-clause-complete : goal.returns-clause-complete
returns-clause-complete c = complete
