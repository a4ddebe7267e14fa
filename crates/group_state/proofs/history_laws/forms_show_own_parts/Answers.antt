use Rattle.group_state.proofs.OwnParts.{own_part}
use Rattle.group_state.proofs.history_laws.forms_show_own_parts.Goals as goal

pub returns : goal.returns
returns c = own_part
