use Rattle.group_state.proofs.Sizes.{sizes_are_told, numbers_are_kept}
use Rattle.group_state.proofs.history_laws.sizes_are_told.Goals as goal

pub returns-clause-sizes : goal.returns-clause-sizes
returns-clause-sizes c = sizes_are_told

pub returns-clause-numbers : goal.returns-clause-numbers
returns-clause-numbers c = numbers_are_kept
