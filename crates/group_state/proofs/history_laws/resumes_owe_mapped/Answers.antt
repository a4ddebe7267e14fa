use Rattle.group_state.proofs.Sizes.{resumes_owe_mapped}
use Rattle.group_state.proofs.history_laws.resumes_owe_mapped.Goals as goal

pub returns : goal.returns
returns c = resumes_owe_mapped
