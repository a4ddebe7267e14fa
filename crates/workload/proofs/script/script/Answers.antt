use Rattle.std.proofs.Common.{◌++◌, ◌∙◌, List, ℕ, ap}
use Rattle.workload.specs.declared.script.TheConstants.{SCRIPT}
use Rattle.workload.proofs.script.script.Goals as goal

pub returns : goal.returns
returns c = c.in_ok-extend_from_slice.ensures.ok ∙ ap (λ (l : List ℕ). l ++ SCRIPT) c.make-script.ensures
