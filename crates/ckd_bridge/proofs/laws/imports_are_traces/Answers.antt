use Rattle.ckd_bridge.proofs.Imports.{headers_are_traces}
use Rattle.ckd_bridge.proofs.laws.imports_are_traces.Goals as goal

pub returns : goal.returns
returns c = headers_are_traces
