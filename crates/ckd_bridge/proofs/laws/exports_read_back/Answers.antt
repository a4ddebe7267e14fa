use Rattle.ckd_bridge.proofs.Exports.{tracks_are_exported}
use Rattle.ckd_bridge.proofs.laws.exports_read_back.Goals as goal

pub returns : goal.returns
returns c = tracks_are_exported
