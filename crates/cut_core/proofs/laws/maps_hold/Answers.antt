use Rattle.cut_core.proofs.Maps.{maps_hold as proof}
use Rattle.cut_core.proofs.laws.maps_hold.Goals as goal

pub returns : goal.returns
returns c = proof
