use Rattle.write_trace.proofs.SerialPlaces.{serials_stand}
use Rattle.write_trace.proofs.laws.serials_stand_there.Goals as goal

pub returns : goal.returns
returns c = serials_stand
