use Rattle.std.proofs.Common.{refl}
use Rattle.workload.proofs.laws.input_is_fixed.Goals as goal

pub returns : goal.returns
returns c = record {
  controls = refl;
  volumes = refl;
  cylinders = refl;
  records = refl;
  content = refl;
  writes = refl;
  first_stamp = refl;
  pairs = refl;
  journals = refl;
}
