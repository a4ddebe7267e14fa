use Rattle.std.proofs.Common.{refl}
use Rattle.xrc_cli.proofs.laws.limits_are_fixed.Goals as goal

pub returns : goal.returns
returns c = record {
  controls = refl;
  control_volumes = refl;
  cylinders = refl;
  narrow_cylinders = refl;
  tracks = refl;
  run_writes = refl;
  trace = refl;
  lines = refl;
  line = refl;
  heard = refl;
  input = refl;
  fewest_journals = refl;
  journals = refl;
  site_volumes = refl;
  last_device = refl;
  rows = refl;
  row = refl;
  narrow_row = refl;
  block = refl;
  track = refl;
  update = refl;
  slot = refl;
  first_slot = refl;
  cylinder = refl;
  control = refl;
  state = refl;
  second_mark = refl;
  second_state = refl;
  switch = refl;
  beside_controls = refl;
  of_control = refl;
  body = refl;
}
