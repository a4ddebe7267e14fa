use Rattle.std.proofs.Common.{refl, arith}
use Rattle.crash_plant.proofs.Seen.{seen_of_alike}
use Rattle.crash_plant.proofs.plain_plant.PlainPlant.make.Goals as goal

pub returns : goal.returns
returns c = record {
  has_journals = c.in_ok-zero_disks.ensures.number;
  has_volumes = c.in_ok-zero_places.ensures.number;
  control = c.in_ok-zeros.ensures;
  state = c.in_ok-zeros-2.ensures;
  each_journal = c.in_ok-zero_disks.ensures.zeros;
  each_volume = c.in_ok-zero_places.ensures.zeros;
  heard = refl;
  said = c.new.ensures.items;
  is_to_hear = refl;
  none_lent = λ v less. c.in_ok-zero_places.ensures.here v (omega (arith, less, c.in_ok-zero_places.ensures.number));
  faults = seen_of_alike 0 c.in_ok-zeros.field-0 c.in_ok-zeros-2.field-0 c.in_ok-zero_disks.field-0.items c.in_ok-zero_places.field-0.items;
  console_faults = refl;
}
