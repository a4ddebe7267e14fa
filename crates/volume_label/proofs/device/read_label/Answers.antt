use Rattle.std.proofs.Common.{◌≡◌, ℕ, take, sym, subst, true, IfSome, arith, length-take}
use Rattle.crash_plant.specs.declared.device.Device.TheVariants.{Volume}
use Rattle.volume_label.specs.Labels.{holds_cylinders}
use Rattle.volume_label.proofs.Labels.{room_of, short_none}
use Rattle.volume_label.proofs.device.read_label.Goals as goal

pub returns-then-length-clause-label : goal.returns-then-length-clause-label
returns-then-length-clause-label g c = λ told.
    let old = g.P.Plant.state c.args.plant.now in
    let bytes = old.bytes (Volume c.args.device) in
    let size = g.met.P.Plant.length_told c.args.plant.now (Volume c.args.device) told c.requires in
    sym (short_none (old.lengths (Volume c.args.device)) (take 14 bytes) (omega (arith, size, c.length-length.ensures, c.if-length.true, length-take 14 bytes)))

pub returns-clause-room : goal.returns-clause-room
returns-clause-room g c =
    let old = g.P.Plant.state c.args.plant.now in
    subst (λ (n : ℕ). IfSome c.decode_label.result (λ l. holds_cylinders n l.cylinders ≡ true)) c.length-length.ensures (room_of c.length-length.result c.read.new.into c.decode_label.result c.decode_label.ensures)
