use Rattle.std.proofs.Common.{◌∙◌, ℕ, ap, sym, Ok, Result}
use Rattle.std.specs.Prelude.{bytes_eq}
use Rattle.std.proofs.lemmas.List.Quantifiers.{position-Some}
use Rattle.write_trace.specs.declared.header.VolumeHead.{VolumeHead}
use Rattle.write_trace.proofs.Keeping.{cylinders_is}
use Rattle.ckd_bridge.specs.declared.named_volume.NamedVolume.{NamedVolume}
use Rattle.ckd_bridge.specs.declared.stop.Stop.{Stop}
use Rattle.ckd_bridge.specs.NamedVolumes.{volume_numbered}
use Rattle.ckd_bridge.proofs.named_volume.volume_numbered.Goals as goal

pub returns-in-Some : goal.returns-in-Some
returns-in-Some c =
    let volumes = c.args.volumes.now in
    let found = sym c.in-Some.ensures in
    let there = (position-Some (λ (v : VolumeHead). bytes_eq v.serial c.args.serial) volumes c.in-Some.number c.index-volumes-number.result found).0 in
    let made : ℕ → Result NamedVolume Stop = λ k. Ok (record { version = c.args.version; number = c.in-Some.number; cylinders = k }) in
    ap made (cylinders_is volumes c.in-Some.number c.index-volumes-number.result there) ∙ ap (volume_numbered c.args.version volumes) (sym found)
