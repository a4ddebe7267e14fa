use Rattle.std.proofs.Common.{rules, refl, ◌≡◌, ◌⊎◌, ◌<◌, List, [], ◌∷◌, ◌++◌, length, slice_index_or, ap, subst, sym, ◌∙◌}
use Rattle.std.specs.List.{Contains}
use Rattle.write_trace.specs.declared.header.VolumeHead.{VolumeHead}
use Rattle.pair_table.specs.declared.names.NamedVolume.{NamedVolume}
use Rattle.mover_tests.specs.Courses.{IsInHeader}
use Rattle.mover_tests.proofs.Opening.{noted_more}
use Rattle.mover_tests.proofs.lanes.note_volumes.Goals as goal

pub loop-volume-preserved : goal.loop-volume-preserved
loop-volume-preserved g c =
    let heads = c.args.header.now.volumes in
    let head = c.index-heads-volume.result in
    let volume = c.loop-volume.volume in
    let noted : NamedVolume = record { serial = head.serial; control = c.args.control; volume = volume; cylinders = head.cylinders } in
    let pushed : c.push.new.self.items ≡ c.loop-volume.named.items ++ noted ∷ [] = search rules in
    let low : volume < length heads = search rules in
    let same : head ≡ slice_index_or heads volume head = c.index-heads-volume.is ∙ ap (λ (l : List VolumeHead). slice_index_or l volume head) c.as_slice-heads.ensures in
    subst (λ (l : List NamedVolume). (v : NamedVolume) → Contains l v → Contains c.args.named.now.items v ⊎ IsInHeader c.args.control heads v) (sym pushed)
    (noted_more c.args.control heads c.args.named.now.items c.loop-volume.named.items noted head refl low (ap (λ (h : VolumeHead). h.cylinders) same) c.loop-volume.invariant)
