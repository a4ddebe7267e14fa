use Rattle.std.proofs.Common.{◌∙◌, List, sym, ap}
use Rattle.write_trace.specs.declared.header.VolumeHead.{VolumeHead}
use Rattle.ckd_bridge.specs.NamedVolumes.{first_of_serial, volume_numbered}
use Rattle.ckd_bridge.proofs.FollowedTraces.{header_refused, is_found, not_named}
use Rattle.ckd_bridge.proofs.followed_trace.find_volume.Goals as goal

pub returns-in-Err-clause-found : goal.returns-in-Err-clause-found
returns-in-Err-clause-found g c = λ bytes told.
    let left = g.S.Source.left in
    let faults = g.S.Source.faults in
    rw c.stop_of_bad_header.ensures
    (header_refused (left c.args.trace.now) (left c.start.new.source) (faults c.args.trace.now) (faults c.start.new.source) c.args.serial c.args.stamp.0 c.in-Err.error bytes c.in-Err.ensures told)

pub returns-in-Err-volume_numbered-clause-found : goal.returns-in-Err-volume_numbered-clause-found
returns-in-Err-volume_numbered-clause-found g c = λ bytes told.
    let left = g.S.Source.left in
    let none = ap (λ (v : List VolumeHead). volume_numbered c.in-Ok.started.0.version v (first_of_serial c.args.serial v)) (sym c.as_slice.ensures) ∙ sym c.in-Err-volume_numbered.ensures in
    not_named (left c.args.trace.now) (left c.start.new.source) c.in-Ok.started.0 c.in-Ok.started.1 c.args.serial c.args.stamp.0 c.in-Err-volume_numbered.stop bytes c.in-Ok.ensures.0 told none

pub returns-in-Ok-last_stamp-clause-found : goal.returns-in-Ok-last_stamp-clause-found
returns-in-Ok-last_stamp-clause-found g c = λ bytes told.
    let left = g.S.Source.left in
    let faults = g.S.Source.faults in
    let named = ap (λ (v : List VolumeHead). volume_numbered c.in-Ok.started.0.version v (first_of_serial c.args.serial v)) (sym c.as_slice.ensures) ∙ sym c.in-Ok-volume_numbered.ensures in
    let (entries, rest, last_is) = c.in-Ok-last_stamp.ensures in
    rw c.volume_at_end.ensures
    (is_found (left c.args.trace.now) (left c.start.new.source) (left c.last_stamp.new.source) (faults c.start.new.source) (faults c.last_stamp.new.source) c.in-Ok.started.0 c.in-Ok.started.1 entries c.in-Ok-last_stamp.last.0 c.in-Ok-last_stamp.end c.in-Ok-volume_numbered.volume c.args.serial c.args.stamp.0 bytes
    c.in-Ok.ensures.0 told named rest last_is)
