use Rattle.std.proofs.Common.{◌∙◌, ap, sym}
use Rattle.xrc_status.specs.declared.stop.Stop.TheVariants.{BadHeader}
use Rattle.xrc_session.proofs.NamedVolumes.{again_here, again_later, named_either_way}
use Rattle.xrc_session.proofs.opening.check_serials.Goals as goal

pub returns-then-contains-clause-again : goal.returns-then-contains-clause-again
returns-then-contains-clause-again c =
    let head = c.index-volumes-volume.result in
    let named = c.args.named.now in
    let again = sym (named_either_way named head.serial) ∙ sym c.contains.ensures.value ∙ c.if-contains.true in
    (c.loop-volume.volume, again_here named c.args.volumes.now c.loop-volume.volume head c.loop-volume-test.true c.index-volumes-volume.is c.loop-volume.invariant again, ap (BadHeader c.args.control) c.serial_place.ensures)

pub loop-volume-preserved : goal.loop-volume-preserved
loop-volume-preserved c =
    let head = c.index-volumes-volume.result in
    let named = c.args.named.now in
    let fresh = sym (named_either_way named head.serial) ∙ sym c.contains.ensures.value ∙ c.if-contains.false in
    again_later named c.args.volumes.now c.loop-volume.volume head c.loop-volume-test.true c.index-volumes-volume.is c.loop-volume.invariant fresh
