use Rattle.xrc_session.proofs.NamedVolumes.{may_name, named_next, serials_next}
use Rattle.xrc_session.proofs.opening.name_volumes.Goals as goal

pub primary-requires : goal.primary-requires
primary-requires c =
    let before = c.loop-volume in
    may_name c.args.control c.args.volumes.now c.args.named.now.items c.args.names.now before.names before.volume c.index-volumes-volume.result c.requires.control c.requires.heads c.requires.few c.requires.apart c.loop-volume-test.true c.index-volumes-volume.is
    before.invariant.0

pub loop-volume-preserved : goal.loop-volume-preserved
loop-volume-preserved c =
    let before = c.loop-volume in
    let head = c.index-volumes-volume.result in (
      named_next c.args.control c.args.volumes.now c.args.names.now before.names c.primary.new.self before.volume head c.loop-volume-test.true c.index-volumes-volume.is before.invariant.0 c.in_ok-primary.ensures.ok,
      serials_next c.args.volumes.now c.args.named.now.items before.named.items c.push.new.self.items before.volume head c.loop-volume-test.true c.index-volumes-volume.is before.invariant.1 c.in_ok-push.ensures.items,
    )
