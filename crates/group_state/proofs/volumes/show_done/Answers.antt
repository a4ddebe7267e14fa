use Rattle.group_state.specs.Volumes.{is_done_after}
use Rattle.group_state.proofs.NewsRoom.{one_done_fits}
use Rattle.group_state.proofs.volumes.show_done.Goals as goal

pub add_done-requires : goal.add_done-requires
add_done-requires c =
    let queue = c.args.queue.now.state in
    record { room = one_done_fits c.args.out.now c.loop-place.out queue.control (is_done_after c.args.cut queue.waiting) c.args.volumes.now c.loop-place.place c.loop-place.invariant c.loop-place-test.true c.requires.room }
