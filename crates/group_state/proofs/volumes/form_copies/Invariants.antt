use Rattle.std.proofs.Common.{◌≡◌, take}
use Rattle.pending_queue.specs.Entries.{copies, due}
use Rattle.group_state.specs.Volumes.{with_formed_copies}
use Rattle.group_state.proofs.volumes.form_copies.Given as goal

abbrev pub invariant-loop-place : goal.invariant-loop-place
invariant-loop-place l = l.volumes ≡ with_formed_copies l.initial.volumes (copies (due l.cut (take l.place l.queue.state.waiting)))
