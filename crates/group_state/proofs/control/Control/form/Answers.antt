use Rattle.std.proofs.Common.{List, length, drop, ap, sym, subst, ◌∙◌, arith}
use Rattle.pending_queue.specs.Entries.{copies, due}
use Rattle.group_state.specs.declared.volume.Volume.{Volume}
use Rattle.group_state.specs.Volumes.{with_formed_copies}
use Rattle.group_state.specs.Controls.{ControlState}
use Rattle.group_state.specs.SoundStates.{AreVolumesSound}
use Rattle.pending_queue.proofs.EntryLaws.{due_within}
use Rattle.group_state.proofs.SoundLaws.{written_back}
use Rattle.group_state.proofs.Numbers.{volumes_formed}
use Rattle.group_state.proofs.control.Control.form.Goals as goal

pub invariant_of-self : goal.invariant_of-self
invariant_of-self c =
    let s = c.self.inside in
    let view : ControlState = record { queue = s.queue.state; floor = s.floor; phase = s.phase; volumes = s.volumes.items } in
    let new = c.form_copies.new.volumes in
    let queue = c.pop_upto.ensures.left in
    let phase = c.after-self-inside.ensures in
    let items = written_back s.volumes.len new (drop (length new) s.volumes.items) (omega arith) ∙ c.form_copies.ensures.formed
    ∙ ap (λ (us : List Volume). with_formed_copies us (copies (due c.args.cut s.queue.state.waiting))) c.as_mut_slice.ensures.value in
    subst AreVolumesSound (λ i. record { queue = sym queue i; floor = s.floor; phase = sym phase i; volumes = sym items i }) (volumes_formed c.args.cut view c.self.invariant)

pub pop_upto-requires : goal.pop_upto-requires
pop_upto-requires c = record { room = omega (arith, due_within c.args.cut c.self.inside.queue.state.waiting, ap (λ (v : ControlState). v.queue.records) c.self.view_is, c.requires.few, c.requires.room, c.form_copies.ensures.few) }

pub returns-clause-few : goal.returns-clause-few
returns-clause-few c =
    omega (arith, due_within c.args.cut c.args.self.now.queue.waiting, ap (λ (v : ControlState). length v.queue.waiting) c.self.view_is, ap (λ (v : ControlState). v.queue.records) c.self.view_is, c.requires.few, c.form_copies.ensures.few)
