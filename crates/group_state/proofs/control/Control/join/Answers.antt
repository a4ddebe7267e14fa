use Rattle.std.proofs.Common.{◌≡◌, Bool, true, false, List, ◌++◌, length, drop, ap, sym, subst, ◌∙◌, arith}
use Rattle.std.specs.Prelude.{◌↔◌, filter}
use Rattle.ckd_track.specs.declared.write.Batch.{Batch}
use Rattle.ckd_track.specs.declared.write.Write.{Write}
use Rattle.pending_queue.specs.Entries.{entries_of, last_stamp}
use Rattle.pending_queue.specs.Queues.{with_waiting, free_room}
use Rattle.pending_queue.specs.Rooms.{has_room}
use Rattle.pending_queue.proofs.VolumeLaws.{carried_never_fall}
use Rattle.group_state.specs.declared.volume.Volume.{Volume}
use Rattle.group_state.specs.Volumes.{is_carried, with_writes}
use Rattle.group_state.specs.Controls.{ControlState, fits}
use Rattle.group_state.specs.SoundStates.{AreVolumesSound, MayJoin}
use Rattle.group_state.proofs.SoundLaws.{batch_rises, written_back}
use Rattle.group_state.proofs.Numbers.{volumes_joined}
use Rattle.group_state.proofs.control.Control.join.Goals as goal

pub push_carried-requires-clause-stamps : goal.push_carried-requires-clause-stamps
push_carried-requires-clause-stamps c =
    let s = c.self.inside in
    let view : ControlState = record { queue = s.queue.state; floor = s.floor; phase = s.phase; volumes = s.volumes.items } in
    let volumes = c.as_slice.result.now in
    carried_never_fall (λ w. is_carried volumes w) (last_stamp s.queue.state.waiting) c.args.batch.now.writes
    (batch_rises c.args.batch.now view c.self.invariant.sound (subst (λ (v : ControlState). MayJoin v c.args.batch.now) (sym c.self.view_is) c.requires.legal))

-- whether it is refused, said of the controller's value
same_full : (refused : Bool) (view now : ControlState) (volumes : List Volume) (b : Batch) → volumes ≡ view.volumes → view ≡ now
    → ((refused ≡ true) ↔ (has_room (free_room view.queue) (filter (λ w. is_carried volumes w) b.writes) ≡ false)) → (refused ≡ true) ↔ (fits now b ≡ false)
same_full refused view now volumes b same is full =
    subst (λ (v : ControlState). (refused ≡ true) ↔ (fits v b ≡ false)) is
    (subst (λ (us : List Volume). (refused ≡ true) ↔ (has_room (free_room view.queue) (filter (λ w. is_carried us w) b.writes) ≡ false)) same full)

pub invariant_of-self-2 : goal.invariant_of-self-2
invariant_of-self-2 c =
    let s = c.self.inside in
    let q = s.queue.state in
    let b = c.args.batch.now in
    let view : ControlState = record { queue = q; floor = s.floor; phase = s.phase; volumes = s.volumes.items } in
    let new = c.note_writes.new.volumes in
    let queue = c.in_ok-push_carried.ensures.pushed ∙ ap (λ (us : List Volume). with_waiting q (q.waiting ++ entries_of q.control (filter (λ w. is_carried us w) b.writes))) c.as_slice.ensures.value in
    let items = written_back s.volumes.len new (drop (length new) s.volumes.items) (omega arith) ∙ c.note_writes.ensures
    ∙ ap (λ (us : List Volume). with_writes us c.as_slice-2.result.now) c.as_mut_slice.ensures.value ∙ ap (λ (ws : List Write). with_writes s.volumes.items ws) c.as_slice-2.ensures in
    subst AreVolumesSound (λ i. record { queue = sym queue i; floor = b.upto; phase = s.phase; volumes = sym items i })
    (volumes_joined b view c.self.invariant (subst (λ (v : ControlState). MayJoin v b) (sym c.self.view_is) c.requires.legal))

pub returns-clause-full : goal.returns-clause-full
returns-clause-full c =
    let s = c.self.inside in
    let view : ControlState = record { queue = s.queue.state; floor = s.floor; phase = s.phase; volumes = s.volumes.items } in
    same_full false view c.args.self.now c.as_slice.result.now c.args.batch.now c.as_slice.ensures.value c.self.view_is c.in_ok-push_carried.ensures.full
