use Rattle.std.proofs.Common.{◌≡◌, List, ◌++◌, length, take, drop, ap, sym, subst, ◌∙◌, arith}
use Rattle.tod_stamp.specs.declared.stamp.Stamp.{Stamp}
use Rattle.group_state.specs.declared.volume.Volume.{Volume}
use Rattle.group_state.specs.Volumes.{with_volume, copied_track, is_wanted}
use Rattle.group_state.specs.Controls.{ControlState, copied}
use Rattle.group_state.specs.SoundStates.{AreVolumesSound, is_track_within}
use Rattle.group_state.proofs.SoundLaws.{last_up_to, written_back}
use Rattle.group_state.proofs.Numbers.{volumes_copied}
use Rattle.group_state.proofs.control.Control.copied.Goals as goal

pub push_track-requires : goal.push_track-requires
push_track-requires c =
    let s = c.self.inside in
    record { last = omega (arith, last_up_to s.floor 0 s.queue.state.waiting (omega arith) c.self.invariant.sound.stamps, ap (λ (t : Stamp). t.0) c.requires.floor, ap (λ (v : ControlState). v.floor.0) c.self.view_is) }

-- what is closed is the controller with the track joined
closed : (c : goal.After-self-1) → (let s = c.self.inside in
    let view : ControlState = record { queue = s.queue.state; floor = s.floor; phase = s.phase; volumes = s.volumes.items } in
    let new = c.join_copy.new.volumes in
    let now : ControlState = record { queue = c.push_track.new.self.state; floor = s.floor; phase = s.phase; volumes = take s.volumes.len (new ++ drop (length new) s.volumes.items) } in
    now ≡ copied c.args.number c.args.track c.args.at c.args.slot.now view)
closed c =
    let s = c.self.inside in
    let new = c.join_copy.new.volumes in
    let queue = c.in_ok-push_track.ensures.pushed in
    let items = written_back s.volumes.len new (drop (length new) s.volumes.items) (omega arith) ∙ c.join_copy.ensures ∙ ap (λ (us : List Volume). with_volume c.args.number (copied_track c.args.track) us) c.as_mut_slice.ensures.value in
    λ i. record { queue = queue i; floor = s.floor; phase = s.phase; volumes = items i }

pub invariant_of-self-2 : goal.invariant_of-self-2
invariant_of-self-2 c =
    let s = c.self.inside in
    let view : ControlState = record { queue = s.queue.state; floor = s.floor; phase = s.phase; volumes = s.volumes.items } in
    let same : view ≡ c.args.self.now = c.self.view_is in
    subst AreVolumesSound (sym (closed c))
    (volumes_copied c.args.number c.args.track c.args.at c.args.slot.now view c.self.invariant (c.requires.floor ∙ ap (λ (v : ControlState). v.floor) (sym same))
    (ap (λ (v : ControlState). is_wanted c.args.number c.args.track v.volumes) same ∙ c.requires.wanted) (ap (λ (v : ControlState). is_track_within v.volumes c.args.number c.args.track) same ∙ c.requires.track))

pub returns-clause-joined : goal.returns-clause-joined
returns-clause-joined c = closed c ∙ ap (copied c.args.number c.args.track c.args.at c.args.slot.now) c.self.view_is
