use Rattle.std.proofs.Common.{◌≡◌, List, get_or, Some, ap, sym, subst, ◌∙◌, refl}
use Rattle.std.specs.Prelude.{slice_set}
use Rattle.pending_queue.specs.Entries.{WaitingEntry, entry_tracks, without_volume}
use Rattle.pending_queue.specs.Queues.{with_waiting}
use Rattle.group_state.specs.declared.volume.Volume.{Volume}
use Rattle.group_state.specs.Volumes.{volume_of, dropped_volume}
use Rattle.group_state.proofs.VolumeLaws.{none_changed, has_none, found_number}
use Rattle.group_state.proofs.SoundLaws.{none_waits, none_out, unknown_none, tracks_within}
use Rattle.group_state.proofs.volumes.drop_volume.Goals as goal

pub returns-in_default-clause-queue : goal.returns-in_default-clause-queue
returns-in_default-clause-queue c =
    let v = c.args.number in
    let volumes = c.args.volumes.now in
    let queue = c.args.queue.now.state in
    ap (λ (es : List WaitingEntry). with_waiting queue es) (sym (none_out v queue.waiting (none_waits v volumes queue.waiting (unknown_none v volumes (has_none v volumes (c.in_default.ensures.none refl))) c.requires.entries)))

pub returns-in_default-clause-volumes : goal.returns-in_default-clause-volumes
returns-in_default-clause-volumes c =
    sym (none_changed c.args.number (dropped_volume c.args.all (entry_tracks c.args.number c.args.queue.now.state.waiting)) c.args.volumes.now (c.in_default.ensures.none refl))

pub drop_from-requires : goal.drop_from-requires
drop_from-requires c =
    let volumes = c.args.volumes.now in
    let u = get_or volumes c.in-Some.place c.index-volumes-place.result in
    let found = c.in-Some.ensures.some.found c.index-volumes-place.result in
    record { tracks = tracks_within u.number u volumes c.args.queue.now.state.waiting (subst (λ n. volume_of n volumes ≡ Some u) (sym (found_number c.args.number volumes u found)) found) c.requires.entries }

pub returns-clause-queue : goal.returns-clause-queue
returns-clause-queue c =
    let volumes = c.args.volumes.now in
    let queue = c.args.queue.now.state in
    let u = get_or volumes c.in-Some.place c.index-volumes-place.result in
    let number = found_number c.args.number volumes u (c.in-Some.ensures.some.found c.index-volumes-place.result) in
    c.drop_from.ensures.queue ∙ ap (λ n. with_waiting queue (without_volume n queue.waiting)) number

pub returns-clause-volumes : goal.returns-clause-volumes
returns-clause-volumes c =
    let volumes = c.args.volumes.now in
    let waiting = c.args.queue.now.state.waiting in
    let place = c.in-Some.place in
    let d = c.index-volumes-place.result in
    let u = get_or volumes place d in
    let number = found_number c.args.number volumes u (c.in-Some.ensures.some.found d) in
    ap (λ (x : Volume). slice_set volumes place x) c.drop_from.ensures.volume
    ∙ ap (λ n. slice_set volumes place (dropped_volume c.args.all (entry_tracks n waiting) u)) number
    ∙ c.in-Some.ensures.some.changes (dropped_volume c.args.all (entry_tracks c.args.number waiting)) d
