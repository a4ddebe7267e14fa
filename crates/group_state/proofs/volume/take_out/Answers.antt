use Rattle.std.proofs.Common.{List, length, Bool, cond, ap, sym, ◌∙◌}
use Rattle.change_map.specs.Sets.{every_track}
use Rattle.pending_queue.specs.Entries.{entry_tracks}
use Rattle.pending_queue.specs.Maps.{with_tracks}
use Rattle.group_state.proofs.SoundLaws.{length_tracks}
use Rattle.group_state.proofs.volume.take_out.Goals as goal

pub returns-then-all-clause-map : goal.returns-then-all-clause-map
returns-then-all-clause-map c =
    let tracks = entry_tracks c.args.number c.args.queue.now.state.waiting in
    let map = c.args.map.now in
    c.set_all.ensures ∙ ap (λ (m : List Bool). every_track (length m)) c.drop_volume.ensures.mapped ∙ ap every_track (length_tracks map tracks)
    ∙ ap (λ (b : Bool). cond b (every_track (length map)) (with_tracks map tracks)) (sym c.if-all.true)
