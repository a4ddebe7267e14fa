use Rattle.std.proofs.Common.{◌≡◌, ◌<◌, List, Bool, true, length, take, get_or, ap, sym, ◌∙◌, arith, eq-eqb}
use Rattle.pending_queue.specs.declared.head.EntryHead.{EntryHead}
use Rattle.pending_queue.specs.Entries.{entry_tracks}
use Rattle.pending_queue.specs.Maps.{with_tracks}
use Rattle.change_map.specs.Sets.{with_track}
use Rattle.std.proofs.lemmas.List.{length-set}
use Rattle.pending_queue.proofs.VolumeLaws.{some_entry, track_below, mapped_more, mapped_same}
use Rattle.pending_queue.proofs.queue.map_tracks.Goals.{then-head-volume, else-head-volume}
use Rattle.pending_queue.proofs.queue.map_tracks.Goals as goal

pub set-requires : goal.set-requires
set-requires c =
    let waiting = c.args.waiting.now.entries in
    let k = c.loop-place.place in
    let d = some_entry c.head-head.result in
    let volume : (get_or waiting k d).head.volume ≡ c.args.volume = ap (λ (h : EntryHead). h.volume) (sym (c.head-head.ensures d)) ∙ c.if-head-volume.true in
    let below = track_below c.args.volume _ waiting k d c.requires.tracks (omega (arith, c.loop-place-test.true, c.len-place-end.ensures.count)) (eq-eqb _ _ volume) in
    omega (arith, below, ap (λ (h : EntryHead). h.track) (c.head-head.ensures d), c.loop-place.invariant.same_length)

pub loop-place-preserved : goal.loop-place-preserved
loop-place-preserved c =
    let waiting = c.args.waiting.now.entries in
    let k = c.loop-place.place in
    let d = some_entry c.head-head.result in
    let lt : k < length waiting = omega (arith, c.loop-place-test.true, c.len-place-end.ensures.count) in
    let volume = ap (λ (h : EntryHead). h.volume) (c.head-head.ensures d) in
    elim c.if-head-volume.branch [
      | then-head-volume w ↦
          let set = w.map-is ∙ w.set.ensures ∙ ap (λ (m : List Bool). with_track m c.head-head.result.track) c.loop-place.invariant.mapped in
          record {
            mapped =
                set ∙ ap (λ (h : EntryHead). with_track (with_tracks c.args.map.now (entry_tracks c.args.volume (take k waiting))) h.track) (c.head-head.ensures d)
                ∙ sym (mapped_more c.args.map.now c.args.volume waiting k d lt (sym volume ∙ w.if-head-volume.true));
            same_length = ap length (w.map-is ∙ w.set.ensures) ∙ length-set c.loop-place.map c.head-head.result.track true ∙ c.loop-place.invariant.same_length;
          }
      | else-head-volume w ↦ record {
        mapped = w.map-is ∙ c.loop-place.invariant.mapped ∙ sym (mapped_same c.args.map.now c.args.volume waiting k d lt (λ is. w.if-head-volume.false (volume ∙ is)));
        same_length = ap length w.map-is ∙ c.loop-place.invariant.same_length;
      }
    ]
