use Rattle.std.proofs.Common.{List, take, ap, sym, ◌∙◌}
use Rattle.std.proofs.lemmas.List.Sums.{fold_more}
use Rattle.ckd_track.specs.declared.write.Write.{Write}
use Rattle.group_state.specs.declared.volume.Volume.{Volume}
use Rattle.group_state.specs.Volumes.{with_write, with_writes}
use Rattle.group_state.specs.SoundStates.{are_within}
use Rattle.group_state.proofs.SoundLaws.{all_within_write}
use Rattle.group_state.proofs.volumes.note_writes.Goals as goal

pub loop-write-preserved : goal.loop-write-preserved
loop-write-preserved c =
    let volumes = c.args.volumes.now in
    let writes = c.args.writes.now in
    let i = c.loop-write.write-index in
    let w = c.write-item.result in
    record {
      noted = c.note_write.ensures ∙ ap (λ (us : List Volume). with_write us w) c.loop-write.invariant.noted
          ∙ ap (λ (x : Write). with_write (with_writes volumes (take i writes)) x) c.write-item.is ∙ sym (fold_more with_write volumes writes i w c.loop-write-test.true);
      within = ap (λ (us : List Volume). are_within us writes) c.note_write.ensures ∙ all_within_write w c.loop-write.volumes writes c.loop-write.invariant.within;
    }
