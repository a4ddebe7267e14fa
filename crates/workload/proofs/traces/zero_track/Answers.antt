use Rattle.std.proofs.Common.{◌≡◌, ◌+◌, ◌++◌, ◌∷◌, [], List, refl, sym, subst, map, arith}
use Rattle.std.specs.List.{range_with_len}
use Rattle.ckd_track.specs.declared.rec.Rec.{Rec}
use Rattle.ckd_track.specs.Tracks.{IsTrack}
use Rattle.workload.specs.Traces.{zero_record}
use Rattle.workload.proofs.Headers.{zeros_are_track}
use Rattle.workload.proofs.Ranges.{item_more}
use Rattle.workload.proofs.traces.zero_track.Goals as goal

pub push-requires : goal.push-requires
push-requires c =
    let n = c.loop-number.number in
    let recs = c.loop-number.track ++ c.in_ok-zero_record.field-0 ∷ [] in
    let are : recs ≡ map zero_record (range_with_len 1 (n + 1)) = item_more zero_record 1 n (n + 1) c.loop-number.track recs c.in_ok-zero_record.field-0 (omega arith) c.loop-number.invariant c.in_ok-zero_record.ensures refl in
    subst (λ (l : List Rec). IsTrack l) (sym are) (zeros_are_track n c.loop-number-test.true)

pub loop-number-preserved : goal.loop-number-preserved
loop-number-preserved c =
    item_more zero_record 1 c.loop-number.number (c.loop-number.number + 1) c.loop-number.track c.push.new.self c.in_ok-zero_record.field-0 (omega arith) c.loop-number.invariant c.in_ok-zero_record.ensures c.in_ok-push.ensures.ok
