use Rattle.std.proofs.Common.{◌-◌, List, ◌∷◌, [], ◌++◌, length, take, sym, ap, subst, ◌∙◌, arith, length-append, append_assoc}
use Rattle.std.specs.Prelude.{filter, nat_le}
use Rattle.std.proofs.lemmas.Bool.{and_parts, leb-true}
use Rattle.std.proofs.lemmas.List.{length-map, map-append}
use Rattle.std.proofs.lemmas.List.Sums.{sum_by_push}
use Rattle.ckd_track.specs.declared.write.Write.{Write}
use Rattle.ckd_track.specs.Entries.{queue_form}
use Rattle.block_region.specs.Regions.{free_blocks}
use Rattle.pending_queue.specs.Entries.{WaitingEntry, entry_of, entries_of}
use Rattle.pending_queue.specs.Rooms.{blocks_of, blocks_needed}
use Rattle.pending_queue.specs.Waitings.{WaitingState, SameMemory}
use Rattle.pending_queue.proofs.Waits.{same_through}
use Rattle.pending_queue.proofs.VolumeLaws.{next_within, next_count, carried_more, carried_same}
use Rattle.pending_queue.proofs.pushing.push_entries.Goals.{then-carries, else-carries}
use Rattle.pending_queue.proofs.pushing.push_entries.Goals as goal

pub push_write-requires-clause-record : goal.push_write-requires-clause-record
push_write-requires-clause-record g c =
    let carries = g.C.Carrier.carries c.args.carrier.now in
    let writes = c.args.writes.now in
    let waiting = c.args.waiting.now in
    let all = filter carries writes in
    let before = filter carries (take c.loop-write.write-index writes) in
    let room = and_parts (nat_le (length all) (waiting.most - length waiting.entries)) (nat_le (blocks_needed all) (free_blocks waiting.region)) c.requires.room in
    let next = next_count carries writes c.loop-write.write-index c.write-item.result c.loop-write-test.true c.write-item.is (sym c.carries.ensures ∙ c.if-carries.true) in
    omega (arith, leb-true _ _ room.0, next, ap length c.loop-write.invariant.pushed, length-append waiting.entries (entries_of c.args.control before), length-map before (entry_of c.args.control), c.loop-write.invariant.same.most)

pub push_write-requires-clause-blocks : goal.push_write-requires-clause-blocks
push_write-requires-clause-blocks g c =
    let carries = g.C.Carrier.carries c.args.carrier.now in
    let writes = c.args.writes.now in
    let waiting = c.args.waiting.now in
    let all = filter carries writes in
    let room = and_parts (nat_le (length all) (waiting.most - length waiting.entries)) (nat_le (blocks_needed all) (free_blocks waiting.region)) c.requires.room in
    let next = next_within carries (λ (write : Write). blocks_of (length (queue_form write))) writes c.loop-write.write-index c.write-item.result c.loop-write-test.true c.write-item.is (sym c.carries.ensures ∙ c.if-carries.true) in
    omega (arith, leb-true _ _ room.1, next, c.loop-write.invariant.free)

pub loop-write-preserved : goal.loop-write-preserved
loop-write-preserved g c =
    let carries = g.C.Carrier.carries c.args.carrier.now in
    let writes = c.args.writes.now in
    let control = c.args.control in
    let first = c.args.waiting.now.entries in
    let item = c.write-item.result in
    let before = filter carries (take c.loop-write.write-index writes) in
    let kept = c.loop-write.invariant in
    elim c.if-carries.branch [
      | then-carries w ↦
          let more = carried_more carries writes c.loop-write.write-index item c.loop-write-test.true c.write-item.is (sym c.carries.ensures ∙ w.if-carries.true) in
          record {
            pushed =
                ap (λ (s : WaitingState). s.entries) w.waiting-is ∙ w.push_write.ensures.pushed ∙ ap (λ (es : List WaitingEntry). es ++ entry_of control item ∷ []) kept.pushed
                ∙ append_assoc first (entries_of control before) (entry_of control item ∷ []) ∙ ap (λ (es : List WaitingEntry). first ++ es) (sym (map-append (entry_of control) before (item ∷ [])))
                ∙ ap (λ (ws : List Write). first ++ entries_of control ws) (sym more);
            free = omega (arith, ap (λ (s : WaitingState). free_blocks s.region) w.waiting-is, w.push_write.ensures.free, kept.free, ap blocks_needed more, sum_by_push (λ (write : Write). blocks_of (length (queue_form write))) before item);
            same = same_through _ _ _ _ kept.same w.push_write.ensures.same w.waiting-is;
            buffer = ap length w.form-is ∙ w.push_write.ensures.buffer ∙ kept.buffer;
          }
      | else-carries w ↦
          let same = carried_same carries writes c.loop-write.write-index item c.loop-write-test.true c.write-item.is (sym c.carries.ensures ∙ w.if-carries.false) in
          record {
            pushed = ap (λ (s : WaitingState). s.entries) w.waiting-is ∙ kept.pushed ∙ ap (λ (ws : List Write). first ++ entries_of control ws) (sym same);
            free = omega (arith, ap (λ (s : WaitingState). free_blocks s.region) w.waiting-is, kept.free, ap blocks_needed same);
            same = subst (SameMemory c.args.waiting.now) (sym w.waiting-is) kept.same;
            buffer = ap length w.form-is ∙ kept.buffer;
          }
    ]
