use Rattle.std.proofs.Common.{◌≡◌, ◌++◌, ◌∙◌, ℕ, map, ap, arith}
use Rattle.std.specs.List.{flat_map, range_with_len}
use Rattle.ckd_track.specs.declared.write.Write.{Write}
use Rattle.write_trace.specs.declared.entry.Entry.TheVariants.{Written}
use Rattle.write_trace.specs.Entries.{entry_spelling}
use Rattle.workload.specs.Traces.{generated_entry}
use Rattle.workload.proofs.Ranges.{part_more}
use Rattle.workload.proofs.traces.append_writes.Goals as goal

pub loop-place-preserved : goal.loop-place-preserved
loop-place-preserved c =
    part_more (entry_spelling 1) (generated_entry c.args.number c.args.control) c.loop-place.place c.args.out.now c.loop-place.out c.write-in-loop-place.new.out c.loop-place.invariant
    (c.in_ok-write-2.ensures.ok ∙ ap (λ (w : Write). c.loop-place.out ++ entry_spelling 1 (Written w)) c.in_ok-write.ensures)

pub returns : goal.returns
returns c =
    let at : c.loop-place.place ≡ 500 = omega (arith, c.loop-place-test.false, c.loop-place.auto.place-end) in
    c.loop-place.invariant ∙ ap (λ (n : ℕ). c.args.out.now ++ flat_map (entry_spelling 1) (map (generated_entry c.args.number c.args.control) (range_with_len 0 n))) at
