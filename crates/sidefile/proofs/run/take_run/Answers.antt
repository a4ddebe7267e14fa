use Rattle.write_trace.specs.Entries.{stamp_of as stamp_of_entry}
use Rattle.sidefile.proofs.Collects.{collected_none, collected_more, next_run, run_ends, not_put, same_number, other_number}
use Rattle.sidefile.proofs.run.take_run.Goals as goal

pub loop-entry-init : goal.loop-entry-init
loop-entry-init g c = collected_none (g.S.Source.left c.args.source.now) (g.S.Source.faults c.args.source.now) c.args.reader.now c.args.stamp.0 c.args.writes.now c.requires.room c.requires.last c.requires.goes_on

pub returns-in_default : goal.returns-in_default
returns-in_default g c = run_ends c.loop-entry.invariant c.look_ahead-found.result c.in_default.not-Next (c.look_ahead-found.ensures.finds c.loop-entry.invariant.goes_on)

pub returns-then-ne : goal.returns-then-ne
returns-then-ne g c =
    let reads = c.in-Next.ensures.finds c.loop-entry.invariant.goes_on in
    let other = other_number c.stamp_of.result.0 c.args.stamp.0 (stamp_of_entry c.in-Next.entry) c.stamp_of.ensures c.if-ne.ensures in
    next_run c.loop-entry.invariant c.in-Next.entry reads.0 other reads.1

pub returns-in-Err : goal.returns-in-Err
returns-in-Err g c =
    let reads = c.in-Next.ensures.finds c.loop-entry.invariant.goes_on in
    let same = same_number c.stamp_of.result.0 c.args.stamp.0 (stamp_of_entry c.in-Next.entry) c.stamp_of.ensures c.if-ne.ensures in
    not_put c.loop-entry.invariant c.in-Next.entry c.add.new.writes c.in-Err.why reads.0 same c.in-Err.ensures reads.1

pub loop-entry-preserved : goal.loop-entry-preserved
loop-entry-preserved g c =
    let reads = c.in-Next.ensures.finds c.loop-entry.invariant.goes_on in
    let put = c.in_default-add.ensures in
    let same = same_number c.stamp_of.result.0 c.args.stamp.0 (stamp_of_entry c.in-Next.entry) c.stamp_of.ensures c.if-ne.ensures in
    collected_more c.loop-entry.invariant c.in-Next.entry c.add.new.writes reads.0 same put.0 put.1 reads.1
