use Rattle.write_trace.specs.declared.entry.Entry.TheVariants.{Written, Idle}
use Rattle.write_trace.specs.declared.trace.TraceEnd.TheVariants.{Ended, BadTrace, ReadFault}
use Rattle.write_trace.proofs.Rests.{rest_is_read}
use Rattle.ckd_bridge.proofs.FollowedTraces.{one_entry}
use Rattle.ckd_bridge.proofs.followed_trace.last_stamp.Goals as goal

pub loop-write-preserved-in-Write : goal.loop-write-preserved-in-Write
loop-write-preserved-in-Write g c =
    let left = g.S.Source.left in
    let faults = g.S.Source.faults in
    (one_entry (left c.args.source.now) (left c.loop-write.source) (left c.next.new.source) (faults c.args.source.now) (faults c.loop-write.source) (faults c.next.new.source) c.args.reader.now c.loop-write.reader c.next.new.self c.loop-write.last.0 (Written c.in-Write.write) c.loop-write.invariant (c.in-Write.ensures.answer c.loop-write.invariant.so_far.goes_on)).0

pub loop-write-preserved-in-Write-2 : goal.loop-write-preserved-in-Write-2
loop-write-preserved-in-Write-2 g c =
    let left = g.S.Source.left in
    let faults = g.S.Source.faults in
    (one_entry (left c.args.source.now) (left c.loop-write.source) (left c.next.new.source) (faults c.args.source.now) (faults c.loop-write.source) (faults c.next.new.source) c.args.reader.now c.loop-write.reader c.next.new.self c.loop-write.last.0 (Written c.in-Write.write) c.loop-write.invariant (c.in-Write.ensures.answer c.loop-write.invariant.so_far.goes_on)).0

pub loop-write-preserved-in-Write-3 : goal.loop-write-preserved-in-Write-3
loop-write-preserved-in-Write-3 g c =
    let left = g.S.Source.left in
    let faults = g.S.Source.faults in
    (one_entry (left c.args.source.now) (left c.loop-write.source) (left c.next.new.source) (faults c.args.source.now) (faults c.loop-write.source) (faults c.next.new.source) c.args.reader.now c.loop-write.reader c.next.new.self c.loop-write.last.0 (Written c.in-Write.write) c.loop-write.invariant (c.in-Write.ensures.answer c.loop-write.invariant.so_far.goes_on)).0

pub loop-write-preserved : goal.loop-write-preserved
loop-write-preserved g c =
    let left = g.S.Source.left in
    let faults = g.S.Source.faults in
    (one_entry (left c.args.source.now) (left c.loop-write.source) (left c.next.new.source) (faults c.args.source.now) (faults c.loop-write.source) (faults c.next.new.source) c.args.reader.now c.loop-write.reader c.next.new.self c.loop-write.last.0 (Idle c.in-Idle.stamp) c.loop-write.invariant (c.in-Idle.ensures.answer c.loop-write.invariant.so_far.goes_on)).0

pub returns-in-Ended : goal.returns-in-Ended
returns-in-Ended g c =
    let left = g.S.Source.left in
    let faults = g.S.Source.faults in
    let read = c.loop-write.invariant in
    (read.entries, rest_is_read (left c.args.source.now) (left c.loop-write.source) (left c.next.new.source) (faults c.args.source.now) (faults c.loop-write.source) (faults c.next.new.source) c.args.reader.now c.loop-write.reader c.next.new.self read.entries Ended read.so_far c.requires.few c.requires.rules (c.in-Ended.ensures.answer read.so_far.goes_on), read.stamp_is)

pub returns-in-BadTrace : goal.returns-in-BadTrace
returns-in-BadTrace g c =
    let left = g.S.Source.left in
    let faults = g.S.Source.faults in
    let read = c.loop-write.invariant in
    (read.entries, rest_is_read (left c.args.source.now) (left c.loop-write.source) (left c.next.new.source) (faults c.args.source.now) (faults c.loop-write.source) (faults c.next.new.source) c.args.reader.now c.loop-write.reader c.next.new.self read.entries (BadTrace c.in-BadTrace.place) read.so_far c.requires.few c.requires.rules (c.in-BadTrace.ensures.answer read.so_far.goes_on), read.stamp_is)

pub returns-in-ReadFault : goal.returns-in-ReadFault
returns-in-ReadFault g c =
    let left = g.S.Source.left in
    let faults = g.S.Source.faults in
    let read = c.loop-write.invariant in
    (read.entries, rest_is_read (left c.args.source.now) (left c.loop-write.source) (left c.next.new.source) (faults c.args.source.now) (faults c.loop-write.source) (faults c.next.new.source) c.args.reader.now c.loop-write.reader c.next.new.self read.entries ReadFault read.so_far c.requires.few c.requires.rules (c.in-ReadFault.ensures.answer read.so_far.goes_on), read.stamp_is)
