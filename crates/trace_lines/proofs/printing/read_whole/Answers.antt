use Rattle.std.proofs.Common.{rules, Some}
use Rattle.trace_lines.proofs.Wholes.{whole_trace_ends, bad_entry}
use Rattle.trace_lines.proofs.printing.read_whole.Goals as goal

pub returns-in-Ended-clause-whole : goal.returns-in-Ended-clause-whole
returns-in-Ended-clause-whole c = whole_trace_ends c.args.trace.now (Some c.in_ok-source.source.left) (Some c.start.new.source.left) (Some c.read_entries.new.source.left) c.start.new.source.faults c.read_entries.new.source.faults c.in_ok-header.header c.in_ok-header.reader c.in_ok-entries.entries c.in_ok-entries.end (search rules) c.in-Ended.is c.in_ok-header.ensures.0 c.in_ok-entries.ensures.reads

pub returns-in-BadTrace-clause-cause : goal.returns-in-BadTrace-clause-cause
returns-in-BadTrace-clause-cause c = bad_entry c.args.trace.now (Some c.in_ok-source.source.left) (Some c.start.new.source.left) (Some c.read_entries.new.source.left) c.start.new.source.faults c.read_entries.new.source.faults c.in-BadTrace.place c.in_ok-header.header c.in_ok-header.reader c.in_ok-entries.entries c.in_ok-entries.end (search rules) c.in-BadTrace.is c.in_ok-header.ensures.0 c.in_ok-entries.ensures.reads
