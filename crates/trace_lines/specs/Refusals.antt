-- Why bytes have no lines: they are no whole trace.
use Rattle.std.specs.Prelude.{◌≡◌, ℕ, List, false, Ok, Err}
use Rattle.write_trace.specs.declared.trace.Trace.{Trace}
use Rattle.write_trace.specs.declared.trace.TraceEnd.{TraceEnd}
use Rattle.write_trace.specs.declared.trace.TraceEnd.TheVariants.{Ended, BadTrace}
use Rattle.write_trace.specs.declared.trace.HeaderError.{HeaderError}
use Rattle.write_trace.specs.declared.trace.HeaderError.TheVariants as headers
use Rattle.write_trace.specs.WholeTraces.{trace_of}
use Rattle.trace_lines.specs.declared.refusal.Unread.{Unread}
use Rattle.trace_lines.specs.declared.refusal.Unread.TheVariants as unread

-- The bytes are a trace with that end.
abbrev pub HasTraceEnd : (bytes : List ℕ) → TraceEnd → Type 0
HasTraceEnd bytes end = (trace : Trace) × (trace_of false bytes ≡ Ok trace) × (trace.end ≡ end)

-- What is so where bytes are refused: the first bad field of a header or the first bad entry stands at that place. Want of memory alone is free.
abbrev pub IsCause : (bytes : List ℕ) → Unread → Type 0
IsCause bytes unread.NoMemory = Unit {0}
IsCause bytes (unread.BadHeader place) = trace_of false bytes ≡ Err (headers.BadHeader place)
IsCause bytes (unread.BadTrace place) = HasTraceEnd bytes (BadTrace place)
IsCause bytes unread.OtherLines = HasTraceEnd bytes Ended

-- what is answered where no header was read
abbrev pub unread_of : HeaderError → Unread
unread_of (headers.BadHeader place) = unread.BadHeader place
unread_of headers.HeaderFault = unread.NoMemory
unread_of headers.NoMemory = unread.NoMemory
