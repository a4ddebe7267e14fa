use Rattle.std.proofs.Common.{◌≡◌, take, false}
use Rattle.std.specs.List.{list_any}
use Rattle.site_store.proofs.Breaks.{is_break_of}
use Rattle.site_store.proofs.group_rows.break_time.Given as goal

-- no break before is the controller's
abbrev pub invariant-loop-found : goal.invariant-loop-found
invariant-loop-found l = list_any (is_break_of l.control) (take l.found-index l.formed.breaks) ≡ false
