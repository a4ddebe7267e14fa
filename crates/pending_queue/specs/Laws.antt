-- The laws of queues and groups. Each is the contract of a public function without parameters.
use Rattle.std.specs.Prelude.{◌≡◌, List, count_by, Bool}
use Rattle.pending_queue.specs.Entries.{WaitingEntry, stands_before}
use Rattle.xrc_edge.specs.Order.{in_order}

-- A group that is put in order has the same entries, each as often.
abbrev pub GroupsKeepEntries : Type 0
GroupsKeepEntries = (test : WaitingEntry → Bool) (entries : List WaitingEntry) → count_by test (in_order stands_before entries) ≡ count_by test entries
