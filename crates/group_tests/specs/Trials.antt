-- The entries of a queue that is tried at random.
use Rattle.std.specs.Prelude.{ℕ, ◌&&◌, List, Bool, nat_lt, nat_le, IsTrue}
use Rattle.std.specs.List.{list_all}
use Rattle.pending_queue.specs.Entries.{WaitingEntry, entry_stamp}

-- an entry whose stamp is at most a time, on one of so many tracks
abbrev pub is_tried : (time tracks : ℕ) → WaitingEntry → Bool
is_tried time tracks e = nat_le (entry_stamp e) time && nat_lt e.head.track tracks

abbrev pub AreTried : (time tracks : ℕ) → List WaitingEntry → Type 0
AreTried time tracks entries = IsTrue (list_all (is_tried time tracks) entries)
