-- The laws of reported tracks. Each is the contract of a public function without parameters.
use Rattle.std.specs.Prelude.{◌≡◌, ℕ, ◌<◌, ◌≤◌, length, Some, IsTrue}
use Rattle.tod_stamp.specs.declared.stamp.Stamp.{Stamp}
use Rattle.group_state.specs.Controls.{counts}
use Rattle.group_state.specs.Groups.{Group, control_at, cut_of, formed_at, shown_at}
use Rattle.group_state.specs.SoundStates.{IsGroupSound}
use Rattle.group_state.specs.Machine.{Call, Reply, steps}
use Rattle.group_state.specs.Runs.{May}
use Rattle.fed_logs.specs.ToldTracks.{Truth, HeldTracks, ReportsTruth, AllHold, has_changed, has_no_later_copy, is_settled_in, held_after, held_after_group}

-- Each call keeps it, from any state, where a call that changes the state reports what is true.
abbrev pub StepsKeep : Type 0
StepsKeep = (truth : Truth) (held : HeldTracks) (s next : Group) (call : Call) (reply : Reply) → IsGroupSound s → May s call → steps s call reply next
    → (IsTrue (has_changed reply) → ReportsTruth truth s call) → AllHold truth held s → AllHold truth (held_after reply held) next

-- After a form each track that is settled, of a controller that counts, and of which no copied track waits is the primary's at the cut.
abbrev pub DoneIsTold : Type 0
DoneIsTold = (truth : Truth) (held : HeldTracks) (s : Group) (limit : Stamp) (k v x : ℕ) → IsGroupSound s → s.last.0 ≤ limit.0 → AllHold truth held s
    → k < length s.controls → let next = formed_at (cut_of s limit) s in IsTrue (counts (control_at next k).phase) → IsTrue (is_settled_in v x (control_at next k))
    → IsTrue (has_no_later_copy v x (cut_of s limit).0 (control_at next k).queue.waiting)
    → held_after_group (shown_at (cut_of s limit) s).entries held k v x ≡ Some (truth k v x (cut_of s limit).0)
