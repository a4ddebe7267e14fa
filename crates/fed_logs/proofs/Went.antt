-- What an answered call did to the state: nothing, or what it does.
use Rattle.std.proofs.Common.{◌≡◌, ℕ, Bool, true, false, cond, ◌&&◌, List, Some, refl, sym, ap, subst, ◌∙◌}
use Rattle.tod_stamp.specs.declared.stamp.Stamp.{Stamp}
use Rattle.ckd_track.specs.declared.rec.Rec.{Rec}
use Rattle.ckd_track.specs.declared.write.Batch.{Batch}
use Rattle.ckd_track.specs.declared.write.Cause.{Cause}
use Rattle.group_state.specs.Volumes.{is_wanted, next_wanted}
use Rattle.group_state.specs.Controls.{fits, fits_track, room_of, joined, copied, raised, broke}
use Rattle.group_state.specs.Groups.{Group, control_at, with_control, cut_of, shown_at, gives_nothing}
use Rattle.group_state.specs.Machine.{Call, Reply, reply_to_copied, reply_to, group_after, steps}
use Rattle.group_state.specs.Machine.Call.{Join, NextWanted, Copied, Raise, Break, Form, Carry, Drop, Resume, Forget}
use Rattle.group_state.specs.Machine.Reply.{Made, Joined, Held, Stale, Wanted, Formed, Nothing}
use Rattle.group_state.specs.Runs.{shown_by}
use Rattle.fed_logs.specs.ToldTracks.{has_changed}
use Rattle.fed_logs.specs.Feeds.{is_call_of_reader}

-- a reader's call
pub data WentRead (s : Group) : Call → Reply → Group → Type 0 where
  Same : (call : Call) (reply : Reply) → has_changed reply ≡ false → WentRead s call reply s
  Joins : (b : Batch) → WentRead s (Join b) Joined (with_control b.control (joined b) s)
  Copies : (k v x : ℕ) (at : Stamp) (slot : List Rec) → is_wanted v x (control_at s k).volumes ≡ true → WentRead s (Copied k v x at slot) Joined (with_control k (copied v x at slot) s)
  Raises : (k : ℕ) (upto : Stamp) → WentRead s (Raise k upto) Made (with_control k (raised upto) s)
  Breaks : (k : ℕ) (upto : Stamp) (cause : Cause) → WentRead s (Break k upto cause) Made (with_control k (broke upto cause) s)

went_made : (s : Group) (call : Call) → is_call_of_reader call ≡ true → WentRead s call (reply_to s call) (group_after s call)
went_made s (Join b) reads = choose (fits (control_at s b.control) b)
  where
    choose : (t : Bool) → WentRead s (Join b) (cond t Joined (Held (room_of (control_at s b.control)))) (cond t (with_control b.control (joined b) s) s)
    choose true = Joins b
    choose false = Same (Join b) (Held (room_of (control_at s b.control))) refl
went_made s (NextWanted k) reads = Same (NextWanted k) (Wanted (next_wanted (control_at s k).volumes)) refl
went_made s (Copied k v x at slot) reads = choose (is_wanted v x (control_at s k).volumes) refl (fits_track (control_at s k) slot)
  where
    choose : (t : Bool) → is_wanted v x (control_at s k).volumes ≡ t → (u : Bool) → WentRead s (Copied k v x at slot) (reply_to_copied t u (room_of (control_at s k))) (cond (t && u) (with_control k (copied v x at slot) s) s)
    choose true is true = Copies k v x at slot is
    choose true is false = Same (Copied k v x at slot) (Held (room_of (control_at s k))) refl
    choose false is u = Same (Copied k v x at slot) Stale refl
went_made s (Raise k upto) reads = Raises k upto
went_made s (Break k upto cause) reads = Breaks k upto cause
went_made s (Form limit) reads = absurd cc
went_made s (Carry k v plan) reads = absurd cc
went_made s (Drop k v all) reads = absurd cc
went_made s (Resume k v) reads = absurd cc
went_made s (Forget k v) reads = absurd cc

pub went_read : (s next : Group) (call : Call) (reply : Reply) → is_call_of_reader call ≡ true → steps s call reply next → WentRead s call reply next
went_read s next call reply reads is = subst (λ r. WentRead s call r next) (sym is.0) (subst (λ (g : Group). WentRead s call (reply_to s call) g) (sym is.1) (went_made s call reads))

-- what a form replied
pub form_shown : (s next : Group) (limit : Stamp) (reply : Reply) → steps s (Form limit) reply next → shown_by reply ≡ Some (shown_at (cut_of s limit) s)
form_shown s next limit reply is = ap shown_by is.0 ∙ choose (gives_nothing s limit)
  where
    choose : (t : Bool) → shown_by (cond t (Nothing (shown_at (cut_of s limit) s)) (Formed (shown_at (cut_of s limit) s))) ≡ Some (shown_at (cut_of s limit) s)
    choose true = refl
    choose false = refl
