-- What each call of a seat leaves of the notes: its own becomes the note after the call, and those of others stay true.
use Rattle.std.proofs.Common.{◌≡◌, ◌≢◌, ℕ, suc, ◌<◌, Bool, true, false, cond, nat_eq, ◌&&◌, List, length, refl, sym, ap, ◌∙◌, subst, length-set, get_or-set_same, get_or-set_other}
use Rattle.std.proofs.lemmas.List.{get_or-map, length-map}
use Rattle.tod_stamp.specs.declared.stamp.Stamp.{Stamp}
use Rattle.ckd_track.specs.declared.rec.Rec.{Rec}
use Rattle.ckd_track.specs.declared.write.Batch.{Batch}
use Rattle.ckd_track.specs.declared.write.Cause.{Cause}
use Rattle.group_state.specs.declared.phase.Phase.{Phase}
use Rattle.group_state.specs.declared.phase.Phase.TheVariants.{Unbroken, Broken, Reported}
use Rattle.group_state.specs.Volumes.{is_wanted}
use Rattle.group_state.specs.Controls.{ControlState, new_control, is_reporting, fits, fits_track, room_of, joined, copied, raised, broke, dropped, formed, phase_after}
use Rattle.group_state.specs.Groups.{Group, control_at, with_control, cut_of, gives_nothing, formed_at, shown_at}
use Rattle.group_state.specs.Machine.{Call, Reply, reply_to, group_after, reply_to_copied, steps}
use Rattle.group_state.specs.Machine.Call.{Join, NextWanted, Copied, Raise, Break, Form, Drop}
use Rattle.group_state.specs.Machine.Reply.{Made, Joined, Held, Formed, Nothing}
use Rattle.group_state.proofs.Stands.{at_each}
use Rattle.turn_group.specs.Notes.{KnownVolume, known_of, SeatNote, part_of, IsReportedAs, says, known_after, note_after}
use Rattle.turn_group.specs.Notes.SeatNote.{MoverNote, ReaderNote}
use Rattle.turn_group.proofs.Known.{known_stays, known_joined, known_copied, known_formed, known_drop}

-- After a call of the seat with this note, its note is the one after the call, and each note on another part that was true is true.
pub record LeavesNotes (s new : Group) (call : Call) (reply : Reply) (note : SeatNote) : Type 0 where
  pub own : says new (note_after call reply note)
  pub others : (u : SeatNote) → part_of u ≢ part_of note → says s u → says new u

-- ---- a change of one controller

own_with : (s : Group) (k : ℕ) (change : ControlState → ControlState) (floor : Stamp) (reporting : Bool) → k < length s.controls → IsReportedAs floor reporting (change (control_at s k)) → says (with_control k change s) (ReaderNote k floor reporting)
own_with s k change floor reporting lt told =
    (subst (λ n. k < n) (sym (length-set s.controls k (change (control_at s k)))) lt, subst (IsReportedAs floor reporting) (sym (get_or-set_same s.controls k (change (control_at s k)) (new_control 0 0 0) lt)) told)

others_with : (s : Group) (k : ℕ) (change : ControlState → ControlState) → known_of (change (control_at s k)) ≡ known_of (control_at s k) → (u : SeatNote) → part_of u ≢ suc k → says s u → says (with_control k change s) u
others_with s k change same (MoverNote last known) apart h = (h.0, known_stays s k change same ∙ h.1)
others_with s k change same (ReaderNote j floor reporting) apart h =
    (subst (λ n. j < n) (sym (length-set s.controls k (change (control_at s k)))) h.0, subst (IsReportedAs floor reporting) (sym (get_or-set_other s.controls k j (change (control_at s k)) (new_control 0 0 0) (λ (e : j ≡ k). apart (ap suc e)))) h.1)

-- ---- each call

join_leaves : (s : Group) (b : Batch) (floor : Stamp) (reporting : Bool) → says s (ReaderNote b.control floor reporting) → LeavesNotes s (group_after s (Join b)) (Join b) (reply_to s (Join b)) (ReaderNote b.control floor reporting)
join_leaves s b floor reporting h = choose (fits (control_at s b.control) b)
  where
    choose : (t : Bool) → LeavesNotes s (cond t (with_control b.control (joined b) s) s) (Join b) (cond t Joined (Held (room_of (control_at s b.control)))) (ReaderNote b.control floor reporting)
    choose true = record {
      own = own_with s b.control (joined b) b.upto reporting h.0 (refl, h.1.1);
      others = others_with s b.control (joined b) (known_joined s b.control b.writes);
    }
    choose false = record { own = h; others = λ u apart was. was }

next_leaves : (s : Group) (k : ℕ) (floor : Stamp) (reporting : Bool) → says s (ReaderNote k floor reporting) → LeavesNotes s s (NextWanted k) (reply_to s (NextWanted k)) (ReaderNote k floor reporting)
next_leaves s k floor reporting h = record { own = h; others = λ u apart was. was }

copy_leaves : (s : Group) (k v x : ℕ) (at : Stamp) (slot : List Rec) (floor : Stamp) (reporting : Bool) → says s (ReaderNote k floor reporting)
    → LeavesNotes s (group_after s (Copied k v x at slot)) (Copied k v x at slot) (reply_to s (Copied k v x at slot)) (ReaderNote k floor reporting)
copy_leaves s k v x at slot floor reporting h = choose (is_wanted v x (control_at s k).volumes) (fits_track (control_at s k) slot)
  where
    choose : (t u : Bool) → LeavesNotes s (cond (t && u) (with_control k (copied v x at slot) s) s) (Copied k v x at slot) (reply_to_copied t u (room_of (control_at s k))) (ReaderNote k floor reporting)
    choose true true = record {
      own = own_with s k (copied v x at slot) floor reporting h.0 h.1;
      others = others_with s k (copied v x at slot) (known_copied s k v x);
    }
    choose true false = record { own = h; others = λ u apart was. was }
    choose false u = record { own = h; others = λ u apart was. was }

raise_leaves : (s : Group) (k : ℕ) (upto floor : Stamp) (reporting : Bool) → says s (ReaderNote k floor reporting) → LeavesNotes s (group_after s (Raise k upto)) (Raise k upto) Made (ReaderNote k floor reporting)
raise_leaves s k upto floor reporting h = record { own = own_with s k (raised upto) upto reporting h.0 (refl, h.1.1); others = others_with s k (raised upto) refl }

break_leaves : (s : Group) (k : ℕ) (upto : Stamp) (cause : Cause) (floor : Stamp) (reporting : Bool) → says s (ReaderNote k floor reporting)
    → LeavesNotes s (group_after s (Break k upto cause)) (Break k upto cause) Made (ReaderNote k floor reporting)
break_leaves s k upto cause floor reporting h = record { own = own_with s k (broke upto cause) upto false h.0 (refl, refl); others = others_with s k (broke upto cause) refl }

reporting_formed : (cut floor : Stamp) (phase : Phase) → is_reporting (phase_after cut floor phase) ≡ is_reporting phase
reporting_formed cut floor Unbroken = refl
reporting_formed cut floor (Broken cause) = choose (nat_eq floor.0 cut.0)
  where
    choose : (t : Bool) → is_reporting (cond t Reported (Broken cause)) ≡ false
    choose true = refl
    choose false = refl
reporting_formed cut floor Reported = refl

form_leaves : (s : Group) (limit last : Stamp) (known : List (List KnownVolume)) → says s (MoverNote last known) → LeavesNotes s (group_after s (Form limit)) (Form limit) (reply_to s (Form limit)) (MoverNote last known)
form_leaves s limit last known h = choose (gives_nothing s limit)
  where
    cut : Stamp
    cut = cut_of s limit

    formed_others : (u : SeatNote) → part_of u ≢ 0 → says s u → says (formed_at cut s) u
    formed_others (MoverNote last' known') apart was = absurd (apart refl)
    formed_others (ReaderNote j floor reporting) apart was =
        let c = control_at s j in
        let told : IsReportedAs floor reporting (formed cut c) = (was.1.0, reporting_formed cut c.floor c.phase ∙ was.1.1) in
        (subst (λ n. j < n) (sym (length-map s.controls (formed cut))) was.0, subst (IsReportedAs floor reporting) (sym (get_or-map (formed cut) s.controls j (new_control 0 0 0) (new_control 0 0 0) was.0)) told)

    choose : (t : Bool) → LeavesNotes s (formed_at cut s) (Form limit) (cond t (Nothing (shown_at cut s)) (Formed (shown_at cut s))) (MoverNote last known)
    choose true = record { own = (refl, known_formed cut s.controls ∙ h.1); others = formed_others }
    choose false = record { own = (refl, known_formed cut s.controls ∙ h.1); others = formed_others }

drop_leaves : (s : Group) (k v : ℕ) (all : Bool) (last : Stamp) (known : List (List KnownVolume)) → k < length s.controls → says s (MoverNote last known) → LeavesNotes s (group_after s (Drop k v all)) (Drop k v all) Made (MoverNote last known)
drop_leaves s k v all last known lt h = record { own = (h.0, known_drop s k v all ∙ ap (known_after (Drop k v all)) h.1); others = others }
  where
    others : (u : SeatNote) → part_of u ≢ 0 → says s u → says (with_control k (dropped v all) s) u
    others (MoverNote last' known') apart was = absurd (apart refl)
    others (ReaderNote j floor reporting) apart was = (
      subst (λ n. j < n) (sym (length-set s.controls k (dropped v all (control_at s k)))) was.0,
      at_each (λ i c. i ≡ j → IsReportedAs floor reporting c) s k (dropped v all) lt (λ e. subst (λ i. IsReportedAs floor reporting (control_at s i)) (sym e) was.1) (λ i other e. subst (λ i. IsReportedAs floor reporting (control_at s i)) (sym e) was.1) j refl,
    )

-- ---- by what was replied

leaves_by : (s new : Group) (call : Call) (reply : Reply) (note : SeatNote) → steps s call reply new → LeavesNotes s (group_after s call) call (reply_to s call) note → LeavesNotes s new call reply note
leaves_by s new call reply note step leaves = subst (λ t. LeavesNotes s t call reply note) (sym step.1) (subst (λ r. LeavesNotes s (group_after s call) call r note) (sym step.0) leaves)

module _ (s new : Group) (reply : Reply) where
  pub after_join : (b : Batch) (floor : Stamp) (reporting : Bool) → says s (ReaderNote b.control floor reporting) → steps s (Join b) reply new → LeavesNotes s new (Join b) reply (ReaderNote b.control floor reporting)
  after_join b floor reporting h step = leaves_by s new (Join b) reply (ReaderNote b.control floor reporting) step (join_leaves s b floor reporting h)

  pub after_next : (k : ℕ) (floor : Stamp) (reporting : Bool) → says s (ReaderNote k floor reporting) → steps s (NextWanted k) reply new → LeavesNotes s new (NextWanted k) reply (ReaderNote k floor reporting)
  after_next k floor reporting h step = leaves_by s new (NextWanted k) reply (ReaderNote k floor reporting) step (next_leaves s k floor reporting h)

  pub after_copy : (k v x : ℕ) (at : Stamp) (slot : List Rec) (floor : Stamp) (reporting : Bool) → says s (ReaderNote k floor reporting) → steps s (Copied k v x at slot) reply new → LeavesNotes s new (Copied k v x at slot) reply (ReaderNote k floor reporting)
  after_copy k v x at slot floor reporting h step = leaves_by s new (Copied k v x at slot) reply (ReaderNote k floor reporting) step (copy_leaves s k v x at slot floor reporting h)

  pub after_raise : (k : ℕ) (upto floor : Stamp) (reporting : Bool) → says s (ReaderNote k floor reporting) → steps s (Raise k upto) reply new → LeavesNotes s new (Raise k upto) reply (ReaderNote k floor reporting)
  after_raise k upto floor reporting h step = leaves_by s new (Raise k upto) reply (ReaderNote k floor reporting) step (raise_leaves s k upto floor reporting h)

  pub after_break : (k : ℕ) (upto : Stamp) (cause : Cause) (floor : Stamp) (reporting : Bool) → says s (ReaderNote k floor reporting) → steps s (Break k upto cause) reply new → LeavesNotes s new (Break k upto cause) reply (ReaderNote k floor reporting)
  after_break k upto cause floor reporting h step = leaves_by s new (Break k upto cause) reply (ReaderNote k floor reporting) step (break_leaves s k upto cause floor reporting h)

  pub after_form : (limit last : Stamp) (known : List (List KnownVolume)) → says s (MoverNote last known) → steps s (Form limit) reply new → LeavesNotes s new (Form limit) reply (MoverNote last known)
  after_form limit last known h step = leaves_by s new (Form limit) reply (MoverNote last known) step (form_leaves s limit last known h)

  pub after_drop : (k v : ℕ) (all : Bool) (last : Stamp) (known : List (List KnownVolume)) → k < length s.controls → says s (MoverNote last known) → steps s (Drop k v all) reply new → LeavesNotes s new (Drop k v all) reply (MoverNote last known)
  after_drop k v all last known lt h step = leaves_by s new (Drop k v all) reply (MoverNote last known) step (drop_leaves s k v all last known lt h)
