-- What a call needs between taking its turn and passing it.
use Rattle.std.proofs.Common.{◌≡◌, ℕ, ◌<◌, ◌≤◌, Bool, true, List, [], ◌∷◌, length, refl, sym, ap, ◌∙◌, subst}
use Rattle.tod_stamp.specs.declared.stamp.Stamp.{Stamp}
use Rattle.ckd_track.specs.declared.write.Batch.{Batch}
use Rattle.cut_core.specs.LegalHistories.{are_in}
use Rattle.turn.specs.Turn.{IsSameSeat, Took, MayPass, HasPassed, HasCalled}
use Rattle.turn.proofs.Calls.{may_pass, has_called, same_notes, noted, still}
use Rattle.group_state.specs.Groups.{Group, control_at}
use Rattle.group_state.specs.SoundStates.{IsGroupSound, MayReport, MayJoin}
use Rattle.group_state.specs.Machine.{Call, Reply}
use Rattle.group_state.specs.Runs.{MayCopy}
use Rattle.group_state.proofs.Kept.{kept_next}
use Rattle.std.proofs.lemmas.List.{length-map}
use Rattle.turn_group.specs.Notes.{KnownVolume, known_of, volumes_known, SeatNote, part_of, says, note_after}
use Rattle.turn_group.specs.Notes.SeatNote.{MoverNote, ReaderNote}
use Rattle.turn_group.specs.Calls.{seat_steps}
use Rattle.turn_group.specs.Seats.{SeatPlace, ReaderSeatState, SeatMayReport, SeatMayJoin, SeatMayCopy, IsViewSound, first_or, note_in}
use Rattle.turn_group.proofs.Known.{HasSizesOf, sizes_last, track_within, writes_within}
use Rattle.turn_group.proofs.Leaving.{LeavesNotes}

part_kept : (call : Call) (reply : Reply) (note : SeatNote) → part_of (note_after call reply note) ≡ part_of note
part_kept call reply (MoverNote last known) = refl
part_kept call reply (ReaderNote k floor reporting) = refl

-- what passing the turn asks, by what the machine did and what its notes are then
pub may_pass_call : {p q : SeatPlace} {x : Group} (note : SeatNote) → p.me.0.notes ≡ note ∷ [] → Took seat_steps says p x q → (call : Call) (reply : Reply) (y : Group) → seat_steps x call reply y → LeavesNotes x y call reply note
    → MayPass seat_steps part_of says q call reply (note_after call reply (note_in q.me.0.notes)) y
may_pass_call {q = q} note had took call reply y did leaves =
    subst (λ n. MayPass seat_steps part_of says q call reply (note_after call reply n) y) (sym (ap note_in (same_notes took ∙ had)))
    (may_pass seat_steps part_of took call reply note (note_after call reply note) y had did (part_kept call reply note) leaves.own leaves.others)

-- what a call has done to its seat
pub called_by : {p q s : SeatPlace} {x : Group} (call : Call) (reply : Reply) → IsSameSeat p q → Took seat_steps says p x q → IsSameSeat q s → HasPassed q call reply (note_after call reply (note_in q.me.0.notes)) s
    → HasCalled p call reply (note_after call reply (note_in p.me.0.notes)) s
called_by {p = p} {s = s} call reply first took then passed =
    subst (λ n. HasCalled p call reply (note_after call reply n) s) (ap note_in (same_notes took)) (has_called first took then passed)

-- ---- the state that a seat has in its turn

-- the seat's note is true of it
pub noted_of : {p q : SeatPlace} {x : Group} (note : SeatNote) (is_own : Call → Bool) → IsViewSound note is_own p.me.0 → Took seat_steps says p x q → says x note
noted_of note is_own view took = noted took note view.noted

-- and its volumes have the tracks that they had when the table was made
pub sizes_of_turn : {p q : SeatPlace} {x : Group} (note : SeatNote) (is_own : Call → Bool) → IsViewSound note is_own p.me.0 → Took seat_steps says p x q → HasSizesOf (first_or p.me.0.first) x
sizes_of_turn {p = p} {x = x} note is_own view took =
    let first = first_or p.me.0.first in
    still seat_steps (HasSizesOf first) (sizes_last first) p.me.0.first first x view.begun took.reached refl

kept_last : (s : Group) (call : Call) (reply : Reply) (new : Group) → IsGroupSound s → seat_steps s call reply new → IsGroupSound new
kept_last s call reply new h step = subst IsGroupSound (sym step.2.1) (kept_next s call h step.1)

-- and it is sound
pub kept_of_turn : {p q : SeatPlace} {x : Group} (note : SeatNote) (is_own : Call → Bool) → IsViewSound note is_own p.me.0 → Took seat_steps says p x q → IsGroupSound x
kept_of_turn {p = p} {x = x} note is_own view took = still seat_steps IsGroupSound kept_last p.me.0.first (first_or p.me.0.first) x view.begun took.reached view.kept

-- ---- when the calls may be made of it

pub report_may : (x : Group) (seat : ReaderSeatState) (upto : Stamp) → says x (ReaderNote seat.control seat.floor seat.reporting) → SeatMayReport seat upto → MayReport (control_at x seat.control) upto
report_may x seat upto h may = record { reporting = h.1.1 ∙ may.reporting; up = subst (λ (f : Stamp). f.0 ≤ upto.0) (sym h.1.0) may.up }

pub join_may : (x : Group) (seat : ReaderSeatState) (b : Batch) → b.control ≡ seat.control → says x (ReaderNote seat.control seat.floor seat.reporting) → HasSizesOf seat.first x → SeatMayJoin seat b → MayJoin (control_at x seat.control) b
join_may x seat b is h sizes may = record {
  tells = report_may x seat b.upto h may.tells;
  within = subst (λ (f : Stamp). are_in f.0 b.upto.0 b.writes ≡ true) (sym h.1.0) may.within;
  order = may.order;
  tracks = writes_within seat.first x seat.control b.writes sizes may.tracks;
}

pub copy_may : (x : Group) (seat : ReaderSeatState) (v t : ℕ) (at : Stamp) → says x (ReaderNote seat.control seat.floor seat.reporting) → HasSizesOf seat.first x → SeatMayCopy seat v t at → MayCopy (control_at x seat.control) v t at
copy_may x seat v t at h sizes may = record { reporting = h.1.1 ∙ may.reporting; floor = may.floor ∙ sym h.1.0; track = track_within seat.first x seat.control v t sizes may.within }

pub form_may : (x : Group) (limit : Stamp) {last : Stamp} {known : List (List KnownVolume)} → says x (MoverNote last known) → last.0 ≤ limit.0 → x.last.0 ≤ limit.0
form_may x limit h may = subst (λ (t : Stamp). t.0 ≤ limit.0) (sym h.0) may

-- the controllers are as many as those whose volumes are known
pub controls_known : (x : Group) {known : List (List KnownVolume)} {k : ℕ} → volumes_known x ≡ known → k < length known → k < length x.controls
controls_known x {k = k} is lt = subst (λ n. k < n) (sym (ap length is) ∙ length-map x.controls known_of) lt
