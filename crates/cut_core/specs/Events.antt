-- Histories: what readers and the mover do, one event after another. A history is a list alone, the oldest event first: floors,
-- breaks and the last cut are read from the events before a place in it.
use Rattle.std.specs.Prelude.{ℕ, ◌==◌, ◌&&◌, ◌||◌, not, max, List, [], ◌∷◌, Bool, false, if◌then◌else◌}
use Rattle.std.specs.List.{list_any}
use Rattle.ckd_track.specs.declared.write.Batch.{Batch}

-- What may happen. A reader joins a batch, copies a wanted track, and reports that its controller broke or has no write up to a time.
-- The mover forms a group at a cut, and drops, carries, resumes and forgets a volume of a controller. A drop may say that the
-- volume's map holds all tracks; a carry gives the tracks that are wanted.
pub data Event : Type 0 where
  Join : (batch : Batch) → Event
  Copied : (control volume track stamp : ℕ) → Event
  Break : (control upto : ℕ) → Event
  Raise : (control upto : ℕ) → Event
  Form : (cut : ℕ) → Event
  Drop : (control volume : ℕ) → (all : Bool) → Event
  Carry : (control volume : ℕ) → (tracks : List ℕ) → Event
  Resume : (control volume : ℕ) → Event
  Forget : (control volume : ℕ) → Event

-- ---- floors

-- the time that an event says the controller has reported up to; 0 where it says none
abbrev pub reported_upto : (control : ℕ) → Event → ℕ
reported_upto k (Join b) = if b.control == k then b.upto.0 else 0
reported_upto k (Break j upto) = if j == k then upto else 0
reported_upto k (Raise j upto) = if j == k then upto else 0
reported_upto k e = 0

-- The floor of a controller is the greatest time reported in its events, or 0.
abbrev pub floor : (control : ℕ) → List Event → ℕ
floor k [] = 0
floor k (e ∷ past) = max (reported_upto k e) (floor k past)

-- ---- breaks

abbrev pub is_break_of : (control : ℕ) → Event → Bool
is_break_of k (Break j upto) = j == k
is_break_of k e = false

abbrev pub is_broken_after : (control : ℕ) → List Event → Bool
is_broken_after k past = list_any (is_break_of k) past

abbrev pub is_form_at : (cut : ℕ) → Event → Bool
is_form_at c (Form d) = d == c
is_form_at c e = false

-- A controller is done once a form had its break time as cut, after its break.
abbrev pub is_done : (control : ℕ) → List Event → Bool
is_done k [] = false
is_done k (e ∷ past) = (is_break_of k e && list_any (is_form_at (reported_upto k e)) past) || is_done k past

-- A controller is live until then, also while it has broken.
abbrev pub is_live : (control : ℕ) → List Event → Bool
is_live k past = not (is_done k past)

-- ---- cuts

abbrev pub cut_after : (cut : ℕ) → Event → ℕ
cut_after c (Form d) = d
cut_after c e = c

abbrev pub last_cut_from : (cut : ℕ) → List Event → ℕ
last_cut_from c [] = c
last_cut_from c (e ∷ past) = last_cut_from (cut_after c e) past

-- the cut of the last form, or 0
abbrev pub last_cut : List Event → ℕ
last_cut past = last_cut_from 0 past
