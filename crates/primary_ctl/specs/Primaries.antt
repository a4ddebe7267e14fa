-- The writes of all controllers up to a time, what they make of a primary's track, and the laws that one controller's own batches make
-- the same.
use Rattle.std.specs.Prelude.{◌≡◌, ℕ, zero, suc, ◌+◌, ◌==◌, ◌&&◌, List, [], ◌∷◌, ◌++◌, map, filter, fold, slice_get, Bool, Some, nat_le, IsTrue}
use Rattle.std.specs.List.{list_all, flat_map}
use Rattle.ckd_track.specs.declared.rec.Rec.{Rec}
use Rattle.ckd_track.specs.declared.write.Write.{Write}
use Rattle.write_trace.specs.declared.trace.Trace.{Trace}
use Rattle.write_trace.specs.Writes.{writes_of}
use Rattle.xrc_edge.specs.Order.{in_order}
use Rattle.primary_ctl.specs.States.{base_in, is_on, after_writes}
use Rattle.ckd_track.specs.Writes.{is_earlier, writes_never_fall}

-- a write with the controller in whose trace it stands
pub record ControlWrite : Type 0 where
  pub control : ℕ
  pub write : Write

abbrev pub write_of_control : ℕ → Write → ControlWrite
write_of_control control write = record { control = control; write = write }

-- the good writes of all controllers, by controller and then by position
abbrev pub all_writes : (control : ℕ) → List Trace → List ControlWrite
all_writes control [] = []
all_writes control (t ∷ traces) = map (write_of_control control) (writes_of t.entries) ++ all_writes (control + 1) traces

-- whether a write has the lower stamp
abbrev pub is_written_earlier : ControlWrite → ControlWrite → Bool
is_written_earlier a b = is_earlier a.write b.write

-- All good writes with a stamp at most `time`, ordered by stamp, then controller, then position.
abbrev pub writes_up_to : List Trace → (time : ℕ) → List ControlWrite
writes_up_to traces time = in_order is_written_earlier (filter (λ w. nat_le w.write.stamp.0 time) (all_writes 0 traces))

-- the base track of a controller's volume
abbrev pub base_track : List Trace → (control volume track : ℕ) → List Rec
base_track [] control volume track = []
base_track (t ∷ traces) zero volume track = base_in t.header.base volume track
base_track (t ∷ traces) (suc control) volume track = base_track traces control volume track

-- a write on that track of that controller's volume
abbrev pub is_on_track : (control volume track : ℕ) → ControlWrite → Bool
is_on_track control volume track w = w.control == control && is_on volume track w.write

-- A primary's track at a time is its base track, changed by each write on it up to that time.
abbrev pub primary : List Trace → (time control volume track : ℕ) → List Rec
primary traces time control volume track =
    after_writes (base_track traces control volume track) (map (λ w. w.write) (filter (is_on_track control volume track) (writes_up_to traces time)))

-- ---- the laws

abbrev pub none_falls : List Trace → Bool
none_falls traces = list_all (λ t. writes_never_fall 0 (writes_of t.entries)) traces

-- the track after batches
abbrev pub after_batches : (volume track : ℕ) → List Rec → List (List Write) → List Rec
after_batches volume track recs batches = fold (λ recs writes. after_writes recs (filter (is_on volume track) writes)) recs batches

-- Where batches in a row are the controller's writes up to a time, they make of its base track the primary's at that time.
abbrev pub BatchesMakeThePrimary : Type 0
BatchesMakeThePrimary = (traces : List Trace) (time control volume track : ℕ) (t : Trace) (batches : List (List Write)) → IsTrue (none_falls traces) → slice_get traces control ≡ Some t →
    flat_map (λ writes. writes) batches ≡ filter (λ w. nat_le w.stamp.0 time) (writes_of t.entries) →
    after_batches volume track (base_in t.header.base volume track) batches ≡ primary traces time control volume track
