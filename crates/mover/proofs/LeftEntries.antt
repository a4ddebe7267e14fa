-- Entries of groups are of rows that are live just before their records, or that their own devices have suspended there.
use Rattle.std.proofs.Common.{◌≡◌, ◌⊎◌, inl, inr, ℕ, zero, suc, Bool, true, false, cond, List, [], ◌∷◌, ◌++◌, map, Some, refl, ap, ◌∙◌, slice_get}
use Rattle.std.proofs.lemmas.Option.{same_Some}
use Rattle.pair_table.specs.declared.row.PairRow.{PairRow}
use Rattle.pair_table.specs.declared.row.SuspendCause.TheVariants.{Device}
use Rattle.pair_table.specs.Devices.{is_among}
use Rattle.pair_table.specs.Rows.{is_suspended}
use Rattle.pair_table.specs.Tables.{in_state}
use Rattle.row_changes.specs.Changes.{hit_row, since}
use Rattle.record_rows.specs.Deeds.{Deed, rows_after_deeds}
use Rattle.record_rows.specs.Deeds.Deed.{Logged, Changed, Marked}
use Rattle.record_rows.specs.Hits.{rows_marked}
use Rattle.fed_logs.specs.Moves.{AreQuiet, HasRowIn, IsLive}
use Rattle.mover.specs.Moves.{LogsEntriesOf, MayHaveEntries}
use Rattle.mover.proofs.SamePairs.{at_of, contains_at}

-- ---- rows

pub live_may : {k v : ℕ} (rows : List PairRow) → HasRowIn IsLive k v rows → HasRowIn MayHaveEntries k v rows
live_may rows has = record { row = has.row; among = has.among; control = has.control; volume = has.volume; state = inl has.state }

mapped_at : (f : PairRow → PairRow) (rows : List PairRow) (i : ℕ) (r : PairRow) → slice_get rows i ≡ Some r → slice_get (map f rows) i ≡ Some (f r)
mapped_at f [] i r at = absurd cc
mapped_at f (x ∷ rows) zero r at = ap (λ (y : PairRow). Some (f y)) (same_Some x r at)
mapped_at f (x ∷ rows) (suc i) r at = mapped_at f rows i r at

-- A live row that is hit in a mark is suspended by its own device there.
pub marked_may : {k v : ℕ} (time : ℕ) (hit : List ℕ) (rows : List PairRow) → HasRowIn IsLive k v rows → HasRowIn MayHaveEntries k v (rows_marked time hit rows)
marked_may time hit rows has =
    let r = has.row in
    let at = at_of rows r has.among in
    record {
      row = hit_row hit time r;
      among = contains_at (rows_marked time hit rows) at.0 (hit_row hit time r) (mapped_at (hit_row hit time) rows at.0 r at.1);
      control = control_of r (is_among r.device hit) ∙ has.control;
      volume = volume_of r (is_among r.device hit) ∙ has.volume;
      state = state_of r has.state (is_among r.device hit);
    }
  where
    control_of : (r : PairRow) (b : Bool) → (cond b (in_state (since Device time) r) r).control ≡ r.control
    control_of r true = refl
    control_of r false = refl

    volume_of : (r : PairRow) (b : Bool) → (cond b (in_state (since Device time) r) r).volume ≡ r.volume
    volume_of r true = refl
    volume_of r false = refl

    state_of : (r : PairRow) → is_suspended r.state ≡ false → (b : Bool) → MayHaveEntries (cond b (in_state (since Device time) r) r).state
    state_of r live true = inr refl
    state_of r live false = inl live

-- ---- deeds

-- Quiet deeds log no group.
pub quiet_entries : (seen : List PairRow) (time : ℕ) (rows : List PairRow) (deeds : List Deed) (next : List PairRow) → AreQuiet time rows deeds next → LogsEntriesOf seen deeds
quiet_entries seen time rows [] next is = tt
quiet_entries seen time rows (Logged cut entries fewer ∷ deeds) next is = absurd is
quiet_entries seen time rows (Changed at fewer ∷ deeds) next is = quiet_entries fewer time fewer deeds next is.2
quiet_entries seen time rows (Marked spot ended fewer ∷ deeds) next is = quiet_entries fewer time fewer deeds next is.1

pub entries_then : (rows : List PairRow) (a b : List Deed) → LogsEntriesOf rows a → LogsEntriesOf (rows_after_deeds a rows) b → LogsEntriesOf rows (a ++ b)
entries_then rows [] b first then = then
entries_then rows (Logged cut entries next ∷ a) b first then = (first.0, entries_then next a b first.1 then)
entries_then rows (Changed at next ∷ a) b first then = entries_then next a b first then
entries_then rows (Marked spot ended next ∷ a) b first then = entries_then next a b first then
