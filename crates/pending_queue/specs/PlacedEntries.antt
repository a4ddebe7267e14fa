-- Entries that stand in a group, each with a part of one buffer that has its form.
use Rattle.std.specs.Prelude.{◌≡◌, ℕ, ◌≤◌, ◌<◌, ◌^◌, ◌+◌, ◌*◌, Bool, List, length, map, take, drop}
use Rattle.std.specs.List.{All}
use Rattle.ckd_track.specs.declared.layout.TheConstants.{WRITES_OF_RUN}
use Rattle.ckd_track.specs.Entries.{longest_entry}
use Rattle.pending_queue.specs.declared.placed.Placed.{Placed}
use Rattle.pending_queue.specs.Entries.{WaitingEntry, IsOfWrite, head_before, entry_by}

pub record PlacedState : Type 0 where
  -- the number of controllers that there is room for
  pub controls : ℕ
  pub entries : List WaitingEntry

-- the entry whose form a part of the buffer has
abbrev pub placed_entry : (bytes : List ℕ) → Placed → WaitingEntry
placed_entry bytes placed = entry_by placed.head placed.effect (take placed.len (drop placed.begin bytes))

abbrev pub placed_entries : (bytes : List ℕ) → List Placed → List WaitingEntry
placed_entries bytes placed = map (placed_entry bytes) placed

-- An entry stands before another by their heads.
abbrev pub placed_before : Placed → Placed → Bool
placed_before a b = head_before a.head b.head

-- The forms of placed entries are sound: there is room for the most entries of each controller and for their forms, and each has the form of its
-- write in the part of the buffer that is used.
pub record AreFormsSound (controls capacity : ℕ) (bytes : List ℕ) (used : ℕ) (placed : List Placed) : Type 0 where
  pub few : controls < 2 ^ 16
  pub room : WRITES_OF_RUN * controls ≤ capacity
  pub sized : length bytes ≡ longest_entry * (WRITES_OF_RUN * controls)
  pub within : length placed ≤ WRITES_OF_RUN * controls
  pub filled : used ≤ longest_entry * length placed
  pub inside : All (λ p. p.begin + p.len ≤ used) placed
  pub written : All IsOfWrite (placed_entries bytes placed)
