-- The runs of a trace's good entries.
use Rattle.std.specs.Prelude.{◌≡◌, ℕ, ◌==◌, List, [], ◌∷◌, length, Bool, nat_lt, if◌then◌else◌}
use Rattle.ckd_track.specs.declared.layout.TheConstants.{WRITES_OF_RUN}
use Rattle.std.specs.List.{flat_map}
use Rattle.write_trace.specs.declared.entry.Entry.{Entry}
use Rattle.write_trace.specs.Entries.{stamp_of}
use Rattle.write_trace.specs.Writes.{writes_of}

-- the stamp of a run, which is that of its first entry
abbrev pub run_stamp : List Entry → ℕ
run_stamp [] = 0
run_stamp (e ∷ run) = stamp_of e

-- An entry goes to the front of the run of its stamp, or begins a run.
abbrev pub with_first : Entry → List (List Entry) → List (List Entry)
with_first e [] = (e ∷ []) ∷ []
with_first e (run ∷ runs) = if stamp_of e == run_stamp run then (e ∷ run) ∷ runs else (e ∷ []) ∷ run ∷ runs

-- A run is a maximal row of entries with one stamp. These are the runs of a list of entries, in order.
abbrev pub runs : List Entry → List (List Entry)
runs [] = []
runs (e ∷ entries) = with_first e (runs entries)

-- A run of more writes than a run may have is crowded.
abbrev pub is_crowded : List Entry → Bool
is_crowded run = nat_lt WRITES_OF_RUN (length (writes_of run))

-- ---- the law

-- The runs in a row are the entries.
abbrev pub RunsAreAll : Type 0
RunsAreAll = (entries : List Entry) → flat_map (λ run. run) (runs entries) ≡ entries
