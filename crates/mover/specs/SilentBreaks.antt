-- Breaks that change no row. Where no live row is a controller's, the controller's break is no change of the group that reports it. It may be named
-- there.
use Rattle.std.specs.Prelude.{ℕ, suc, ◌==◌, ◌&&◌, ◌||◌, ◌++◌, not, List, [], ◌∷◌, map, Bool, Option, nat_lt, if◌then◌else◌}
use Rattle.std.specs.List.{list_all}
use Rattle.pair_table.specs.declared.row.PairRow.{PairRow}
use Rattle.pair_table.specs.Rows.{is_suspended}
use Rattle.row_changes.specs.Changes.{Timed, is_at}
use Rattle.row_changes.specs.Changes.RowChange.{Break}
use Rattle.record_rows.specs.Deeds.{Deed}
use Rattle.record_rows.specs.Deeds.Deed.{Logged, Changed, Marked}
use Rattle.site_store.specs.DeedChanges.{DeedOfChanges}

-- whether no live row is a controller's
abbrev pub has_none_live : (control : ℕ) → List PairRow → Bool
has_none_live k rows = list_all (λ r. not (r.control == k) || is_suspended r.state) rows

abbrev pub breaking_at : (time control : ℕ) → Timed
breaking_at time k = record { time = time; change = Break k }

-- the break of a controller at its time below a limit, where no live row is the controller's
abbrev pub silent_at : (limit time control : ℕ) → Option ℕ → List PairRow → List Timed
silent_at limit time k b rows = if is_at time b && (nat_lt time limit && has_none_live k rows) then breaking_at time k ∷ [] else []

-- the same of each controller, from one on
abbrev pub silent_from : (limit time control : ℕ) → (breaks : List (Option ℕ)) → List PairRow → List Timed
silent_from limit time k [] rows = []
silent_from limit time k (b ∷ breaks) rows = silent_at limit time k b rows ++ silent_from limit time (suc k) breaks rows

abbrev pub silent_of : (limit : ℕ) → (breaks : List (Option ℕ)) → Deed → List Timed
silent_of limit breaks (Logged cut entries rows) = silent_from limit cut 0 breaks rows
silent_of limit breaks (Changed time rows) = []
silent_of limit breaks (Marked spot ended rows) = []

-- a step that names the silent breaks too
abbrev pub with_silent : (limit : ℕ) → (breaks : List (Option ℕ)) → DeedOfChanges → DeedOfChanges
with_silent limit breaks step = record { deed = step.deed; changes = step.changes ++ silent_of limit breaks step.deed }

abbrev pub all_silent : (limit : ℕ) → (breaks : List (Option ℕ)) → List DeedOfChanges → List DeedOfChanges
all_silent limit breaks steps = map (with_silent limit breaks) steps
