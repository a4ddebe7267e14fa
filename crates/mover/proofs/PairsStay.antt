-- After deeds whose rows come by changes each row's pair is that of the row in its place before.
use Rattle.std.proofs.Common.{◌==◌, ℕ, List, [], ◌∷◌, map, refl, sym, subst}
use Rattle.pair_table.specs.declared.level.Level.{Level}
use Rattle.pair_table.specs.declared.row.PairRow.{PairRow}
use Rattle.row_changes.specs.Changes.{FaultReach, Timed, after_change, after_changes, reach_of, row_after_change}
use Rattle.row_changes.proofs.Reaching.{changes_state}
use Rattle.record_rows.specs.Deeds.{rows_after_deeds, rows_by_deed, time_by_deed}
use Rattle.record_rows.specs.ToldRows.{InPlaces}
use Rattle.site_store.specs.DeedChanges.{AreByChanges, DeedOfChanges, deeds_of}
use Rattle.mover.specs.Epochs.{IsSamePair}
use Rattle.mover.proofs.SamePairs.{same_pair}

pairs_self : (rows : List PairRow) → InPlaces IsSamePair rows rows
pairs_self [] = tt
pairs_self (r ∷ rows) = (refl, pairs_self rows)

pairs_then : (rows mid next : List PairRow) → InPlaces IsSamePair rows mid → InPlaces IsSamePair mid next → InPlaces IsSamePair rows next
pairs_then [] [] next a b = b
pairs_then [] (s ∷ mid) next a b = absurd a
pairs_then (r ∷ rows) [] next a b = absurd a
pairs_then (r ∷ rows) (s ∷ mid) [] a b = b
pairs_then (r ∷ rows) (s ∷ mid) (u ∷ next) a b = (same_pair r s u a.0 b.0, pairs_then rows mid next a.1 b.1)

pairs_mapped : (reach : FaultReach) (t : Timed) (rows : List PairRow) → InPlaces IsSamePair rows (map (row_after_change reach t) rows)
pairs_mapped reach t [] = tt
pairs_mapped reach t (r ∷ rows) = (changes_state reach t r, pairs_mapped reach t rows)

pairs_after : (level : Level) (changes : List Timed) (rows : List PairRow) → InPlaces IsSamePair rows (after_changes level changes rows)
pairs_after level [] rows = pairs_self rows
pairs_after level (t ∷ changes) rows =
    let next = after_change level t rows in
    pairs_then rows next (after_changes level changes next) (pairs_mapped (reach_of level rows) t rows) (pairs_after level changes next)

pub pairs_stay : (level : Level) (time : ℕ) (rows : List PairRow) (steps : List DeedOfChanges) → AreByChanges level time rows steps → InPlaces IsSamePair rows (rows_after_deeds (deeds_of steps) rows)
pairs_stay level time rows [] are = pairs_self rows
pairs_stay level time rows (step ∷ steps) are =
    pairs_then rows (rows_by_deed step.deed) (rows_after_deeds (deeds_of steps) (rows_by_deed step.deed))
    (subst (InPlaces IsSamePair rows) (sym are.0.rows_are) (pairs_after level step.changes rows))
    (pairs_stay level (time_by_deed time step.deed) (rows_by_deed step.deed) steps are.1)
