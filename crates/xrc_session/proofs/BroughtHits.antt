-- Rows that their devices suspend after an epoch.
use Rattle.std.proofs.Common.{◌≡◌, ◌⊎◌, ℕ, ◌<◌, ◌≤◌, Bool, true, List, [], ◌∷◌, refl, subst, arith, inl, inr, ◌∙◌, ap}
use Rattle.std.specs.List.{Contains}
use Rattle.std.proofs.lemmas.Bool.{cases_lt}
use Rattle.crash_plant.specs.declared.device.Device.TheVariants.{Volume}
use Rattle.crash_plant.specs.Moments.{PlantState}
use Rattle.pair_table.specs.declared.level.Level.{Level}
use Rattle.pair_table.specs.declared.row.PairRow.{PairRow}
use Rattle.group_state.specs.Runs.{Answer}
use Rattle.row_changes.specs.Changes.{Due}
use Rattle.row_changes.specs.Spans.{hit_count}
use Rattle.record_rows.specs.Deeds.{rows_after_deeds, rows_by_deed, time_by_deed}
use Rattle.record_rows.specs.Hits.{hit_changes, hit_now, rows_marked, told_changes}
use Rattle.pair_table.specs.States.{is_device_suspended}
use Rattle.record_rows.specs.GroupRows.{group_changes}
use Rattle.record_rows.specs.ToldRows.{due_after_changes}
use Rattle.site_store.specs.DeedChanges.{AreByChanges, DeedOfChanges, changes_of, deeds_of}
use Rattle.mover.specs.Moves.{AreHitsCounted, most_faults}
use Rattle.mover.specs.Steps.{AreMade, IsDeedMade}
use Rattle.mover.specs.Steps.IsDeedMade.{Suspends, Marks, MarksFirst, Records, RecordsAfter}
use Rattle.xrc_session.specs.Frames.{CountRose, SuspendsByCounts}
use Rattle.xrc_session.proofs.FailedRows.{WasFailed, are_plain, failed_by, fewer_hits, more_hits, plain_both, plain_group, plain_hits, plain_marked, plain_told}

-- The changes of a deed of the mover make no row one that its device suspends, but by hits.
plain_made : (level : Level) (flag : Bool) (answers : List Answer) (time : ℕ) (rows : List PairRow) (due : Due) (step : DeedOfChanges) → IsDeedMade level flag answers time rows due step → are_plain step.changes ≡ true
plain_made level flag answers time rows _ _ (Suspends _ _ failed some) = plain_hits time (hit_now failed rows)
plain_made level flag answers time rows _ _ (Marks _ _ failed spot) = plain_hits time (hit_now failed rows)
plain_made level flag answers time rows _ _ (MarksFirst _ _ failed spot) = plain_marked time (hit_now failed rows)
plain_made level flag answers time rows _ _ (Records _ _ group failed shown up to_log) = plain_both (group_changes group rows) (hit_changes group.cut.0 (hit_now failed rows)) (plain_group group rows) (plain_hits group.cut.0 (hit_now failed rows))
plain_made level flag answers time _ _ _ (RecordsAfter _ was group failed marked shown up to_log) =
    let rows = rows_marked time marked was in
    plain_both (group_changes group rows) (told_changes level group.cut.0 marked (hit_now failed rows)) (plain_group group rows) (plain_told level group.cut.0 marked (hit_now failed rows))

-- A row that its device suspends after deeds was as it is before, or its device was hit.
pub failed_after : (level : Level) (flag : Bool) (answers : List Answer) (time : ℕ) (rows : List PairRow) (due : Due) (steps : List DeedOfChanges) (last : Due) → AreMade level flag answers time rows due steps last → AreByChanges level time rows steps
    → (r : PairRow) → Contains (rows_after_deeds (deeds_of steps) rows) r → is_device_suspended r.state ≡ true → (1 ≤ hit_count r.device (changes_of steps)) ⊎ WasFailed r rows
failed_after level flag answers time rows due [] last made by r among is = inr (record { row = r; among = among; same = refl; state = refl })
failed_after level flag answers time rows due (step ∷ steps) last made by r among is =
    first (failed_after level flag answers (time_by_deed time step.deed) (rows_by_deed step.deed) (due_after_changes level due step.changes) steps last made.1 by.1 r among is)
  where
    then : (s : PairRow) → s.device ≡ r.device → s.state ≡ r.state → (1 ≤ hit_count s.device step.changes) ⊎ WasFailed s rows → (1 ≤ hit_count r.device (changes_of (step ∷ steps))) ⊎ WasFailed r rows
    then s same alike (inl some) = inl (fewer_hits r.device step.changes (changes_of steps) (subst (λ (d : ℕ). 1 ≤ hit_count d step.changes) same some))
    then s same alike (inr was) = inr (record { row = was.row; among = was.among; same = was.same ∙ same; state = was.state ∙ alike })

    first : (1 ≤ hit_count r.device (changes_of steps)) ⊎ WasFailed r (rows_by_deed step.deed) → (1 ≤ hit_count r.device (changes_of (step ∷ steps))) ⊎ WasFailed r rows
    first (inl some) = inl (more_hits r.device step.changes (changes_of steps) some)
    first (inr was) =
        then was.row was.same was.state (failed_by level step.changes rows was.row (plain_made level flag answers time rows due step made.0) (subst (λ (l : List PairRow). Contains l was.row) by.0.rows_are was.among) (ap is_device_suspended was.state ∙ is))

-- The count of a row's volume has risen, or the row was as it is before.
abbrev IsFailedByCount : (rows : List PairRow) → PairRow → (old new : PlantState) → Type 0
IsFailedByCount rows r old new = CountRose (old.faults (Volume r.device)) (new.faults (Volume r.device)) ⊎ ((s : PairRow) × Contains rows s × (s.device ≡ r.device) × (s.state ≡ r.state))

-- After deeds of the mover a row is suspended by its device only where it was so before, or where the count has risen.
pub suspends_by_counts : (level : Level) (flag : Bool) (answers : List Answer) (time : ℕ) (rows next : List PairRow) (due : Due) (steps : List DeedOfChanges) (last : Due) (old new : PlantState) → AreMade level flag answers time rows due steps last
    → AreByChanges level time rows steps → next ≡ rows_after_deeds (deeds_of steps) rows → AreHitsCounted steps old new → SuspendsByCounts rows next old new
suspends_by_counts level flag answers time rows next due steps last old new made by is counted r among failed = choose (failed_after level flag answers time rows due steps last made by r (subst (λ (l : List PairRow). Contains l r) is among) failed)
  where
    risen : 1 ≤ hit_count r.device (changes_of steps) → (new.faults (Volume r.device) < most_faults) ⊎ (most_faults ≤ new.faults (Volume r.device)) → CountRose (old.faults (Volume r.device)) (new.faults (Volume r.device))
    risen some (inl below) = let counts = counted r.device below in inl (omega (arith, some, counts))
    risen some (inr most) = inr most

    choose : (1 ≤ hit_count r.device (changes_of steps)) ⊎ WasFailed r rows → IsFailedByCount rows r old new
    choose (inl some) = inl (risen some (cases_lt (new.faults (Volume r.device)) most_faults))
    choose (inr was) = inr (was.row, was.among, was.same, was.state)
