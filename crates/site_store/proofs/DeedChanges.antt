-- Rows after deeds, by timed changes.
use Rattle.std.proofs.Common.{◌≡◌, ◌≤◌, List, [], ◌∷◌, ◌++◌, refl, sym, ap, ◌∙◌, arith}
use Rattle.std.proofs.lemmas.List.Elements.{All-append, All-nil}
use Rattle.pair_table.specs.declared.level.Level.{Level}
use Rattle.pair_table.specs.declared.row.PairRow.{PairRow}
use Rattle.row_changes.specs.Changes.{Timed, after_change, after_changes}
use Rattle.site_store.specs.DeedChanges.{changes_of, deeds_of}
use Rattle.record_rows.specs.Deeds.{rows_by_deed, time_by_deed, time_meant_after}
use Rattle.site_store.specs.DeedLaws.{DeedsAreChanges}
use Rattle.site_store.proofs.Timing.{later_all}

changes_in_turn : (level : Level) (xs ys : List Timed) (rows : List PairRow) → after_changes level (xs ++ ys) rows ≡ after_changes level ys (after_changes level xs rows)
changes_in_turn level [] ys rows = refl
changes_in_turn level (t ∷ xs) ys rows = changes_in_turn level xs ys (after_change level t rows)

pub are_changes : DeedsAreChanges
are_changes level time rows [] come by = (refl, All-nil (λ (t : Timed). (time ≤ t.time) × (t.time ≤ time)))
are_changes level time rows (step ∷ steps) come by =
    let at = time_by_deed time step.deed in
    let last = time_meant_after (deeds_of steps) at in
    let rest = are_changes level at (rows_by_deed step.deed) steps come.1 by.1 in (
      rest.0 ∙ ap (λ (l : List PairRow). after_changes level (changes_of steps) l) by.0.rows_are ∙ sym (changes_in_turn level step.changes (changes_of steps) rows),
      All-append (λ (t : Timed). (time ≤ t.time) × (t.time ≤ last)) step.changes (changes_of steps)
          (λ k d less. let h = by.0.in_time k d less in (h.0, omega (arith, h.1, later_all at (deeds_of steps) come.1)))
          (λ k d less. let h = rest.1 k d less in (omega (arith, h.0, come.0), h.1)),
    )
