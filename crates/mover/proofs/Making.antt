-- Deeds of the mover's work, each as it is made, one after the other.
use Rattle.std.proofs.Common.{◌≡◌, ◌≢◌, ℕ, ◌≤◌, Bool, true, false, cond, List, [], ◌∷◌, ◌++◌, map, Option, Some, None, refl, sym, ap, subst, ◌∙◌}
use Rattle.std.specs.Prelude.{IsTrue}
use Rattle.std.specs.List.{Contains, flat_map}
use Rattle.tod_stamp.specs.declared.stamp.Stamp.{Stamp}
use Rattle.ckd_track.specs.declared.write.Cause.{Cause}
use Rattle.crash_plant.specs.declared.spot.Spot.{Spot}
use Rattle.pair_table.specs.declared.level.Level.{Level}
use Rattle.pair_table.specs.declared.row.PairRow.{PairRow}
use Rattle.pair_table.specs.declared.row.PairState.{PairState}
use Rattle.pending_queue.specs.Groups.{FormedGroup}
use Rattle.group_state.specs.Groups.{Shown, shown_in}
use Rattle.group_state.specs.Runs.{Answer}
use Rattle.row_changes.specs.Changes.{Due, Timed, due_after, reaches_others}
use Rattle.row_changes.specs.Changes.Due.{DueSince, NoneDue}
use Rattle.row_changes.specs.Changes.RowChange.{Reached}
use Rattle.record_rows.specs.Deeds.{rows_after_deeds, rows_by_deed, time_by_deed, time_meant_after}
use Rattle.record_rows.specs.Deeds.Deed.{Changed, Logged, Marked}
use Rattle.record_rows.specs.GroupRows.{breaking, group_changes, matured_with_group, maturing, maturing_of}
use Rattle.record_rows.specs.Hits.{due_once_marked, hit_changes, hit_now, marked_changes, reached_changes, rows_marked, told_changes}
use Rattle.record_rows.specs.Records.{changes_after_mark, record_changes, rows_with_hits, rows_with_record}
use Rattle.record_rows.specs.ToldRows.{due_after_changes}
use Rattle.site_store.specs.DeedChanges.{DeedOfChanges, deeds_of}
use Rattle.fed_logs.specs.LogLaws.{WasShown}
use Rattle.mover.specs.Groups.{is_to_log}
use Rattle.mover.specs.Steps.{AreMade, IsDeedMade, record_after_mark}
use Rattle.mover.specs.Steps.IsDeedMade.{Suspends, Marks, MarksFirst, Records, RecordsAfter}

-- ---- what changes leave due

due_then : (level : Level) (due : Due) (xs ys : List Timed) → due_after_changes level due (xs ++ ys) ≡ due_after_changes level (due_after_changes level due xs) ys
due_then level due [] ys = refl
due_then level due (t ∷ xs) ys = due_then level (due_after level due t) xs ys

hits_leave : (level : Level) (time : ℕ) (hit : List ℕ) → due_after_changes level NoneDue (hit_changes time hit) ≡ NoneDue
hits_leave level time [] = refl
hits_leave level time (d ∷ hit) = refl

mark_leaves : (level : Level) (time : ℕ) (hit : List ℕ) → due_after_changes level NoneDue (marked_changes time hit) ≡ due_once_marked level time hit
mark_leaves level time [] = refl
mark_leaves level time (d ∷ hit) = refl

breaks_leave : (level : Level) (cut : ℕ) (found : List (ℕ × Stamp × Cause)) → due_after_changes level NoneDue (map (breaking cut) found) ≡ NoneDue
breaks_leave level cut [] = refl
breaks_leave level cut (f ∷ found) = breaks_leave level cut found

maturing_leaves : (level : Level) (cut device : ℕ) (o : Option PairState) → due_after_changes level NoneDue (maturing cut device o) ≡ NoneDue
maturing_leaves level cut device None = refl
maturing_leaves level cut device (Some state) = refl

module _ (level : Level) (group : FormedGroup) where
  matures_leave : (rows : List PairRow) → due_after_changes level NoneDue (flat_map (maturing_of group) rows) ≡ NoneDue
  matures_leave [] = refl
  matures_leave (r ∷ rows) =
      due_then level NoneDue (maturing_of group r) (flat_map (maturing_of group) rows)
      ∙ ap (λ (d : Due). due_after_changes level d (flat_map (maturing_of group) rows)) (maturing_leaves level group.cut.0 r.device (matured_with_group group r))
      ∙ matures_leave rows

  group_leaves : (rows : List PairRow) → due_after_changes level NoneDue (group_changes group rows) ≡ NoneDue
  group_leaves rows =
      due_then level NoneDue (map (breaking group.cut.0) group.breaks) (flat_map (maturing_of group) rows)
      ∙ ap (λ (d : Due). due_after_changes level d (flat_map (maturing_of group) rows)) (breaks_leave level group.cut.0 group.breaks)
      ∙ matures_leave rows

  record_leaves : (failed : List Bool) (rows : List PairRow) → due_after_changes level NoneDue (record_changes group failed rows) ≡ NoneDue
  record_leaves failed rows =
      due_then level NoneDue (group_changes group rows) (hit_changes group.cut.0 (hit_now failed rows))
      ∙ ap (λ (d : Due). due_after_changes level d (hit_changes group.cut.0 (hit_now failed rows))) (group_leaves rows)
      ∙ hits_leave level group.cut.0 (hit_now failed rows)

-- What a mark left due has come after its record.
after_leaves : (level : Level) (time : ℕ) (marked : List ℕ) (group : FormedGroup) (failed : List Bool) (rows : List PairRow) → due_after_changes level (due_once_marked level time marked) (changes_after_mark level marked group failed rows) ≡ NoneDue
after_leaves level time marked group failed rows =
    due_then level (due_once_marked level time marked) (group_changes group rows) (told_changes level group.cut.0 marked hit)
    ∙ due_then level after (reached_changes level group.cut.0 marked) (hit_changes group.cut.0 hit)
    ∙ ap (λ (d : Due). due_after_changes level d (hit_changes group.cut.0 hit)) (reached_leave marked) ∙ hits_leave level group.cut.0 hit
  where
    hit : List ℕ
    hit = hit_now failed rows

    after : Due
    after = due_after_changes level (due_once_marked level time marked) (group_changes group rows)

    reached_leave : (m : List ℕ) → due_after_changes level (due_after_changes level (due_once_marked level time m) (group_changes group rows)) (reached_changes level group.cut.0 m) ≡ NoneDue
    reached_leave [] = group_leaves level group rows
    reached_leave (d ∷ m) = choose (reaches_others level)
      where
        choose : (others : Bool) → due_after_changes level (due_after_changes level (cond others (DueSince time (d ∷ m)) NoneDue) (group_changes group rows)) (cond others (record { time = group.cut.0; change = Reached (d ∷ m) } ∷ []) []) ≡ NoneDue
        choose true = refl
        choose false = group_leaves level group rows

-- ---- deeds as they are made

pub hits_made : (level : Level) (answers : List Answer) (time : ℕ) (rows : List PairRow) (failed : List Bool) → hit_now failed rows ≢ []
    → AreMade level false answers time rows NoneDue (record { deed = Changed time (rows_with_hits level time failed rows); changes = hit_changes time (hit_now failed rows) } ∷ []) NoneDue
hits_made level answers time rows failed some = (Suspends time rows failed some, hits_leave level time (hit_now failed rows))

pub mark_made : (level : Level) (answers : List Answer) (spot : Spot) (ended : Bool) (goes_on : ended ≡ false) (time : ℕ) (rows : List PairRow) (failed : List Bool)
    → AreMade level false answers time rows NoneDue (record { deed = Marked spot ended (rows_with_hits level time failed rows); changes = hit_changes time (hit_now failed rows) } ∷ []) NoneDue
mark_made level answers spot ended goes_on time rows failed = (
  subst (λ (flag : Bool). IsDeedMade level false answers time rows NoneDue (record { deed = Marked spot flag (rows_with_hits level time failed rows); changes = hit_changes time (hit_now failed rows) })) (sym goes_on) (Marks time rows failed spot),
  hits_leave level time (hit_now failed rows),
)

pub record_made : (level : Level) (answers : List Answer) (group : FormedGroup) (time : ℕ) (rows : List PairRow) (failed : List Bool) → WasShown answers (shown_in group) → time ≤ group.cut.0
    → IsTrue (is_to_log group time rows) → AreMade level false answers time rows NoneDue (record { deed = Logged group.cut.0 group.entries (rows_with_record level group failed rows); changes = record_changes group failed rows } ∷ []) NoneDue
record_made level answers group time rows failed shown up to_log = (Records time rows group failed shown up to_log, record_leaves level group failed rows)

-- a record after a mark that was made first
module _ (level : Level) (answers : List Answer) (spot : Spot) (ended : Bool) (goes_on : ended ≡ false) (group : FormedGroup) (time : ℕ) (rows : List PairRow) (early failed : List Bool) where
  abbrev hits : List ℕ
  hits = hit_now early rows

  abbrev marked : List PairRow
  marked = rows_marked time hits rows

  abbrev after : DeedOfChanges
  after = record_after_mark level hits group failed marked

  pub after_mark_made : WasShown answers (shown_in group) → time ≤ group.cut.0 → IsTrue (is_to_log group time rows) → AreMade level false answers time rows NoneDue (record { deed = Marked spot ended marked; changes = marked_changes time hits } ∷ after ∷ []) NoneDue
  after_mark_made shown up to_log = (
    subst (λ (flag : Bool). IsDeedMade level false answers time rows NoneDue (record { deed = Marked spot flag marked; changes = marked_changes time hits })) (sym goes_on) (MarksFirst time rows early spot),
    (
      subst (λ (due : Due). IsDeedMade level false answers time marked due after) (sym (mark_leaves level time hits)) (RecordsAfter time rows group failed hits shown up to_log),
      ap (λ (due : Due). due_after_changes level due after.changes) (mark_leaves level time hits) ∙ after_leaves level time hits group failed marked,
    ),
  )

-- ---- deeds in turn

-- Deeds made one after the other are made.
pub made_then : (level : Level) (flag : Bool) (answers : List Answer) (time : ℕ) (rows : List PairRow) (due : Due) (a b : List DeedOfChanges) (mid last : Due) → AreMade level flag answers time rows due a mid
    → AreMade level flag answers (time_meant_after (deeds_of a) time) (rows_after_deeds (deeds_of a) rows) mid b last → AreMade level flag answers time rows due (a ++ b) last
made_then level flag answers time rows due [] b mid last first then = subst (λ (d : Due). AreMade level flag answers time rows d b last) (sym first) then
made_then level flag answers time rows due (step ∷ a) b mid last first then =
    (first.0, made_then level flag answers (time_by_deed time step.deed) (rows_by_deed step.deed) (due_after_changes level due step.changes) a b mid last first.1 then)

-- So they are of more calls.
module _ (level : Level) (flag : Bool) (answers more : List Answer) (among : (a : Answer) → Contains answers a → Contains more a) where
  shown_more : (shown : Shown) → WasShown answers shown → WasShown more shown
  shown_more shown was = record { answer = was.answer; among = among was.answer was.among; shows = was.shows }

  one_more : (time : ℕ) (rows : List PairRow) (due : Due) (step : DeedOfChanges) → IsDeedMade level flag answers time rows due step → IsDeedMade level flag more time rows due step
  one_more _ _ _ _ (Suspends time rows failed some) = Suspends time rows failed some
  one_more _ _ _ _ (Marks time rows failed spot) = Marks time rows failed spot
  one_more _ _ _ _ (MarksFirst time rows failed spot) = MarksFirst time rows failed spot
  one_more _ _ _ _ (Records time rows group failed shown up to_log) = Records time rows group failed (shown_more (shown_in group) shown) up to_log
  one_more _ _ _ _ (RecordsAfter time was group failed marked shown up to_log) = RecordsAfter time was group failed marked (shown_more (shown_in group) shown) up to_log

  pub made_more : (time : ℕ) (rows : List PairRow) (due : Due) (steps : List DeedOfChanges) (last : Due) → AreMade level flag answers time rows due steps last → AreMade level flag more time rows due steps last
  made_more time rows due [] last made = made
  made_more time rows due (step ∷ steps) last made =
      (one_more time rows due step made.0, made_more (time_by_deed time step.deed) (rows_by_deed step.deed) (due_after_changes level due step.changes) steps last made.1)
