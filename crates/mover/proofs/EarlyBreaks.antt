-- The breaks that the mover's deeds bring came before the limit, if no break that comes later is told by then.
use Rattle.std.proofs.Common.{◌≡◌, ◌⊎◌, inl, inr, ℕ, suc, ◌<◌, ◌≤◌, Bool, true, false, cond, not, nat_eq, nat_lt, ◌&&◌, ◌||◌, List, [], ◌∷◌, ◌++◌, map, Option, Some, None, refl, sym, ap, subst, ◌∙◌, arith, true≢false}
use Rattle.std.specs.Prelude.{option_map}
use Rattle.std.specs.List.{All, Contains, flat_map, list_all, list_any}
use Rattle.std.proofs.lemmas.Option.{same_Some}
use Rattle.std.proofs.lemmas.Bool.{and_from, and_parts, cases_lt, eq-eqb, lt-ltb, or_left, or_right}
use Rattle.std.proofs.lemmas.List.Elements.{All-cons, All-contains, All-nil}
use Rattle.std.proofs.lemmas.List.Folds.{list_all-append}
use Rattle.tod_stamp.specs.declared.stamp.Stamp.{Stamp}
use Rattle.ckd_track.specs.declared.write.Cause.{Cause}
use Rattle.write_trace.specs.declared.trace.Trace.{Trace}
use Rattle.pair_table.specs.declared.level.Level.{Level}
use Rattle.pair_table.specs.declared.row.PairRow.{PairRow}
use Rattle.pair_table.specs.declared.row.PairState.{PairState}
use Rattle.pending_queue.specs.Groups.{FormedGroup}
use Rattle.group_state.specs.Volumes.{is_wanted}
use Rattle.group_state.specs.Controls.{fits, fits_track, is_reporting, room_of}
use Rattle.group_state.specs.Groups.{Group, Shown, control_at, cut_of, gives_nothing, shown_at, shown_in}
use Rattle.group_state.specs.Machine.{Call, reply_to_copied, reply_to, steps}
use Rattle.group_state.specs.Machine.Call.{Join, NextWanted, Copied, Raise, Break, Form, Carry, Drop, Resume, Forget}
use Rattle.group_state.specs.Machine.Reply.{Formed, Held, Joined, Nothing}
use Rattle.group_state.specs.Runs.{Answer, Runs, shown_by}
use Rattle.group_state.specs.SoundStates.{IsGroupSound}
use Rattle.group_state.proofs.Kept.{kept_next}
use Rattle.row_changes.specs.Changes.{Due, Timed, is_at, reaches_others}
use Rattle.row_changes.specs.Changes.RowChange.{Reached}
use Rattle.record_rows.specs.Deeds.{Deed, rows_by_deed, time_by_deed}
use Rattle.record_rows.specs.Deeds.Deed.{Logged, Changed, Marked}
use Rattle.record_rows.specs.GroupRows.{breaking, group_changes, matured_with_group, maturing, maturing_of}
use Rattle.record_rows.specs.Hits.{hit_changes, hit_now, marked_changes, reached_changes, rows_marked, told_changes}
use Rattle.record_rows.specs.ToldRows.{due_after_changes}
use Rattle.site_store.specs.DeedChanges.{DeedOfChanges, changes_of}
use Rattle.fed_logs.specs.Feeds.{part_of_reader}
use Rattle.fed_logs.specs.LogLaws.{WasShown}
use Rattle.fed_logs.specs.Logs.{IsFedLog}
use Rattle.fed_logs.specs.Moves.{is_break_of_control}
use Rattle.fed_logs.specs.ShownBreaks.{BreaksAreToCome, BrokeAsTraces, IsTracesBreak}
use Rattle.fed_logs.proofs.Shown.{break_was_told}
use Rattle.fed_logs.proofs.ShownBreaks.{shown_breaks_are_the_traces}
use Rattle.mover.specs.SilentBreaks.{all_silent, breaking_at, has_none_live, silent_at, silent_from, silent_of}
use Rattle.fed_logs.specs.LaneFeeds.{reporting_after_calls}
use Rattle.fed_logs.proofs.ToldControls.{reporting_is_by_calls}
use Rattle.mover.specs.Bearing.{is_early_break}
use Rattle.mover.proofs.LanesAgain.{tells_no_more}
use Rattle.mover.specs.Steps.{AreMade, IsDeedMade}
use Rattle.mover.specs.Steps.IsDeedMade.{Suspends, Marks, MarksFirst, Records, RecordsAfter}

-- ---- a controller whose break was shown

-- A reply that shows something is a form's, at some cut.
shown_of : (s : Group) (call : Call) (shown : Shown) → shown_by (reply_to s call) ≡ Some shown → (cut : Stamp) × (shown_at cut s ≡ shown)
shown_of s (Join b) shown e = choose (fits (control_at s b.control) b) e
  where
    choose : (t : Bool) → shown_by (cond t Joined (Held (room_of (control_at s b.control)))) ≡ Some shown → (cut : Stamp) × (shown_at cut s ≡ shown)
    choose true e = absurd cc
    choose false e = absurd cc
shown_of s (NextWanted k) shown e = absurd cc
shown_of s (Copied k v x at slot) shown e = choose (is_wanted v x (control_at s k).volumes) (fits_track (control_at s k) slot) e
  where
    choose : (t u : Bool) → shown_by (reply_to_copied t u (room_of (control_at s k))) ≡ Some shown → (cut : Stamp) × (shown_at cut s ≡ shown)
    choose true true e = absurd cc
    choose true false e = absurd cc
    choose false u e = absurd cc
shown_of s (Raise k upto) shown e = absurd cc
shown_of s (Break k upto cause) shown e = absurd cc
shown_of s (Form limit) shown e = choose (gives_nothing s limit) e
  where
    choose : (t : Bool) → shown_by (cond t (Nothing (shown_at (cut_of s limit) s)) (Formed (shown_at (cut_of s limit) s))) ≡ Some shown → (cut : Stamp) × (shown_at cut s ≡ shown)
    choose true e = (cut_of s limit, same_Some (shown_at (cut_of s limit) s) shown e)
    choose false e = (cut_of s limit, same_Some (shown_at (cut_of s limit) s) shown e)
shown_of s (Carry k v plan) shown e = absurd cc
shown_of s (Drop k v all) shown e = absurd cc
shown_of s (Resume k v) shown e = absurd cc
shown_of s (Forget k v) shown e = absurd cc

-- the controllers of the breaks that an answer shows don't tell
abbrev AreSilent : Group → Answer → Type 0
AreSilent end a = (shown : Shown) → shown_by a.reply ≡ Some shown → (k : ℕ) → is_break_of_control k shown ≡ true → is_reporting (control_at end k).phase ≡ false

silent_then : (s next : Group) (a : Answer) (run : List Answer) (end : Group) → IsGroupSound s → steps s a.call a.reply next → Runs s (a ∷ run) end → AreSilent end a
silent_then s next a run end keeps is runs shown shows k found =
    let form = shown_of s a.call shown (sym (ap shown_by is.0) ∙ shows) in
    let told = break_was_told s form.0 k keeps (ap (is_break_of_control k) form.1 ∙ found) in
    let part = part_of_reader k (a ∷ run) in
    reporting_is_by_calls s (a ∷ run) end runs k told.0 ∙ ap (λ (t : Bool). reporting_after_calls t part) told.2 ∙ tells_no_more part

shown_are_silent : (s : Group) (run : List Answer) (end : Group) → IsGroupSound s → Runs s run end → All (AreSilent end) run
shown_are_silent s [] end keeps runs = All-nil (AreSilent end)
shown_are_silent s (a ∷ run) end keeps (next, may, is, rest) =
    All-cons (AreSilent end) a run (silent_then s next a run end keeps is (next, may, is, rest)) (shown_are_silent next run end (subst IsGroupSound (sym is.1) (kept_next s a.call keeps may)) rest)

-- ---- changes without a break

abbrev are_early : (time : ℕ) → List Timed → Bool
are_early time changes = list_all (is_early_break time) changes

hits_early : (limit time : ℕ) (hit : List ℕ) → are_early limit (hit_changes time hit) ≡ true
hits_early limit time [] = refl
hits_early limit time (d ∷ hit) = refl

marks_early : (limit time : ℕ) (hit : List ℕ) → are_early limit (marked_changes time hit) ≡ true
marks_early limit time [] = refl
marks_early limit time (d ∷ hit) = refl

both_early : (limit : ℕ) (a b : List Timed) → are_early limit a ≡ true → are_early limit b ≡ true → are_early limit (a ++ b) ≡ true
both_early limit a b first then = list_all-append (is_early_break limit) a b ∙ and_from (are_early limit a) (are_early limit b) first then

reached_early : (limit : ℕ) (level : Level) (time : ℕ) (marked : List ℕ) → are_early limit (reached_changes level time marked) ≡ true
reached_early limit level time [] = refl
reached_early limit level time (d ∷ marked) = choose (reaches_others level)
  where
    choose : (others : Bool) → are_early limit (cond others (record { time = time; change = Reached (d ∷ marked) } ∷ []) []) ≡ true
    choose true = refl
    choose false = refl

told_early : (limit : ℕ) (level : Level) (time : ℕ) (marked hit : List ℕ) → are_early limit (told_changes level time marked hit) ≡ true
told_early limit level time marked hit = both_early limit (reached_changes level time marked) (hit_changes time hit) (reached_early limit level time marked) (hits_early limit time hit)

matured_early : (limit : ℕ) (group : FormedGroup) (rows : List PairRow) → are_early limit (flat_map (maturing_of group) rows) ≡ true
matured_early limit group [] = refl
matured_early limit group (r ∷ rows) = both_early limit (maturing_of group r) (flat_map (maturing_of group) rows) (one (matured_with_group group r)) (matured_early limit group rows)
  where
    one : (state : Option PairState) → are_early limit (maturing group.cut.0 r.device state) ≡ true
    one None = refl
    one (Some state) = refl

-- ---- silent breaks

silent_early : (limit time k : ℕ) (breaks : List (Option ℕ)) (rows : List PairRow) → are_early limit (silent_from limit time k breaks rows) ≡ true
silent_early limit time k [] rows = refl
silent_early limit time k (b ∷ breaks) rows = both_early limit (silent_at limit time k b rows) (silent_from limit time (suc k) breaks rows) (one (is_at time b) (nat_lt time limit) refl (has_none_live k rows)) (silent_early limit time (suc k) breaks rows)
  where
    one : (a low : Bool) → nat_lt time limit ≡ low → (none : Bool) → are_early limit (cond (a && (low && none)) (breaking_at time k ∷ []) []) ≡ true
    one true true below true = and_from (nat_lt time limit) true below refl
    one true true below false = refl
    one true false below none = refl
    one false low below none = refl

silent_of_early : (limit : ℕ) (breaks : List (Option ℕ)) (deed : Deed) → are_early limit (silent_of limit breaks deed) ≡ true
silent_of_early limit breaks (Logged cut entries rows) = silent_early limit cut 0 breaks rows
silent_of_early limit breaks (Changed time rows) = refl
silent_of_early limit breaks (Marked spot ended rows) = refl

pub named_early : (limit : ℕ) (breaks : List (Option ℕ)) (steps : List DeedOfChanges) → are_early limit (changes_of steps) ≡ true → are_early limit (changes_of (all_silent limit breaks steps)) ≡ true
named_early limit breaks [] early = refl
named_early limit breaks (step ∷ steps) early =
    let parts = and_parts (are_early limit step.changes) (are_early limit (changes_of steps)) (sym (list_all-append (is_early_break limit) step.changes (changes_of steps)) ∙ early) in
    both_early limit (step.changes ++ silent_of limit breaks step.deed) (changes_of (all_silent limit breaks steps)) (both_early limit step.changes (silent_of limit breaks step.deed) parts.0 (silent_of_early limit breaks step.deed)) (named_early limit breaks steps parts.1)

-- ---- the mover's steps

module _ (traces : List Trace) (begun end : Group) (log answers : List Answer) (limit : ℕ) (fed : IsFedLog traces begun end log) (broke : BrokeAsTraces traces begun) (awaits : BreaksAreToCome traces limit end) (among : (a : Answer) → Contains answers a → Contains log a) where
  -- A break that a group shows comes before the limit: its controller doesn't tell at the end.
  shown_early : (shown : Shown) → WasShown log shown → (found : ℕ × Stamp × Cause) → IsTracesBreak traces shown.cut found → is_break_of_control found.0 shown ≡ true → shown.cut.0 < limit
  shown_early shown was found is there = elim (cases_lt shown.cut.0 limit) [
    | inl early ↦ early
    | inr late ↦
        let tells = awaits found.0 shown.cut.0 is.trace is.own (ap (option_map (λ b. b.upto)) is.breaks) late in
        let silent = All-contains (AreSilent end) log was.answer (shown_are_silent begun log end fed.kept fed.runs) was.among shown was.shows found.0 there in
        absurd (true≢false (sym tells.reporting ∙ silent))
  ]

  breaks_early : (group : FormedGroup) → WasShown log (shown_in group) → are_early limit (map (breaking group.cut.0) group.breaks) ≡ true
  breaks_early group was = each group.breaks (shown_breaks_are_the_traces traces begun end log fed broke (shown_in group) was) (λ found there. there)
    where
      each : (breaks : List (ℕ × Stamp × Cause)) → All (IsTracesBreak traces group.cut) breaks → ((k : ℕ) → list_any (λ b. nat_eq b.0 k) breaks ≡ true → is_break_of_control k (shown_in group) ≡ true) → are_early limit (map (breaking group.cut.0) breaks) ≡ true
      each [] all there = refl
      each (found ∷ breaks) all there =
          let here = there found.0 (or_left (nat_eq found.0 found.0) (list_any (λ b. nat_eq b.0 found.0) breaks) (eq-eqb found.0 found.0 refl)) in
          and_from (nat_lt group.cut.0 limit) (are_early limit (map (breaking group.cut.0) breaks)) (lt-ltb group.cut.0 limit (shown_early (shown_in group) was found (all 0 found (omega arith)) here))
          (each breaks (λ i d low. all (suc i) d (omega (arith, low))) (λ k any. there k (or_right (nat_eq found.0 k) (list_any (λ b. nat_eq b.0 k) breaks) any)))

  group_early : (group : FormedGroup) (rows : List PairRow) → WasShown answers (shown_in group) → are_early limit (group_changes group rows) ≡ true
  group_early group rows was =
      both_early limit (map (breaking group.cut.0) group.breaks) (flat_map (maturing_of group) rows)
      (breaks_early group (record { answer = was.answer; among = among was.answer was.among; shows = was.shows })) (matured_early limit group rows)

  step_early : (level : Level) (flag : Bool) (time : ℕ) (rows : List PairRow) (due : Due) (step : DeedOfChanges) → IsDeedMade level flag answers time rows due step → are_early limit step.changes ≡ true
  step_early level flag _ _ _ _ (Suspends time rows failed hits) = hits_early limit time (hit_now failed rows)
  step_early level flag _ _ _ _ (Marks time rows failed spot) = hits_early limit time (hit_now failed rows)
  step_early level flag _ _ _ _ (MarksFirst time rows failed spot) = marks_early limit time (hit_now failed rows)
  step_early level flag _ _ _ _ (Records time rows group failed shown up to_log) =
      both_early limit (group_changes group rows) (hit_changes group.cut.0 (hit_now failed rows)) (group_early group rows shown) (hits_early limit group.cut.0 (hit_now failed rows))
  step_early level flag _ _ _ _ (RecordsAfter time was group failed marked shown up to_log) =
      both_early limit (group_changes group (rows_marked time marked was)) (told_changes level group.cut.0 marked (hit_now failed (rows_marked time marked was))) (group_early group (rows_marked time marked was) shown) (told_early limit level group.cut.0 marked (hit_now failed (rows_marked time marked was)))

  pub made_early : (level : Level) (flag : Bool) (time : ℕ) (rows : List PairRow) (due : Due) (steps : List DeedOfChanges) (last : Due) → AreMade level flag answers time rows due steps last → are_early limit (changes_of steps) ≡ true
  made_early level flag time rows due [] last made = refl
  made_early level flag time rows due (step ∷ steps) last made =
      both_early limit step.changes (changes_of steps) (step_early level flag time rows due step made.0)
      (made_early level flag (time_by_deed time step.deed) (rows_by_deed step.deed) (due_after_changes level due step.changes) steps last made.1)
