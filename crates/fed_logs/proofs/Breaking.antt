-- Breaks come with groups, at their times.
use Rattle.std.proofs.Common.{◌≡◌, ℕ, zero, suc, ◌<◌, ◌≤◌, Bool, true, false, cond, nat_eq, List, [], ◌∷◌, ◌++◌, length, take, Option, Some, ◌⊎◌, inl, inr, refl, sym, ap, subst, ◌∙◌, arith, append-nil, append_assoc, true≢false}
use Rattle.std.specs.Prelude.{option_map, slice_get}
use Rattle.std.specs.List.{list_all, Contains}
use Rattle.std.proofs.lemmas.Bool.{cases_Bool, and_parts, eq-eqb, ltb-false}
use Rattle.std.proofs.lemmas.Option.{same_Some}
use Rattle.std.proofs.lemmas.List.Elements.{Contains-append_left, Contains-push}
use Rattle.tod_stamp.specs.declared.stamp.Stamp.{Stamp}
use Rattle.ckd_track.specs.declared.write.Cause.{Cause}
use Rattle.pair_table.specs.declared.row.PairRow.{PairRow}
use Rattle.write_trace.specs.declared.trace.Trace.{Trace}
use Rattle.sidefile.specs.Breaks.{break_time, break_of, has_broken, is_below}
use Rattle.group_state.specs.declared.phase.Phase.{Phase}
use Rattle.group_state.specs.declared.phase.Phase.TheVariants.{Unbroken, Broken, Reported}
use Rattle.group_state.specs.Controls.{ControlState, counts, is_reporting, phase_after, joined, copied, raised, broke, dropped}
use Rattle.group_state.specs.Groups.{Group, control_at, with_control, cut_of, formed_at, shown_at}
use Rattle.group_state.specs.SoundStates.{IsGroupSound, has_reported}
use Rattle.group_state.specs.Machine.{Call, Reply}
use Rattle.group_state.specs.Machine.Call.{Join, NextWanted, Copied, Raise, Break, Form, Carry, Drop, Resume, Forget}
use Rattle.group_state.specs.Runs.{Answer, May}
use Rattle.group_state.proofs.FormLaws.{all_at}
use Rattle.group_state.proofs.Kept.{kept_form}
use Rattle.fed_logs.specs.ToldTracks.{floor_of, has_changed}
use Rattle.fed_logs.proofs.Keeping.{at_map, reported_to_last}
use Rattle.record_rows.specs.Deeds.{Deed, time_meant_after}
use Rattle.record_rows.specs.Deeds.Deed.{Logged, Changed, Marked}
use Rattle.fed_logs.specs.Feeds.{IsFedBy, is_call_of_reader, part_of_mover}
use Rattle.group_state.specs.Calls.{is_by_reader}
use Rattle.fed_logs.specs.Moves.{AreQuiet, ShowsNothing, MayFollow, Plans, plans_with_shown, plans_without, IsLogged, KeepsShown, KeepsCall, IsKeptOn, MakesDeeds, is_break_of_control}
use Rattle.fed_logs.specs.Logs.{IsFedLog, AwaitsBreak, is_call_of_seat}
use Rattle.fed_logs.specs.LogLaws.{WasShown, ReportsBreak, BreaksCome}
use Rattle.fed_logs.specs.LogLaws.ReportsBreak.{Now, Later}
use Rattle.fed_logs.proofs.Shown.{counts_after, break_was_told}
use Rattle.fed_logs.proofs.Went.{WentRead, form_shown}
use Rattle.fed_logs.proofs.Went.WentRead.{Same, Joins, Copies, Raises, Breaks}
use Rattle.fed_logs.proofs.Standing.{at_with, same_count, formed_count}
use Rattle.fed_logs.proofs.ReadCalls.{answer_of, read_on, fed_own, form_log, drop_log}
use Rattle.fed_logs.proofs.Bearing.{kept_shown}

-- ---- what is kept of a controller by a call

record IsAwaited (b : ℕ) (c : ControlState) : Type 0 where
  counted : counts c.phase ≡ true
  up_to : c.floor.0 ≤ b
  broken : is_reporting c.phase ≡ false → c.floor.0 ≡ b

awaits_with : (s : Group) (j k b : ℕ) (change : ControlState → ControlState) → (j ≡ k → IsAwaited b (control_at s k) → IsAwaited b (change (control_at s k))) → AwaitsBreak s k b → AwaitsBreak (with_control j change s) k b
awaits_with s j k b change here h =
    let was : IsAwaited b (control_at s k) = record { counted = h.counted; up_to = h.up_to; broken = h.broken } in
    let now = at_with s j k change (IsAwaited b) h.low (λ is. here is was) (λ apart. was) in
    record { low = omega (arith, h.low, same_count s j change); counted = now.counted; up_to = now.up_to; broken = now.broken }

-- a reader reports up to its controller's break time, and its break is at it
pub told_up_to : (t : Trace) (b time : ℕ) → break_time t ≡ Some b → has_broken t time ≡ false → time ≤ b
told_up_to t b time is none = ltb-false b time (ap (λ (o : Option ℕ). is_below o time) (sym is) ∙ none)

pub broke_at : (t : Trace) (b : ℕ) (upto : Stamp) (cause : Cause) → break_time t ≡ Some b → break_of t ≡ Some (record { cause = cause; upto = upto.0 }) → upto.0 ≡ b
broke_at t b upto cause is broken = same_Some upto.0 b (sym (ap (option_map (λ r. r.upto)) broken) ∙ is)

awaits_read : (s next : Group) (call : Call) (reply : Reply) (k b : ℕ) (t : Trace) → break_time t ≡ Some b → May s call → WentRead s call reply next → (is_by_reader k call ≡ true → has_changed reply ≡ true → IsFedBy t (floor_of s k) call) → AwaitsBreak s k b → AwaitsBreak next k b
awaits_read s _ _ _ k b t is may (Same call reply none) fed h = h
awaits_read s _ _ _ k b t is may (Joins batch) fed h =
    awaits_with s batch.control k b (joined batch)
    (λ same was. record { counted = was.counted; up_to = told_up_to t b batch.upto.0 is (fed (eq-eqb batch.control k same) refl).1; broken = λ e. absurd (true≢false (sym (subst (λ i. is_reporting (control_at s i).phase ≡ true) same may.legal.tells.reporting) ∙ e)) }) h
awaits_read s _ _ _ k b t is may (Copies j v x at slot wanted) fed h = awaits_with s j k b (copied v x at slot) (λ same was. record { counted = was.counted; up_to = was.up_to; broken = was.broken }) h
awaits_read s _ _ _ k b t is may (Raises j upto) fed h =
    awaits_with s j k b (raised upto)
    (λ same was. record { counted = was.counted; up_to = told_up_to t b upto.0 is (fed (eq-eqb j k same) refl).1; broken = λ e. absurd (true≢false (sym (subst (λ i. is_reporting (control_at s i).phase ≡ true) same may.1.reporting) ∙ e)) }) h
awaits_read s _ _ _ k b t is may (Breaks j upto cause) fed h =
    awaits_with s j k b (broke upto cause) (λ same was. let at = broke_at t b upto cause is (fed (eq-eqb j k same) refl).1 in record { counted = refl; up_to = omega (arith, at); broken = λ e. at }) h

reporting_same : (cut floor : Stamp) (p : Phase) → counts (phase_after cut floor p) ≡ true → is_reporting (phase_after cut floor p) ≡ is_reporting p
reporting_same cut floor Unbroken e = refl
reporting_same cut floor Reported e = refl
reporting_same cut floor (Broken cause) e = choose (nat_eq floor.0 cut.0) e
  where
    choose : (t : Bool) → counts (cond t Reported (Broken cause)) ≡ true → is_reporting (cond t Reported (Broken cause)) ≡ false
    choose true e = refl
    choose false e = refl

-- a form that doesn't report it
awaits_form : (s : Group) (limit : Stamp) (k b : ℕ) → IsGroupSound s → is_break_of_control k (shown_at (cut_of s limit) s) ≡ false → AwaitsBreak s k b → AwaitsBreak (formed_at (cut_of s limit) s) k b
awaits_form s limit k b keeps none h =
    let cut = cut_of s limit in
    let c = control_at s k in
    let is = at_map cut s.controls k h.low in
    let counted = counts_after s cut k keeps h.low none h.counted in
    let then : counts (phase_after cut c.floor c.phase) ≡ true = sym (ap (λ (c : ControlState). counts c.phase) is) ∙ counted in
    record {
      low = omega (arith, h.low, formed_count s cut);
      counted = counted;
      up_to = subst (λ (c : ControlState). c.floor.0 ≤ b) (sym is) h.up_to;
      broken = λ e. ap (λ (c : ControlState). c.floor.0) is ∙ h.broken (sym (reporting_same cut c.floor c.phase then) ∙ sym (ap (λ (c : ControlState). is_reporting c.phase) is) ∙ e);
    }

-- The cut is up to the break time of a controller that counts.
cut_up_to : (s : Group) (limit : Stamp) (k b : ℕ) → IsGroupSound s → AwaitsBreak s k b → is_break_of_control k (shown_at (cut_of s limit) s) ≡ false → (cut_of s limit).0 ≤ b
cut_up_to s limit k b keeps h none =
    let cut = cut_of s limit in
    let next = formed_at cut s in
    let then = awaits_form s limit k b keeps none h in
    let kept = kept_form s limit.0 cut refl keeps in
    let low = reported_to_last cut (control_at next k) (all_at (has_reported cut) next.controls k _ kept.told then.low) then.counted in
    omega (arith, low, then.up_to)

-- ---- a log

-- all answers of a part are a run's
abbrev AreAmong : List Answer → List Answer → Type 0
AreAmong whole run = (before : List Answer) × (before ++ run ≡ whole)

first_among : (whole : List Answer) (a : Answer) (run : List Answer) → AreAmong whole (a ∷ run) → Contains whole a
first_among whole a run is = subst (λ (answers : List Answer). Contains answers a) (append_assoc is.0 (a ∷ []) run ∙ is.1) (Contains-append_left (is.0 ++ a ∷ []) run a (Contains-push is.0 a))

rest_among : (whole : List Answer) (a : Answer) (run : List Answer) → AreAmong whole (a ∷ run) → AreAmong whole run
rest_among whole a run is = (is.0 ++ a ∷ [], append_assoc is.0 (a ∷ []) run ∙ is.1)

module _ (traces : List Trace) (whole : List Answer) (k b : ℕ) (t : Trace) (at : slice_get traces k ≡ Some t) (breaks : break_time t ≡ Some b) where
  abbrev Goal : (time : ℕ) → List PairRow → List Deed → Type 0
  Goal time rows deeds = (n : ℕ) → n ≤ length deeds → b < time_meant_after (take n deeds) time → ReportsBreak whole k b rows (take n deeds)

  at_start : (time : ℕ) (rows : List PairRow) (deeds : List Deed) → deeds ≡ [] → time ≤ b → Goal time rows deeds
  at_start time rows deeds none low zero le past = absurd (omega (arith, low, past))
  at_start time rows deeds none low (suc n) le past = absurd (let few : length deeds ≡ 0 = ap (λ (ds : List Deed). length ds) none in omega (arith, few, le))

  quiet_goal : (time : ℕ) (quiet : List Deed) (rows next : List PairRow) (more : List Deed) → AreQuiet time rows quiet next → time ≤ b → Goal time next more → Goal time rows (quiet ++ more)
  quiet_goal time [] rows next more is low goal = subst (λ (r : List PairRow). Goal time r more) is goal
  quiet_goal time (Logged cut entries fewer ∷ quiet) rows next more is low goal = absurd is
  quiet_goal time (Changed when fewer ∷ quiet) rows next more is low goal = changed (quiet_goal time quiet fewer next more is.2 low goal)
    where
      changed : Goal time fewer (quiet ++ more) → Goal time rows (Changed when fewer ∷ (quiet ++ more))
      changed goal zero le past = absurd (omega (arith, low, past))
      changed goal (suc n) le past = Later rows (Changed when fewer) (take n (quiet ++ more)) (goal n (omega (arith, le)) (subst (λ m. b < time_meant_after (take n (quiet ++ more)) m) is.0 past))
  quiet_goal time (Marked spot ended fewer ∷ quiet) rows next more is low goal = marked (quiet_goal time quiet fewer next more is.1 low goal)
    where
      marked : Goal time fewer (quiet ++ more) → Goal time rows (Marked spot ended fewer ∷ (quiet ++ more))
      marked goal zero le past = absurd (omega (arith, low, past))
      marked goal (suc n) le past = Later rows (Marked spot ended fewer) (take n (quiet ++ more)) (goal n (omega (arith, le)) past)

  abbrev Comes : List Answer → Group → Type 0
  Comes run end = (s : Group) (time : ℕ) (rows : List PairRow) (done : Plans) (deeds : List Deed) → IsFedLog traces s end run → AreAmong whole run → MakesDeeds time rows done (part_of_mover run) deeds → AwaitsBreak s k b → time ≤ b → Goal time rows deeds

  kept_on : (a : Answer) (run : List Answer) (time : ℕ) (rows : List PairRow) (done : Plans) (deeds : List Deed) → IsKeptOn time rows done a deeds (λ t r p d. MakesDeeds t r p (part_of_mover run) d) → time ≤ b
      → ((next : List PairRow) (more : List Deed) → KeepsCall time next done a.call a.reply more (λ t r p d. MakesDeeds t r p (part_of_mover run) d) → Goal time next more) → Goal time rows deeds
  kept_on a run time rows done deeds h low by = subst (Goal time rows) (sym h.are) (quiet_goal time h.quiet rows h.next h.more h.suspends low (choose h.goes_on))
    where
      choose : (h.more ≡ []) ⊎ KeepsCall time h.next done a.call a.reply h.more (λ t r p d. MakesDeeds t r p (part_of_mover run) d) → Goal time h.next h.more
      choose (inl none) = at_start time h.next h.more none low
      choose (inr keeps) = by h.next h.more keeps

  -- a form
  form : (limit : Stamp) (reply : Reply) (run : List Answer) (end : Group) → Comes run end → (s : Group) (time : ℕ) (rows : List PairRow) (done : Plans) (deeds : List Deed) → IsFedLog traces s end (answer_of (Form limit) reply ∷ run) → AreAmong whole (answer_of (Form limit) reply ∷ run)
      → KeepsShown time rows done (Some (shown_at (cut_of s limit) s)) deeds (λ t r p d. MakesDeeds t r p (part_of_mover run) d) → AwaitsBreak s k b → time ≤ b → Goal time rows deeds
  form limit reply run end rest s time rows done deeds log among keeps waits low = by (cases_Bool (is_break_of_control k (shown_at (cut_of s limit) s))) keeps
    where
      later_log : IsFedLog traces (formed_at (cut_of s limit) s) end run
      later_log = form_log traces s end limit reply run log

      -- its cut is the break time, where it reports the break
      at_break : is_break_of_control k (shown_at (cut_of s limit) s) ≡ true → (cut_of s limit).0 ≡ b
      at_break is = let told = break_was_told s (cut_of s limit) k log.kept is in told.1 ∙ waits.broken told.2

      was_shown : WasShown whole (shown_at (cut_of s limit) s)
      was_shown = record { answer = answer_of (Form limit) reply; among = first_among whole (answer_of (Form limit) reply) run among; shows = form_shown s log.runs.0 limit reply log.runs.2 }

      logged : (mid next : List PairRow) (later : List Deed) → MayFollow (shown_at (cut_of s limit) s) mid next → MakesDeeds (cut_of s limit).0 next (plans_with_shown (shown_at (cut_of s limit) s) done) (part_of_mover run) later
          → (is_break_of_control k (shown_at (cut_of s limit) s) ≡ true) ⊎ (is_break_of_control k (shown_at (cut_of s limit) s) ≡ false) → Goal time mid (Logged (cut_of s limit).0 (shown_at (cut_of s limit) s).entries next ∷ later)
      logged mid next later follow moves told zero le past = absurd (omega (arith, low, past))
      logged mid next later follow moves (inl is) (suc n) le past = Now (shown_at (cut_of s limit) s) mid next (take n later) was_shown is (at_break is) follow
      logged mid next later follow moves (inr none) (suc n) le past =
          Later mid (Logged (cut_of s limit).0 (shown_at (cut_of s limit) s).entries next) (take n later)
          (rest (formed_at (cut_of s limit) s) (cut_of s limit).0 next (plans_with_shown (shown_at (cut_of s limit) s) done) later later_log (rest_among whole (answer_of (Form limit) reply) run among) moves
          (awaits_form s limit k b log.kept none waits) (cut_up_to s limit k b log.kept waits none) n (omega (arith, le)) past)

      by : (is_break_of_control k (shown_at (cut_of s limit) s) ≡ true) ⊎ (is_break_of_control k (shown_at (cut_of s limit) s) ≡ false)
          → (ShowsNothing time rows (shown_at (cut_of s limit) s) × MakesDeeds time rows (plans_with_shown (shown_at (cut_of s limit) s) done) (part_of_mover run) deeds) ⊎ IsLogged time rows done (shown_at (cut_of s limit) s) deeds (λ t r p d. MakesDeeds t r p (part_of_mover run) d) → Goal time rows deeds
      by told (inr h) =
          subst (Goal time rows) (sym h.are)
          (quiet_goal time h.quiet rows h.mid (Logged (cut_of s limit).0 (shown_at (cut_of s limit) s).entries h.next ∷ h.later) h.suspends low (logged h.mid h.next h.later h.follow h.goes_on told))
      by (inl is) (inl both) = absurd (let early = both.0.early k is in let same = at_break is in absurd_low (omega (arith, early, same)))
        where
          absurd_low : b < time → ⊥
          absurd_low past = omega (arith, low, past)
      by (inr none) (inl both) =
          rest (formed_at (cut_of s limit) s) time rows (plans_with_shown (shown_at (cut_of s limit) s) done) deeds later_log (rest_among whole (answer_of (Form limit) reply) run among) both.1 (awaits_form s limit k b log.kept none waits) low

  read : (call : Call) (reply : Reply) (run : List Answer) (end : Group) → is_call_of_reader call ≡ true → Comes run end → (s : Group) (time : ℕ) (rows : List PairRow) (done : Plans) (deeds : List Deed) → IsFedLog traces s end (answer_of call reply ∷ run)
      → AreAmong whole (answer_of call reply ∷ run) → MakesDeeds time rows done (part_of_mover run) deeds → AwaitsBreak s k b → time ≤ b → Goal time rows deeds
  read call reply run end reads rest s time rows done deeds log among moves waits low =
      let on = read_on traces s end call reply run reads log in
      rest on.next time rows done deeds on.log (rest_among whole (answer_of call reply) run among) moves
      (awaits_read s on.next call reply k b t breaks on.may on.went (λ own did. fed_own t k (floor_of s k) (answer_of call reply) run own did (log.fed k t at)) waits) low

  one : (call : Call) (reply : Reply) (run : List Answer) (end : Group) → Comes run end → Comes (answer_of call reply ∷ run) end
  one (Join batch) reply run end rest s time rows done deeds log among moves waits low = read (Join batch) reply run end refl rest s time rows done deeds log among moves waits low
  one (NextWanted j) reply run end rest s time rows done deeds log among moves waits low = read (NextWanted j) reply run end refl rest s time rows done deeds log among moves waits low
  one (Copied j v x when slot) reply run end rest s time rows done deeds log among moves waits low = read (Copied j v x when slot) reply run end refl rest s time rows done deeds log among moves waits low
  one (Raise j upto) reply run end rest s time rows done deeds log among moves waits low = read (Raise j upto) reply run end refl rest s time rows done deeds log among moves waits low
  one (Break j upto cause) reply run end rest s time rows done deeds log among moves waits low = read (Break j upto cause) reply run end refl rest s time rows done deeds log among moves waits low
  one (Form limit) reply run end rest s time rows done deeds log among moves waits low =
      kept_on (answer_of (Form limit) reply) run time rows done deeds moves low
      (λ next more keeps. form limit reply run end rest s time next done more log among
      (kept_shown s log.runs.0 limit reply time next done more (λ t r p d. MakesDeeds t r p (part_of_mover run) d) (form_shown s log.runs.0 limit reply log.runs.2) keeps) waits low)
  one (Drop j v all) reply run end rest s time rows done deeds log among moves waits low =
      kept_on (answer_of (Drop j v all) reply) run time rows done deeds moves low
      (λ next more keeps. rest (with_control j (dropped v all) s) time next (plans_without j v done) more (drop_log traces s end j v all reply run log) (rest_among whole (answer_of (Drop j v all) reply) run among) keeps.goes_on
      (awaits_with s j k b (dropped v all) (λ same was. record { counted = was.counted; up_to = was.up_to; broken = was.broken }) waits) low)
  one (Carry j v plan) reply run end rest s time rows done deeds log among moves waits low = absurd (true≢false (sym (and_parts (is_call_of_seat (answer_of (Carry j v plan) reply)) (list_all is_call_of_seat run) log.seats).0))
  one (Resume j v) reply run end rest s time rows done deeds log among moves waits low = absurd (true≢false (sym (and_parts (is_call_of_seat (answer_of (Resume j v) reply)) (list_all is_call_of_seat run) log.seats).0))
  one (Forget j v) reply run end rest s time rows done deeds log among moves waits low = absurd (true≢false (sym (and_parts (is_call_of_seat (answer_of (Forget j v) reply)) (list_all is_call_of_seat run) log.seats).0))

  pub comes : (run : List Answer) (end : Group) → Comes run end
  comes [] end = λ s time rows done deeds log among moves waits low. subst (Goal time rows) (append-nil deeds) (quiet_goal time deeds rows moves.0 [] moves.1 low (at_start time moves.0 [] refl low))
  comes (a ∷ run) end = one a.call a.reply run end (comes run end)

pub breaks_come : BreaksCome
breaks_come traces s end run time rows done deeds k b t log moves at breaks waits low = comes traces run k b t at breaks run end s time rows done deeds log ([], refl) moves waits low
