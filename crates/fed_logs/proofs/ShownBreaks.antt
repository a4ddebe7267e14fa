-- Each break that a form shows is the break of its controller's trace.
use Rattle.std.proofs.Common.{◌≡◌, ℕ, zero, suc, ◌+◌, ◌<◌, ◌≤◌, Bool, true, false, cond, nat_eq, List, [], ◌∷◌, length, get_or, map, Some, None, inl, inr, refl, sym, ap, subst, ◌∙◌, arith, true≢false}
use Rattle.std.specs.Prelude.{option_map, slice_get}
use Rattle.std.specs.List.{All, flat_map, list_all}
use Rattle.std.proofs.lemmas.Bool.{cases_lt, and_from, and_parts, eq-eqb, eqb-true}
use Rattle.std.proofs.lemmas.List.{get_or_past}
use Rattle.std.proofs.lemmas.List.Elements.{All-append, All-cons, All-contains, All-nil}
use Rattle.std.proofs.lemmas.Option.{same_Some}
use Rattle.tod_stamp.specs.declared.stamp.Stamp.{Stamp}
use Rattle.ckd_track.specs.declared.write.Cause.{Cause}
use Rattle.write_trace.specs.declared.trace.Trace.{Trace}
use Rattle.sidefile.specs.Breaks.{break_of, break_time}
use Rattle.group_state.specs.declared.phase.Phase.{Phase}
use Rattle.group_state.specs.declared.phase.Phase.TheVariants.{Unbroken, Broken, Reported}
use Rattle.group_state.specs.Calls.{is_by_reader}
use Rattle.group_state.specs.Controls.{ControlState, new_control, is_reporting, reported, reported_break, reported_cause, phase_after, formed, joined, copied, raised, broke, begun_volume, dropped, resumed, forgotten}
use Rattle.group_state.specs.Groups.{Group, Shown, control_at, cut_of, formed_at, new_controls, shown_at, with_control}
use Rattle.group_state.specs.SoundStates.{IsGroupSound}
use Rattle.group_state.specs.Machine.{Call, Reply}
use Rattle.group_state.specs.Machine.Call.{Join, NextWanted, Copied, Raise, Break, Form, Carry, Drop, Resume, Forget}
use Rattle.group_state.specs.Machine.Reply.{Made, Joined, Held, Stale, Wanted, Formed, Nothing, Owed}
use Rattle.group_state.specs.Runs.{Answer, May, shown_by}
use Rattle.group_state.proofs.OwnParts.{control_number}
use Rattle.row_changes.specs.Changes.{break_time_of, is_at}
use Rattle.fed_logs.specs.ToldTracks.{floor_of, has_changed}
use Rattle.fed_logs.proofs.Keeping.{at_map}
use Rattle.record_rows.specs.GroupRows.{is_break_at}
use Rattle.fed_logs.specs.Feeds.{IsFedBy, is_call_of_reader}
use Rattle.fed_logs.specs.Logs.{IsFedLog, is_call_of_seat}
use Rattle.fed_logs.specs.ShownBreaks.{BrokeAs, BrokeAsTraces, IsTracesBreak, ShownBreaksAreTheTraces, GroupsBreakAtCuts, NewGroupsAreUnbroken, LogsBreakAsTraces, OtherCallsKeepBreaks}
use Rattle.fed_logs.proofs.Went.{WentRead, form_shown}
use Rattle.fed_logs.proofs.Went.WentRead.{Same, Joins, Copies, Raises, Breaks}
use Rattle.fed_logs.proofs.Standing.{at_with, same_count, formed_count}
use Rattle.fed_logs.proofs.ReadCalls.{answer_of, read_on, fed_own, form_log, drop_log, some_trace}

-- ---- one call

-- a controller that reports hasn't broken
unbroken_tells : (t : Trace) (c : ControlState) → is_reporting c.phase ≡ true → BrokeAs t c
unbroken_tells t c tells cause is = absurd (true≢false (sym tells ∙ ap is_reporting is))

one_cause : (a b : Cause) → Broken a ≡ Broken b → a ≡ b
one_cause a b e = cc

-- what a form leaves broken was broken before
broken_by_then : (cut floor : Stamp) (phase : Phase) (cause : Cause) → phase_after cut floor phase ≡ Broken cause → phase ≡ Broken cause
broken_by_then cut floor Unbroken cause e = e
broken_by_then cut floor Reported cause e = e
broken_by_then cut floor (Broken other) cause e = choose (nat_eq floor.0 cut.0) e
  where
    choose : (t : Bool) → cond t Reported (Broken other) ≡ Broken cause → Broken other ≡ Broken cause
    choose true e = absurd cc
    choose false e = e

-- a controller that isn't there hasn't broken
none_there : (t : Trace) (controls : List ControlState) (k : ℕ) → length controls ≤ k → BrokeAs t (get_or controls k (new_control 0 0 0))
none_there t controls k past = unbroken_tells t (get_or controls k (new_control 0 0 0)) (ap (λ (c : ControlState). is_reporting c.phase) (get_or_past controls k (new_control 0 0 0) past))

broke_with : (traces : List Trace) (s : Group) (j : ℕ) (change : ControlState → ControlState) → ((k : ℕ) (t : Trace) → j ≡ k → slice_get traces k ≡ Some t → BrokeAs t (control_at s k) → BrokeAs t (change (control_at s k)))
    → BrokeAsTraces traces s → BrokeAsTraces traces (with_control j change s)
broke_with traces s j change here h k t at = elim (cases_lt k (length s.controls)) [
  | inl low ↦ at_with s j k change (BrokeAs t) low (λ same. here k t same at (h k t at)) (λ apart. h k t at)
  | inr past ↦ none_there t (with_control j change s).controls k (omega (arith, past, same_count s j change))
]

broke_read : (traces : List Trace) (s next : Group) (call : Call) (reply : Reply) → May s call → WentRead s call reply next
    → ((k : ℕ) (t : Trace) → slice_get traces k ≡ Some t → is_by_reader k call ≡ true → has_changed reply ≡ true → IsFedBy t (floor_of s k) call) → BrokeAsTraces traces s → BrokeAsTraces traces next
broke_read traces s _ _ _ may (Same call reply none) fed h = h
broke_read traces s _ _ _ may (Joins b) fed h =
    broke_with traces s b.control (joined b) (λ k t same at was. unbroken_tells t (joined b (control_at s k)) (subst (λ i. is_reporting (control_at s i).phase ≡ true) same may.legal.tells.reporting)) h
broke_read traces s _ _ _ may (Copies j v x time slot wanted) fed h = broke_with traces s j (copied v x time slot) (λ k t same at was cause is. was cause is) h
broke_read traces s _ _ _ may (Raises j upto) fed h =
    broke_with traces s j (raised upto) (λ k t same at was. unbroken_tells t (raised upto (control_at s k)) (subst (λ i. is_reporting (control_at s i).phase ≡ true) same may.1.reporting)) h
broke_read traces s _ _ _ may (Breaks j upto cause) fed h =
    broke_with traces s j (broke upto cause)
    (λ k t same at was other is. subst (λ (c : Cause). break_of t ≡ Some (record { cause = c; upto = upto.0 })) (one_cause cause other is) (fed k t at (eq-eqb j k same) refl).1) h

broke_form : (traces : List Trace) (s : Group) (cut : Stamp) → BrokeAsTraces traces s → BrokeAsTraces traces (formed_at cut s)
broke_form traces s cut h k t at = elim (cases_lt k (length s.controls)) [
  | inl low ↦
      let c = control_at s k in
      subst (BrokeAs t) (sym (at_map cut s.controls k low)) (λ cause is. h k t at cause (broken_by_then cut c.floor c.phase cause is))
  | inr past ↦ none_there t (map (formed cut) s.controls) k (omega (arith, past, formed_count s cut))
]

-- ---- what a form shows

all_flat : {A B : Type 0} (P : B → Type 0) (f : A → List B) (items : List A) (d : A) → ((i : ℕ) → i < length items → All P (f (get_or items i d))) → All P (flat_map f items)
all_flat P f [] d each = All-nil P
all_flat P f (a ∷ items) d each = All-append P (f a) (flat_map f items) (each 0 (omega arith)) (all_flat P f items d (λ i low. each (suc i) (omega (arith, low))))

reported_own : (traces : List Trace) (cut : Stamp) (k : ℕ) (t : Trace) (c : ControlState) → c.queue.control ≡ k → slice_get traces k ≡ Some t → BrokeAs t c → All (IsTracesBreak traces cut) (reported_break cut c)
reported_own traces cut k t c number at broke = by_phase c.phase refl
  where
    by_phase : (phase : Phase) → c.phase ≡ phase → All (IsTracesBreak traces cut) (reported c.queue.control c.floor (reported_cause cut c.floor phase))
    by_phase Unbroken is = All-nil (IsTracesBreak traces cut)
    by_phase Reported is = All-nil (IsTracesBreak traces cut)
    by_phase (Broken cause) is = choose (nat_eq c.floor.0 cut.0) refl
      where
        here : c.floor.0 ≡ cut.0 → IsTracesBreak traces cut (c.queue.control, c.floor, cause)
        here same = record {
          trace = t;
          own = ap (slice_get traces) number ∙ at;
          at = same;
          breaks = subst (λ n. break_of t ≡ Some (record { cause = cause; upto = n })) same (broke cause is);
        }

        choose : (b : Bool) → nat_eq c.floor.0 cut.0 ≡ b → All (IsTracesBreak traces cut) (reported c.queue.control c.floor (cond b (Some cause) None))
        choose true same = All-cons (IsTracesBreak traces cut) (c.queue.control, c.floor, cause) [] (here (eqb-true c.floor.0 cut.0 same)) (All-nil (IsTracesBreak traces cut))
        choose false same = All-nil (IsTracesBreak traces cut)

all_shown : (traces : List Trace) (s : Group) (cut : Stamp) → IsGroupSound s → length traces ≡ length s.controls → BrokeAsTraces traces s → All (IsTracesBreak traces cut) (shown_at cut s).breaks
all_shown traces s cut keeps each h =
    all_flat (IsTracesBreak traces cut) (reported_break cut) s.controls (new_control 0 0 0)
    (λ k low. let t = some_trace traces k (omega (arith, low, each)) in reported_own traces cut k t.0 (control_at s k) (control_number s k keeps low) t.1 (h k t.0 t.1))

-- no reader's reply shows anything
unshown_by : (reply : Reply) (shown : Shown) → has_changed reply ≡ false → shown_by reply ≡ Some shown → ⊥
unshown_by Made shown none e = absurd cc
unshown_by Joined shown none e = absurd cc
unshown_by (Held room) shown none e = absurd cc
unshown_by Stale shown none e = absurd cc
unshown_by (Wanted found) shown none e = absurd cc
unshown_by (Formed other) shown none e = absurd cc
unshown_by (Nothing other) shown none e = absurd cc
unshown_by (Owed tracks) shown none e = absurd cc

reads_show_none : (s next : Group) (call : Call) (reply : Reply) (shown : Shown) → WentRead s call reply next → shown_by reply ≡ Some shown → ⊥
reads_show_none s _ _ _ shown (Same call reply none) e = unshown_by reply shown none e
reads_show_none s _ _ _ shown (Joins b) e = absurd cc
reads_show_none s _ _ _ shown (Copies k v x time slot wanted) e = absurd cc
reads_show_none s _ _ _ shown (Raises k upto) e = absurd cc
reads_show_none s _ _ _ shown (Breaks k upto cause) e = absurd cc

-- ---- a log

module _ (traces : List Trace) where
  abbrev Shows : Answer → Type 0
  Shows a = (shown : Shown) → shown_by a.reply ≡ Some shown → All (IsTracesBreak traces shown.cut) shown.breaks

  abbrev Goes : List Answer → Group → Type 0
  Goes run end = (s : Group) → IsFedLog traces s end run → BrokeAsTraces traces s → BrokeAsTraces traces end × All Shows run

  goes_on : (a : Answer) (run : List Answer) (end : Group) → Shows a → BrokeAsTraces traces end × All Shows run → BrokeAsTraces traces end × All Shows (a ∷ run)
  goes_on a run end shows rest = (rest.0, All-cons Shows a run shows rest.1)

  read : (call : Call) (reply : Reply) (run : List Answer) (end : Group) → is_call_of_reader call ≡ true → Goes run end → Goes (answer_of call reply ∷ run) end
  read call reply run end reads rest s log h =
      let on = read_on traces s end call reply run reads log in
      goes_on (answer_of call reply) run end (λ shown e. absurd (reads_show_none s on.next call reply shown on.went e))
      (rest on.next on.log (broke_read traces s on.next call reply on.may on.went (λ k t at own did. fed_own t k (floor_of s k) (answer_of call reply) run own did (log.fed k t at)) h))

  form : (limit : Stamp) (reply : Reply) (run : List Answer) (end : Group) → Goes run end → Goes (answer_of (Form limit) reply ∷ run) end
  form limit reply run end rest s log h =
      let cut = cut_of s limit in
      goes_on (answer_of (Form limit) reply) run end
      (λ shown e. subst (λ (o : Shown). All (IsTracesBreak traces o.cut) o.breaks) (same_Some (shown_at cut s) shown (sym (form_shown s log.runs.0 limit reply log.runs.2) ∙ e)) (all_shown traces s cut log.kept log.each h))
      (rest (formed_at cut s) (form_log traces s end limit reply run log) (broke_form traces s cut h))

  drop_volume : (j v : ℕ) (all : Bool) (reply : Reply) (run : List Answer) (end : Group) → Goes run end → Goes (answer_of (Drop j v all) reply ∷ run) end
  drop_volume j v all reply run end rest s log h =
      goes_on (answer_of (Drop j v all) reply) run end (λ shown e. absurd (none shown (sym (ap shown_by log.runs.2.0) ∙ e)))
      (rest (with_control j (dropped v all) s) (drop_log traces s end j v all reply run log) (broke_with traces s j (dropped v all) (λ k t same at was cause is. was cause is) h))
    where
      none : (shown : Shown) → None ≡ Some shown → ⊥
      none shown e = absurd cc

  one : (call : Call) (reply : Reply) (run : List Answer) (end : Group) → Goes run end → Goes (answer_of call reply ∷ run) end
  one (Join b) reply run end rest = read (Join b) reply run end refl rest
  one (NextWanted k) reply run end rest = read (NextWanted k) reply run end refl rest
  one (Copied k v x time slot) reply run end rest = read (Copied k v x time slot) reply run end refl rest
  one (Raise k upto) reply run end rest = read (Raise k upto) reply run end refl rest
  one (Break k upto cause) reply run end rest = read (Break k upto cause) reply run end refl rest
  one (Form limit) reply run end rest = form limit reply run end rest
  one (Drop k v all) reply run end rest = drop_volume k v all reply run end rest
  one (Carry k v plan) reply run end rest = λ s log h. absurd (true≢false (sym (and_parts (is_call_of_seat (answer_of (Carry k v plan) reply)) (list_all is_call_of_seat run) log.seats).0))
  one (Resume k v) reply run end rest = λ s log h. absurd (true≢false (sym (and_parts (is_call_of_seat (answer_of (Resume k v) reply)) (list_all is_call_of_seat run) log.seats).0))
  one (Forget k v) reply run end rest = λ s log h. absurd (true≢false (sym (and_parts (is_call_of_seat (answer_of (Forget k v) reply)) (list_all is_call_of_seat run) log.seats).0))

  goes : (run : List Answer) (end : Group) → Goes run end
  goes [] end = λ s log h. (subst (BrokeAsTraces traces) (sym log.runs) h, All-nil Shows)
  goes (a ∷ run) end = one a.call a.reply run end (goes run end)

pub shown_breaks_are_the_traces : ShownBreaksAreTheTraces
shown_breaks_are_the_traces traces s end run log h shown was = All-contains (Shows traces) run was.answer (goes traces run end s log h).1 was.among shown was.shows

pub logs_break_as_traces : LogsBreakAsTraces
logs_break_as_traces traces s end run log h = (goes traces run end s log h).0

-- ---- a group

break_time_at : (traces : List Trace) (k : ℕ) (t : Trace) → slice_get traces k ≡ Some t → break_time_of k (map break_time traces) ≡ break_time t
break_time_at [] k t at = absurd cc
break_time_at (u ∷ traces) zero t at = ap break_time (same_Some u t at)
break_time_at (u ∷ traces) (suc k) t at = break_time_at traces k t at

all_at_cut : (traces : List Trace) (cut : Stamp) (breaks : List (ℕ × Stamp × Cause)) → All (IsTracesBreak traces cut) breaks → list_all (is_break_at (map break_time traces) cut.0) breaks ≡ true
all_at_cut traces cut [] each = refl
all_at_cut traces cut (found ∷ breaks) each =
    let is = each 0 found (omega arith) in
    let time = break_time_at traces found.0 is.trace is.own ∙ ap (option_map (λ b. b.upto)) is.breaks in
    and_from (is_break_at (map break_time traces) cut.0 found) (list_all (is_break_at (map break_time traces) cut.0) breaks)
    (and_from (nat_eq found.1.0 cut.0) (is_at cut.0 (break_time_of found.0 (map break_time traces))) (eq-eqb found.1.0 cut.0 is.at) (ap (is_at cut.0) time ∙ eq-eqb cut.0 cut.0 refl))
    (all_at_cut traces cut breaks (λ i d low. each (suc i) d (omega (arith, low))))

pub groups_break_at_cuts : GroupsBreakAtCuts
groups_break_at_cuts traces s end run group log h was = all_at_cut traces group.cut group.breaks (shown_breaks_are_the_traces traces s end run log h _ was)

-- ---- from state to state

first_tells : (n first records blocks k : ℕ) → is_reporting (get_or (new_controls n first records blocks) k (new_control 0 0 0)).phase ≡ true
first_tells zero first records blocks k = refl
first_tells (suc n) first records blocks zero = refl
first_tells (suc n) first records blocks (suc k) = first_tells n (first + 1) records blocks k

pub new_groups_are_unbroken : NewGroupsAreUnbroken
new_groups_are_unbroken traces n records blocks k t at = unbroken_tells t (get_or (new_controls n 0 records blocks) k (new_control 0 0 0)) (first_tells n 0 records blocks k)

pub other_calls_keep_breaks : OtherCallsKeepBreaks
other_calls_keep_breaks traces s next (Join b) reply other is h = absurd cc
other_calls_keep_breaks traces s next (NextWanted k) reply other is h = absurd cc
other_calls_keep_breaks traces s next (Copied k v x time slot) reply other is h = absurd cc
other_calls_keep_breaks traces s next (Raise k upto) reply other is h = absurd cc
other_calls_keep_breaks traces s next (Break k upto cause) reply other is h = absurd cc
other_calls_keep_breaks traces s next (Form limit) reply other is h = absurd cc
other_calls_keep_breaks traces s next (Drop k v all) reply other is h = absurd cc
other_calls_keep_breaks traces s next (Carry k v plan) reply other is h = subst (BrokeAsTraces traces) (sym is.1) (broke_with traces s k (begun_volume v plan) (λ i t same at was cause e. was cause e) h)
other_calls_keep_breaks traces s next (Resume k v) reply other is h = subst (BrokeAsTraces traces) (sym is.1) (broke_with traces s k (resumed v) (λ i t same at was cause e. was cause e) h)
other_calls_keep_breaks traces s next (Forget k v) reply other is h = subst (BrokeAsTraces traces) (sym is.1) (broke_with traces s k (forgotten v) (λ i t same at was cause e. was cause e) h)
