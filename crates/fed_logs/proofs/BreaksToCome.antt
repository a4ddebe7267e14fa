-- Breaks that aren't below the limit of a log are still to come after it.
use Rattle.std.proofs.Common.{◌≡◌, ℕ, zero, suc, ◌+◌, ◌<◌, ◌≤◌, true, List, [], ◌∷◌, length, Some, refl, sym, ap, subst, ◌∙◌, arith, true≢false}
use Rattle.std.specs.Prelude.{slice_get}
use Rattle.std.specs.List.{list_all}
use Rattle.std.proofs.lemmas.Bool.{and_parts, eq-eqb, ltb-true}
use Rattle.std.proofs.lemmas.Option.{slice_get_within}
use Rattle.tod_stamp.specs.declared.stamp.Stamp.{Stamp}
use Rattle.write_trace.specs.declared.trace.Trace.{Trace}
use Rattle.sidefile.specs.Breaks.{break_time}
use Rattle.group_state.specs.declared.phase.Phase.{Phase}
use Rattle.group_state.specs.declared.phase.Phase.TheVariants.{Unbroken, Broken, Reported}
use Rattle.group_state.specs.Calls.{is_by_reader}
use Rattle.group_state.specs.Controls.{ControlState, new_control, counts, is_reporting, phase_after, joined, copied, raised, broke, begun_volume, dropped, resumed, forgotten}
use Rattle.group_state.specs.Groups.{Group, control_at, cut_of, formed_at, new_controls, with_control}
use Rattle.group_state.specs.Machine.{Call, Reply}
use Rattle.group_state.specs.Machine.Call.{Join, NextWanted, Copied, Raise, Break, Form, Carry, Drop, Resume, Forget}
use Rattle.group_state.specs.Runs.{Answer, May}
use Rattle.group_state.proofs.Stands.{new_at}
use Rattle.fed_logs.specs.ToldTracks.{floor_of, has_changed}
use Rattle.fed_logs.proofs.Keeping.{at_map}
use Rattle.fed_logs.specs.Feeds.{IsFedBy, is_call_of_reader}
use Rattle.fed_logs.specs.Logs.{IsFedLog, is_call_of_seat}
use Rattle.fed_logs.specs.ShownBreaks.{StillReports, is_break_below, BreaksToComeAreAwaited, AllBreaksAreToCome, LaterBreaksAreToCome, OtherCallsAwaitBreaks}
use Rattle.fed_logs.proofs.Went.{WentRead}
use Rattle.fed_logs.proofs.Went.WentRead.{Same, Joins, Copies, Raises, Breaks}
use Rattle.fed_logs.proofs.Standing.{at_with, same_count, formed_count}
use Rattle.fed_logs.proofs.ReadCalls.{answer_of, read_on, fed_own, form_log, drop_log}
use Rattle.fed_logs.proofs.Breaking.{told_up_to, broke_at}

pub breaks_to_come_are_awaited : BreaksToComeAreAwaited
breaks_to_come_are_awaited s k b h = record { low = h.low; counted = counted (control_at s k).phase h.reporting; up_to = h.up_to; broken = λ e. absurd (true≢false (sym h.reporting ∙ e)) }
  where
    counted : (p : Phase) → is_reporting p ≡ true → counts p ≡ true
    counted Unbroken e = refl
    counted (Broken cause) e = refl
    counted Reported e = absurd cc

-- ---- one call

-- what is kept of one controller
record Tells (b : ℕ) (c : ControlState) : Type 0 where
  reporting : is_reporting c.phase ≡ true
  up_to : c.floor.0 ≤ b

tells_with : (s : Group) (j k b : ℕ) (change : ControlState → ControlState) → (j ≡ k → Tells b (control_at s k) → Tells b (change (control_at s k))) → StillReports s k b → StillReports (with_control j change s) k b
tells_with s j k b change here h =
    let was : Tells b (control_at s k) = record { reporting = h.reporting; up_to = h.up_to } in
    let now = at_with s j k change (Tells b) h.low (λ is. here is was) (λ apart. was) in
    record { low = omega (arith, h.low, same_count s j change); reporting = now.reporting; up_to = now.up_to }

-- A break that comes later than the limit isn't reported.
tells_read : (s next : Group) (call : Call) (reply : Reply) (k b limit : ℕ) (t : Trace) → break_time t ≡ Some b → limit ≤ b → is_break_below limit (answer_of call reply) ≡ true → May s call → WentRead s call reply next
    → (is_by_reader k call ≡ true → has_changed reply ≡ true → IsFedBy t (floor_of s k) call) → StillReports s k b → StillReports next k b
tells_read s _ _ _ k b limit t is late below may (Same call reply none) fed h = h
tells_read s _ _ _ k b limit t is late below may (Joins batch) fed h =
    tells_with s batch.control k b (joined batch) (λ same was. record { reporting = was.reporting; up_to = told_up_to t b batch.upto.0 is (fed (eq-eqb batch.control k same) refl).1 }) h
tells_read s _ _ _ k b limit t is late below may (Copies j v x time slot wanted) fed h = tells_with s j k b (copied v x time slot) (λ same was. record { reporting = was.reporting; up_to = was.up_to }) h
tells_read s _ _ _ k b limit t is late below may (Raises j upto) fed h =
    tells_with s j k b (raised upto) (λ same was. record { reporting = was.reporting; up_to = told_up_to t b upto.0 is (fed (eq-eqb j k same) refl).1 }) h
tells_read s _ _ _ k b limit t is late below may (Breaks j upto cause) fed h =
    tells_with s j k b (broke upto cause) (λ same was. absurd (let at = broke_at t b upto cause is (fed (eq-eqb j k same) refl).1 in omega (arith, at, late, ltb-true upto.0 limit below))) h

tells_form : (s : Group) (cut : Stamp) (k b : ℕ) → StillReports s k b → StillReports (formed_at cut s) k b
tells_form s cut k b h =
    let c = control_at s k in
    let is = at_map cut s.controls k h.low in
    record {
      low = omega (arith, h.low, formed_count s cut);
      reporting = ap (λ (c : ControlState). is_reporting c.phase) is ∙ still c.floor c.phase h.reporting;
      up_to = subst (λ (c : ControlState). c.floor.0 ≤ b) (sym is) h.up_to;
    }
  where
    still : (floor : Stamp) (p : Phase) → is_reporting p ≡ true → is_reporting (phase_after cut floor p) ≡ true
    still floor Unbroken e = refl
    still floor (Broken cause) e = absurd cc
    still floor Reported e = absurd cc

-- ---- a log

module _ (traces : List Trace) (k b limit : ℕ) (t : Trace) (at : slice_get traces k ≡ Some t) (breaks : break_time t ≡ Some b) (late : limit ≤ b) where
  abbrev Stays : List Answer → Group → Type 0
  Stays run end = (s : Group) → IsFedLog traces s end run → list_all (is_break_below limit) run ≡ true → StillReports s k b → StillReports end k b

  read : (call : Call) (reply : Reply) (run : List Answer) (end : Group) → is_call_of_reader call ≡ true → Stays run end → Stays (answer_of call reply ∷ run) end
  read call reply run end reads rest s log below h =
      let on = read_on traces s end call reply run reads log in
      let parts = and_parts (is_break_below limit (answer_of call reply)) (list_all (is_break_below limit) run) below in
      rest on.next on.log parts.1
      (tells_read s on.next call reply k b limit t breaks late parts.0 on.may on.went (λ own did. fed_own t k (floor_of s k) (answer_of call reply) run own did (log.fed k t at)) h)

  one : (call : Call) (reply : Reply) (run : List Answer) (end : Group) → Stays run end → Stays (answer_of call reply ∷ run) end
  one (Join batch) reply run end rest = read (Join batch) reply run end refl rest
  one (NextWanted j) reply run end rest = read (NextWanted j) reply run end refl rest
  one (Copied j v x time slot) reply run end rest = read (Copied j v x time slot) reply run end refl rest
  one (Raise j upto) reply run end rest = read (Raise j upto) reply run end refl rest
  one (Break j upto cause) reply run end rest = read (Break j upto cause) reply run end refl rest
  one (Form given) reply run end rest = λ s log below h. rest (formed_at (cut_of s given) s) (form_log traces s end given reply run log) below (tells_form s (cut_of s given) k b h)
  one (Drop j v all) reply run end rest = λ s log below h.
      rest (with_control j (dropped v all) s) (drop_log traces s end j v all reply run log) below (tells_with s j k b (dropped v all) (λ same was. record { reporting = was.reporting; up_to = was.up_to }) h)
  one (Carry j v plan) reply run end rest = λ s log below h. absurd (true≢false (sym (and_parts (is_call_of_seat (answer_of (Carry j v plan) reply)) (list_all is_call_of_seat run) log.seats).0))
  one (Resume j v) reply run end rest = λ s log below h. absurd (true≢false (sym (and_parts (is_call_of_seat (answer_of (Resume j v) reply)) (list_all is_call_of_seat run) log.seats).0))
  one (Forget j v) reply run end rest = λ s log below h. absurd (true≢false (sym (and_parts (is_call_of_seat (answer_of (Forget j v) reply)) (list_all is_call_of_seat run) log.seats).0))

  stays : (run : List Answer) (end : Group) → Stays run end
  stays [] end = λ s log below h. subst (λ (g : Group). StillReports g k b) (sym log.runs) h
  stays (a ∷ run) end = one a.call a.reply run end (stays run end)

pub later_breaks_are_to_come : LaterBreaksAreToCome
later_breaks_are_to_come traces s end run time limit log below up h k b t at breaks late = stays traces k b limit t at breaks late run end s log below (h k b t at breaks (omega (arith, up, late)))

-- ---- from state to state

pub all_breaks_are_to_come : AllBreaksAreToCome
all_breaks_are_to_come traces n records blocks count k b t at breaks late =
    let low : k < n = omega (arith, slice_get_within traces k t at, count) in
    let is = new_at n 0 records blocks k (new_control 0 0 0) low in
    record {
      low = subst (λ m. k < m) (sym (many n 0)) low;
      reporting = ap (λ (c : ControlState). is_reporting c.phase) is;
      up_to = subst (λ (c : ControlState). c.floor.0 ≤ b) (sym is) (omega arith);
    }
  where
    many : (n first : ℕ) → length (new_controls n first records blocks) ≡ n
    many zero first = refl
    many (suc n) first = ap suc (many n (first + 1))

pub other_calls_await_breaks : OtherCallsAwaitBreaks
other_calls_await_breaks traces time s next (Join batch) reply other is h = absurd cc
other_calls_await_breaks traces time s next (NextWanted j) reply other is h = absurd cc
other_calls_await_breaks traces time s next (Copied j v x at slot) reply other is h = absurd cc
other_calls_await_breaks traces time s next (Raise j upto) reply other is h = absurd cc
other_calls_await_breaks traces time s next (Break j upto cause) reply other is h = absurd cc
other_calls_await_breaks traces time s next (Form limit) reply other is h = absurd cc
other_calls_await_breaks traces time s next (Drop j v all) reply other is h = absurd cc
other_calls_await_breaks traces time s next (Carry j v plan) reply other is h = λ k b t at breaks late.
    subst (λ (g : Group). StillReports g k b) (sym is.1) (tells_with s j k b (begun_volume v plan) (λ same was. record { reporting = was.reporting; up_to = was.up_to }) (h k b t at breaks late))
other_calls_await_breaks traces time s next (Resume j v) reply other is h = λ k b t at breaks late.
    subst (λ (g : Group). StillReports g k b) (sym is.1) (tells_with s j k b (resumed v) (λ same was. record { reporting = was.reporting; up_to = was.up_to }) (h k b t at breaks late))
other_calls_await_breaks traces time s next (Forget j v) reply other is h = λ k b t at breaks late.
    subst (λ (g : Group). StillReports g k b) (sym is.1) (tells_with s j k b (forgotten v) (λ same was. record { reporting = was.reporting; up_to = was.up_to }) (h k b t at breaks late))
