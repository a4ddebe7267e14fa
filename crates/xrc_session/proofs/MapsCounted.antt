-- What a log leaves of a controller that counts: it counted before, and what readers call leaves the last cut, and no floor falls.
use Rattle.std.proofs.Common.{◌≡◌, ℕ, ◌<◌, ◌≤◌, true, List, [], ◌∷◌, length, refl, sym, ap, subst, arith, true≢false}
use Rattle.std.specs.List.{list_all}
use Rattle.std.proofs.lemmas.Bool.{and_parts}
use Rattle.tod_stamp.specs.declared.stamp.Stamp.{Stamp}
use Rattle.write_trace.specs.declared.trace.Trace.{Trace}
use Rattle.group_state.specs.declared.phase.Phase.{Phase}
use Rattle.group_state.specs.declared.phase.Phase.TheVariants.{Unbroken, Broken, Reported}
use Rattle.group_state.specs.Controls.{ControlState, broke, copied, counts, dropped, is_reporting, joined, phase_after, raised}
use Rattle.group_state.specs.Groups.{Group, control_at, cut_of, formed_at, with_control}
use Rattle.group_state.specs.Machine.{Call, Reply}
use Rattle.group_state.specs.Machine.Call.{Join, NextWanted, Copied, Raise, Break, Form, Carry, Drop, Resume, Forget}
use Rattle.group_state.specs.Runs.{Answer, May}
use Rattle.fed_logs.specs.Feeds.{is_call_of_reader}
use Rattle.fed_logs.specs.Logs.{IsFedLog, is_call_of_seat}
use Rattle.fed_logs.specs.ToldTracks.{floor_of}
use Rattle.fed_logs.proofs.Keeping.{at_map}
use Rattle.fed_logs.proofs.Standing.{at_with}
use Rattle.fed_logs.proofs.ReadCalls.{answer_of, drop_log, form_log, read_on}
use Rattle.fed_logs.proofs.Went.{WentRead}
use Rattle.fed_logs.proofs.Went.WentRead.{Same, Joins, Copies, Raises, Breaks}
use Rattle.xrc_session.proofs.MapsKeeps.{reporting_counts}

counted_phase : (cut floor : Stamp) (phase : Phase) → counts (phase_after cut floor phase) ≡ true → counts phase ≡ true
counted_phase cut floor Unbroken is = refl
counted_phase cut floor (Broken why) is = refl
counted_phase cut floor Reported is = is

read_counted : (s : Group) (call : Call) (reply : Reply) (next : Group) (k : ℕ) → WentRead s call reply next → May s call → k < length s.controls → counts (control_at next k).phase ≡ true → counts (control_at s k).phase ≡ true
read_counted s _ _ _ k (Same call reply none) may low is = is
read_counted s _ _ _ k (Joins b) may low is = subst (λ p. counts p ≡ true) (at_with s b.control k (joined b) (λ (c : ControlState). c.phase ≡ (control_at s k).phase) low (λ same. refl) (λ apart. refl)) is
read_counted s _ _ _ k (Copies j w y at slot wanted) may low is = subst (λ p. counts p ≡ true) (at_with s j k (copied w y at slot) (λ (c : ControlState). c.phase ≡ (control_at s k).phase) low (λ same. refl) (λ apart. refl)) is
read_counted s _ _ _ k (Raises j upto) may low is = subst (λ p. counts p ≡ true) (at_with s j k (raised upto) (λ (c : ControlState). c.phase ≡ (control_at s k).phase) low (λ same. refl) (λ apart. refl)) is
read_counted s _ _ _ k (Breaks j upto why) may low is = at_with s j k (broke upto why) (λ (c : ControlState). counts c.phase ≡ true → counts (control_at s k).phase ≡ true) low
    (λ same now. reporting_counts (control_at s k).phase (subst (λ (i : ℕ). is_reporting (control_at s i).phase ≡ true) same may.1.reporting)) (λ apart now. now) is

pub counted_before : (traces : List Trace) (k : ℕ) (run : List Answer) (s end : Group) → IsFedLog traces s end run → k < length s.controls → counts (control_at end k).phase ≡ true → counts (control_at s k).phase ≡ true
counted_before traces k [] s end log low is = subst (λ (g : Group). counts (control_at g k).phase ≡ true) log.runs is
counted_before traces k (a ∷ run) s end log low is = one a.call refl (λ next then within. counted_before traces k run next end then within is)
  where
    reads : is_call_of_reader a.call ≡ true → ((next : Group) → IsFedLog traces next end run → k < length next.controls → counts (control_at next k).phase ≡ true) → counts (control_at s k).phase ≡ true
    reads is rest =
        let on = read_on traces s end a.call a.reply run is log in
        read_counted s a.call a.reply on.next k on.went on.may low (rest on.next on.log (let was = log.each in let then = on.log.each in omega (arith, low, was, then)))

    one : (call : Call) → a.call ≡ call → ((next : Group) → IsFedLog traces next end run → k < length next.controls → counts (control_at next k).phase ≡ true) → counts (control_at s k).phase ≡ true
    one (Join b) is rest = reads (ap is_call_of_reader is) rest
    one (NextWanted j) is rest = reads (ap is_call_of_reader is) rest
    one (Copied j w y at slot) is rest = reads (ap is_call_of_reader is) rest
    one (Raise j upto) is rest = reads (ap is_call_of_reader is) rest
    one (Break j upto why) is rest = reads (ap is_call_of_reader is) rest
    one (Form limit) is rest =
        let then = form_log traces s end limit a.reply run (subst (λ (c : Call). IsFedLog traces s end (answer_of c a.reply ∷ run)) is log) in
        counted_phase (cut_of s limit) (control_at s k).floor (control_at s k).phase
        (subst (λ (c : ControlState). counts c.phase ≡ true) (at_map (cut_of s limit) s.controls k low) (rest (formed_at (cut_of s limit) s) then (let was = log.each in let now = then.each in omega (arith, low, was, now))))
    one (Drop j w all) is rest =
        let then = drop_log traces s end j w all a.reply run (subst (λ (c : Call). IsFedLog traces s end (answer_of c a.reply ∷ run)) is log) in
        subst (λ p. counts p ≡ true) (at_with s j k (dropped w all) (λ (c : ControlState). c.phase ≡ (control_at s k).phase) low (λ same. refl) (λ apart. refl))
        (rest (with_control j (dropped w all) s) then (let was = log.each in let now = then.each in omega (arith, low, was, now)))
    one (Carry j w plan) is rest = absurd (true≢false (sym (subst (λ (c : Call). is_call_of_seat (answer_of c a.reply) ≡ true) is (and_parts (is_call_of_seat a) (list_all is_call_of_seat run) log.seats).0)))
    one (Resume j w) is rest = absurd (true≢false (sym (subst (λ (c : Call). is_call_of_seat (answer_of c a.reply) ≡ true) is (and_parts (is_call_of_seat a) (list_all is_call_of_seat run) log.seats).0)))
    one (Forget j w) is rest = absurd (true≢false (sym (subst (λ (c : Call). is_call_of_seat (answer_of c a.reply) ≡ true) is (and_parts (is_call_of_seat a) (list_all is_call_of_seat run) log.seats).0)))

pub read_cut : (s : Group) (call : Call) (reply : Reply) (next : Group) → WentRead s call reply next → next.last ≡ s.last
read_cut s _ _ _ (Same call reply none) = refl
read_cut s _ _ _ (Joins b) = refl
read_cut s _ _ _ (Copies j w y at slot wanted) = refl
read_cut s _ _ _ (Raises j upto) = refl
read_cut s _ _ _ (Breaks j upto why) = refl

pub read_up : (s : Group) (call : Call) (reply : Reply) (next : Group) (k : ℕ) → WentRead s call reply next → May s call → k < length s.controls → floor_of s k ≤ floor_of next k
read_up s _ _ _ k (Same call reply none) may low = omega arith
read_up s _ _ _ k (Joins b) may low = at_with s b.control k (joined b) (λ (c : ControlState). floor_of s k ≤ c.floor.0) low (λ same. subst (λ (i : ℕ). floor_of s i ≤ b.upto.0) same may.legal.tells.up) (λ apart. omega arith)
read_up s _ _ _ k (Copies j w y at slot wanted) may low = at_with s j k (copied w y at slot) (λ (c : ControlState). floor_of s k ≤ c.floor.0) low (λ same. omega arith) (λ apart. omega arith)
read_up s _ _ _ k (Raises j upto) may low = at_with s j k (raised upto) (λ (c : ControlState). floor_of s k ≤ c.floor.0) low (λ same. subst (λ (i : ℕ). floor_of s i ≤ upto.0) same may.1.up) (λ apart. omega arith)
read_up s _ _ _ k (Breaks j upto why) may low = at_with s j k (broke upto why) (λ (c : ControlState). floor_of s k ≤ c.floor.0) low (λ same. subst (λ (i : ℕ). floor_of s i ≤ upto.0) same may.1.up) (λ apart. omega arith)
