-- A log after one of its calls is a log, from what a log begins with to the same.
use Rattle.std.proofs.Common.{◌≡◌, ℕ, ◌<◌, ◌≤◌, Bool, true, false, not, cond, nat_eq, nat_lt, nat_le, ◌&&◌, ◌||◌, List, [], ◌∷◌, length, get_or, Option, Some, None, inl, refl, sym, ap, subst, ◌∙◌, arith, true≢false}
use Rattle.std.specs.Prelude.{MatchBool, slice_get}
use Rattle.std.specs.List.{list_all}
use Rattle.std.proofs.lemmas.Bool.{and_parts, and_from, eqb-true, eq-eqb, lt-ltb}
use Rattle.std.proofs.lemmas.Option.{slice_get_within, slice_get-get_or}
use Rattle.tod_stamp.specs.declared.stamp.Stamp.{Stamp}
use Rattle.change_map.specs.Sets.{has_track}
use Rattle.pair_table.specs.declared.row.PairRow.{PairRow}
use Rattle.write_trace.specs.declared.trace.Trace.{Trace}
use Rattle.pending_queue.specs.Entries.{WaitingEntry, entry_stamp, is_copy_of}
use Rattle.group_state.specs.declared.volume.Volume.{Volume}
use Rattle.group_state.specs.Volumes.{volume_of, passes, wants}
use Rattle.group_state.specs.Controls.{ControlState, joined, copied, raised, broke, dropped}
use Rattle.group_state.specs.Groups.{Group, control_at, with_control, cut_of, formed_at, shown_at}
use Rattle.group_state.specs.SoundStates.{passes_or_none}
use Rattle.group_state.specs.Machine.{Call, Reply, steps}
use Rattle.group_state.specs.Machine.Call.{Join, NextWanted, Copied, Raise, Break, Form, Carry, Drop, Resume, Forget}
use Rattle.group_state.specs.Machine.Reply.{Made, Joined, Held, Stale, Wanted, Formed, Nothing, Owed}
use Rattle.group_state.specs.Runs.{Answer, Runs, May}
use Rattle.group_state.proofs.Kept.{kept_form}
use Rattle.fed_logs.specs.ToldTracks.{HeldTracks, AllHold, ReportsTruth, floor_of, has_changed, is_no_later_copy, has_no_later_copy, is_track_settled, held_after_group, held_after}
use Rattle.fed_logs.proofs.Keeping.{at_map, form_keeps, steps_keep, done_is_told}
use Rattle.record_rows.specs.Deeds.{Deed}
use Rattle.record_rows.specs.Deeds.Deed.{Logged, Changed, Marked}
use Rattle.fed_logs.specs.Feeds.{truth_of, floor_after_call, IsFedBy, AreFedBy, is_answer_of, is_call_of_reader, part_of_reader}
use Rattle.group_state.specs.Calls.{is_by_reader}
use Rattle.fed_logs.specs.Moves.{HasRowIn, IsDuplex, AreFewer, AreQuiet, MayFollow, ShowsNothing, Plans, plans_with_shown, plans_without}
use Rattle.fed_logs.specs.Logs.{Sizes, is_of_size, IsFedLog, BeginsLog, is_call_of_seat}
use Rattle.fed_logs.proofs.Writes.{fed_report_truth}
use Rattle.fed_logs.proofs.Went.{WentRead, went_read}
use Rattle.fed_logs.proofs.Went.WentRead.{Same, Joins, Copies, Raises, Breaks}
use Rattle.fed_logs.proofs.Standing.{at_with, same_count, formed_count, sized_read, sized_drop, sized_form, kept_read, kept_drop, stands_read, stands_drop, stands_form, stands_fewer, duplex_lives}

abbrev pub answer_of : Call → Reply → Answer
answer_of call reply = record { call = call; reply = reply }

-- ---- floors

floor_with : (s : Group) (j k : ℕ) (change : ControlState → ControlState) (floor : ℕ) → k < length s.controls → (j ≡ k → (change (control_at s k)).floor.0 ≡ floor) → (nat_eq j k ≡ false → floor_of s k ≡ floor) → floor_of (with_control j change s) k ≡ floor
floor_with s j k change floor low here there = at_with s j k change (λ c. c.floor.0 ≡ floor) low here there

-- the floor of a controller after a call that is its own and changed the state, and after one of another controller
pub floor_next : (s next : Group) (call : Call) (reply : Reply) (k : ℕ) → WentRead s call reply next → k < length s.controls
    → (is_by_reader k call ≡ true → has_changed reply ≡ true → floor_of next k ≡ floor_after_call (floor_of s k) call) × (is_by_reader k call ≡ false → floor_of next k ≡ floor_of s k) × (has_changed reply ≡ false → floor_of next k ≡ floor_of s k)
floor_next s _ _ _ k (Same call reply none) low = (λ own done. absurd (true≢false (sym done ∙ none)), λ other. refl, λ none. refl)
floor_next s _ _ _ k (Joins b) low = (
  λ own done. floor_with s b.control k (joined b) b.upto.0 low (λ e. refl) (λ apart. absurd (true≢false (sym own ∙ apart))),
  λ other. floor_with s b.control k (joined b) (floor_of s k) low (λ e. absurd (true≢false (sym (eq-eqb b.control k e) ∙ other))) (λ apart. refl),
  λ none. absurd (true≢false none),
)
floor_next s _ _ _ k (Copies j v x at slot wanted) low = (
  λ own done. floor_with s j k (copied v x at slot) (floor_of s k) low (λ e. refl) (λ apart. refl),
  λ other. floor_with s j k (copied v x at slot) (floor_of s k) low (λ e. refl) (λ apart. refl),
  λ none. absurd (true≢false none),
)
floor_next s _ _ _ k (Raises j upto) low = (
  λ own done. floor_with s j k (raised upto) upto.0 low (λ e. refl) (λ apart. absurd (true≢false (sym own ∙ apart))),
  λ other. floor_with s j k (raised upto) (floor_of s k) low (λ e. absurd (true≢false (sym (eq-eqb j k e) ∙ other))) (λ apart. refl),
  λ none. absurd (true≢false none),
)
floor_next s _ _ _ k (Breaks j upto cause) low = (
  λ own done. floor_with s j k (broke upto cause) upto.0 low (λ e. refl) (λ apart. absurd (true≢false (sym own ∙ apart))),
  λ other. floor_with s j k (broke upto cause) (floor_of s k) low (λ e. absurd (true≢false (sym (eq-eqb j k e) ∙ other))) (λ apart. refl),
  λ none. absurd (true≢false none),
)

read_count : (s next : Group) (call : Call) (reply : Reply) → WentRead s call reply next → length next.controls ≡ length s.controls
read_count s _ _ _ (Same call reply none) = refl
read_count s _ _ _ (Joins b) = same_count s b.control (joined b)
read_count s _ _ _ (Copies j v x at slot wanted) = same_count s j (copied v x at slot)
read_count s _ _ _ (Raises j upto) = same_count s j (raised upto)
read_count s _ _ _ (Breaks j upto cause) = same_count s j (broke upto cause)

read_last : (s next : Group) (call : Call) (reply : Reply) → WentRead s call reply next → next.last ≡ s.last
read_last s _ _ _ (Same call reply none) = refl
read_last s _ _ _ (Joins b) = refl
read_last s _ _ _ (Copies j v x at slot wanted) = refl
read_last s _ _ _ (Raises j upto) = refl
read_last s _ _ _ (Breaks j upto cause) = refl

-- no reader's reply shows a group
unshown : (held : HeldTracks) (reply : Reply) → has_changed reply ≡ false → held_after reply held ≡ held
unshown held Made e = absurd cc
unshown held Joined e = absurd cc
unshown held (Held room) e = refl
unshown held Stale e = refl
unshown held (Wanted found) e = refl
unshown held (Formed shown) e = absurd cc
unshown held (Nothing shown) e = absurd cc
unshown held (Owed tracks) e = absurd cc

read_held : (held : HeldTracks) (s next : Group) (call : Call) (reply : Reply) → WentRead s call reply next → held_after reply held ≡ held
read_held held s _ _ _ (Same call reply none) = unshown held reply none
read_held held s _ _ _ (Joins b) = refl
read_held held s _ _ _ (Copies j v x at slot wanted) = refl
read_held held s _ _ _ (Raises j upto) = refl
read_held held s _ _ _ (Breaks j upto cause) = refl

-- ---- what is fed after a call

fed_after : (t : Trace) (k floor next : ℕ) (a : Answer) (run : List Answer) → (is_answer_of k a ≡ true → has_changed a.reply ≡ true → next ≡ floor_after_call floor a.call) → (is_answer_of k a ≡ false → next ≡ floor) → (has_changed a.reply ≡ false → next ≡ floor)
    → AreFedBy t floor (part_of_reader k (a ∷ run)) → AreFedBy t next (part_of_reader k run)
fed_after t k floor next a run own other none h = choose (is_answer_of k a) refl h
  where
    by : (d : Bool) → has_changed a.reply ≡ d → is_answer_of k a ≡ true → MatchBool d (IsFedBy t floor a.call × AreFedBy t (floor_after_call floor a.call) (part_of_reader k run)) (AreFedBy t floor (part_of_reader k run)) → AreFedBy t next (part_of_reader k run)
    by true is mine h = subst (λ n. AreFedBy t n (part_of_reader k run)) (sym (own mine is)) h.1
    by false is mine h = subst (λ n. AreFedBy t n (part_of_reader k run)) (sym (none is)) h

    choose : (c : Bool) → is_answer_of k a ≡ c → AreFedBy t floor (cond c (a ∷ part_of_reader k run) (part_of_reader k run)) → AreFedBy t next (part_of_reader k run)
    choose true is h = by (has_changed a.reply) refl is h
    choose false is h = subst (λ n. AreFedBy t n (part_of_reader k run)) (sym (other is)) h

-- a controller's own call that changed the state is fed
pub fed_own : (t : Trace) (k floor : ℕ) (a : Answer) (run : List Answer) → is_answer_of k a ≡ true → has_changed a.reply ≡ true → AreFedBy t floor (part_of_reader k (a ∷ run)) → IsFedBy t floor a.call
fed_own t k floor a run own done h = choose (is_answer_of k a) own (has_changed a.reply) done h
  where
    by : (d : Bool) → d ≡ true → MatchBool d (IsFedBy t floor a.call × AreFedBy t (floor_after_call floor a.call) (part_of_reader k run)) (AreFedBy t floor (part_of_reader k run)) → IsFedBy t floor a.call
    by true e h = h.0
    by false e h = absurd (true≢false (sym e))

    choose : (c : Bool) → c ≡ true → (d : Bool) → has_changed a.reply ≡ true → AreFedBy t floor (cond c (a ∷ part_of_reader k run) (part_of_reader k run)) → IsFedBy t floor a.call
    choose true e d done h = by (has_changed a.reply) done h
    choose false e d done h = absurd (true≢false (sym e))

-- whose a reader's call is
record IsOwnOf (s : Group) (call : Call) : Type 0 where
  control : ℕ
  own : is_by_reader control call ≡ true
  low : control < length s.controls

own_of : (s : Group) (call : Call) → is_call_of_reader call ≡ true → May s call → IsOwnOf s call
own_of s (Join b) reads may = record { control = b.control; own = eq-eqb b.control b.control refl; low = may.control }
own_of s (NextWanted k) reads may = record { control = k; own = eq-eqb k k refl; low = may }
own_of s (Copied k v x at slot) reads may = record { control = k; own = eq-eqb k k refl; low = may.0 }
own_of s (Raise k upto) reads may = record { control = k; own = eq-eqb k k refl; low = may.0 }
own_of s (Break k upto cause) reads may = record { control = k; own = eq-eqb k k refl; low = may.0 }
own_of s (Form limit) reads may = absurd cc
own_of s (Carry k v plan) reads may = absurd cc
own_of s (Drop k v all) reads may = absurd cc
own_of s (Resume k v) reads may = absurd cc
own_of s (Forget k v) reads may = absurd cc

-- a trace that some controller has, at its place
pub some_trace : (traces : List Trace) (k : ℕ) → k < length traces → (t : Trace) × (slice_get traces k ≡ Some t)
some_trace (t ∷ traces) k low = (get_or (t ∷ traces) k t, slice_get-get_or (t ∷ traces) k t low)
some_trace [] k low = absurd (omega (arith, low))

-- ---- a reader's call

-- What comes of one call: the state after it, how it came to be, and the log from there.
pub record ReadOn (traces : List Trace) (s end : Group) (call : Call) (reply : Reply) (run : List Answer) : Type 0 where
  pub next : Group
  pub may : May s call
  pub stepped : steps s call reply next
  pub went : WentRead s call reply next
  pub log : IsFedLog traces next end run

pub read_on : (traces : List Trace) (s end : Group) (call : Call) (reply : Reply) (run : List Answer) → is_call_of_reader call ≡ true → IsFedLog traces s end (answer_of call reply ∷ run) → ReadOn traces s end call reply run
read_on traces s end call reply run reads h =
    let next = h.runs.0 in
    let may = h.runs.1 in
    let went = went_read s next call reply reads h.runs.2 in
    record {
      next = next;
      may = may;
      stepped = h.runs.2;
      went = went;
      log = record {
        falls = h.falls;
        each = h.each ∙ sym (read_count s next call reply went);
        kept = kept_read s next call reply may went h.kept;
        runs = h.runs.3;
        seats = (and_parts (is_call_of_seat (answer_of call reply)) (list_all is_call_of_seat run) h.seats).1;
        fed = λ k t at.
            let low : k < length s.controls = omega (arith, slice_get_within traces k t at, h.each) in
            let f = floor_next s next call reply k went low in
            fed_after t k (floor_of s k) (floor_of next k) (answer_of call reply) run f.0 f.1 f.2 (h.fed k t at);
      };
    }

read_tells : (traces : List Trace) (s end : Group) (call : Call) (reply : Reply) (run : List Answer) → is_call_of_reader call ≡ true → May s call → IsFedLog traces s end (answer_of call reply ∷ run) → has_changed reply ≡ true → ReportsTruth (truth_of traces) s call
read_tells traces s end call reply run reads may h done =
    let own = own_of s call reads may in
    let t = some_trace traces own.control (omega (arith, own.low, h.each)) in
    fed_report_truth traces s call own.control t.0 h.falls t.1 own.own may (fed_own t.0 own.control (floor_of s own.control) (answer_of call reply) run own.own done (h.fed own.control t.0 t.1))

pub read_begins : (size : Sizes) (traces : List Trace) (held : HeldTracks) (s end : Group) (call : Call) (reply : Reply) (run : List Answer) (time : ℕ) (rows : List PairRow) (done : Plans) → is_call_of_reader call ≡ true → IsFedLog traces s end (answer_of call reply ∷ run)
    → (on : ReadOn traces s end call reply run) → BeginsLog size traces held s time rows done → BeginsLog size traces held on.next time rows done
read_begins size traces held s end call reply run time rows done reads h on b = record {
  sized = sized_read size s on.next call reply on.went b.sized;
  holds = subst (λ (m : HeldTracks). AllHold (truth_of traces) m on.next) (read_held held s on.next call reply on.went)
      (steps_keep (truth_of traces) held s on.next call reply h.kept on.may on.stepped (read_tells traces s end call reply run reads on.may h) b.holds);
  last = subst (λ (l : Stamp). l.0 ≤ time) (sym (read_last s on.next call reply on.went)) b.last;
  stand = stands_read s on.next call reply rows done on.went b.stand;
  truth = b.truth;
}

-- ---- the mover's calls

pub form_log : (traces : List Trace) (s end : Group) (limit : Stamp) (reply : Reply) (run : List Answer) → IsFedLog traces s end (answer_of (Form limit) reply ∷ run) → IsFedLog traces (formed_at (cut_of s limit) s) end run
form_log traces s end limit reply run h =
    let cut = cut_of s limit in
    record {
      falls = h.falls;
      each = h.each ∙ sym (formed_count s cut);
      kept = kept_form s limit.0 cut refl h.kept;
      runs = subst (λ (g : Group). Runs g run end) h.runs.2.1 h.runs.3;
      seats = (and_parts (is_call_of_seat (answer_of (Form limit) reply)) (list_all is_call_of_seat run) h.seats).1;
      fed = λ k t at.
          let low : k < length s.controls = omega (arith, slice_get_within traces k t at, h.each) in
          subst (λ n. AreFedBy t n (part_of_reader k run)) (sym (ap (λ (c : ControlState). c.floor.0) (at_map cut s.controls k low))) (h.fed k t at);
    }

pub drop_log : (traces : List Trace) (s end : Group) (k v : ℕ) (all : Bool) (reply : Reply) (run : List Answer) → IsFedLog traces s end (answer_of (Drop k v all) reply ∷ run) → IsFedLog traces (with_control k (dropped v all) s) end run
drop_log traces s end k v all reply run h = record {
  falls = h.falls;
  each = h.each ∙ sym (same_count s k (dropped v all));
  kept = kept_drop s k v all h.runs.1 h.kept;
  runs = subst (λ (g : Group). Runs g run end) h.runs.2.1 h.runs.3;
  seats = (and_parts (is_call_of_seat (answer_of (Drop k v all) reply)) (list_all is_call_of_seat run) h.seats).1;
  fed = λ j t at.
      let low : j < length s.controls = omega (arith, slice_get_within traces j t at, h.each) in
      subst (λ n. AreFedBy t n (part_of_reader j run)) (sym (floor_with s k j (dropped v all) (floor_of s j) low (λ e. refl) (λ apart. refl))) (h.fed j t at);
}

pub drop_begins : (size : Sizes) (traces : List Trace) (held : HeldTracks) (s end : Group) (k v : ℕ) (all : Bool) (reply : Reply) (run : List Answer) (time : ℕ) (rows : List PairRow) (done : Plans) → IsFedLog traces s end (answer_of (Drop k v all) reply ∷ run)
    → (HasRowIn IsDuplex k v rows → ⊥) → (all ≡ false → done k v ≡ true) → BeginsLog size traces held s time rows done → BeginsLog size traces held (with_control k (dropped v all) s) time rows (plans_without k v done)
drop_begins size traces held s end k v all reply run time rows done h gone known b = record {
  sized = sized_drop size s k v all b.sized;
  holds = steps_keep (truth_of traces) held s (with_control k (dropped v all) s) (Drop k v all) Made h.kept h.runs.1 (refl, refl) (λ e some. (b.stand.plans k v (known some)).1.unwanted) b.holds;
  last = b.last;
  stand = stands_drop s k v all rows done gone b.stand;
  truth = b.truth;
}

-- a track of a volume whose plan is done is settled
settled_from : (x n : ℕ) (o : Option Volume) → passes (λ u. u.carried) o ≡ true → passes (wants x) o ≡ false → passes_or_none (is_of_size n) o ≡ true → x < n → passes (is_track_settled x) o ≡ true
settled_from x n None carried free sized low = absurd cc
settled_from x n (Some u) carried free sized low =
    let within : x < length u.map = omega (arith, low, eqb-true (length u.map) n sized) in
    and_from (nat_lt x (length u.map)) (cond u.carried (not (has_track u.plan.wanted x)) (not (has_track u.map x))) (lt-ltb x (length u.map) within) (choose u.carried carried free)
  where
    choose : (c : Bool) → c ≡ true → (c && has_track u.plan.wanted x) ≡ false → cond c (not (has_track u.plan.wanted x)) (not (has_track u.map x)) ≡ true
    choose true is none = ap not none
    choose false is none = absurd (true≢false (sym is))

none_later : (v x cut : ℕ) (entries : List WaitingEntry) → list_all (λ e. not (is_copy_of v e)) entries ≡ true → has_no_later_copy v x cut entries ≡ true
none_later v x cut [] none = refl
none_later v x cut (e ∷ entries) none =
    let parts = and_parts (not (is_copy_of v e)) (list_all (λ e. not (is_copy_of v e)) entries) none in
    and_from (is_no_later_copy v x cut e) (has_no_later_copy v x cut entries) (free e.is_copy (nat_eq e.head.volume v) (nat_eq e.head.track x) (nat_le (entry_stamp e) cut) parts.0) (none_later v x cut entries parts.1)
  where
    free : (a b c d : Bool) → not (b && a) ≡ true → (not (a && (b && c)) || d) ≡ true
    free true true c d e = absurd (true≢false (sym e))
    free true false c d e = refl
    free false b c d e = refl

-- after a group that is logged
pub form_begins : (size : Sizes) (traces : List Trace) (held : HeldTracks) (s end : Group) (limit : Stamp) (reply : Reply) (run : List Answer) (time : ℕ) (rows next : List PairRow) (done : Plans) → IsFedLog traces s end (answer_of (Form limit) reply ∷ run)
    → MayFollow (shown_at (cut_of s limit) s) rows next → BeginsLog size traces held s time rows done
    → BeginsLog size traces (held_after_group (shown_at (cut_of s limit) s).entries held) (formed_at (cut_of s limit) s) (cut_of s limit).0 next (plans_with_shown (shown_at (cut_of s limit) s) done)
form_begins size traces held s end limit reply run time rows next done h follow b =
    let cut = cut_of s limit in
    let truth = truth_of traces in
    let stand = stands_form s limit rows next done h.kept follow b.stand in
    let sized = sized_form size s cut b.sized in
    record {
      sized = sized;
      holds = form_keeps truth held s limit h.kept h.runs.1 b.holds;
      last = omega arith;
      stand = stand;
      truth = λ k v has x low.
          let d = stand.plans k v (stand.duplex k v has) in
          let l = stand.live k v (duplex_lives k v next has) in
          let c = control_at (formed_at cut s) k in
          done_is_told truth held s limit k v x h.kept h.runs.1 b.holds (omega (arith, d.0, formed_count s cut)) l.1
          (settled_from x (size k v) (volume_of v c.volumes) d.1.carried (d.1.unwanted x) (sized k v d.0) low) (none_later v x cut.0 c.queue.waiting d.1.copies);
    }

-- after a form that shows nothing
pub nothing_begins : (size : Sizes) (traces : List Trace) (held : HeldTracks) (s end : Group) (limit : Stamp) (reply : Reply) (run : List Answer) (time : ℕ) (rows : List PairRow) (done : Plans) → IsFedLog traces s end (answer_of (Form limit) reply ∷ run)
    → ShowsNothing time rows (shown_at (cut_of s limit) s) → BeginsLog size traces held s time rows done → BeginsLog size traces held (formed_at (cut_of s limit) s) time rows (plans_with_shown (shown_at (cut_of s limit) s) done)
nothing_begins size traces held s end limit reply run time rows done h none b =
    let cut = cut_of s limit in
    record {
      sized = sized_form size s cut b.sized;
      holds = subst (λ (es : List WaitingEntry). AllHold (truth_of traces) (held_after_group es held) (formed_at cut s)) none.entries (form_keeps (truth_of traces) held s limit h.kept h.runs.1 b.holds);
      last = none.at;
      stand = stands_form s limit rows rows done h.kept (record { live = λ k v has. (none.breaks k v has, has); duplex = λ k v has. inl has }) b.stand;
      truth = b.truth;
    }

-- ---- quiet deeds

pub fewer_begins : (size : Sizes) (traces : List Trace) (held : HeldTracks) (s : Group) (time : ℕ) (rows next : List PairRow) (done : Plans) → AreFewer rows next → BeginsLog size traces held s time rows done → BeginsLog size traces held s time next done
fewer_begins size traces held s time rows next done fewer b = record { sized = b.sized; holds = b.holds; last = b.last; stand = stands_fewer s rows next done fewer b.stand; truth = λ k v has. b.truth k v (fewer.duplex k v has) }

pub quiet_begins : (size : Sizes) (traces : List Trace) (held : HeldTracks) (s : Group) (time : ℕ) (done : Plans) (quiet : List Deed) (rows next : List PairRow) → AreQuiet time rows quiet next → BeginsLog size traces held s time rows done → BeginsLog size traces held s time next done
quiet_begins size traces held s time done [] rows next is b = subst (λ (r : List PairRow). BeginsLog size traces held s time r done) (sym is) b
quiet_begins size traces held s time done (Logged cut entries fewer ∷ quiet) rows next is b = absurd is
quiet_begins size traces held s time done (Changed at fewer ∷ quiet) rows next is b = quiet_begins size traces held s time done quiet fewer next is.2 (fewer_begins size traces held s time rows fewer done is.1 b)
quiet_begins size traces held s time done (Marked spot ended fewer ∷ quiet) rows next is b = quiet_begins size traces held s time done quiet fewer next is.1 (fewer_begins size traces held s time rows fewer done is.0 b)
