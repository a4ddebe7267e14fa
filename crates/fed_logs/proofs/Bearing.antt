-- A log whose parts are fed and kept bears after each deed, and where all was kept it ends as it began.
use Rattle.std.proofs.Common.{◌≡◌, ℕ, zero, suc, ◌≤◌, true, List, [], ◌∷◌, ◌++◌, length, take, Option, Some, ◌⊎◌, inl, inr, refl, sym, ap, subst, arith, append-nil, true≢false}
use Rattle.std.specs.List.{list_all}
use Rattle.std.proofs.lemmas.Bool.{and_parts}
use Rattle.tod_stamp.specs.declared.stamp.Stamp.{Stamp}
use Rattle.pair_table.specs.declared.row.PairRow.{PairRow}
use Rattle.write_trace.specs.declared.trace.Trace.{Trace}
use Rattle.group_state.specs.Controls.{dropped}
use Rattle.group_state.specs.Groups.{Group, Shown, with_control, cut_of, formed_at, shown_at}
use Rattle.group_state.specs.SoundStates.{IsGroupSound}
use Rattle.group_state.specs.Machine.{Call, Reply}
use Rattle.group_state.specs.Machine.Call.{Join, NextWanted, Copied, Raise, Break, Form, Carry, Drop, Resume, Forget}
use Rattle.group_state.specs.Runs.{Answer, shown_by}
use Rattle.fed_logs.specs.ToldTracks.{HeldTracks, held_after_group}
use Rattle.record_rows.specs.Deeds.{Deed, rows_after_deeds, time_meant_after}
use Rattle.fed_logs.specs.Deeds.{held_after_deeds}
use Rattle.record_rows.specs.Deeds.Deed.{Logged, Changed, Marked}
use Rattle.fed_logs.specs.Feeds.{truth_of, is_call_of_reader, part_of_mover}
use Rattle.fed_logs.specs.Moves.{AreQuiet, ShowsNothing, Plans, plans_with_shown, plans_without, Following, IsLogged, KeepsShown, KeepsCall, IsKeptOn, MakesDeeds, IsKeptWhole, MakesAllDeeds}
use Rattle.fed_logs.specs.Logs.{Sizes, HoldTruth, IsFedLog, BeginsLog, is_call_of_seat}
use Rattle.fed_logs.specs.LogLaws.{LogsBear, ReachedHolds}
use Rattle.fed_logs.proofs.Went.{form_shown}
use Rattle.fed_logs.proofs.ReadCalls.{answer_of, read_on, read_begins, form_log, form_begins, nothing_begins, drop_log, drop_begins, fewer_begins, quiet_begins}

-- what was kept of a form, of what it showed
pub kept_shown : (s next : Group) (limit : Stamp) (reply : Reply) (time : ℕ) (rows : List PairRow) (done : Plans) (deeds : List Deed) (rest : Following) → shown_by reply ≡ Some (shown_at (cut_of s limit) s) → KeepsCall time rows done (Form limit) reply deeds rest
    → KeepsShown time rows done (Some (shown_at (cut_of s limit) s)) deeds rest
kept_shown s next limit reply time rows done deeds rest is keeps = subst (λ (o : Option Shown). KeepsShown time rows done o deeds rest) is keeps

module _ (size : Sizes) (traces : List Trace) where
  abbrev Told : HeldTracks → List PairRow → ℕ → Type 0
  Told held rows time = HoldTruth size (truth_of traces) held rows time

  abbrev Goal : HeldTracks → (time : ℕ) → List PairRow → List Deed → Type 0
  Goal held time rows deeds = (n : ℕ) → n ≤ length deeds → Told (held_after_deeds (take n deeds) held) (rows_after_deeds (take n deeds) rows) (time_meant_after (take n deeds) time)

  abbrev Begins : HeldTracks → Group → (time : ℕ) → List PairRow → Plans → Type 0
  Begins held s time rows done = BeginsLog size traces held s time rows done

  -- ---- deeds

  at_start : (held : HeldTracks) (time : ℕ) (rows : List PairRow) (deeds : List Deed) → deeds ≡ [] → Told held rows time → Goal held time rows deeds
  at_start held time rows deeds none holds zero le = holds
  at_start held time rows deeds none holds (suc n) le = absurd (let few : length deeds ≡ 0 = ap (λ (ds : List Deed). length ds) none in omega (arith, few, le))

  changed : (held : HeldTracks) (time at : ℕ) (rows fewer : List PairRow) (deeds : List Deed) → at ≡ time → Told held rows time → Goal held time fewer deeds → Goal held time rows (Changed at fewer ∷ deeds)
  changed held time at rows fewer deeds is holds goal zero le = holds
  changed held time at rows fewer deeds is holds goal (suc n) le = subst (λ m. Told (held_after_deeds (take n deeds) held) (rows_after_deeds (take n deeds) fewer) (time_meant_after (take n deeds) m)) (sym is) (goal n (omega (arith, le)))

  quiet_goal : (held : HeldTracks) (s : Group) (time : ℕ) (done : Plans) (quiet : List Deed) (rows next : List PairRow) (more : List Deed) → AreQuiet time rows quiet next → Begins held s time rows done → Goal held time next more → Goal held time rows (quiet ++ more)
  quiet_goal held s time done [] rows next more is b goal = subst (λ (r : List PairRow). Goal held time r more) is goal
  quiet_goal held s time done (Logged cut entries fewer ∷ quiet) rows next more is b goal = absurd is
  quiet_goal held s time done (Changed at fewer ∷ quiet) rows next more is b goal =
      changed held time at rows fewer (quiet ++ more) is.0 b.truth (quiet_goal held s time done quiet fewer next more is.2 (fewer_begins size traces held s time rows fewer done is.1 b) goal)
  quiet_goal held s time done (Marked spot ended fewer ∷ quiet) rows next more is b goal = marked (quiet_goal held s time done quiet fewer next more is.1 (fewer_begins size traces held s time rows fewer done is.0 b) goal)
    where
      marked : Goal held time fewer (quiet ++ more) → Goal held time rows (Marked spot ended fewer ∷ (quiet ++ more))
      marked goal zero le = b.truth
      marked goal (suc n) le = goal n (omega (arith, le))

  -- ---- a log

  abbrev Bears : List Answer → Group → Type 0
  Bears run end = (held : HeldTracks) (s : Group) (time : ℕ) (rows : List PairRow) (done : Plans) (deeds : List Deed) → IsFedLog traces s end run → Begins held s time rows done → MakesDeeds time rows done (part_of_mover run) deeds → Goal held time rows deeds

  read : (call : Call) (reply : Reply) (run : List Answer) (end : Group) → is_call_of_reader call ≡ true → Bears run end → (held : HeldTracks) (s : Group) (time : ℕ) (rows : List PairRow) (done : Plans) (deeds : List Deed) → IsFedLog traces s end (answer_of call reply ∷ run)
      → Begins held s time rows done → MakesDeeds time rows done (part_of_mover run) deeds → Goal held time rows deeds
  read call reply run end reads rest held s time rows done deeds log b moves =
      let on = read_on traces s end call reply run reads log in
      rest held on.next time rows done deeds on.log (read_begins size traces held s end call reply run time rows done reads log on b) moves

  form : (limit : Stamp) (reply : Reply) (run : List Answer) (end : Group) → Bears run end → (held : HeldTracks) (s : Group) (time : ℕ) (rows : List PairRow) (done : Plans) (deeds : List Deed) → IsFedLog traces s end (answer_of (Form limit) reply ∷ run)
      → Begins held s time rows done → KeepsShown time rows done (Some (shown_at (cut_of s limit) s)) deeds (λ t r p d. MakesDeeds t r p (part_of_mover run) d) → Goal held time rows deeds
  form limit reply run end rest held s time rows done deeds log b keeps = choose keeps
    where
      logged : (mid next : List PairRow) (later : List Deed) → Begins held s time mid done → Begins (held_after_group (shown_at (cut_of s limit) s).entries held) (formed_at (cut_of s limit) s) (cut_of s limit).0 next (plans_with_shown (shown_at (cut_of s limit) s) done)
          → MakesDeeds (cut_of s limit).0 next (plans_with_shown (shown_at (cut_of s limit) s) done) (part_of_mover run) later → Goal held time mid (Logged (cut_of s limit).0 (shown_at (cut_of s limit) s).entries next ∷ later)
      logged mid next later b then moves zero le = b.truth
      logged mid next later b then moves (suc n) le =
          rest (held_after_group (shown_at (cut_of s limit) s).entries held) (formed_at (cut_of s limit) s) (cut_of s limit).0 next (plans_with_shown (shown_at (cut_of s limit) s) done) later (form_log traces s end limit reply run log) then moves n (omega (arith, le))

      choose : (ShowsNothing time rows (shown_at (cut_of s limit) s) × MakesDeeds time rows (plans_with_shown (shown_at (cut_of s limit) s) done) (part_of_mover run) deeds) ⊎ IsLogged time rows done (shown_at (cut_of s limit) s) deeds (λ t r p d. MakesDeeds t r p (part_of_mover run) d) → Goal held time rows deeds
      choose (inl both) =
          rest held (formed_at (cut_of s limit) s) time rows (plans_with_shown (shown_at (cut_of s limit) s) done) deeds (form_log traces s end limit reply run log) (nothing_begins size traces held s end limit reply run time rows done log both.0 b) both.1
      choose (inr h) =
          let mid = quiet_begins size traces held s time done h.quiet rows h.mid h.suspends b in
          subst (Goal held time rows) (sym h.are)
          (quiet_goal held s time done h.quiet rows h.mid (Logged (cut_of s limit).0 (shown_at (cut_of s limit) s).entries h.next ∷ h.later) h.suspends b
          (logged h.mid h.next h.later mid (form_begins size traces held s end limit reply run time h.mid h.next done log h.follow mid) h.goes_on))

  -- what was kept on between two calls of the mover's
  kept_on : (a : Answer) (run : List Answer) (held : HeldTracks) (s : Group) (time : ℕ) (rows : List PairRow) (done : Plans) (deeds : List Deed) → IsKeptOn time rows done a deeds (λ t r p d. MakesDeeds t r p (part_of_mover run) d) → Begins held s time rows done
      → ((next : List PairRow) (more : List Deed) → KeepsCall time next done a.call a.reply more (λ t r p d. MakesDeeds t r p (part_of_mover run) d) → Begins held s time next done → Goal held time next more) → Goal held time rows deeds
  kept_on a run held s time rows done deeds h b by =
      let then = quiet_begins size traces held s time done h.quiet rows h.next h.suspends b in
      subst (Goal held time rows) (sym h.are) (quiet_goal held s time done h.quiet rows h.next h.more h.suspends b (choose h.goes_on then))
    where
      choose : (h.more ≡ []) ⊎ KeepsCall time h.next done a.call a.reply h.more (λ t r p d. MakesDeeds t r p (part_of_mover run) d) → Begins held s time h.next done → Goal held time h.next h.more
      choose (inl none) then = at_start held time h.next h.more none then.truth
      choose (inr keeps) then = by h.next h.more keeps then

  one : (call : Call) (reply : Reply) (run : List Answer) (end : Group) → Bears run end → Bears (answer_of call reply ∷ run) end
  one (Join batch) reply run end rest held s time rows done deeds log b moves = read (Join batch) reply run end refl rest held s time rows done deeds log b moves
  one (NextWanted k) reply run end rest held s time rows done deeds log b moves = read (NextWanted k) reply run end refl rest held s time rows done deeds log b moves
  one (Copied k v x at slot) reply run end rest held s time rows done deeds log b moves = read (Copied k v x at slot) reply run end refl rest held s time rows done deeds log b moves
  one (Raise k upto) reply run end rest held s time rows done deeds log b moves = read (Raise k upto) reply run end refl rest held s time rows done deeds log b moves
  one (Break k upto cause) reply run end rest held s time rows done deeds log b moves = read (Break k upto cause) reply run end refl rest held s time rows done deeds log b moves
  one (Form limit) reply run end rest held s time rows done deeds log b moves =
      kept_on (answer_of (Form limit) reply) run held s time rows done deeds moves b
      (λ next more keeps then. form limit reply run end rest held s time next done more log then
      (kept_shown s log.runs.0 limit reply time next done more (λ t r p d. MakesDeeds t r p (part_of_mover run) d) (form_shown s log.runs.0 limit reply log.runs.2) keeps))
  one (Drop k v all) reply run end rest held s time rows done deeds log b moves =
      kept_on (answer_of (Drop k v all) reply) run held s time rows done deeds moves b
      (λ next more keeps then. rest held (with_control k (dropped v all) s) time next (plans_without k v done) more (drop_log traces s end k v all reply run log)
      (drop_begins size traces held s end k v all reply run time next done log keeps.gone keeps.known then) keeps.goes_on)
  one (Carry k v plan) reply run end rest held s time rows done deeds log b moves = absurd (true≢false (sym (and_parts (is_call_of_seat (answer_of (Carry k v plan) reply)) (list_all is_call_of_seat run) log.seats).0))
  one (Resume k v) reply run end rest held s time rows done deeds log b moves = absurd (true≢false (sym (and_parts (is_call_of_seat (answer_of (Resume k v) reply)) (list_all is_call_of_seat run) log.seats).0))
  one (Forget k v) reply run end rest held s time rows done deeds log b moves = absurd (true≢false (sym (and_parts (is_call_of_seat (answer_of (Forget k v) reply)) (list_all is_call_of_seat run) log.seats).0))

  pub bears : (run : List Answer) (end : Group) → Bears run end
  bears [] end = λ held s time rows done deeds log b moves.
      let then = quiet_begins size traces held s time done deeds rows moves.0 moves.1 b in
      subst (Goal held time rows) (append-nil deeds) (quiet_goal held s time done deeds rows moves.0 [] moves.1 b (at_start held time moves.0 [] refl then.truth))
  bears (a ∷ run) end = one a.call a.reply run end (bears run end)

  -- ---- all was kept

  abbrev Reached : HeldTracks → (time : ℕ) → List PairRow → List Deed → (end : Group) → (ended : ℕ) → (last : List PairRow) → (known : Plans) → Type 0
  Reached held time rows deeds end ended last known = (last ≡ rows_after_deeds deeds rows) × (ended ≡ time_meant_after deeds time) × IsGroupSound end × BeginsLog size traces (held_after_deeds deeds held) end ended last known

  quiet_reached : (held : HeldTracks) (time : ℕ) (quiet : List Deed) (rows next : List PairRow) (more : List Deed) (end : Group) (ended : ℕ) (last : List PairRow) (known : Plans) → AreQuiet time rows quiet next → Reached held time next more end ended last known
      → Reached held time rows (quiet ++ more) end ended last known
  quiet_reached held time [] rows next more end ended last known is r = subst (λ (rows : List PairRow). Reached held time rows more end ended last known) is r
  quiet_reached held time (Logged cut entries fewer ∷ quiet) rows next more end ended last known is r = absurd is
  quiet_reached held time (Changed at fewer ∷ quiet) rows next more end ended last known is r =
      subst (λ t. Reached held t fewer (quiet ++ more) end ended last known) (sym is.0) (quiet_reached held time quiet fewer next more end ended last known is.2 r)
  quiet_reached held time (Marked spot ended_flag fewer ∷ quiet) rows next more end ended last known is r = quiet_reached held time quiet fewer next more end ended last known is.1 r

  abbrev Reaches : List Answer → Group → (ended : ℕ) → (last : List PairRow) → (known : Plans) → Type 0
  Reaches run end ended last known = (held : HeldTracks) (s : Group) (time : ℕ) (rows : List PairRow) (done : Plans) (deeds : List Deed) → IsFedLog traces s end run → Begins held s time rows done
      → MakesAllDeeds time rows done (part_of_mover run) deeds ended last known → Reached held time rows deeds end ended last known

  module _ (ended : ℕ) (last : List PairRow) (known : Plans) where
    abbrev All : List Answer → ℕ → List PairRow → Plans → List Deed → Type 0
    All run t r p d = MakesAllDeeds t r p (part_of_mover run) d ended last known

    read_all : (call : Call) (reply : Reply) (run : List Answer) (end : Group) → is_call_of_reader call ≡ true → Reaches run end ended last known → (held : HeldTracks) (s : Group) (time : ℕ) (rows : List PairRow) (done : Plans) (deeds : List Deed)
        → IsFedLog traces s end (answer_of call reply ∷ run) → Begins held s time rows done → All run time rows done deeds → Reached held time rows deeds end ended last known
    read_all call reply run end reads rest held s time rows done deeds log b moves =
        let on = read_on traces s end call reply run reads log in
        rest held on.next time rows done deeds on.log (read_begins size traces held s end call reply run time rows done reads log on b) moves

    form_all : (limit : Stamp) (reply : Reply) (run : List Answer) (end : Group) → Reaches run end ended last known → (held : HeldTracks) (s : Group) (time : ℕ) (rows : List PairRow) (done : Plans) (deeds : List Deed) → IsFedLog traces s end (answer_of (Form limit) reply ∷ run)
        → Begins held s time rows done → KeepsShown time rows done (Some (shown_at (cut_of s limit) s)) deeds (All run) → Reached held time rows deeds end ended last known
    form_all limit reply run end rest held s time rows done deeds log b keeps = choose keeps
      where
        choose : (ShowsNothing time rows (shown_at (cut_of s limit) s) × All run time rows (plans_with_shown (shown_at (cut_of s limit) s) done) deeds) ⊎ IsLogged time rows done (shown_at (cut_of s limit) s) deeds (All run) → Reached held time rows deeds end ended last known
        choose (inl both) =
            rest held (formed_at (cut_of s limit) s) time rows (plans_with_shown (shown_at (cut_of s limit) s) done) deeds (form_log traces s end limit reply run log) (nothing_begins size traces held s end limit reply run time rows done log both.0 b) both.1
        choose (inr h) =
            let mid = quiet_begins size traces held s time done h.quiet rows h.mid h.suspends b in
            subst (λ (ds : List Deed). Reached held time rows ds end ended last known) (sym h.are)
            (quiet_reached held time h.quiet rows h.mid (Logged (cut_of s limit).0 (shown_at (cut_of s limit) s).entries h.next ∷ h.later) end ended last known h.suspends
            (rest (held_after_group (shown_at (cut_of s limit) s).entries held) (formed_at (cut_of s limit) s) (cut_of s limit).0 h.next (plans_with_shown (shown_at (cut_of s limit) s) done) h.later (form_log traces s end limit reply run log)
            (form_begins size traces held s end limit reply run time h.mid h.next done log h.follow mid) h.goes_on))

    kept_all : (a : Answer) (run : List Answer) (end : Group) (held : HeldTracks) (s : Group) (time : ℕ) (rows : List PairRow) (done : Plans) (deeds : List Deed) → IsKeptWhole time rows done a deeds (All run) → Begins held s time rows done
        → ((next : List PairRow) (more : List Deed) → KeepsCall time next done a.call a.reply more (All run) → Begins held s time next done → Reached held time next more end ended last known) → Reached held time rows deeds end ended last known
    kept_all a run end held s time rows done deeds h b by =
        subst (λ (ds : List Deed). Reached held time rows ds end ended last known) (sym h.are)
        (quiet_reached held time h.quiet rows h.next h.more end ended last known h.suspends (by h.next h.more h.goes_on (quiet_begins size traces held s time done h.quiet rows h.next h.suspends b)))

    one_all : (call : Call) (reply : Reply) (run : List Answer) (end : Group) → Reaches run end ended last known → Reaches (answer_of call reply ∷ run) end ended last known
    one_all (Join batch) reply run end rest held s time rows done deeds log b moves = read_all (Join batch) reply run end refl rest held s time rows done deeds log b moves
    one_all (NextWanted k) reply run end rest held s time rows done deeds log b moves = read_all (NextWanted k) reply run end refl rest held s time rows done deeds log b moves
    one_all (Copied k v x at slot) reply run end rest held s time rows done deeds log b moves = read_all (Copied k v x at slot) reply run end refl rest held s time rows done deeds log b moves
    one_all (Raise k upto) reply run end rest held s time rows done deeds log b moves = read_all (Raise k upto) reply run end refl rest held s time rows done deeds log b moves
    one_all (Break k upto cause) reply run end rest held s time rows done deeds log b moves = read_all (Break k upto cause) reply run end refl rest held s time rows done deeds log b moves
    one_all (Form limit) reply run end rest held s time rows done deeds log b moves =
        kept_all (answer_of (Form limit) reply) run end held s time rows done deeds moves b
        (λ next more keeps then. form_all limit reply run end rest held s time next done more log then (kept_shown s log.runs.0 limit reply time next done more (All run) (form_shown s log.runs.0 limit reply log.runs.2) keeps))
    one_all (Drop k v all) reply run end rest held s time rows done deeds log b moves =
        kept_all (answer_of (Drop k v all) reply) run end held s time rows done deeds moves b
        (λ next more keeps then. rest held (with_control k (dropped v all) s) time next (plans_without k v done) more (drop_log traces s end k v all reply run log)
        (drop_begins size traces held s end k v all reply run time next done log keeps.gone keeps.known then) keeps.goes_on)
    one_all (Carry k v plan) reply run end rest held s time rows done deeds log b moves = absurd (true≢false (sym (and_parts (is_call_of_seat (answer_of (Carry k v plan) reply)) (list_all is_call_of_seat run) log.seats).0))
    one_all (Resume k v) reply run end rest held s time rows done deeds log b moves = absurd (true≢false (sym (and_parts (is_call_of_seat (answer_of (Resume k v) reply)) (list_all is_call_of_seat run) log.seats).0))
    one_all (Forget k v) reply run end rest held s time rows done deeds log b moves = absurd (true≢false (sym (and_parts (is_call_of_seat (answer_of (Forget k v) reply)) (list_all is_call_of_seat run) log.seats).0))

    pub reaches : (run : List Answer) (end : Group) → Reaches run end ended last known
    reaches [] end = λ held s time rows done deeds log b moves.
        let then = quiet_begins size traces held s time done deeds rows last moves.0 b in
        let at_end : BeginsLog size traces held s ended last known = subst (λ t. BeginsLog size traces held s t last known) (sym moves.1) (subst (λ (p : Plans). BeginsLog size traces held s time last p) (sym moves.2) then) in
        let same : end ≡ s = log.runs in
        let here : Reached held time last [] end ended last known = (refl, moves.1, subst IsGroupSound (sym same) log.kept, subst (λ (g : Group). BeginsLog size traces held g ended last known) (sym same) at_end) in
        subst (λ (ds : List Deed). Reached held time rows ds end ended last known) (append-nil deeds) (quiet_reached held time deeds rows last [] end ended last known moves.0 here)
    reaches (a ∷ run) end = one_all a.call a.reply run end (reaches run end)

pub logs_bear : LogsBear
logs_bear size traces held s end run time rows done deeds log b moves = bears size traces run end held s time rows done deeds log b moves

pub reached_holds : ReachedHolds
reached_holds size traces held s end run time ended rows last done known deeds log b moves = reaches size traces ended last known run end held s time rows done deeds log b moves
