-- The time that is meant never falls.
use Rattle.std.proofs.Common.{◌≡◌, ℕ, zero, suc, ◌≤◌, true, nat_le, List, [], ◌∷◌, ◌++◌, length, take, Some, ◌⊎◌, inl, inr, refl, sym, ap, subst, arith, append-nil}
use Rattle.std.specs.List.{list_all}
use Rattle.std.proofs.lemmas.Bool.{and_parts, leb-true}
use Rattle.tod_stamp.specs.declared.stamp.Stamp.{Stamp}
use Rattle.pair_table.specs.declared.row.PairRow.{PairRow}
use Rattle.group_state.specs.Groups.{Group, cut_of, shown_at}
use Rattle.group_state.specs.Machine.{Call, Reply}
use Rattle.group_state.specs.Machine.Call.{Join, NextWanted, Copied, Raise, Break, Form, Carry, Drop, Resume, Forget}
use Rattle.group_state.specs.Runs.{Answer, Runs}
use Rattle.group_state.proofs.Kept.{least_within}
use Rattle.record_rows.specs.Deeds.{Deed, time_meant_after}
use Rattle.record_rows.specs.Deeds.Deed.{Logged, Changed, Marked}
use Rattle.fed_logs.specs.Feeds.{part_of_mover}
use Rattle.fed_logs.specs.Moves.{AreQuiet, ShowsNothing, Plans, plans_with_shown, plans_without, IsLogged, KeepsShown, KeepsCall, IsKeptOn, MakesDeeds}
use Rattle.fed_logs.specs.LogLaws.{is_limited, TimesRise}
use Rattle.fed_logs.proofs.Went.{form_shown}
use Rattle.fed_logs.proofs.ReadCalls.{answer_of}
use Rattle.fed_logs.proofs.Bearing.{kept_shown}

module _ (limit : ℕ) where
  abbrev Goal : (time : ℕ) → List Deed → Type 0
  Goal time deeds = (n m : ℕ) → n ≤ m → m ≤ length deeds → (time_meant_after (take n deeds) time ≤ time_meant_after (take m deeds) time) × (time_meant_after (take m deeds) time ≤ limit)

  at_start : (time : ℕ) (deeds : List Deed) → deeds ≡ [] → time ≤ limit → Goal time deeds
  at_start time deeds none le zero zero nm few = (omega arith, le)
  at_start time deeds none le n (suc m) nm few = absurd (let none_left : length deeds ≡ 0 = ap (λ (ds : List Deed). length ds) none in omega (arith, none_left, few))
  at_start time deeds none le (suc n) zero nm few = absurd (omega (arith, nm))

  -- a deed, and those after it from its time on
  first : (time then : ℕ) (deeds : List Deed) → time ≤ then → time ≤ limit → Goal then deeds → (n m : ℕ) → n ≤ m → m ≤ suc (length deeds)
      → (deed : Deed) → ((t : ℕ) (ds : List Deed) → time_meant_after (deed ∷ ds) time ≡ time_meant_after ds then) → (time_meant_after (take n (deed ∷ deeds)) time ≤ time_meant_after (take m (deed ∷ deeds)) time) × (time_meant_after (take m (deed ∷ deeds)) time ≤ limit)
  first time then deeds up le goal zero zero nm few deed is = (omega arith, le)
  first time then deeds up le goal zero (suc m) nm few deed is =
      let rest = goal 0 m (omega arith) (omega (arith, few)) in
      let here = is 0 (take m deeds) in
      (omega (arith, up, rest.0, here), omega (arith, rest.1, here))
  first time then deeds up le goal (suc n) zero nm few deed is = absurd (omega (arith, nm))
  first time then deeds up le goal (suc n) (suc m) nm few deed is =
      let rest = goal n m (omega (arith, nm)) (omega (arith, few)) in
      let low = is 0 (take n deeds) in
      let high = is 0 (take m deeds) in
      (omega (arith, rest.0, low, high), omega (arith, rest.1, high))

  quiet_goal : (time : ℕ) (quiet : List Deed) (rows next : List PairRow) (more : List Deed) → AreQuiet time rows quiet next → time ≤ limit → Goal time more → Goal time (quiet ++ more)
  quiet_goal time [] rows next more is le goal = goal
  quiet_goal time (Logged cut entries fewer ∷ quiet) rows next more is le goal = absurd is
  quiet_goal time (Changed at fewer ∷ quiet) rows next more is le goal = λ n m nm few.
      first time time (quiet ++ more) (omega arith) le (quiet_goal time quiet fewer next more is.2 le goal) n m nm few (Changed at fewer) (λ t ds. ap (time_meant_after ds) is.0)
  quiet_goal time (Marked spot ended fewer ∷ quiet) rows next more is le goal = λ n m nm few.
      first time time (quiet ++ more) (omega arith) le (quiet_goal time quiet fewer next more is.1 le goal) n m nm few (Marked spot ended fewer) (λ t ds. refl)

  abbrev Rises : List Answer → Group → Type 0
  Rises run end = (s : Group) (time : ℕ) (rows : List PairRow) (done : Plans) (deeds : List Deed) → Runs s run end → MakesDeeds time rows done (part_of_mover run) deeds → time ≤ limit → list_all (is_limited limit) run ≡ true → Goal time deeds

  kept_on : (a : Answer) (run : List Answer) (time : ℕ) (rows : List PairRow) (done : Plans) (deeds : List Deed) → IsKeptOn time rows done a deeds (λ t r p d. MakesDeeds t r p (part_of_mover run) d) → time ≤ limit
      → ((next : List PairRow) (more : List Deed) → KeepsCall time next done a.call a.reply more (λ t r p d. MakesDeeds t r p (part_of_mover run) d) → Goal time more) → Goal time deeds
  kept_on a run time rows done deeds h le by = subst (Goal time) (sym h.are) (quiet_goal time h.quiet rows h.next h.more h.suspends le (choose h.goes_on))
    where
      choose : (h.more ≡ []) ⊎ KeepsCall time h.next done a.call a.reply h.more (λ t r p d. MakesDeeds t r p (part_of_mover run) d) → Goal time h.more
      choose (inl none) = at_start time h.more none le
      choose (inr keeps) = by h.next h.more keeps

  form : (s next_state : Group) (given : Stamp) (run : List Answer) (end : Group) → Rises run end → (time : ℕ) (rows : List PairRow) (done : Plans) (deeds : List Deed) → Runs next_state run end → given.0 ≤ limit → list_all (is_limited limit) run ≡ true → time ≤ limit
      → KeepsShown time rows done (Some (shown_at (cut_of s given) s)) deeds (λ t r p d. MakesDeeds t r p (part_of_mover run) d) → Goal time deeds
  form s next_state given run end rest time rows done deeds runs low limits le keeps = choose keeps
    where
      cut_low : (cut_of s given).0 ≤ limit
      cut_low = omega (arith, least_within given.0 s.controls, low)

      choose : (ShowsNothing time rows (shown_at (cut_of s given) s) × MakesDeeds time rows (plans_with_shown (shown_at (cut_of s given) s) done) (part_of_mover run) deeds) ⊎ IsLogged time rows done (shown_at (cut_of s given) s) deeds (λ t r p d. MakesDeeds t r p (part_of_mover run) d) → Goal time deeds
      choose (inl both) = rest next_state time rows (plans_with_shown (shown_at (cut_of s given) s) done) deeds runs both.1 le limits
      choose (inr h) =
          subst (Goal time) (sym h.are)
          (quiet_goal time h.quiet rows h.mid (Logged (cut_of s given).0 (shown_at (cut_of s given) s).entries h.next ∷ h.later) h.suspends le
          (λ n m nm few. first time (cut_of s given).0 h.later h.up le (rest next_state (cut_of s given).0 h.next (plans_with_shown (shown_at (cut_of s given) s) done) h.later runs h.goes_on cut_low limits) n m nm few
          (Logged (cut_of s given).0 (shown_at (cut_of s given) s).entries h.next) (λ t ds. refl)))

  one : (call : Call) (reply : Reply) (run : List Answer) (end : Group) → Rises run end → Rises (answer_of call reply ∷ run) end
  one (Join b) reply run end rest s time rows done deeds runs moves le limits = rest runs.0 time rows done deeds runs.3 moves le limits
  one (NextWanted k) reply run end rest s time rows done deeds runs moves le limits = rest runs.0 time rows done deeds runs.3 moves le limits
  one (Copied k v x at slot) reply run end rest s time rows done deeds runs moves le limits = rest runs.0 time rows done deeds runs.3 moves le limits
  one (Raise k upto) reply run end rest s time rows done deeds runs moves le limits = rest runs.0 time rows done deeds runs.3 moves le limits
  one (Break k upto cause) reply run end rest s time rows done deeds runs moves le limits = rest runs.0 time rows done deeds runs.3 moves le limits
  one (Carry k v plan) reply run end rest s time rows done deeds runs moves le limits = rest runs.0 time rows done deeds runs.3 moves le limits
  one (Resume k v) reply run end rest s time rows done deeds runs moves le limits = rest runs.0 time rows done deeds runs.3 moves le limits
  one (Forget k v) reply run end rest s time rows done deeds runs moves le limits = rest runs.0 time rows done deeds runs.3 moves le limits
  one (Form given) reply run end rest s time rows done deeds runs moves le limits =
      let parts = and_parts (nat_le given.0 limit) (list_all (is_limited limit) run) limits in
      kept_on (answer_of (Form given) reply) run time rows done deeds moves le
      (λ next more keeps. form s runs.0 given run end rest time next done more runs.3 (leb-true given.0 limit parts.0) parts.1 le
      (kept_shown s runs.0 given reply time next done more (λ t r p d. MakesDeeds t r p (part_of_mover run) d) (form_shown s runs.0 given reply runs.2) keeps))
  one (Drop k v all) reply run end rest s time rows done deeds runs moves le limits =
      kept_on (answer_of (Drop k v all) reply) run time rows done deeds moves le (λ next more keeps. rest runs.0 time next (plans_without k v done) more runs.3 keeps.goes_on le limits)

  pub rises : (run : List Answer) (end : Group) → Rises run end
  rises [] end = λ s time rows done deeds runs moves le limits. subst (Goal time) (append-nil deeds) (quiet_goal time deeds rows moves.0 [] moves.1 le (at_start time [] refl le))
  rises (a ∷ run) end = one a.call a.reply run end (rises run end)

pub times_rise : TimesRise
times_rise time limit s end run rows done deeds n m runs moves le limits nm few = rises limit run end s time rows done deeds runs moves le limits n m nm few
