-- Deeds that are steps of a run suspend rows at their own times.
use Rattle.std.proofs.Common.{◌≡◌, ℕ, Bool, true, false, cond, nat_eq, List, [], ◌∷◌, map, Option, Some, None, ◌⊎◌, inl, inr, refl, sym, ap, subst, ◌∙◌, true≢false}
use Rattle.std.proofs.lemmas.Bool.{and_parts, eqb-true}
use Rattle.tod_stamp.specs.declared.stamp.Stamp.{Stamp}
use Rattle.pair_table.specs.declared.level.Level.{Level}
use Rattle.pair_table.specs.declared.row.PairRow.{PairRow}
use Rattle.pair_table.specs.declared.row.PairState.{PairState}
use Rattle.pair_table.specs.declared.row.PairState.TheVariants.{Pending, Copy, Duplex, Suspended}
use Rattle.pair_table.specs.declared.row.SuspendCause.{SuspendCause}
use Rattle.pair_table.specs.declared.row.SuspendCause.TheVariants.{Control, Device}
use Rattle.pair_table.specs.Devices.{is_among}
use Rattle.pair_table.specs.Rows.{is_suspended}
use Rattle.pair_table.specs.Tables.{in_state, is_of, row_of}
use Rattle.row_changes.specs.Changes.{Due, FaultReach, RowChange, Timed, after_change, after_changes, due_after, hit_row, is_of_record, may_come, may_mature, reach_of, reached_row, row_after_change, row_may_mature, since, suspended_by}
use Rattle.row_changes.specs.Changes.RowChange.{Break, Hit, MarkedHit, Mature, Reached}
use Rattle.record_rows.specs.ToldRows.{InPlaces}
use Rattle.site_store.specs.DeedChanges.{DeedOfChanges, deeds_of}
use Rattle.consistency.specs.Leads.{Comes, Point}
use Rattle.consistency.specs.Ways.{are_at_time}
use Rattle.mover.specs.Moves.{InPlacesByDeeds, KeepsPair}
use Rattle.mover.specs.Points.{AreSteps, point_by}
use Rattle.xrc_session.specs.Maps.{BecomesAt, RowsGo}

-- A row that isn't in the state it was in is suspended since a time, if it is suspended.
abbrev SinceBy : (time : ℕ) → (r s : PairRow) → Type 0
SinceBy time r s = (cause : SuspendCause) (at : Stamp) → s.state ≡ Suspended cause at → (s.state ≡ r.state) ⊎ (at.0 ≡ time)

stays_by : (time : ℕ) (r : PairRow) → SinceBy time r r
stays_by time r cause at is = inl refl

stated_by : (time : ℕ) (cause : SuspendCause) (r : PairRow) → SinceBy time r (in_state (since cause time) r)
stated_by time cause r other at is = inr (same time at.0 (time_of is))
  where
    time_of : since cause time ≡ Suspended other at → time ≡ at.0
    time_of e = ap since_of e
      where
        since_of : PairState → ℕ
        since_of Pending = 0
        since_of Copy = 0
        since_of Duplex = 0
        since_of (Suspended cause at) = at.0

    same : (a b : ℕ) → a ≡ b → b ≡ a
    same a b e = sym e

then_by : (time : ℕ) (r s u : PairRow) → SinceBy time r s → SinceBy time s u → SinceBy time r u
then_by time r s u first then cause at is = elim (then cause at is) [
  | inl same ↦ elim (first cause at (sym same ∙ is)) [ inl before ↦ inl (same ∙ before) | inr now ↦ inr now ]
  | inr now ↦ inr now
]

suspends_by : (time : ℕ) (cause : SuspendCause) (r : PairRow) → SinceBy time r (suspended_by cause time r)
suspends_by time cause r = choose (is_suspended r.state)
  where
    choose : (b : Bool) → SinceBy time r (cond b r (in_state (since cause time) r))
    choose true = stays_by time r
    choose false = stated_by time cause r

hit_by : (time : ℕ) (devices : List ℕ) (r : PairRow) → SinceBy time r (hit_row devices time r)
hit_by time devices r = choose (is_among r.device devices)
  where
    choose : (b : Bool) → SinceBy time r (cond b (in_state (since Device time) r) r)
    choose true = stated_by time Device r
    choose false = stays_by time r

reached_by : (time : ℕ) (reach : FaultReach) (devices : List ℕ) (r : PairRow) → SinceBy time r (reached_row reach devices time r)
reached_by time reach devices r = choose (reach.reaches devices r)
  where
    choose : (b : Bool) → SinceBy time r (cond b (suspended_by reach.cause time r) r)
    choose true = suspends_by time reach.cause r
    choose false = stays_by time r

-- A row matures into no suspension.
matured_by : (time device : ℕ) (state : PairState) (rows : List PairRow) (r : PairRow) → row_may_mature state (row_of device rows) ≡ true → SinceBy time r (cond (is_of device r) (in_state state r) r)
matured_by time device state rows r may = choose (is_of device r)
  where
    never : (was : PairState) (cause : SuspendCause) (at : Stamp) → may_mature was (Suspended cause at) ≡ true → ⊥
    never Pending cause at e = true≢false (sym e)
    never Copy cause at e = true≢false (sym e)
    never Duplex cause at e = true≢false (sym e)
    never (Suspended other from) cause at e = true≢false (sym e)

    by_row : (o : Option PairRow) (cause : SuspendCause) (at : Stamp) → row_may_mature (Suspended cause at) o ≡ true → ⊥
    by_row None cause at e = true≢false (sym e)
    by_row (Some x) cause at e = never x.state cause at e

    choose : (b : Bool) → SinceBy time r (cond b (in_state state r) r)
    choose true = λ cause at is. absurd (by_row (row_of device rows) cause at (ap (λ (s : PairState). row_may_mature s (row_of device rows)) (sym is) ∙ may))
    choose false = stays_by time r

change_by : (reach : FaultReach) (breaks : List (Option ℕ)) (due : Due) (rows : List PairRow) (time : ℕ) (change : RowChange) (r : PairRow) → may_come breaks due rows (record { time = time; change = change }) ≡ true → SinceBy time r (row_after_change reach (record { time = time; change = change }) r)
change_by reach breaks due rows time (Mature device state) r may = matured_by time device state rows r (and_parts (is_of_record due time) (row_may_mature state (row_of device rows)) may).1
change_by reach breaks due rows time (Break control) r may = choose (nat_eq r.control control)
  where
    choose : (b : Bool) → SinceBy time r (cond b (suspended_by Control time r) r)
    choose true = suspends_by time Control r
    choose false = stays_by time r
change_by reach breaks due rows time (Hit devices) r may =
    then_by time r (hit_row devices time r) (reached_row reach devices time (hit_row devices time r)) (hit_by time devices r) (reached_by time reach devices (hit_row devices time r))
change_by reach breaks due rows time (MarkedHit devices) r may = hit_by time devices r
change_by reach breaks due rows time (Reached devices) r may = reached_by time reach devices r

places_map : (time : ℕ) (f : PairRow → PairRow) (rows : List PairRow) → ((r : PairRow) → SinceBy time r (f r)) → InPlaces (SinceBy time) rows (map f rows)
places_map time f [] each = tt
places_map time f (r ∷ rows) each = (each r, places_map time f rows each)

places_same : (time : ℕ) (rows : List PairRow) → InPlaces (SinceBy time) rows rows
places_same time [] = tt
places_same time (r ∷ rows) = (stays_by time r, places_same time rows)

places_then : (time : ℕ) (rows mid next : List PairRow) → InPlaces (SinceBy time) rows mid → InPlaces (SinceBy time) mid next → InPlaces (SinceBy time) rows next
places_then time [] [] [] first then = tt
places_then time [] [] (u ∷ next) first then = then
places_then time [] (s ∷ mid) next first then = absurd first
places_then time (r ∷ rows) [] next first then = absurd first
places_then time (r ∷ rows) (s ∷ mid) [] first then = then
places_then time (r ∷ rows) (s ∷ mid) (u ∷ next) first then = (then_by time r s u first.0 then.0, places_then time rows mid next first.1 then.1)

-- Changes at one time suspend rows since that time.
changes_by : (level : Level) (breaks : List (Option ℕ)) (due last : Due) (from to time : ℕ) (rows : List PairRow) (changes : List Timed) → Comes level breaks due from to rows changes last → are_at_time time changes ≡ true
    → InPlaces (SinceBy time) rows (after_changes level changes rows)
changes_by level breaks due last from to time rows [] comes at = places_same time rows
changes_by level breaks due last from to time rows (t ∷ changes) comes at =
    let parts = and_parts (nat_eq t.time time) (are_at_time time changes) at in
    let here : t.time ≡ time = eqb-true t.time time parts.0 in
    let reach = reach_of level rows in
    places_then time rows (after_change level t rows) (after_changes level changes (after_change level t rows))
    (places_map time (row_after_change reach t) rows (λ r. subst (λ (n : ℕ). SinceBy n r (row_after_change reach t r)) here (change_by reach breaks due rows t.time t.change r comes.2)))
    (changes_by level breaks (due_after level due t) last t.time to time (after_change level t rows) changes comes.3 parts.1)

go_by : (time : ℕ) (rows next : List PairRow) → InPlaces KeepsPair rows next → InPlaces (SinceBy time) rows next → InPlaces (BecomesAt time) rows next
go_by time [] [] keeps since = tt
go_by time [] (s ∷ next) keeps since = absurd keeps
go_by time (r ∷ rows) [] keeps since = absurd keeps
go_by time (r ∷ rows) (s ∷ next) keeps since = (record { keeps = keeps.0; since = since.0 }, go_by time rows next keeps.1 since.1)

pub steps_go : (level : Level) (breaks : List (Option ℕ)) (p : Point) (steps : List DeedOfChanges) → AreSteps level breaks p steps → InPlacesByDeeds KeepsPair p.rows (deeds_of steps) → RowsGo p.time p.rows (deeds_of steps)
steps_go level breaks p [] are keeps = tt
steps_go level breaks p (step ∷ steps) are keeps =
    let q = point_by level p step in (
      go_by q.time p.rows q.rows keeps.0
          (subst (InPlaces (SinceBy q.time) p.rows) (sym are.0.leads.rows) (changes_by level breaks p.due q.due p.time q.time q.time p.rows step.changes are.0.leads.may_come are.0.together)),
      steps_go level breaks q steps are.1 keeps.1,
    )
