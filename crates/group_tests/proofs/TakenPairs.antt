-- Names, a table and a state that take the changes of commands do so again after a command, and after a failure of a device.
use Rattle.std.proofs.Common.{◌≡◌, ℕ, ◌-◌, ◌<◌, Bool, true, false, cond, not, nat_le, ◌&&◌, List, [], ◌∷◌, ◌++◌, length, Option, Some, None, Ok, refl, sym, ap, subst, ◌∙◌, arith, true≢false, zero, suc, take, slice_get}
use Rattle.std.specs.Prelude.{is_none, IfSome}
use Rattle.std.specs.List.{list_all}
use Rattle.std.proofs.lemmas.Bool.{and_parts, leb-true}
use Rattle.std.proofs.lemmas.Option.{same_Some}
use Rattle.xrc_edge.specs.declared.limits.TheConstants.{MOST_CONTROLS, MOST_CONTROL_VOLUMES}
use Rattle.pair_table.specs.declared.command.Change.{Change}
use Rattle.pair_table.specs.declared.command.Change.TheVariants.{Nothing, Started, Added, Resumed, Gone, Suspended as SuspendedRows, Ended}
use Rattle.pair_table.specs.declared.command.Command.{Command}
use Rattle.pair_table.specs.declared.level.Level.TheVariants.{Volume as VolumeLevel}
use Rattle.pair_table.specs.declared.row.PairRow.{PairRow}
use Rattle.pair_table.specs.declared.row.PairState.{PairState}
use Rattle.pair_table.specs.declared.row.PairState.TheVariants.{Pending, Copy, Duplex, Suspended}
use Rattle.pair_table.specs.declared.row.SuspendCause.TheVariants.{Device}
use Rattle.pair_table.specs.Commands.{MayCommand, accepted, answer, table_after}
use Rattle.pair_table.specs.Naming.{Naming}
use Rattle.pair_table.specs.Refusals.{refusal}
use Rattle.pair_table.specs.Rows.{is_row, is_suspended}
use Rattle.pair_table.specs.Tables.{AreRowsSound, Table, changed_row, in_state, is_of, row_of, with_resumed, with_rows, with_state}
use Rattle.pair_table.proofs.MayLaws.{in_state_place, may_changed}
use Rattle.pair_table.proofs.RowRules.{row_keeps}
use Rattle.group_state.specs.Controls.{ControlState, begun_volume, counts, dropped, forgotten, resumed}
use Rattle.group_state.specs.Groups.{Group, control_at, with_control}
use Rattle.record_rows.specs.Hits.{hit_now, rows_hit}
use Rattle.record_rows.specs.Records.{rows_with_hits}
use Rattle.record_rows.specs.ToldRows.{InPlaces}
use Rattle.fed_logs.specs.Moves.{Plans}
use Rattle.fed_logs.proofs.Standing.{at_with, same_count}
use Rattle.mover.proofs.Pairs.{Among, among_of}
use Rattle.mover.proofs.Pairs.Among.{Here, Later}
use Rattle.pair_table.specs.States.{is_duplex, owes_suspended}
use Rattle.xrc_session.specs.Taking.{IfAdds, IsSuspendedSince, IsSoundForRows, MayTake, after_calls, calls_of_change}
use Rattle.xrc_session.proofs.Changed.{no_plans}
use Rattle.xrc_session.proofs.KeptRows.{kept_added_row, kept_dropped_row, kept_forgotten_row, kept_resumed_row}
use Rattle.xrc_session.proofs.Commanded.{commands_may_be_taken}
use Rattle.xrc_session.proofs.Walking.{Steps, Walked, change_walk}
use Rattle.group_tests.specs.Changes.{AllCount, TakesChanges, are_live}

-- ---- rows in order

-- The first rows with the next one are one row more.
pub taken_next : (rows : List PairRow) (place : ℕ) (r : PairRow) → slice_get rows place ≡ Some r → take place rows ++ r ∷ [] ≡ take (suc place) rows
taken_next [] place r at = absurd cc
taken_next (t ∷ rows) zero r at = ap (λ (x : PairRow). x ∷ []) (sym (same_Some t r at))
taken_next (t ∷ rows) (suc place) r at = ap (λ (xs : List PairRow). t ∷ xs) (taken_next rows place r at)

-- ---- controllers that count

count_with : (s : Group) (k : ℕ) (change : ControlState → ControlState) → ((c : ControlState) → (let d : ControlState = change c in d.phase) ≡ c.phase) → AllCount s → AllCount (with_control k change s)
count_with s k change phase counted j low =
    let was : j < length s.controls = omega (arith, low, same_count s k change) in
    at_with s k j change (λ (c : ControlState). counts c.phase ≡ true) was (λ same. ap counts (phase (control_at s j)) ∙ counted j was) (λ apart. counted j was)

-- A state is sound for rows, and has so many controllers, each of which counts.
record Counted (s : Group) (rows : List PairRow) : Type 0 where
  kept : IsSoundForRows s rows
  many : length s.controls ≡ MOST_CONTROLS
  counted : AllCount s

abbrev Counts : Group → List PairRow → Plans → Type 0
Counts s rows done = Counted s rows

abbrev FitsAny : PairRow → Type 0
FitsAny r = Unit {0}

counted_with : (s : Group) (rows next : List PairRow) (k : ℕ) (change : ControlState → ControlState) → ((c : ControlState) → (let d : ControlState = change c in d.phase) ≡ c.phase) → Counted s rows → IsSoundForRows (with_control k change s) next → Counted (with_control k change s) next
counted_with s rows next k change phase h kept = record { kept = kept; many = same_count s k change ∙ h.many; counted = count_with s k change phase h.counted }

counted_steps : Steps Counts FitsAny
counted_steps = record {
  kept = λ s rows done j. j.kept;
  drop = λ s rows done r state all j among suspends device known. counted_with s rows (with_state r.device state rows) r.control (dropped r.volume all) (λ c. refl) j (kept_dropped_row s rows r j.kept among state all suspends);
  resume = λ s rows done r group j among suspended counted. counted_with s rows (with_resumed r.device group rows) r.control (resumed r.volume) (λ c. refl) j (kept_resumed_row s rows r j.kept among group suspended counted);
  forget = λ s rows done r j among suspended. counted_with s rows _ r.control (forgotten r.volume) (λ c. refl) j (kept_forgotten_row s rows r j.kept among suspended);
  add = λ s rows done r j low counted pending apart fit. counted_with s rows (rows ++ r ∷ []) r.control (begun_volume r.volume _) (λ c. refl) j (kept_added_row s rows r j.kept low counted pending apart);
}

any_fits : (change : Change) (after : List PairRow) → IfAdds change after FitsAny
any_fits Nothing after = tt
any_fits Started after = tt
any_fits (Added device) after = choose (row_of device after)
  where
    choose : (o : Option PairRow) → IfSome o FitsAny
    choose None = tt
    choose (Some r) = tt
any_fits (Resumed device) after = tt
any_fits (Gone devices) after = tt
any_fits (SuspendedRows devices) after = tt
any_fits Ended after = tt

counted_after : (s : Group) (change : Change) (before after : List PairRow) → Counted s before → MayTake s change before after → Counted (after_calls (calls_of_change change s before after) s) after
counted_after s change before after h may =
    let walk : Walked Counts (calls_of_change change s before after) s after no_plans = change_walk Counts FitsAny counted_steps change before after s no_plans may (any_fits change after) h in
    walk.ends

pub taken_again : (names : Naming) (table next : Table) (s : Group) (change : Change) → TakesChanges names table s → MayTake s change table.rows next.rows → MayCommand names next.rows → next.is_started ≡ true
    → TakesChanges names next (after_calls (calls_of_change change s table.rows next.rows) s)
taken_again names table next s change h take may started =
    let after = counted_after s change table.rows next.rows (record { kept = h.kept; many = h.many; counted = h.counted }) take in
    record { may = may; started = started; kept = after.kept; many = after.many; counted = after.counted }

-- ---- a command

row_in : (r : PairRow) (rows : List PairRow) → list_all is_row rows ≡ true → Among r rows → is_row r ≡ true
row_in r _ all (Here rows) = (and_parts (is_row r) (list_all is_row rows) all).0
row_in r _ all (Later t rows there) = row_in r rows (and_parts (is_row t) (list_all is_row rows) all).1 there

low_control : (r : PairRow) → is_row r ≡ true → r.control < MOST_CONTROLS
low_control r is =
    let ranges = and_parts (nat_le r.control (MOST_CONTROLS - 1) && nat_le r.volume (MOST_CONTROL_VOLUMES - 1)) _ (row_keeps r is) in
    let control = leb-true r.control (MOST_CONTROLS - 1) (and_parts (nat_le r.control (MOST_CONTROLS - 1)) (nat_le r.volume (MOST_CONTROL_VOLUMES - 1)) ranges.0).0 in
    omega (arith, control)

started_after : (names : Naming) (table : Table) (session : List ℕ) (command : Command) (at : ℕ) → table.is_started ≡ true → (table_after names table session command at).is_started ≡ true
started_after names table session command at is = choose (is_none (refusal names table session command))
  where
    choose : (b : Bool) → (let t : Table = cond b (accepted names at command table) table in t.is_started) ≡ true
    choose true = refl
    choose false = is

-- No job has failed, so no row is hit.
none_hit : (rows : List PairRow) → hit_now [] rows ≡ []
none_hit [] = refl
none_hit (r ∷ rows) = none_hit rows

without_hits : (at : ℕ) (rows : List PairRow) → rows_with_hits VolumeLevel at [] rows ≡ rows
without_hits at rows = ap (λ (hit : List ℕ). rows_hit VolumeLevel at hit rows) (none_hit rows)

pub command_taken : (names : Naming) (table : Table) (session : List ℕ) (command : Command) (change : Change) (at : ℕ) (s : Group) → TakesChanges names table s → answer names table session command ≡ Ok change
    → AreRowsSound (table_after names table session command at).rows → MayTake s change table.rows (table_after names table session command at).rows
command_taken names table session command change at s h is keeps =
    subst (λ (next : List PairRow). MayTake s change table.rows next) (without_hits at (table_after names table session command at).rows)
    (commands_may_be_taken names table session command change at VolumeLevel at [] s h.started h.kept.apart is keeps.apart
    (λ r among begun.
    let low = low_control r (row_in r (table_after names table session command at).rows keeps.each (among_of (table_after names table session command at).rows r among)) in
    let there : r.control < length s.controls = subst (λ n. r.control < n) (sym h.many) low in
    (there, h.counted r.control there)))

pub commanded_again : (names : Naming) (table : Table) (session : List ℕ) (command : Command) (change : Change) (at : ℕ) (s : Group) → TakesChanges names table s → answer names table session command ≡ Ok change
    → AreRowsSound (table_after names table session command at).rows → MayCommand names (table_after names table session command at).rows
    → TakesChanges names (table_after names table session command at) (after_calls (calls_of_change change s table.rows (table_after names table session command at).rows) s)
commanded_again names table session command change at s h is keeps may =
    taken_again names table (table_after names table session command at) s change h (command_taken names table session command change at s h is keeps) may (started_after names table session command at h.started)

-- ---- a failure

fails_alone : (state : PairState) → not (is_suspended state) ≡ true → owes_suspended state (is_duplex state) true ≡ None → ⊥
fails_alone Pending live e = absurd cc
fails_alone Copy live e = absurd cc
fails_alone Duplex live e = absurd cc
fails_alone (Suspended cause since) live e = absurd (true≢false (sym live))

abbrev failed_state : (at : ℕ) → PairState
failed_state at = Suspended Device (record { 0 = at })

fails_one : (device at : ℕ) (r : PairRow) → not (is_suspended r.state) ≡ true → IsSuspendedSince r (changed_row device (failed_state at) r)
fails_one device at r live = choose (is_of device r)
  where
    choose : (b : Bool) → IsSuspendedSince r (cond b (in_state (failed_state at) r) r)
    choose true = record { same = refl; stays = λ e. absurd (fails_alone r.state live e) }
    choose false = record { same = refl; stays = λ e. refl }

fails_follow : (device at : ℕ) (rows : List PairRow) → are_live rows ≡ true → InPlaces IsSuspendedSince rows (with_state device (failed_state at) rows)
fails_follow device at [] live = tt
fails_follow device at (r ∷ rows) live =
    let parts = and_parts (not (is_suspended r.state)) (are_live rows) live in
    (fails_one device at r parts.0, fails_follow device at rows parts.1)

pub failure_taken : (names : Naming) (table : Table) (device at : ℕ) (s : Group) → TakesChanges names table s → are_live table.rows ≡ true → MayTake s Nothing table.rows (with_state device (failed_state at) table.rows)
failure_taken names table device at s h live = record { begun = tt; apart = h.kept.apart; follow = fails_follow device at table.rows live }

pub failed_again : (names : Naming) (table : Table) (device at : ℕ) (s : Group) → TakesChanges names table s → are_live table.rows ≡ true
    → TakesChanges names (with_rows table (with_state device (failed_state at) table.rows)) (after_calls (calls_of_change Nothing s table.rows (with_state device (failed_state at) table.rows)) s)
failed_again names table device at s h live =
    taken_again names table (with_rows table (with_state device (failed_state at) table.rows)) s Nothing h (failure_taken names table device at s h live) (may_changed names (is_of device) (in_state (failed_state at)) table.rows (in_state_place (failed_state at)) h.may) h.started
