-- What holds of whom hits reach at each level. Changes change the states of rows alone, and so it stays as it is.
use Rattle.std.proofs.Common.{◌≡◌, ℕ, Bool, true, false, not, ◌&&◌, ◌||◌, cond, nat_eq, List, [], ◌∷◌, map, refl, ap, ◌∙◌, true≢false}
use Rattle.std.proofs.lemmas.List.{map-id}
use Rattle.pair_table.specs.declared.level.Level.{Level}
use Rattle.pair_table.specs.declared.level.Level.TheVariants.{Volume as VolumeLevel, Session as SessionLevel, Group as GroupLevel}
use Rattle.pair_table.specs.declared.row.PairRow.{PairRow}
use Rattle.pair_table.specs.declared.row.PairState.{PairState}
use Rattle.pair_table.specs.declared.row.SuspendCause.{SuspendCause}
use Rattle.pair_table.specs.declared.row.SuspendCause.TheVariants.{Device as ByDevice, Control as ByControl, Group as ByGroup}
use Rattle.pair_table.specs.Devices.{is_among}
use Rattle.pair_table.specs.Rows.{is_suspended}
use Rattle.pair_table.specs.States.{is_by_device}
use Rattle.pair_table.specs.Tables.{in_state}
use Rattle.row_changes.specs.Changes.{FaultReach, RowChange, Timed, are_same_group, hit_row, reach_of, reached_row, reaches_others, row_after_change, shares_group, since, suspended_by}
use Rattle.row_changes.specs.Changes.RowChange.{Break, Hit, MarkedHit, Mature, Reached}

-- Rows that differ in their states alone have the same groups.
same_shares : (f : PairRow → PairRow) → ((r : PairRow) → f r ≡ in_state (f r).state r) → (devices : List ℕ) (r : PairRow) (rows : List PairRow) → shares_group (map f rows) devices r ≡ shares_group rows devices r
same_shares f keeps devices r [] = refl
same_shares f keeps devices r (s ∷ rows) =
    let first = ap (λ (x : PairRow). is_among x.device devices && are_same_group x.group r.group) (keeps s) in
    let others = same_shares f keeps devices r rows in
    λ i. first i || others i

-- Rows that differ in their states alone are reached alike.
pub same_reach : (level : Level) (f : PairRow → PairRow) → ((r : PairRow) → f r ≡ in_state (f r).state r) → (rows : List PairRow) → reach_of level (map f rows) ≡ reach_of level rows
same_reach VolumeLevel f keeps rows = refl
same_reach SessionLevel f keeps rows = refl
same_reach GroupLevel f keeps rows = λ i. record { cause = ByGroup; reaches = λ devices r. not (is_among r.device devices) && same_shares f keeps devices r rows i }

-- No device suspends the rows that hits reach.
pub reach_is_other : (level : Level) (rows : List PairRow) → is_by_device (reach_of level rows).cause ≡ false
reach_is_other VolumeLevel rows = refl
reach_is_other SessionLevel rows = refl
reach_is_other GroupLevel rows = refl

-- Where failures reach no others, no row is reached.
pub unreached : (level : Level) (devices : List ℕ) (time : ℕ) (rows : List PairRow) → reaches_others level ≡ false → map (reached_row (reach_of level rows) devices time) rows ≡ rows
unreached VolumeLevel devices time rows none = map-id rows
unreached SessionLevel devices time rows none = absurd (true≢false none)
unreached GroupLevel devices time rows none = absurd (true≢false none)

either_state : (b : Bool) (state : PairState) (r : PairRow) → cond b (in_state state r) r ≡ in_state (cond b (in_state state r) r).state r
either_state true state r = refl
either_state false state r = refl

suspended_state : (cause : SuspendCause) (time : ℕ) (r : PairRow) → suspended_by cause time r ≡ in_state (suspended_by cause time r).state r
suspended_state cause time r = choose (is_suspended r.state)
  where
    choose : (b : Bool) → cond b r (in_state (since cause time) r) ≡ in_state (cond b r (in_state (since cause time) r)).state r
    choose true = refl
    choose false = refl

pub reached_state : (reach : FaultReach) (devices : List ℕ) (time : ℕ) (r : PairRow) → reached_row reach devices time r ≡ in_state (reached_row reach devices time r).state r
reached_state reach devices time r = choose (reach.reaches devices r)
  where
    choose : (b : Bool) → cond b (suspended_by reach.cause time r) r ≡ in_state (cond b (suspended_by reach.cause time r) r).state r
    choose true = suspended_state reach.cause time r
    choose false = refl

pub hit_state : (devices : List ℕ) (time : ℕ) (r : PairRow) → hit_row devices time r ≡ in_state (hit_row devices time r).state r
hit_state devices time r = either_state (is_among r.device devices) (since ByDevice time) r

-- what a change makes of a row is the row in some state
change_state : (reach : FaultReach) (time : ℕ) (change : RowChange) (r : PairRow) → let t : Timed = record { time = time; change = change } in row_after_change reach t r ≡ in_state (row_after_change reach t r).state r
change_state reach time (Mature d state) r = either_state (nat_eq d r.device) state r
change_state reach time (Break k) r = choose (nat_eq r.control k)
  where
    choose : (b : Bool) → cond b (suspended_by ByControl time r) r ≡ in_state (cond b (suspended_by ByControl time r) r).state r
    choose true = suspended_state ByControl time r
    choose false = refl
change_state reach time (Hit devices) r =
    let hit = hit_row devices time r in
    let state = (reached_row reach devices time hit).state in
    reached_state reach devices time hit ∙ ap (λ (x : PairRow). in_state state x) (hit_state devices time r)
change_state reach time (MarkedHit devices) r = hit_state devices time r
change_state reach time (Reached devices) r = reached_state reach devices time r

pub changes_state : (reach : FaultReach) (t : Timed) (r : PairRow) → row_after_change reach t r ≡ in_state (row_after_change reach t r).state r
changes_state reach t r = change_state reach t.time t.change r
