-- The rows that a record names make the rows after it.
use Rattle.std.proofs.Common.{◌≡◌, ℕ, Bool, true, false, cond, nat_eq, not, ◌&&◌, ◌||◌, List, [], ◌∷◌, ◌++◌, map, Option, Some, None, refl, ap, ◌∙◌}
use Rattle.std.specs.List.{list_any}
use Rattle.std.proofs.lemmas.Bool.{eq-eqb}
use Rattle.pair_table.specs.declared.level.Level.{Level}
use Rattle.pair_table.specs.declared.row.PairRow.{PairRow}
use Rattle.pair_table.specs.declared.row.PairState.{PairState}
use Rattle.pair_table.specs.declared.row.SuspendCause.TheVariants.{Device}
use Rattle.pair_table.specs.Devices.{is_among}
use Rattle.pair_table.specs.Rows.{is_suspended}
use Rattle.pair_table.specs.Tables.{in_state, is_of, with_row}
use Rattle.pair_table.proofs.PutLaws.{number_sym}
use Rattle.pair_table.proofs.TableLaws.{either_false}
use Rattle.pending_queue.specs.Groups.{FormedGroup}
use Rattle.row_changes.specs.Changes.{FaultReach, reach_of, reached_row, since}
use Rattle.record_rows.specs.ChangedRows.{changed_rows, changed_to, later_state, rows_in_states, state_told, state_with_record, with_rows_put}
use Rattle.record_rows.specs.GroupRows.{row_in, row_with_group, state_with_group}
use Rattle.record_rows.specs.Hits.{hit_now, is_reached}
use Rattle.record_rows.specs.Records.{rows_after_mark, rows_with_hits, rows_with_record}
use Rattle.record_rows.proofs.Devices.{apart_first, devices_apart}
use Rattle.record_rows.proofs.HitRows.{held, hits_row, reach_row, told_after_group, told_row, told_rows}

-- ---- rows put in order

-- No row put is of a device of which there is none.
none_changes : (state : PairRow → Option PairState) (d : ℕ) (rows : List PairRow) → list_any (is_of d) rows ≡ false → list_any (is_of d) (changed_rows state rows) ≡ false
none_changes state d [] none = refl
none_changes state d (r ∷ rows) none =
    let parts = either_false (nat_eq d r.device) (list_any (is_of d) rows) none in
    choose (state r) parts.0 (none_changes state d rows parts.1)
  where
    choose : (o : Option PairState) → nat_eq d r.device ≡ false → list_any (is_of d) (changed_rows state rows) ≡ false → list_any (is_of d) (changed_to r o ++ changed_rows state rows) ≡ false
    choose None other rest = rest
    choose (Some s) other rest = rw other rest

-- Rows of other devices are put after a row as if it weren't there.
put_after : (r : PairRow) (put rows : List PairRow) → list_any (is_of r.device) put ≡ false → with_rows_put put (r ∷ rows) ≡ r ∷ with_rows_put put rows
put_after r [] rows none = refl
put_after r (p ∷ put) rows none =
    let parts = either_false (nat_eq r.device p.device) (list_any (is_of r.device) put) none in
    ap (λ (b : Bool). with_rows_put put (cond b (p ∷ rows) (r ∷ with_row p rows))) (number_sym p.device r.device ∙ parts.0) ∙ put_after r put (with_row p rows) parts.1

put_here : (r : PairRow) (s : PairState) (rows : List PairRow) → with_row (in_state s r) (r ∷ rows) ≡ in_state s r ∷ rows
put_here r s rows = ap (λ (b : Bool). cond b (in_state s r ∷ rows) (r ∷ with_row (in_state s r) rows)) (eq-eqb r.device r.device refl)

pub changed_make : (state : PairRow → Option PairState) (rows : List PairRow) → devices_apart rows ≡ true → with_rows_put (changed_rows state rows) rows ≡ rows_in_states state rows
changed_make state [] apart = refl
changed_make state (r ∷ rows) apart =
    let first = apart_first r rows apart in
    choose (state r) (none_changes state r.device rows first.0) (changed_make state rows first.1)
  where
    choose : (o : Option PairState) → list_any (is_of r.device) (changed_rows state rows) ≡ false → with_rows_put (changed_rows state rows) rows ≡ rows_in_states state rows
        → with_rows_put (changed_to r o ++ changed_rows state rows) (r ∷ rows) ≡ row_in r o ∷ rows_in_states state rows
    choose None none rest = put_after r (changed_rows state rows) rows none ∙ ap (λ (l : List PairRow). r ∷ l) rest
    choose (Some s) none rest =
        ap (λ (l : List PairRow). with_rows_put (changed_rows state rows) l) (put_here r s rows) ∙ put_after (in_state s r) (changed_rows state rows) rows none ∙ ap (λ (l : List PairRow). in_state s r ∷ l) rest

-- ---- the states

-- the state to which hits of these devices change a row, if they reach it
abbrev state_reached : FaultReach → (time : ℕ) → (devices : List ℕ) → PairRow → Option PairState
state_reached reach time devices r = cond (is_reached reach devices r && not (is_suspended r.state)) (Some (since reach.cause time)) None

reached_is : (reach : FaultReach) (time d : ℕ) (devices : List ℕ) (r : PairRow) → reached_row reach (d ∷ devices) time r ≡ row_in r (state_reached reach time (d ∷ devices) r)
reached_is reach time d devices r = choose (reach.reaches (d ∷ devices) r) (is_suspended r.state)
  where
    choose : (b c : Bool) → cond b (cond c r (in_state (since reach.cause time) r)) r ≡ row_in r (cond (b && not c) (Some (since reach.cause time)) None)
    choose true true = refl
    choose true false = refl
    choose false c = refl

reach_is : (reach : FaultReach) (time : ℕ) (marked : List ℕ) (r : PairRow) → reach_row reach time marked r ≡ row_in r (state_reached reach time marked r)
reach_is reach time [] r = refl
reach_is reach time (m ∷ marked) r = reached_is reach time m marked r

hits_are : (reach : FaultReach) (time : ℕ) (hit : List ℕ) (r : PairRow) → hits_row reach time hit r ≡ row_in r (cond (is_among r.device hit) (Some (since Device time)) (state_reached reach time hit r))
hits_are reach time [] r = refl
hits_are reach time (d ∷ hit) r = choose (is_among r.device (d ∷ hit))
  where
    choose : (b : Bool) → reached_row reach (d ∷ hit) time (cond b (in_state (since Device time) r) r) ≡ row_in r (cond b (Some (since Device time)) (state_reached reach time (d ∷ hit) r))
    choose true = held reach (d ∷ hit) time (in_state (since Device time) r) refl
    choose false = reached_is reach time d hit r

told_is : (reach : FaultReach) (time : ℕ) (marked hit : List ℕ) (r : PairRow) → told_row reach time marked hit r ≡ row_in r (state_told reach time marked hit r)
told_is reach time marked hit r = ap (hits_row reach time hit) (reach_is reach time marked r) ∙ choose (is_reached reach marked r) (is_suspended r.state) refl
  where
    by_device : Option PairState
    by_device = Some (since Device time)

    by_reach : Option PairState
    by_reach = Some (since reach.cause time)

    again : (h y : Bool) → row_in (in_state (since reach.cause time) r) (cond h by_device (cond (y && false) by_reach None)) ≡ row_in r (cond h by_device by_reach)
    again true y = refl
    again false true = refl
    again false false = refl

    held_by : (h y : Bool) → row_in r (cond h by_device (cond (y && false) by_reach None)) ≡ row_in r (cond h by_device None)
    held_by true y = refl
    held_by false true = refl
    held_by false false = refl

    choose : (a s : Bool) → is_suspended r.state ≡ s
        → hits_row reach time hit (row_in r (cond (a && not s) by_reach None)) ≡ row_in r (cond (is_among r.device hit) by_device (cond ((a || is_reached reach hit r) && not s) by_reach None))
    choose true false is = hits_are reach time hit (in_state (since reach.cause time) r) ∙ again (is_among r.device hit) (is_reached reach hit (in_state (since reach.cause time) r))
    choose true true is =
        hits_are reach time hit r ∙ ap (λ (s : Bool). row_in r (cond (is_among r.device hit) by_device (cond (is_reached reach hit r && not s) by_reach None))) is
        ∙ held_by (is_among r.device hit) (is_reached reach hit r)
    choose false s is = hits_are reach time hit r ∙ ap (λ (s : Bool). row_in r (cond (is_among r.device hit) by_device (cond (is_reached reach hit r && not s) by_reach None))) is

in_turn : (r : PairRow) (first last : Option PairState) → row_in (row_in r first) last ≡ row_in r (later_state last first)
in_turn r None None = refl
in_turn r (Some s) None = refl
in_turn r None (Some t) = refl
in_turn r (Some s) (Some t) = refl

same_of_all : (f g : PairRow → PairRow) (rows : List PairRow) → ((r : PairRow) → f r ≡ g r) → map f rows ≡ map g rows
same_of_all f g [] same = refl
same_of_all f g (r ∷ rows) same = λ i. same r i ∷ same_of_all f g rows same i

pub after_marks_change : (level : Level) (marked : List ℕ) (group : FormedGroup) (failed : List Bool) (rows : List PairRow)
    → rows_after_mark level marked group failed rows ≡ rows_in_states (state_with_record (reach_of level rows) marked (hit_now failed rows) group) rows
after_marks_change level marked group failed rows =
    let reach = reach_of level rows in
    let hit = hit_now failed rows in
    told_after_group level group marked hit rows
    ∙ same_of_all (λ r. told_row reach group.cut.0 marked hit (row_with_group group r)) (λ r. row_in r (state_with_record reach marked hit group r)) rows
    (λ r. told_is reach group.cut.0 marked hit (row_with_group group r) ∙ in_turn r (state_with_group group r) (state_told reach group.cut.0 marked hit (row_with_group group r)))

pub records_change : (level : Level) (group : FormedGroup) (failed : List Bool) (rows : List PairRow) → rows_with_record level group failed rows ≡ rows_in_states (state_with_record (reach_of level rows) [] (hit_now failed rows) group) rows
records_change level group failed rows = after_marks_change level [] group failed rows

pub hits_change : (level : Level) (time : ℕ) (failed : List Bool) (rows : List PairRow) → rows_with_hits level time failed rows ≡ rows_in_states (state_told (reach_of level rows) time [] (hit_now failed rows)) rows
hits_change level time failed rows =
    let reach = reach_of level rows in
    let hit = hit_now failed rows in
    told_rows level time [] hit rows ∙ same_of_all (told_row reach time [] hit) (λ r. row_in r (state_told reach time [] hit r)) rows (λ r. told_is reach time [] hit r)
