-- The devices that are hit now, and what hits with their reach make of a row.
use Rattle.std.proofs.Common.{◌≡◌, ℕ, zero, suc, Bool, true, false, cond, nat_eq, List, [], ◌∷◌, ◌++◌, map, filter, Option, Some, None, refl, sym, ap, subst, ◌∙◌, true≢false, slice_get}
use Rattle.std.specs.List.{list_all, list_any}
use Rattle.std.proofs.lemmas.Bool.{and_from, and_parts, eq-eqb, or_left}
use Rattle.std.proofs.lemmas.List.{map-id}
use Rattle.std.proofs.lemmas.Option.{same_Some}
use Rattle.std.proofs.lemmas.Simd.{map-map}
use Rattle.pair_table.specs.declared.level.Level.{Level}
use Rattle.pair_table.specs.declared.row.PairRow.{PairRow}
use Rattle.pair_table.specs.declared.row.PairState.{PairState}
use Rattle.pair_table.specs.Devices.{is_among}
use Rattle.pair_table.specs.Rows.{is_suspended}
use Rattle.pair_table.specs.Tables.{in_state, is_of}
use Rattle.pair_table.proofs.PutLaws.{number_sym}
use Rattle.pair_table.proofs.TableLaws.{either_false}
use Rattle.pending_queue.specs.Groups.{FormedGroup}
use Rattle.row_changes.specs.Changes.{FaultReach, after_changes, hit_row, reach_of, reached_row, reaches_others, since}
use Rattle.row_changes.specs.Changes.RowChange.{Reached}
use Rattle.row_changes.proofs.Reaching.{reached_state, same_reach, unreached}
use Rattle.record_rows.specs.GroupRows.{row_in, row_with_group, state_with_group}
use Rattle.record_rows.specs.Hits.{hit_changes, hit_now, is_hit_now, marked_changes, rows_hit, rows_marked, rows_reached, rows_told, told_changes}
use Rattle.record_rows.proofs.Devices.{apart_first, devices_apart, each_has, none_at}

-- ---- who is hit now

-- None is of a device without a row.
none_among : (failed : List Bool) (d : ℕ) (rows : List PairRow) → list_any (is_of d) rows ≡ false → is_among d (hit_now failed rows) ≡ false
none_among failed d [] none = refl
none_among failed d (r ∷ rows) none =
    let parts = either_false (nat_eq d r.device) (list_any (is_of d) rows) none in
    choose (is_hit_now failed r) (number_sym r.device d ∙ parts.0) (none_among failed d rows parts.1)
  where
    choose : (b : Bool) → nat_eq r.device d ≡ false → is_among d (hit_now failed rows) ≡ false → is_among d (map (λ s. s.device) (cond b (r ∷ filter (is_hit_now failed) rows) (filter (is_hit_now failed) rows))) ≡ false
    choose true other rest = rw other rest
    choose false other rest = rest

-- A row's device is one of them exactly if the row is hit now.
pub among_hit : (failed : List Bool) (rows : List PairRow) (i : ℕ) (x : PairRow) → devices_apart rows ≡ true → slice_get rows i ≡ Some x → is_among x.device (hit_now failed rows) ≡ is_hit_now failed x
among_hit failed [] i x apart at = absurd cc
among_hit failed (r ∷ rows) zero x apart at = subst (λ (y : PairRow). is_among y.device (hit_now failed (r ∷ rows)) ≡ is_hit_now failed y) (same_Some r x at) (here (is_hit_now failed r) (none_among failed r.device rows (apart_first r rows apart).0))
  where
    here : (b : Bool) → is_among r.device (hit_now failed rows) ≡ false → is_among r.device (map (λ s. s.device) (cond b (r ∷ filter (is_hit_now failed) rows) (filter (is_hit_now failed) rows))) ≡ b
    here true none = or_left (nat_eq r.device r.device) (is_among r.device (hit_now failed rows)) (eq-eqb r.device r.device refl)
    here false none = none
among_hit failed (r ∷ rows) (suc i) x apart at =
    let first = apart_first r rows apart in
    after (is_hit_now failed r) (none_at r.device rows i x first.0 at) (among_hit failed rows i x first.1 at)
  where
    after : (b : Bool) → nat_eq r.device x.device ≡ false → is_among x.device (hit_now failed rows) ≡ is_hit_now failed x
        → is_among x.device (map (λ s. s.device) (cond b (r ∷ filter (is_hit_now failed) rows) (filter (is_hit_now failed) rows))) ≡ is_hit_now failed x
    after true other rest = rw other rest
    after false other rest = rest

-- Each of them has a row.
have_rows : (failed : List Bool) (all rows : List PairRow) → list_all (λ r. list_any (is_of r.device) all) rows ≡ true → list_all (λ d. list_any (is_of d) all) (hit_now failed rows) ≡ true
have_rows failed all [] have = refl
have_rows failed all (r ∷ rows) have =
    let parts = and_parts (list_any (is_of r.device) all) (list_all (λ s. list_any (is_of s.device) all) rows) have in
    choose (is_hit_now failed r) parts.0 (have_rows failed all rows parts.1)
  where
    choose : (b : Bool) → list_any (is_of r.device) all ≡ true → list_all (λ d. list_any (is_of d) all) (hit_now failed rows) ≡ true
        → list_all (λ d. list_any (is_of d) all) (map (λ s. s.device) (cond b (r ∷ filter (is_hit_now failed) rows) (filter (is_hit_now failed) rows))) ≡ true
    choose true here rest = and_from (list_any (is_of r.device) all) (list_all (λ d. list_any (is_of d) all) (hit_now failed rows)) here rest
    choose false here rest = rest

pub hit_have_rows : (failed : List Bool) (rows : List PairRow) → list_all (λ d. list_any (is_of d) rows) (hit_now failed rows) ≡ true
hit_have_rows failed rows = have_rows failed rows rows (each_has rows)

-- ---- what is told of a row

abbrev pub reach_row : FaultReach → (time : ℕ) → (marked : List ℕ) → PairRow → PairRow
reach_row reach time [] r = r
reach_row reach time (d ∷ marked) r = reached_row reach (d ∷ marked) time r

abbrev pub hits_row : FaultReach → (time : ℕ) → (hit : List ℕ) → PairRow → PairRow
hits_row reach time [] r = r
hits_row reach time (d ∷ hit) r = reached_row reach (d ∷ hit) time (hit_row (d ∷ hit) time r)

abbrev pub told_row : FaultReach → (time : ℕ) → (marked hit : List ℕ) → PairRow → PairRow
told_row reach time marked hit r = hits_row reach time hit (reach_row reach time marked r)

reach_rows : (level : Level) (time : ℕ) (marked : List ℕ) (rows : List PairRow) → rows_reached level time marked rows ≡ map (reach_row (reach_of level rows) time marked) rows
reach_rows level time [] rows = sym (map-id rows)
reach_rows level time (d ∷ marked) rows = refl

hits_rows : (level : Level) (time : ℕ) (hit : List ℕ) (rows : List PairRow) → rows_hit level time hit rows ≡ map (hits_row (reach_of level rows) time hit) rows
hits_rows level time [] rows = sym (map-id rows)
hits_rows level time (d ∷ hit) rows = refl

reach_keeps : (reach : FaultReach) (time : ℕ) (marked : List ℕ) (r : PairRow) → reach_row reach time marked r ≡ in_state (reach_row reach time marked r).state r
reach_keeps reach time [] r = refl
reach_keeps reach time (d ∷ marked) r = reached_state reach (d ∷ marked) time r

pub told_rows : (level : Level) (time : ℕ) (marked hit : List ℕ) (rows : List PairRow) → rows_told level time marked hit rows ≡ map (told_row (reach_of level rows) time marked hit) rows
told_rows level time marked hit rows =
    let reach = reach_of level rows in
    let first = reach_row reach time marked in
    hits_rows level time hit (rows_reached level time marked rows)
    ∙ ap (λ (l : List PairRow). map (hits_row (reach_of level l) time hit) l) (reach_rows level time marked rows)
    ∙ ap (λ (q : FaultReach). map (hits_row q time hit) (map first rows)) (same_reach level first (reach_keeps reach time marked) rows) ∙ map-map (hits_row reach time hit) first rows

row_in_state : (r : PairRow) (o : Option PairState) → row_in r o ≡ in_state (row_in r o).state r
row_in_state r None = refl
row_in_state r (Some state) = refl

-- What is told after a group reaches whom it would reach before.
pub told_after_group : (level : Level) (group : FormedGroup) (marked hit : List ℕ) (rows : List PairRow)
    → rows_told level group.cut.0 marked hit (map (row_with_group group) rows) ≡ map (λ r. told_row (reach_of level rows) group.cut.0 marked hit (row_with_group group r)) rows
told_after_group level group marked hit rows =
    let grouped = row_with_group group in
    told_rows level group.cut.0 marked hit (map grouped rows)
    ∙ ap (λ (q : FaultReach). map (told_row q group.cut.0 marked hit) (map grouped rows)) (same_reach level grouped (λ r. row_in_state r (state_with_group group r)) rows)
    ∙ map-map (told_row (reach_of level rows) group.cut.0 marked hit) grouped rows

-- A suspended row isn't reached.
pub held : (reach : FaultReach) (devices : List ℕ) (time : ℕ) (r : PairRow) → is_suspended r.state ≡ true → reached_row reach devices time r ≡ r
held reach devices time r is = choose (reach.reaches devices r) (is_suspended r.state) is
  where
    choose : (b c : Bool) → c ≡ true → cond b (cond c r (in_state (since reach.cause time) r)) r ≡ r
    choose true true is = refl
    choose true false is = absurd (true≢false (sym is))
    choose false c is = refl

-- ---- as changes

pub hits_are_changes : (level : Level) (time : ℕ) (hit : List ℕ) (rows : List PairRow) → rows_hit level time hit rows ≡ after_changes level (hit_changes time hit) rows
hits_are_changes level time [] rows = refl
hits_are_changes level time (d ∷ hit) rows = refl

pub marks_are_changes : (level : Level) (time : ℕ) (hit : List ℕ) (rows : List PairRow) → rows_marked time hit rows ≡ after_changes level (marked_changes time hit) rows
marks_are_changes level time [] rows = map-id rows
marks_are_changes level time (d ∷ hit) rows = refl

pub told_are_changes : (level : Level) (time : ℕ) (marked hit : List ℕ) (rows : List PairRow) → rows_told level time marked hit rows ≡ after_changes level (told_changes level time marked hit) rows
told_are_changes level time [] hit rows = hits_are_changes level time hit rows
told_are_changes level time (m ∷ marked) hit rows = choose (reaches_others level) refl
  where
    due : List PairRow
    due = rows_reached level time (m ∷ marked) rows

    choose : (b : Bool) → reaches_others level ≡ b → rows_hit level time hit due ≡ after_changes level (cond b (record { time = time; change = Reached (m ∷ marked) } ∷ []) [] ++ hit_changes time hit) rows
    choose true is = hits_are_changes level time hit due
    choose false is = ap (rows_hit level time hit) (unreached level (m ∷ marked) time rows is) ∙ hits_are_changes level time hit rows
