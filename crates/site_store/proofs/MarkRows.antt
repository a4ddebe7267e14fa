-- The rows of a mark: those with hits, which rows keep their devices, and what of them fits the plant.
use Rattle.std.proofs.Common.{◌≡◌, ℕ, ◌==◌, ◌&&◌, ◌||◌, not, Bool, true, false, cond, List, [], ◌∷◌, Option, Some, None, refl, sym, ap, ◌∙◌, eqb-true, eq-eqb}
use Rattle.std.specs.Prelude.{nat_lt}
use Rattle.std.specs.List.{list_all, list_any}
use Rattle.std.proofs.lemmas.Bool.{and_from, and_parts}
use Rattle.crash_plant.specs.Moments.{PlantState}
use Rattle.pair_table.specs.declared.level.Level.{Level}
use Rattle.pair_table.specs.declared.level.Level.TheVariants.{Volume as VolumeLevel}
use Rattle.pair_table.specs.declared.row.PairRow.{PairRow}
use Rattle.pair_table.specs.declared.row.PairState.{PairState}
use Rattle.pair_table.specs.declared.row.PairState.TheVariants.{Pending, Copy, Duplex, Suspended}
use Rattle.pair_table.specs.declared.row.SuspendCause.TheVariants.{Device}
use Rattle.pair_table.specs.Devices.{is_among}
use Rattle.pair_table.specs.Rows.{is_suspended}
use Rattle.pair_table.specs.Tables.{are_below, is_of}
use Rattle.row_changes.specs.Changes.{FaultReach, reach_of, since}
use Rattle.record_rows.specs.ChangedRows.{rows_in_states, state_told}
use Rattle.record_rows.specs.GroupRows.{row_in}
use Rattle.record_rows.specs.Hits.{hit_now, is_down, is_hit_now, is_reached, rows_hit, rows_marked}
use Rattle.pair_table.specs.States.{is_device_suspended}
use Rattle.record_rows.specs.Records.{rows_with_hits}
use Rattle.record_rows.proofs.Changed.{hits_change}
use Rattle.record_rows.proofs.GroupSteps.{device_in}
use Rattle.site_store.specs.Exceptions.{is_kept}
use Rattle.site_store.specs.Standing.{row_has_volume}
use Rattle.site_store.proofs.HitRows.{among_hit, hits_device}

-- ---- under level VOLUME

none_marked : (time : ℕ) (rows : List PairRow) → rows_marked time [] rows ≡ rows
none_marked time [] = refl
none_marked time (r ∷ rows) = ap (λ (l : List PairRow). r ∷ l) (none_marked time rows)

by_volume : (time : ℕ) (hit : List ℕ) (rows : List PairRow) → rows_hit VolumeLevel time hit rows ≡ rows_marked time hit rows
by_volume time [] rows = sym (none_marked time rows)
by_volume time (d ∷ hit) rows = refl

-- Under level VOLUME hits reach no other row.
pub hits_alone : (time : ℕ) (failed : List Bool) (rows : List PairRow) → rows_with_hits VolumeLevel time failed rows ≡ rows_marked time (hit_now failed rows) rows
hits_alone time failed rows = by_volume time (hit_now failed rows) rows

-- ---- rows and the plant

in_has_volume : (plant : PlantState) (r : PairRow) (o : Option PairState) → row_has_volume plant (row_in r o) ≡ row_has_volume plant r
in_has_volume plant r (Some state) = refl
in_has_volume plant r None = refl

in_states_have : (plant : PlantState) (state : PairRow → Option PairState) (rows : List PairRow) → list_all (row_has_volume plant) rows ≡ true → list_all (row_has_volume plant) (rows_in_states state rows) ≡ true
in_states_have plant state [] have = refl
in_states_have plant state (r ∷ rows) have =
    let parts = and_parts (row_has_volume plant r) (list_all (row_has_volume plant) rows) have in
    and_from (row_has_volume plant (row_in r (state r))) (list_all (row_has_volume plant) (rows_in_states state rows)) (in_has_volume plant r (state r) ∙ parts.0) (in_states_have plant state rows parts.1)

-- Rows with hits are on volumes of the plant as before.
pub hits_have : (plant : PlantState) (level : Level) (time : ℕ) (failed : List Bool) (rows : List PairRow) → list_all (row_has_volume plant) rows ≡ true → list_all (row_has_volume plant) (rows_with_hits level time failed rows) ≡ true
hits_have plant level time failed rows have =
    ap (list_all (row_has_volume plant)) (hits_change level time failed rows) ∙ in_states_have plant (state_told (reach_of level rows) time [] (hit_now failed rows)) rows have

-- Rows in other states are of the devices that they were of.
pub in_states_below : (n : ℕ) (state : PairRow → Option PairState) (rows : List PairRow) → are_below n rows ≡ true → are_below n (rows_in_states state rows) ≡ true
in_states_below n state [] below = refl
in_states_below n state (r ∷ rows) below =
    let parts = and_parts (nat_lt r.device n) (are_below n rows) below in
    let after = row_in r (state r) in
    and_from (nat_lt after.device n) (are_below n (rows_in_states state rows)) (ap (λ (d : ℕ). nat_lt d n) (device_in r (state r)) ∙ parts.0) (in_states_below n state rows parts.1)

-- ---- which devices rows keep

suspended_too : (state : PairState) → is_device_suspended state ≡ true → is_suspended state ≡ true
suspended_too Pending is = cc
suspended_too Copy is = cc
suspended_too Duplex is = cc
suspended_too (Suspended cause time) is = refl

-- A row that isn't hit and that is suspended stays as it is.
kept_state : (reach : FaultReach) (time : ℕ) (hit : List ℕ) (r : PairRow) → is_among r.device hit ≡ false → is_suspended r.state ≡ true → state_told reach time [] hit r ≡ None
kept_state reach time hit r not_hit is =
    (λ i. cond (not_hit i) (Some (since Device time)) (cond (is_reached reach hit r && not (is i)) (Some (since reach.cause time)) None)) ∙ not_reached (is_reached reach hit r)
  where
    not_reached : (b : Bool) → cond (b && false) (Some (since reach.cause time)) None ≡ None
    not_reached true = refl
    not_reached false = refl

hit_state : (reach : FaultReach) (time : ℕ) (hit : List ℕ) (r : PairRow) → is_among r.device hit ≡ true → state_told reach time [] hit r ≡ Some (since Device time)
hit_state reach time hit r is = λ i. cond (is i) (Some (since Device time)) (cond (is_reached reach hit r && not (is_suspended r.state)) (Some (since reach.cause time)) None)

-- The row of a failed device is suspended by it.
told_suspended : (reach : FaultReach) (time : ℕ) (failed : List Bool) (hit : List ℕ) (r : PairRow) → is_down failed r.device ≡ true → (is_hit_now failed r ≡ true → is_among r.device hit ≡ true) → is_device_suspended (row_in r (state_told reach time [] hit r)).state ≡ true
told_suspended reach time failed hit r down so = by_hit (is_among r.device hit) refl (is_device_suspended r.state) refl
  where
    by_hit : (b : Bool) → is_among r.device hit ≡ b → (s : Bool) → is_device_suspended r.state ≡ s → is_device_suspended (row_in r (state_told reach time [] hit r)).state ≡ true
    by_hit true is s was = ap (λ (o : Option PairState). is_device_suspended (row_in r o).state) (hit_state reach time hit r is)
    by_hit false is true was = ap (λ (o : Option PairState). is_device_suspended (row_in r o).state) (kept_state reach time hit r is (suspended_too r.state was)) ∙ was
    by_hit false is false was =
        let hits : is_hit_now failed r ≡ true = and_from (is_down failed r.device) (not (is_device_suspended r.state)) down (ap not was) in
        let among = so hits in
        cc

other_device : (a b c : ℕ) → c ≡ b → (b == a) ≡ false → (a == c) ≡ false
other_device a b c same differ = not_eq (a == c) refl
  where
    not_eq : (x : Bool) → (a == c) ≡ x → (a == c) ≡ false
    not_eq false is = is
    not_eq true is = let e : (b == a) ≡ true = eq-eqb b a (sym same ∙ sym (eqb-true a c is)) in cc

-- Such a row doesn't keep the device.
row_not_kept : (reach : FaultReach) (time : ℕ) (failed : List Bool) (hit : List ℕ) (d : ℕ) (r : PairRow) → is_down failed d ≡ true → (is_hit_now failed r ≡ true → (r.device == d) ≡ true → is_among d hit ≡ true)
    → (let s = row_in r (state_told reach time [] hit r) in (is_of d s && not (is_device_suspended s.state)) ≡ false)
row_not_kept reach time failed hit d r down so = by_device (r.device == d) refl
  where
    suspended_row : (a b : Bool) → b ≡ true → (a && not b) ≡ false
    suspended_row true true is = refl
    suspended_row false b is = refl
    suspended_row true false is = cc

    by_device : (b : Bool) → (r.device == d) ≡ b → (let s = row_in r (state_told reach time [] hit r) in (is_of d s && not (is_device_suspended s.state)) ≡ false)
    by_device true is =
        let s = row_in r (state_told reach time [] hit r) in
        let same : r.device ≡ d = eqb-true r.device d is in
        suspended_row (is_of d s) (is_device_suspended s.state) (told_suspended reach time failed hit r (ap (is_down failed) same ∙ down) (λ hits. ap (λ (n : ℕ). is_among n hit) same ∙ so hits is))
    by_device false is =
        let s = row_in r (state_told reach time [] hit r) in
        ap (λ (b : Bool). b && not (is_device_suspended s.state)) (other_device d r.device s.device (device_in r (state_told reach time [] hit r)) is)

-- So no device that has failed is kept.
none_kept : (reach : FaultReach) (time : ℕ) (failed : List Bool) (hit : List ℕ) (d : ℕ) (rows : List PairRow) → is_down failed d ≡ true → (list_any (hits_device failed d) rows ≡ true → is_among d hit ≡ true) → is_kept d (rows_in_states (state_told reach time [] hit) rows) ≡ false
none_kept reach time failed hit d [] down so = refl
none_kept reach time failed hit d (r ∷ rows) down so =
    neither (row_not_kept reach time failed hit d r down (λ hits on_it. so (ap (λ (b : Bool). b || list_any (hits_device failed d) rows) (and_from (is_hit_now failed r) (r.device == d) hits on_it))))
    (none_kept reach time failed hit d rows down (λ any. so (after (hits_device failed d r) any)))
  where
    after : (b : Bool) → list_any (hits_device failed d) rows ≡ true → (b || list_any (hits_device failed d) rows) ≡ true
    after true any = refl
    after false any = any

    neither : {a b : Bool} → a ≡ false → b ≡ false → (a || b) ≡ false
    neither {a = a} {b = b} x y = ap (λ (c : Bool). c || b) x ∙ y

-- The rows with hits keep no device whose job has failed.
pub kept_good : (level : Level) (time : ℕ) (failed : List Bool) (rows : List PairRow) (d : ℕ) → is_kept d (rows_with_hits level time failed rows) ≡ true → is_down failed d ≡ false
kept_good level time failed rows d kept = by_flag (is_down failed d) refl
  where
    by_flag : (b : Bool) → is_down failed d ≡ b → is_down failed d ≡ false
    by_flag false good = good
    by_flag true down =
        let none : is_kept d (rows_with_hits level time failed rows) ≡ false = ap (is_kept d) (hits_change level time failed rows)
        ∙ none_kept (reach_of level rows) time failed (hit_now failed rows) d rows down (λ any. sym (among_hit failed d rows) ∙ any) in
        cc
