-- What records and marks tell of each row.
use Rattle.std.proofs.Common.{◌≡◌, inl, inr, ℕ, zero, suc, Bool, true, false, not, cond, nat_eq, ◌&&◌, ◌||◌, List, [], ◌∷◌, map, filter, Option, Some, None, refl, sym, ap, subst, ◌∙◌, true≢false, slice_get}
use Rattle.std.proofs.lemmas.Bool.{and_parts, eqb-true, not-true}
use Rattle.tod_stamp.specs.declared.stamp.Stamp.{Stamp}
use Rattle.pair_table.specs.declared.level.Level.{Level}
use Rattle.pair_table.specs.declared.row.PairRow.{PairRow}
use Rattle.pair_table.specs.declared.row.PairState.{PairState}
use Rattle.pair_table.specs.declared.row.PairState.TheVariants.{Pending, Copy, Duplex, Suspended}
use Rattle.pair_table.specs.declared.row.SuspendCause.TheVariants.{Device, Control}
use Rattle.pair_table.specs.Devices.{is_among}
use Rattle.pair_table.specs.Rows.{is_suspended}
use Rattle.pair_table.specs.Tables.{in_state}
use Rattle.pending_queue.specs.Groups.{FormedGroup}
use Rattle.row_changes.specs.Changes.{FaultReach, hit_row, reach_of, reached_row, since}
use Rattle.row_changes.proofs.Reaching.{reach_is_other}
use Rattle.record_rows.specs.GroupRows.{is_shown_done, row_in, row_with_group, shown_break, state_by_group}
use Rattle.record_rows.specs.Hits.{hit_now, is_down, is_hit_now, rows_marked}
use Rattle.pair_table.specs.States.{is_by_device, is_device_suspended}
use Rattle.record_rows.specs.Records.{rows_after_mark, rows_with_hits, rows_with_record}
use Rattle.record_rows.specs.ToldRows.{AreTold, IsTold}
use Rattle.record_rows.proofs.Devices.{devices_apart}
use Rattle.record_rows.proofs.HitRows.{among_hit, held, hits_row, reach_row, told_after_group, told_row, told_rows}

-- ---- changes of a row that suspend it by no device

-- The pair stays, and so does a suspended row. No device suspends it.
record Mild (r s : PairRow) : Type 0 where
  same : s ≡ in_state s.state r
  stays : is_suspended r.state ≡ true → s ≡ r
  device : is_device_suspended s.state ≡ true → is_device_suspended r.state ≡ true

mild_self : (r : PairRow) → Mild r r
mild_self r = record { same = refl; stays = λ is. refl; device = λ is. is }

mild_then : (r s t : PairRow) → Mild r s → Mild s t → Mild r t
mild_then r s t a b = record {
  same = b.same ∙ ap (λ (x : PairRow). in_state t.state x) a.same;
  stays = λ is. b.stays (ap (λ (x : PairRow). is_suspended x.state) (a.stays is) ∙ is) ∙ a.stays is;
  device = λ is. a.device (b.device is);
}

fresh : (r : PairRow) (state : PairState) → is_suspended r.state ≡ false → is_device_suspended state ≡ false → Mild r (in_state state r)
fresh r state none new = record {
  same = refl;
  stays = λ is. absurd (true≢false (sym is ∙ none));
  device = λ is. absurd (true≢false (sym is ∙ new));
}

mild_group : (group : FormedGroup) (r : PairRow) → Mild r (row_with_group group r)
mild_group group r = choose (shown_break r.control group.breaks) (is_shown_done group r) r.state refl
  where
    not_yet : (state : PairState) → r.state ≡ state → is_suspended state ≡ false → is_suspended r.state ≡ false
    not_yet state is none = ap (λ (q : PairState). is_suspended q) is ∙ none

    choose : (broken : Option Stamp) (done : Bool) (state : PairState) → r.state ≡ state → Mild r (row_in r (state_by_group broken done state))
    choose (Some time) done Pending is = fresh r (Suspended Control time) (not_yet Pending is refl) refl
    choose (Some time) done Copy is = fresh r (Suspended Control time) (not_yet Copy is refl) refl
    choose (Some time) done Duplex is = fresh r (Suspended Control time) (not_yet Duplex is refl) refl
    choose (Some time) done (Suspended cause at) is = mild_self r
    choose None true Pending is = fresh r Duplex (not_yet Pending is refl) refl
    choose None false Pending is = fresh r Copy (not_yet Pending is refl) refl
    choose None true Copy is = fresh r Duplex (not_yet Copy is refl) refl
    choose None false Copy is = mild_self r
    choose None done Duplex is = mild_self r
    choose None done (Suspended cause at) is = mild_self r

module _ (reach : FaultReach) (other : is_by_device reach.cause ≡ false) where
  mild_reached : (devices : List ℕ) (time : ℕ) (r : PairRow) → Mild r (reached_row reach devices time r)
  mild_reached devices time r = choose (reach.reaches devices r) (is_suspended r.state) refl
    where
      choose : (b c : Bool) → is_suspended r.state ≡ c → Mild r (cond b (cond c r (in_state (since reach.cause time) r)) r)
      choose true true is = mild_self r
      choose true false is = fresh r (since reach.cause time) is other
      choose false c is = mild_self r

  mild_reach : (time : ℕ) (marked : List ℕ) (r : PairRow) → Mild r (reach_row reach time marked r)
  mild_reach time [] r = mild_self r
  mild_reach time (d ∷ marked) r = mild_reached (d ∷ marked) time r

-- ---- what is told

device_suspends : (state : PairState) → is_device_suspended state ≡ true → is_suspended state ≡ true
device_suspends Pending is = absurd (true≢false (sym is))
device_suspends Copy is = absurd (true≢false (sym is))
device_suspends Duplex is = absurd (true≢false (sym is))
device_suspends (Suspended cause at) is = refl

forced : (a b : Bool) → (a && not b) ≡ false → a ≡ true → b ≡ true
forced true true e is = refl
forced true false e is = absurd (true≢false e)
forced false b e is = absurd (true≢false (sym is))

-- A row that isn't hit now is told by any mild change.
calm_told : (failed : List Bool) (time : ℕ) (r s : PairRow) → is_hit_now failed r ≡ false → Mild r s → IsTold failed time r s
calm_told failed time r s calm mild = record {
  same = mild.same;
  stays = λ is. ap (λ (x : PairRow). x.state) (mild.stays (device_suspends r.state is));
  live = λ is. choose (is_suspended r.state) refl is;
  hit = λ down none. absurd (true≢false (sym (forced (is_down failed r.device) (is_device_suspended r.state) calm down) ∙ none));
  by_fault = λ is. inl (mild.device is);
}
  where
    choose : (b : Bool) → is_suspended r.state ≡ b → is_suspended s.state ≡ false → b ≡ false
    choose true was is = absurd (true≢false (sym (ap (λ (x : PairRow). is_suspended x.state) (mild.stays was) ∙ was) ∙ is))
    choose false was is = refl

-- A row that is hit now is told once its device suspends it.
hit_told : (failed : List Bool) (r s : PairRow) (time : ℕ) → is_hit_now failed r ≡ true → Mild r s → IsTold failed time r (in_state (since Device time) s)
hit_told failed r s time hit mild = record {
  same = ap (λ (x : PairRow). in_state (since Device time) x) mild.same;
  stays = λ is. absurd (true≢false (sym is ∙ not-true (is_device_suspended r.state) parts.1));
  live = λ is. absurd (true≢false is);
  hit = λ down none. refl;
  by_fault = λ is. inr parts.0;
}
  where
    parts : (is_down failed r.device ≡ true) × (not (is_device_suspended r.state) ≡ true)
    parts = and_parts (is_down failed r.device) (not (is_device_suspended r.state)) hit

-- A row after mild changes is told by what was due, and by hits with their reach.
module _ (failed : List Bool) (reach : FaultReach) (other : is_by_device reach.cause ≡ false) (time : ℕ) where
  hits_told : (hit : List ℕ) (r s : PairRow) → Mild r s → is_among r.device hit ≡ is_hit_now failed r → IsTold failed time r (hits_row reach time hit s)
  hits_told [] r s mild is = calm_told failed time r s (sym is) mild
  hits_told (d ∷ hit) r s mild is = choose (is_among s.device (d ∷ hit)) refl
    where
      here : is_among s.device (d ∷ hit) ≡ is_hit_now failed r
      here = ap (λ (x : PairRow). is_among x.device (d ∷ hit)) mild.same ∙ is

      choose : (b : Bool) → is_among s.device (d ∷ hit) ≡ b → IsTold failed time r (reached_row reach (d ∷ hit) time (cond b (in_state (since Device time) s) s))
      choose true e = subst (λ (x : PairRow). IsTold failed time r x) (sym (held reach (d ∷ hit) time (in_state (since Device time) s) refl)) (hit_told failed r s time (sym here ∙ e) mild)
      choose false e = calm_told failed time r (reached_row reach (d ∷ hit) time s) (sym here ∙ e) (mild_then r s (reached_row reach (d ∷ hit) time s) mild (mild_reached reach other (d ∷ hit) time s))

  row_told : (marked hit : List ℕ) (r s : PairRow) → Mild r s → is_among r.device hit ≡ is_hit_now failed r → IsTold failed time r (told_row reach time marked hit s)
  row_told marked hit r s mild is = hits_told hit r (reach_row reach time marked s) (mild_then r s (reach_row reach time marked s) mild (mild_reach reach other time marked s)) is

tell_each : (failed : List Bool) (time : ℕ) (f : PairRow → PairRow) (rows : List PairRow) → ((i : ℕ) (r : PairRow) → slice_get rows i ≡ Some r → IsTold failed time r (f r)) → AreTold failed time rows (map f rows)
tell_each failed time f [] each = tt
tell_each failed time f (r ∷ rows) each = (each zero r refl, tell_each failed time f rows (λ i x at. each (suc i) x at))

pub after_marks_tell : (level : Level) (marked : List ℕ) (group : FormedGroup) (failed : List Bool) (rows : List PairRow) → devices_apart rows ≡ true → AreTold failed group.cut.0 rows (rows_after_mark level marked group failed rows)
after_marks_tell level marked group failed rows apart =
    let hit = hit_now failed rows in
    let reach = reach_of level rows in
    subst (λ (next : List PairRow). AreTold failed group.cut.0 rows next) (sym (told_after_group level group marked hit rows))
    (tell_each failed group.cut.0 (λ r. told_row reach group.cut.0 marked hit (row_with_group group r)) rows
    (λ i r at. row_told failed reach (reach_is_other level rows) group.cut.0 marked hit r (row_with_group group r) (mild_group group r) (among_hit failed rows i r apart at)))

pub records_tell : (level : Level) (group : FormedGroup) (failed : List Bool) (rows : List PairRow) → devices_apart rows ≡ true → AreTold failed group.cut.0 rows (rows_with_record level group failed rows)
records_tell level group failed rows apart = after_marks_tell level [] group failed rows apart

pub hits_tell : (level : Level) (time : ℕ) (failed : List Bool) (rows : List PairRow) → devices_apart rows ≡ true → AreTold failed time rows (rows_with_hits level time failed rows)
hits_tell level time failed rows apart =
    let hit = hit_now failed rows in
    let reach = reach_of level rows in
    subst (λ (next : List PairRow). AreTold failed time rows next) (sym (told_rows level time [] hit rows))
    (tell_each failed time (told_row reach time [] hit) rows (λ i r at. row_told failed reach (reach_is_other level rows) time [] hit r r (mild_self r) (among_hit failed rows i r apart at)))

pub marks_tell : (time : ℕ) (failed : List Bool) (rows : List PairRow) → devices_apart rows ≡ true → AreTold failed time rows (rows_marked time (hit_now failed rows) rows)
marks_tell time failed rows apart = tell_each failed time (hit_row hit time) rows (λ i r at. row_marked r (is_among r.device hit) (among_hit failed rows i r apart at))
  where
    hit : List ℕ
    hit = hit_now failed rows

    row_marked : (r : PairRow) (b : Bool) → b ≡ is_hit_now failed r → IsTold failed time r (cond b (in_state (since Device time) r) r)
    row_marked r true is = hit_told failed r r time (sym is) (mild_self r)
    row_marked r false is = calm_told failed time r r (sym is) (mild_self r)

-- ---- none is hit again

told_hit_no_more : (failed : List Bool) (time : ℕ) (r s : PairRow) → IsTold failed time r s → is_hit_now failed s ≡ false
told_hit_no_more failed time r s told = choose (is_down failed s.device) refl
  where
    suspended : (b : Bool) → is_device_suspended r.state ≡ b → is_down failed s.device ≡ true → is_device_suspended s.state ≡ true
    suspended true was down = ap (λ (q : PairState). is_device_suspended q) (told.stays was) ∙ was
    suspended false was down = ap (λ (q : PairState). is_device_suspended q) (told.hit (ap (λ (x : PairRow). is_down failed x.device) (sym told.same) ∙ down) was)

    choose : (b : Bool) → is_down failed s.device ≡ b → (b && not (is_device_suspended s.state)) ≡ false
    choose true is = ap (λ (q : Bool). not q) (suspended (is_device_suspended r.state) refl is)
    choose false is = refl

pub none_hit_again : (failed : List Bool) (time : ℕ) (rows next : List PairRow) → AreTold failed time rows next → hit_now failed next ≡ []
none_hit_again failed time [] [] told = refl
none_hit_again failed time [] (s ∷ next) told = absurd told
none_hit_again failed time (r ∷ rows) [] told = absurd told
none_hit_again failed time (r ∷ rows) (s ∷ next) told = choose (is_hit_now failed s) (told_hit_no_more failed time r s told.0) (none_hit_again failed time rows next told.1)
  where
    choose : (b : Bool) → b ≡ false → hit_now failed next ≡ [] → map (λ (x : PairRow). x.device) (cond b (s ∷ filter (is_hit_now failed) next) (filter (is_hit_now failed) next)) ≡ []
    choose true is rest = absurd (true≢false is)
    choose false is rest = rest

-- ---- only the failed ones are hit

pub only_failed : (d : ℕ) (failed : List Bool) (rows : List PairRow) → is_among d (hit_now failed rows) ≡ true → is_down failed d ≡ true
only_failed d failed [] among = absurd (true≢false (sym among))
only_failed d failed (r ∷ rows) among = choose (is_hit_now failed r) refl (only_failed d failed rows) among
  where
    by_row : (a b : Bool) → nat_eq r.device d ≡ a → is_hit_now failed r ≡ true → (b ≡ true → is_down failed d ≡ true) → (a || b) ≡ true → is_down failed d ≡ true
    by_row true b is hit rest either = ap (is_down failed) (sym (eqb-true r.device d is)) ∙ (and_parts (is_down failed r.device) (not (is_device_suspended r.state)) hit).0
    by_row false b is hit rest either = rest either

    choose : (c : Bool) → is_hit_now failed r ≡ c → (is_among d (hit_now failed rows) ≡ true → is_down failed d ≡ true)
        → is_among d (map (λ (x : PairRow). x.device) (cond c (r ∷ filter (is_hit_now failed) rows) (filter (is_hit_now failed) rows))) ≡ true → is_down failed d ≡ true
    choose true hit rest is = by_row (nat_eq r.device d) (is_among d (hit_now failed rows)) refl hit rest is
    choose false hit rest is = rest is
