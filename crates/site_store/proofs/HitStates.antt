-- The states that hits give rows, as those of records and marks.
use Rattle.std.proofs.Common.{◌≡◌, ℕ, suc, ◌<◌, ◌&&◌, ◌||◌, Bool, true, false, cond, List, [], ◌∷◌, Option, Some, None, refl, sym, ap, ◌∙◌, arith}
use Rattle.std.specs.List.{Contains}
use Rattle.std.specs.Prelude.{nat_lt, not}
use Rattle.std.proofs.lemmas.Bool.{and_parts, ltb-true}
use Rattle.tod_stamp.specs.declared.stamp.Stamp.{Stamp}
use Rattle.pair_table.specs.declared.level.Level.{Level}
use Rattle.pair_table.specs.declared.level.Level.TheVariants.{Volume as VolumeLevel, Session as SessionLevel, Group as GroupLevel}
use Rattle.pair_table.specs.declared.row.PairRow.{PairRow}
use Rattle.pair_table.specs.declared.row.PairState.{PairState}
use Rattle.pair_table.specs.declared.row.SuspendCause.{SuspendCause}
use Rattle.pair_table.specs.declared.row.SuspendCause.TheVariants.{Device}
use Rattle.pair_table.specs.Devices.{is_among}
use Rattle.pair_table.specs.Rows.{is_suspended}
use Rattle.pair_table.specs.Tables.{are_below}
use Rattle.row_changes.specs.Changes.{reach_of, since}
use Rattle.record_rows.specs.ChangedRows.{later_state, rows_in_states, state_told, state_with_record}
use Rattle.record_rows.specs.GroupRows.{row_in, state_with_group}
use Rattle.record_rows.specs.Hits.{hit_now, is_reached}
use Rattle.record_rows.specs.Records.{rows_after_mark, rows_with_hits}
use Rattle.pending_queue.specs.Groups.{FormedGroup}
use Rattle.record_rows.proofs.Changed.{after_marks_change, hits_change}
use Rattle.site_store.specs.declared.hits.Hits.{Hits}
use Rattle.site_store.specs.Hits.{AreHits, is_hit_by, is_reached_by, next_by_hits, state_by_hits, state_or, with_group_and_hits, with_hits}

-- ---- whom hits reach

-- Changes of its state leave whether a row is reached.
reached_in : (level : Level) (all : List PairRow) (devices : List ℕ) (r : PairRow) (o : Option PairState) → is_reached (reach_of level all) devices (row_in r o) ≡ is_reached (reach_of level all) devices r
reached_in level all devices r None = refl
reached_in level all [] r (Some state) = refl
reached_in VolumeLevel all (d ∷ devices) r (Some state) = refl
reached_in SessionLevel all (d ∷ devices) r (Some state) = refl
reached_in GroupLevel all (d ∷ devices) r (Some state) = refl

device_in : (r : PairRow) (o : Option PairState) → (row_in r o).device ≡ r.device
device_in r (Some state) = refl
device_in r None = refl

-- ---- one row

by_flags : (h q : Bool) (cause : SuspendCause) (time : Stamp) (state : PairState) → state_by_hits h q cause time state ≡ cond h (Some (since Device time.0)) (cond (q && not (is_suspended state)) (Some (since cause time.0)) None)
by_flags true q cause time state = refl
by_flags false false cause time state = refl
by_flags false true cause time state = by_state (is_suspended state)
  where
    by_state : (b : Bool) → cond b None (Some (since cause time.0)) ≡ cond (not b) (Some (since cause time.0)) None
    by_state true = refl
    by_state false = refl

contains_first : (r : PairRow) (rows : List PairRow) → Contains (r ∷ rows) r
contains_first r rows = (0, omega arith, refl)

contains_later : (r s : PairRow) (rows : List PairRow) → Contains rows s → Contains (r ∷ rows) s
contains_later r s rows has = (suc has.0, (let low = has.1 in omega (arith, low)), has.2)

module _ (level : Level) (time : Stamp) (failed : List Bool) (marked : List ℕ) (all : List PairRow) (hits : Hits) (are : AreHits level time failed marked all hits) where
  -- Hits change a row, in its state or another, as a record tells it that comes after a mark with these hits, or with none.
  pub told_state : (r : PairRow) (o : Option PairState) → Contains all r → r.device < 64 → with_hits hits (row_in r o) ≡ state_told (reach_of level all) time.0 marked (hit_now failed all) (row_in r o)
  told_state r o has lt =
      let s = row_in r o in
      let hit = hit_now failed all in
      let reach = reach_of level all in
      let same : s.device ≡ r.device = device_in r o in
      let one : is_hit_by hits s.device ≡ is_among s.device hit = ap (is_hit_by hits) same ∙ are.devices r.device lt ∙ ap (λ (d : ℕ). is_among d hit) (sym same) in
      let flag : is_reached_by hits s.device ≡ (is_reached reach marked s || is_reached reach hit s) = ap (is_reached_by hits) same ∙ are.reached r has ∙ (λ i. sym (reached_in level all marked r o) i || sym (reached_in level all hit r o) i) in
      by_flags (is_hit_by hits s.device) (is_reached_by hits s.device) hits.cause hits.time s.state
      ∙ (λ i. cond (one i) (Some (since Device (are.time_is i).0)) (cond (flag i && not (is_suspended s.state)) (Some (since (are.cause_is i) (are.time_is i).0)) None))

  -- ---- all rows

  in_states_told : (rows : List PairRow) → ((r : PairRow) → Contains rows r → Contains all r) → are_below 64 rows ≡ true
      → rows_in_states (with_hits hits) rows ≡ rows_in_states (state_told (reach_of level all) time.0 marked (hit_now failed all)) rows
  in_states_told [] within below = refl
  in_states_told (r ∷ rows) within below =
      let parts = and_parts (nat_lt r.device 64) (are_below 64 rows) below in
      λ i. row_in r (told_state r None (within r (contains_first r rows)) (ltb-true r.device 64 parts.0) i) ∷ in_states_told rows (λ s has. within s (contains_later r s rows has)) parts.1 i

-- The rows after hits alone.
pub hits_make_rows : (level : Level) (time : Stamp) (failed : List Bool) (rows : List PairRow) (hits : Hits) → AreHits level time failed [] rows hits → are_below 64 rows ≡ true → rows_in_states (with_hits hits) rows ≡ rows_with_hits level time.0 failed rows
hits_make_rows level time failed rows hits are below = in_states_told level time failed [] rows hits are rows (λ r has. has) below ∙ sym (hits_change level time.0 failed rows)

-- ---- the rows after a group

with_row_in : (hits : Hits) (r : PairRow) (o : Option PairState) → next_by_hits hits r.device (state_or r.state o) ≡ with_hits hits (row_in r o)
with_row_in hits r (Some state) = refl
with_row_in hits r None = refl

in_states_logged : (level : Level) (group : FormedGroup) (failed : List Bool) (marked : List ℕ) (all rows : List PairRow) (hits : Hits) → AreHits level group.cut failed marked all hits → ((r : PairRow) → Contains rows r → Contains all r) → are_below 64 rows ≡ true
    → rows_in_states (with_group_and_hits group hits) rows ≡ rows_in_states (state_with_record (reach_of level all) marked (hit_now failed all) group) rows
in_states_logged level group failed marked all [] hits are within below = refl
in_states_logged level group failed marked all (r ∷ rows) hits are within below =
    let parts = and_parts (nat_lt r.device 64) (are_below 64 rows) below in
    let grouped = state_with_group group r in
    let told = told_state level group.cut failed marked all hits are r grouped (within r (contains_first r rows)) (ltb-true r.device 64 parts.0) in
    λ i. row_in r (later_state ((with_row_in hits r grouped ∙ told) i) grouped) ∷ in_states_logged level group failed marked all rows hits are (λ s has. within s (contains_later r s rows has)) parts.1 i

-- The rows after a group's record, which may come after a mark with these hits.
pub group_makes_rows : (level : Level) (group : FormedGroup) (failed : List Bool) (marked : List ℕ) (rows : List PairRow) (hits : Hits) → AreHits level group.cut failed marked rows hits → are_below 64 rows ≡ true
    → rows_in_states (with_group_and_hits group hits) rows ≡ rows_after_mark level marked group failed rows
group_makes_rows level group failed marked rows hits are below = in_states_logged level group failed marked rows rows hits are (λ r has. has) below ∙ sym (after_marks_change level marked group failed rows)
