-- What is known of a volume and its row between epochs.
use Rattle.std.proofs.Common.{◌≡◌, ℕ, ◌<◌, ◌≤◌, Bool, true, false, not, nat_eq, ◌&&◌, ◌||◌, List, map, length, Option, Some, None, refl, sym, ap, subst, ◌∙◌, arith, true≢false}
use Rattle.std.specs.List.{Contains}
use Rattle.std.specs.Option.{option_map}
use Rattle.std.proofs.lemmas.Bool.{eqb-true}
use Rattle.std.proofs.lemmas.List.{length-replicate}
use Rattle.change_map.specs.Sets.{has_track}
use Rattle.crash_plant.specs.Moments.{PlantState}
use Rattle.pair_table.specs.declared.row.PairRow.{PairRow}
use Rattle.pair_table.specs.declared.row.PairState.{PairState}
use Rattle.pair_table.specs.Tables.{are_below, row_changed}
use Rattle.group_state.specs.declared.volume.Volume.{Volume}
use Rattle.group_state.specs.Volumes.{passes, resumed_volume, volume_of, wants}
use Rattle.group_state.specs.Groups.{control_at}
use Rattle.group_state.specs.SoundStates.{passes_or_none}
use Rattle.pair_table.specs.States.{is_device_suspended}
use Rattle.consistency.specs.Stages.{tracks_of_row}
use Rattle.fed_logs.specs.Logs.{BeginsLog, is_of_size}
use Rattle.fed_logs.specs.Moves.{HasRowIn, Plans}
use Rattle.mover.specs.OwedTracks.{held_by_choice, is_mapped, is_owed, is_volume_kept}
use Rattle.mover.proofs.Ending.{below_pairs}
use Rattle.mover.proofs.Pairs.{among_of, contains_of, pair_before, pairs_of}
use Rattle.xrc_session.specs.EpochPauses.{Between, StandsBetween}
use Rattle.xrc_session.proofs.CarriedRows.{IsOther, LeavesPair, changed_own, changed_pairs}

-- ---- flags

pub not_true : (b : Bool) → not b ≡ true → b ≡ false
not_true true e = absurd (true≢false (sym e))
not_true false e = refl

-- where something is so of other volumes alone
pub is_other : (k v : ℕ) (known : Plans) → (known k v ≡ true → ⊥) → (j w : ℕ) → known j w ≡ true → IsOther k v j w
is_other k v known none j w is = choose (nat_eq k j) refl (nat_eq v w) refl
  where
    choose : (a : Bool) → nat_eq k j ≡ a → (b : Bool) → nat_eq v w ≡ b → (a && b) ≡ false
    choose false at b there = refl
    choose true at false there = refl
    choose true at true there = absurd (none (subst (λ (i : ℕ). known i v ≡ true) (sym (eqb-true k j at)) (subst (λ (i : ℕ). known j i ≡ true) (sym (eqb-true v w there)) is)))

-- ---- volumes

pub passes_map : (test : Volume → Bool) (change : Volume → Volume) (o : Option Volume) → passes test (option_map change o) ≡ passes (λ u. test (change u)) o
passes_map test change None = refl
passes_map test change (Some u) = refl

pub dropped_kept : (o : Option Volume) → passes (λ u. not u.carried) o ≡ true → passes (λ u. true) o ≡ true
dropped_kept None gone = gone
dropped_kept (Some u) gone = refl

pub never_both : (o : Option Volume) → passes (λ u. u.carried) o ≡ true → passes (λ u. not u.carried) o ≡ true → ⊥
never_both None carried gone = true≢false (sym carried)
never_both (Some u) carried gone = true≢false (sym gone ∙ ap not carried)

pub resumed_size : (n : ℕ) (o : Option Volume) → passes_or_none (is_of_size n) (option_map resumed_volume o) ≡ passes_or_none (is_of_size n) o
resumed_size n None = refl
resumed_size n (Some u) = ap (λ (m : ℕ). nat_eq m n) (length-replicate (length u.map) false)

-- What is owed of a dropped volume is wanted of it once it is resumed, or its copy waits.
pub resumed_owes : (x : ℕ) (o : Option Volume) → passes (λ u. not u.carried) o ≡ true → (copy : Bool) → ((passes (wants x) o || copy) || passes (is_mapped x) o) ≡ true
    → ((passes (wants x) (option_map resumed_volume o) || copy) || passes (is_mapped x) (option_map resumed_volume o)) ≡ true
resumed_owes x None gone copy is = absurd (true≢false (sym gone))
resumed_owes x (Some u) gone copy is = by u.carried (has_track u.plan.wanted x) (has_track u.map x) copy gone is
  where
    by : (carried wanted mapped copy : Bool) → not carried ≡ true → (((carried && wanted) || copy) || (not carried && mapped)) ≡ true → ((mapped || copy) || false) ≡ true
    by true wanted mapped copy gone is = absurd (true≢false (sym gone))
    by false wanted true copy gone is = refl
    by false wanted false true gone is = refl
    by false wanted false false gone is = absurd (true≢false (sym is))

-- ---- what is known of a volume and its row between epochs

module _ (start : PlantState) (b : Between) (st : StandsBetween start b) where
  pub base : BeginsLog b.size b.run.traces (held_by_choice start st.some.0 b.point.rows) b.group b.point.time b.point.rows b.done
  base = st.rows.holds st.some.0 st.some.1

  -- a plan that is known to be done is of a volume that is carried
  pub none_known : (k v : ℕ) → passes (λ u. not u.carried) (volume_of v (control_at b.group k).volumes) ≡ true → b.done k v ≡ true → ⊥
  none_known k v gone known = never_both (volume_of v (control_at b.group k).volumes) (base.stand.plans k v known).1.carried gone

  -- a track of a row is owed where it is excepted, or where the row failed
  pub owed_before : (r : PairRow) → Contains b.point.rows r → is_volume_kept r.volume (control_at b.group r.control) ≡ true → (x : ℕ) → x < b.size r.control r.volume → (is_device_suspended r.state ≡ false → b.excepted r.device x ≡ true)
      → is_owed r.volume x (control_at b.group r.control) ≡ true
  owed_before r among kept x low e = choose (is_device_suspended r.state) refl
    where
      choose : (t : Bool) → is_device_suspended r.state ≡ t → is_owed r.volume x (control_at b.group r.control) ≡ true
      choose false is = st.rows.owed r.control r.volume (record { row = r; among = among; control = refl; volume = refl; state = is }) kept x low (e is)
      choose true is = st.rows.failed r.control r.volume (record { row = r; among = among; control = refl; volume = refl; state = is }) kept x low

  -- rows with one that is changed, but for its pair
  module _ (r : PairRow) (to : PairRow → PairRow) (leaves : LeavesPair to) (among : Contains b.point.rows r) where
    abbrev next : List PairRow
    next = map (row_changed r.device to) b.point.rows

    pub same : pairs_of next ≡ pairs_of b.point.rows
    same = changed_pairs r to leaves b.point.rows st.rows.apart (among_of b.point.rows r among)

    pub below_changed : are_below start.volumes next ≡ true
    below_changed = sym (below_pairs start.volumes next) ∙ ap (are_below start.volumes) same ∙ below_pairs start.volumes b.point.rows ∙ st.rows.below

    pub sized_changed : (s : PairRow) → Contains next s → tracks_of_row s ≤ b.size s.control s.volume
    sized_changed s there =
        let before = pair_before s b.point.rows next same (among_of next s there) in
        let m = st.rows.sized before.row (contains_of before.row b.point.rows before.among) in
        let tracks : tracks_of_row before.row ≡ tracks_of_row s = ap tracks_of_row before.pair in
        let at : b.size before.row.control before.row.volume ≡ b.size s.control s.volume = ap (λ (t : PairRow). b.size t.control t.volume) before.pair in
        omega (arith, m, tracks, at)

    -- the row of the volume is the row, changed
    pub own_row : (is : PairState → Type 0) (has : HasRowIn is r.control r.volume next) → has.row ≡ to r
    own_row is has = changed_own r to leaves b.point.rows st.rows.apart (among_of b.point.rows r among) is has
