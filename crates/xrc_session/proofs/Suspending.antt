-- A row is suspended, and its volume is dropped.
use Rattle.std.proofs.Common.{◌≡◌, ℕ, ◌<◌, Bool, true, false, not, nat_eq, ◌&&◌, List, refl, sym, ap, ◌∙◌, arith, true≢false}
use Rattle.std.proofs.lemmas.Bool.{and_from, and_parts, or_right}
use Rattle.crash_plant.specs.Moments.{PlantState}
use Rattle.pair_table.specs.declared.row.PairRow.{PairRow}
use Rattle.pair_table.specs.declared.row.PairState.{PairState}
use Rattle.pair_table.specs.Rows.{is_suspended}
use Rattle.pair_table.specs.Tables.{in_state, with_state}
use Rattle.pair_table.proofs.PutLaws.{number_sym}
use Rattle.pending_queue.specs.Entries.{entry_tracks}
use Rattle.group_state.specs.Volumes.{dropped_volume, passes, volume_of}
use Rattle.group_state.specs.Controls.{ControlState, dropped}
use Rattle.group_state.specs.Groups.{control_at, with_control}
use Rattle.group_state.specs.Machine.Call.{Drop}
use Rattle.group_state.specs.Machine.Reply.{Made}
use Rattle.group_state.specs.SoundStates.{passes_or_none}
use Rattle.pair_table.specs.States.{is_device_suspended}
use Rattle.fed_logs.proofs.Keeping.{steps_keep}
use Rattle.fed_logs.specs.Feeds.{truth_of}
use Rattle.fed_logs.specs.Logs.{IsPlanDone, is_of_size}
use Rattle.fed_logs.specs.Moves.{HasRowIn, IsDuplex, IsLive, plans_without}
use Rattle.fed_logs.proofs.Standing.{same_count, sized_drop}
use Rattle.mover.specs.OwedTracks.{IsFailed, IsUnfailed, held_by_choice, is_mapped, is_owed, is_to_be_copied, is_volume_kept}
use Rattle.mover.proofs.Copying.{dropped_mapped, drops_later, kept_dropped}
use Rattle.mover.proofs.Pairs.{Among, among_of, apart_still}
use Rattle.xrc_session.specs.EpochPauses.{Between, MaySuspend, StandsBetween}
use Rattle.xrc_session.specs.CarriedLaws.{SuspendedRowsStand}
use Rattle.xrc_session.proofs.Calls.{drop_itself, drop_other, keeps_drop, own_is}
use Rattle.xrc_session.proofs.CarriedRows.{IsOther, changed_held, changed_others, itself_there}
use Rattle.xrc_session.proofs.Standing.{Changes, stands_there}
use Rattle.xrc_session.proofs.KeptRows.{kept_dropped_row, standing_rows_are_kept}
use Rattle.xrc_session.proofs.Knowing.{base, below_changed, not_true, owed_before, own_row, passes_map, same, sized_changed}

module _ (start : PlantState) (b : Between) (r : PairRow) (state : PairState) (all : Bool) (st : StandsBetween start b) (may : MaySuspend b r state all) where
  abbrev k : ℕ
  k = r.control

  abbrev v : ℕ
  v = r.volume

  abbrev c : ControlState
  c = control_at b.group k

  abbrev rows : List PairRow
  rows = b.point.rows

  abbrev suspended : List PairRow
  suspended = with_state r.device state rows

  there : Among r rows
  there = among_of rows r may.among

  plan : all ≡ false → IsPlanDone v c
  plan is = ((base start b st).stand.plans k v (may.known is)).1

  sized_before : passes_or_none (is_of_size (b.size k v)) (volume_of v c.volumes) ≡ true
  sized_before = (base start b st).sized k v may.may

  kept_before : is_volume_kept v (dropped v all c) ≡ true → is_volume_kept v c ≡ true
  kept_before kept = sym (kept_dropped v all v c) ∙ kept

  is_state : (is : PairState → Type 0) (has : HasRowIn is k v suspended) → has.row ≡ in_state state r
  is_state is has = own_row start b st r (in_state state) (λ s. refl) may.among is has

  never_live : (is : PairState → Type 0) (has : HasRowIn is k v suspended) → is_suspended has.row.state ≡ false → ⊥
  never_live is has live = true≢false (sym may.suspends ∙ ap (λ (s : PairRow). is_suspended s.state) (sym (is_state is has)) ∙ live)

  owed_after : (has : HasRowIn IsUnfailed k v suspended) → is_volume_kept v (dropped v all c) ≡ true → (x : ℕ) → x < b.size k v → b.excepted has.row.device x ≡ true → is_owed v x (dropped v all c) ≡ true
  owed_after has kept x low e =
      drops_later (b.size k v) v all v x c low sized_before plan
      (λ was. owed_before start b st r may.among was x low (λ is. ap (λ (s : PairRow). b.excepted s.device x) (sym (is_state IsUnfailed has)) ∙ e)) kept

  all_tracks : (t : Bool) → all ≡ t → t ≡ true → (x : ℕ) → x < b.size k v → is_volume_kept v c ≡ true → is_owed v x (dropped v all c) ≡ true
  all_tracks false is e x low kept = absurd (true≢false (sym e))
  all_tracks true is e x low kept =
      or_right (is_to_be_copied v x (dropped v all c)) (passes (is_mapped x) (volume_of v (dropped v all c).volumes))
      (ap (λ (t : Bool). passes (is_mapped x) (volume_of v (dropped v t c).volumes)) is
      ∙ ap (passes (is_mapped x)) (drop_itself v true c)
      ∙ passes_map (is_mapped x) (dropped_volume true (entry_tracks v c.queue.waiting)) (volume_of v c.volumes)
      ∙ dropped_mapped (b.size k v) x (entry_tracks v c.queue.waiting) low (volume_of v c.volumes) sized_before kept)

  known_other : (j w : ℕ) → plans_without k v b.done j w ≡ true → (b.done j w ≡ true) × IsOther k v j w
  known_other j w known =
      let p = and_parts (b.done j w) (not (nat_eq j k && nat_eq w v)) known in
      (p.0, ap (λ (t : Bool). t && nat_eq v w) (number_sym k j) ∙ ap (λ (t : Bool). nat_eq j k && t) (number_sym v w) ∙ not_true (nat_eq j k && nat_eq w v) p.1)

  suspends : Changes start b k v (dropped v all) suspended (plans_without k v b.done)
  suspends = record {
    low = may.may;
    others = changed_others r (in_state state) (λ s. refl) rows st.rows.apart there;
    apart = apart_still rows suspended (same start b st r (in_state state) (λ s. refl) may.among) st.rows.apart;
    below = below_changed start b st r (in_state state) (λ s. refl) may.among;
    sized_rows = sized_changed start b st r (in_state state) (λ s. refl) may.among;
    change_other = λ u apart. drop_other v u all c apart;
    phase = λ d. refl;
    sized =
        ap (λ (d : ControlState). passes_or_none (is_of_size (b.size k v)) (volume_of v d.volumes)) (sym (own_is b.group k (dropped v all) may.may))
        ∙ sized_drop b.size b.group k v all (base start b st).sized k v (let low = may.may in omega (arith, low, same_count b.group k (dropped v all)));
    keeps = keeps_drop b.group k v all may.may st.keeps;
    all = λ a was. steps_keep (truth_of b.run.traces) (held_by_choice start a rows) b.group (with_control k (dropped v all) b.group) (Drop k v all) Made st.keeps may.may (refl, refl) (λ e is x. (plan is).unwanted x) (st.rows.holds a was).holds;
    live = λ has. absurd (never_live IsLive has has.state);
    duplex = λ has. never_live IsDuplex has (ap is_suspended has.state);
    plans = known_other;
    still = λ j w other known. and_from (b.done j w) (not (nat_eq j k && nat_eq w v)) known
        (ap not (ap (λ (t : Bool). t && nat_eq w v) (number_sym j k) ∙ ap (λ (t : Bool). nat_eq k j && t) (number_sym w v) ∙ other));
    rowed = λ kept. itself_there r (in_state state) (λ s. refl) rows st.rows.apart there;
    owed = owed_after;
    failed = λ has kept x low.
        let is : is_device_suspended state ≡ true = ap (λ (s : PairRow). is_device_suspended s.state) (sym (is_state IsFailed has)) ∙ has.state in
        all_tracks all refl (may.failed is) x low (kept_before kept);
    carried = λ s has. ((kept_dropped_row b.group rows r (standing_rows_are_kept start b st) may.among state all may.suspends).each s has).own;
    held = λ a x settled. changed_held r (in_state state) (λ s. refl) rows st.rows.apart there start a x;
  }

pub suspended_rows_stand : (start : PlantState) → SuspendedRowsStand start
suspended_rows_stand start b r state all st may = stands_there start b r.control r.volume (dropped r.volume all) (with_state r.device state b.point.rows) (plans_without r.control r.volume b.done) st (suspends start b r state all st may)
