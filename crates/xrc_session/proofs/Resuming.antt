-- A row becomes pending again, and its volume is carried again.
use Rattle.std.proofs.Common.{◌≡◌, ℕ, ◌<◌, true, ◌||◌, List, Option, refl, sym, ap, ◌∙◌, true≢false}
use Rattle.std.specs.List.{list_any}
use Rattle.crash_plant.specs.Moments.{PlantState}
use Rattle.pair_table.specs.declared.row.PairRow.{PairRow}
use Rattle.pair_table.specs.declared.row.PairState.{PairState}
use Rattle.pair_table.specs.Tables.{resumed_in, with_resumed}
use Rattle.group_state.specs.declared.volume.Volume.{Volume}
use Rattle.group_state.specs.Volumes.{owed, passes, volume_of, wants}
use Rattle.group_state.specs.Controls.{ControlState, resumed}
use Rattle.group_state.specs.Groups.{control_at, with_control}
use Rattle.group_state.specs.Machine.Call.{Resume}
use Rattle.group_state.specs.Machine.Reply.{Owed}
use Rattle.group_state.specs.SoundStates.{passes_or_none}
use Rattle.pair_table.specs.States.{is_device_suspended, is_duplex}
use Rattle.fed_logs.proofs.Keeping.{steps_keep}
use Rattle.fed_logs.specs.Feeds.{truth_of}
use Rattle.fed_logs.specs.Logs.{is_of_size}
use Rattle.fed_logs.specs.Moves.{HasRowIn, IsDuplex}
use Rattle.mover.specs.OwedTracks.{IsFailed, IsUnfailed, held_by_choice, is_copied_to, is_mapped, is_owed, is_volume_kept}
use Rattle.mover.proofs.Pairs.{Among, among_of, apart_still}
use Rattle.xrc_session.specs.EpochPauses.{Between, MayResume, StandsBetween}
use Rattle.xrc_session.specs.CarriedLaws.{ResumedRowsStand}
use Rattle.xrc_session.proofs.Calls.{keeps_resume, resume_itself, resume_other}
use Rattle.xrc_session.proofs.CarriedRows.{changed_held, changed_others, itself_there}
use Rattle.xrc_session.proofs.Standing.{Changes, stands_there}
use Rattle.xrc_session.proofs.KeptRows.{dropped_suspended, kept_resumed_row, standing_rows_are_kept}
use Rattle.xrc_session.proofs.Knowing.{base, below_changed, dropped_kept, is_other, none_known, owed_before, own_row, resumed_owes, resumed_size, same, sized_changed}

module _ (start : PlantState) (b : Between) (r : PairRow) (group : Option (List ℕ)) (st : StandsBetween start b) (may : MayResume b r) where
  abbrev k : ℕ
  k = r.control

  abbrev v : ℕ
  v = r.volume

  abbrev c : ControlState
  c = control_at b.group k

  abbrev rows : List PairRow
  rows = b.point.rows

  abbrev again : List PairRow
  again = with_resumed r.device group rows

  there : Among r rows
  there = among_of rows r may.among

  is_pending : (is : PairState → Type 0) (has : HasRowIn is k v again) → has.row ≡ resumed_in group r
  is_pending is has = own_row start b st r (resumed_in group) (λ s. refl) may.among is has

  owed_resumed : (has : HasRowIn IsUnfailed k v again) → is_volume_kept v (resumed v c) ≡ true → (x : ℕ) → x < b.size k v → b.excepted has.row.device x ≡ true → is_owed v x (resumed v c) ≡ true
  owed_resumed has kept x low e =
      let was = owed_before start b st r may.among (dropped_kept (volume_of v c.volumes) may.may.1) x low (λ is. ap (λ (s : PairRow). b.excepted s.device x) (sym (is_pending IsUnfailed has)) ∙ e) in
      ap (λ (o : Option Volume). (passes (wants x) o || list_any (is_copied_to v x) c.queue.waiting) || passes (is_mapped x) o) (resume_itself v c)
      ∙ resumed_owes x (volume_of v c.volumes) may.may.1 (list_any (is_copied_to v x) c.queue.waiting) was

  resumes : Changes start b k v (resumed v) again b.done
  resumes = record {
    low = may.may.0;
    others = changed_others r (resumed_in group) (λ s. refl) rows st.rows.apart there;
    apart = apart_still rows again (same start b st r (resumed_in group) (λ s. refl) may.among) st.rows.apart;
    below = below_changed start b st r (resumed_in group) (λ s. refl) may.among;
    sized_rows = sized_changed start b st r (resumed_in group) (λ s. refl) may.among;
    change_other = λ u apart. resume_other v u c apart;
    phase = λ d. refl;
    sized = ap (passes_or_none (is_of_size (b.size k v))) (resume_itself v c) ∙ resumed_size (b.size k v) (volume_of v c.volumes) ∙ (base start b st).sized k v may.may.0;
    keeps = keeps_resume b.group k v may.may.0 may.may.1 st.keeps;
    all = λ a was. steps_keep (truth_of b.run.traces) (held_by_choice start a rows) b.group (with_control k (resumed v) b.group) (Resume k v) (Owed (owed v c.volumes)) st.keeps may.may (refl, refl) (λ e. tt) (st.rows.holds a was).holds;
    live = λ has. may.counted;
    duplex = λ has. true≢false (sym (ap is_duplex has.state) ∙ ap (λ (s : PairRow). is_duplex s.state) (is_pending IsDuplex has));
    plans = λ j w known. (known, is_other k v b.done (none_known start b st k v may.may.1) j w known);
    still = λ j w other known. known;
    rowed = λ kept. itself_there r (resumed_in group) (λ s. refl) rows st.rows.apart there;
    owed = owed_resumed;
    failed = λ has kept x low. absurd (true≢false (sym has.state ∙ ap (λ (s : PairRow). is_device_suspended s.state) (is_pending IsFailed has)));
    carried = λ s has. ((kept_resumed_row b.group rows r (standing_rows_are_kept start b st) may.among group (dropped_suspended start b r st may.among may.may.1) may.counted).each s has).own;
    held = λ a x settled. changed_held r (resumed_in group) (λ s. refl) rows st.rows.apart there start a x;
  }

pub resumed_rows_stand : (start : PlantState) → ResumedRowsStand start
resumed_rows_stand start b r group st may = stands_there start b r.control r.volume (resumed r.volume) (with_resumed r.device group b.point.rows) b.done st (resumes start b r group st may)
