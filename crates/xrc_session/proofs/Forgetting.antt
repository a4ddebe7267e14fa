-- A row is taken out, and its volume is forgotten.
use Rattle.std.proofs.Common.{◌≡◌, ℕ, true, not, nat_lt, List, refl, sym, ap, ◌∙◌, true≢false}
use Rattle.std.proofs.lemmas.List.Elements.{All-get_or}
use Rattle.crash_plant.specs.Moments.{PlantState}
use Rattle.pair_table.specs.declared.row.PairRow.{PairRow}
use Rattle.pair_table.specs.declared.row.PairState.{PairState}
use Rattle.pair_table.specs.Tables.{is_of, without_row}
use Rattle.pair_table.proofs.TableLaws.{apart-filter}
use Rattle.group_state.specs.Volumes.{passes}
use Rattle.group_state.specs.Controls.{ControlState, forgotten, new_control}
use Rattle.group_state.specs.Groups.{control_at, with_control}
use Rattle.group_state.specs.Machine.Call.{Forget}
use Rattle.group_state.specs.Machine.Reply.{Made}
use Rattle.group_state.specs.SoundStates.{Sound, are_distinct, passes_or_none}
use Rattle.group_state.proofs.SoundLaws.{all_filter}
use Rattle.fed_logs.specs.ToldTracks.{is_track_settled}
use Rattle.fed_logs.proofs.Keeping.{steps_keep}
use Rattle.fed_logs.specs.Feeds.{truth_of}
use Rattle.fed_logs.specs.Logs.{is_of_size}
use Rattle.fed_logs.specs.Moves.{HasRowIn, IsDuplex, IsLive}
use Rattle.mover.specs.OwedTracks.{IsFailed, IsUnfailed, held_by_choice}
use Rattle.mover.proofs.Pairs.{Among, among_of, contains_of}
use Rattle.xrc_session.specs.EpochPauses.{Between, MayForget, StandsBetween}
use Rattle.xrc_session.specs.CarriedLaws.{ForgottenRowsStand}
use Rattle.xrc_session.proofs.Calls.{forget_itself, forget_other, keeps_forget}
use Rattle.xrc_session.proofs.CarriedRows.{among_kept, without_others, without_own}
use Rattle.xrc_session.proofs.Standing.{Changes, stands_there}
use Rattle.xrc_session.proofs.KeptRows.{dropped_suspended, kept_forgotten_row, standing_rows_are_kept}
use Rattle.xrc_session.proofs.Knowing.{is_other, none_known}

module _ (start : PlantState) (b : Between) (r : PairRow) (st : StandsBetween start b) (may : MayForget b r) where
  abbrev k : ℕ
  k = r.control

  abbrev v : ℕ
  v = r.volume

  abbrev c : ControlState
  c = control_at b.group k

  abbrev rows : List PairRow
  rows = b.point.rows

  abbrev fewer : List PairRow
  fewer = without_row r.device rows

  there : Among r rows
  there = among_of rows r may.among

  distinct : are_distinct c.volumes ≡ true
  distinct = (All-get_or Sound b.group.controls k (new_control 0 0 0) may.may.0 st.keeps.sound).distinct

  gone : (is : PairState → Type 0) → HasRowIn is k v fewer → ⊥
  gone is has = without_own r rows st.rows.apart there is has

  forgets : Changes start b k v (forgotten v) fewer b.done
  forgets = record {
    low = may.may.0;
    others = without_others r rows st.rows.apart there;
    apart = apart-filter (λ s. not (is_of r.device s)) rows st.rows.apart;
    below = all_filter (λ (s : PairRow). nat_lt s.device start.volumes) (λ s. not (is_of r.device s)) rows st.rows.below;
    sized_rows = λ s has. st.rows.sized s (contains_of s rows (among_kept (λ t. not (is_of r.device t)) s rows (among_of fewer s has)).0);
    change_other = λ u apart. forget_other v u c distinct apart;
    phase = λ d. refl;
    sized = ap (passes_or_none (is_of_size (b.size k v))) (forget_itself v c distinct);
    keeps = keeps_forget b.group k v may.may.0 may.may.1 st.keeps;
    all = λ a was. steps_keep (truth_of b.run.traces) (held_by_choice start a rows) b.group (with_control k (forgotten v) b.group) (Forget k v) Made st.keeps may.may (refl, refl) (λ e. tt) (st.rows.holds a was).holds;
    live = λ has. absurd (gone IsLive has);
    duplex = λ has. gone IsDuplex has;
    plans = λ j w known. (known, is_other k v b.done (none_known start b st k v may.may.1) j w known);
    still = λ j w other known. known;
    rowed = λ kept. absurd (true≢false (sym kept ∙ ap (passes (λ u. true)) (forget_itself v c distinct)));
    owed = λ has kept x low e. absurd (gone IsUnfailed has);
    failed = λ has kept x low. absurd (gone IsFailed has);
    carried = λ s has. ((kept_forgotten_row b.group rows r (standing_rows_are_kept start b st) may.among (dropped_suspended start b r st may.among may.may.1)).each s has).own;
    held = λ a x settled. absurd (true≢false (sym settled ∙ ap (passes (is_track_settled x)) (forget_itself v c distinct)));
  }

pub forgotten_rows_stand : (start : PlantState) → ForgottenRowsStand start
forgotten_rows_stand start b r st may = stands_there start b r.control r.volume (forgotten r.volume) (without_row r.device b.point.rows) b.done st (forgets start b r st may)
