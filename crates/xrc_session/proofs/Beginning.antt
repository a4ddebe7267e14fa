-- Without a row and without a volume the state stands for the rows.
use Rattle.std.proofs.Common.{◌≡◌, inl, inr, ℕ, true, List, [], length, sym, ap, subst, ◌∙◌, true≢false}
use Rattle.std.proofs.lemmas.Bool.{cases_lt}
use Rattle.std.proofs.lemmas.List.{get_or_past}
use Rattle.crash_plant.specs.Moments.{PlantState}
use Rattle.pair_table.specs.declared.row.PairRow.{PairRow}
use Rattle.pair_table.specs.declared.row.PairState.{PairState}
use Rattle.pair_table.specs.Tables.{are_below, none_clash}
use Rattle.group_state.specs.declared.volume.Volume.{Volume}
use Rattle.group_state.specs.Volumes.{passes, volume_of}
use Rattle.group_state.specs.Controls.{ControlState, new_control}
use Rattle.group_state.specs.Groups.{Group, control_at}
use Rattle.group_state.specs.SoundStates.{passes_or_none}
use Rattle.fed_logs.specs.ToldTracks.{AllHold, HeldTracks, is_track_settled}
use Rattle.fed_logs.specs.Feeds.{truth_of}
use Rattle.fed_logs.specs.Logs.{is_of_size}
use Rattle.fed_logs.specs.Moves.{HasRowIn, IsDuplex, IsLive}
use Rattle.mover.specs.OwedTracks.{IsFailed, IsUnfailed, held_by_choice, is_volume_kept}
use Rattle.mover.proofs.Pairs.{Among, among_cases, among_of}
use Rattle.xrc_session.specs.EpochPauses.{Between, MayBegin, StandsBetween}
use Rattle.xrc_session.specs.CarriedLaws.{FirstRowsStand}

module _ (start : PlantState) (b : Between) (may : MayBegin start b) where
  abbrev s : Group
  s = b.group

  no_volume : (k : ℕ) → (control_at s k).volumes ≡ []
  no_volume k = elim (cases_lt k (length s.controls)) [
    | inl low ↦ (may.nothing k low).0
    | inr high ↦ ap (λ (c : ControlState). c.volumes) (get_or_past s.controls k (new_control 0 0 0) high)
  ]

  none_kept : (k v : ℕ) → is_volume_kept v (control_at s k) ≡ true → ⊥
  none_kept k v kept = true≢false (sym kept ∙ ap (λ (us : List Volume). passes (λ u. true) (volume_of v us)) (no_volume k))

  none_among : (r : PairRow) → Among r b.point.rows → ⊥
  none_among r there = among_cases r [] (subst (λ (rows : List PairRow). Among r rows) may.none there)

  no_row : (is : PairState → Type 0) (k v : ℕ) → HasRowIn is k v b.point.rows → ⊥
  no_row is k v has = none_among has.row (among_of b.point.rows has.row has.among)

  nothing_told : (held : HeldTracks) → AllHold (truth_of b.run.traces) held s
  nothing_told held k low = record {
    holds = λ v x t settled alone from to. absurd (true≢false (sym settled ∙ ap (λ (us : List Volume). passes (is_track_settled x) (volume_of v us)) (no_volume k)));
  }

  pub stands_first : StandsBetween start b
  stands_first = record {
    rows = record {
      apart = ap none_clash may.none;
      below = ap (are_below start.volumes) may.none;
      sized = λ r has. absurd (none_among r (among_of b.point.rows r has));
      holds = λ c has. record {
        sized = λ k v low. ap (λ (us : List Volume). passes_or_none (is_of_size (b.size k v)) (volume_of v us)) (no_volume k);
        holds = nothing_told (held_by_choice start c b.point.rows);
        last = may.last;
        stand = record {
          live = λ k v has. absurd (no_row IsLive k v has);
          duplex = λ k v has. absurd (no_row IsDuplex k v has);
          plans = λ k v known. absurd (true≢false (sym known ∙ may.known k v));
        };
        truth = λ k v has x low. absurd (no_row IsDuplex k v has);
      };
      rowed = λ k v kept. absurd (none_kept k v kept);
      owed = λ k v has kept x low e. absurd (no_row IsUnfailed k v has);
      failed = λ k v has kept x low. absurd (no_row IsFailed k v has);
      carried = λ r has. absurd (none_among r (among_of b.point.rows r has));
    };
    keeps = may.keeps;
    some = may.some;
  }

pub first_rows_stand : (start : PlantState) → FirstRowsStand start
first_rows_stand start b may = stands_first start b may
