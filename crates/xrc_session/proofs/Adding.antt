-- A row is added, and its volume begins to be carried with all tracks wanted.
use Rattle.std.proofs.Common.{◌≡◌, inl, inr, ℕ, ◌<◌, ◌≤◌, true, false, not, nat_eq, nat_lt, List, [], ◌∷◌, ◌++◌, length, refl, sym, ap, subst, ◌∙◌, arith, true≢false}
use Rattle.std.specs.List.{Contains, list_any}
use Rattle.std.proofs.lemmas.Bool.{and_parts, eq-eqb, lt-ltb, ltb-true, or_left}
use Rattle.std.proofs.lemmas.List.{length-replicate}
use Rattle.change_map.specs.Sets.{every_track, has_track, no_track}
use Rattle.change_map.proofs.InSets.{has_every}
use Rattle.copy_plan.specs.Plans.{PlanState, fresh_plan}
use Rattle.crash_plant.specs.Moments.{PlantState}
use Rattle.pair_table.specs.declared.row.PairRow.{PairRow}
use Rattle.pair_table.specs.declared.row.PairState.{PairState}
use Rattle.group_state.specs.Volumes.{has_volume, is_wanted, passes, volume_of, wants}
use Rattle.group_state.specs.Controls.{ControlState, begun_volume}
use Rattle.group_state.specs.Groups.{control_at, with_control}
use Rattle.group_state.specs.Machine.Call.{Carry}
use Rattle.group_state.specs.Machine.Reply.{Made}
use Rattle.group_state.specs.SoundStates.{passes_or_none}
use Rattle.group_state.proofs.VolumeLaws.{none_found}
use Rattle.consistency.specs.Stages.{tracks_of_row}
use Rattle.fed_logs.specs.ToldTracks.{is_settled_in, is_track_settled}
use Rattle.fed_logs.proofs.Keeping.{steps_keep}
use Rattle.fed_logs.specs.Feeds.{truth_of}
use Rattle.fed_logs.specs.Logs.{is_of_size}
use Rattle.fed_logs.specs.Moves.{HasRowIn, IsDuplex}
use Rattle.mover.specs.OwedTracks.{CarriedAsLive, held_by_choice, is_copied_to, is_mapped, is_owed, is_to_be_copied}
use Rattle.mover.proofs.Pairs.{among_of, contains_of}
use Rattle.xrc_session.specs.EpochPauses.{Between, MayAdd, StandsBetween}
use Rattle.xrc_session.specs.CarriedLaws.{AddedRowsStand}
use Rattle.xrc_session.proofs.Calls.{begin_itself, begin_other, keeps_begin}
use Rattle.xrc_session.proofs.CarriedRows.{added_others, added_own, added_there, among_either}
use Rattle.xrc_session.proofs.Standing.{Changes, stands_there}
use Rattle.xrc_session.proofs.KeptRows.{kept_added_row, standing_rows_are_kept}
use Rattle.xrc_session.proofs.Knowing.{base, is_other, same}
use Rattle.pair_table.specs.States.{is_duplex}

module _ (start : PlantState) (b : Between) (r : PairRow) (st : StandsBetween start b) (may : MayAdd start b r) where
  abbrev k : ℕ
  k = r.control

  abbrev v : ℕ
  v = r.volume

  abbrev c : ControlState
  c = control_at b.group k

  abbrev rows : List PairRow
  rows = b.point.rows

  abbrev more : List PairRow
  more = rows ++ r ∷ []

  abbrev n : ℕ
  n = b.size k v

  abbrev plan : PlanState
  plan = fresh_plan (every_track n)

  unknown : has_volume v c.volumes ≡ false
  unknown = may.may.1.unknown

  wants_all : (x : ℕ) → x < n → has_track (every_track n) x ≡ true
  wants_all x low = has_every n x ∙ lt-ltb x n low

  no_plan : b.done k v ≡ true → ⊥
  no_plan known = true≢false (sym ((base start b st).stand.plans k v known).1.carried ∙ ap (passes (λ u. u.carried)) (none_found v c.volumes unknown))

  sized_begun : passes_or_none (is_of_size n) (volume_of v (begun_volume v plan c).volumes) ≡ true
  sized_begun =
      ap (passes_or_none (is_of_size n)) (begin_itself v plan c unknown)
      ∙ ap (λ (m : ℕ). nat_eq m n) (length-replicate (length (every_track n)) false ∙ length-replicate n true)
      ∙ eq-eqb n n refl

  -- No track of it is settled.
  unsettled : (x : ℕ) → is_settled_in v x (begun_volume v plan c) ≡ true → ⊥
  unsettled x settled =
      let is = sym (ap (passes (is_track_settled x)) (begin_itself v plan c unknown)) ∙ settled in
      let parts = and_parts (nat_lt x (length (no_track (length (every_track n))))) (not (has_track (every_track n) x)) is in
      let within = ltb-true x (length (no_track (length (every_track n)))) parts.0 in
      let low : x < n = omega (arith, within, length-replicate (length (every_track n)) false, length-replicate n true) in
      true≢false (sym parts.1 ∙ ap not (wants_all x low))

  owed_begun : (x : ℕ) → x < n → is_owed v x (begun_volume v plan c) ≡ true
  owed_begun x low =
      or_left (is_to_be_copied v x (begun_volume v plan c)) (passes (is_mapped x) (volume_of v (begun_volume v plan c).volumes))
      (or_left (is_wanted v x (begun_volume v plan c).volumes) (list_any (is_copied_to v x) c.queue.waiting) (ap (passes (wants x)) (begin_itself v plan c unknown) ∙ wants_all x low))

  is_row : (is : PairState → Type 0) (has : HasRowIn is k v more) → has.row ≡ r
  is_row is has = added_own r rows may.apart is has

  sized_more : (s : PairRow) → Contains more s → tracks_of_row s ≤ b.size s.control s.volume
  sized_more s has = elim (among_either s r rows (among_of more s has)) [
    | inl before ↦ st.rows.sized s (contains_of s rows before)
    | inr same ↦ subst (λ (t : PairRow). tracks_of_row t ≤ b.size t.control t.volume) same (let sized = may.sized in omega (arith, sized))
  ]

  carried_begun : CarriedAsLive (with_control k (begun_volume v plan) b.group) more
  carried_begun = subst (λ (m : ℕ). CarriedAsLive (with_control k (begun_volume v (fresh_plan (every_track m))) b.group) more) (sym may.sized)
      (λ s has. ((kept_added_row b.group rows r (standing_rows_are_kept start b st) may.may.0 may.counted may.pending may.apart).each s has).own)

  adds : Changes start b k v (begun_volume v plan) more b.done
  adds = record {
    low = may.may.0;
    others = added_others r rows may.apart;
    apart = may.apart;
    below = may.below;
    sized_rows = sized_more;
    change_other = λ u apart. begin_other v u plan c unknown apart;
    phase = λ d. refl;
    sized = sized_begun;
    keeps = keeps_begin b.group k v plan may.may.0 may.may.1 st.keeps;
    all = λ a was. steps_keep (truth_of b.run.traces) (held_by_choice start a rows) b.group (with_control k (begun_volume v plan) b.group) (Carry k v plan) Made st.keeps may.may (refl, refl)
        (λ e x low. wants_all x (let long = length-replicate n true in omega (arith, low, long))) (st.rows.holds a was).holds;
    live = λ has. may.counted;
    duplex = λ has. true≢false (sym (ap is_duplex has.state) ∙ ap (λ (s : PairRow). is_duplex s.state) (is_row IsDuplex has) ∙ ap is_duplex may.pending);
    plans = λ j w known. (known, is_other k v b.done no_plan j w known);
    still = λ j w other known. known;
    rowed = λ kept. added_there r rows may.apart;
    owed = λ has kept x low e. owed_begun x low;
    failed = λ has kept x low. owed_begun x low;
    carried = carried_begun;
    held = λ a x settled. absurd (unsettled x settled);
  }

pub added_rows_stand : (start : PlantState) → AddedRowsStand start
added_rows_stand start b r st may =
    stands_there start b r.control r.volume (begun_volume r.volume (fresh_plan (every_track (b.size r.control r.volume)))) (b.point.rows ++ r ∷ []) b.done st (adds start b r st may)
