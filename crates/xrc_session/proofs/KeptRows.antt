-- What calls between epochs leave of what the state keeps for rows.
use Rattle.std.proofs.Common.{◌≡◌, inl, inr, ℕ, ◌<◌, Bool, true, false, not, nat_eq, ◌&&◌, List, [], ◌∷◌, ◌++◌, length, Option, Some, None, refl, sym, ap, subst, ◌∙◌, arith, true≢false}
use Rattle.std.specs.List.{Contains}
use Rattle.std.specs.Option.{option_map}
use Rattle.std.proofs.lemmas.Bool.{and_parts, cases_Bool, eq-eqb, eqb-true}
use Rattle.std.proofs.lemmas.List.{length-replicate}
use Rattle.std.proofs.lemmas.List.Elements.{All-get_or}
use Rattle.change_map.specs.Sets.{every_track}
use Rattle.copy_plan.specs.Plans.{PlanState, fresh_plan}
use Rattle.crash_plant.specs.Moments.{PlantState}
use Rattle.pair_table.specs.declared.row.PairRow.{PairRow}
use Rattle.pair_table.specs.declared.row.PairState.{PairState}
use Rattle.pair_table.specs.declared.row.PairState.TheVariants.{Duplex, Pending}
use Rattle.pair_table.specs.Rows.{is_suspended}
use Rattle.pair_table.specs.Tables.{in_state, is_of, none_clash, resumed_in, with_resumed, with_state, without_row}
use Rattle.pair_table.proofs.TableLaws.{apart-filter, first_apart}
use Rattle.pending_queue.specs.Entries.{entry_tracks}
use Rattle.group_state.specs.declared.volume.Volume.{Volume}
use Rattle.group_state.specs.Volumes.{begun, dropped_volume, has_volume, passes, resumed_volume, volume_of}
use Rattle.group_state.specs.Controls.{ControlState, begun_volume, counts, dropped, forgotten, new_control, resumed}
use Rattle.group_state.specs.Groups.{Group, control_at, with_control}
use Rattle.group_state.specs.Machine.{group_after}
use Rattle.group_state.specs.Machine.Call.{Carry, Drop, Forget, Resume}
use Rattle.group_state.specs.SoundStates.{IsGroupSound, MayCarry, Sound, are_distinct}
use Rattle.group_state.proofs.SoundLaws.{length_dropped}
use Rattle.group_state.proofs.VolumeLaws.{has_none}
use Rattle.consistency.specs.Stages.{tracks_of_row}
use Rattle.fed_logs.specs.Logs.{is_of_size}
use Rattle.fed_logs.specs.Moves.{HasRowIn}
use Rattle.fed_logs.proofs.Standing.{at_with, same_count}
use Rattle.mover.specs.OwedTracks.{IsAny, is_volume_kept}
use Rattle.mover.proofs.Copying.{kept_within}
use Rattle.mover.proofs.Pairs.{Among, Apart, among_of, apart_among, apart_still}
use Rattle.mover.proofs.Pairs.Among.{Here, Later}
use Rattle.xrc_session.specs.EpochPauses.{Between, StandsBetween}
use Rattle.xrc_session.specs.CarriedLaws.{StandingRowsAreKept}
use Rattle.xrc_session.specs.Taking.{IsSoundForRow, IsSoundForRows}
use Rattle.xrc_session.proofs.Calls.{KeepsOther, begin_itself, begin_other, drop_itself, drop_other, forget_itself, forget_other, kept_other, keeps_begin, keeps_drop, keeps_forget, keeps_resume, other_at, own_is, plan_other, resume_itself, resume_other}
use Rattle.xrc_session.proofs.Knowing.{base, never_both, passes_map}
use Rattle.pair_table.specs.States.{is_duplex}
use Rattle.xrc_session.proofs.CarriedRows.{IsOther, OthersSame, added_others, added_own, added_there, among_last, changed_others, changed_own, changed_pairs, itself_there, not_itself, without_others, without_own}
use Rattle.xrc_session.proofs.Standing.{at_volume}

-- ---- volumes

abbrev pub is_there : Volume → Bool
is_there u = true

pub sized_there : (n : ℕ) (o : Option Volume) → passes (is_of_size n) o ≡ true → passes is_there o ≡ true
sized_there n None is = is
sized_there n (Some u) is = refl

dropped_sized : (n : ℕ) (all : Bool) (tracks : List ℕ) (o : Option Volume) → passes (is_of_size n) o ≡ true → passes (λ u. is_of_size n (dropped_volume all tracks u)) o ≡ true
dropped_sized n all tracks None is = is
dropped_sized n all tracks (Some u) is = ap (λ (m : ℕ). nat_eq m n) (length_dropped all tracks u.map) ∙ is

resumed_sized : (n : ℕ) (o : Option Volume) → passes (is_of_size n) o ≡ true → passes (λ u. is_of_size n (resumed_volume u)) o ≡ true
resumed_sized n None is = is
resumed_sized n (Some u) is = ap (λ (m : ℕ). nat_eq m n) (length-replicate (length u.map) false) ∙ is

never_suspended : (state : PairState) → is_suspended state ≡ true → state ≡ Duplex → ⊥
never_suspended state suspends is = true≢false (sym suspends ∙ ap is_suspended is)

-- ---- rows of other volumes

module _ (s : Group) (k v : ℕ) (change : ControlState → ControlState) (rows next : List PairRow) (others : OthersSame k v rows next)
    (change_other : (u : ℕ) → nat_eq v u ≡ false → KeepsOther u (control_at s k) (change (control_at s k))) (phase : (c : ControlState) → (let d : ControlState = change c in d.phase) ≡ c.phase) (kept : IsSoundForRows s rows) where
  abbrev end : Group
  end = with_control k change s

  counted : (j : ℕ) → j < length s.controls → counts (control_at s j).phase ≡ true → counts (control_at end j).phase ≡ true
  counted j low is = at_with s k j change (λ (c : ControlState). counts c.phase ≡ true) low (λ same. ap counts (phase (control_at s j)) ∙ is) (λ apart. is)

  other_row : (r : PairRow) → IsOther k v r.control r.volume → IsSoundForRow s r → IsSoundForRow end r
  other_row r apart h =
      let o = other_at s k v r.control r.volume change change_other apart h.low in
      record {
        low = (let low = h.low in omega (arith, low, same_count s k change));
        own = record {
          sized = ap (passes (is_of_size (tracks_of_row r))) o.found ∙ h.own.sized;
          carried = λ live. ap (passes (λ u. u.carried)) o.found ∙ h.own.carried live;
          dropped = λ gone. ap (passes (λ u. not u.carried)) o.found ∙ h.own.dropped gone;
        };
        counted = λ live. counted r.control h.low (h.counted live);
        done = λ is. plan_other r.volume (control_at s r.control) (control_at end r.control) o (h.done is);
      }

  each_row : ((has : HasRowIn IsAny k v next) → IsSoundForRow end has.row) → (r : PairRow) → Contains next r → IsSoundForRow end r
  each_row own r among = elim (cases_Bool (nat_eq k r.control && nat_eq v r.volume)) [
    | inl same ↦
        let p = and_parts (nat_eq k r.control) (nat_eq v r.volume) same in
        own (record { row = r; among = among; control = sym (eqb-true k r.control p.0); volume = sym (eqb-true v r.volume p.1); state = tt })
    | inr apart ↦
        let was = others.back IsAny r.control r.volume apart (record { row = r; among = among; control = refl; volume = refl; state = tt }) in
        other_row r apart (kept.each r (subst (λ (x : PairRow). Contains rows x) was.same was.was.among))
  ]

  rowed_after : k < length s.controls → (is_volume_kept v (change (control_at s k)) ≡ true → HasRowIn IsAny k v next) → (j w : ℕ) → is_volume_kept w (control_at end j) ≡ true → HasRowIn IsAny j w next
  rowed_after low rowed = at_volume k v (λ (j w : ℕ). is_volume_kept w (control_at end j) ≡ true → HasRowIn IsAny j w next)
      (λ there. rowed (ap (is_volume_kept v) (sym (own_is s k change low)) ∙ there))
      (λ j w apart there.
      let within = kept_within end j w there in
      let low : j < length s.controls = omega (arith, within, same_count s k change) in
      others.forth j w apart (kept.rowed j w (sym (kept_other w (control_at s j) (control_at end j) (other_at s k v j w change change_other apart low)) ∙ there)))

  pub kept_after : k < length s.controls → none_clash next ≡ true → IsGroupSound end → ((has : HasRowIn IsAny k v next) → IsSoundForRow end has.row) → (is_volume_kept v (change (control_at s k)) ≡ true → HasRowIn IsAny k v next) → IsSoundForRows end next
  kept_after low apart keeps own rowed = record { keeps = keeps; apart = apart; each = each_row own; rowed = rowed_after low rowed }

  pub counted_still : k < length s.controls → counts (control_at s k).phase ≡ true → counts (control_at end k).phase ≡ true
  counted_still low is = counted k low is

-- ---- a row among those for which the state keeps volumes

module _ (s : Group) (rows : List PairRow) (r : PairRow) (kept : IsSoundForRows s rows) (among : Contains rows r) where
  abbrev c : ControlState
  c = control_at s r.control

  there : Among r rows
  there = among_of rows r among

  own : IsSoundForRow s r
  own = kept.each r among

  distinct : are_distinct c.volumes ≡ true
  distinct = (All-get_or Sound s.controls r.control (new_control 0 0 0) own.low kept.keeps.sound).distinct

  abbrev end_dropped : (all : Bool) → Group
  end_dropped all = with_control r.control (dropped r.volume all) s

  abbrev end_resumed : Group
  end_resumed = with_control r.control (resumed r.volume) s

  -- The row is suspended, and its volume dropped.
  pub kept_dropped_row : (state : PairState) (all : Bool) → is_suspended state ≡ true → IsSoundForRows (group_after s (Drop r.control r.volume all)) (with_state r.device state rows)
  kept_dropped_row state all suspends =
      kept_after s r.control r.volume (dropped r.volume all) rows (with_state r.device state rows) (changed_others r (in_state state) (λ t. refl) rows kept.apart there) (λ u apart. drop_other r.volume u all c apart) (λ d. refl) kept own.low
      (apart_still rows (with_state r.device state rows) (changed_pairs r (in_state state) (λ t. refl) rows kept.apart there) kept.apart) (keeps_drop s r.control r.volume all own.low kept.keeps)
      (λ has. subst (IsSoundForRow (end_dropped all)) (sym (changed_own r (in_state state) (λ t. refl) rows kept.apart there IsAny has)) itself) (λ is. itself_there r (in_state state) (λ t. refl) rows kept.apart there)
    where
      found : volume_of r.volume (control_at (end_dropped all) r.control).volumes ≡ option_map (dropped_volume all (entry_tracks r.volume c.queue.waiting)) (volume_of r.volume c.volumes)
      found = ap (λ (d : ControlState). volume_of r.volume d.volumes) (own_is s r.control (dropped r.volume all) own.low) ∙ drop_itself r.volume all c

      itself : IsSoundForRow (end_dropped all) (in_state state r)
      itself = record {
        low = (let low = own.low in omega (arith, low, same_count s r.control (dropped r.volume all)));
        own = record {
          sized = ap (passes (is_of_size (tracks_of_row r))) found ∙ passes_map (is_of_size (tracks_of_row r)) (dropped_volume all (entry_tracks r.volume c.queue.waiting)) (volume_of r.volume c.volumes)
              ∙ dropped_sized (tracks_of_row r) all (entry_tracks r.volume c.queue.waiting) (volume_of r.volume c.volumes) own.own.sized;
          carried = λ live. absurd (true≢false (sym suspends ∙ live));
          dropped = λ is. ap (passes (λ u. not u.carried)) found ∙ passes_map (λ u. not u.carried) (dropped_volume all (entry_tracks r.volume c.queue.waiting)) (volume_of r.volume c.volumes)
              ∙ sized_there (tracks_of_row r) (volume_of r.volume c.volumes) own.own.sized;
        };
        counted = λ live. absurd (true≢false (sym suspends ∙ live));
        done = λ is. absurd (never_suspended state suspends is);
      }

  -- The row is pending again, and its volume is carried again.
  pub kept_resumed_row : (group : Option (List ℕ)) → is_suspended r.state ≡ true → counts c.phase ≡ true → IsSoundForRows (group_after s (Resume r.control r.volume)) (with_resumed r.device group rows)
  kept_resumed_row group suspended counted =
      kept_after s r.control r.volume (resumed r.volume) rows (with_resumed r.device group rows) (changed_others r (resumed_in group) (λ t. refl) rows kept.apart there) (λ u apart. resume_other r.volume u c apart) (λ d. refl) kept own.low
      (apart_still rows (with_resumed r.device group rows) (changed_pairs r (resumed_in group) (λ t. refl) rows kept.apart there) kept.apart) (keeps_resume s r.control r.volume own.low (own.own.dropped suspended) kept.keeps)
      (λ has. subst (IsSoundForRow end_resumed) (sym (changed_own r (resumed_in group) (λ t. refl) rows kept.apart there IsAny has)) itself) (λ is. itself_there r (resumed_in group) (λ t. refl) rows kept.apart there)
    where
      found : volume_of r.volume (control_at end_resumed r.control).volumes ≡ option_map resumed_volume (volume_of r.volume c.volumes)
      found = ap (λ (d : ControlState). volume_of r.volume d.volumes) (own_is s r.control (resumed r.volume) own.low) ∙ resume_itself r.volume c

      itself : IsSoundForRow end_resumed (resumed_in group r)
      itself = record {
        low = (let low = own.low in omega (arith, low, same_count s r.control (resumed r.volume)));
        own = record {
          sized = ap (passes (is_of_size (tracks_of_row r))) found ∙ passes_map (is_of_size (tracks_of_row r)) resumed_volume (volume_of r.volume c.volumes)
              ∙ resumed_sized (tracks_of_row r) (volume_of r.volume c.volumes) own.own.sized;
          carried = λ live. ap (passes (λ u. u.carried)) found ∙ passes_map (λ u. u.carried) resumed_volume (volume_of r.volume c.volumes) ∙ sized_there (tracks_of_row r) (volume_of r.volume c.volumes) own.own.sized;
          dropped = λ is. absurd (true≢false (sym is));
        };
        counted = λ live. counted_still s r.control r.volume (resumed r.volume) rows (with_resumed r.device group rows) (changed_others r (resumed_in group) (λ t. refl) rows kept.apart there) (λ u apart. resume_other r.volume u c apart) (λ d. refl) kept own.low counted;
        done = λ is. absurd (true≢false (sym (ap is_duplex is)));
      }

  -- The row is taken out, and its volume, which is dropped, is forgotten.
  pub kept_forgotten_row : is_suspended r.state ≡ true → IsSoundForRows (group_after s (Forget r.control r.volume)) (without_row r.device rows)
  kept_forgotten_row suspended =
      kept_after s r.control r.volume (forgotten r.volume) rows (without_row r.device rows) (without_others r rows kept.apart there) (λ u apart. forget_other r.volume u c distinct apart) (λ d. refl) kept own.low
      (apart-filter (λ t. not (is_of r.device t)) rows kept.apart) (keeps_forget s r.control r.volume own.low (own.own.dropped suspended) kept.keeps)
      (λ has. absurd (without_own r rows kept.apart there IsAny has)) (λ is. absurd (true≢false (sym is ∙ ap (passes is_there) (forget_itself r.volume c distinct))))

-- ---- a row that is added

-- A row that is added clashes with none.
pub apart_last : (r s : PairRow) (rows : List PairRow) → none_clash (rows ++ r ∷ []) ≡ true → Among s rows → Apart s r
apart_last r s _ apart (Here rows) = apart_among s r (rows ++ r ∷ []) (first_apart s (rows ++ r ∷ []) apart).first (among_last r rows)
apart_last r s _ apart (Later t rows there) = apart_last r s rows (first_apart t (rows ++ r ∷ []) apart).others there

added_never : (r : PairRow) (rows : List PairRow) → none_clash (rows ++ r ∷ []) ≡ true → HasRowIn IsAny r.control r.volume rows → ⊥
added_never r rows apart has =
    not_itself has.row.control has.row.volume r.control r.volume (apart_last r has.row rows apart (among_of rows has.row has.among)).volume has.control has.volume

-- No volume is kept of a controller and a number that no row has.
unknown_of : (s : Group) (rows : List PairRow) (r : PairRow) → IsSoundForRows s rows → none_clash (rows ++ r ∷ []) ≡ true → has_volume r.volume (control_at s r.control).volumes ≡ false
unknown_of s rows r kept apart = choose (volume_of r.volume (control_at s r.control).volumes) refl
  where
    choose : (o : Option Volume) → volume_of r.volume (control_at s r.control).volumes ≡ o → has_volume r.volume (control_at s r.control).volumes ≡ false
    choose None is = has_none r.volume (control_at s r.control).volumes is
    choose (Some u) is = absurd (added_never r rows apart (kept.rowed r.control r.volume (ap (passes is_there) is)))

-- An added row is pending, and all tracks of its volume are wanted.
module _ (s : Group) (rows : List PairRow) (r : PairRow) (kept : IsSoundForRows s rows) (low : r.control < length s.controls) (counted : counts (control_at s r.control).phase ≡ true) (pending : r.state ≡ Pending)
    (apart : none_clash (rows ++ r ∷ []) ≡ true) where
  abbrev plan : PlanState
  plan = fresh_plan (every_track (tracks_of_row r))

  pub may_carry_row : MayCarry (control_at s r.control) r.volume plan
  may_carry_row = record { unknown = unknown_of s rows r kept apart; fresh = refl }

  abbrev end_there : Group
  end_there = with_control r.control (begun_volume r.volume plan) s

  found : volume_of r.volume (control_at end_there r.control).volumes ≡ Some (begun r.volume plan)
  found = ap (λ (d : ControlState). volume_of r.volume d.volumes) (own_is s r.control (begun_volume r.volume plan) low) ∙ begin_itself r.volume plan (control_at s r.control) may_carry_row.unknown

  itself : IsSoundForRow end_there r
  itself = record {
    low = omega (arith, low, same_count s r.control (begun_volume r.volume plan));
    own = record {
      sized = ap (passes (is_of_size (tracks_of_row r))) found
          ∙ ap (λ (m : ℕ). nat_eq m (tracks_of_row r)) (length-replicate (length (every_track (tracks_of_row r))) false ∙ length-replicate (tracks_of_row r) true)
          ∙ eq-eqb (tracks_of_row r) (tracks_of_row r) refl;
      carried = λ live. ap (passes (λ u. u.carried)) found;
      dropped = λ is. absurd (true≢false (sym is ∙ ap is_suspended pending));
    };
    counted = λ live. counted_still s r.control r.volume (begun_volume r.volume plan) rows (rows ++ r ∷ []) (added_others r rows apart) (λ u other. begin_other r.volume u plan (control_at s r.control) may_carry_row.unknown other) (λ d. refl) kept low counted;
    done = λ is. absurd (true≢false (sym (ap is_duplex is) ∙ ap is_duplex pending));
  }

  pub kept_added_row : IsSoundForRows (group_after s (Carry r.control r.volume plan)) (rows ++ r ∷ [])
  kept_added_row =
      kept_after s r.control r.volume (begun_volume r.volume plan) rows (rows ++ r ∷ []) (added_others r rows apart) (λ u other. begin_other r.volume u plan (control_at s r.control) may_carry_row.unknown other) (λ d. refl) kept low
      apart (keeps_begin s r.control r.volume plan low may_carry_row kept.keeps)
      (λ has. subst (IsSoundForRow end_there) (sym (added_own r rows apart IsAny has)) itself) (λ is. added_there r rows apart)

-- ---- a state that stands

-- Where the state stands for rows, it is sound for them.
pub standing_rows_are_kept : (start : PlantState) → StandingRowsAreKept start
standing_rows_are_kept start b st = record {
  keeps = st.keeps;
  apart = st.rows.apart;
  each = λ r among.
      let own = st.rows.carried r among in
      let stand = (base start b st).stand in
      record {
        low = kept_within b.group r.control r.volume (sized_there (tracks_of_row r) (volume_of r.volume (control_at b.group r.control).volumes) own.sized);
        own = own;
        counted = λ live. (stand.live r.control r.volume (record { row = r; among = among; control = refl; volume = refl; state = live })).1;
        done = λ is. (stand.plans r.control r.volume (stand.duplex r.control r.volume (record { row = r; among = among; control = refl; volume = refl; state = is }))).1;
      };
  rowed = st.rows.rowed;
}

-- A row whose volume is dropped is suspended.
pub dropped_suspended : (start : PlantState) (b : Between) (r : PairRow) → StandsBetween start b → Contains b.point.rows r → passes (λ u. not u.carried) (volume_of r.volume (control_at b.group r.control).volumes) ≡ true → is_suspended r.state ≡ true
dropped_suspended start b r st among gone = elim (cases_Bool (is_suspended r.state)) [
  | inl is ↦ is
  | inr live ↦ absurd (never_both (volume_of r.volume (control_at b.group r.control).volumes) ((st.rows.carried r among).carried live) gone)
]
