-- The state stands for rows of which one volume's row is changed with its volume.
use Rattle.std.proofs.Common.{◌≡◌, inl, inr, ℕ, ◌<◌, ◌≤◌, true, false, nat_eq, ◌&&◌, List, length, Some, sym, ap, subst, ◌∙◌, arith}
use Rattle.std.specs.List.{Contains}
use Rattle.std.proofs.lemmas.Bool.{and_parts, cases_Bool, eqb-true}
use Rattle.crash_plant.specs.Choices.{Choice, IsChoice}
use Rattle.crash_plant.specs.Moments.{PlantState}
use Rattle.pair_table.specs.declared.row.PairRow.{PairRow}
use Rattle.pair_table.specs.Tables.{are_below, none_clash}
use Rattle.group_state.specs.Volumes.{volume_of}
use Rattle.group_state.specs.Controls.{ControlState, counts}
use Rattle.group_state.specs.Groups.{Group, control_at, with_control}
use Rattle.group_state.specs.SoundStates.{IsGroupSound, passes_or_none}
use Rattle.consistency.specs.Stages.{tracks_of_row}
use Rattle.fed_logs.specs.ToldTracks.{AllHold, after_entries, is_queued_up_to, is_settled_in}
use Rattle.fed_logs.specs.Feeds.{truth_of}
use Rattle.fed_logs.specs.Logs.{BeginsLog, is_of_size}
use Rattle.fed_logs.specs.Moves.{HasRowIn, IsDuplex, IsLive, Plans}
use Rattle.fed_logs.proofs.Standing.{at_with, same_count}
use Rattle.mover.specs.OwedTracks.{CarriedAsLive, IsAny, IsFailed, IsUnfailed, held_by_choice, is_owed, is_volume_kept}
use Rattle.mover.proofs.Copying.{kept_within}
use Rattle.xrc_session.specs.EpochPauses.{Between, StandsBetween}
use Rattle.xrc_session.proofs.Calls.{KeepsOther, kept_other, other_at, owed_other, own_is, plan_other}
use Rattle.xrc_session.proofs.CarriedRows.{IsOther, OthersSame}

-- the controller of a volume, changed
abbrev pub changed_control : Between → (control : ℕ) → (ControlState → ControlState) → ControlState
changed_control b k change = change (control_at b.group k)

-- What is so of the changed volume and its row, and of all rows together.
pub record Changes (start : PlantState) (b : Between) (k v : ℕ) (change : ControlState → ControlState) (next : List PairRow) (done : Plans) : Type 1 where
  pub low : k < length b.group.controls
  pub others : OthersSame k v b.point.rows next
  pub apart : none_clash next ≡ true
  pub below : are_below start.volumes next ≡ true
  pub sized_rows : (r : PairRow) → Contains next r → tracks_of_row r ≤ b.size r.control r.volume
  -- the volume
  pub change_other : (u : ℕ) → nat_eq v u ≡ false → KeepsOther u (control_at b.group k) (changed_control b k change)
  pub phase : (c : ControlState) → (change c).phase ≡ c.phase
  pub sized : passes_or_none (is_of_size (b.size k v)) (volume_of v (changed_control b k change).volumes) ≡ true
  pub keeps : IsGroupSound (with_control k change b.group)
  pub all : (c : Choice) → IsChoice start start.clock c → AllHold (truth_of b.run.traces) (held_by_choice start c b.point.rows) (with_control k change b.group)
  -- its row
  pub live : HasRowIn IsLive k v next → counts (control_at b.group k).phase ≡ true
  pub duplex : HasRowIn IsDuplex k v next → ⊥
  pub plans : (j w : ℕ) → done j w ≡ true → (b.done j w ≡ true) × IsOther k v j w
  pub still : (j w : ℕ) → IsOther k v j w → b.done j w ≡ true → done j w ≡ true
  pub rowed : is_volume_kept v (changed_control b k change) ≡ true → HasRowIn IsAny k v next
  pub owed : (has : HasRowIn IsUnfailed k v next) → is_volume_kept v (changed_control b k change) ≡ true → (x : ℕ) → x < b.size k v → b.excepted has.row.device x ≡ true → is_owed v x (changed_control b k change) ≡ true
  pub failed : HasRowIn IsFailed k v next → is_volume_kept v (changed_control b k change) ≡ true → (x : ℕ) → x < b.size k v → is_owed v x (changed_control b k change) ≡ true
  pub carried : CarriedAsLive (with_control k change b.group) next
  pub held : (c : Choice) (x : ℕ) → is_settled_in v x (changed_control b k change) ≡ true → held_by_choice start c next k v x ≡ held_by_choice start c b.point.rows k v x

-- what is so of a volume and of all others is so of each
pub at_volume : (k v : ℕ) (P : (j w : ℕ) → Type 0) → P k v → ((j w : ℕ) → IsOther k v j w → P j w) → (j w : ℕ) → P j w
at_volume k v P own other j w = elim (cases_Bool (nat_eq k j && nat_eq v w)) [
  | inl same ↦
      let p = and_parts (nat_eq k j) (nat_eq v w) same in
      subst (λ (i : ℕ). P i w) (eqb-true k j p.0) (subst (λ (i : ℕ). P k i) (eqb-true v w p.1) own)
  | inr apart ↦ other j w apart
]

module _ (start : PlantState) (b : Between) (k v : ℕ) (change : ControlState → ControlState) (next : List PairRow) (done : Plans) (st : StandsBetween start b) (h : Changes start b k v change next done) where
  abbrev s : Group
  s = b.group

  abbrev end : Group
  end = with_control k change s

  before : (j : ℕ) → j < length end.controls → j < length s.controls
  before j low = omega (arith, low, same_count s k change)

  own : control_at end k ≡ change (control_at s k)
  own = own_is s k change h.low

  other : (j w : ℕ) → IsOther k v j w → j < length s.controls → KeepsOther w (control_at s j) (control_at end j)
  other j w apart low = other_at s k v j w change h.change_other apart low

  -- the phases are as they were
  counted : (j : ℕ) → j < length s.controls → counts (control_at s j).phase ≡ true → counts (control_at end j).phase ≡ true
  counted j low is = at_with s k j change (λ (c : ControlState). counts c.phase ≡ true) low (λ same. ap counts (h.phase (control_at s j)) ∙ is) (λ apart. is)

  -- a volume that is kept was kept before, where it is another
  kept_before : (j w : ℕ) → IsOther k v j w → is_volume_kept w (control_at end j) ≡ true → (j < length s.controls) × (is_volume_kept w (control_at s j) ≡ true)
  kept_before j w apart kept =
      let low = before j (kept_within end j w kept) in
      (low, sym (kept_other w (control_at s j) (control_at end j) (other j w apart low)) ∙ kept)

  module _ (c : Choice) (was : IsChoice start start.clock c) where
    base : BeginsLog b.size b.run.traces (held_by_choice start c b.point.rows) s b.point.time b.point.rows b.done
    base = st.rows.holds c was

    live_there : (j w : ℕ) → HasRowIn IsLive j w next → (j < length end.controls) × (counts (control_at end j).phase ≡ true)
    live_there = at_volume k v (λ (j w : ℕ). HasRowIn IsLive j w next → (j < length end.controls) × (counts (control_at end j).phase ≡ true))
        (λ has. ((let low = h.low in omega (arith, low, same_count s k change)), counted k h.low (h.live has)))
        (λ j w apart has.
        let stood = base.stand.live j w (h.others.back IsLive j w apart has).was in
        ((let low = stood.0 in omega (arith, low, same_count s k change)), counted j stood.0 stood.1))

    duplex_there : (j w : ℕ) → HasRowIn IsDuplex j w next → done j w ≡ true
    duplex_there = at_volume k v (λ (j w : ℕ). HasRowIn IsDuplex j w next → done j w ≡ true) (λ has. absurd (h.duplex has)) (λ j w apart has. h.still j w apart (base.stand.duplex j w (h.others.back IsDuplex j w apart has).was))

    sized_there : (j w : ℕ) → j < length end.controls → passes_or_none (is_of_size (b.size j w)) (volume_of w (control_at end j).volumes) ≡ true
    sized_there = at_volume k v (λ (j w : ℕ). j < length end.controls → passes_or_none (is_of_size (b.size j w)) (volume_of w (control_at end j).volumes) ≡ true)
        (λ low. ap (λ (c : ControlState). passes_or_none (is_of_size (b.size k v)) (volume_of v c.volumes)) own ∙ h.sized)
        (λ j w apart low. ap (passes_or_none (is_of_size (b.size j w))) (other j w apart (before j low)).found ∙ base.sized j w (before j low))

    truth_there : (j w : ℕ) → HasRowIn IsDuplex j w next → (x : ℕ) → x < b.size j w → held_by_choice start c next j w x ≡ Some (truth_of b.run.traces j w x b.point.time)
    truth_there = at_volume k v (λ (j w : ℕ). HasRowIn IsDuplex j w next → (x : ℕ) → x < b.size j w → held_by_choice start c next j w x ≡ Some (truth_of b.run.traces j w x b.point.time))
        (λ has. absurd (h.duplex has))
        (λ j w apart has x low. h.others.held start c j w x apart ∙ base.truth j w (h.others.back IsDuplex j w apart has).was x low)

    -- what is held of settled tracks is what was held
    same_held : (j w : ℕ) → (x : ℕ) → is_settled_in w x (control_at end j) ≡ true → held_by_choice start c next j w x ≡ held_by_choice start c b.point.rows j w x
    same_held = at_volume k v (λ (j w : ℕ). (x : ℕ) → is_settled_in w x (control_at end j) ≡ true → held_by_choice start c next j w x ≡ held_by_choice start c b.point.rows j w x)
        (λ x settled. h.held c x (ap (is_settled_in v x) (sym own) ∙ settled))
        (λ j w apart x settled. h.others.held start c j w x apart)

    all_there : AllHold (truth_of b.run.traces) (held_by_choice start c next) end
    all_there j low =
        let one = h.all c was j low in
        record {
          holds = λ w x t settled none from to. ap (after_entries (is_queued_up_to w x t) (control_at end j).queue.waiting) (same_held j w x settled) ∙ one.holds w x t settled none from to;
        }

    begins : BeginsLog b.size b.run.traces (held_by_choice start c next) end b.point.time next done
    begins = record {
      sized = sized_there;
      holds = all_there;
      last = base.last;
      stand = record {
        live = live_there;
        duplex = duplex_there;
        plans = λ j w known.
            let p = h.plans j w known in
            let d = base.stand.plans j w p.0 in
            ((let low = d.0 in omega (arith, low, same_count s k change)), plan_other w (control_at s j) (control_at end j) (other j w p.1 d.0) d.1);
      };
      truth = truth_there;
    }

  rowed_there : (j w : ℕ) → is_volume_kept w (control_at end j) ≡ true → HasRowIn IsAny j w next
  rowed_there = at_volume k v (λ (j w : ℕ). is_volume_kept w (control_at end j) ≡ true → HasRowIn IsAny j w next)
      (λ kept. h.rowed (ap (is_volume_kept v) (sym own) ∙ kept))
      (λ j w apart kept. h.others.forth j w apart (st.rows.rowed j w (kept_before j w apart kept).1))

  owed_there : (j w : ℕ) (has : HasRowIn IsUnfailed j w next) → is_volume_kept w (control_at end j) ≡ true → (x : ℕ) → x < b.size j w → b.excepted has.row.device x ≡ true → is_owed w x (control_at end j) ≡ true
  owed_there = at_volume k v (λ (j w : ℕ). (has : HasRowIn IsUnfailed j w next) → is_volume_kept w (control_at end j) ≡ true → (x : ℕ) → x < b.size j w → b.excepted has.row.device x ≡ true → is_owed w x (control_at end j) ≡ true)
      (λ has kept x low e. ap (is_owed v x) own ∙ h.owed has (ap (is_volume_kept v) (sym own) ∙ kept) x low e)
      (λ j w apart has kept x low e.
      let there = kept_before j w apart kept in
      let was = h.others.back IsUnfailed j w apart has in
      owed_other w x (control_at s j) (control_at end j) (other j w apart there.0) (st.rows.owed j w was.was there.1 x low (ap (λ (r : PairRow). b.excepted r.device x) was.same ∙ e)))

  failed_there : (j w : ℕ) → HasRowIn IsFailed j w next → is_volume_kept w (control_at end j) ≡ true → (x : ℕ) → x < b.size j w → is_owed w x (control_at end j) ≡ true
  failed_there = at_volume k v (λ (j w : ℕ). HasRowIn IsFailed j w next → is_volume_kept w (control_at end j) ≡ true → (x : ℕ) → x < b.size j w → is_owed w x (control_at end j) ≡ true)
      (λ has kept x low. ap (is_owed v x) own ∙ h.failed has (ap (is_volume_kept v) (sym own) ∙ kept) x low)
      (λ j w apart has kept x low.
      let there = kept_before j w apart kept in
      owed_other w x (control_at s j) (control_at end j) (other j w apart there.0) (st.rows.failed j w (h.others.back IsFailed j w apart has).was there.1 x low))

  pub stands_there : StandsBetween start (record b { group = end; point = record b.point { rows = next }; done = done })
  stands_there = record {
    rows = record {
      apart = h.apart;
      below = h.below;
      sized = h.sized_rows;
      holds = begins;
      rowed = rowed_there;
      owed = owed_there;
      failed = failed_there;
      carried = h.carried;
    };
    keeps = h.keeps;
    some = st.some;
  }
