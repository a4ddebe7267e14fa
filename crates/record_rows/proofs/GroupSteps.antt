-- A group's changes make of the rows what the group makes of them, row by row.
use Rattle.std.proofs.Common.{◌≡◌, ℕ, zero, suc, Bool, true, false, cond, nat_eq, List, [], ◌∷◌, ◌++◌, map, Option, Some, None, refl, sym, ap, subst, ◌∙◌, true≢false, slice_get}
use Rattle.std.specs.List.{flat_map, list_all, list_any}
use Rattle.std.proofs.lemmas.Bool.{and_parts, eq-eqb, eqb-true}
use Rattle.std.proofs.lemmas.Option.{same_Some}
use Rattle.tod_stamp.specs.declared.stamp.Stamp.{Stamp}
use Rattle.ckd_track.specs.declared.write.Cause.{Cause}
use Rattle.pair_table.specs.declared.level.Level.{Level}
use Rattle.pair_table.specs.declared.row.PairRow.{PairRow}
use Rattle.pair_table.specs.declared.row.PairState.{PairState}
use Rattle.pair_table.specs.declared.row.PairState.TheVariants.{Suspended}
use Rattle.pair_table.specs.declared.row.SuspendCause.TheVariants.{Control}
use Rattle.pair_table.specs.Rows.{is_suspended}
use Rattle.pair_table.specs.Tables.{in_state, is_of}
use Rattle.pair_table.proofs.PutLaws.{number_sym}
use Rattle.pair_table.proofs.TableLaws.{either_false}
use Rattle.pending_queue.specs.Groups.{FormedGroup}
use Rattle.row_changes.specs.Changes.{FaultReach, Timed, after_changes, break_time_of, is_at, reach_of}
use Rattle.row_changes.proofs.Functions.{after_rows, row_after}
use Rattle.record_rows.specs.GroupRows.{are_breaks_at_cut, breaking, group_changes, is_break_at, is_shown_done, matured_by, matured_with_group, maturing, maturing_of, row_in, row_with_group, rows_with_group, shown_break, state_by_group}
use Rattle.record_rows.proofs.Devices.{apart_first, devices_apart, none_at, same_map}

pub device_in : (r : PairRow) (o : Option PairState) → (row_in r o).device ≡ r.device
device_in r None = refl
device_in r (Some state) = refl

rows_append : (reach : FaultReach) (xs ys : List Timed) (r : PairRow) → row_after reach (xs ++ ys) r ≡ row_after reach ys (row_after reach xs r)
rows_append reach [] ys r = refl
rows_append reach (t ∷ xs) ys r = rows_append reach xs ys (row_after reach (t ∷ []) r)

-- ---- breaks

-- the state to which a break changes a row, by whether the row is suspended
abbrev pub broken_to : Option Stamp → (is_suspended : Bool) → Option PairState
broken_to None suspended = None
broken_to (Some time) suspended = cond suspended None (Some (Suspended Control time))

module _ (reach : FaultReach) (breaks : List (Option ℕ)) (cut : ℕ) where
  abbrev by_control : PairState
  by_control = Suspended Control (record { 0 = cut })

  -- A suspended row stays through breaks.
  stays_broken : (found : List (ℕ × Stamp × Cause)) (r : PairRow) → is_suspended r.state ≡ true → row_after reach (map (breaking cut) found) r ≡ r
  stays_broken [] r is = refl
  stays_broken (f ∷ found) r is = choose (nat_eq r.control f.0) (is_suspended r.state) is (stays_broken found r is)
    where
      choose : (b c : Bool) → c ≡ true → row_after reach (map (breaking cut) found) r ≡ r → row_after reach (map (breaking cut) found) (cond b (cond c r (in_state by_control r)) r) ≡ r
      choose true true is rest = rest
      choose true false is rest = absurd (true≢false (sym is))
      choose false c is rest = rest

  time_is : (time : Stamp) (r : PairRow) → time.0 ≡ cut → in_state by_control r ≡ in_state (Suspended Control time) r
  time_is time r is = ap (λ (n : ℕ). in_state (Suspended Control (record { 0 = n })) r) (sym is)

  -- What breaks make of a row.
  pub breaks_make : (found : List (ℕ × Stamp × Cause)) (r : PairRow) → list_all (is_break_at breaks cut) found ≡ true → row_after reach (map (breaking cut) found) r ≡ row_in r (broken_to (shown_break r.control found) (is_suspended r.state))
  breaks_make [] r are = refl
  breaks_make (f ∷ found) r are =
      subst (λ (b : Bool). row_after reach (map (breaking cut) found) (cond (nat_eq r.control f.0) (cond (is_suspended r.state) r (in_state by_control r)) r) ≡ row_in r (broken_to (cond b (Some f.1) (shown_break r.control found)) (is_suspended r.state)))
      (number_sym r.control f.0) (choose (nat_eq r.control f.0) (is_suspended r.state) refl (breaks_make found r parts.1))
    where
      parts : (is_break_at breaks cut f ≡ true) × (list_all (is_break_at breaks cut) found ≡ true)
      parts = and_parts (is_break_at breaks cut f) (list_all (is_break_at breaks cut) found) are

      at : f.1.0 ≡ cut
      at = eqb-true f.1.0 cut (and_parts (nat_eq f.1.0 cut) (is_at cut (break_time_of f.0 breaks)) parts.0).0

      choose : (b c : Bool) → is_suspended r.state ≡ c → row_after reach (map (breaking cut) found) r ≡ row_in r (broken_to (shown_break r.control found) (is_suspended r.state))
          → row_after reach (map (breaking cut) found) (cond b (cond c r (in_state by_control r)) r) ≡ row_in r (broken_to (cond b (Some f.1) (shown_break r.control found)) c)
      choose true true is rest = stays_broken found r is
      choose true false is rest = stays_broken found (in_state by_control r) refl ∙ time_is f.1 r at
      choose false c is rest = subst (λ (q : Bool). row_after reach (map (breaking cut) found) r ≡ row_in r (broken_to (shown_break r.control found) q)) is rest

-- ---- maturing

module _ (reach : FaultReach) (group : FormedGroup) where
  -- What one row's maturing makes of another row, and of its own.
  matures_other : (d : ℕ) (o : Option PairState) (r : PairRow) → nat_eq d r.device ≡ false → row_after reach (maturing group.cut.0 d o) r ≡ r
  matures_other d None r other = refl
  matures_other d (Some state) r other = rw other refl

  matures_own : (o : Option PairState) (r : PairRow) (d : ℕ) → nat_eq d r.device ≡ true → row_after reach (maturing group.cut.0 d o) r ≡ row_in r o
  matures_own None r d own = refl
  matures_own (Some state) r d own = rw own refl

  -- No row of the device is among those that mature.
  none_matures : (rows : List PairRow) (r : PairRow) → list_any (is_of r.device) rows ≡ false → row_after reach (flat_map (maturing_of group) rows) r ≡ r
  none_matures [] r none = refl
  none_matures (x ∷ rows) r none =
      let parts = either_false (nat_eq r.device x.device) (list_any (is_of r.device) rows) none in
      rows_append reach (maturing_of group x) (flat_map (maturing_of group) rows) r
      ∙ ap (row_after reach (flat_map (maturing_of group) rows)) (matures_other x.device (matured_with_group group x) r (number_sym x.device r.device ∙ parts.0)) ∙ none_matures rows r parts.1

  -- What the rows that mature make of a row of the device of one of them.
  matures_make : (rows : List PairRow) (i : ℕ) (x r : PairRow) → devices_apart rows ≡ true → slice_get rows i ≡ Some x → r.device ≡ x.device → row_after reach (flat_map (maturing_of group) rows) r ≡ row_in r (matured_with_group group x)
  matures_make [] i x r apart at same = absurd cc
  matures_make (y ∷ rows) zero x r apart at same =
      subst (λ (z : PairRow). row_after reach (flat_map (maturing_of group) (y ∷ rows)) r ≡ row_in r (matured_with_group group z)) (same_Some y x at)
      (here (same ∙ ap (λ (z : PairRow). z.device) (sym (same_Some y x at))))
    where
      here : r.device ≡ y.device → row_after reach (flat_map (maturing_of group) (y ∷ rows)) r ≡ row_in r (matured_with_group group y)
      here is =
          rows_append reach (maturing_of group y) (flat_map (maturing_of group) rows) r
          ∙ ap (row_after reach (flat_map (maturing_of group) rows)) (matures_own (matured_with_group group y) r y.device (eq-eqb y.device r.device (sym is)))
          ∙ none_matures rows (row_in r (matured_with_group group y)) (ap (λ (d : ℕ). list_any (is_of d) rows) (device_in r (matured_with_group group y) ∙ is) ∙ (apart_first y rows apart).0)
  matures_make (y ∷ rows) (suc i) x r apart at same =
      let first = apart_first y rows apart in
      rows_append reach (maturing_of group y) (flat_map (maturing_of group) rows) r
      ∙ ap (row_after reach (flat_map (maturing_of group) rows)) (matures_other y.device (matured_with_group group y) r (ap (nat_eq y.device) same ∙ none_at y.device rows i x first.0 at)) ∙ matures_make rows i x r first.1 at same

-- ---- both

both_make : (r : PairRow) (broken : Option Stamp) (done : Bool) → row_in (row_in r (broken_to broken (is_suspended r.state))) (matured_by broken done r.state) ≡ row_in r (state_by_group broken done r.state)
both_make r (Some time) done = refl
both_make r None done = refl

pub groups_are_changes : (level : Level) (breaks : List (Option ℕ)) (group : FormedGroup) (rows : List PairRow) → devices_apart rows ≡ true → are_breaks_at_cut breaks group ≡ true
    → after_changes level (group_changes group rows) rows ≡ rows_with_group group rows
groups_are_changes level breaks group rows apart are =
    let reach = reach_of level rows in
    after_rows level (group_changes group rows) rows ∙ same_map (row_after reach (group_changes group rows)) (row_with_group group) rows (λ i x at.
    let broken = broken_to (shown_break x.control group.breaks) (is_suspended x.state) in
    rows_append reach (map (breaking group.cut.0) group.breaks) (flat_map (maturing_of group) rows) x
    ∙ ap (row_after reach (flat_map (maturing_of group) rows)) (breaks_make reach breaks group.cut.0 group.breaks x are)
    ∙ matures_make reach group rows i x (row_in x broken) apart at (device_in x broken) ∙ both_make x (shown_break x.control group.breaks) (is_shown_done group x))
