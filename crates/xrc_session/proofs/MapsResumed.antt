-- What a resume wants of its row's volume: the tracks that the row owed.
use Rattle.std.proofs.Common.{◌≡◌, ℕ, ◌<◌, Bool, true, false, cond, List, [], ◌∷◌, ◌++◌, length, Option, Some, None, refl, sym, ap, subst, ◌∙◌, arith, true≢false}
use Rattle.std.specs.Prelude.{IfSome}
use Rattle.std.specs.List.{Contains, flat_map}
use Rattle.std.specs.Option.{option_map}
use Rattle.change_map.specs.Sets.{has_track}
use Rattle.pair_table.specs.declared.command.Change.{Change}
use Rattle.pair_table.specs.declared.command.Change.TheVariants.{Resumed}
use Rattle.pair_table.specs.declared.row.PairRow.{PairRow}
use Rattle.pair_table.specs.declared.row.PairState.{PairState}
use Rattle.pair_table.specs.declared.row.PairState.TheVariants.{Pending, Copy, Duplex, Suspended}
use Rattle.pair_table.specs.Rows.{is_suspended}
use Rattle.pair_table.specs.Tables.{in_state, none_clash, resumed_in, row_of, with_resumed}
use Rattle.group_state.specs.declared.volume.Volume.{Volume}
use Rattle.group_state.specs.Controls.{ControlState, counts, resumed}
use Rattle.group_state.specs.Groups.{Group, control_at}
use Rattle.group_state.specs.Machine.{Call, group_after}
use Rattle.group_state.specs.Machine.Call.{Drop, Resume}
use Rattle.group_state.specs.Volumes.{is_wanted, passes, resumed_volume, volume_of, wants}
use Rattle.group_state.proofs.Kept.{kept_next}
use Rattle.consistency.specs.Stages.{ScriptRun, tracks_of_row}
use Rattle.consistency.specs.Leads.{Point}
use Rattle.consistency.specs.Owing.{owes_track}
use Rattle.consistency.specs.Ways.{PassedPoint}
use Rattle.fed_logs.proofs.Standing.{same_count}
use Rattle.mover.proofs.Pairs.{Among, among_of, apart_still, found_of_device}
use Rattle.xrc_session.specs.MapsOwed.{MapsOwed}
use Rattle.pair_table.specs.States.{owes}
use Rattle.xrc_session.specs.Taking.{AllMay, IsSoundForRows, MayTake, after_calls, calls_of_change, command_calls, drop_call, drop_calls, pair_group_after, owes_again, resume_calls, rows_by_command, stands_again, state_by_command, tracks_owed_to, regrouped_rows}
use Rattle.xrc_session.proofs.Calls.{own_is, resume_itself}
use Rattle.xrc_session.proofs.CarriedRows.{itself_among, one_of_device}
use Rattle.xrc_session.proofs.Changed.{Kept, no_plans, taken}
use Rattle.xrc_session.proofs.JoinsLanes.{Each}
use Rattle.xrc_session.proofs.MapsCommands.{all_off, came_from, split_at}
use Rattle.xrc_session.proofs.MapsOff.{IsLeft, IsOff, calls_left}
use Rattle.xrc_session.proofs.Walking.{Walked, same_after}

-- No drop leads to a state that isn't suspended.
no_drop : (was is : PairState) → is_suspended is ≡ false → owes was is ≡ None
no_drop was Pending live = refl
no_drop was Copy live = refl
no_drop was Duplex live = refl
no_drop was (Suspended cause since) live = absurd (true≢false live)

-- A volume that is resumed wants the tracks of its map.
wants_mapped : (x : ℕ) (o : Option Volume) → passes (wants x) (option_map resumed_volume o) ≡ passes (λ u. has_track u.map x) o
wants_mapped x None = refl
wants_mapped x (Some u) = refl

-- A row that a command resumes was suspended, and its controller counts.
pub resumed_was : (s : Group) (before after : List PairRow) (r : PairRow) → none_clash before ≡ true → Contains before r → MayTake s (Resumed r.device) before after → (is_suspended r.state ≡ true) × (counts (control_at s r.control).phase ≡ true)
resumed_was s before after r apart there may =
    subst (λ (o : Option PairRow). IfSome o (λ y. (is_suspended y.state ≡ true) × (counts (control_at s y.control).phase ≡ true))) (found_of_device r before apart (among_of before r there)) may.begun

module _ (run : ScriptRun) (first : Point) (points : List PassedPoint) (p : Point) (after : List PairRow) (s : Group) (kept : IsSoundForRows s p.rows) (owed : MapsOwed run first points p s) (r z : PairRow) (may : MayTake s (Resumed r.device) p.rows after) (in_before : Contains p.rows r) (in_after : Contains after z)
    (same : z.device ≡ r.device) (live : is_suspended z.state ≡ false) where
  abbrev before : List PairRow
  before = p.rows

  abbrev change : Change
  change = Resumed r.device

  abbrev k : ℕ
  k = r.control

  abbrev v : ℕ
  v = r.volume

  abbrev drops : List Call
  drops = flat_map (drop_calls change before) after

  abbrev end : Group
  end = after_calls (calls_of_change change s before after) s

  abbrev t : Group
  t = group_after s (Resume k v)

  clear : none_clash after ≡ true
  clear = apart_still (rows_by_command change before after) after (same_after (rows_by_command change before after) after may.follow) may.apart

  there : Among z after
  there = among_of after z in_after

  found : row_of r.device before ≡ Some r
  found = found_of_device r before kept.apart (among_of before r in_before)

  found_after : row_of r.device after ≡ Some z
  found_after = ap (λ (d : ℕ). row_of d after) (sym same) ∙ found_of_device z after clear there

  fresh : stands_again (row_of r.device before) (row_of r.device after) ≡ false
  fresh = (λ i. stands_again (found i) (found_after i)) ∙ off (is_suspended z.state) live
    where
      off : (b : Bool) → b ≡ false → stands_again (Some r) (Some z) ≡ false
      off b is = rw (live, stands_again) refl

  abbrev group : Option (List ℕ)
  group = pair_group_after r.device after

  rows_are : rows_by_command change before after ≡ with_resumed r.device group before
  rows_are = ap (λ (b : Bool). cond b (regrouped_rows r.device group before) (with_resumed r.device group before)) fresh

  -- It has the pair of the row, in its new group.
  is_pair : z ≡ in_state z.state (resumed_in group r)
  is_pair =
      let from = came_from (rows_by_command change before after) after z may.follow there in
      let among = subst (Among from.row) rows_are from.among in
      let apart = subst (λ (rows : List PairRow). none_clash rows ≡ true) rows_are may.apart in
      let device : from.row.device ≡ r.device = sym (ap (λ (y : PairRow). y.device) from.goes.same) ∙ same in
      from.goes.same ∙ ap (in_state z.state) (one_of_device from.row (resumed_in group r) (with_resumed r.device group before) apart among (itself_among r (resumed_in group) (λ y. refl) before kept.apart (among_of before r in_before)) device)

  own_are : command_calls change s before after ≡ Resume k v ∷ []
  own_are =
      (λ i. resume_calls s (found i) (row_of r.device after))
      ∙ ap (λ (b : Bool). Resume k v ∷ cond b (Drop k v (owes_again (tracks_owed_to s (Some r)) r.state) ∷ []) []) (ap (λ (o : Option PairRow). stands_again o (row_of r.device after)) (sym found) ∙ fresh)

  walk : Walked Kept (calls_of_change change s before after) s after no_plans
  walk = taken s change before after kept may

  mays : AllMay ((Resume k v ∷ []) ++ drops) s
  mays = subst (λ (calls : List Call). AllMay (calls ++ drops) s) own_are walk.may

  off_z : Each (IsOff z.control z.volume) drops
  off_z = all_off change before z drops (split_at change before z after clear there) (ap (drop_call z) (no_drop (state_by_command change before z) z.state live))

  off : Each (IsOff k v) drops
  off = subst (λ (y : PairRow). Each (IsOff y.control y.volume) drops) is_pair off_z

  low : k < length s.controls
  low = (kept.each r in_before).low

  left : IsLeft k v t (after_calls drops t)
  left = calls_left k v drops t off mays.1 (kept_next s (Resume k v) kept.keeps mays.0) (let same = same_count s k (resumed v) in omega (arith, low, same))

  -- What is wanted of its volume is what it owed.
  pub wants_owed : (x : ℕ) → x < tracks_of_row r → is_wanted v x (control_at end k).volumes ≡ owes_track run first points r p.time x
  wants_owed x under =
      let was = resumed_was s before after r kept.apart in_before may in
      ap (λ (calls : List Call). passes (wants x) (volume_of v (control_at (after_calls (calls ++ drops) s) k).volumes)) own_are
      ∙ ap (passes (wants x)) left.found
      ∙ ap (λ (c : ControlState). passes (wants x) (volume_of v c.volumes)) (own_is s k (resumed v) low)
      ∙ ap (passes (wants x)) (resume_itself v (control_at s k))
      ∙ wants_mapped x (volume_of v (control_at s k).volumes)
      ∙ owed r in_before was.0 was.1 x under
