-- A row that is resumed and suspended again as it was: its plan if it owes no track, and the rows.
use Rattle.std.proofs.Common.{◌≡◌, ℕ, zero, suc, Bool, true, false, cond, not, ◌&&◌, List, [], ◌∷◌, Option, Some, None, refl, sym, ap, ◌∙◌, arith, true≢false}
use Rattle.std.specs.List.{Contains, list_all}
use Rattle.std.specs.Option.{option_map}
use Rattle.std.proofs.lemmas.Bool.{eqb-true}
use Rattle.std.proofs.lemmas.List.Elements.{All-get_or}
use Rattle.change_map.specs.Sets.{has_track, size}
use Rattle.pair_table.specs.declared.row.PairRow.{PairRow}
use Rattle.pair_table.specs.Rows.{is_suspended}
use Rattle.pair_table.specs.Tables.{changed_row, in_state, is_of, none_clash, resumed_in, with_resumed, with_state}
use Rattle.pending_queue.specs.Entries.{WaitingEntry, is_copy_of, is_of_volume}
use Rattle.group_state.specs.declared.volume.Volume.{Volume}
use Rattle.group_state.specs.Volumes.{owed, owed_in, passes, resumed_volume, volume_of, wants}
use Rattle.group_state.specs.Controls.{ControlState, new_control, resumed}
use Rattle.group_state.specs.Groups.{Group, control_at}
use Rattle.group_state.specs.Machine.{group_after}
use Rattle.group_state.specs.Machine.Call.{Resume}
use Rattle.group_state.specs.SoundStates.{Sound}
use Rattle.group_state.proofs.SoundLaws.{all_up, count_cons, dropped_none, none_waits}
use Rattle.fed_logs.specs.Logs.{IsPlanDone}
use Rattle.mover.proofs.Pairs.{Among, among_of}
use Rattle.mover.proofs.Pairs.Among.{Here, Later}
use Rattle.xrc_session.specs.Taking.{IsSoundForRow, IsSoundForRows, regrouped_row, regrouped_rows}
use Rattle.xrc_session.proofs.Calls.{own_is, resume_itself}
use Rattle.xrc_session.proofs.CarriedRows.{one_of_device}
use Rattle.xrc_session.proofs.KeptRows.{sized_there}
use Rattle.xrc_session.proofs.Knowing.{passes_map}

-- ---- a plan of no track

pub none_had : (set : List Bool) (x : ℕ) → size set ≡ 0 → has_track set x ≡ false
none_had [] x none = refl
none_had (true ∷ set) x none = absurd (omega (arith, none, count_cons (λ b. b) true set))
none_had (false ∷ set) zero none = refl
none_had (false ∷ set) (suc x) none = none_had set x (omega (arith, none, count_cons (λ b. b) false set))

-- No copied track waits of a volume of which no entry does.
none_copied : (v : ℕ) (e : WaitingEntry) → not (is_of_volume v e) ≡ true → not (is_copy_of v e) ≡ true
none_copied v e = choose (is_of_volume v e)
  where
    choose : (b : Bool) → not b ≡ true → not (b && e.is_copy) ≡ true
    choose true is = absurd (true≢false (sym is))
    choose false is = refl

module _ (s : Group) (rows : List PairRow) (r : PairRow) (kept : IsSoundForRows s rows) (among : Contains rows r) (suspended : is_suspended r.state ≡ true) (none : owed r.volume (control_at s r.control).volumes ≡ 0) where
  abbrev c : ControlState
  c = control_at s r.control

  own : IsSoundForRow s r
  own = kept.each r among

  after : control_at (group_after s (Resume r.control r.volume)) r.control ≡ resumed r.volume c
  after = own_is s r.control (resumed r.volume) own.low

  found : volume_of r.volume (control_at (group_after s (Resume r.control r.volume)) r.control).volumes ≡ option_map resumed_volume (volume_of r.volume c.volumes)
  found = ap (λ (d : ControlState). volume_of r.volume d.volumes) after ∙ resume_itself r.volume c

  wants_none : (o : Option Volume) → owed_in o ≡ 0 → (x : ℕ) → passes (wants x) (option_map resumed_volume o) ≡ false
  wants_none None zero_owed x = refl
  wants_none (Some u) zero_owed x = none_had u.map x zero_owed

  -- A resumed volume that owes no track has its plan done.
  pub resumed_done : IsPlanDone r.volume (control_at (group_after s (Resume r.control r.volume)) r.control)
  resumed_done = record {
    carried = ap (passes (λ u. u.carried)) found ∙ passes_map (λ u. u.carried) resumed_volume (volume_of r.volume c.volumes) ∙ sized_there _ (volume_of r.volume c.volumes) own.own.sized;
    unwanted = λ x. ap (passes (wants x)) found ∙ wants_none (volume_of r.volume c.volumes) none x;
    copies = ap (λ (d : ControlState). list_all (λ e. not (is_copy_of r.volume e)) d.queue.waiting) after
        ∙ all_up (λ e. not (is_of_volume r.volume e)) (λ e. not (is_copy_of r.volume e)) c.queue.waiting (none_copied r.volume)
        (none_waits r.volume c.volumes c.queue.waiting (dropped_none r.volume c.volumes (own.own.dropped suspended)) (All-get_or Sound s.controls r.control (new_control 0 0 0) own.low kept.keeps.sound).entries);
  }

-- ---- the rows

-- Rows with one that is resumed in a group, and then in its own state again, are as they were but for the group.
pub grouped_back : (r : PairRow) (group : Option (List ℕ)) (rows : List PairRow) → none_clash rows ≡ true → Contains rows r → with_state r.device r.state (with_resumed r.device group rows) ≡ regrouped_rows r.device group rows
grouped_back r group rows apart among = all rows (λ x there is. one_of_device r x rows apart (among_of rows r among) there (eqb-true r.device x.device is))
  where
    all : (some : List PairRow) → ((x : PairRow) → Among x some → is_of r.device x ≡ true → r ≡ x) → with_state r.device r.state (with_resumed r.device group some) ≡ regrouped_rows r.device group some
    all [] same = refl
    all (x ∷ some) same = λ i. head (is_of r.device x) refl i ∷ all some (λ y there. same y (Later x some there)) i
      where
        head : (b : Bool) → is_of r.device x ≡ b → changed_row r.device r.state (cond b (resumed_in group x) x) ≡ cond b (regrouped_row group x) x
        head true is = ap (λ (c : Bool). cond c (in_state r.state (resumed_in group x)) (resumed_in group x)) is ∙ ap (λ (y : PairRow). record x { state = y.state; group = group }) (same x (Here some) is)
        head false is = ap (λ (c : Bool). cond c (in_state r.state x) x) is
