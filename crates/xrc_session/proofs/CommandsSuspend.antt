-- Rows that a command suspends, or hits after it, are suspended since its time.
use Rattle.std.proofs.Common.{◌≡◌, ◌⊎◌, inl, inr, ℕ, ◌<◌, Bool, true, false, cond, not, nat_eq, List, [], ◌∷◌, ◌++◌, map, length, Option, Some, None, refl, sym, ap, subst, ◌∙◌, true≢false}
use Rattle.std.specs.Prelude.{IsSomeAnd}
use Rattle.std.proofs.lemmas.Bool.{eq-eqb, eqb-true}
use Rattle.tod_stamp.specs.declared.stamp.Stamp.{Stamp}
use Rattle.pair_table.specs.declared.command.Change.{Change}
use Rattle.pair_table.specs.declared.command.Change.TheVariants.{Added, Nothing, Resumed}
use Rattle.pair_table.specs.declared.command.Choice.{Choice}
use Rattle.pair_table.specs.declared.command.Command.{Command}
use Rattle.pair_table.specs.declared.command.Command.TheVariants.{Start, AddPair, DelPair, Suspend, Query, End}
use Rattle.pair_table.specs.declared.level.Level.{Level}
use Rattle.pair_table.specs.declared.names.NamedDevice.{NamedDevice}
use Rattle.pair_table.specs.declared.names.NamedVolume.{NamedVolume}
use Rattle.pair_table.specs.declared.row.PairRow.{PairRow}
use Rattle.pair_table.specs.declared.row.PairState.{PairState}
use Rattle.pair_table.specs.declared.row.PairState.TheVariants.{Pending, Copy, Duplex, Suspended}
use Rattle.pair_table.specs.declared.row.SuspendCause.{SuspendCause}
use Rattle.pair_table.specs.declared.row.SuspendCause.TheVariants.{Command as ByCommand, Device as ByDevice}
use Rattle.pair_table.specs.Commands.{add_to, added, change_of, is_chosen, is_to_suspend, new_row, new_row_for, rows_after, suspended_since}
use Rattle.pair_table.specs.Devices.{is_among}
use Rattle.pair_table.specs.Naming.{Naming, labelled_device, primary_of}
use Rattle.pair_table.specs.Refusals.{is_of_primary, row_of_primary}
use Rattle.pair_table.specs.Rows.{is_suspended}
use Rattle.pair_table.specs.Tables.{in_state, is_of, none_clash, resumed_in, row_changed, row_of}
use Rattle.pair_table.proofs.FindLaws.{found_passes}
use Rattle.pair_table.proofs.StateLaws.{changed_of_primary}
use Rattle.group_state.specs.Controls.{counts}
use Rattle.group_state.specs.Groups.{Group, control_at}
use Rattle.row_changes.specs.Changes.{FaultReach, hit_row, reach_of, reached_row, since}
use Rattle.record_rows.specs.Hits.{hit_now, rows_hit}
use Rattle.record_rows.specs.Records.{rows_with_hits}
use Rattle.mover.proofs.Pairs.{Among, among_cases, among_of, found_of_device}
use Rattle.xrc_session.specs.MapsTaken.{StaysAs, SuspendsAt}
use Rattle.xrc_session.specs.Taking.{MayTake, as_pending, is_begun}
use Rattle.xrc_session.proofs.CarriedRows.{among_either, among_kept}
use Rattle.xrc_session.proofs.KeptRows.{apart_last}
use Rattle.xrc_session.proofs.RestingRows.{map_back}

-- ---- since a time

-- A state is suspended, if it is, since this time.
abbrev SuspendedAt : (time : ℕ) → PairState → Type 0
SuspendedAt time state = (cause : SuspendCause) (from : Stamp) → state ≡ Suspended cause from → from.0 ≡ time

abbrev time_of : PairState → ℕ
time_of Pending = 0
time_of Copy = 0
time_of Duplex = 0
time_of (Suspended cause from) = from.0

at_time : (why : SuspendCause) (time : ℕ) (state : PairState) → state ≡ since why time → SuspendedAt time state
at_time why time state at cause from is = ap time_of (sym is ∙ at)

not_pending : (state : PairState) (cause : SuspendCause) (from : Stamp) → state ≡ Suspended cause from → state ≡ Pending → ⊥
not_pending state cause from is pending = true≢false (ap is_suspended (sym is ∙ pending))

-- ---- hits

-- A row after hits is one of those before them, or is suspended since their time.
hit_or_there : (level : Level) (time : ℕ) (hit : List ℕ) (rows : List PairRow) (z : PairRow) → Among z (rows_hit level time hit rows) → Among z rows ⊎ SuspendedAt time z.state
hit_or_there level time [] rows z there = inl there
hit_or_there level time (d ∷ hit) rows z there =
    let back = map_back (λ r. reached_row reach (d ∷ hit) time (hit_row (d ∷ hit) time r)) z rows there in
    elim (reached (hit_row (d ∷ hit) time back.0)) [
      | inr suspended ↦ inr (at_time reach.cause time z.state (ap (λ (x : PairRow). x.state) (sym back.2) ∙ suspended))
      | inl stays ↦ by_hit back.0 back.1 (sym stays ∙ back.2) (is_among back.0.device (d ∷ hit)) refl
    ]
  where
    reach : FaultReach
    reach = reach_of level rows

    by_flags : (y : PairRow) (b c : Bool) → (let x : PairRow = cond b (cond c y (in_state (since reach.cause time) y)) y in (x ≡ y) ⊎ (x.state ≡ since reach.cause time))
    by_flags y true true = inl refl
    by_flags y true false = inr refl
    by_flags y false c = inl refl

    reached : (y : PairRow) → (reached_row reach (d ∷ hit) time y ≡ y) ⊎ ((reached_row reach (d ∷ hit) time y).state ≡ since reach.cause time)
    reached y = by_flags y (reach.reaches (d ∷ hit) y) (is_suspended y.state)

    by_hit : (x : PairRow) → Among x rows → hit_row (d ∷ hit) time x ≡ z → (b : Bool) → is_among x.device (d ∷ hit) ≡ b → Among z rows ⊎ SuspendedAt time z.state
    by_hit x among same true is = inr (at_time ByDevice time z.state (ap (λ (y : PairRow). y.state) (sym same) ∙ ap (λ (b : Bool). (cond b (in_state (since ByDevice time) x) x).state) is))
    by_hit x among same false is = inl (subst (λ (y : PairRow). Among y rows) (sym (ap (λ (b : Bool). cond b (in_state (since ByDevice time) x) x) is) ∙ same) among)

-- ---- a command

module _ (names : Naming) (time : ℕ) (s : Group) (rows after : List PairRow) (apart : none_clash rows ≡ true) where
  -- A row is suspended, if it is, since this time, or as it was before, and the command didn't begin it.
  abbrev Rests : Change → PairRow → Type 0
  Rests change y = (cause : SuspendCause) (from : Stamp) → y.state ≡ Suspended cause from → StaysAs change rows y ⊎ (from.0 ≡ time)

  stays : (change : Change) (y : PairRow) → Among y rows → is_begun change y.device ≡ false → Rests change y
  stays change y there other cause from is = inl (record { other = other; was = y; found = found_of_device y rows apart there; same = refl })

  begins : (change : Change) (y : PairRow) → y.state ≡ Pending → Rests change y
  begins change y pending cause from is = absurd (not_pending y.state cause from is pending)

  resumed : (primary : List ℕ) (group : Option (List ℕ)) (found : PairRow) (y : PairRow) → row_of_primary primary rows ≡ Some found → Among y (map (λ x. cond (is_of_primary found.primary x) (resumed_in group x) x) rows) → Rests (Resumed found.device) y
  resumed primary group found y is there =
      let back = map_back (row_changed found.device (resumed_in group)) y rows (subst (Among y) (sym (changed_of_primary primary (resumed_in group) rows found apart is)) there) in
      by_device (is_of found.device back.0) back.0 back.1 refl back.2
    where
      by_device : (b : Bool) (x : PairRow) → Among x rows → is_of found.device x ≡ b → cond b (resumed_in group x) x ≡ y → Rests (Resumed found.device) y
      by_device true x among is same = begins (Resumed found.device) y (ap (λ (r : PairRow). r.state) (sym same))
      by_device false x among is same = subst (Rests (Resumed found.device)) same (stays (Resumed found.device) x among is)

  -- A row that was there isn't of the device whose row is added.
  not_added : (device : ℕ) (y : PairRow) → MayTake s (Added device) rows after → Among y rows → nat_eq device y.device ≡ false
  not_added device y may among = by_flag (nat_eq device y.device) refl
    where
      other : (o : Option PairRow) → row_of device after ≡ o → IsSomeAnd o (λ x. (x.control < length s.controls) × (counts (control_at s x.control).phase ≡ true)) → none_clash (rows ++ as_pending o) ≡ true → nat_eq device y.device ≡ true → ⊥
      other None is none clear same = none
      other (Some new) is begun clear same =
          true≢false
          (sym (eq-eqb y.device new.device (sym (eqb-true device y.device same) ∙ eqb-true device new.device (found_passes (is_of device) after new is)))
          ∙ (apart_last (in_state Pending new) y rows clear among).device)

      by_flag : (b : Bool) → nat_eq device y.device ≡ b → b ≡ false
      by_flag false is = refl
      by_flag true is = absurd (other (row_of device after) refl may.begun may.apart is)

  pair_rests : (secondary : List ℕ) (group : Option (List ℕ)) (o : Option PairRow) (v : Option NamedVolume) (l : Option NamedDevice) (primary : List ℕ) → row_of_primary primary rows ≡ o → MayTake s (added o l) rows after → (y : PairRow) → Among y (add_to group rows o (new_row_for secondary group v l)) → Rests (added o l) y
  pair_rests secondary group (Some found) v l primary is may y there = resumed primary group found y is there
  pair_rests secondary group None (Some v) (Some l) primary is may y there = elim (among_either y (new_row secondary group v l) rows there) [
    | inl before ↦ stays (Added l.device) y before (not_added l.device y may before)
    | inr same ↦ begins (Added l.device) y (ap (λ (r : PairRow). r.state) (sym same))
  ]
  pair_rests secondary group None None (Some l) primary is may y there = stays (Added l.device) y there (not_added l.device y may there)
  pair_rests secondary group None (Some v) None primary is may y there = stays Nothing y there refl
  pair_rests secondary group None None None primary is may y there = stays Nothing y there refl

  suspended : (choice : Choice) (change : Change) (y : PairRow) → Among y (map (suspended_since choice time) rows) → ((x : PairRow) → is_begun change x.device ≡ false) → Rests change y
  suspended choice change y there none =
      let back = map_back (suspended_since choice time) y rows there in
      by_choice (is_to_suspend choice back.0) back.0 back.1 refl back.2
    where
      by_choice : (b : Bool) (x : PairRow) → Among x rows → is_to_suspend choice x ≡ b → cond b (in_state (since ByCommand time) x) x ≡ y → Rests change y
      by_choice true x among is same = λ cause from at. inr (at_time ByCommand time y.state (ap (λ (r : PairRow). r.state) (sym same)) cause from at)
      by_choice false x among is same = subst (Rests change) same (stays change x among (none x))

  rests : (command : Command) → MayTake s (change_of names command rows) rows after → (y : PairRow) → Among y (rows_after names time command rows) → Rests (change_of names command rows) y
  rests (Start level) may y there = absurd (among_cases y [] there)
  rests (AddPair primary secondary group) may y there = pair_rests secondary group (row_of_primary primary rows) (primary_of primary names) (labelled_device secondary names) primary refl may y there
  rests (DelPair choice) may y there = stays (change_of names (DelPair choice) rows) y (among_kept (λ r. not (is_chosen choice r)) y rows there).0 refl
  rests (Suspend choice) may y there = suspended choice (change_of names (Suspend choice) rows) y there (λ x. refl)
  rests Query may y there = stays (change_of names Query rows) y there refl
  rests End may y there = stays (change_of names End rows) y there refl

  -- The rows after a command and hits of its time are suspended since then, if they aren't as before.
  pub commands_suspend : (command : Command) (change : Change) (level : Level) (failed : List Bool) → change_of names command rows ≡ change → MayTake s change rows after → after ≡ rows_with_hits level time failed (rows_after names time command rows) → SuspendsAt time change rows after
  commands_suspend command change level failed made may are z cause from has is =
      elim (hit_or_there level time (hit_now failed (rows_after names time command rows)) (rows_after names time command rows) z (subst (Among z) are (among_of after z has))) [
        | inl there ↦ subst (λ (c : Change). StaysAs c rows z ⊎ (from.0 ≡ time)) made (rests command (subst (λ (c : Change). MayTake s c rows after) (sym made) may) z there cause from is)
        | inr at ↦ inr (at cause from is)
      ]
