-- Maps have what rows owe after a command's change, where they had it before.
use Rattle.std.proofs.Common.{◌≡◌, inl, inr, ℕ, suc, ◌<◌, Bool, true, false, cond, not, nat_eq, ◌&&◌, ◌||◌, List, [], ◌∷◌, ◌++◌, length, Option, Some, None, refl, sym, ap, subst, ◌∙◌, arith, true≢false}
use Rattle.std.specs.Prelude.{IfSome, IsSomeAnd}
use Rattle.std.specs.List.{flat_map, list_all}
use Rattle.std.specs.Option.{option_map}
use Rattle.std.proofs.lemmas.Bool.{eq-eqb, eqb-true}
use Rattle.std.proofs.lemmas.List.{append_assoc}
use Rattle.std.proofs.lemmas.Option.{same_Some, slice_get-get_or}
use Rattle.tod_stamp.specs.declared.stamp.Stamp.{Stamp}
use Rattle.change_map.specs.Sets.{has_track, size}
use Rattle.change_map.proofs.InSets.{has_none}
use Rattle.pair_table.specs.declared.command.Change.{Change}
use Rattle.pair_table.specs.declared.command.Change.TheVariants.{Nothing, Started, Added, Resumed, Gone, Suspended as SuspendedRows, Ended}
use Rattle.pair_table.specs.declared.row.PairRow.{PairRow}
use Rattle.pair_table.specs.declared.row.PairState.{PairState}
use Rattle.pair_table.specs.declared.row.PairState.TheVariants.{Pending, Copy, Duplex, Suspended}
use Rattle.pair_table.specs.declared.row.SuspendCause.{SuspendCause}
use Rattle.pair_table.specs.Rows.{is_suspended}
use Rattle.pair_table.specs.Tables.{in_state, is_of, none_clash, row_of, with_resumed}
use Rattle.pair_table.proofs.FindLaws.{found_passes}
use Rattle.group_state.specs.declared.volume.Volume.{Volume}
use Rattle.group_state.specs.Controls.{ControlState, counts, resumed}
use Rattle.group_state.specs.Groups.{Group, control_at}
use Rattle.group_state.specs.Machine.{Call, group_after}
use Rattle.group_state.specs.Machine.Call.{Drop, Resume}
use Rattle.group_state.specs.SoundStates.{IsGroupSound}
use Rattle.group_state.specs.Volumes.{owed, owed_in, passes, resumed_volume, volume_of}
use Rattle.group_state.proofs.Kept.{kept_next}
use Rattle.pair_table.specs.States.{is_by_device, is_device_suspended, owes as owes_between}
use Rattle.record_rows.proofs.Devices.{apart_of}
use Rattle.passages.specs.Points.{last_point}
use Rattle.consistency.specs.Stages.{ScriptRun, tracks_of_row}
use Rattle.consistency.specs.Leads.{Point}
use Rattle.consistency.specs.Owing.{has_pair_in, is_changed, is_same_state, owes_in, owes_track, was_duplex}
use Rattle.consistency.specs.Ways.{PassedPoint}
use Rattle.fed_logs.specs.Logs.{is_of_size}
use Rattle.fed_logs.proofs.Standing.{same_count}
use Rattle.mover.proofs.Pairs.{Among, among_of, apart_still, contains_of, found_of_device}
use Rattle.xrc_session.specs.Maps.{RestsAtCut, maps_track}
use Rattle.xrc_session.specs.MapsOwed.{MapsOwed, MapsRest, SuspendedUpTo}
use Rattle.xrc_session.specs.MapsTaken.{MapsOwedAfterChanges, PassesBy, SuspendsAt}
use Rattle.xrc_session.specs.Taking.{AllMay, IsSoundForRow, IsSoundForRows, MayTake, after_calls, as_pending, calls_of_change, command_calls, drop_call, drop_calls, pair_group_after, regrouped_row, is_begun, is_suspended_as, owes_again}
use Rattle.xrc_session.specs.Taking.{resume_calls, rows_by_command, stands_again, state_by_command, state_or_pending, tracks_owed_to, regrouped_rows}
use Rattle.xrc_session.proofs.CallRuns.{after_both, first_may, second_may}
use Rattle.xrc_session.proofs.Calls.{own_is, resume_itself}
use Rattle.xrc_session.proofs.CarriedRows.{changed_pairs, itself_among, one_of_device}
use Rattle.xrc_session.proofs.Changed.{Kept, no_plans, taken}
use Rattle.xrc_session.proofs.Commanded.{same_states}
use Rattle.xrc_session.proofs.JoinsLanes.{Each, changes_stay, each_of_both}
use Rattle.xrc_session.proofs.KeptRows.{apart_last}
use Rattle.xrc_session.proofs.MapsChanged.{none_changed}
use Rattle.xrc_session.proofs.MapsCommands.{ComesFrom, SplitAt, WasThere, all_off, came_from, command_off, split_at, was_there}
use Rattle.xrc_session.proofs.MapsMarks.{duplex_after, duplex_before, never_in, state_sym}
use Rattle.xrc_session.proofs.MapsOff.{IsOff, after_count, calls_keep, calls_left, done_quiet, dropped_part, dropped_quiet, dropped_whole, is_off_volume, maps_keep}
use Rattle.xrc_session.proofs.MapsOwed.{suspended_as}
use Rattle.xrc_session.proofs.MapsStates.{live_other, pair_at, same_itself}
use Rattle.xrc_session.proofs.StandsAgain.{none_had}
use Rattle.xrc_session.proofs.Walking.{Walked, begun_state, found_in, same_after}

-- ---- a set that has a track

pub record HasSome (set : List Bool) : Type 0 where
  pub track : ℕ
  pub low : track < length set
  pub has : has_track set track ≡ true

some_had : (set : List Bool) → (size set ≡ 0 → ⊥) → HasSome set
some_had [] never = absurd (never refl)
some_had (true ∷ set) never = record { track = 0; low = omega arith; has = refl }
some_had (false ∷ set) never = let h = some_had set never in record { track = suc h.track; low = (let low = h.low in omega (arith, low)); has = h.has }

-- A volume that owes some track has one in its map.
pub record OwesSome (n v : ℕ) (volumes : List Volume) : Type 0 where
  pub track : ℕ
  pub low : track < n
  pub has : passes (λ u. has_track u.map track) (volume_of v volumes) ≡ true

owes_some : (n v : ℕ) (volumes : List Volume) → passes (is_of_size n) (volume_of v volumes) ≡ true → nat_eq (owed v volumes) 0 ≡ false → OwesSome n v volumes
owes_some n v volumes sized some = choose (volume_of v volumes) refl sized some
  where
    choose : (o : Option Volume) → volume_of v volumes ≡ o → passes (is_of_size n) o ≡ true → nat_eq (owed_in o) 0 ≡ false → OwesSome n v volumes
    choose None is sized some = absurd (true≢false (sym sized))
    choose (Some u) is sized some =
        let h = some_had u.map (λ none. true≢false (sym (eq-eqb (size u.map) 0 none) ∙ some)) in
        record { track = h.track; low = subst (λ (m : ℕ). h.track < m) (eqb-true (length u.map) n sized) h.low; has = ap (passes (λ u. has_track u.map h.track)) is ∙ h.has }

owes_none : (v x : ℕ) (volumes : List Volume) → owed v volumes ≡ 0 → passes (λ u. has_track u.map x) (volume_of v volumes) ≡ false
owes_none v x volumes none = choose (volume_of v volumes) none
  where
    choose : (o : Option Volume) → owed_in o ≡ 0 → passes (λ u. has_track u.map x) o ≡ false
    choose None none = refl
    choose (Some u) none = none_had u.map x none

-- ---- a row that a command begins

not_duplex_now : (state : PairState) → is_suspended state ≡ true → is_same_state Duplex state ≡ false
not_duplex_now Pending e = absurd cc
not_duplex_now Copy e = absurd cc
not_duplex_now Duplex e = absurd cc
not_duplex_now (Suspended cause since) e = refl

-- If there was a row of its device before, the command resumes it, and it was suspended.
was_resumed : (s : Group) (change : Change) (before after : List PairRow) (z r : PairRow) → MayTake s change before after → is_begun change z.device ≡ true → Among r before → nat_eq z.device r.device ≡ true → none_clash before ≡ true
    → (change ≡ Resumed z.device) × (is_suspended r.state ≡ true)
was_resumed s Nothing before after z r may begun among same apart = absurd (true≢false (sym begun))
was_resumed s Started before after z r may begun among same apart = absurd (true≢false (sym begun))
was_resumed s (Added device) before after z r may begun among same apart = absurd (choose (row_of device after) refl may.begun may.apart)
  where
    choose : (o : Option PairRow) → row_of device after ≡ o → IsSomeAnd o (λ x. (x.control < length s.controls) × (counts (control_at s x.control).phase ≡ true)) → none_clash (before ++ as_pending o) ≡ true → ⊥
    choose None is none apart = none
    choose (Some new) is begins apart =
        true≢false
        (sym (eq-eqb r.device new.device (sym (eqb-true z.device r.device same) ∙ sym (eqb-true device z.device begun) ∙ eqb-true device new.device (found_passes (is_of device) after new is)))
        ∙ (apart_last (in_state Pending new) r before apart among).device)
was_resumed s (Resumed device) before after z r may begun among same apart =
    let found = ap (λ (d : ℕ). row_of d before) (eqb-true device z.device begun ∙ eqb-true z.device r.device same) ∙ found_of_device r before apart among in
    (ap Resumed (eqb-true device z.device begun), (subst (λ (o : Option PairRow). IfSome o (λ x. (is_suspended x.state ≡ true) × (counts (control_at s x.control).phase ≡ true))) found may.begun).0)
was_resumed s (Gone devices) before after z r may begun among same apart = absurd (true≢false (sym begun))
was_resumed s (SuspendedRows devices) before after z r may begun among same apart = absurd (true≢false (sym begun))
was_resumed s Ended before after z r may begun among same apart = absurd (true≢false (sym begun))

-- ---- one row

failed_or : (a b c : Bool) → a ≡ true → (a || b || c) ≡ true
failed_or true b c e = refl
failed_or false b c e = absurd (true≢false (sym e))

-- A pair that wasn't duplex owes all.
never_owes_all : (a w c : Bool) → w ≡ false → (a || not w || c) ≡ true
never_owes_all true w c e = refl
never_owes_all false true c e = absurd (true≢false e)
never_owes_all false false c e = refl

module _ (run : ScriptRun) (first : Point) (points more : List PassedPoint) (p q : Point) (s : Group) (change : Change) (kept : IsSoundForRows s p.rows) (may : MayTake s change p.rows q.rows) (on : q.time ≡ p.time) (since : SuspendsAt p.time change p.rows q.rows)
    (here : (last_point first points).rows ≡ p.rows) (passed : PassesBy p q more) (rest : MapsRest p s) (cut : s.last.0 ≡ p.time) (owed : MapsOwed run first points p s) where
  abbrev before : List PairRow
  before = p.rows

  abbrev after : List PairRow
  after = q.rows

  abbrev own_calls : List Call
  own_calls = command_calls change s before after

  abbrev drops : List Call
  drops = flat_map (drop_calls change before) after

  abbrev end : Group
  end = after_calls (calls_of_change change s before after) s

  walk : Walked Kept (calls_of_change change s before after) s after no_plans
  walk = taken s change before after kept may

  clear : none_clash after ≡ true
  clear = apart_still (rows_by_command change before after) after (same_after (rows_by_command change before after) after may.follow) may.apart

  module _ (z : PairRow) (there : Among z after) (cause : SuspendCause) (at : Stamp) (is : z.state ≡ Suspended cause at) (counted : counts (control_at end z.control).phase ≡ true) (x : ℕ) (low : x < tracks_of_row z) where
    suspends : is_suspended z.state ≡ true
    suspends = ap is_suspended is

    from : ComesFrom (rows_by_command change before after) z
    from = came_from (rows_by_command change before after) after z may.follow there

    state : state_by_command change before z ≡ from.row.state
    state = begun_state change before after s may.begun kept.apart may.apart clear from.row z from.among there from.goes.same

    device : from.row.device ≡ z.device
    device = sym (ap (λ (r : PairRow). r.device) from.goes.same)

    its : IsSoundForRow end z
    its = walk.ends.each z (contains_of z after there)

    within : z.control < length s.controls
    within = let low = its.low in let same = after_count (calls_of_change change s before after) s in omega (arith, low, same)

    counted_was : counts (control_at s z.control).phase ≡ true
    counted_was = ap counts (sym ((changes_stay change before after s).phase z.control within)) ∙ counted

    split : SplitAt change before z drops
    split = split_at change before z after clear there

    -- what it owes
    owes_is : (all : List PassedPoint) (to : ℕ) → owes_track run first all z to x ≡ (is_by_device cause || not (was_duplex z first all) || is_changed run z.control z.volume at.0 to x)
    owes_is all to = ap (λ (state : PairState). owes_in run (was_duplex z first all) z state to x) is

    abbrev Goal : Type 0
    Goal = maps_track z.volume x (control_at end z.control) ≡ (is_by_device cause || not (was_duplex z first (points ++ more)) || is_changed run z.control z.volume at.0 q.time x)

    mapped_all : maps_track z.volume x (control_at end z.control) ≡ true → is_by_device cause ≡ true → Goal
    mapped_all mapped device = mapped ∙ sym (failed_or (is_by_device cause) (not (was_duplex z first (points ++ more))) (is_changed run z.control z.volume at.0 q.time x) device)

    mapped_new : maps_track z.volume x (control_at end z.control) ≡ true → was_duplex z first (points ++ more) ≡ false → Goal
    mapped_new mapped never = mapped ∙ sym (never_owes_all (is_by_device cause) (was_duplex z first (points ++ more)) (is_changed run z.control z.volume at.0 q.time x) never)

    -- whether its pair was duplex
    itself : (state : PairState) → has_pair_in z state after ≡ is_same_state state z.state
    itself state = let has = contains_of z after there in pair_at after has.0 z z state (apart_of after clear) (slice_get-get_or after has.0 z has.1 ∙ ap Some has.2) refl

    was_after : is_by_device cause ≡ false → was_duplex z first (points ++ more) ≡ was_duplex z first points
    was_after unfailed =
        duplex_after z first p q points more here passed (ap is_device_suspended is ∙ unfailed) there (itself Duplex ∙ ap (is_same_state Duplex) is) (itself z.state ∙ same_itself z.state)

    unchanged : at.0 ≡ p.time → is_changed run z.control z.volume at.0 q.time x ≡ false
    unchanged is = ap (λ (n : ℕ). is_changed run z.control z.volume n q.time x) is ∙ ap (λ (n : ℕ). is_changed run z.control z.volume p.time n x) on ∙ none_changed run z.control z.volume p.time x

    -- a drop of its own with all of its tracks
    abbrev first_calls : List Call
    first_calls = own_calls ++ split.pre

    calls_are : (all : Bool) → owes_between (state_by_command change before z) z.state ≡ Some all → calls_of_change change s before after ≡ first_calls ++ (Drop z.control z.volume all ∷ split.post)
    calls_are all is =
        ap (λ (calls : List Call). own_calls ++ calls) (split.are ∙ ap (λ (o : Option Bool). split.pre ++ (drop_call z o ++ split.post)) is)
        ∙ sym (append_assoc own_calls split.pre (Drop z.control z.volume all ∷ split.post))

    abbrev mid : Group
    mid = after_calls first_calls s

    dropped_mid : (all : Bool) → owes_between (state_by_command change before z) z.state ≡ Some all → AllMay first_calls s × AllMay (Drop z.control z.volume all ∷ split.post) mid
    dropped_mid all is =
        let may = subst (λ (calls : List Call). AllMay calls s) (calls_are all is) walk.may in
        (first_may first_calls (Drop z.control z.volume all ∷ split.post) s may, second_may first_calls (Drop z.control z.volume all ∷ split.post) s may)

    end_is : (all : Bool) → owes_between (state_by_command change before z) z.state ≡ Some all → end ≡ after_calls split.post (group_after mid (Drop z.control z.volume all))
    end_is all is = ap (λ (calls : List Call). after_calls calls s) (calls_are all is) ∙ after_both first_calls (Drop z.control z.volume all ∷ split.post) s

    mid_within : z.control < length mid.controls
    mid_within = let same = after_count first_calls s in omega (arith, within, same)

    filled : owes_between (state_by_command change before z) z.state ≡ Some true → maps_track z.volume x (control_at end z.control) ≡ true
    filled all =
        let mays = dropped_mid true all in
        ap (λ (g : Group). maps_track z.volume x (control_at g z.control)) (end_is true all)
        ∙ dropped_whole mid z.control z.volume mid_within (calls_keep first_calls s mays.0 kept.keeps) split.post (tracks_of_row z) x split.then mays.1.1 low
        (ap (λ (g : Group). passes (is_of_size (tracks_of_row z)) (volume_of z.volume (control_at g z.control).volumes)) (sym (end_is true all)) ∙ its.own.sized)

    -- ---- one that the command didn't begin

    module _ (other : is_begun change z.device ≡ false) where
      abbrev r : PairRow
      r = from.row

      other_row : is_begun change r.device ≡ false
      other_row = ap (is_begun change) device ∙ other

      was : WasThere change before r
      was = was_there s change before after r may.begun from.among other_row

      own_off : Each (IsOff r.control r.volume) own_calls
      own_off = command_off change s before after r z kept.apart clear was there from.goes.same other_row

      off : Each (IsOff z.control z.volume) own_calls
      off = subst (λ (y : PairRow). Each (IsOff y.control y.volume) own_calls) (sym (ap (in_state r.state) from.goes.same)) own_off

      before_is : (state : PairState) → has_pair_in z state before ≡ is_same_state state r.state
      before_is state = let has = contains_of r before was.among in pair_at before has.0 r z state (apart_of before kept.apart) (slice_get-get_or before has.0 r has.1 ∙ ap Some has.2) from.goes.same

      drop_is : (state_was : PairState) → r.state ≡ state_was → owes_between (state_by_command change before z) z.state ≡ owes_between state_was (Suspended cause at)
      drop_is state_was same = λ i. owes_between ((state ∙ same) i) (is i)

      -- It was suspended, and is so still.
      stays : owes_between (state_by_command change before z) z.state ≡ None → Goal
      stays none =
          let same : z.state ≡ r.state = from.goes.stays (ap (λ (was : PairState). owes_between was z.state) (sym state) ∙ none) in
          let its : z ≡ r = from.goes.same ∙ ap (λ (state : PairState). in_state state r) same in
          let all = each_of_both (IsOff z.control z.volume) own_calls drops off (all_off change before z drops split (ap (drop_call z) none)) in
          let left = calls_left z.control z.volume (calls_of_change change s before after) s all walk.may kept.keeps within in
          ap (passes (λ u. has_track u.map x)) left.found
          ∙ owed z (contains_of z before (subst (λ (y : PairRow). Among y before) (sym its) was.among)) suspends counted_was x low
          ∙ owes_is points p.time
          ∙ by (is_by_device cause) refl
        where
          by : (b : Bool) → is_by_device cause ≡ b
              → (is_by_device cause || not (was_duplex z first points) || is_changed run z.control z.volume at.0 p.time x) ≡ (is_by_device cause || not (was_duplex z first (points ++ more)) || is_changed run z.control z.volume at.0 q.time x)
          by true device =
              failed_or (is_by_device cause) (not (was_duplex z first points)) (is_changed run z.control z.volume at.0 p.time x) device
              ∙ sym (failed_or (is_by_device cause) (not (was_duplex z first (points ++ more))) (is_changed run z.control z.volume at.0 q.time x) device)
          by false unfailed = λ i. is_by_device cause || not (sym (was_after unfailed) i) || is_changed run z.control z.volume at.0 (sym on i) x

      -- It was pending or copying.
      begins : owes_between (state_by_command change before z) z.state ≡ Some true → is_same_state Duplex r.state ≡ false → is_suspended r.state ≡ false → Goal
      begins all never live = by (is_by_device cause) refl
        where
          by : (b : Bool) → is_by_device cause ≡ b → Goal
          by true device = mapped_all (filled all) device
          by false unfailed =
              mapped_new (filled all)
              (was_after unfailed ∙ duplex_before z first p q points more here ∙ (λ i. (before_is Duplex ∙ never) i || ((before_is z.state ∙ live_other z.state r.state suspends live) i && was_duplex z first points)))

      -- It was duplex.
      leaves : r.state ≡ Duplex → Goal
      leaves duplex = by (is_by_device cause) refl
        where
          drop : owes_between (state_by_command change before z) z.state ≡ Some (is_by_device cause)
          drop = drop_is Duplex duplex

          newly : at.0 ≡ p.time
          newly = elim (since z cause at (contains_of z after there) is) [
            | inl stayed ↦
                let mine : stayed.was ≡ r = same_Some stayed.was r (sym stayed.found ∙ ap (λ (d : ℕ). row_of d before) (sym device) ∙ found_of_device r before kept.apart was.among) in
                absurd (true≢false (sym (ap is_suspended (stayed.same ∙ is)) ∙ ap is_suspended (ap (λ (y : PairRow). y.state) mine ∙ duplex)))
            | inr then ↦ then
          ]

          kept_r : IsSoundForRow s r
          kept_r = kept.each r (contains_of r before was.among)

          live : is_suspended r.state ≡ false
          live = ap is_suspended duplex

          at_z : (P : (k v : ℕ) → Type 0) → P r.control r.volume → P z.control z.volume
          at_z P h = subst (λ (y : PairRow). P y.control y.volume) (sym (ap (in_state r.state) from.goes.same)) h

          quiet : list_all (is_off_volume z.volume) (control_at s z.control).queue.waiting ≡ true
          quiet = at_z (λ k v. list_all (is_off_volume v) (control_at s k).queue.waiting ≡ true)
              (done_quiet s r.control r.volume p.time kept.keeps rest.keeps (rest.rests cut) kept_r.low (kept_r.counted live) (kept_r.done duplex))

          empty : maps_track z.volume x (control_at s z.control) ≡ false
          empty = at_z (λ k v. maps_track v x (control_at s k) ≡ false) (rest.keeps.empty r.control r.volume x kept_r.low (kept_r.own.carried live))

          flags : (a w c : Bool) → a ≡ false → w ≡ true → c ≡ false → (a || not w || c) ≡ false
          flags a w c e f g = λ i. e i || not (f i) || g i

          by : (b : Bool) → is_by_device cause ≡ b → Goal
          by true device = mapped_all (filled (drop ∙ ap Some device)) device
          by false unfailed =
              let part = drop ∙ ap Some unfailed in
              let mays = dropped_mid false part in
              let left = calls_left z.control z.volume first_calls s (each_of_both (IsOff z.control z.volume) own_calls split.pre off split.first) mays.0 kept.keeps within in
              ap (λ (g : Group). maps_track z.volume x (control_at g z.control)) (end_is false part)
              ∙ dropped_part mid z.control z.volume mid_within (calls_keep first_calls s mays.0 kept.keeps) split.post x split.then mays.1.1 (left.quiet quiet)
              ∙ ap (passes (λ u. has_track u.map x)) left.found
              ∙ empty
              ∙ sym (flags (is_by_device cause) (was_duplex z first (points ++ more)) (is_changed run z.control z.volume at.0 q.time x) unfailed
              (was_after unfailed ∙ duplex_before z first p q points more here ∙ (λ i. (before_is Duplex ∙ ap (is_same_state Duplex) duplex) i || (has_pair_in z z.state before && was_duplex z first points)))
              (unchanged newly))

      pub not_begun : Goal
      not_begun = by r.state refl
        where
          again : (early : SuspendCause) (b : Bool) → (is_by_device cause && not (is_by_device early)) ≡ b → owes_between (state_by_command change before z) z.state ≡ cond b (Some true) None → Goal
          again early true both drop = mapped_all (filled drop) (left_of (is_by_device cause) (not (is_by_device early)) both)
            where
              left_of : (a b : Bool) → (a && b) ≡ true → a ≡ true
              left_of true b e = refl
              left_of false b e = absurd (true≢false (sym e))
          again early false both drop = stays drop

          by : (was : PairState) → r.state ≡ was → Goal
          by Pending same = begins (drop_is Pending same) (ap (is_same_state Duplex) same) (ap is_suspended same)
          by Copy same = begins (drop_is Copy same) (ap (is_same_state Duplex) same) (ap is_suspended same)
          by Duplex same = leaves same
          by (Suspended early then) same =
              again early (is_by_device cause && not (is_by_device early)) refl (drop_is (Suspended early then) same)

    -- ---- one that it began

    module _ (begun : is_begun change z.device ≡ true) where
      newly : at.0 ≡ p.time
      newly = elim (since z cause at (contains_of z after there) is) [ inl stayed ↦ absurd (true≢false (sym begun ∙ stayed.other)) | inr then ↦ then ]

      before_now : (y : ℕ) → is_changed run z.control z.volume at.0 p.time y ≡ false
      before_now y = ap (λ (n : ℕ). is_changed run z.control z.volume n p.time y) newly ∙ none_changed run z.control z.volume p.time y

      -- It is pending after the command.
      module _ (fresh : stands_again (row_of z.device before) (Some z) ≡ false) where
        drop : owes_between (state_by_command change before z) z.state ≡ Some true
        drop =
            ap (λ (b : Bool). owes_between (cond (b && not (stands_again (row_of z.device before) (Some z))) Pending (state_or_pending (row_of z.device before))) z.state) begun
            ∙ ap (λ (b : Bool). owes_between (cond (not b) Pending (state_or_pending (row_of z.device before))) z.state) fresh
            ∙ ap (owes_between Pending) is

        other_state : (r : PairRow) → Among r before → nat_eq z.device r.device ≡ true → is_same_state z.state r.state ≡ false
        other_state r among same =
            let found = ap (λ (d : ℕ). row_of d before) (eqb-true z.device r.device same) ∙ found_of_device r before kept.apart among in
            state_sym z.state r.state ∙ sym (ap (λ (b : Bool). b && is_same_state r.state z.state) suspends) ∙ sym (ap (λ (o : Option PairRow). stands_again o (Some z)) found) ∙ fresh

        pub new_row : Goal
        new_row = by (is_by_device cause) refl
          where
            by : (b : Bool) → is_by_device cause ≡ b → Goal
            by true device = mapped_all (filled drop) device
            by false unfailed =
                let none = never_in z Duplex before (λ r among same. not_duplex_now r.state (was_resumed s change before after z r may begun among same kept.apart).1) in
                let other = never_in z z.state before other_state in
                mapped_new (filled drop) (was_after unfailed ∙ duplex_before z first p q points more here ∙ (λ i. none i || (other i && was_duplex z first points)))

      -- It is suspended as it was.
      module _ (r : PairRow) (found : row_of z.device before ≡ Some r) (as_was : is_suspended_as r.state z.state ≡ true) where
        among : Among r before
        among = found_in (is_of z.device) before r found

        same_device : nat_eq z.device r.device ≡ true
        same_device = found_passes (is_of z.device) before r found

        resumes : change ≡ Resumed z.device
        resumes = (was_resumed s change before after z r may begun among same_device kept.apart).0

        same : r.state ≡ z.state
        same = same_states r.state z.state as_was

        found_after : row_of z.device after ≡ Some z
        found_after = found_of_device z after clear there

        stood : (before_row after_row : Option PairRow) → row_of z.device before ≡ before_row → row_of z.device after ≡ after_row → stands_again (row_of z.device before) (row_of z.device after) ≡ stands_again before_row after_row
        stood o n e f = λ i. stands_again (e i) (f i)

        -- the group that it has now
        abbrev group : Option (List ℕ)
        group = pair_group_after z.device after

        among_from : Among from.row (regrouped_rows z.device group before)
        among_from =
            subst (Among from.row)
            (ap (λ (c : Change). rows_by_command c before after) resumes
            ∙ ap (λ (b : Bool). cond b (regrouped_rows z.device group before) (with_resumed z.device group before)) (stood (Some r) (Some z) found found_after ∙ as_was))
            from.among

        from_is : from.row ≡ regrouped_row group r
        from_is =
            let own : z.device ≡ r.device = eqb-true z.device r.device same_device in
            let clear_grouped = apart_still before (regrouped_rows r.device group before) (changed_pairs r (regrouped_row group) (λ y. refl) before kept.apart among) kept.apart in
            one_of_device from.row (regrouped_row group r) (regrouped_rows r.device group before) clear_grouped (subst (λ (d : ℕ). Among from.row (regrouped_rows d group before)) own among_from)
            (itself_among r (regrouped_row group) (λ y. refl) before kept.apart among) (device ∙ own)

        z_is : z ≡ regrouped_row group r
        z_is = from.goes.same ∙ ap (in_state z.state) from_is ∙ ap (λ (x : PairState). in_state x (regrouped_row group r)) (sym same)

        abbrev k : ℕ
        k = z.control

        abbrev v : ℕ
        v = z.volume

        abbrev whole : Bool
        whole = owes_again (tracks_owed_to s (Some z)) z.state

        abbrev both : PairRow → List Call
        both y = Resume y.control y.volume ∷ Drop y.control y.volume (owes_again (tracks_owed_to s (Some y)) y.state) ∷ []

        own_are : own_calls ≡ both z
        own_are =
            ap (λ (c : Change). command_calls c s before after) resumes
            ∙ (λ i. resume_calls s (found i) (found_after i))
            ∙ ap (λ (b : Bool). Resume r.control r.volume ∷ cond b (Drop r.control r.volume (owes_again (tracks_owed_to s (Some r)) r.state) ∷ []) []) as_was
            ∙ ap both (sym z_is)

        none : owes_between (state_by_command change before z) z.state ≡ None
        none = (λ i. owes_between ((state ∙ ap (λ (y : PairRow). y.state) from_is ∙ same ∙ is) i) (is i)) ∙ ap (λ (b : Bool). cond b (Some true) None) (never (is_by_device cause))
          where
            never : (b : Bool) → (b && not b) ≡ false
            never true = refl
            never false = refl

        off_drops : Each (IsOff k v) drops
        off_drops = all_off change before z drops split (ap (drop_call z) none)

        mays : AllMay (both z ++ drops) s
        mays = subst (λ (calls : List Call). AllMay (calls ++ drops) s) own_are walk.may

        abbrev t : Group
        t = group_after s (Resume k v)

        end_again : (all : Bool) → whole ≡ all → end ≡ after_calls drops (group_after t (Drop k v all))
        end_again all e = ap (λ (calls : List Call). after_calls (calls ++ drops) s) own_are ∙ ap (λ (b : Bool). after_calls drops (group_after t (Drop k v b))) e

        mays_after : (all : Bool) → whole ≡ all → AllMay drops (group_after t (Drop k v all))
        mays_after all e = subst (λ (b : Bool). AllMay drops (group_after t (Drop k v b))) e mays.1.1

        t_keeps : IsGroupSound t
        t_keeps = kept_next s (Resume k v) kept.keeps mays.0

        t_within : k < length t.controls
        t_within = let same = same_count s k (resumed v) in omega (arith, within, same)

        t_is : control_at t k ≡ resumed v (control_at s k)
        t_is = own_is s k (resumed v) within

        filled_again : whole ≡ true → maps_track v x (control_at end k) ≡ true
        filled_again all =
            ap (λ (g : Group). maps_track v x (control_at g k)) (end_again true all)
            ∙ dropped_whole t k v t_within t_keeps drops (tracks_of_row z) x off_drops (mays_after true all) low
            (ap (λ (g : Group). passes (is_of_size (tracks_of_row z)) (volume_of v (control_at g k).volumes)) (sym (end_again true all)) ∙ its.own.sized)

        empty_again : whole ≡ false → maps_track v x (control_at end k) ≡ false
        empty_again part =
            ap (λ (g : Group). maps_track v x (control_at g k)) (end_again false part)
            ∙ dropped_part t k v t_within t_keeps drops x off_drops (mays_after false part)
            (ap (λ (c : ControlState). list_all (is_off_volume v) c.queue.waiting) t_is ∙ dropped_quiet s k v kept.keeps within mays.0.1)
            ∙ ap (λ (c : ControlState). passes (λ u. has_track u.map x) (volume_of v c.volumes)) t_is
            ∙ ap (passes (λ u. has_track u.map x)) (resume_itself v (control_at s k))
            ∙ clears (volume_of v (control_at s k).volumes)
          where
            clears : (o : Option Volume) → passes (λ u. has_track u.map x) (option_map resumed_volume o) ≡ false
            clears None = refl
            clears (Some u) = has_none (length u.map) x

        -- what was so of the row, whatever its group, is so of it
        abbrev Owed : PairRow → Type 0
        Owed u = is_suspended u.state ≡ true → counts (control_at s u.control).phase ≡ true → (y : ℕ) → y < tracks_of_row u → maps_track u.volume y (control_at s u.control) ≡ owes_track run first points u p.time y

        owed_z : Owed z
        owed_z = subst Owed (sym z_is) (owed r (contains_of r before among))

        was_owed : (y : ℕ) → y < tracks_of_row z → maps_track v y (control_at s k) ≡ (is_by_device cause || not (was_duplex z first points) || is_changed run z.control z.volume at.0 p.time y)
        was_owed y under = owed_z suspends counted_was y under ∙ ap (λ (state : PairState). owes_in run (was_duplex z first points) z state p.time y) is

        sized : passes (is_of_size (tracks_of_row z)) (volume_of v (control_at s k).volumes) ≡ true
        sized = subst (λ (u : PairRow). passes (is_of_size (tracks_of_row u)) (volume_of u.volume (control_at s u.control).volumes) ≡ true) (sym z_is) ((kept.each r (contains_of r before among)).own.sized)

        whole_is : whole ≡ (is_by_device cause || not (nat_eq (tracks_owed_to s (Some z)) 0))
        whole_is = ap (λ (b : Bool). b || not (nat_eq (tracks_owed_to s (Some z)) 0)) (ap is_device_suspended is)

        pub stood_again : Goal
        stood_again = by (is_by_device cause) refl (nat_eq (tracks_owed_to s (Some z)) 0) refl
          where
            flags : (a w c : Bool) → a ≡ false → c ≡ false → (a || not w || c) ≡ true → w ≡ false
            flags a true c e f g = absurd (true≢false (sym g ∙ (λ i. e i || not true || f i)))
            flags a false c e f g = refl

            by : (b : Bool) → is_by_device cause ≡ b → (n : Bool) → nat_eq (tracks_owed_to s (Some z)) 0 ≡ n → Goal
            by true failed n owes = mapped_all (filled_again (whole_is ∙ ap (λ (b : Bool). b || not (nat_eq (tracks_owed_to s (Some z)) 0)) failed)) failed
            by false unfailed true owes =
                empty_again (whole_is ∙ (λ i. unfailed i || not (owes i)))
                ∙ sym (owes_none v x (control_at s k).volumes (eqb-true (tracks_owed_to s (Some z)) 0 owes))
                ∙ was_owed x low
                ∙ (λ i. is_by_device cause || not (sym (was_after unfailed) i) || is_changed run z.control z.volume at.0 (sym on i) x)
            by false unfailed false owes =
                let some = owes_some (tracks_of_row z) v (control_at s k).volumes sized owes in
                let never = flags (is_by_device cause) (was_duplex z first points) (is_changed run z.control z.volume at.0 p.time some.track) unfailed (before_now some.track) (sym (was_owed some.track some.low) ∙ some.has) in
                mapped_new (filled_again (whole_is ∙ (λ i. unfailed i || not (owes i)))) (was_after unfailed ∙ never)

      pub was_begun : Goal
      was_begun = by (stands_again (row_of z.device before) (Some z)) refl (row_of z.device before) refl
        where
          by : (b : Bool) → stands_again (row_of z.device before) (Some z) ≡ b → (o : Option PairRow) → row_of z.device before ≡ o → Goal
          by false fresh o found = new_row fresh
          by true again None found = absurd (true≢false (sym again ∙ ap (λ (o : Option PairRow). stands_again o (Some z)) found))
          by true again (Some r) found = stood_again r found (sym (ap (λ (o : Option PairRow). stands_again o (Some z)) found) ∙ again)

    pub one_owed : maps_track z.volume x (control_at end z.control) ≡ owes_track run first (points ++ more) z q.time x
    one_owed = by (is_begun change z.device) refl ∙ sym (owes_is (points ++ more) q.time)
      where
        by : (b : Bool) → is_begun change z.device ≡ b → Goal
        by true begun = was_begun begun
        by false other = not_begun other

  all_owed : MapsOwed run first (points ++ more) q end
  all_owed z has suspends counted x low = let its = suspended_as z.state suspends in one_owed z (among_of after z has) its.cause its.since its.is counted x low

  rests : RestsAtCut end q.time
  rests =
      let stays = changes_stay change before after s in
      let many = stays.many in
      record {
        cut = ap (λ (t : Stamp). t.0) stays.last ∙ cut ∙ sym on;
        told = λ k low counted.
            let within : k < length s.controls = omega (arith, low, many) in
            ap (λ (t : Stamp). t.0) (stays.floor k within) ∙ (rest.rests cut).told k within (ap counts (sym (stays.phase k within)) ∙ counted) ∙ sym on;
      }

  since_then : SuspendedUpTo q.time after
  since_then z cause at has is = elim (since z cause at has is) [
    | inl stayed ↦ let up = rest.since stayed.was cause at (contains_of stayed.was before (found_in (is_of z.device) before stayed.was stayed.found)) (stayed.same ∙ is) in omega (arith, up, on)
    | inr then ↦ omega (arith, then, on)
  ]

pub maps_owed_after_changes : MapsOwedAfterChanges
maps_owed_after_changes run first points more p q s change kept may on since here passed rest cut owed = (
  all_owed run first points more p q s change kept may on since here passed rest cut owed,
  record {
    keeps = maps_keep (calls_of_change change s p.rows q.rows) s (taken s change p.rows q.rows kept may).may kept.keeps rest.keeps;
    rests = λ same. rests run first points more p q s change kept may on since here passed rest cut owed;
    since = since_then run first points more p q s change kept may on since here passed rest cut owed;
  },
)
