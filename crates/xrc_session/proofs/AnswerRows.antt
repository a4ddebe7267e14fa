-- The rows after a command: where they come from, which of them are hit, and that a change with items alters them.
use Rattle.std.proofs.Common.{◌≡◌, ◌≢◌, ◌⊎◌, inl, inr, ℕ, zero, suc, ◌+◌, ◌==◌, Bool, true, false, not, cond, ◌&&◌, List, [], ◌∷◌, ◌++◌, length, map, filter, Option, Some, None, refl, sym, ap, subst, ◌∙◌, arith, true≢false, slice_get}
use Rattle.std.specs.List.{list_all}
use Rattle.std.proofs.lemmas.Bool.{and_parts, eq-eqb}
use Rattle.std.proofs.lemmas.List.{length_push}
use Rattle.std.proofs.lemmas.List.Filters.{length-filter_both}
use Rattle.std.proofs.lemmas.Option.{same_Some}
use Rattle.pair_table.specs.declared.command.Change.{Change}
use Rattle.pair_table.specs.declared.command.Change.TheVariants.{Added, Resumed}
use Rattle.pair_table.specs.declared.command.Choice.{Choice}
use Rattle.pair_table.specs.declared.command.Command.{Command}
use Rattle.pair_table.specs.declared.command.Command.TheVariants.{Start, AddPair, DelPair, Suspend, Query, End}
use Rattle.pair_table.specs.declared.command.Refusal.TheVariants.{ControlBroken}
use Rattle.pair_table.specs.declared.names.NamedDevice.{NamedDevice}
use Rattle.pair_table.specs.declared.names.NamedVolume.{NamedVolume}
use Rattle.pair_table.specs.declared.row.PairRow.{PairRow}
use Rattle.pair_table.specs.declared.row.PairState.TheVariants.{Suspended}
use Rattle.pair_table.specs.declared.row.SuspendCause.TheVariants.{Command as ByCommand}
use Rattle.pair_table.specs.Commands.{add_to, added, change_of, devices_of, is_chosen, is_to_suspend, new_row, new_row_for, rows_after, suspended_since}
use Rattle.pair_table.specs.Devices.{is_among}
use Rattle.pair_table.specs.Naming.{Naming, is_broken, labelled_device, primary_of}
use Rattle.pair_table.specs.Refusals.{is_of_primary, is_start, refuses_command, refuses_label, refuses_primary, row_of_primary}
use Rattle.pair_table.specs.Rows.{is_suspended}
use Rattle.pair_table.specs.Tables.{in_state, is_of, none_clash, resumed_in, row_changed, row_of}
use Rattle.pair_table.proofs.StateLaws.{changed_of_primary}
use Rattle.pair_table.proofs.TableLaws.{not_true}
use Rattle.record_rows.specs.Hits.{hit_now, is_down, is_hit_now}
use Rattle.pair_table.specs.States.{is_device_suspended}
use Rattle.record_rows.proofs.Telling.{only_failed}
use Rattle.site_store.specs.Changing.{changed_items, gone_of, pairs_of}
use Rattle.site_store.specs.Commands.{is_added, without_flag}
use Rattle.site_store.proofs.CommandRows.{flag_then}
use Rattle.mover.proofs.Pairs.{Among, found_of_device}
use Rattle.mover.proofs.Pairs.Among.{Here, Later}
use Rattle.mover.proofs.ToldHits.{hit_at, hit_row_of}
use Rattle.xrc_session.proofs.CarriedRows.{among_either, among_kept}
use Rattle.xrc_session.proofs.Commanded.{row_taken}
use Rattle.xrc_session.proofs.RestingRows.{map_back, none_hit}
use Rattle.xrc_session.proofs.RestingSites.{suspends}
use Rattle.xrc_session.proofs.Walking.{found_in}

-- ---- lists

-- Where none of the rows is hit, no device is.
pub none_of_each : (failed : List Bool) (rows : List PairRow) → ((r : PairRow) → Among r rows → is_hit_now failed r ≡ false) → hit_now failed rows ≡ []
none_of_each failed [] none = refl
none_of_each failed (r ∷ rows) none = by_flag (is_hit_now failed r) (none r (Here rows)) (none_of_each failed rows (λ s there. none s (Later r rows there)))
  where
    by_flag : (b : Bool) → b ≡ false → hit_now failed rows ≡ [] → map (λ (s : PairRow). s.device) (cond b (r ∷ filter (is_hit_now failed) rows) (filter (is_hit_now failed) rows)) ≡ []
    by_flag true is rest = absurd (true≢false is)
    by_flag false is rest = rest

pub all_of_each : (test : PairRow → Bool) (rows : List PairRow) → ((r : PairRow) → Among r rows → test r ≡ true) → list_all test rows ≡ true
all_of_each test [] each = refl
all_of_each test (r ∷ rows) each = ap (λ (b : Bool). b && list_all test rows) (each r (Here rows)) ∙ all_of_each test rows (λ s there. each s (Later r rows there))

place_of : (r : PairRow) (rows : List PairRow) → Among r rows → (i : ℕ) × (slice_get rows i ≡ Some r)
place_of r _ (Here rows) = (zero, refl)
place_of r _ (Later s rows there) = let found = place_of r rows there in (suc found.0, found.1)

among_place : (r : PairRow) (rows : List PairRow) (i : ℕ) → slice_get rows i ≡ Some r → Among r rows
among_place r [] i at = absurd cc
among_place r (s ∷ rows) zero at = subst (λ (x : PairRow). Among x (s ∷ rows)) (same_Some s r at) (Here rows)
among_place r (s ∷ rows) (suc i) at = Later s rows (among_place r rows i at)

-- A row that stands where a change of rows leaves all as they are is left so.
unchanged : (f : PairRow → PairRow) (r : PairRow) (rows : List PairRow) → map f rows ≡ rows → Among r rows → f r ≡ r
unchanged f r _ same (Here rows) = cc
unchanged f r _ same (Later s rows there) = let rest : map f rows ≡ rows = cc in unchanged f r rows rest there

-- Two rows of one device are one.
pub one_of_device : (r s : PairRow) (rows : List PairRow) → none_clash rows ≡ true → Among r rows → Among s rows → r.device ≡ s.device → r ≡ s
one_of_device r s rows apart first second same =
    let a = found_of_device r rows apart first in
    let b = ap (λ (d : ℕ). row_of d rows) same ∙ found_of_device s rows apart second in
    cc

-- ---- where a row comes from

-- A row is one that a change adds or resumes, and that its device doesn't suspend, or it comes from one of its device, which is suspended by the
-- device exactly if the row is, and then since the same time.
abbrev pub CameFrom : Change → (rows : List PairRow) → PairRow → Type 0
CameFrom change rows r =
    ((is_added change r.device ≡ true) × (is_device_suspended r.state ≡ false)) ⊎ ((x : PairRow) × Among x rows × (x.device ≡ r.device) × (is_device_suspended r.state ≡ is_device_suspended x.state) × (is_device_suspended r.state ≡ true → x.state ≡ r.state))

module _ (names : Naming) (time : ℕ) (rows : List PairRow) (apart : none_clash rows ≡ true) where
  stays : (change : Change) (r : PairRow) → Among r rows → CameFrom change rows r
  stays change r there = inr (r, there, refl, refl, λ on. refl)

  resumed_from : (primary : List ℕ) (group : Option (List ℕ)) (found : PairRow) (r : PairRow) → row_of_primary primary rows ≡ Some found → Among r (map (λ x. cond (is_of_primary found.primary x) (resumed_in group x) x) rows) → CameFrom (Resumed found.device) rows r
  resumed_from primary group found r is there =
      let back = map_back (row_changed found.device (resumed_in group)) r rows (subst (Among r) (sym (changed_of_primary primary (resumed_in group) rows found apart is)) there) in
      by_device (is_of found.device back.0) back.0 back.1 refl back.2
    where
      by_device : (b : Bool) (x : PairRow) → Among x rows → is_of found.device x ≡ b → cond b (resumed_in group x) x ≡ r → CameFrom (Resumed found.device) rows r
      by_device true x among is same =
          inl (ap (λ (s : PairRow). is_of found.device s) (sym same) ∙ is, ap (λ (s : PairRow). is_device_suspended s.state) (sym same))
      by_device false x among is same = inr (x, among, ap (λ (s : PairRow). s.device) same, ap (λ (s : PairRow). is_device_suspended s.state) (sym same), λ on. ap (λ (s : PairRow). s.state) same)

  added_from : (secondary : List ℕ) (group : Option (List ℕ)) (v : NamedVolume) (l : NamedDevice) (r : PairRow) → Among r (rows ++ new_row secondary group v l ∷ []) → CameFrom (Added l.device) rows r
  added_from secondary group v l r there = elim (among_either r (new_row secondary group v l) rows there) [
    | inl before ↦ stays (Added l.device) r before
    | inr same ↦ inl (ap (λ (s : PairRow). l.device == s.device) (sym same) ∙ eq-eqb l.device l.device refl, ap (λ (s : PairRow). is_device_suspended s.state) (sym same))
  ]

  suspended_from : (choice : Choice) (change : Change) (r : PairRow) → Among r (map (suspended_since choice time) rows) → CameFrom change rows r
  suspended_from choice change r there =
      let back = map_back (suspended_since choice time) r rows there in
      by_choice (is_to_suspend choice back.0) back.0 back.1 refl back.2
    where
      by_choice : (b : Bool) (x : PairRow) → Among x rows → is_to_suspend choice x ≡ b → cond b (in_state (Suspended ByCommand (record { 0 = time })) x) x ≡ r → CameFrom change rows r
      by_choice true x among is same =
          let live = not_true (is_suspended x.state) (and_parts (is_chosen choice x) (not (is_suspended x.state)) is).1 in
          inr (x, among, ap (λ (s : PairRow). s.device) same, ap (λ (s : PairRow). is_device_suspended s.state) (sym same) ∙ sym (suspends x.state live), λ on. absurd (true≢false (sym on ∙ ap (λ (s : PairRow). is_device_suspended s.state) (sym same))))
      by_choice false x among is same = inr (x, among, ap (λ (s : PairRow). s.device) same, ap (λ (s : PairRow). is_device_suspended s.state) (sym same), λ on. ap (λ (s : PairRow). s.state) same)

  pub came_from : (command : Command) → is_start command ≡ false → (r : PairRow) → Among r (rows_after names time command rows) → CameFrom (change_of names command rows) rows r
  came_from (Start level) starts r there = absurd (true≢false starts)
  came_from (AddPair p s group) starts r there = by_names (row_of_primary p rows) refl (primary_of p names) (labelled_device s names) there
    where
      by_names : (o : Option PairRow) → row_of_primary p rows ≡ o → (v : Option NamedVolume) (l : Option NamedDevice) → Among r (add_to group rows o (new_row_for s group v l)) → CameFrom (added o l) rows r
      by_names (Some found) is v l there = resumed_from p group found r is there
      by_names None is (Some v) (Some l) there = added_from s group v l r there
      by_names None is (Some v) None there = stays (added None None) r there
      by_names None is None l there = stays (added None l) r there
  came_from (DelPair choice) starts r there = stays (change_of names (DelPair choice) rows) r (among_kept (λ x. not (is_chosen choice x)) r rows there).0
  came_from (Suspend choice) starts r there = suspended_from choice (change_of names (Suspend choice) rows) r there
  came_from Query starts r there = stays (change_of names Query rows) r there
  came_from End starts r there = stays (change_of names End rows) r there

-- ---- who is hit after a command

module _ (change : Change) (rows next : List PairRow) (apart : none_clash rows ≡ true) (from : (r : PairRow) → Among r next → CameFrom change rows r) where
  -- No row waits to be hit after a command if none did before.
  pub none_hit_after : (failed : List Bool) → hit_now failed rows ≡ [] → hit_now (without_flag 0 change failed) next ≡ []
  none_hit_after failed none = none_of_each flags next each
    where
      flags : List Bool
      flags = without_flag 0 change failed

      -- the flag of a device after the command
      flag : (d : ℕ) → is_down flags d ≡ cond (is_added change d) false (is_down failed d)
      flag d = flag_then 0 d change failed ∙ ap (λ (n : ℕ). cond (is_added change n) false (is_down failed d)) (let e : 0 + d ≡ d = omega arith in e)

      cleared : (r : PairRow) → is_added change r.device ≡ true → is_hit_now flags r ≡ false
      cleared r added = ap (λ (b : Bool). b && not (is_device_suspended r.state)) (flag r.device ∙ ap (λ (b : Bool). cond b false (is_down failed r.device)) added)

      as_before : (added down suspended : Bool) → (down && not suspended) ≡ false → (cond added false down && not suspended) ≡ false
      as_before true down suspended is = refl
      as_before false down suspended is = is

      each : (r : PairRow) → Among r next → is_hit_now flags r ≡ false
      each r there = elim (from r there) [
        | inl added ↦ cleared r added.0
        | inr (x, among, device, state, alike) ↦
            ap (λ (b : Bool). b && not (is_device_suspended r.state)) (flag r.device)
            ∙ as_before (is_added change r.device) (is_down failed r.device) (is_device_suspended r.state)
            (ap (λ (b : Bool). is_down failed r.device && not b) state ∙ ap (λ (d : ℕ). is_down failed d && not (is_device_suspended x.state)) (sym device) ∙ none_hit failed x rows none among)
      ]

  -- A device that is hit before a command, and has a row after it, is hit there.
  pub hit_again : (failed : List Bool) (r : PairRow) → Among r next → is_among r.device (hit_now failed rows) ≡ true → is_among r.device (hit_now failed next) ≡ true
  hit_again failed r there hit =
      let place = place_of r next there in
      hit_at failed next place.0 r place.1 (ap (λ (b : Bool). b && not (is_device_suspended r.state)) (only_failed r.device failed rows hit) ∙ ap not (fresh (from r there)))
    where
      fresh : CameFrom change rows r → is_device_suspended r.state ≡ false
      fresh (inl added) = added.1
      fresh (inr (x, among, device, state, alike)) =
          let h = hit_row_of failed r.device rows hit in
          let same : h.row ≡ x = one_of_device h.row x rows apart (among_place h.row rows h.place h.at) among (h.device ∙ sym device) in
          state ∙ ap (λ (s : PairRow). is_device_suspended s.state) (sym same) ∙ not_true (is_device_suspended h.row.state) (and_parts (is_down failed h.row.device) (not (is_device_suspended h.row.state)) h.hit).1

-- ---- a change with items alters rows

-- Rows of which none passes a test have none that does.
none_passes : (test : PairRow → Bool) (rows : List PairRow) → ((r : PairRow) → Among r rows → test r ≡ false) → filter test rows ≡ []
none_passes test [] none = refl
none_passes test (r ∷ rows) none = ap (λ (b : Bool). cond b (r ∷ filter test rows) (filter test rows)) (none r (Here rows)) ∙ none_passes test rows (λ s there. none s (Later r rows there))

all_stay : (test : PairRow → Bool) (rows : List PairRow) → filter (λ r. not (test r)) rows ≡ rows → filter test rows ≡ []
all_stay test rows same =
    none_long (filter test rows) (let both = length-filter_both test (λ r. not (test r)) (λ r. refl) rows in let long = ap (λ (l : List PairRow). length l) same in omega (arith, both, long))
  where
    none_long : (l : List PairRow) → length l ≡ 0 → l ≡ []
    none_long [] none = refl
    none_long (r ∷ l) none = absurd (omega (arith, none))

module _ (names : Naming) (time : ℕ) (rows : List PairRow) (apart : none_clash rows ≡ true) where
  abbrev Differ : Change → List PairRow → Type 0
  Differ change next = changed_items change next ≢ [] → next ≡ rows → ⊥

  resumed_differ : (primary : List ℕ) (group : Option (List ℕ)) (found : PairRow) → row_of_primary primary rows ≡ Some found → is_suspended found.state ≡ true → Differ (Resumed found.device) (map (λ x. cond (is_of_primary found.primary x) (resumed_in group x) x) rows)
  resumed_differ primary group found is suspended some same =
      let there = found_in (is_of_primary primary) rows found is in
      let fixed = unchanged (row_changed found.device (resumed_in group)) found rows (changed_of_primary primary (resumed_in group) rows found apart is ∙ same) there in
      let pending : resumed_in group found ≡ found = ap (λ (b : Bool). cond b (resumed_in group found) found) (sym (eq-eqb found.device found.device refl)) ∙ fixed in
      true≢false (sym suspended ∙ ap (λ (s : PairRow). is_suspended s.state) (sym pending))

  added_differ : (r : PairRow) (change : Change) → Differ change (rows ++ r ∷ [])
  added_differ r change some same = let long = length_push rows r in let equal = ap (λ (l : List PairRow). length l) same in omega (arith, long, equal)

  abbrev PairsDiffer : (secondary : List ℕ) → (group : Option (List ℕ)) → Option PairRow → Option NamedVolume → Option NamedDevice → Type 0
  PairsDiffer secondary group o v l = Differ (added o l) (add_to group rows o (new_row_for secondary group v l))

  pair_differs : (p s : List ℕ) (group : Option (List ℕ)) → refuses_primary p s names rows (primary_of p names) ≡ None → Differ (change_of names (AddPair p s group) rows) (rows_after names time (AddPair p s group) rows)
  pair_differs p s group own = by_row (row_of_primary p rows) refl
    where
      by_label : (v : NamedVolume) (l : Option NamedDevice) → refuses_label p s rows v l ≡ None → PairsDiffer s group None (Some v) l
      by_label v None own = absurd cc
      by_label v (Some l) own = added_differ (new_row s group v l) (Added l.device)

      by_broken : (v : NamedVolume) (b : Bool) → cond b (Some (ControlBroken v.control)) (refuses_label p s rows v (labelled_device s names)) ≡ None → PairsDiffer s group None (Some v) (labelled_device s names)
      by_broken v true own = absurd cc
      by_broken v false own = by_label v (labelled_device s names) own

      by_volume : (v : Option NamedVolume) → refuses_primary p s names rows v ≡ None → PairsDiffer s group None v (labelled_device s names)
      by_volume None own = absurd cc
      by_volume (Some v) own = by_broken v (is_broken v.control names) own

      by_row : (o : Option PairRow) → row_of_primary p rows ≡ o → PairsDiffer s group o (primary_of p names) (labelled_device s names)
      by_row None is = by_volume (primary_of p names) own
      by_row (Some r) is = resumed_differ p group r is (row_taken names rows p s r (primary_of p names) own is)

  gone_differ : (choice : Choice) → Differ (change_of names (DelPair choice) rows) (rows_after names time (DelPair choice) rows)
  gone_differ choice some same = some (ap (λ (l : List PairRow). gone_of (devices_of l)) (all_stay (is_chosen choice) rows same))

  suspended_differ : (choice : Choice) → Differ (change_of names (Suspend choice) rows) (rows_after names time (Suspend choice) rows)
  suspended_differ choice some same = some (ap (λ (l : List PairRow). pairs_of (devices_of l) (rows_after names time (Suspend choice) rows)) (none_passes (is_to_suspend choice) rows (λ r there. by_choice r (is_to_suspend choice r) refl (unchanged (suspended_since choice time) r rows same there))))
    where
      by_choice : (r : PairRow) (b : Bool) → is_to_suspend choice r ≡ b → cond b (in_state (Suspended ByCommand (record { 0 = time })) r) r ≡ r → b ≡ false
      by_choice r true is fixed =
          let live = not_true (is_suspended r.state) (and_parts (is_chosen choice r) (not (is_suspended r.state)) is).1 in
          absurd (true≢false (ap (λ (s : PairRow). is_suspended s.state) fixed ∙ live))
      by_choice r false is fixed = refl

  -- A change with items leaves other rows.
  pub rows_differ : (command : Command) → refuses_command names rows command ≡ None → Differ (change_of names command rows) (rows_after names time command rows)
  rows_differ (Start level) own some same = some refl
  rows_differ (AddPair p s group) own some same = pair_differs p s group own some same
  rows_differ (DelPair choice) own some same = gone_differ choice some same
  rows_differ (Suspend choice) own some same = suspended_differ choice some same
  rows_differ Query own some same = some refl
  rows_differ End own some same = some refl
