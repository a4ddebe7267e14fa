-- Commands and the hits after them make changes of rows that may be taken over.
use Rattle.std.proofs.Common.{◌≡◌, ℕ, ◌<◌, zero, suc, Bool, true, false, cond, not, nat_eq, ◌&&◌, ◌||◌, List, [], ◌∷◌, ◌++◌, map, filter, length, Option, Some, None, Ok, refl, sym, ap, subst, ◌∙◌, true≢false, slice_get}
use Rattle.std.specs.Prelude.{is_none, bytes_eq, IfSome, IsSomeAnd}
use Rattle.std.specs.List.{Contains, list_any}
use Rattle.std.specs.Option.{option_map}
use Rattle.std.proofs.lemmas.Bool.{and_parts, eq-eqb, eqb-true, or_left}
use Rattle.std.proofs.lemmas.Option.{get_or_from_slice_get, same_Some, slice_get-map, slice_get_within}
use Rattle.pair_table.specs.declared.command.Change.{Change}
use Rattle.pair_table.specs.declared.command.Change.TheVariants.{Added, Gone, Resumed}
use Rattle.pair_table.specs.declared.command.Choice.{Choice}
use Rattle.pair_table.specs.declared.command.Command.{Command}
use Rattle.pair_table.specs.declared.command.Command.TheVariants.{Start, AddPair, DelPair, Suspend, Query, End}
use Rattle.pair_table.specs.declared.command.Refusal.{Refusal}
use Rattle.pair_table.specs.declared.command.Refusal.TheVariants.{AlreadyPaired, ControlBroken, OtherSecondary}
use Rattle.pair_table.specs.declared.level.Level.{Level}
use Rattle.pair_table.specs.declared.names.NamedDevice.{NamedDevice}
use Rattle.pair_table.specs.declared.names.NamedVolume.{NamedVolume}
use Rattle.pair_table.specs.declared.row.PairRow.{PairRow}
use Rattle.pair_table.specs.declared.row.PairState.{PairState}
use Rattle.pair_table.specs.declared.row.PairState.TheVariants.{Pending, Copy, Duplex, Suspended}
use Rattle.pair_table.specs.declared.row.SuspendCause.TheVariants.{Command as ByCommand, Device}
use Rattle.pair_table.specs.Commands.{accepted, add_to, added, answer_by, change_of, devices_of, is_chosen, is_to_suspend, new_row, new_row_for, rows_after, suspended_since}
use Rattle.pair_table.specs.Devices.{is_among}
use Rattle.pair_table.specs.Naming.{Naming, is_broken, labelled_device, primary_of}
use Rattle.pair_table.specs.Refusals.{is_of_primary, is_start, refusal, refuses_command, refuses_found, refuses_label, refuses_primary, row_of_primary}
use Rattle.pair_table.specs.Rows.{cause_number, is_suspended}
use Rattle.pair_table.specs.Tables.{Table, in_state, is_of, none_clash, resumed_in, row_changed, row_of, with_resumed}
use Rattle.pair_table.proofs.Causes.{same_causes}
use Rattle.pair_table.proofs.StateLaws.{changed_of_primary}
use Rattle.pair_table.proofs.PutLaws.{number_sym}
use Rattle.pair_table.proofs.TableLaws.{either_false, not_true}
use Rattle.group_state.specs.Controls.{counts}
use Rattle.group_state.specs.Groups.{Group, control_at}
use Rattle.row_changes.specs.Changes.{FaultReach, hit_row, reach_of, reached_row, since}
use Rattle.row_changes.proofs.Reaching.{hit_state, reached_state}
use Rattle.record_rows.specs.Hits.{hit_now, is_down}
use Rattle.pair_table.specs.States.{is_by_device, is_device_suspended, is_duplex, owes, owes_suspended}
use Rattle.record_rows.specs.Records.{rows_with_hits}
use Rattle.record_rows.specs.ToldRows.{InPlaces}
use Rattle.record_rows.proofs.Devices.{apart_first, apart_in_map, apart_of, devices_apart, found_in_map, none_at, row_at_place}
use Rattle.record_rows.proofs.HitRows.{among_hit, held, told_row, told_rows}
use Rattle.mover.proofs.Pairs.{Among, among_of, apart_still, contains_of, found_of_device}
use Rattle.xrc_session.specs.CarriedLaws.{BegunControlsCount, CommandsMayBeTaken}
use Rattle.xrc_session.specs.Taking.{IsSuspendedSince, MayBeBegun, MayTake, as_pending, pair_group_after, group_of_row, regrouped_row, is_suspended_as, rows_by_command, stands_again, regrouped_rows}
use Rattle.xrc_session.proofs.CarriedRows.{among_last, changed_pairs, itself_among, one_of_device}
use Rattle.xrc_session.proofs.Walking.{found_in}

-- ---- hits

-- The volume of a row that isn't suspended is dropped by each suspension, and that of a row that its device doesn't suspend by its device's.
live_drops : (state : PairState) (failed : Bool) → is_suspended state ≡ false → owes_suspended state (is_duplex state) failed ≡ None → ⊥
live_drops Pending failed live e = absurd cc
live_drops Copy failed live e = absurd cc
live_drops Duplex failed live e = absurd cc
live_drops (Suspended cause since) failed live e = absurd (true≢false live)

failed_drops : (state : PairState) → is_device_suspended state ≡ false → owes_suspended state (is_duplex state) true ≡ None → ⊥
failed_drops Pending fresh e = absurd cc
failed_drops Copy fresh e = absurd cc
failed_drops Duplex fresh e = absurd cc
failed_drops (Suspended cause since) fresh e = again (is_by_device cause) fresh e
  where
    again : (b : Bool) → b ≡ false → cond (not b) (Some true) None ≡ None → ⊥
    again true fresh e = true≢false fresh
    again false fresh e = absurd cc

-- Hits that are told change a row's state alone.
told_state : (reach : FaultReach) (time : ℕ) (hit : List ℕ) (r : PairRow) → told_row reach time [] hit r ≡ in_state (told_row reach time [] hit r).state r
told_state reach time [] r = refl
told_state reach time (d ∷ hit) r = reached_state reach (d ∷ hit) time (hit_row (d ∷ hit) time r) ∙ ap (in_state (told_row reach time [] (d ∷ hit) r).state) (hit_state (d ∷ hit) time r)

told_device : (reach : FaultReach) (time : ℕ) (hit : List ℕ) (r : PairRow) → (told_row reach time [] hit r).device ≡ r.device
told_device reach time hit r = ap (λ (x : PairRow). x.device) (told_state reach time hit r)

-- A row of which hits are told is suspended by them, or stays.
told_follows : (reach : FaultReach) (time : ℕ) (hit : List ℕ) (r : PairRow) → (is_among r.device hit ≡ true → is_device_suspended r.state ≡ false) → IsSuspendedSince r (told_row reach time [] hit r)
told_follows reach time [] r fresh = record { same = refl; stays = λ e. refl }
told_follows reach time (d ∷ hit) r fresh = choose (is_among r.device (d ∷ hit)) refl
  where
    reached : (b c : Bool) → is_suspended r.state ≡ c → IsSuspendedSince r (cond b (cond c r (in_state (since reach.cause time) r)) r)
    reached true true is = record { same = refl; stays = λ e. refl }
    reached true false is = record { same = refl; stays = λ e. absurd (live_drops r.state (is_by_device reach.cause) is e) }
    reached false c is = record { same = refl; stays = λ e. refl }

    choose : (b : Bool) → is_among r.device (d ∷ hit) ≡ b → IsSuspendedSince r (reached_row reach (d ∷ hit) time (cond b (in_state (since Device time) r) r))
    choose true is = subst (IsSuspendedSince r) (sym (held reach (d ∷ hit) time (in_state (since Device time) r) refl)) (record { same = refl; stays = λ e. absurd (failed_drops r.state (fresh is) e) })
    choose false is = reached (reach.reaches (d ∷ hit) r) (is_suspended r.state) refl

in_places_map : (is : PairRow → PairRow → Type 0) (f : PairRow → PairRow) (rows : List PairRow) → ((i : ℕ) (x : PairRow) → slice_get rows i ≡ Some x → is x (f x)) → InPlaces is rows (map f rows)
in_places_map is f [] each = tt
in_places_map is f (r ∷ rows) each = (each 0 r refl, in_places_map is f rows (λ i x at. each (suc i) x at))

in_places_before : (is : PairRow → PairRow → Type 0) (g : PairRow → PairRow) (rows next : List PairRow) → ((x z : PairRow) → is (g x) z → is x z) → InPlaces is (map g rows) next → InPlaces is rows next
in_places_before is g [] [] before h = tt
in_places_before is g [] (t ∷ next) before h = absurd h
in_places_before is g (r ∷ rows) [] before h = absurd h
in_places_before is g (r ∷ rows) (t ∷ next) before h = (before r t h.0, in_places_before is g rows next before h.1)

in_places_both : (is : PairRow → PairRow → Type 0) (h g f : PairRow → PairRow) (rows : List PairRow) → ((i : ℕ) (x : PairRow) → slice_get rows i ≡ Some x → is (h x) (f (g x))) → InPlaces is (map h rows) (map f (map g rows))
in_places_both is h g f [] each = tt
in_places_both is h g f (r ∷ rows) each = (each 0 r refl, in_places_both is h g f rows (λ i x at. each (suc i) x at))

-- ---- a row that is suspended as it was

pub same_states : (was is : PairState) → is_suspended_as was is ≡ true → was ≡ is
same_states was Pending e = absurd cc
same_states was Copy e = absurd cc
same_states was Duplex e = absurd cc
same_states Pending (Suspended cause since) e = absurd cc
same_states Copy (Suspended cause since) e = absurd cc
same_states Duplex (Suspended cause since) e = absurd cc
same_states (Suspended first from) (Suspended cause since) e =
    let parts = and_parts (nat_eq (cause_number first) (cause_number cause)) (nat_eq from.0 since.0) e in
    λ i. Suspended (same_causes first cause parts.0 i) (record { 0 = eqb-true from.0 since.0 parts.1 i })

-- ---- the rows after hits

module _ (level : Level) (cut : ℕ) (failed : List Bool) where
  abbrev told_of : List PairRow → PairRow → PairRow
  told_of rows = told_row (reach_of level rows) cut [] (hit_now failed rows)

  hits_told : (rows : List PairRow) → rows_with_hits level cut failed rows ≡ map (told_of rows) rows
  hits_told rows = told_rows level cut [] (hit_now failed rows) rows

  fresh_at : (rows : List PairRow) (i : ℕ) (x : PairRow) → devices_apart rows ≡ true → slice_get rows i ≡ Some x → is_among x.device (hit_now failed rows) ≡ true → is_device_suspended x.state ≡ false
  fresh_at rows i x apart at among = not_true (is_device_suspended x.state) (and_parts (is_down failed x.device) (not (is_device_suspended x.state)) (sym (among_hit failed rows i x apart at) ∙ among)).1

  told_at : (rows : List PairRow) (i : ℕ) (x : PairRow) → devices_apart rows ≡ true → slice_get rows i ≡ Some x → IsSuspendedSince x (told_of rows x)
  told_at rows i x apart at = told_follows (reach_of level rows) cut (hit_now failed rows) x (fresh_at rows i x apart at)

  hits_follow : (rows : List PairRow) → devices_apart rows ≡ true → InPlaces IsSuspendedSince rows (rows_with_hits level cut failed rows)
  hits_follow rows apart = subst (InPlaces IsSuspendedSince rows) (sym (hits_told rows)) (in_places_map IsSuspendedSince (told_of rows) rows (λ i x at. told_at rows i x apart at))

  -- ---- suspensions by a command

  suspended_device : (choice : Choice) (time : ℕ) (r : PairRow) → (suspended_since choice time r).device ≡ r.device
  suspended_device choice time r = choose (is_to_suspend choice r)
    where
      choose : (b : Bool) → (let x : PairRow = cond b (in_state (Suspended ByCommand (record { 0 = time })) r) r in x.device) ≡ r.device
      choose true = refl
      choose false = refl

  suspended_before : (choice : Choice) (time : ℕ) (x z : PairRow) → IsSuspendedSince (suspended_since choice time x) z → IsSuspendedSince x z
  suspended_before choice time x z = choose (is_to_suspend choice x) refl
    where
      live : is_to_suspend choice x ≡ true → is_suspended x.state ≡ false
      live is = not_true (is_suspended x.state) (and_parts (is_chosen choice x) (not (is_suspended x.state)) is).1

      stays : (state : PairState) → is_suspended x.state ≡ false → (owes (Suspended ByCommand (record { 0 = time })) state ≡ None → state ≡ Suspended ByCommand (record { 0 = time })) → owes x.state state ≡ None → state ≡ x.state
      stays Pending is h e = absurd (true≢false (sym (ap is_suspended (h refl))))
      stays Copy is h e = absurd (true≢false (sym (ap is_suspended (h refl))))
      stays Duplex is h e = absurd (true≢false (sym (ap is_suspended (h refl))))
      stays (Suspended cause since) is h e = absurd (live_drops x.state (is_by_device cause) is e)

      choose : (b : Bool) → is_to_suspend choice x ≡ b → IsSuspendedSince (cond b (in_state (Suspended ByCommand (record { 0 = time })) x) x) z → IsSuspendedSince x z
      choose true is h = record { same = h.same; stays = stays z.state (live is) h.stays }
      choose false is h = h

  suspends_follow : (choice : Choice) (time : ℕ) (rows : List PairRow) → devices_apart rows ≡ true → InPlaces IsSuspendedSince rows (rows_with_hits level cut failed (map (suspended_since choice time) rows))
  suspends_follow choice time rows apart =
      in_places_before IsSuspendedSince (suspended_since choice time) rows (rows_with_hits level cut failed (map (suspended_since choice time) rows)) (suspended_before choice time)
      (hits_follow (map (suspended_since choice time) rows) (apart_in_map (suspended_since choice time) (suspended_device choice time) rows apart))

-- ---- rows that go

none_chosen : (d : ℕ) (test : PairRow → Bool) (rows : List PairRow) → list_any (is_of d) rows ≡ false → is_among d (devices_of (filter test rows)) ≡ false
none_chosen d test [] none = refl
none_chosen d test (r ∷ rows) none =
    let parts = either_false (nat_eq d r.device) (list_any (is_of d) rows) none in
    choose (test r) (number_sym r.device d ∙ parts.0) (none_chosen d test rows parts.1)
  where
    choose : (b : Bool) → nat_eq r.device d ≡ false → is_among d (devices_of (filter test rows)) ≡ false → is_among d (devices_of (cond b (r ∷ filter test rows) (filter test rows))) ≡ false
    choose true other rest = rw other rest
    choose false other rest = rest

chosen_at : (test : PairRow → Bool) (rows : List PairRow) (i : ℕ) (x : PairRow) → devices_apart rows ≡ true → slice_get rows i ≡ Some x → is_among x.device (devices_of (filter test rows)) ≡ test x
chosen_at test [] i x apart at = absurd cc
chosen_at test (r ∷ rows) zero x apart at = subst (λ (y : PairRow). is_among y.device (devices_of (filter test (r ∷ rows))) ≡ test y) (same_Some r x at) (here (test r) (none_chosen r.device test rows (apart_first r rows apart).0))
  where
    here : (b : Bool) → is_among r.device (devices_of (filter test rows)) ≡ false → is_among r.device (devices_of (cond b (r ∷ filter test rows) (filter test rows))) ≡ b
    here true none = or_left (nat_eq r.device r.device) (is_among r.device (devices_of (filter test rows))) (eq-eqb r.device r.device refl)
    here false none = none
chosen_at test (r ∷ rows) (suc i) x apart at =
    let first = apart_first r rows apart in
    after (test r) (none_at r.device rows i x first.0 at) (chosen_at test rows i x first.1 at)
  where
    after : (b : Bool) → nat_eq r.device x.device ≡ false → is_among x.device (devices_of (filter test rows)) ≡ test x → is_among x.device (devices_of (cond b (r ∷ filter test rows) (filter test rows))) ≡ test x
    after true other rest = rw other rest
    after false other rest = rest

same_filter : (keep also : PairRow → Bool) (rows : List PairRow) → ((i : ℕ) (x : PairRow) → slice_get rows i ≡ Some x → keep x ≡ also x) → filter keep rows ≡ filter also rows
same_filter keep also [] same = refl
same_filter keep also (r ∷ rows) same = λ i. cond (same zero r refl i) (r ∷ same_filter keep also rows (λ n x at. same (suc n) x at) i) (same_filter keep also rows (λ n x at. same (suc n) x at) i)

gone_rows : (test : PairRow → Bool) (rows : List PairRow) → devices_apart rows ≡ true → filter (λ r. not (is_among r.device (devices_of (filter test rows)))) rows ≡ filter (λ r. not (test r)) rows
gone_rows test rows apart = same_filter (λ r. not (is_among r.device (devices_of (filter test rows)))) (λ r. not (test r)) rows (λ i x at. ap not (chosen_at test rows i x apart at))

-- ---- the answer

accepted_parts : (o : Option Refusal) (made change : Change) → answer_by o made ≡ Ok change → (o ≡ None) × (made ≡ change)
accepted_parts None made change e = (refl, cc)
accepted_parts (Some why) made change e = absurd cc

refused_last : (a b c : Bool) (x y z : Refusal) (o : Option Refusal) → cond a (Some x) (cond b (Some y) (cond c (Some z) o)) ≡ None → (c ≡ false) × (o ≡ None)
refused_last true b c x y z o e = absurd cc
refused_last false true c x y z o e = absurd cc
refused_last false false true x y z o e = absurd cc
refused_last false false false x y z o e = (refl, e)

last_place : (rows : List PairRow) (r : PairRow) → slice_get (rows ++ r ∷ []) (length rows) ≡ Some r
last_place [] r = refl
last_place (t ∷ rows) r = last_place rows r

-- A primary that has a row is paired again only if the row is suspended.
pub row_taken : (names : Naming) (rows : List PairRow) (primary secondary : List ℕ) (r : PairRow) (v : Option NamedVolume) → refuses_primary primary secondary names rows v ≡ None → row_of_primary primary rows ≡ Some r → is_suspended r.state ≡ true
row_taken names rows primary secondary r None own is = absurd cc
row_taken names rows primary secondary r (Some v) own is = by_broken (is_broken v.control names) own
  where
    by_row : (a b : Bool) → cond a (Some OtherSecondary) (cond (not b) (Some AlreadyPaired) None) ≡ None → b ≡ true
    by_row true b own = absurd cc
    by_row false true own = refl
    by_row false false own = absurd cc

    by_label : (l : Option NamedDevice) → refuses_label primary secondary rows v l ≡ None → is_suspended r.state ≡ true
    by_label None own = absurd cc
    by_label (Some l) own = by_row (not (bytes_eq r.secondary secondary)) (is_suspended r.state) (ap (refuses_found secondary rows v l) (sym is) ∙ own)

    by_broken : (b : Bool) → cond b (Some (ControlBroken v.control)) (refuses_label primary secondary rows v (labelled_device secondary names)) ≡ None → is_suspended r.state ≡ true
    by_broken true own = absurd cc
    by_broken false own = by_label (labelled_device secondary names) own

module _ (names : Naming) (rows : List PairRow) (at : ℕ) (level : Level) (cut : ℕ) (failed : List Bool) (s : Group) (apart : none_clash rows ≡ true) where
  abbrev hits : List PairRow → List PairRow
  hits next = rows_with_hits level cut failed next

  -- What is to show of a command's change, with the rows that it leaves.
  abbrev Takes : Change → List PairRow → Type 0
  Takes change next = none_clash next ≡ true → BegunControlsCount s change next → MayTake s change rows (hits next)

  takes_by : (change : Change) (next : List PairRow) → (none_clash next ≡ true → rows_by_command change rows (hits next) ≡ next) → (none_clash next ≡ true → BegunControlsCount s change next → MayBeBegun s change rows (hits next)) → Takes change next
  takes_by change next is begins clear counted = record {
    begun = begins clear counted;
    apart = ap none_clash (is clear) ∙ clear;
    follow = subst (λ (r : List PairRow). InPlaces IsSuspendedSince r (hits next)) (sym (is clear)) (hits_follow level cut failed next (apart_of next clear));
  }

  abbrev Counts : PairRow → Type 0
  Counts r = (r.control < length s.controls) × (counts (control_at s r.control).phase ≡ true)

  module _ (secondary : List ℕ) (group : Option (List ℕ)) (v : NamedVolume) (l : NamedDevice) (clear : none_clash (rows ++ new_row secondary group v l ∷ []) ≡ true) where
    abbrev new : PairRow
    new = new_row secondary group v l

    abbrev next : List PairRow
    next = rows ++ new ∷ []

    found : row_of l.device (hits next) ≡ Some (told_of level cut failed next new)
    found = ap (row_of l.device) (hits_told level cut failed next)
        ∙ found_in_map (told_of level cut failed next) (told_device (reach_of level next) cut (hit_now failed next)) l.device next new (row_at_place next (length rows) new (apart_of next clear) (last_place rows new))

    pending : in_state Pending (told_of level cut failed next new) ≡ new
    pending = ap (in_state Pending) (told_at level cut failed next (length rows) new (apart_of next clear) (last_place rows new)).same

    new_there : rows_by_command (Added l.device) rows (hits next) ≡ next
    new_there = ap (λ (o : Option PairRow). rows ++ as_pending o) found ∙ ap (λ (x : PairRow). rows ++ x ∷ []) pending

    new_begins : BegunControlsCount s (Added l.device) next → MayBeBegun s (Added l.device) rows (hits next)
    new_begins counted = subst (λ (o : Option PairRow). IsSomeAnd o Counts) (sym found) (subst Counts (sym pending) (counted new (contains_of new next (among_last new rows)) (eq-eqb l.device l.device refl)))

  takes_new : (secondary : List ℕ) (group : Option (List ℕ)) (v : NamedVolume) (l : NamedDevice) → Takes (Added l.device) (rows ++ new_row secondary group v l ∷ [])
  takes_new secondary group v l = takes_by (Added l.device) (rows ++ new_row secondary group v l ∷ []) (new_there secondary group v l) (new_begins secondary group v l)

  abbrev RowsBy : (secondary : List ℕ) → (group : Option (List ℕ)) → Option PairRow → Option NamedVolume → Option NamedDevice → Type 0
  RowsBy secondary group o v l = Takes (added o l) (add_to group rows o (new_row_for secondary group v l))

  -- A row that is resumed.
  takes_again : (primary : List ℕ) (group : Option (List ℕ)) (r : PairRow) → row_of_primary primary rows ≡ Some r → is_suspended r.state ≡ true → Takes (Resumed r.device) (map (λ x. cond (is_of_primary r.primary x) (resumed_in group x) x) rows)
  takes_again primary group r is suspended = λ clear counted. record {
    begun = subst (λ (o : Option PairRow). IfSome o (λ x. (is_suspended x.state ≡ true) × (counts (control_at s x.control).phase ≡ true))) (sym found) (suspended, (begins counted).1);
    apart = stands_apart (stands_again (row_of r.device rows) (row_of r.device (hits next)));
    follow = subst (λ (g : Option (List ℕ)). InPlaces IsSuspendedSince (rows_again (stands_again (row_of r.device rows) (row_of r.device (hits next))) g) (hits next)) (sym (behind clear))
        (stands_follow (stands_again (row_of r.device rows) (row_of r.device (hits next))) refl clear);
  }
    where
      next : List PairRow
      next = map (λ x. cond (is_of_primary r.primary x) (resumed_in group x) x) rows

      resumed : PairRow
      resumed = resumed_in group r

      again : with_resumed r.device group rows ≡ next
      again = changed_of_primary primary (resumed_in group) rows r apart is

      among : Among r rows
      among = found_in (is_of_primary primary) rows r is

      found : row_of r.device rows ≡ Some r
      found = found_of_device r rows apart among

      there : Contains next resumed
      there = subst (λ (all : List PairRow). Contains all resumed) again (contains_of resumed (with_resumed r.device group rows) (itself_among r (resumed_in group) (λ x. refl) rows apart among))

      begins : BegunControlsCount s (Resumed r.device) next → Counts resumed
      begins counted = counted resumed there (eq-eqb r.device r.device refl)

      -- the rows that the command leaves, with the row in a group
      rows_again : Bool → Option (List ℕ) → List PairRow
      rows_again b g = cond b (regrouped_rows r.device g rows) (with_resumed r.device g rows)

      stands_apart : (b : Bool) → none_clash (rows_again b (pair_group_after r.device (hits next))) ≡ true
      stands_apart true =
          let g = pair_group_after r.device (hits next) in
          apart_still rows (regrouped_rows r.device g rows) (changed_pairs r (regrouped_row g) (λ x. refl) rows apart among) apart
      stands_apart false =
          let g = pair_group_after r.device (hits next) in
          apart_still rows (with_resumed r.device g rows) (changed_pairs r (resumed_in g) (λ x. refl) rows apart among) apart

      -- the row after the hits
      after : none_clash next ≡ true → row_of r.device (hits next) ≡ Some (told_of level cut failed next resumed)
      after clear = ap (row_of r.device) (hits_told level cut failed next)
          ∙ found_in_map (told_of level cut failed next) (told_device (reach_of level next) cut (hit_now failed next)) r.device next resumed (found_of_device resumed next clear (among_of next resumed there))

      -- It has the command's group.
      behind : none_clash next ≡ true → pair_group_after r.device (hits next) ≡ group
      behind clear = ap group_of_row (after clear) ∙ ap (λ (x : PairRow). x.group) (told_state (reach_of level next) cut (hit_now failed next) resumed)

      -- The resumed row is suspended again as it was, so it stays in its state.
      stays : stands_again (row_of r.device rows) (row_of r.device (hits next)) ≡ true → none_clash next ≡ true → (x z : PairRow) → Among x rows → IsSuspendedSince (row_changed r.device (resumed_in group) x) z
          → (is_of r.device x ≡ true → z ≡ told_of level cut failed next resumed) → IsSuspendedSince (row_changed r.device (regrouped_row group) x) z
      stays stands clear x z have h told = choose (is_of r.device x) refl h
        where
          choose : (b : Bool) → is_of r.device x ≡ b → IsSuspendedSince (cond b (resumed_in group x) x) z → IsSuspendedSince (cond b (regrouped_row group x) x) z
          choose false other h = h
          choose true own h = record {
            same = h.same;
            stays = λ e.
                let itself : r ≡ x = one_of_device r x rows apart among have (eqb-true r.device x.device own) in
                ap (λ (y : PairRow). y.state) (told own)
                ∙ sym (same_states r.state (let y : PairRow = told_of level cut failed next resumed in y.state) (ap (λ (o : Option PairRow). stands_again o (Some (told_of level cut failed next resumed))) (sym found) ∙ ap (stands_again (row_of r.device rows)) (sym (after clear)) ∙ stands))
                ∙ ap (λ (y : PairRow). y.state) itself;
          }

      stands_follow : (b : Bool) → stands_again (row_of r.device rows) (row_of r.device (hits next)) ≡ b → none_clash next ≡ true → InPlaces IsSuspendedSince (rows_again b group) (hits next)
      stands_follow false stands clear = subst (λ (all : List PairRow). InPlaces IsSuspendedSince all (hits next)) (sym again) (hits_follow level cut failed next (apart_of next clear))
      stands_follow true stands clear =
          subst (λ (all : List PairRow). InPlaces IsSuspendedSince (regrouped_rows r.device group rows) all) (ap (map (told_of level cut failed next)) again ∙ sym (hits_told level cut failed next))
          (in_places_both IsSuspendedSince (row_changed r.device (regrouped_row group)) (row_changed r.device (resumed_in group)) (told_of level cut failed next) rows (λ i x at.
          let have : Among x rows = among_of rows x (i, slice_get_within rows i x at, get_or_from_slice_get rows i x x at) in
          stays stands clear x (told_of level cut failed next (row_changed r.device (resumed_in group) x)) have
          (told_at level cut failed next i (row_changed r.device (resumed_in group) x) (apart_of next clear)
          (ap (λ (all : List PairRow). slice_get all i) (sym again) ∙ slice_get-map (row_changed r.device (resumed_in group)) rows i ∙ ap (option_map (row_changed r.device (resumed_in group))) at))
          (λ own. ap (told_of level cut failed next) (ap (λ (b : Bool). cond b (resumed_in group x) x) own ∙ ap (resumed_in group) (sym (one_of_device r x rows apart among have (eqb-true r.device x.device own)))))))

  takes_pair : (primary secondary : List ℕ) (group : Option (List ℕ)) → refuses_primary primary secondary names rows (primary_of primary names) ≡ None
      → Takes (change_of names (AddPair primary secondary group) rows) (rows_after names at (AddPair primary secondary group) rows)
  takes_pair primary secondary group own = by_row (row_of_primary primary rows) refl
    where
      by_label : (v : NamedVolume) (l : Option NamedDevice) → refuses_label primary secondary rows v l ≡ None → RowsBy secondary group None (Some v) l
      by_label v None own = absurd cc
      by_label v (Some l) own = takes_new secondary group v l

      by_broken : (v : NamedVolume) (b : Bool) → cond b (Some (ControlBroken v.control)) (refuses_label primary secondary rows v (labelled_device secondary names)) ≡ None → RowsBy secondary group None (Some v) (labelled_device secondary names)
      by_broken v true own = absurd cc
      by_broken v false own = by_label v (labelled_device secondary names) own

      by_volume : (v : Option NamedVolume) → refuses_primary primary secondary names rows v ≡ None → RowsBy secondary group None v (labelled_device secondary names)
      by_volume None own = absurd cc
      by_volume (Some v) own = by_broken v (is_broken v.control names) own

      by_row : (o : Option PairRow) → row_of_primary primary rows ≡ o → RowsBy secondary group o (primary_of primary names) (labelled_device secondary names)
      by_row None is = by_volume (primary_of primary names) own
      by_row (Some r) is = takes_again primary group r is (row_taken names rows primary secondary r (primary_of primary names) own is)

  takes_command : (command : Command) → is_start command ≡ false → refuses_command names rows command ≡ None → Takes (change_of names command rows) (rows_after names at command rows)
  takes_command (Start level) start own = absurd (true≢false start)
  takes_command (AddPair primary secondary group) start own = takes_pair primary secondary group own
  takes_command (DelPair choice) start own = takes_by (Gone (devices_of (filter (is_chosen choice) rows))) (filter (λ r. not (is_chosen choice r)) rows) (λ clear. gone_rows (is_chosen choice) rows (apart_of rows apart)) (λ clear counted. tt)
  takes_command (Suspend choice) start own = λ clear counted. record { begun = tt; apart = apart; follow = suspends_follow level cut failed choice at rows (apart_of rows apart) }
  takes_command Query start own = takes_by (change_of names Query rows) rows (λ clear. refl) (λ clear counted. tt)
  takes_command End start own = takes_by (change_of names End rows) rows (λ clear. refl) (λ clear counted. tt)

pub commands_may_be_taken : CommandsMayBeTaken
commands_may_be_taken names table session command change at level cut failed s started apart is clear counted =
    let parts = accepted_parts (refusal names table session command) (change_of names command table.rows) change is in
    let last = refused_last table.is_ended (not (bytes_eq session table.session) || (not table.is_started && not (is_start command))) (is_start command && table.is_started) _ _ _ (refuses_command names table.rows command) parts.0 in
    let start : is_start command ≡ false = not_start (is_start command) table.is_started started last.0 in
    let rows_are = ap (λ (o : Option Refusal). let t : Table = cond (is_none o) (accepted names at command table) table in t.rows) parts.0 in
    subst (λ (next : List PairRow). Takes names table.rows at level cut failed s apart change next) (sym rows_are)
    (subst (λ (made : Change). Takes names table.rows at level cut failed s apart made (rows_after names at command table.rows)) parts.1 (takes_command names table.rows at level cut failed s apart command start last.1)) clear counted
  where
    not_start : (a b : Bool) → b ≡ true → (a && b) ≡ false → a ≡ false
    not_start true b is none = absurd (true≢false (sym is ∙ none))
    not_start false b is none = refl
