-- A mover that begins with a state that keeps volumes for rows knows these rows.
use Rattle.std.proofs.Common.{◌≡◌, ◌<◌, ℕ, zero, suc, nat_eq, Bool, true, false, cond, not, ◌&&◌, ◌||◌, List, [], ◌∷◌, get_or, length, map, Option, Some, refl, sym, ap, subst, ◌∙◌, arith, inl, inr, true≢false}
use Rattle.std.specs.Prelude.{IsSomeAnd, slice_get}
use Rattle.std.specs.List.{All, Contains, list_any}
use Rattle.std.proofs.lemmas.Bool.{and_parts, cases_Bool, eq-eqb, eqb-true, not-true, or_cases, or_left}
use Rattle.std.proofs.lemmas.List.{length-map}
use Rattle.std.proofs.lemmas.Option.{same_Some}
use Rattle.pair_table.specs.declared.row.PairRow.{PairRow}
use Rattle.pair_table.specs.Rows.{is_suspended}
use Rattle.group_state.specs.declared.volume.Volume.{Volume}
use Rattle.group_state.specs.Controls.{ControlState, new_control}
use Rattle.group_state.specs.Groups.{Group, control_at}
use Rattle.group_state.specs.SoundStates.{Sound, are_distinct}
use Rattle.group_state.specs.Volumes.{has_volume, passes, volume_of}
use Rattle.group_state.proofs.VolumeLaws.{has_found}
use Rattle.consistency.specs.Stages.{tracks_of_row}
use Rattle.turn_group.specs.Notes.{KnownVolume, known_of, known_volume, volumes_known}
use Rattle.turn_group.proofs.Known.{map_at}
use Rattle.fed_logs.specs.Logs.{is_of_size}
use Rattle.fed_logs.specs.Moves.{HasRowIn}
use Rattle.mover.specs.OwedTracks.{IsAny}
use Rattle.mover.proofs.Pairs.{among_of, found_row, named_by}
use Rattle.xrc_session.specs.Taking.{IsSoundForRow, IsSoundForRows}
use Rattle.xrc_session.proofs.Knowing.{never_both}
use Rattle.mover.specs.Moves.{IsOfLive, KnowsRows, are_numbers_distinct, is_carried_as, known_at_control, names_number, row_of_volume}
use Rattle.mover.proofs.SamePairs.{at_of}
use Rattle.xrc_session.specs.Joins.{KeptRowsAreKnown}

-- ---- an item that passes

pub record HasSome {X : Type 0} (test : X → Bool) (items : List X) : Type 0 where
  pub item : X
  pub among : Contains items item
  pub is : test item ≡ true

pub some_of : {X : Type 0} (test : X → Bool) (items : List X) → list_any test items ≡ true → HasSome test items
some_of test [] some = absurd (true≢false (sym some))
some_of test (x ∷ items) some = elim (or_cases (test x) (list_any test items) some) [
  | inl here ↦ record { item = x; among = (0, omega arith, refl); is = here }
  | inr later ↦ let n = some_of test items later in let c = n.among in record { item = n.item; among = (suc c.0, (let low = c.1 in omega (arith, low)), c.2); is = n.is }
]

-- ---- the volumes of a controller

known_named : (v : ℕ) (volumes : List Volume) → list_any (names_number v) (map known_volume volumes) ≡ has_volume v volumes
known_named v [] = refl
known_named v (u ∷ volumes) = ap (λ (b : Bool). nat_eq u.number v || b) (known_named v volumes)

known_distinct : (volumes : List Volume) → are_numbers_distinct (map known_volume volumes) ≡ are_distinct volumes
known_distinct [] = refl
known_distinct (u ∷ volumes) = λ i. not (known_named u.number volumes i) && known_distinct volumes i

known_carried : (v : ℕ) (volumes : List Volume) → passes (λ u. u.carried) (volume_of v volumes) ≡ true → list_any (is_carried_as v) (map known_volume volumes) ≡ true
known_carried v [] is = absurd (true≢false (sym is))
known_carried v (u ∷ volumes) is = choose (nat_eq u.number v) is (known_carried v volumes)
  where
    choose : (b : Bool) → passes (λ (u : Volume). u.carried) (cond b (Some u) (volume_of v volumes)) ≡ true → (passes (λ (u : Volume). u.carried) (volume_of v volumes) ≡ true → list_any (is_carried_as v) (map known_volume volumes) ≡ true)
        → ((b && u.carried) || list_any (is_carried_as v) (map known_volume volumes)) ≡ true
    choose true is others = or_left u.carried (list_any (is_carried_as v) (map known_volume volumes)) is
    choose false is others = others is

-- The volume that is known as this one is found by its number.
record IsFound (u : KnownVolume) (volumes : List Volume) : Type 0 where
  volume : Volume
  found : volume_of u.number volumes ≡ Some volume
  known : known_volume volume ≡ u

known_found : (volumes : List Volume) (i : ℕ) (u : KnownVolume) → slice_get (map known_volume volumes) i ≡ Some u → are_distinct volumes ≡ true → IsFound u volumes
known_found [] i u at distinct = absurd cc
known_found (w ∷ volumes) zero u at distinct =
    let same : known_volume w ≡ u = same_Some (known_volume w) u at in
    record { volume = w; found = ap (λ (b : Bool). cond b (Some w) (volume_of u.number volumes)) (eq-eqb w.number u.number (ap (λ (k : KnownVolume). k.number) same)); known = same }
known_found (w ∷ volumes) (suc i) u at distinct =
    let parts = and_parts (not (has_volume w.number volumes)) (are_distinct volumes) distinct in
    let later = known_found volumes i u at parts.1 in
    record { volume = later.volume; found = ap (λ (b : Bool). cond b (Some w) (volume_of u.number volumes)) (apart parts.0 (has_found u.number volumes later.volume later.found)) ∙ later.found; known = later.known }
  where
    apart : not (has_volume w.number volumes) ≡ true → has_volume u.number volumes ≡ true → nat_eq w.number u.number ≡ false
    apart none some = elim (cases_Bool (nat_eq w.number u.number)) [
      | inl same ↦ absurd (true≢false (sym some ∙ ap (λ (n : ℕ). has_volume n volumes) (sym (eqb-true w.number u.number same)) ∙ not-true (has_volume w.number volumes) none))
      | inr other ↦ other
    ]

distinct_at : (controls : List ControlState) (k : ℕ) → All Sound controls → are_distinct (get_or controls k (new_control 0 0 0)).volumes ≡ true
distinct_at [] k sound = refl
distinct_at (c ∷ controls) zero sound = (sound 0 c (omega arith)).distinct
distinct_at (c ∷ controls) (suc k) sound = distinct_at controls k (λ i d low. sound (suc i) d (omega (arith, low)))

-- ---- rows

module _ (s : Group) (rows : List PairRow) (kept : IsSoundForRows s rows) where
  known_is : (k : ℕ) → known_at_control k (volumes_known s) ≡ map known_volume (control_at s k).volumes
  known_is k = map_at known_of s.controls k (new_control 0 0 0) [] refl

  distinct : (k : ℕ) → are_distinct (control_at s k).volumes ≡ true
  distinct k = distinct_at s.controls k kept.keeps.sound

  live_row : (k : ℕ) (u : KnownVolume) (w : Volume) → volume_of u.number (control_at s k).volumes ≡ Some w → known_volume w ≡ u → u.carried ≡ true → HasRowIn IsAny k u.number rows → IsSomeAnd (row_of_volume k u.number rows) (IsOfLive k u)
  live_row k u w found known carried has = subst (λ (o : Option PairRow). IsSomeAnd o (IsOfLive k u)) (sym at) (live, tracks)
    where
      at : row_of_volume k u.number rows ≡ Some has.row
      at = found_row k u.number has.row rows kept.apart (among_of rows has.row has.among) (named_by k u.number has.row has.control has.volume)

      own : IsSoundForRow s has.row
      own = kept.each has.row has.among

      here : volume_of has.row.volume (control_at s has.row.control).volumes ≡ Some w
      here = ap (λ (j : ℕ). volume_of has.row.volume (control_at s j).volumes) has.control ∙ ap (λ (n : ℕ). volume_of n (control_at s k).volumes) has.volume ∙ found

      live : is_suspended has.row.state ≡ false
      live = elim (cases_Bool (is_suspended has.row.state)) [
        | inl gone ↦ absurd (never_both (volume_of has.row.volume (control_at s has.row.control).volumes) (ap (passes (λ (u : Volume). u.carried)) here ∙ ap (λ (x : KnownVolume). x.carried) known ∙ carried) (own.own.dropped gone))
        | inr is ↦ is
      ]

      tracks : u.tracks ≡ tracks_of_row has.row
      tracks = ap (λ (x : KnownVolume). x.tracks) (sym known) ∙ eqb-true (length w.map) (tracks_of_row has.row) (ap (passes (is_of_size (tracks_of_row has.row))) (sym here) ∙ own.own.sized)

  live_volume : (k : ℕ) (u : KnownVolume) → Contains (known_at_control k (volumes_known s)) u → u.carried ≡ true → IsSomeAnd (row_of_volume k u.number rows) (IsOfLive k u)
  live_volume k u has carried =
      let at = at_of (map known_volume (control_at s k).volumes) u (subst (λ (l : List KnownVolume). Contains l u) (known_is k) has) in
      let f = known_found (control_at s k).volumes at.0 u at.1 (distinct k) in
      live_row k u f.volume f.found f.known carried (kept.rowed k u.number (ap (passes (λ (u : Volume). true)) f.found))

  knows_kept : KnowsRows (volumes_known s) rows
  knows_kept = record {
    controls = λ r among. subst (λ (n : ℕ). r.control < n) (sym (length-map s.controls known_of)) (kept.each r among).low;
    distinct = λ k. ap are_numbers_distinct (known_is k) ∙ known_distinct (control_at s k).volumes ∙ distinct k;
    live = live_volume;
    carried = λ r among live. ap (list_any (is_carried_as r.volume)) (known_is r.control) ∙ known_carried r.volume (control_at s r.control).volumes ((kept.each r among).own.carried live);
  }

pub kept_known : KeptRowsAreKnown
kept_known s rows kept = knows_kept s rows kept
