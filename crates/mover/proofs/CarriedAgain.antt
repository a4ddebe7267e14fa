-- After a log the volumes of rows are carried as the rows are live, by what the mover's seat knows of them.
use Rattle.std.proofs.Common.{◌≡◌, ℕ, suc, nat_eq, Bool, true, false, cond, not, ◌&&◌, ◌||◌, List, [], ◌∷◌, length, map, Option, Some, None, refl, sym, ap, ◌∙◌, subst, arith, true≢false, inl, inr}
use Rattle.std.specs.Prelude.{IsSomeAnd, find}
use Rattle.std.specs.List.{Contains, list_any}
use Rattle.std.proofs.lemmas.Bool.{and_from, and_parts, eq-eqb, eqb-true, not-true, or_cases, or_left, or_right}
use Rattle.pair_table.specs.declared.row.PairRow.{PairRow}
use Rattle.pair_table.specs.Rows.{is_suspended}
use Rattle.pair_table.specs.Tables.{none_clash}
use Rattle.group_state.specs.declared.volume.Volume.{Volume}
use Rattle.group_state.specs.Controls.{new_control}
use Rattle.group_state.specs.Groups.{Group, control_at}
use Rattle.group_state.specs.SoundStates.{is_dropped}
use Rattle.group_state.specs.Volumes.{passes, volume_of}
use Rattle.group_state.proofs.VolumeLaws.{found_number}
use Rattle.record_rows.specs.ToldRows.{InPlaces}
use Rattle.consistency.specs.Stages.{tracks_of_row}
use Rattle.fed_logs.specs.Logs.{is_of_size}
use Rattle.turn_group.specs.Notes.{KnownVolume, known_of, known_volume, volumes_known}
use Rattle.turn_group.proofs.Known.{HasSizesOf, map_at, sizes_at, sizes_in}
use Rattle.mover.specs.OwedTracks.{CarriedAsLive}
use Rattle.mover.proofs.Pairs.{among_of, apart_still, found_row, pair_of, pairs_of}
use Rattle.mover.specs.Moves.{IsOfLive, KnowsRows, are_numbers_distinct, is_carried_as, known_at_control, names_number, row_of_volume}
use Rattle.mover.specs.Epochs.{IsSamePair}
use Rattle.mover.proofs.SamePairs.{at_of, before, contains_at}

-- ---- rows of the same pairs

same_pairs_of : (rows next : List PairRow) → InPlaces IsSamePair rows next → pairs_of next ≡ pairs_of rows
same_pairs_of [] [] are = refl
same_pairs_of [] (s ∷ next) are = absurd are
same_pairs_of (r ∷ rows) [] are = absurd are
same_pairs_of (r ∷ rows) (s ∷ next) are = λ i. ap pair_of are.0 i ∷ same_pairs_of rows next are.1 i

-- They are apart if those before were.
pub apart_again : (rows next : List PairRow) → InPlaces IsSamePair rows next → none_clash rows ≡ true → none_clash next ≡ true
apart_again rows next are apart = apart_still rows next (same_pairs_of rows next are) apart

-- ---- volumes that are known

carried_named : (v : ℕ) (known : List KnownVolume) → list_any (is_carried_as v) known ≡ true → list_any (names_number v) known ≡ true
carried_named v [] some = some
carried_named v (u ∷ known) some = elim (or_cases (is_carried_as v u) (list_any (is_carried_as v) known) some) [
  | inl here ↦ or_left (names_number v u) (list_any (names_number v) known) (and_parts (nat_eq u.number v) u.carried here).0
  | inr later ↦ or_right (names_number v u) (list_any (names_number v) known) (carried_named v known later)
]

carried_found : (v : ℕ) (volumes : List Volume) → list_any (is_carried_as v) (map known_volume volumes) ≡ true → are_numbers_distinct (map known_volume volumes) ≡ true → passes (λ u. u.carried) (volume_of v volumes) ≡ true
carried_found v [] some apart = absurd (true≢false (sym some))
carried_found v (u ∷ volumes) some apart = choose (nat_eq u.number v) refl (carried_found v volumes)
  where
    known : List KnownVolume
    known = map known_volume volumes

    parts : (not (list_any (names_number u.number) known) ≡ true) × (are_numbers_distinct known ≡ true)
    parts = and_parts (not (list_any (names_number u.number) known)) (are_numbers_distinct known) apart

    cases : (t : Bool) → nat_eq u.number v ≡ t → ((t && u.carried) || list_any (is_carried_as v) known) ≡ true
    cases t is = ap (λ (b : Bool). (b && u.carried) || list_any (is_carried_as v) known) (sym is) ∙ some

    choose : (t : Bool) → nat_eq u.number v ≡ t → (list_any (is_carried_as v) known ≡ true → are_numbers_distinct known ≡ true → passes (λ (u : Volume). u.carried) (volume_of v volumes) ≡ true) → passes (λ (u : Volume). u.carried) (cond t (Some u) (volume_of v volumes)) ≡ true
    choose true is others = elim (or_cases u.carried (list_any (is_carried_as v) known) (cases true is)) [
      | inl here ↦ here
      | inr later ↦ absurd (true≢false (sym (carried_named v known later) ∙ ap (λ (n : ℕ). list_any (names_number n) known) (sym (eqb-true u.number v is)) ∙ not-true (list_any (names_number u.number) known) parts.0))
    ]
    choose false is others = others (cases false is) parts.1

known_there : (v : ℕ) (volumes : List Volume) (u : Volume) → volume_of v volumes ≡ Some u → Contains (map known_volume volumes) (known_volume u)
known_there v [] u is = absurd cc
known_there v (w ∷ volumes) u is = choose (known_there v volumes u) (nat_eq w.number v) is
  where
    one : (a b : Volume) → Some a ≡ Some b → a ≡ b
    one a b e = cc

    choose : (volume_of v volumes ≡ Some u → Contains (map known_volume volumes) (known_volume u)) → (t : Bool) → cond t (Some w) (volume_of v volumes) ≡ Some u → Contains (known_volume w ∷ map known_volume volumes) (known_volume u)
    choose others true is = (0, omega arith, ap known_volume (one w u is))
    choose others false is = let c = others is in (suc c.0, (let low = c.1 in omega (arith, low)), c.2)

-- ---- sizes

abbrev is_of_tracks : (n : ℕ) → Option (ℕ × ℕ) → Bool
is_of_tracks n None = false
is_of_tracks n (Some u) = nat_eq u.1 n

tracks_by : (n v : ℕ) (volumes : List Volume) → passes (is_of_size n) (volume_of v volumes) ≡ is_of_tracks n (find (λ (u : ℕ × ℕ). nat_eq u.0 v) (sizes_in (map known_volume volumes)))
tracks_by n v [] = refl
tracks_by n v (u ∷ volumes) = choose (nat_eq u.number v) (tracks_by n v volumes)
  where
    choose : (t : Bool) → passes (is_of_size n) (volume_of v volumes) ≡ is_of_tracks n (find (λ (u : ℕ × ℕ). nat_eq u.0 v) (sizes_in (map known_volume volumes)))
        → passes (is_of_size n) (cond t (Some u) (volume_of v volumes)) ≡ is_of_tracks n (cond t (Some (u.number, length u.map)) (find (λ (u : ℕ × ℕ). nat_eq u.0 v) (sizes_in (map known_volume volumes))))
    choose true rest = refl
    choose false rest = rest

tracks_still : (first s : Group) (k v n : ℕ) → HasSizesOf first s → passes (is_of_size n) (volume_of v (control_at s k).volumes) ≡ passes (is_of_size n) (volume_of v (control_at first k).volumes)
tracks_still first s k v n h =
    tracks_by n v (control_at s k).volumes ∙ ap (λ l. is_of_tracks n (find (λ (u : ℕ × ℕ). nat_eq u.0 v) l)) (sizes_at first s k h) ∙ sym (tracks_by n v (control_at first k).volumes)

-- ---- rows

live_row : (k : ℕ) (u : KnownVolume) (o : Option PairRow) (r : PairRow) → o ≡ Some r → IsSomeAnd o (IsOfLive k u) → is_suspended r.state ≡ false
live_row k u o r is live = let here : IsSomeAnd (Some r) (IsOfLive k u) = subst (λ (o : Option PairRow). IsSomeAnd o (IsOfLive k u)) is live in here.0

module _ (first end : Group) (rows next : List PairRow) (sizes : HasSizesOf first end) (carried : CarriedAsLive first rows) (pairs : InPlaces IsSamePair rows next) (apart : none_clash next ≡ true) (knows : KnowsRows (volumes_known end) next) where
  known_is : (k : ℕ) → known_at_control k (volumes_known end) ≡ known_of (control_at end k)
  known_is k = map_at known_of end.controls k (new_control 0 0 0) [] refl

  sized_again : (r : PairRow) → Contains next r → passes (is_of_size (tracks_of_row r)) (volume_of r.volume (control_at end r.control).volumes) ≡ true
  sized_again r has =
      let at = at_of next r has in
      let b = before IsSamePair rows next at.0 r pairs at.1 in
      let was = (carried b.row (contains_at rows at.0 b.row b.at)).sized in
      tracks_still first end r.control r.volume (tracks_of_row r) sizes
      ∙ subst (λ (s : PairRow). passes (is_of_size (tracks_of_row s)) (volume_of s.volume (control_at first s.control).volumes) ≡ true) (sym b.is) was

  carried_live : (r : PairRow) → Contains next r → is_suspended r.state ≡ false → passes (λ u. u.carried) (volume_of r.volume (control_at end r.control).volumes) ≡ true
  carried_live r has live =
      carried_found r.volume (control_at end r.control).volumes (subst (λ (l : List KnownVolume). list_any (is_carried_as r.volume) l ≡ true) (known_is r.control) (knows.carried r has live))
      (subst (λ (l : List KnownVolume). are_numbers_distinct l ≡ true) (known_is r.control) (knows.distinct r.control))

  dropped_suspended : (r : PairRow) → Contains next r → is_suspended r.state ≡ true → is_dropped r.volume (control_at end r.control).volumes ≡ true
  dropped_suspended r has gone = of (volume_of r.volume (control_at end r.control).volumes) refl (sized_again r has)
    where
      still : (u : Volume) → volume_of r.volume (control_at end r.control).volumes ≡ Some u → (t : Bool) → u.carried ≡ t → not t ≡ true
      still u is false e = refl
      still u is true e =
          let there = subst (λ (l : List KnownVolume). Contains l (known_volume u)) (sym (known_is r.control)) (known_there r.volume (control_at end r.control).volumes u is) in
          let live = knows.live r.control (known_volume u) there e in
          let number : u.number ≡ r.volume = found_number r.volume (control_at end r.control).volumes u is in
          let found : row_of_volume r.control u.number next ≡ Some r = ap (λ (v : ℕ). row_of_volume r.control v next) number
          ∙ found_row r.control r.volume r next apart (among_of next r has) (and_from (nat_eq r.control r.control) (nat_eq r.volume r.volume) (eq-eqb r.control r.control refl) (eq-eqb r.volume r.volume refl)) in
          absurd (true≢false (sym gone ∙ live_row r.control (known_volume u) (row_of_volume r.control u.number next) r found live))

      of : (o : Option Volume) → volume_of r.volume (control_at end r.control).volumes ≡ o → passes (is_of_size (tracks_of_row r)) o ≡ true → passes (λ (u : Volume). not u.carried) o ≡ true
      of None is sized = absurd (true≢false (sym sized))
      of (Some u) is sized = still u is u.carried refl

  pub carried_again : CarriedAsLive end next
  carried_again r has = record { sized = sized_again r has; carried = carried_live r has; dropped = dropped_suspended r has }
