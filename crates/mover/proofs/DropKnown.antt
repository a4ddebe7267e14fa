-- What dropped volumes leave of what the mover's seat knows.
use Rattle.std.proofs.Common.{◌≡◌, ◌⊎◌, inl, inr, ℕ, zero, suc, ◌+◌, ◌*◌, Bool, true, false, not, cond, nat_eq, ◌==◌, ◌&&◌, ◌||◌, List, [], ◌∷◌, ◌++◌, length, get_or, set, Option, Some, None, refl, sym, ap, subst, ◌∙◌, arith, true≢false, slice_get}
use Rattle.std.specs.Prelude.{IsSomeAnd}
use Rattle.std.specs.List.{Contains, list_any}
use Rattle.std.proofs.lemmas.Bool.{and_cases, and_from, and_parts, and_left, and_right, eq-eqb, eqb-true, eqb-false, or_cases, or_from, or_parts, or_left, or_right, not-true}
use Rattle.std.proofs.lemmas.List.{get_or-set_other, length-set}
use Rattle.std.proofs.lemmas.List.Elements.{Contains-append_right}
use Rattle.std.proofs.lemmas.Option.{same_Some}
use Rattle.pair_table.specs.declared.row.PairRow.{PairRow}
use Rattle.pair_table.specs.declared.row.PairState.{PairState}
use Rattle.pair_table.specs.declared.row.PairState.TheVariants.{Pending, Copy, Duplex, Suspended}
use Rattle.pair_table.specs.Rows.{is_suspended}
use Rattle.pair_table.specs.Tables.{none_clash}
use Rattle.pair_table.proofs.PutLaws.{number_sym}
use Rattle.pair_table.specs.States.{is_by_device, owes}
use Rattle.turn_group.specs.Notes.{KnownVolume, known_after, without_carrying}
use Rattle.mover.specs.Dropping.{VolumeDrop, are_states_of, call_of_drop, drop_of, drops_from, known_after_drops, owes_since}
use Rattle.mover.specs.Moves.{IsOfLive, KeepPairs, KeepsPair, KnowsRows, are_numbers_distinct, is_carried_as, known_at_control, names_number, row_of_volume}
use Rattle.mover.proofs.SamePairs.{at_of, before, contains_at, found_still, one_row}

-- ---- one controller's volumes

same_numbers : (n v : ℕ) (known : List KnownVolume) → list_any (names_number n) (without_carrying v known) ≡ list_any (names_number n) known
same_numbers n v [] = refl
same_numbers n v (u ∷ known) = choose (nat_eq u.number v) (same_numbers n v known)
  where
    choose : (b : Bool) → list_any (names_number n) (without_carrying v known) ≡ list_any (names_number n) known → list_any (names_number n) (cond b (record u { carried = false } ∷ known) (u ∷ without_carrying v known)) ≡ list_any (names_number n) (u ∷ known)
    choose true rest = refl
    choose false rest = ap (λ (b : Bool). names_number n u || b) rest

distinct_still : (v : ℕ) (known : List KnownVolume) → are_numbers_distinct known ≡ true → are_numbers_distinct (without_carrying v known) ≡ true
distinct_still v [] is = refl
distinct_still v (u ∷ known) is = choose (nat_eq u.number v) (λ e. distinct_still v known e)
  where
    parts : (not (list_any (names_number u.number) known) ≡ true) × (are_numbers_distinct known ≡ true)
    parts = and_parts (not (list_any (names_number u.number) known)) (are_numbers_distinct known) is

    choose : (b : Bool) → (are_numbers_distinct known ≡ true → are_numbers_distinct (without_carrying v known) ≡ true) → are_numbers_distinct (cond b (record u { carried = false } ∷ known) (u ∷ without_carrying v known)) ≡ true
    choose true on = is
    choose false on = and_from (not (list_any (names_number u.number) (without_carrying v known))) (are_numbers_distinct (without_carrying v known)) (ap not (same_numbers u.number v known) ∙ parts.0) (on parts.1)

-- A volume that is carried still was carried, and isn't the one that was dropped.
number_at : (known : List KnownVolume) (n i : ℕ) (u : KnownVolume) → list_any (names_number n) known ≡ false → slice_get known i ≡ Some u → nat_eq u.number n ≡ false
number_at [] n i u none at = absurd cc
number_at (w ∷ known) n zero u none at = subst (λ (x : KnownVolume). nat_eq x.number n ≡ false) (same_Some w u at) (or_parts (nat_eq w.number n) (list_any (names_number n) known) none).0
number_at (w ∷ known) n (suc i) u none at = number_at known n i u (or_parts (nat_eq w.number n) (list_any (names_number n) known) none).1 at

carried_at : (v : ℕ) (known : List KnownVolume) (i : ℕ) (u : KnownVolume) → are_numbers_distinct known ≡ true → slice_get (without_carrying v known) i ≡ Some u → u.carried ≡ true → (slice_get known i ≡ Some u) × (nat_eq u.number v ≡ false)
carried_at v [] i u is at carried = absurd cc
carried_at v (w ∷ known) i u is at carried = choose (λ j e f. carried_at v known j u e f carried) (nat_eq w.number v) refl i at
  where
    parts : (not (list_any (names_number w.number) known) ≡ true) × (are_numbers_distinct known ≡ true)
    parts = and_parts (not (list_any (names_number w.number) known)) (are_numbers_distinct known) is

    choose : ((j : ℕ) → are_numbers_distinct known ≡ true → slice_get (without_carrying v known) j ≡ Some u → (slice_get known j ≡ Some u) × (nat_eq u.number v ≡ false)) → (b : Bool) → nat_eq w.number v ≡ b → (i : ℕ) → slice_get (cond b (record w { carried = false } ∷ known) (w ∷ without_carrying v known)) i ≡ Some u → (slice_get (w ∷ known) i ≡ Some u) × (nat_eq u.number v ≡ false)
    choose on true e zero at = absurd (true≢false (sym carried ∙ ap (λ (x : KnownVolume). x.carried) (sym (same_Some (record w { carried = false }) u at))))
    choose on true e (suc i) at = (at, subst (λ (n : ℕ). nat_eq u.number n ≡ false) (eqb-true w.number v e) (number_at known w.number i u (not-true (list_any (names_number w.number) known) parts.0) at))
    choose on false e zero at = (at, subst (λ (x : KnownVolume). nat_eq x.number v ≡ false) (same_Some w u at) e)
    choose on false e (suc i) at = on i parts.1 at

carried_still : (w v : ℕ) (known : List KnownVolume) → nat_eq w v ≡ false → list_any (is_carried_as w) known ≡ true → list_any (is_carried_as w) (without_carrying v known) ≡ true
carried_still w v [] other is = absurd cc
carried_still w v (u ∷ known) other is = choose (λ e. carried_still w v known other e) (nat_eq u.number v) refl
  where
    not_this : nat_eq u.number v ≡ true → is_carried_as w u ≡ false
    not_this e = and_left (nat_eq u.number w) u.carried (by (nat_eq u.number w) refl)
      where
        by : (b : Bool) → nat_eq u.number w ≡ b → b ≡ false
        by true same = absurd (true≢false (sym (eq-eqb w v (sym (eqb-true u.number w same) ∙ eqb-true u.number v e)) ∙ other))
        by false same = refl

    choose : (list_any (is_carried_as w) known ≡ true → list_any (is_carried_as w) (without_carrying v known) ≡ true) → (b : Bool) → nat_eq u.number v ≡ b → list_any (is_carried_as w) (cond b (record u { carried = false } ∷ known) (u ∷ without_carrying v known)) ≡ true
    choose on true e = or_right (is_carried_as w (record u { carried = false })) (list_any (is_carried_as w) known) (elim (or_cases (is_carried_as w u) (list_any (is_carried_as w) known) is) [
      | inl here ↦ absurd (true≢false (sym here ∙ not_this e))
      | inr later ↦ later
    ])
    choose on false e = elim (or_cases (is_carried_as w u) (list_any (is_carried_as w) known) is) [
      | inl here ↦ or_left (is_carried_as w u) (list_any (is_carried_as w) (without_carrying v known)) here
      | inr later ↦ or_right (is_carried_as w u) (list_any (is_carried_as w) (without_carrying v known)) (on later)
    ]

-- ---- volumes of all controllers, after drops

abbrev pub names_drop : (k v : ℕ) → VolumeDrop → Bool
names_drop k v d = d.control == k && d.volume == v

abbrev pub is_dropped : (k v : ℕ) → List VolumeDrop → Bool
is_dropped k v drops = list_any (names_drop k v) drops

set_here : (known : List (List KnownVolume)) (k v : ℕ) → get_or (set known k (without_carrying v (get_or known k []))) k [] ≡ without_carrying v (get_or known k [])
set_here [] k v = refl
set_here (c ∷ known) zero v = refl
set_here (c ∷ known) (suc k) v = set_here known k v

-- What a controller's volumes are after a drop of one: those without it, or as they were.
abbrev AtDrop : VolumeDrop → List (List KnownVolume) → (k : ℕ) → List KnownVolume → Type 0
AtDrop d known k now = ((nat_eq d.control k ≡ false) × (now ≡ known_at_control k known)) ⊎ ((nat_eq d.control k ≡ true) × (now ≡ without_carrying d.volume (known_at_control k known)))

at_drop : (d : VolumeDrop) (known : List (List KnownVolume)) (k : ℕ) → AtDrop d known k (known_at_control k (known_after (call_of_drop d) known))
at_drop d known k = choose (nat_eq d.control k) refl
  where
    mine : List KnownVolume
    mine = without_carrying d.volume (get_or known d.control [])

    choose : (b : Bool) → nat_eq d.control k ≡ b → AtDrop d known k (get_or (set known d.control mine) k [])
    choose true e = let is = eqb-true d.control k e in
        inr (e, ap (λ (j : ℕ). get_or (set known d.control mine) j []) (sym is) ∙ set_here known d.control d.volume ∙ ap (λ (j : ℕ). without_carrying d.volume (get_or known j [])) is)
    choose false e = inl (e, get_or-set_other known d.control k mine [] (λ same. eqb-false d.control k e (sym same)))

distinct_after : (drops : List VolumeDrop) (known : List (List KnownVolume)) → ((k : ℕ) → are_numbers_distinct (known_at_control k known) ≡ true) → (k : ℕ) → are_numbers_distinct (known_at_control k (known_after_drops drops known)) ≡ true
distinct_after [] known are k = are k
distinct_after (d ∷ drops) known are k = distinct_after drops (known_after (call_of_drop d) known) here k
  where
    here : (j : ℕ) → are_numbers_distinct (known_at_control j (known_after (call_of_drop d) known)) ≡ true
    here j = elim (at_drop d known j) [
      | inl same ↦ ap are_numbers_distinct same.1 ∙ are j
      | inr one ↦ ap are_numbers_distinct one.1 ∙ distinct_still d.volume (known_at_control j known) (are j)
    ]

pub same_controls : (drops : List VolumeDrop) (known : List (List KnownVolume)) → length (known_after_drops drops known) ≡ length known
same_controls [] known = refl
same_controls (d ∷ drops) known = same_controls drops (known_after (call_of_drop d) known) ∙ length-set known d.control (without_carrying d.volume (get_or known d.control []))

-- A volume that is carried after drops was carried before, and none of them was of it.
record CarriedBefore (k : ℕ) (drops : List VolumeDrop) (known : List (List KnownVolume)) (u : KnownVolume) : Type 0 where
  at : (i : ℕ) × (slice_get (known_at_control k known) i ≡ Some u)
  none : is_dropped k u.number drops ≡ false

carried_before : (k : ℕ) (drops : List VolumeDrop) (known : List (List KnownVolume)) (u : KnownVolume) → ((j : ℕ) → are_numbers_distinct (known_at_control j known) ≡ true) → (i : ℕ) × (slice_get (known_at_control k (known_after_drops drops known)) i ≡ Some u) → u.carried ≡ true → CarriedBefore k drops known u
carried_before k [] known u are at carried = record { at = at; none = refl }
carried_before k (d ∷ drops) known u are at carried = by (carried_before k drops (known_after (call_of_drop d) known) u (distinct_after (d ∷ []) known are) at carried) (at_drop d known k)
  where
    mid : List (List KnownVolume)
    mid = known_after (call_of_drop d) known

    other_number : nat_eq u.number d.volume ≡ false → nat_eq d.volume u.number ≡ false
    other_number e = number_sym d.volume u.number ∙ e

    by : CarriedBefore k drops mid u → AtDrop d known k (known_at_control k mid) → CarriedBefore k (d ∷ drops) known u
    by rest (inl same) = record {
      at = (rest.at.0, ap (λ (l : List KnownVolume). slice_get l rest.at.0) (sym same.1) ∙ rest.at.1);
      none = or_from (names_drop k u.number d) (is_dropped k u.number drops) (and_left (nat_eq d.control k) (nat_eq d.volume u.number) same.0) rest.none;
    }
    by rest (inr one) =
        let was = carried_at d.volume (known_at_control k known) rest.at.0 u (are k) (ap (λ (l : List KnownVolume). slice_get l rest.at.0) (sym one.1) ∙ rest.at.1) carried in
        record {
          at = (rest.at.0, was.0);
          none = or_from (names_drop k u.number d) (is_dropped k u.number drops) (and_right (nat_eq d.control k) (nat_eq d.volume u.number) (other_number was.1)) rest.none;
        }

-- A volume that was carried is carried still where none of the drops is of it.
carried_after : (k v : ℕ) (drops : List VolumeDrop) (known : List (List KnownVolume)) → list_any (is_carried_as v) (known_at_control k known) ≡ true → is_dropped k v drops ≡ false → list_any (is_carried_as v) (known_at_control k (known_after_drops drops known)) ≡ true
carried_after k v [] known is none = is
carried_after k v (d ∷ drops) known is none = carried_after k v drops (known_after (call_of_drop d) known) (by (at_drop d known k)) parts.1
  where
    parts : (names_drop k v d ≡ false) × (is_dropped k v drops ≡ false)
    parts = or_parts (names_drop k v d) (is_dropped k v drops) none

    other : nat_eq d.control k ≡ true → nat_eq v d.volume ≡ false
    other here = number_sym v d.volume ∙ elim (and_cases (nat_eq d.control k) (nat_eq d.volume v) parts.0) [
      | inl elsewhere ↦ absurd (true≢false (sym here ∙ elsewhere))
      | inr differs ↦ differs
    ]

    by : AtDrop d known k (known_at_control k (known_after (call_of_drop d) known)) → list_any (is_carried_as v) (known_at_control k (known_after (call_of_drop d) known)) ≡ true
    by (inl same) = ap (list_any (is_carried_as v)) same.1 ∙ is
    by (inr one) = ap (list_any (is_carried_as v)) one.1 ∙ carried_still v d.volume (known_at_control k known) (other one.0) is

-- ---- which rows' volumes are dropped

-- a row by which a volume was dropped
pub record DroppedBy (k v : ℕ) (was : List (Option PairState)) (place : ℕ) (rows : List PairRow) : Type 0 where
  pub offset : ℕ
  pub row : PairRow
  pub at : slice_get rows offset ≡ Some row
  pub control : row.control ≡ k
  pub volume : row.volume ≡ v
  pub all : Bool
  pub owes : owes_since (get_or was (offset + place) None) row.state ≡ Some all

pub dropped_by : (k v : ℕ) (was : List (Option PairState)) (place : ℕ) (rows : List PairRow) → is_dropped k v (drops_from place was rows) ≡ true → DroppedBy k v was place rows
dropped_by k v was place [] is = absurd cc
dropped_by k v was place (r ∷ rows) is = choose (λ e. dropped_by k v was (suc place) rows e) (owes_since (get_or was place None) r.state) refl is
  where
    later : DroppedBy k v was (suc place) rows → DroppedBy k v was place (r ∷ rows)
    later d = let same : suc d.offset + place ≡ d.offset + suc place = omega arith in
        record { offset = suc d.offset; row = d.row; at = d.at; control = d.control; volume = d.volume; all = d.all; owes = ap (λ (n : ℕ). owes_since (get_or was n None) d.row.state) same ∙ d.owes }

    choose : (is_dropped k v (drops_from (suc place) was rows) ≡ true → DroppedBy k v was (suc place) rows) → (o : Option Bool) → owes_since (get_or was place None) r.state ≡ o → is_dropped k v (drop_of r o ++ drops_from (suc place) was rows) ≡ true → DroppedBy k v was place (r ∷ rows)
    choose on None e is = later (on is)
    choose on (Some all) e is = elim (or_cases (nat_eq r.control k && nat_eq r.volume v) (is_dropped k v (drops_from (suc place) was rows)) is) [
      | inl here ↦ let names = and_parts (nat_eq r.control k) (nat_eq r.volume v) here in
          let same : 0 + place ≡ place = omega arith in
          record { offset = 0; row = r; at = refl; control = eqb-true r.control k names.0; volume = eqb-true r.volume v names.1; all = all; owes = ap (λ (n : ℕ). owes_since (get_or was n None) r.state) same ∙ e }
      | inr rest ↦ later (on rest)
    ]

-- The volume of a row that owes is dropped.
pub owed_is_dropped : (was : List (Option PairState)) (place : ℕ) (rows : List PairRow) (i : ℕ) (r : PairRow) (all : Bool) → slice_get rows i ≡ Some r → owes_since (get_or was (i + place) None) r.state ≡ Some all
    → Contains (drops_from place was rows) (record { control = r.control; volume = r.volume; all = all })
owed_is_dropped was place [] i r all at owes = absurd cc
owed_is_dropped was place (s ∷ rows) zero r all at owes =
    let same : place ≡ 0 + place = omega arith in
    let here : owes_since (get_or was place None) r.state ≡ Some all = ap (λ (n : ℕ). owes_since (get_or was n None) r.state) same ∙ owes in
    subst (λ (o : Option Bool). Contains (drop_of s o ++ drops_from (suc place) was rows) (record { control = r.control; volume = r.volume; all = all })) (sym (ap (λ (x : PairRow). owes_since (get_or was place None) x.state) (same_Some s r at) ∙ here))
    (subst (λ (x : PairRow). Contains (record { control = s.control; volume = s.volume; all = all } ∷ drops_from (suc place) was rows) (record { control = x.control; volume = x.volume; all = all })) (same_Some s r at) (0, omega arith, refl))
owed_is_dropped was place (s ∷ rows) (suc i) r all at owes =
    let same : i + suc place ≡ suc i + place = omega arith in
    Contains-append_right (drop_of s (owes_since (get_or was place None) s.state)) (drops_from (suc place) was rows) (record { control = r.control; volume = r.volume; all = all })
    (owed_is_dropped was (suc place) rows i r all at (ap (λ (n : ℕ). owes_since (get_or was n None) r.state) same ∙ owes))

dropped_named : (drops : List VolumeDrop) (d : VolumeDrop) → Contains drops d → is_dropped d.control d.volume drops ≡ true
dropped_named drops d has = named drops (at_of drops d has).0 (at_of drops d has).1
  where
    named : (drops : List VolumeDrop) (i : ℕ) → slice_get drops i ≡ Some d → is_dropped d.control d.volume drops ≡ true
    named [] i at = absurd cc
    named (e ∷ drops) zero at = or_left (names_drop d.control d.volume e) (is_dropped d.control d.volume drops) (subst (λ (x : VolumeDrop). names_drop x.control x.volume e ≡ true) (same_Some e d at) (and_from (nat_eq e.control e.control) (nat_eq e.volume e.volume) (eq-eqb e.control e.control refl) (eq-eqb e.volume e.volume refl)))
    named (e ∷ drops) (suc i) at = or_right (names_drop d.control d.volume e) (is_dropped d.control d.volume drops) (named drops i at)

-- ---- states

-- A row whose volume is dropped is suspended.
pub owes_gone : (was : Option PairState) (is : PairState) (all : Bool) → owes_since was is ≡ Some all → is_suspended is ≡ true
owes_gone None is all e = absurd cc
owes_gone (Some was) Pending all e = absurd cc
owes_gone (Some was) Copy all e = absurd cc
owes_gone (Some was) Duplex all e = absurd cc
owes_gone (Some was) (Suspended cause since) all e = refl

-- One that was live and is suspended is dropped.
pub suspended_owes : (was is : PairState) → is_suspended was ≡ false → is_suspended is ≡ true → (all : Bool) × (owes was is ≡ Some all)
suspended_owes was Pending live gone = absurd cc
suspended_owes was Copy live gone = absurd cc
suspended_owes was Duplex live gone = absurd cc
suspended_owes (Suspended cause at) (Suspended by since) live gone = absurd cc
suspended_owes Pending (Suspended by since) live gone = (true, refl)
suspended_owes Copy (Suspended by since) live gone = (true, refl)
suspended_owes Duplex (Suspended by since) live gone = (is_by_device by, refl)

-- ---- what is known stands to the rows again

module _ (was : List (Option PairState)) (rows next : List PairRow) (states : are_states_of rows was) (still : KeepPairs rows next) (apart : none_clash next ≡ true) where
  abbrev drops : List VolumeDrop
  drops = drops_from 0 was next

  -- A row that isn't suspended isn't dropped.
  none_live : (i : ℕ) (r : PairRow) → slice_get next i ≡ Some r → is_suspended r.state ≡ false → is_dropped r.control r.volume drops ≡ false
  none_live i r at live = by (is_dropped r.control r.volume drops) refl
    where
      by : (b : Bool) → is_dropped r.control r.volume drops ≡ b → b ≡ false
      by false e = refl
      by true e =
          let d = dropped_by r.control r.volume was 0 next e in
          let same = one_row next d.offset i d.row r apart d.at at d.control d.volume in
          absurd (true≢false (sym (owes_gone (get_or was (d.offset + 0) None) d.row.state d.all d.owes) ∙ ap (λ (x : PairRow). is_suspended x.state) same ∙ live))

  -- A row that was live and isn't dropped is live.
  live_still : (i : ℕ) (r s : PairRow) → slice_get rows i ≡ Some r → slice_get next i ≡ Some s → is_suspended r.state ≡ false → is_dropped s.control s.volume drops ≡ false → is_suspended s.state ≡ false
  live_still i r s before at live none = by (is_suspended s.state) refl
    where
      by : (b : Bool) → is_suspended s.state ≡ b → b ≡ false
      by false e = refl
      by true e =
          let owes = suspended_owes r.state s.state live e in
          let same : i + 0 ≡ i = omega arith in
          let is : owes_since (get_or was (i + 0) None) s.state ≡ Some owes.0 = ap (λ (n : ℕ). owes_since (get_or was n None) s.state) same ∙ ap (λ (o : Option PairState). owes_since o s.state) (states i r before) ∙ owes.1 in
          absurd (true≢false (sym (dropped_named drops _ (owed_is_dropped was 0 next i s owes.0 at is)) ∙ none))

  pub knows_after : (known : List (List KnownVolume)) → KnowsRows known rows → KnowsRows (known_after_drops drops known) next
  knows_after known knows = record {
    controls = λ r has.
        let at = at_of next r has in
        let b = before KeepsPair rows next at.0 r still at.1 in
        let low = knows.controls b.row (contains_at rows at.0 b.row b.at) in
        let same : r.control ≡ b.row.control = ap (λ (x : PairRow). x.control) b.is.same in
        let long = same_controls drops known in
        omega (arith, low, same, long);
    distinct = λ k. distinct_after drops known knows.distinct k;
    live = λ k u has carried.
        let was = carried_before k drops known u knows.distinct (at_of (known_at_control k (known_after_drops drops known)) u has) carried in
        live_of k u was.none (row_of_volume k u.number rows) refl (knows.live k u (contains_at (known_at_control k known) was.at.0 u was.at.1) carried);
    carried = λ r has live.
        let at = at_of next r has in
        let b = before KeepsPair rows next at.0 r still at.1 in
        let control : b.row.control ≡ r.control = ap (λ (x : PairRow). x.control) (sym b.is.same) in
        let volume : b.row.volume ≡ r.volume = ap (λ (x : PairRow). x.volume) (sym b.is.same) in
        let had = knows.carried b.row (contains_at rows at.0 b.row b.at) (b.is.live live) in
        carried_after r.control r.volume drops known (subst (λ (k : ℕ). list_any (is_carried_as r.volume) (known_at_control k known) ≡ true) control (subst (λ (v : ℕ). list_any (is_carried_as v) (known_at_control b.row.control known) ≡ true) volume had)) (none_live at.0 r at.1 live);
  }
    where
      live_of : (k : ℕ) (u : KnownVolume) → is_dropped k u.number drops ≡ false → (o : Option PairRow) → row_of_volume k u.number rows ≡ o → IsSomeAnd o (IsOfLive k u) → IsSomeAnd (row_of_volume k u.number next) (IsOfLive k u)
      live_of k u none None e is = absurd is
      live_of k u none (Some r) e is =
          let f = found_still k u.number rows next r still e in
          let control : f.row.control ≡ k = ap (λ (x : PairRow). x.control) f.is.same ∙ f.control in
          let volume : f.row.volume ≡ u.number = ap (λ (x : PairRow). x.volume) f.is.same ∙ f.volume in
          let named : is_dropped f.row.control f.row.volume drops ≡ false = subst (λ (j : ℕ). is_dropped j f.row.volume drops ≡ false) (sym control) (subst (λ (v : ℕ). is_dropped k v drops ≡ false) (sym volume) none) in
          subst (λ (o : Option PairRow). IsSomeAnd o (IsOfLive k u)) (sym f.found) (live_still f.place r f.row f.was_at f.at is.0 named, is.1 ∙ ap (λ (x : PairRow). 15 * x.cylinders) (sym f.is.same))
