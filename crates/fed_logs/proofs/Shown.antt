-- What a form shows of breaks and of plans that are done, by what the state has.
use Rattle.std.proofs.Common.{◌≡◌, ℕ, zero, suc, ◌<◌, Bool, true, false, not, cond, nat_eq, ◌&&◌, ◌||◌, List, [], ◌∷◌, length, get_or, map, Option, Some, None, inl, inr, refl, sym, ap, subst, ◌∙◌, arith, true≢false}
use Rattle.std.specs.Prelude.{filter}
use Rattle.std.specs.List.{list_all, list_any, flat_map, count_by}
use Rattle.std.proofs.lemmas.Bool.{cases_Bool, and_parts, or_cases, eqb-true, eq-eqb}
use Rattle.std.proofs.lemmas.List.{length-map}
use Rattle.std.proofs.lemmas.List.Elements.{All-get_or}
use Rattle.tod_stamp.specs.declared.stamp.Stamp.{Stamp}
use Rattle.ckd_track.specs.declared.write.Cause.{Cause}
use Rattle.change_map.specs.Sets.{has_track, size}
use Rattle.pending_queue.specs.Entries.{is_copy_of}
use Rattle.pending_queue.proofs.VolumeLaws.{any_append}
use Rattle.group_state.specs.declared.phase.Phase.{Phase}
use Rattle.group_state.specs.declared.phase.Phase.TheVariants.{Unbroken, Broken, Reported}
use Rattle.group_state.specs.declared.volume.Volume.{Volume}
use Rattle.group_state.specs.Volumes.{is_numbered, volume_of, has_volume, passes, wants, is_volume_done}
use Rattle.group_state.specs.Controls.{ControlState, new_control, counts, is_reporting, reported, reported_cause, reported_break, phase_after, formed, done_of}
use Rattle.group_state.specs.Groups.{Group, control_at, formed_at, shown_at}
use Rattle.group_state.specs.SoundStates.{Sound, IsGroupSound, are_distinct, passes_or_none, has_joined}
use Rattle.group_state.specs.HistoryLaws.{is_named}
use Rattle.group_state.proofs.SoundLaws.{count_cons}
use Rattle.group_state.proofs.FormLaws.{sound_formed}
use Rattle.group_state.proofs.VolumeLaws.{has_found}
use Rattle.group_state.proofs.OwnParts.{control_number}
use Rattle.fed_logs.proofs.Keeping.{at_map}
use Rattle.fed_logs.specs.Moves.{is_break_of_control, is_plan_shown_done}
use Rattle.fed_logs.specs.Logs.{IsPlanDone}

-- ---- parts of lists

-- some item's part has one that passes
record AnyAt {A B : Type 0} (p : B → Bool) (f : A → List B) (items : List A) (d : A) : Type 0 where
  at : ℕ
  low : at < length items
  any : list_any p (f (get_or items at d)) ≡ true

any_flat : {A B : Type 0} (p : B → Bool) (f : A → List B) (items : List A) (d : A) → list_any p (flat_map f items) ≡ true → AnyAt p f items d
any_flat p f [] d any = absurd cc
any_flat p f (a ∷ items) d any = elim (or_cases (list_any p (f a)) (list_any p (flat_map f items)) (sym (any_append p (f a) (flat_map f items)) ∙ any)) [
  | inl here ↦ record { at = 0; low = omega arith; any = here }
  | inr later ↦ let rest = any_flat p f items d later in record { at = suc rest.at; low = omega (arith, rest.low); any = rest.any }
]

either_left : (a b : Bool) → a ≡ true → (a || b) ≡ true
either_left true b e = refl
either_left false b e = absurd cc

either_right : (a b : Bool) → b ≡ true → (a || b) ≡ true
either_right true b e = refl
either_right false b e = e

flat_any : {A B : Type 0} (p : B → Bool) (f : A → List B) (items : List A) (i : ℕ) (d : A) → i < length items → list_any p (f (get_or items i d)) ≡ true → list_any p (flat_map f items) ≡ true
flat_any p f [] i d low any = absurd (omega (arith, low))
flat_any p f (a ∷ items) zero d low any = any_append p (f a) (flat_map f items) ∙ either_left (list_any p (f a)) (list_any p (flat_map f items)) any
flat_any p f (a ∷ items) (suc i) d low any = any_append p (f a) (flat_map f items) ∙ either_right (list_any p (f a)) (list_any p (flat_map f items)) (flat_any p f items i d (omega (arith, low)) any)

-- ---- breaks

abbrev is_of : (k : ℕ) → ℕ × Stamp × Cause → Bool
is_of k b = nat_eq b.0 k

-- a controller that counts, and of which no break is reported, counts after the form
still_counts : (k : ℕ) (cut floor : Stamp) (phase : Phase) → list_any (is_of k) (reported k floor (reported_cause cut floor phase)) ≡ false → counts phase ≡ true → counts (phase_after cut floor phase) ≡ true
still_counts k cut floor Unbroken none e = refl
still_counts k cut floor Reported none e = absurd cc
still_counts k cut floor (Broken cause) none e = choose (nat_eq floor.0 cut.0) none
  where
    choose : (t : Bool) → list_any (is_of k) (reported k floor (cond t (Some cause) None)) ≡ false → counts (cond t Reported (Broken cause)) ≡ true
    choose true none = absurd (true≢false (sym (either_left (nat_eq k k) false (eq-eqb k k refl)) ∙ none))
    choose false none = refl

pub counts_after : (s : Group) (cut : Stamp) (k : ℕ) → IsGroupSound s → k < length s.controls → is_break_of_control k (shown_at cut s) ≡ false → counts (control_at s k).phase ≡ true → counts (control_at (formed_at cut s) k).phase ≡ true
counts_after s cut k keeps low none counted =
    let c = control_at s k in
    let own = control_number s k keeps low in
    let here : list_any (is_of k) (reported_break cut c) ≡ false = elim (cases_Bool (list_any (is_of k) (reported_break cut c))) [
      | inl is ↦ absurd (true≢false (sym (flat_any (is_of k) (reported_break cut) s.controls k (new_control 0 0 0) low is) ∙ none))
      | inr is ↦ is
    ] in
    ap (λ (c : ControlState). counts c.phase) (at_map cut s.controls k low)
    ∙ still_counts k cut c.floor c.phase (subst (λ i. list_any (is_of k) (reported i c.floor (reported_cause cut c.floor c.phase)) ≡ false) own here) counted

-- what is reported has broken, at the cut
told_break : (j k : ℕ) (cut floor : Stamp) (phase : Phase) → list_any (is_of k) (reported j floor (reported_cause cut floor phase)) ≡ true → (j ≡ k) × (cut.0 ≡ floor.0) × (is_reporting phase ≡ false)
told_break j k cut floor Unbroken any = absurd cc
told_break j k cut floor Reported any = absurd cc
told_break j k cut floor (Broken cause) any = choose (nat_eq floor.0 cut.0) refl any
  where
    first : (a : Bool) → (a || false) ≡ true → a ≡ true
    first true e = refl
    first false e = e

    choose : (t : Bool) → nat_eq floor.0 cut.0 ≡ t → list_any (is_of k) (reported j floor (cond t (Some cause) None)) ≡ true → (j ≡ k) × (cut.0 ≡ floor.0) × (false ≡ false)
    choose true is any = (eqb-true j k (first (nat_eq j k) any), sym (eqb-true floor.0 cut.0 is), refl)
    choose false is any = absurd cc

pub break_was_told : (s : Group) (cut : Stamp) (k : ℕ) → IsGroupSound s → is_break_of_control k (shown_at cut s) ≡ true → (k < length s.controls) × (cut.0 ≡ (control_at s k).floor.0) × (is_reporting (control_at s k).phase ≡ false)
break_was_told s cut k keeps any =
    let at = any_flat (is_of k) (reported_break cut) s.controls (new_control 0 0 0) any in
    let c = control_at s at.at in
    let told = told_break c.queue.control k cut c.floor c.phase at.any in
    let is : at.at ≡ k = sym (control_number s at.at keeps at.low) ∙ told.0 in
    (omega (arith, at.low, is), subst (λ i. cut.0 ≡ (control_at s i).floor.0) is told.1, subst (λ i. is_reporting (control_at s i).phase ≡ false) is told.2)

-- ---- plans

none_counted : {A : Type 0} (test : A → Bool) (items : List A) → count_by test items ≡ 0 → list_all (λ a. not (test a)) items ≡ true
none_counted test [] none = refl
none_counted {A} test (a ∷ items) none = choose (test a) refl (none_counted test items)
  where
    choose : (t : Bool) → test a ≡ t → (count_by test items ≡ 0 → list_all (λ a. not (test a)) items ≡ true) → (not t && list_all (λ a. not (test a)) items) ≡ true
    choose true is rest = absurd (omega (arith, none, count_cons test a items, ap {B = ℕ} (λ b. cond b 1 0) is))
    choose false is rest = rest (omega (arith, none, count_cons test a items, ap {B = ℕ} (λ b. cond b 1 0) is))

none_had : (set : List Bool) (x : ℕ) → size set ≡ 0 → has_track set x ≡ false
none_had [] x none = refl
none_had (true ∷ set) x none = absurd (omega (arith, none, count_cons (λ b. b) true set))
none_had (false ∷ set) zero none = refl
none_had (false ∷ set) (suc x) none = none_had set x (omega (arith, none, count_cons (λ b. b) false set))

-- the volume of a number is the one that is named
named_done : (k v j : ℕ) (volumes : List Volume) → are_distinct volumes ≡ true → list_any (is_named k v) (map (λ (u : Volume). (j, u.number)) (filter is_volume_done volumes)) ≡ true → (j ≡ k) × (passes is_volume_done (volume_of v volumes) ≡ true)
named_done k v j [] distinct any = absurd cc
named_done k v j (u ∷ volumes) distinct any =
    let parts = and_parts (not (has_volume u.number volumes)) (are_distinct volumes) distinct in
    choose (is_volume_done u) refl parts.0 (named_done k v j volumes parts.1) any
  where
    found : (o : Option Volume) → volume_of v volumes ≡ o → passes is_volume_done o ≡ true → has_volume v volumes ≡ true
    found None is e = absurd cc
    found (Some w) is e = has_found v volumes w is

    other : not (has_volume u.number volumes) ≡ true → passes is_volume_done (volume_of v volumes) ≡ true → (t : Bool) → is_numbered v u ≡ t → passes is_volume_done (cond t (Some u) (volume_of v volumes)) ≡ true
    other fresh done true is =
        let has : has_volume u.number volumes ≡ true = ap (λ i. has_volume i volumes) (eqb-true u.number v is) ∙ found (volume_of v volumes) refl done in
        absurd (true≢false (sym fresh ∙ ap not has))
    other fresh done false is = done

    later : not (has_volume u.number volumes) ≡ true → (j ≡ k) × (passes is_volume_done (volume_of v volumes) ≡ true) → (j ≡ k) × (passes is_volume_done (volume_of v (u ∷ volumes)) ≡ true)
    later fresh rest = (rest.0, other fresh rest.1 (is_numbered v u) refl)

    choose : (t : Bool) → is_volume_done u ≡ t → not (has_volume u.number volumes) ≡ true → (list_any (is_named k v) (map (λ (u : Volume). (j, u.number)) (filter is_volume_done volumes)) ≡ true → (j ≡ k) × (passes is_volume_done (volume_of v volumes) ≡ true)) → list_any (is_named k v) (map (λ (u : Volume). (j, u.number)) (cond t (u ∷ filter is_volume_done volumes) (filter is_volume_done volumes))) ≡ true
        → (j ≡ k) × (passes is_volume_done (volume_of v (u ∷ volumes)) ≡ true)
    choose false is fresh rest any = later fresh (rest any)
    choose true is fresh rest any = elim (or_cases (nat_eq j k && nat_eq u.number v) (list_any (is_named k v) (map (λ (u : Volume). (j, u.number)) (filter is_volume_done volumes))) any) [
      | inl here ↦ let both = and_parts (nat_eq j k) (nat_eq u.number v) here in (eqb-true j k both.0, ap (λ t. passes is_volume_done (cond t (Some u) (volume_of v volumes))) both.1 ∙ is)
      | inr rest_any ↦ later fresh (rest rest_any)
    ]

plan_done : (v : ℕ) (c : ControlState) → Sound c → passes is_volume_done (volume_of v c.volumes) ≡ true → IsPlanDone v c
plan_done v c sound done = record { carried = carried (volume_of v c.volumes) done; unwanted = λ x. unwanted x (volume_of v c.volumes) done; copies = none_counted (is_copy_of v) c.queue.waiting (none (volume_of v c.volumes) done (sound.counts v)) }
  where
    parts : (u : Volume) → is_volume_done u ≡ true → (u.carried ≡ true) × (size u.plan.wanted ≡ 0) × (u.plan.joined ≡ 0)
    parts u is =
        let first = and_parts u.carried (nat_eq (size u.plan.wanted) 0 && nat_eq u.plan.joined 0) is in
        let both = and_parts (nat_eq (size u.plan.wanted) 0) (nat_eq u.plan.joined 0) first.1 in
        (first.0, eqb-true (size u.plan.wanted) 0 both.0, eqb-true u.plan.joined 0 both.1)

    carried : (o : Option Volume) → passes is_volume_done o ≡ true → passes (λ (u : Volume). u.carried) o ≡ true
    carried None e = absurd cc
    carried (Some u) e = (parts u e).0

    no_and : (a b : Bool) → b ≡ false → (a && b) ≡ false
    no_and true b e = e
    no_and false b e = refl

    unwanted : (x : ℕ) (o : Option Volume) → passes is_volume_done o ≡ true → passes (wants x) o ≡ false
    unwanted x None e = refl
    unwanted x (Some u) e = no_and u.carried (has_track u.plan.wanted x) (none_had u.plan.wanted x (parts u e).1)

    none : (o : Option Volume) → passes is_volume_done o ≡ true → passes_or_none (has_joined (count_by (is_copy_of v) c.queue.waiting)) o ≡ true → count_by (is_copy_of v) c.queue.waiting ≡ 0
    none None e counted = absurd cc
    none (Some u) e counted =
        let p = parts u e in
        elim (or_cases (not u.carried) (nat_eq u.plan.joined (count_by (is_copy_of v) c.queue.waiting)) counted) [
          | inl gone ↦ absurd (true≢false (sym gone ∙ ap not p.0))
          | inr same ↦ omega (arith, p.2, eqb-true u.plan.joined (count_by (is_copy_of v) c.queue.waiting) same)
        ]

pub shown_done : (s : Group) (cut : Stamp) (k v : ℕ) → IsGroupSound s → is_plan_shown_done k v (shown_at cut s) ≡ true → (k < length s.controls) × IsPlanDone v (formed cut (control_at s k))
shown_done s cut k v keeps any =
    let at = any_flat (is_named k v) done_of (map (formed cut) s.controls) (new_control 0 0 0) any in
    let low : at.at < length s.controls = omega (arith, at.low, length-map s.controls (formed cut)) in
    let c = control_at s at.at in
    let sound = sound_formed cut c (All-get_or Sound s.controls at.at (new_control 0 0 0) low keeps.sound) in
    let here : list_any (is_named k v) (done_of (formed cut c)) ≡ true = ap (λ (c : ControlState). list_any (is_named k v) (done_of c)) (sym (at_map cut s.controls at.at low)) ∙ at.any in
    let named = named_done k v c.queue.control (formed cut c).volumes sound.distinct here in
    let is : at.at ≡ k = sym (control_number s at.at keeps low) ∙ named.0 in
    (omega (arith, low, is), subst (λ i. IsPlanDone v (formed cut (control_at s i))) is (plan_done v (formed cut c) sound named.1))
