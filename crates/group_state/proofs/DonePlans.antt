-- A form shows exactly the volumes whose plans are done after it, each once.
use Rattle.std.proofs.Common.{inl, inr, ◌≡◌, ℕ, zero, suc, ◌+◌, ◌<◌, ◌≤◌, ◌⊎◌, Bool, true, false, not, cond, nat_eq, ◌&&◌, ◌||◌, List, [], ◌∷◌, ◌++◌, length, get_or, map, Option, Some, None, refl, sym, ap, subst, ◌∙◌, arith}
use Rattle.std.specs.Prelude.{◌==◌, filter}
use Rattle.std.specs.List.{list_all, list_any, count_by, flat_map, range_with_len}
use Rattle.std.proofs.Math.Bool.{and-false, and-true}
use Rattle.std.proofs.lemmas.Bool.{cases_lt, and_parts, or_parts, not-true, eqb-true, eq-eqb, ne_eqb, lt-ltb}
use Rattle.change_map.specs.Sets.{has_track, size}
use Rattle.pending_queue.specs.Entries.{is_copy_of}
use Rattle.cut_core.specs.Events.{Event}
use Rattle.cut_core.specs.Events.Event.{Form as Forms}
use Rattle.cut_core.specs.Shares.{Share, share}
use Rattle.cut_core.specs.Groups.{waiting_in}
use Rattle.cut_core.specs.Fates.{is_of_control}
use Rattle.group_state.specs.declared.volume.Volume.{Volume}
use Rattle.group_state.specs.Volumes.{is_numbered, volume_of, has_volume, passes, is_volume_done}
use Rattle.group_state.specs.Controls.{ControlState, new_control, done_of}
use Rattle.group_state.specs.Groups.{Shown, new_group, control_at, cut_of, formed_at, shown_at}
use Rattle.group_state.specs.SoundStates.{passes_or_none, has_sizes, are_distinct, has_joined, Sound}
use Rattle.group_state.proofs.SoundLaws.{all_kept, all_true, count_cons, count_append, count_none}
use Rattle.group_state.specs.Runs.{history}
use Rattle.group_state.specs.Histories.{IsShareOf, IsControlOf}
use Rattle.group_state.specs.HistoryLaws.{answered, tracks_reported, is_copy_on, is_plan_done, is_named, DonePlansAreShown}
use Rattle.group_state.proofs.Seen.{seen_any}
use Rattle.group_state.proofs.Controls.{any_of}
use Rattle.group_state.proofs.Stands.{stands_first}
use Rattle.group_state.proofs.Forms.{stands_formed}
use Rattle.group_state.proofs.RunLaws.{split, stands_after, form_shows}
use Rattle.group_state.proofs.CutLaws.{copy_is_seen}
use Rattle.group_state.proofs.Tracks.{has_tracks, forms, tracks_after, first_tracks}

-- ---- counts

counted_map : {A B : Type 0} (p : B → Bool) (f : A → B) (q : A → Bool) (items : List A) → count_by p (map f (filter q items)) ≡ count_by (λ a. q a && p (f a)) items
counted_map p f q [] = refl
counted_map {A} p f q (a ∷ items) = choose (q a) refl (counted_map p f q items)
  where
    choose : (t : Bool) → q a ≡ t → count_by p (map f (filter q items)) ≡ count_by (λ a. q a && p (f a)) items
        → count_by p (map f (cond t (a ∷ filter q items) (filter q items))) ≡ count_by (λ a. q a && p (f a)) (a ∷ items)
    choose true is h = omega (arith, h, count_cons p (f a) (map f (filter q items)), count_cons (λ a. q a && p (f a)) a items, ap {B = ℕ} (λ b. cond (b && p (f a)) 1 0) is)
    choose false is h = omega (arith, h, count_cons (λ a. q a && p (f a)) a items, ap {B = ℕ} (λ b. cond (b && p (f a)) 1 0) is)

none_numbered : (v : ℕ) (done : Volume → Bool) (volumes : List Volume) → has_volume v volumes ≡ false → count_by (λ u. done u && is_numbered v u) volumes ≡ 0
none_numbered v done [] none = refl
none_numbered v done (u ∷ volumes) none =
    let parts = or_parts (is_numbered v u) (has_volume v volumes) none in
    let here : cond {A = ℕ} (done u && is_numbered v u) 1 0 ≡ 0 = ap {B = ℕ} (λ b. cond b 1 0) (ap (λ b. done u && b) parts.0 ∙ and-false (done u)) in
    omega (arith, here, count_cons (λ u. done u && is_numbered v u) u volumes, none_numbered v done volumes parts.1)

counted_found : (v : ℕ) (done : Volume → Bool) (volumes : List Volume) → are_distinct volumes ≡ true → count_by (λ u. done u && is_numbered v u) volumes ≡ cond (passes done (volume_of v volumes)) 1 0
counted_found v done [] distinct = refl
counted_found v done (u ∷ volumes) distinct =
    let parts = and_parts (not (has_volume u.number volumes)) (are_distinct volumes) distinct in
    choose (is_numbered v u) refl (not-true (has_volume u.number volumes) parts.0) (counted_found v done volumes parts.1)
  where
    choose : (t : Bool) → is_numbered v u ≡ t → has_volume u.number volumes ≡ false → count_by (λ u. done u && is_numbered v u) volumes ≡ cond (passes done (volume_of v volumes)) 1 0
        → count_by (λ u. done u && is_numbered v u) (u ∷ volumes) ≡ cond (passes done (cond t (Some u) (volume_of v volumes))) 1 0
    choose true is none h =
        let rest = none_numbered v done volumes (ap (λ n. has_volume n volumes) (sym (eqb-true u.number v is)) ∙ none) in
        let here : cond {A = ℕ} (done u && is_numbered v u) 1 0 ≡ cond (done u) 1 0 = ap {B = ℕ} (λ b. cond b 1 0) (ap (λ b. done u && b) is ∙ and-true (done u)) in
        omega (arith, here, rest, count_cons (λ u. done u && is_numbered v u) u volumes)
    choose false is none h =
        let here : cond {A = ℕ} (done u && is_numbered v u) 1 0 ≡ 0 = ap {B = ℕ} (λ b. cond b 1 0) (ap (λ b. done u && b) is ∙ and-false (done u)) in
        omega (arith, here, h, count_cons (λ u. done u && is_numbered v u) u volumes)

-- one controller's done volumes
own_count : (k v : ℕ) (c : ControlState) → c.queue.control ≡ k → are_distinct c.volumes ≡ true → count_by (is_named k v) (done_of c) ≡ cond (passes is_volume_done (volume_of v c.volumes)) 1 0
own_count k v c number distinct =
    counted_map (is_named k v) (λ (u : Volume). (c.queue.control, u.number)) is_volume_done c.volumes
    ∙ ap (λ (b : Bool). count_by (λ u. is_volume_done u && (b && is_numbered v u)) c.volumes) (eq-eqb c.queue.control k number)
    ∙ counted_found v is_volume_done c.volumes distinct

other_count : (k v : ℕ) (c : ControlState) → nat_eq c.queue.control k ≡ false → count_by (is_named k v) (done_of c) ≡ 0
other_count k v c other =
    counted_map (is_named k v) (λ (u : Volume). (c.queue.control, u.number)) is_volume_done c.volumes
    ∙ ap (λ (b : Bool). count_by (λ u. is_volume_done u && (b && is_numbered v u)) c.volumes) other
    ∙ count_none (λ u. is_volume_done u && false) c.volumes (all_true (λ u. not (is_volume_done u && false)) c.volumes (λ u. ap not (and-false (is_volume_done u))))

none_count : (k v first : ℕ) (controls : List ControlState) (d : ControlState) → ((i : ℕ) → i < length controls → (get_or controls i d).queue.control ≡ first + i) → (k < first) ⊎ (first + length controls ≤ k)
    → count_by (is_named k v) (flat_map done_of controls) ≡ 0
none_count k v first [] d numbers outside = refl
none_count k v first (c ∷ controls) d numbers outside =
    let others : (k < first + 1) ⊎ (first + 1 + length controls ≤ k) = elim outside [
      | inl lt ↦ inl (omega (arith, lt))
      | inr past ↦ inr (omega (arith, past))
    ] in
    let here = other_count k v c (ne_eqb c.queue.control k (λ e. elim outside [
      | inl lt ↦ omega (arith, lt, e, numbers 0 (omega arith))
      | inr past ↦ omega (arith, past, e, numbers 0 (omega arith))
    ])) in
    let rest = none_count k v (first + 1) controls d (λ i below. numbers (suc i) (omega arith) ∙ omega arith) others in
    omega (arith, here, rest, count_append (is_named k v) (done_of c) (flat_map done_of controls))

all_count : (k v first i : ℕ) (controls : List ControlState) (d : ControlState) → ((i : ℕ) → i < length controls → (get_or controls i d).queue.control ≡ first + i) → i < length controls → first + i ≡ k
    → count_by (is_named k v) (flat_map done_of controls) ≡ count_by (is_named k v) (done_of (get_or controls i d))
all_count k v first i [] d numbers lt is = absurd (omega arith)
all_count k v first zero (c ∷ controls) d numbers lt is =
    let rest = none_count k v (first + 1) controls d (λ i below. numbers (suc i) (omega arith) ∙ omega arith) (inl (omega arith)) in
    omega (arith, rest, count_append (is_named k v) (done_of c) (flat_map done_of controls))
all_count k v first (suc i) (c ∷ controls) d numbers lt is =
    let here = other_count k v c (ne_eqb c.queue.control k (λ e. omega (arith, e, is, numbers 0 (omega arith)))) in
    let rest = all_count k v (first + 1) i controls d (λ i below. numbers (suc i) (omega arith) ∙ omega arith) (omega arith) (omega arith) in
    omega (arith, here, rest, count_append (is_named k v) (done_of c) (flat_map done_of controls))

-- ---- one volume

-- none of the set's tracks
none_had : (set : List Bool) (p : ℕ → Bool) (first : ℕ) → ((i : ℕ) → i < length set → p (first + i) ≡ not (has_track set i)) → nat_eq (size set) 0 ≡ list_all p (range_with_len first (length set))
none_had [] p first same = refl
none_had (b ∷ set) p first same =
    let here : p first ≡ not b = subst (λ n. p n ≡ not b) (omega arith) (same 0 (omega arith)) in
    choose b here (none_had set p (first + 1) (λ i lt. subst (λ n. p n ≡ not (has_track set i)) (omega arith) (same (suc i) (omega arith))))
  where
    choose : (t : Bool) → p first ≡ not t → nat_eq (size set) 0 ≡ list_all p (range_with_len (first + 1) (length set)) → nat_eq (size (t ∷ set)) 0 ≡ (p first && list_all p (range_with_len (first + 1) (length set)))
    choose true is h = ne_eqb (size (true ∷ set)) 0 (λ e. omega (arith, e, count_cons (λ b. b) true set)) ∙ rw is refl
    choose false is h = ap (λ n. nat_eq n 0) (omega (arith, count_cons (λ b. b) false set)) ∙ h ∙ rw is refl

none_counted : {A : Type 0} (test : A → Bool) (items : List A) → nat_eq (count_by test items) 0 ≡ not (list_any test items)
none_counted test [] = refl
none_counted {A} test (a ∷ items) = choose (test a) refl (none_counted test items)
  where
    choose : (t : Bool) → test a ≡ t → nat_eq (count_by test items) 0 ≡ not (list_any test items) → nat_eq (count_by test (a ∷ items)) 0 ≡ not (t || list_any test items)
    choose true is h = ne_eqb (count_by test (a ∷ items)) 0 (λ e. omega (arith, e, count_cons test a items, ap {B = ℕ} (λ b. cond b 1 0) is))
    choose false is h = ap (λ n. nat_eq n 0) (omega (arith, count_cons test a items, ap {B = ℕ} (λ b. cond b 1 0) is)) ∙ h

-- the copied tracks that wait
copies_wait : (k v : ℕ) (past : List Event) (c : ControlState) → IsControlOf k past c → list_any (is_copy_of v) c.queue.waiting ≡ list_any (is_copy_on k v) (waiting_in [] past)
copies_wait k v past c h =
    seen_any (is_of_control k) (is_copy_of v) (is_copy_on k v) (λ w e s is. rw (s.volume, is, copy_is_seen w e.kind s.content) refl) c.queue.waiting (filter (is_of_control k) (waiting_in [] past)) (all_kept (is_of_control k) (waiting_in [] past)) h.waiting
    ∙ any_of (is_of_control k) (is_copy_on k v) (waiting_in [] past) (λ e other. rw other refl)

-- what all volumes pass, a found one passes
pub found_passes : (test : Volume → Bool) (v : ℕ) (volumes : List Volume) → list_all test volumes ≡ true → passes_or_none test (volume_of v volumes) ≡ true
found_passes test v [] all = refl
found_passes test v (u ∷ volumes) all =
    let parts = and_parts (test u) (list_all test volumes) all in
    choose (is_numbered v u) parts.0 (found_passes test v volumes parts.1)
  where
    choose : (t : Bool) → test u ≡ true → passes_or_none test (volume_of v volumes) ≡ true → passes_or_none test (cond t (Some u) (volume_of v volumes)) ≡ true
    choose true here rest = here
    choose false here rest = rest

done_in_history : (k v tracks : ℕ) (past : List Event) (c : ControlState) → IsControlOf k past c → Sound c → passes_or_none (has_tracks tracks) (volume_of v c.volumes) ≡ true
    → passes is_volume_done (volume_of v c.volumes) ≡ is_plan_done k v tracks past
done_in_history k v tracks past c h sound told = by_option (volume_of v c.volumes) (h.volumes v) (sound.counts v) (found_passes has_sizes v c.volumes sound.sizes) told
  where
    count : ℕ
    count = count_by (is_copy_of v) c.queue.waiting

    by_option : (o : Option Volume) → ((x : ℕ) → IsShareOf o x (share k v x past)) → passes_or_none (has_joined count) o ≡ true → passes_or_none has_sizes o ≡ true → passes_or_none (has_tracks tracks) o ≡ true
        → passes is_volume_done o ≡ is_plan_done k v tracks past
    by_option None shares counted sized told = rw (sym (shares 0).carried) refl
    by_option (Some u) shares counted sized told = rw (sym (shares 0).carried) (choose u.carried refl counted)
      where
        choose : (t : Bool) → u.carried ≡ t → (not t || u.plan.joined == count) ≡ true
            → (t && (size u.plan.wanted == 0 && u.plan.joined == 0)) ≡ (t && list_all (λ x. not (share k v x past).is_wanted) (range_with_len 0 tracks) && not (list_any (is_copy_on k v) (waiting_in [] past)))
        choose false is counted = refl
        choose true is counted =
            let length_is : length u.plan.wanted ≡ tracks = sym (eqb-true (length u.map) (length u.plan.wanted) sized) ∙ eqb-true (length u.map) tracks told in
            let wanted : nat_eq (size u.plan.wanted) 0 ≡ list_all (λ x. not (share k v x past).is_wanted) (range_with_len 0 tracks) =
            none_had u.plan.wanted (λ x. not (share k v x past).is_wanted) 0
            (λ i lt. subst (λ n. not (share k v n past).is_wanted ≡ not (has_track u.plan.wanted i)) (omega arith)
            (ap not (sym ((shares i).wanted (lt-ltb i (length u.map) (omega (arith, lt, eqb-true (length u.map) (length u.plan.wanted) sized)))) ∙ ap (λ b. b && has_track u.plan.wanted i) is)))
            ∙ ap (λ n. list_all (λ x. not (share k v x past).is_wanted) (range_with_len 0 n)) length_is in
            let joined : nat_eq u.plan.joined 0 ≡ not (list_any (is_copy_on k v) (waiting_in [] past)) =
            ap (λ n. nat_eq n 0) (eqb-true u.plan.joined count counted) ∙ none_counted (is_copy_of v) c.queue.waiting ∙ ap not (copies_wait k v past c h) in
            rw (wanted, joined) refl

-- ---- the form

pub done_plans_are_shown : DonePlansAreShown
done_plans_are_shown n before later limit shown k v f =
    let first = new_group n f.records f.blocks in
    let parts = split first before (answered limit f.reply ∷ later) f.last f.runs in
    let middle = parts.middle in
    let cut = cut_of middle limit in
    let past = history before ++ Forms cut.0 ∷ [] in
    let stands = stands_after n [] first before middle (stands_first n f.records f.blocks) parts.first in
    let after = stands_formed n (history before) middle limit stands parts.second.1 in
    let state = formed_at cut middle in
    let c = control_at state k in
    let tracks = tracks_reported k v before in
    let have = tracks_after n [] before first middle (first_tracks n f.records f.blocks) (stands_first n f.records f.blocks) parts.first in
    let told : passes_or_none (has_tracks tracks) (volume_of v c.volumes) ≡ true = forms (λ k v. tracks_reported k v before) middle have cut k v in
    let numbers : (i : ℕ) → i < length state.controls → (control_at state i).queue.control ≡ 0 + i = λ i lt. after.numbers i (omega (arith, lt, after.follows.count)) ∙ omega arith in
    let counted : count_by (is_named k v) (shown_at cut middle).done ≡ cond (is_plan_done k v tracks past) 1 0 = elim (cases_lt k n) [
      | inl below ↦ all_count k v 0 k state.controls (new_control 0 0 0) numbers (omega (arith, below, after.follows.count)) (omega arith)
          ∙ own_count k v c (after.numbers k below) (after.sound k below).distinct
          ∙ ap (λ (b : Bool). cond {A = ℕ} b 1 0) (done_in_history k v tracks past c (after.follows.each k below) (after.sound k below) told)
      | inr beyond ↦ none_count k v 0 state.controls (new_control 0 0 0) numbers (inr (omega (arith, beyond, after.follows.count)))
          ∙ ap (λ (s : Share). cond {A = ℕ} (s.is_carried && list_all (λ x. not (share k v x past).is_wanted) (range_with_len 0 tracks) && not (list_any (is_copy_on k v) (waiting_in [] past))) 1 0) (sym (after.beyond k v 0 beyond))
    ] in
    subst (λ (shown : Shown). count_by (is_named k v) shown.done ≡ cond (is_plan_done k v tracks (history before ++ Forms shown.cut.0 ∷ [])) 1 0)
    (form_shows middle limit f.reply shown parts.second.0 f.shows parts.second.2) counted
