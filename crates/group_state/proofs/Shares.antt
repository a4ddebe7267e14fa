-- What one call makes of a volume that is kept, and what its event makes of the history's share of one track.
use Rattle.std.proofs.Common.{◌≡◌, ℕ, zero, suc, ◌+◌, ◌<◌, ◌≤◌, Bool, true, false, not, cond, nat_eq, nat_lt, nat_le, ◌&&◌, ◌||◌, List, [], ◌∷◌, ◌++◌, length, Option, Some, None, inl, inr, refl, sym, ap, subst, ◌∙◌, arith, length-set}
use Rattle.std.specs.Prelude.{◌==◌, filter}
use Rattle.std.specs.Option.{option_map}
use Rattle.std.specs.List.{list_any, range_with_len}
use Rattle.std.proofs.Math.Bool.{or-false, and-false}
use Rattle.std.proofs.lemmas.Bool.{cases_Bool, cases_lt, eqb-true, eqb-false, eq-eqb, ltb-true, lt-ltb, le-ltb, le-leb, lt-leb, ne_eqb}
use Rattle.std.proofs.lemmas.List.{length-replicate, get_or-set_other}
use Rattle.ckd_track.specs.declared.write.Write.{Write}
use Rattle.change_map.specs.Sets.{has_track, with_track}
use Rattle.change_map.proofs.InSets.{had_within, has_none, has_every, has_with, has_without}
use Rattle.copy_plan.specs.Plans.{PlanState}
use Rattle.pending_queue.specs.Entries.{WaitingEntry}
use Rattle.pending_queue.specs.Maps.{with_tracks}
use Rattle.cut_core.specs.Shares.{Share, no_share, share_write, share_writes, share_copied, share_drop, share_carry, share_resume}
use Rattle.group_state.specs.declared.volume.Volume.{Volume}
use Rattle.group_state.specs.Volumes.{volume_of, has_volume, with_volume, without_number, passes, begun, noted_write, with_write, with_writes, copied_track, formed_track, with_formed_copies, dropped_map, dropped_volume, resumed_volume}
use Rattle.group_state.specs.SoundStates.{are_distinct, is_dropped}
use Rattle.group_state.proofs.SoundLaws.{length_dropped}
use Rattle.group_state.proofs.VolumeLaws.{Keeps, found_with, found_after, found_without, none_found}
use Rattle.group_state.specs.Runs.{tracks_in}
use Rattle.group_state.specs.Histories.{IsShareOf}

-- what waits is no part of it
abbrev pub with_stamps : List ℕ → Share → Share
with_stamps stamps s = record s { waiting = stamps }

pub same_share : (kept : Option Volume) (x : ℕ) (stamps : List ℕ) (s : Share) → IsShareOf kept x s → IsShareOf kept x (with_stamps stamps s)
same_share kept x stamps s h = record { carried = h.carried; dropped = h.dropped; wanted = h.wanted; mapped = h.mapped }

-- one volume of a list is changed
share_with : (v w x : ℕ) (change : Volume → Volume) (keeps : Keeps change) (volumes : List Volume) (s : Share)
    → (nat_eq v w ≡ true → IsShareOf (option_map change (volume_of w volumes)) x s) → (nat_eq v w ≡ false → IsShareOf (volume_of w volumes) x s)
    → IsShareOf (volume_of w (with_volume v change volumes)) x s
share_with v w x change keeps volumes s here there = subst (λ o. IsShareOf o x s) (sym (found_with v w change keeps volumes)) (choose (nat_eq v w) refl)
  where
    choose : (t : Bool) → nat_eq v w ≡ t → IsShareOf (cond t (option_map change (volume_of w volumes)) (volume_of w volumes)) x s
    choose true is = here is
    choose false is = there is

-- ---- sets of tracks

pub turned : (a b : ℕ) → nat_eq a b ≡ nat_eq b a
turned a b = elim (cases_Bool (nat_eq a b)) [
  | inl is ↦ is ∙ sym (eq-eqb b a (sym (eqb-true a b is)))
  | inr is ↦ is ∙ sym (ne_eqb b a (λ e. eqb-false a b is (sym e)))
]

-- a track of the set, after one more
has_more : (set : List Bool) (x y : ℕ) → y < length set → has_track (with_track set x) y ≡ (nat_eq y x || has_track set y)
has_more set x y lt = elim (cases_lt x (length set)) [
  | inl within ↦ has_with set x y within
  | inr past ↦
      let other : nat_eq y x ≡ false = ne_eqb y x (λ e. omega arith) in
      get_or-set_other set x y true false (λ e. omega arith) ∙ rw other refl
]

has_tracks : (set : List Bool) (tracks : List ℕ) (y : ℕ) → y < length set → has_track (with_tracks set tracks) y ≡ (has_track set y || list_any (λ x. x == y) tracks)
has_tracks set [] y lt = sym (or-false (has_track set y))
has_tracks set (x ∷ tracks) y lt =
    has_tracks (with_track set x) tracks y (omega (arith, length-set set x true))
    ∙ ap (λ b. b || list_any (λ x. x == y) tracks) (has_more set x y lt) ∙ swapped (nat_eq y x) (nat_eq x y) (has_track set y) (list_any (λ x. x == y) tracks) (turned y x)
  where
    swapped : (a b h t : Bool) → a ≡ b → ((a || h) || t) ≡ (h || (b || t))
    swapped true true true t e = refl
    swapped true true false t e = refl
    swapped false false h t e = refl_of h t
      where
        refl_of : (h t : Bool) → (h || t) ≡ (h || t)
        refl_of h t = refl
    swapped true false h t e = absurd cc
    swapped false true h t e = absurd cc

has_dropped : (all : Bool) (tracks : List ℕ) (set : List Bool) (y : ℕ) → y < length set → has_track (dropped_map all tracks set) y ≡ ((has_track set y || all) || list_any (λ x. x == y) tracks)
has_dropped true tracks set y lt = has_every (length set) y ∙ lt-ltb y (length set) lt ∙ sym (whole (has_track set y))
  where
    whole : (h : Bool) → ((h || true) || list_any (λ x. x == y) tracks) ≡ true
    whole true = refl
    whole false = refl
has_dropped false tracks set y lt = has_tracks set tracks y lt ∙ ap (λ b. b || list_any (λ x. x == y) tracks) (sym (or-false (has_track set y)))

-- ---- the tracks that a set has, as a list

abbrev inside : (first n x : ℕ) → Bool
inside first n x = nat_le first x && nat_lt x (first + n)

none_inside : (first x : ℕ) → inside first 0 x ≡ false
none_inside first x = elim (cases_lt x first) [
  | inl lt ↦ rw (lt-leb first x lt) refl
  | inr le ↦ rw (le-ltb x (first + 0) (omega arith)) (and-false (nat_le first x))
]

first_inside : (first n : ℕ) → inside first (suc n) first ≡ true
first_inside first n = rw (le-leb first first (omega arith), lt-ltb first (first + suc n) (omega arith)) refl

others_inside : (first n x : ℕ) → nat_eq first x ≡ false → inside first (suc n) x ≡ inside (first + 1) n x
others_inside first n x other = elim (cases_lt x first) [
  | inl lt ↦ rw (lt-leb first x lt, lt-leb (first + 1) x (omega arith)) refl
  | inr le ↦
      let differs = eqb-false first x other in
      let more : first + 1 ≤ x = elim (cases_lt first x) [ inl lt ↦ omega arith | inr ge ↦ absurd (differs (omega arith)) ] in
      rw (le-leb first x le, le-leb (first + 1) x more) (ap (λ n. nat_lt x n) (omega arith))
]

in_range : (p : ℕ → Bool) (x first n : ℕ) → list_any (λ y. y == x) (filter p (range_with_len first n)) ≡ (p x && inside first n x)
in_range p x first zero = sym (rw (none_inside first x) (and-false (p x)))
in_range p x first (suc n) = choose (p first) refl (nat_eq first x) refl (in_range p x (first + 1) n)
  where
    rest : List ℕ
    rest = filter p (range_with_len (first + 1) n)

    gone : nat_eq first x ≡ true → inside (first + 1) n x ≡ false
    gone same = rw (lt-leb (first + 1) x (omega (arith, eqb-true first x same))) refl

    choose : (t : Bool) → p first ≡ t → (e : Bool) → nat_eq first x ≡ e → list_any (λ y. y == x) rest ≡ (p x && inside (first + 1) n x)
        → list_any (λ y. y == x) (cond t (first ∷ rest) rest) ≡ (p x && inside first (suc n) x)
    choose true is true same h =
        rw (same, sym (ap p (eqb-true first x same)), is) (subst (λ y. true ≡ inside first (suc n) y) (eqb-true first x same) (sym (first_inside first n)))
    choose false is true same h = h ∙ rw (gone same, sym (ap p (eqb-true first x same)), is) refl
    choose true is false other h = rw other (h ∙ ap (λ b. p x && b) (sym (others_inside first n x other)))
    choose false is false other h = h ∙ ap (λ b. p x && b) (sym (others_inside first n x other))

pub has_in : (set : List Bool) (x : ℕ) → list_any (λ y. y == x) (tracks_in set) ≡ has_track set x
has_in set x = in_range (has_track set) x 0 (length set) ∙ choose (has_track set x) refl
  where
    choose : (t : Bool) → has_track set x ≡ t → (t && inside 0 (length set) x) ≡ t
    choose false is = refl
    choose true is = rw (le-leb 0 x (omega arith), lt-ltb x (0 + length set) (omega (arith, had_within set x is))) refl

-- ---- a joined batch

pub written_number : (x : ℕ) → Keeps (noted_write x)
written_number x u = choose u.carried
  where
    choose : (t : Bool) → (let v : Volume = cond t u (record u { map = with_track u.map x }) in v.number) ≡ u.number
    choose true = refl
    choose false = refl

-- a write on the track
written_on : (x stamp : ℕ) (kept : Option Volume) (s : Share) → IsShareOf kept x s → IsShareOf (option_map (noted_write x) kept) x (share_write stamp s)
written_on x stamp None s h = rw (sym h.carried, sym h.dropped) (record { carried = refl; dropped = refl; wanted = h.wanted; mapped = h.mapped })
written_on x stamp (Some u) s h = choose u.carried refl
  where
    within : nat_lt x (length (with_track u.map x)) ≡ true → nat_lt x (length u.map) ≡ true
    within e = ap (λ n. nat_lt x n) (sym (length-set u.map x true)) ∙ e

    kept : u.carried ≡ true → (stamps : List ℕ) → IsShareOf (Some (record u { carried = true })) x (record { is_carried = true; is_dropped = false; is_wanted = s.is_wanted; is_mapped = s.is_mapped; waiting = stamps })
    kept is stamps = record { carried = refl; dropped = refl; wanted = λ e. sym (ap (λ b. b && has_track u.plan.wanted x) is) ∙ h.wanted e; mapped = h.mapped }

    waits : u.carried ≡ true → (w : Bool) → IsShareOf (Some (record u { carried = true })) x
        (cond w (record { is_carried = true; is_dropped = false; is_wanted = s.is_wanted; is_mapped = s.is_mapped; waiting = s.waiting ++ stamp ∷ [] })
        (record { is_carried = true; is_dropped = false; is_wanted = s.is_wanted; is_mapped = s.is_mapped; waiting = s.waiting }))
    waits is true = kept is (s.waiting ++ stamp ∷ [])
    waits is false = kept is s.waiting

    choose : (t : Bool) → u.carried ≡ t → IsShareOf (Some (cond t u (record u { map = with_track u.map x }))) x (share_write stamp s)
    choose true is = rw (sym h.carried, sym h.dropped, is) (waits is (not s.is_wanted))
    choose false is = rw (sym h.carried, sym h.dropped, is) (record {
      carried = refl;
      dropped = refl;
      wanted = λ e. sym (ap (λ b. b && has_track u.plan.wanted x) is) ∙ h.wanted (within e);
      mapped = λ e. has_with u.map x x (ltb-true x (length u.map) (within e)) ∙ rw (eq-eqb x x refl) refl;
    })

-- a write on another track
written_off : (x y : ℕ) (kept : Option Volume) (s : Share) → nat_eq x y ≡ false → IsShareOf kept y s → IsShareOf (option_map (noted_write x) kept) y s
written_off x y None s other h = h
written_off x y (Some u) s other h = choose u.carried
  where
    within : nat_lt y (length (with_track u.map x)) ≡ true → nat_lt y (length u.map) ≡ true
    within e = ap (λ n. nat_lt y n) (sym (length-set u.map x true)) ∙ e

    choose : (t : Bool) → IsShareOf (Some (cond t u (record u { map = with_track u.map x }))) y s
    choose true = h
    choose false = record {
      carried = h.carried;
      dropped = h.dropped;
      wanted = λ e. h.wanted (within e);
      mapped = λ e. get_or-set_other u.map x y true false (λ same. eqb-false x y other (sym same)) ∙ h.mapped (within e);
    }

one_written : (v x : ℕ) (w : Write) (volumes : List Volume) (s : Share) → IsShareOf (volume_of v volumes) x s → IsShareOf (volume_of v (with_write volumes w)) x (cond (w.volume == v && w.track == x) (share_write w.stamp.0 s) s)
one_written v x w volumes s h =
    share_with w.volume v x (noted_write w.track) (written_number w.track) volumes (cond (w.volume == v && w.track == x) (share_write w.stamp.0 s) s)
    (λ same. rw same (here (nat_eq w.track x) refl)) (λ other. rw other h)
  where
    here : (t : Bool) → nat_eq w.track x ≡ t → IsShareOf (option_map (noted_write w.track) (volume_of v volumes)) x (cond t (share_write w.stamp.0 s) s)
    here true is = subst (λ y. IsShareOf (option_map (noted_write y) (volume_of v volumes)) x (share_write w.stamp.0 s)) (sym (eqb-true w.track x is)) (written_on x w.stamp.0 (volume_of v volumes) s h)
    here false is = written_off w.track x (volume_of v volumes) s is h

pub all_written : (v x : ℕ) (writes : List Write) (volumes : List Volume) (s : Share) → IsShareOf (volume_of v volumes) x s → IsShareOf (volume_of v (with_writes volumes writes)) x (share_writes v x writes s)
all_written v x [] volumes s h = h
all_written v x (w ∷ writes) volumes s h = all_written v x writes (with_write volumes w) (cond (w.volume == v && w.track == x) (share_write w.stamp.0 s) s) (one_written v x w volumes s h)

-- ---- a copied track

copied_on : (x stamp : ℕ) (kept : Option Volume) (s : Share) → IsShareOf kept x s → IsShareOf (option_map (copied_track x) kept) x (share_copied stamp s)
copied_on x stamp None s h = record { carried = h.carried; dropped = h.dropped; wanted = λ e. refl; mapped = h.mapped }
copied_on x stamp (Some u) s h = record {
  carried = h.carried;
  dropped = h.dropped;
  wanted = λ e. rw (has_without u.plan.wanted x x, eq-eqb x x refl) (never u.carried);
  mapped = h.mapped;
}
  where
    never : (b : Bool) → (b && false) ≡ false
    never true = refl
    never false = refl

copied_off : (x y : ℕ) (kept : Option Volume) (s : Share) → nat_eq x y ≡ false → IsShareOf kept y s → IsShareOf (option_map (copied_track x) kept) y s
copied_off x y None s other h = h
copied_off x y (Some u) s other h = record {
  carried = h.carried;
  dropped = h.dropped;
  wanted = λ e. ap (λ b. u.carried && b) (has_without u.plan.wanted x y ∙ rw (ne_eqb y x (λ same. eqb-false x y other (sym same))) refl) ∙ h.wanted e;
  mapped = h.mapped;
}

pub all_copied : (v w x y stamp : ℕ) (volumes : List Volume) (s : Share) → IsShareOf (volume_of w volumes) y s
    → IsShareOf (volume_of w (with_volume v (copied_track x) volumes)) y (cond (nat_eq v w && nat_eq x y) (share_copied stamp s) s)
all_copied v w x y stamp volumes s h =
    share_with v w y (copied_track x) (λ u. refl) volumes (cond (nat_eq v w && nat_eq x y) (share_copied stamp s) s)
    (λ same. rw same (here (nat_eq x y) refl)) (λ other. rw other h)
  where
    here : (t : Bool) → nat_eq x y ≡ t → IsShareOf (option_map (copied_track x) (volume_of w volumes)) y (cond t (share_copied stamp s) s)
    here true is = subst (λ z. IsShareOf (option_map (copied_track z) (volume_of w volumes)) y (share_copied stamp s)) (sym (eqb-true x y is)) (copied_on y stamp (volume_of w volumes) s h)
    here false is = copied_off x y (volume_of w volumes) s is h

-- ---- a volume that begins

-- nothing is kept of a volume, and the history has none
unknown_wants_none : (x : ℕ) (kept : Option Volume) (s : Share) → kept ≡ None → IsShareOf kept x s → s.is_wanted ≡ false
unknown_wants_none x None s none h = sym (h.wanted refl)
unknown_wants_none x (Some u) s none h = absurd cc

pub all_begun : (v w x : ℕ) (plan : PlanState) (volumes : List Volume) (s : Share) → has_volume v volumes ≡ false → IsShareOf (volume_of w volumes) x s
    → IsShareOf (volume_of w (volumes ++ begun v plan ∷ [])) x (cond (nat_eq v w) (share_carry (list_any (λ y. y == x) (tracks_in plan.wanted)) s) s)
all_begun v w x plan volumes s unknown h =
    subst (λ o. IsShareOf o x (cond (nat_eq v w) (share_carry (list_any (λ y. y == x) (tracks_in plan.wanted)) s) s)) (sym (found_after w volumes (begun v plan) unknown)) (choose (nat_eq v w) refl)
  where
    choose : (t : Bool) → nat_eq v w ≡ t → IsShareOf (cond t (Some (begun v plan)) (volume_of w volumes)) x (cond t (share_carry (list_any (λ y. y == x) (tracks_in plan.wanted)) s) s)
    choose false other = h
    choose true same =
        let none : volume_of w volumes ≡ None = none_found w volumes (ap (λ n. has_volume n volumes) (sym (eqb-true v w same)) ∙ unknown) in
        record {
          carried = refl;
          dropped = refl;
          wanted = λ e. sym (rw (unknown_wants_none x (volume_of w volumes) s none h) (has_in plan.wanted x));
          mapped = λ e. has_none (length plan.wanted) x;
        }

-- ---- a drop

dropped_on : (x : ℕ) (all : Bool) (tracks : List ℕ) (kept : Option Volume) (s : Share) → not (length s.waiting == 0) ≡ list_any (λ y. y == x) tracks
    → IsShareOf kept x s → IsShareOf (option_map (dropped_volume all tracks) kept) x (share_drop all s)
dropped_on x all tracks None s waits h = rw (sym h.carried, sym h.dropped) (record { carried = refl; dropped = refl; wanted = h.wanted; mapped = h.mapped })
dropped_on x all tracks (Some u) s waits h = rw (sym h.carried, sym h.dropped, either u.carried) after
  where
    either : (c : Bool) → (c || not c) ≡ true
    either true = refl
    either false = refl

    within : nat_lt x (length (dropped_map all tracks u.map)) ≡ true → nat_lt x (length u.map) ≡ true
    within e = ap (λ n. nat_lt x n) (sym (length_dropped all tracks u.map)) ∙ e

    after : IsShareOf (Some (dropped_volume all tracks u)) x (record { is_carried = false; is_dropped = true; is_wanted = false; is_mapped = s.is_mapped || all || not (length s.waiting == 0); waiting = [] })
    after = record {
      carried = refl;
      dropped = refl;
      wanted = λ e. refl;
      mapped = λ e. has_dropped all tracks u.map x (ltb-true x (length u.map) (within e)) ∙ rw (h.mapped (within e), waits) refl;
    }

pub all_dropped : (v w x : ℕ) (all : Bool) (tracks : List ℕ) (volumes : List Volume) (s : Share) → (nat_eq v w ≡ true → not (length s.waiting == 0) ≡ list_any (λ y. y == x) tracks)
    → IsShareOf (volume_of w volumes) x s → IsShareOf (volume_of w (with_volume v (dropped_volume all tracks) volumes)) x (cond (nat_eq v w) (share_drop all s) s)
all_dropped v w x all tracks volumes s waits h =
    share_with v w x (dropped_volume all tracks) (λ u. refl) volumes (cond (nat_eq v w) (share_drop all s) s)
    (λ same. rw same (dropped_on x all tracks (volume_of w volumes) s (waits same) h)) (λ other. rw other h)

-- ---- a resume

resumed_on : (x : ℕ) (kept : Option Volume) (s : Share) → passes (λ u. not u.carried) kept ≡ true → IsShareOf kept x s → IsShareOf (option_map resumed_volume kept) x (share_resume s)
resumed_on x None s dropped h = absurd cc
resumed_on x (Some u) s dropped h = record {
  carried = refl;
  dropped = refl;
  wanted = λ e. h.mapped (ap (λ n. nat_lt x n) (sym (length-replicate (length u.map) false)) ∙ e);
  mapped = λ e. has_none (length u.map) x;
}

pub all_resumed : (v w x : ℕ) (volumes : List Volume) (s : Share) → is_dropped v volumes ≡ true → IsShareOf (volume_of w volumes) x s
    → IsShareOf (volume_of w (with_volume v resumed_volume volumes)) x (cond (nat_eq v w) (share_resume s) s)
all_resumed v w x volumes s dropped h =
    share_with v w x resumed_volume (λ u. refl) volumes (cond (nat_eq v w) (share_resume s) s)
    (λ same. rw same (resumed_on x (volume_of w volumes) s (subst (λ n. is_dropped n volumes ≡ true) (eqb-true v w same) dropped) h)) (λ other. rw other h)

-- ---- a volume that is forgotten

pub all_forgotten : (v w x : ℕ) (volumes : List Volume) (s : Share) → are_distinct volumes ≡ true → IsShareOf (volume_of w volumes) x s
    → IsShareOf (volume_of w (without_number v volumes)) x (cond (nat_eq v w) (with_stamps s.waiting no_share) s)
all_forgotten v w x volumes s distinct h =
    subst (λ o. IsShareOf o x (cond (nat_eq v w) (with_stamps s.waiting no_share) s)) (sym (found_without v w volumes distinct)) (choose (nat_eq v w))
  where
    choose : (t : Bool) → IsShareOf (cond t None (volume_of w volumes)) x (cond t (with_stamps s.waiting no_share) s)
    choose true = record { carried = refl; dropped = refl; wanted = λ e. refl; mapped = λ e. refl }
    choose false = h

-- ---- a form

formed_on : (x : ℕ) (kept : Option Volume) (s : Share) → IsShareOf kept x s → IsShareOf (option_map formed_track kept) x s
formed_on x None s h = h
formed_on x (Some u) s h = record { carried = h.carried; dropped = h.dropped; wanted = h.wanted; mapped = h.mapped }

pub all_formed : (w x : ℕ) (volumes : List Volume) (formed : List WaitingEntry) (s : Share) → IsShareOf (volume_of w volumes) x s → IsShareOf (volume_of w (with_formed_copies volumes formed)) x s
all_formed w x volumes [] s h = h
all_formed w x volumes (e ∷ formed) s h =
    all_formed w x (with_volume e.head.volume formed_track volumes) formed s
    (share_with e.head.volume w x formed_track (λ u. refl) volumes s (λ same. formed_on x (volume_of w volumes) s h) (λ other. h))
