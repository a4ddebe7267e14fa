-- From its drop on, a volume's share keeps what the history says of its map.
use Rattle.std.proofs.Common.{inl, inr, ◌≡◌, ℕ, Bool, true, false, not, cond, nat_eq, ◌&&◌, ◌||◌, List, [], ◌∷◌, ◌++◌, length, refl, sym, ap, subst, ◌∙◌, append_assoc, append-nil}
use Rattle.std.specs.Prelude.{◌==◌}
use Rattle.std.specs.List.{list_any}
use Rattle.std.proofs.Math.Bool.{or-false, or_assoc}
use Rattle.std.proofs.lemmas.Bool.{and_parts, cases_Bool, eqb-true, eq-eqb}
use Rattle.std.proofs.lemmas.List.Sums.{fold-append}
use Rattle.ckd_track.specs.declared.write.Write.{Write}
use Rattle.cut_core.specs.Events.{Event}
use Rattle.cut_core.specs.Events.Event.{Join, Copied, Break, Raise, Form, Drop, Carry, Resume, Forget}
use Rattle.cut_core.specs.Shares.{Share, no_share, names_volume, share_write, share_writes, share_copied, share_drop, share_by, share}
use Rattle.cut_core.specs.Groups.{waiting_in}
use Rattle.cut_core.specs.LegalHistories.{is_legal_next, are_legal}
use Rattle.cut_core.specs.Waiting.{waits_on}
use Rattle.cut_core.specs.Maps.{ends_drop, drops_all, joins_on, MapsHold}
use Rattle.cut_core.proofs.Legality.{copies, legal_after}
use Rattle.cut_core.proofs.Shares.{shares_wait}
use Rattle.cut_core.proofs.Plain.{plain_all, any_waits}

neither : (a b : Bool) → not (a || b) ≡ true → (a ≡ false) × (not b ≡ true)
neither true b e = absurd cc
neither false b e = (refl, e)

share_snoc : (k v x : ℕ) (past : List Event) (y : Event) → share k v x (past ++ y ∷ []) ≡ share_by k v x (share k v x past) y
share_snoc k v x past y = fold-append (share_by k v x) no_share past (y ∷ [])

-- ---- a dropped volume

abbrev dropped : Bool → Share
dropped m = record { is_carried = false; is_dropped = true; is_wanted = false; is_mapped = m; waiting = [] }

writes_dropped : (v x : ℕ) (m : Bool) (writes : List Write) → share_writes v x writes (dropped m) ≡ dropped (m || list_any (λ w. w.volume == v && w.track == x) writes)
writes_dropped v x m [] = ap dropped (sym (or-false m))
writes_dropped v x m (w ∷ writes) = one (w.volume == v && w.track == x) (λ m. writes_dropped v x m writes)
  where
    one : (t : Bool) → ((m : Bool) → share_writes v x writes (dropped m) ≡ dropped (m || list_any (λ w. w.volume == v && w.track == x) writes))
        → share_writes v x writes (cond t (share_write w.stamp.0 (dropped m)) (dropped m)) ≡ dropped (m || (t || list_any (λ w. w.volume == v && w.track == x) writes))
    one false rest = rest m
    one true rest = rest true ∙ ap dropped (whole m)
      where
        whole : (m : Bool) → true ≡ (m || true)
        whole true = refl
        whole false = refl

-- one more event: what it says of the map
abbrev says : (k v x : ℕ) → Event → Bool
says k v x y = drops_all k v y || joins_on k v x y

module _ (n k v x : ℕ) (past : List Event) (m : Bool) (is : share k v x past ≡ dropped m) where
  same : share_by k v x (dropped m) (Raise 0 0) ≡ dropped (m || false)
  same = ap dropped (sym (or-false m))

  stays_dropped : (t : Bool) (s : Share) → t ≡ false → cond t s (dropped m) ≡ dropped (m || false)
  stays_dropped true s e = absurd cc
  stays_dropped false s e = same

  by_event : (y : Event) → is_legal_next n past y ≡ true → ends_drop k v y ≡ false → share_by k v x (dropped m) y ≡ dropped (m || says k v x y)
  by_event (Break j u) legal ends = same
  by_event (Raise j u) legal ends = same
  by_event (Form c) legal ends = same
  by_event (Carry j u tracks) legal ends = stays_dropped (names_volume j u k v) _ ends
  by_event (Resume j u) legal ends = stays_dropped (names_volume j u k v) _ ends
  by_event (Forget j u) legal ends = stays_dropped (names_volume j u k v) _ ends
  by_event (Join b) legal ends = joined (nat_eq b.control k)
    where
      joined : (t : Bool) → cond t (share_writes v x b.writes (dropped m)) (dropped m) ≡ dropped (m || (false || (t && list_any (λ w. w.volume == v && w.track == x) b.writes)))
      joined true = writes_dropped v x m b.writes
      joined false = same
  by_event (Drop j u all) legal ends = again (names_volume j u k v)
    where
      again : (t : Bool) → cond t (share_drop all (dropped m)) (dropped m) ≡ dropped (m || ((t && all) || false))
      again true = ap dropped (or_assoc m all false)
      again false = same
  by_event (Copied j u y stamp) legal ends = elim (cases_Bool (names_volume j u k v && y == x)) [
    | inr other ↦ stays_dropped (names_volume j u k v && y == x) (share_copied stamp (dropped m)) other
    | inl on ↦
        let parts = and_parts (names_volume j u k v) (y == x) on in
        let names = and_parts (j == k) (u == v) parts.0 in
        let wanted = (copies n j u y stamp past legal).wanted in
        let at_k = subst (λ i. (share i u y past).is_wanted ≡ true) (eqb-true j k names.0) wanted in
        let at_v = subst (λ i. (share k i y past).is_wanted ≡ true) (eqb-true u v names.1) at_k in
        let at_x = subst (λ i. (share k v i past).is_wanted ≡ true) (eqb-true y x parts.1) at_v in
        absurd (not_wanted (subst (λ (s : Share). s.is_wanted ≡ true) is at_x))
  ]
    where
      not_wanted : false ≡ true → ⊥
      not_wanted e = cc

-- several events: drops of all, and writes joined
mixed : (m d j a w : Bool) → ((m || (d || j)) || (a || w)) ≡ (m || ((d || a) || (j || w)))
mixed true d j a w = refl
mixed false true j a w = refl
mixed false false true true w = refl
mixed false false true false w = refl
mixed false false false a w = refl

after_since : (n k v x : ℕ) (past since : List Event) (m : Bool) → share k v x past ≡ dropped m → are_legal n past since ≡ true → not (list_any (ends_drop k v) since) ≡ true
    → share k v x (past ++ since) ≡ dropped (m || (list_any (drops_all k v) since || list_any (joins_on k v x) since))
after_since n k v x past [] m is legal none = subst (λ p. share k v x p ≡ dropped (m || false)) (sym (append-nil past)) (is ∙ ap dropped (sym (or-false m)))
after_since n k v x past (y ∷ since) m is legal none =
    let parts = and_parts (is_legal_next n past y) (are_legal n (past ++ y ∷ []) since) legal in
    let ends = neither (ends_drop k v y) (list_any (ends_drop k v) since) none in
    let next = share_snoc k v x past y ∙ ap (λ s. share_by k v x s y) is ∙ by_event n k v x past m is y parts.0 ends.0 in
    subst (λ p. share k v x p ≡ dropped (m || ((drops_all k v y || list_any (drops_all k v) since) || (joins_on k v x y || list_any (joins_on k v x) since)))) (append_assoc past (y ∷ []) since)
    (after_since n k v x (past ++ y ∷ []) since (m || says k v x y) next parts.1 ends.1
    ∙ ap dropped (mixed m (drops_all k v y) (joins_on k v x y) (list_any (drops_all k v) since) (list_any (joins_on k v x) since)))

-- ---- the first drop

-- a carried volume has no map yet; what its drop makes of a share
first_drop : (k v x : ℕ) (before : List Event) (all : Bool) → (share k v x before).is_carried ≡ true → share k v x (before ++ Drop k v all ∷ []) ≡ dropped (all || list_any (waits_on k v x) (waiting_in [] before))
first_drop k v x before all carried =
    let s = share k v x before in
    let plain = plain_all k v x before no_share refl in
    let waits = ap (λ (stamps : List ℕ). not (length stamps == 0)) (shares_wait k v x before) ∙ any_waits (waits_on k v x) (waiting_in [] before) in
    share_snoc k v x before (Drop k v all) ∙ rw (eq-eqb k k refl, eq-eqb v v refl, carried) (ap dropped (mapped s.is_mapped (not_mapped s.is_carried s.is_dropped s.is_mapped carried plain) ∙ ap (λ w. all || w) waits))
  where
    not_mapped : (c d m : Bool) → c ≡ true → (not c || (not d && not m)) ≡ true → m ≡ false
    not_mapped true true m e f = absurd cc
    not_mapped true false true e f = absurd cc
    not_mapped true false false e f = refl
    not_mapped false d m e f = absurd cc

    mapped : (m : Bool) → m ≡ false → ((m || all) || not (length (share k v x before).waiting == 0)) ≡ (all || not (length (share k v x before).waiting == 0))
    mapped true e = absurd cc
    mapped false e = refl

in_turn : (a w d j : Bool) → ((a || w) || (d || j)) ≡ ((a || d) || (w || j))
in_turn true w d j = refl
in_turn false true true j = refl
in_turn false true false j = refl
in_turn false false d j = refl

pub maps_hold : MapsHold
maps_hold n k v x before since all legal carried none =
    let w = list_any (waits_on k v x) (waiting_in [] before) in
    let parts = and_parts true (are_legal n (before ++ Drop k v all ∷ []) since) (legal_after n [] before (Drop k v all ∷ since) legal) in
    let after = after_since n k v x (before ++ Drop k v all ∷ []) since (all || w) (first_drop k v x before all carried) parts.1 none in
    rw (eq-eqb k k refl, eq-eqb v v refl)
    (ap (λ (s : Share). s.is_mapped) (subst (λ p. share k v x p ≡ dropped ((all || w) || (list_any (drops_all k v) since || list_any (joins_on k v x) since))) (append_assoc before (Drop k v all ∷ []) since) after)
    ∙ in_turn all w (list_any (drops_all k v) since) (list_any (joins_on k v x) since))
