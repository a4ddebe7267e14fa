-- What every legal history keeps. Each event keeps it, and so each legal history has it.
use Rattle.std.proofs.Common.{inl, inr, ◌≡◌, ℕ, zero, suc, ◌<◌, ◌≤◌, ◌⊎◌, Bool, true, false, not, cond, nat_eq, nat_lt, nat_le, ◌&&◌, ◌||◌, List, [], ◌∷◌, ◌++◌, map, refl, sym, subst, ◌∙◌, append_assoc, append-nil, arith}
use Rattle.std.specs.Prelude.{◌==◌, filter}
use Rattle.std.specs.List.{list_all}
use Rattle.std.proofs.lemmas.Bool.{and_parts, and_from, or_parts, or_right, not-true, not-false, cases_Bool, cases_lt, ltb-true, lt-ltb, leb-true, le-leb, leb-false, eqb-true, eq-eqb}
use Rattle.std.proofs.lemmas.List.Folds.{list_all-append}
use Rattle.ckd_track.specs.declared.write.Write.{Write}
use Rattle.cut_core.specs.Events.{Event, reported_upto, floor, is_break_of, is_broken_after, is_done, is_live, cut_after, last_cut}
use Rattle.cut_core.specs.Events.Event.{Join, Copied, Break, Raise, Form, Drop, Carry, Resume, Forget}
use Rattle.cut_core.specs.Groups.{CarriedEntry, carried_entry, is_copy, is_write_carried, carried_by, waiting_in}
use Rattle.cut_core.specs.LegalHistories.{are_in, is_below_floors, is_legal_next, are_legal}
use Rattle.cut_core.proofs.Filters.{all_filter, all_passing}
use Rattle.cut_core.proofs.Legality.{joins, copies, forms_at, told}
use Rattle.cut_core.proofs.Ends.{clash, either_true, all_snoc, floor_snoc, cut_snoc, not_done, done_more, breaks_at, stays, waiting_snoc}
use Rattle.cut_core.proofs.Rising.{IsRising, rising_next}

-- A controller is done, or its floor is at or above the cut.
abbrev pub IsAbove : (cut k : ℕ) → List Event → Type 0
IsAbove cut k past = (is_done k past ≡ true) ⊎ (cut ≤ floor k past)

-- a write's stamp is above the cut, and a copied track's not below it
abbrev pub is_past : (cut : ℕ) → CarriedEntry → Bool
is_past cut e = nat_lt cut e.stamp || (is_copy e && nat_le cut e.stamp)

pub record Kept (n : ℕ) (past : List Event) : Type 0 where
  -- a controller that isn't done has its floor at or above the last cut
  pub floors : (k : ℕ) → k < n → IsAbove (last_cut past) k past
  -- each break of a controller has its floor as time
  pub breaks : (k : ℕ) → breaks_at k (floor k past) past ≡ true
  -- what waits is past the last cut
  pub waits : list_all (is_past (last_cut past)) (waiting_in [] past) ≡ true
  -- a controller's waiting entries stand by their stamps, up to its floor
  pub rises : (k : ℕ) → IsRising k past

-- the floor of a controller that hasn't broken
pub floor_above : (n k : ℕ) (past : List Event) → Kept n past → k < n → is_broken_after k past ≡ false → last_cut past ≤ floor k past
floor_above n k past kept lt unbroken = elim (kept.floors k lt) [
  | inr le ↦ le
  | inl done ↦ absurd (clash (is_done k past) done (not_done k past unbroken))
]

-- ---- floors

above_more : (cut k : ℕ) (past : List Event) (x : Event) → IsAbove cut k past → IsAbove cut k (past ++ x ∷ [])
above_more cut k past x (inl done) = inl (done_more k past x done)
above_more cut k past x (inr le) = inr (omega (arith, floor_snoc k past x))

-- what a legal cut says of each controller
pub above_cut : (n cut k : ℕ) (past : List Event) → is_below_floors n cut past ≡ true → k < n → IsAbove cut k past
above_cut zero cut k past e lt = absurd (omega arith)
above_cut (suc n) cut k past e lt =
    let parts = and_parts (not (is_live n past) || nat_le cut (floor n past)) (is_below_floors n cut past) e in
    elim (cases_lt k n) [
      | inl below ↦ above_cut n cut k past parts.1 below
      | inr above ↦ subst (λ j. IsAbove cut j past) (omega arith) (elim (either_true (not (is_live n past)) (nat_le cut (floor n past)) parts.0) [
        | inl gone ↦ inl (not-false (is_done n past) (not-true (not (is_done n past)) gone))
        | inr le ↦ inr (leb-true cut (floor n past) le)
      ])
    ]

floors_next : (n : ℕ) (past : List Event) (x : Event) → is_legal_next n past x ≡ true → ((k : ℕ) → k < n → IsAbove (last_cut past) k past) → (k : ℕ) → k < n → IsAbove (cut_after (last_cut past) x) k (past ++ x ∷ [])
floors_next n past (Form c) legal at k lt = above_more c k past (Form c) (above_cut n c k past (forms_at n c past legal).floors lt)
floors_next n past (Join b) legal at k lt = above_more (last_cut past) k past (Join b) (at k lt)
floors_next n past (Copied j v y s) legal at k lt = above_more (last_cut past) k past (Copied j v y s) (at k lt)
floors_next n past (Break j u) legal at k lt = above_more (last_cut past) k past (Break j u) (at k lt)
floors_next n past (Raise j u) legal at k lt = above_more (last_cut past) k past (Raise j u) (at k lt)
floors_next n past (Drop j v all) legal at k lt = above_more (last_cut past) k past (Drop j v all) (at k lt)
floors_next n past (Carry j v tracks) legal at k lt = above_more (last_cut past) k past (Carry j v tracks) (at k lt)
floors_next n past (Resume j v) legal at k lt = above_more (last_cut past) k past (Resume j v) (at k lt)
floors_next n past (Forget j v) legal at k lt = above_more (last_cut past) k past (Forget j v) (at k lt)

-- ---- breaks

-- a controller that hasn't broken has no break at another time
unbroken_at : (k t : ℕ) (past : List Event) → is_broken_after k past ≡ false → breaks_at k t past ≡ true
unbroken_at k t [] e = refl
unbroken_at k t (y ∷ past) e =
    let parts = or_parts (is_break_of k y) (is_broken_after k past) e in
    rw parts.0 (unbroken_at k t past parts.1)

-- after an event that isn't the controller's, and after one of a controller that hasn't broken
after_quiet : (k : ℕ) (past : List Event) (x : Event) → is_break_of k x ≡ false → reported_upto k x ≡ 0 → breaks_at k (floor k past) past ≡ true → breaks_at k (floor k (past ++ x ∷ [])) (past ++ x ∷ []) ≡ true
after_quiet k past x none untold e =
    let same : floor k (past ++ x ∷ []) ≡ floor k past = omega (arith, floor_snoc k past x, untold) in
    rw (same, all_snoc (λ y. not (is_break_of k y) || reported_upto k y == floor k past) past x, e, none) refl

after_told : (k t : ℕ) (past : List Event) (x : Event) → is_broken_after k past ≡ false → (not (is_break_of k x) || reported_upto k x == t) ≡ true → breaks_at k t (past ++ x ∷ []) ≡ true
after_told k t past x none e = rw (all_snoc (λ y. not (is_break_of k y) || reported_upto k y == t) past x, unbroken_at k t past none, e) refl

breaks_next : (n k : ℕ) (past : List Event) (x : Event) → is_legal_next n past x ≡ true → breaks_at k (floor k past) past ≡ true → breaks_at k (floor k (past ++ x ∷ [])) (past ++ x ∷ []) ≡ true
breaks_next n k past (Join b) legal e =
    elim (cases_Bool (nat_eq b.control k)) [
      | inr other ↦ after_quiet k past (Join b) refl (rw other refl) e
      | inl same ↦ after_told k (floor k (past ++ Join b ∷ [])) past (Join b) (subst (λ j. is_broken_after j past ≡ false) (eqb-true b.control k same) (joins n past b legal).tells.unbroken) refl
    ]
breaks_next n k past (Raise j u) legal e =
    elim (cases_Bool (nat_eq j k)) [
      | inr other ↦ after_quiet k past (Raise j u) refl (rw other refl) e
      | inl same ↦ after_told k (floor k (past ++ Raise j u ∷ [])) past (Raise j u) (subst (λ i. is_broken_after i past ≡ false) (eqb-true j k same) (told n j u past legal).unbroken) refl
    ]
breaks_next n k past (Break j u) legal e =
    elim (cases_Bool (nat_eq j k)) [
      | inr other ↦ after_quiet k past (Break j u) other (rw other refl) e
      | inl same ↦
          let parts = told n j u past legal in
          let is : j ≡ k = eqb-true j k same in
          let le : floor k past ≤ u = subst (λ i. floor i past ≤ u) is parts.up in
          let upto : reported_upto k (Break j u) ≡ u = rw same refl in
          let up : reported_upto k (Break j u) ≡ floor k (past ++ Break j u ∷ []) = omega (arith, floor_snoc k past (Break j u), upto, le) in
          after_told k (floor k (past ++ Break j u ∷ [])) past (Break j u) (subst (λ i. is_broken_after i past ≡ false) is parts.unbroken)
          (or_right (not (is_break_of k (Break j u))) (reported_upto k (Break j u) == floor k (past ++ Break j u ∷ [])) (eq-eqb (reported_upto k (Break j u)) (floor k (past ++ Break j u ∷ [])) up))
    ]
breaks_next n k past (Copied j v y s) legal e = after_quiet k past (Copied j v y s) refl refl e
breaks_next n k past (Form c) legal e = after_quiet k past (Form c) refl refl e
breaks_next n k past (Drop j v all) legal e = after_quiet k past (Drop j v all) refl refl e
breaks_next n k past (Carry j v tracks) legal e = after_quiet k past (Carry j v tracks) refl refl e
breaks_next n k past (Resume j v) legal e = after_quiet k past (Resume j v) refl refl e
breaks_next n k past (Forget j v) legal e = after_quiet k past (Forget j v) refl refl e

-- ---- what waits

-- carried writes above the floor are past the cut
writes_past : (cut k low high : ℕ) (c : Write → Bool) (writes : List Write) → cut ≤ low → are_in low high writes ≡ true → list_all (is_past cut) (map (carried_entry k) (filter c writes)) ≡ true
writes_past cut k low high c [] le e = refl
writes_past cut k low high c (w ∷ writes) le e =
    let parts = and_parts (nat_lt low w.stamp.0 && nat_le w.stamp.0 high) (are_in low high writes) e in
    let lt = ltb-true low w.stamp.0 (and_parts (nat_lt low w.stamp.0) (nat_le w.stamp.0 high) parts.0).0 in
    choose (c w) (lt-ltb cut w.stamp.0 (omega arith)) (writes_past cut k low high c writes le parts.1)
  where
    choose : (t : Bool) → nat_lt cut w.stamp.0 ≡ true → list_all (is_past cut) (map (carried_entry k) (filter c writes)) ≡ true → list_all (is_past cut) (map (carried_entry k) (cond t (w ∷ filter c writes) (filter c writes))) ≡ true
    choose true lt rest = rw (lt, rest) refl
    choose false lt rest = rest

-- what one event carries is past the cut after it
carried_past : (n : ℕ) (past : List Event) (x : Event) → is_legal_next n past x ≡ true → Kept n past → list_all (is_past (cut_after (last_cut past) x)) (carried_by past x) ≡ true
carried_past n past (Join b) legal kept =
    let parts = joins n past b legal in
    writes_past (last_cut past) b.control (floor b.control past) b.upto.0 (is_write_carried past b.control) b.writes
    (floor_above n b.control past kept parts.tells.control parts.tells.unbroken) parts.within
carried_past n past (Copied k v y s) legal kept =
    let parts = copies n k v y s past legal in
    let le : last_cut past ≤ s = omega (arith, floor_above n k past kept parts.control parts.unbroken, parts.stamp) in
    and_from (nat_lt (last_cut past) s || nat_le (last_cut past) s) true (or_right (nat_lt (last_cut past) s) (nat_le (last_cut past) s) (le-leb (last_cut past) s le)) refl
carried_past n past (Break k u) legal kept = refl
carried_past n past (Raise k u) legal kept = refl
carried_past n past (Form c) legal kept = refl
carried_past n past (Drop k v all) legal kept = refl
carried_past n past (Carry k v tracks) legal kept = refl
carried_past n past (Resume k v) legal kept = refl
carried_past n past (Forget k v) legal kept = refl

-- what a form leaves is above its cut
left_past : (c : ℕ) (e : CarriedEntry) → stays (Form c) e ≡ true → is_past c e ≡ true
left_past c e kept =
    let above = leb-false e.stamp c (not-true (nat_le e.stamp c) (and_parts (not (nat_le e.stamp c)) true kept).0) in
    rw (lt-ltb c e.stamp above) refl

still_past : (n : ℕ) (past : List Event) (x : Event) → list_all (is_past (last_cut past)) (waiting_in [] past) ≡ true → list_all (is_past (cut_after (last_cut past) x)) (filter (stays x) (waiting_in [] past)) ≡ true
still_past n past (Form c) e = all_passing (is_past (last_cut past)) (stays (Form c)) (is_past c) (waiting_in [] past) e (λ entry here kept. left_past c entry kept)
still_past n past (Join b) e = all_filter (is_past (last_cut past)) (stays (Join b)) (waiting_in [] past) e
still_past n past (Copied k v y s) e = all_filter (is_past (last_cut past)) (stays (Copied k v y s)) (waiting_in [] past) e
still_past n past (Break k u) e = all_filter (is_past (last_cut past)) (stays (Break k u)) (waiting_in [] past) e
still_past n past (Raise k u) e = all_filter (is_past (last_cut past)) (stays (Raise k u)) (waiting_in [] past) e
still_past n past (Drop k v all) e = all_filter (is_past (last_cut past)) (stays (Drop k v all)) (waiting_in [] past) e
still_past n past (Carry k v tracks) e = all_filter (is_past (last_cut past)) (stays (Carry k v tracks)) (waiting_in [] past) e
still_past n past (Resume k v) e = all_filter (is_past (last_cut past)) (stays (Resume k v)) (waiting_in [] past) e
still_past n past (Forget k v) e = all_filter (is_past (last_cut past)) (stays (Forget k v)) (waiting_in [] past) e

-- ---- one more event, and all

pub kept_next : (n : ℕ) (past : List Event) (x : Event) → is_legal_next n past x ≡ true → Kept n past → Kept n (past ++ x ∷ [])
kept_next n past x legal kept =
    let cut = cut_after (last_cut past) x in
    let split = list_all-append (is_past cut) (filter (stays x) (waiting_in [] past)) (carried_by past x) in
    record {
      floors = λ k lt. rw (cut_snoc past x) (floors_next n past x legal kept.floors k lt);
      breaks = λ k. breaks_next n k past x legal (kept.breaks k);
      waits = rw (cut_snoc past x, waiting_snoc [] past x) (split ∙ rw (still_past n past x kept.waits, carried_past n past x legal kept) refl);
      rises = λ k. rising_next n k past x legal (kept.rises k);
    }

pub kept_first : (n : ℕ) → Kept n []
kept_first n = record { floors = λ k lt. inr (omega arith); breaks = λ k. refl; waits = refl; rises = λ k. tt }

pub kept_after : (n : ℕ) (past later : List Event) → Kept n past → are_legal n past later ≡ true → Kept n (past ++ later)
kept_after n past [] kept legal = subst (λ p. Kept n p) (sym (append-nil past)) kept
kept_after n past (x ∷ later) kept legal =
    let parts = and_parts (is_legal_next n past x) (are_legal n (past ++ x ∷ []) later) legal in
    subst (λ p. Kept n p) (append_assoc past (x ∷ []) later) (kept_after n (past ++ x ∷ []) later (kept_next n past x parts.0 kept) parts.1)

-- Every legal history keeps it.
pub legal_kept : (n : ℕ) (past : List Event) → are_legal n [] past ≡ true → Kept n past
legal_kept n past legal = kept_after n [] past (kept_first n) legal
