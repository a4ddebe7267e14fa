-- A group has exactly the carried writes with a stamp above the cut before and at most its own that no drop took out.
use Rattle.std.proofs.Common.{◌≡◌, ℕ, ◌<◌, ◌≤◌, Bool, true, false, not, cond, nat_lt, nat_le, nat_eq, ◌⊎◌, ◌&&◌, ◌||◌, List, [], ◌∷◌, ◌++◌, map, refl, sym, ap, subst, ◌∙◌, arith, inl, inr}
use Rattle.std.specs.Prelude.{filter}
use Rattle.std.specs.List.{list_all}
use Rattle.std.proofs.Math.Bool.{and-false}
use Rattle.std.proofs.lemmas.Bool.{and_parts, and_from, and_cases, and_left, and_right, or_parts, or_from, not-true, not_from_false, cases_Bool, ltb-true, ltb-false, lt-ltb, le-ltb, leb-false, lt-leb, eqb-true, eqb-false}
use Rattle.std.proofs.lemmas.List.Elements.{filter-append}
use Rattle.ckd_track.specs.declared.write.Write.{Write}
use Rattle.xrc_edge.specs.Order.{in_order}
use Rattle.xrc_edge.proofs.OrderLaws.{IsOrder}
use Rattle.xrc_edge.proofs.Positions.{filter_order}
use Rattle.cut_core.specs.Events.{Event, floor, cut_after, last_cut_from, last_cut}
use Rattle.cut_core.specs.Events.Event.{Join, Copied, Break, Raise, Form, Drop, Carry, Resume, Forget}
use Rattle.cut_core.specs.Groups.{CarriedEntry, carried_entry, is_copy, is_write_carried, carried_by, forms, drops, still_waits, waiting_in, comes_before}
use Rattle.cut_core.specs.LegalHistories.{are_in, is_legal_next, are_legal}
use Rattle.cut_core.specs.Cuts.{joins_above, is_dropped_in, kept_writes, GroupsAreComplete}
use Rattle.cut_core.proofs.Filters.{filter_both}
use Rattle.cut_core.proofs.Legality.{joins, legal_front}
use Rattle.cut_core.proofs.Ends.{clash, either_true, cut_snoc}
use Rattle.cut_core.proofs.Kept.{Kept, floor_above, kept_next, kept_first}
use Rattle.cut_core.proofs.Late.{cut_rises, no_late}

-- ---- cuts never fall

cuts_rise : (n : ℕ) (past before : List Event) → are_legal n past before ≡ true → last_cut past ≤ last_cut_from (last_cut past) before
cuts_rise n past [] e = omega arith
cuts_rise n past (x ∷ before) e =
    let parts = and_parts (is_legal_next n past x) (are_legal n (past ++ x ∷ []) before) e in
    let next = subst (λ c. c ≤ last_cut_from c before) (cut_snoc past x) (cuts_rise n (past ++ x ∷ []) before parts.1) in
    omega (arith, cut_rises n past x parts.0, next)

-- An entry with a stamp above the last cut is formed by no form up to it.
none_forms : (n : ℕ) (past before : List Event) (e : CarriedEntry) → are_legal n past before ≡ true → last_cut_from (last_cut past) before < e.stamp → list_all (λ y. not (forms e y)) before ≡ true
none_forms n past [] e legal above = refl
none_forms n past (x ∷ before) e legal above =
    let parts = and_parts (is_legal_next n past x) (are_legal n (past ++ x ∷ []) before) legal in
    let next = subst (λ c. c ≤ last_cut_from c before) (cut_snoc past x) (cuts_rise n (past ++ x ∷ []) before parts.1) in
    let rest = none_forms n (past ++ x ∷ []) before e parts.1 (subst (λ c. last_cut_from c before < e.stamp) (sym (cut_snoc past x)) above) in
    and_from (not (forms e x)) (list_all (λ y. not (forms e y)) before) (not_formed x (omega (arith, next, above))) rest
  where
    not_formed : (x : Event) → cut_after (last_cut past) x < e.stamp → not (forms e x) ≡ true
    not_formed (Form c) lt = rw (lt-leb e.stamp c lt) refl
    not_formed (Join b) lt = refl
    not_formed (Copied k v y s) lt = refl
    not_formed (Break k u) lt = refl
    not_formed (Raise k u) lt = refl
    not_formed (Drop k v all) lt = refl
    not_formed (Carry k v tracks) lt = refl
    not_formed (Resume k v) lt = refl
    not_formed (Forget k v) lt = refl

-- ---- an entry that waits for a form, and one that a drop takes out

split_dropped : (d f rest : Bool) → f ≡ false → (d || (not f && rest)) ≡ false → (d ≡ false) × (rest ≡ false)
split_dropped true f rest is e = absurd cc
split_dropped false true rest is e = absurd cc
split_dropped false false rest is e = (refl, e)

waits_not_dropped : (cut : ℕ) (before later : List Event) (e : CarriedEntry) → nat_le e.stamp cut ≡ true → still_waits before e ≡ true → is_dropped_in (before ++ Form cut ∷ later) e ≡ false
waits_not_dropped cut [] later e le waits = rw le refl
waits_not_dropped cut (y ∷ before) later e le waits =
    let parts = and_parts (not (forms e y) && not (drops e y)) (still_waits before e) waits in
    let this = and_parts (not (forms e y)) (not (drops e y)) parts.0 in
    rw (not-true (drops e y) this.1, not-true (forms e y) this.0) (waits_not_dropped cut before later e le parts.1)

not_dropped_waits : (cut : ℕ) (before later : List Event) (e : CarriedEntry) → list_all (λ y. not (forms e y)) before ≡ true → is_dropped_in (before ++ Form cut ∷ later) e ≡ false → still_waits before e ≡ true
not_dropped_waits cut [] later e none kept = refl
not_dropped_waits cut (y ∷ before) later e none kept =
    let parts = and_parts (not (forms e y)) (list_all (λ y. not (forms e y)) before) none in
    let this = split_dropped (drops e y) (forms e y) (is_dropped_in (before ++ Form cut ∷ later) e) (not-true (forms e y) parts.0) kept in
    and_from (not (forms e y) && not (drops e y)) (still_waits before e)
    (and_from (not (forms e y)) (not (drops e y)) parts.0 (not_from_false (drops e y) this.0)) (not_dropped_waits cut before later e parts.1 this.1)

-- An entry that still waits has a stamp above the last cut.
waits_above : (c : ℕ) (before : List Event) (e : CarriedEntry) → c < e.stamp → still_waits before e ≡ true → last_cut_from c before < e.stamp
waits_above c [] e above waits = above
waits_above c (y ∷ before) e above waits =
    let parts = and_parts (not (forms e y) && not (drops e y)) (still_waits before e) waits in
    let this = and_parts (not (forms e y)) (not (drops e y)) parts.0 in
    waits_above (cut_after c y) before e (still_above y (not-true (forms e y) this.0)) parts.1
  where
    still_above : (y : Event) → forms e y ≡ false → cut_after c y < e.stamp
    still_above (Form d) is = leb-false e.stamp d is
    still_above (Join b) is = above
    still_above (Copied k v x s) is = above
    still_above (Break k u) is = above
    still_above (Raise k u) is = above
    still_above (Drop k v all) is = above
    still_above (Carry k v tracks) is = above
    still_above (Resume k v) is = above
    still_above (Forget k v) is = above

-- ---- the two tests agree on a write

-- in the form's group; and among the kept writes between the cuts
abbrev in_group : (cut : ℕ) (before : List Event) → CarriedEntry → Bool
in_group cut before e = not (is_copy e) && (nat_le e.stamp cut && still_waits before e)

abbrev is_between : (low cut : ℕ) → CarriedEntry → Bool
is_between low cut e = nat_lt low e.stamp && nat_le e.stamp cut

abbrev is_kept : List Event → CarriedEntry → Bool
is_kept later e = not (is_copy e) && not (is_dropped_in later e)

same_test : (n cut low : ℕ) (past before later : List Event) (k : ℕ) (w : Write) → are_legal n past before ≡ true → low ≡ last_cut_from (last_cut past) before → last_cut past < w.stamp.0
    → in_group cut before (carried_entry k w) ≡ (is_between low cut (carried_entry k w) && is_kept (before ++ Form cut ∷ later) (carried_entry k w))
same_test n cut low past before later k w legal low-is above =
    let e = carried_entry k w in
    elim (cases_Bool (nat_le w.stamp.0 cut)) [
      | inr more ↦ rw (more, and-false (nat_lt low w.stamp.0)) refl
      | inl le ↦ elim (cases_Bool (still_waits before e)) [
        | inl waits ↦
            let lt : nat_lt low w.stamp.0 ≡ true = lt-ltb low w.stamp.0 (subst (λ c. c < w.stamp.0) (sym low-is) (waits_above (last_cut past) before e above waits)) in
            rw (le, waits, lt, waits_not_dropped cut before later e le waits) refl
        | inr gone ↦ elim (cases_Bool (nat_lt low w.stamp.0)) [
          | inr low_stamp ↦ rw (le, gone, low_stamp) refl
          | inl lt ↦ elim (cases_Bool (is_dropped_in (before ++ Form cut ∷ later) e)) [
            | inl dropped ↦ rw (le, gone, lt, dropped) refl
            | inr kept ↦
                let none = none_forms n past before e legal (subst (λ c. c < w.stamp.0) low-is (ltb-true low w.stamp.0 lt)) in
                absurd (clash (still_waits before e) (not_dropped_waits cut before later e none kept) gone)
          ]
        ]
      ]
    ]

-- ---- what one event carries

same_on_writes : (p q : CarriedEntry → Bool) (k low high : ℕ) (c : Write → Bool) (writes : List Write) → ((w : Write) → low < w.stamp.0 → p (carried_entry k w) ≡ q (carried_entry k w)) → are_in low high writes ≡ true
    → filter p (map (carried_entry k) (filter c writes)) ≡ filter q (map (carried_entry k) (filter c writes))
same_on_writes p q k low high c [] same e = refl
same_on_writes p q k low high c (w ∷ writes) same e =
    let parts = and_parts (nat_lt low w.stamp.0 && nat_le w.stamp.0 high) (are_in low high writes) e in
    let lt = ltb-true low w.stamp.0 (and_parts (nat_lt low w.stamp.0) (nat_le w.stamp.0 high) parts.0).0 in
    with_one (c w) (p (carried_entry k w)) (q (carried_entry k w)) refl refl (same w lt) (same_on_writes p q k low high c writes same parts.1)
  where
    with_one : (t a b : Bool) → p (carried_entry k w) ≡ a → q (carried_entry k w) ≡ b → a ≡ b → filter p (map (carried_entry k) (filter c writes)) ≡ filter q (map (carried_entry k) (filter c writes))
        → filter p (map (carried_entry k) (cond t (w ∷ filter c writes) (filter c writes))) ≡ filter q (map (carried_entry k) (cond t (w ∷ filter c writes) (filter c writes)))
    with_one false a b pa qb ab h = h
    with_one true true true pa qb ab h = rw (pa, qb, h) refl
    with_one true false false pa qb ab h = rw (pa, qb, h) refl
    with_one true true false pa qb ab h = absurd cc
    with_one true false true pa qb ab h = absurd cc

none_on_writes : (p : CarriedEntry → Bool) (k low : ℕ) (c : Write → Bool) (writes : List Write) → ((w : Write) → low < w.stamp.0 → p (carried_entry k w) ≡ false) → list_all (λ w. nat_lt low w.stamp.0) writes ≡ true
    → filter p (map (carried_entry k) (filter c writes)) ≡ []
none_on_writes p k low c [] none e = refl
none_on_writes p k low c (w ∷ writes) none e =
    let parts = and_parts (nat_lt low w.stamp.0) (list_all (λ w. nat_lt low w.stamp.0) writes) e in
    with_one (c w) (none w (ltb-true low w.stamp.0 parts.0)) (none_on_writes p k low c writes none parts.1)
  where
    with_one : (t : Bool) → p (carried_entry k w) ≡ false → filter p (map (carried_entry k) (filter c writes)) ≡ [] → filter p (map (carried_entry k) (cond t (w ∷ filter c writes) (filter c writes))) ≡ []
    with_one false is h = h
    with_one true is h = rw is h

-- ---- the two lists

is_write : CarriedEntry → Bool
is_write e = not (is_copy e)

same_carried : (n cut low : ℕ) (past before later : List Event) (x : Event) → is_legal_next n past x ≡ true → are_legal n (past ++ x ∷ []) before ≡ true
    → Kept n past → low ≡ last_cut_from (last_cut (past ++ x ∷ [])) before
    → filter (in_group cut before) (carried_by past x) ≡ filter (λ e. is_between low cut e && is_kept (before ++ Form cut ∷ later) e) (carried_by past x)
same_carried n cut low past before later (Join b) legal rest kept low-is =
    let j = joins n past b legal in
    let above = floor_above n b.control past kept j.tells.control j.tells.unbroken in
    same_on_writes (in_group cut before) (λ e. is_between low cut e && is_kept (before ++ Form cut ∷ later) e) b.control (floor b.control past) b.upto.0 (is_write_carried past b.control) b.writes
    (λ w lt. same_test n cut low (past ++ Join b ∷ []) before later b.control w rest low-is (subst (λ c. c < w.stamp.0) (sym (cut_snoc past (Join b))) (omega (arith, above, lt)))) j.within
same_carried n cut low past before later (Copied k v y s) legal rest kept low-is = rw (and-false (nat_lt low s && nat_le s cut)) refl
same_carried n cut low past before later (Break k u) legal rest kept low-is = refl
same_carried n cut low past before later (Raise k u) legal rest kept low-is = refl
same_carried n cut low past before later (Form c) legal rest kept low-is = refl
same_carried n cut low past before later (Drop k v all) legal rest kept low-is = refl
same_carried n cut low past before later (Carry k v tracks) legal rest kept low-is = refl
same_carried n cut low past before later (Resume k v) legal rest kept low-is = refl
same_carried n cut low past before later (Forget k v) legal rest kept low-is = refl

-- nothing that is carried later lies at or below the cut
none_carried : (low cut : ℕ) (past later : List Event) (x : Event) → joins_above cut x ≡ true → filter (λ e. is_between low cut e && is_kept later e) (carried_by past x) ≡ []
none_carried low cut past later (Join b) above =
    none_on_writes (λ e. is_between low cut e && is_kept later e) b.control cut (is_write_carried past b.control) b.writes
    (λ w lt. rw (lt-leb w.stamp.0 cut lt, and-false (nat_lt low w.stamp.0)) refl) above
none_carried low cut past later (Copied k v y s) above = rw (and-false (nat_lt low s && nat_le s cut)) refl
none_carried low cut past later (Break k u) above = refl
none_carried low cut past later (Raise k u) above = refl
none_carried low cut past later (Form c) above = refl
none_carried low cut past later (Drop k v all) above = refl
none_carried low cut past later (Carry k v tracks) above = refl
none_carried low cut past later (Resume k v) above = refl
none_carried low cut past later (Forget k v) above = refl

none_kept : (low cut : ℕ) (past later : List Event) → list_all (joins_above cut) later ≡ true → filter (is_between low cut) (kept_writes past later) ≡ []
none_kept low cut past [] above = refl
none_kept low cut past (x ∷ later) above =
    let parts = and_parts (joins_above cut x) (list_all (joins_above cut) later) above in
    filter-append (is_between low cut) (filter (is_kept later) (carried_by past x)) (kept_writes (past ++ x ∷ []) later)
    ∙ ap (λ (t : List CarriedEntry). t ++ filter (is_between low cut) (kept_writes (past ++ x ∷ []) later)) (filter_both (is_between low cut) (is_kept later) (carried_by past x) ∙ none_carried low cut past later x parts.0)
    ∙ none_kept low cut (past ++ x ∷ []) later parts.1

group_is : (n cut low : ℕ) (past before later : List Event) → are_legal n past before ≡ true → list_all (joins_above cut) later ≡ true
    → Kept n past → low ≡ last_cut_from (last_cut past) before
    → filter is_write (filter (λ e. nat_le e.stamp cut) (waiting_in past before)) ≡ filter (is_between low cut) (kept_writes past (before ++ Form cut ∷ later))
unfolding is_write
group_is n cut low past [] later legal above kept low-is = sym (none_kept low cut (past ++ Form cut ∷ []) later above)
group_is n cut low past (x ∷ before) later legal above kept low-is =
    let parts = and_parts (is_legal_next n past x) (are_legal n (past ++ x ∷ []) before) legal in
    let low-next : low ≡ last_cut_from (last_cut (past ++ x ∷ [])) before = low-is ∙ ap (λ c. last_cut_from c before) (sym (cut_snoc past x)) in
    let carried = carried_by past x in
    let waits = waiting_in (past ++ x ∷ []) before in
    let later_writes = kept_writes (past ++ x ∷ []) (before ++ Form cut ∷ later) in
    let ih = group_is n cut low (past ++ x ∷ []) before later parts.1 above (kept_next n past x parts.0 kept) low-next in
    let left_inner = filter-append (λ (e : CarriedEntry). nat_le e.stamp cut) (filter (still_waits before) carried) waits in
    let left_outer = filter-append is_write (filter (λ (e : CarriedEntry). nat_le e.stamp cut) (filter (still_waits before) carried)) (filter (λ (e : CarriedEntry). nat_le e.stamp cut) waits) in
    let left_tests = ap (filter is_write) (filter_both (λ (e : CarriedEntry). nat_le e.stamp cut) (still_waits before) carried) ∙ filter_both is_write (λ (e : CarriedEntry). nat_le e.stamp cut && still_waits before e) carried in
    let right_outer = filter-append (is_between low cut) (filter (is_kept (before ++ Form cut ∷ later)) carried) later_writes in
    let right_tests = filter_both (is_between low cut) (is_kept (before ++ Form cut ∷ later)) carried in
    let same = same_carried n cut low past before later x parts.0 parts.1 kept low-next in
    ap (filter is_write) left_inner ∙ left_outer
    ∙ ap (λ (t : List CarriedEntry). t ++ filter is_write (filter (λ (e : CarriedEntry). nat_le e.stamp cut) waits)) (left_tests ∙ same ∙ sym right_tests)
    ∙ ap (λ (t : List CarriedEntry). filter (is_between low cut) (filter (is_kept (before ++ Form cut ∷ later)) carried) ++ t) ih
    ∙ sym right_outer

-- standing before, in numbers
is_before : (a b : CarriedEntry) → comes_before a b ≡ true → (a.stamp < b.stamp) ⊎ ((a.stamp ≡ b.stamp) × (a.control < b.control))
is_before a b e = elim (either_true (nat_lt a.stamp b.stamp) (nat_eq a.stamp b.stamp && nat_lt a.control b.control) e) [
  | inl lt ↦ inl (ltb-true a.stamp b.stamp lt)
  | inr both ↦
      let parts = and_parts (nat_eq a.stamp b.stamp) (nat_lt a.control b.control) both in
      inr (eqb-true a.stamp b.stamp parts.0, ltb-true a.control b.control parts.1)
]

-- not standing before, in numbers
record NotBefore (a b : CarriedEntry) : Type 0 where
  stamps : b.stamp ≤ a.stamp
  controls : a.stamp ≡ b.stamp → b.control ≤ a.control

not_before : (a b : CarriedEntry) → comes_before a b ≡ false → NotBefore a b
not_before a b e =
    let parts = or_parts (nat_lt a.stamp b.stamp) (nat_eq a.stamp b.stamp && nat_lt a.control b.control) e in
    record {
      stamps = ltb-false a.stamp b.stamp parts.0;
      controls = λ same. elim (and_cases (nat_eq a.stamp b.stamp) (nat_lt a.control b.control) parts.1) [
        | inl other ↦ absurd (eqb-false a.stamp b.stamp other same)
        | inr ge ↦ ltb-false a.control b.control ge
      ];
    }

stands_not : (a b : CarriedEntry) → NotBefore a b → comes_before a b ≡ false
stands_not a b h = elim (cases_Bool (nat_eq a.stamp b.stamp)) [
  | inl same ↦ or_from (nat_lt a.stamp b.stamp) (nat_eq a.stamp b.stamp && nat_lt a.control b.control) (le-ltb a.stamp b.stamp h.stamps)
      (and_right (nat_eq a.stamp b.stamp) (nat_lt a.control b.control) (le-ltb a.control b.control (h.controls (eqb-true a.stamp b.stamp same))))
  | inr other ↦ or_from (nat_lt a.stamp b.stamp) (nat_eq a.stamp b.stamp && nat_lt a.control b.control) (le-ltb a.stamp b.stamp h.stamps)
      (and_left (nat_eq a.stamp b.stamp) (nat_lt a.control b.control) other)
]

pub before_order : IsOrder comes_before
before_order = record {
  one_way = λ a b e. stands_not b a (elim (is_before a b e) [
    | inl lt ↦ record { stamps = omega arith; controls = λ same. omega arith }
    | inr both ↦ record { stamps = omega arith; controls = λ same. omega arith }
  ]);
  through = λ a b c bc ab. let x = not_before b c bc in let y = not_before a b ab in stands_not a c (record {
    stamps = omega (arith, x.stamps, y.stamps);
    controls = λ same. omega (arith, x.controls (omega (arith, x.stamps, y.stamps)), y.controls (omega (arith, x.stamps, y.stamps)));
  });
}

pub complete : GroupsAreComplete
unfolding is_write
complete n before later cut legal =
    let front = legal_front n [] before (Form cut ∷ later) legal in
    filter_order comes_before before_order is_write (filter (λ e. nat_le e.stamp cut) (waiting_in [] before))
    ∙ ap (in_order comes_before) (group_is n cut (last_cut before) [] before later front (no_late n before later cut legal) (kept_first n) refl)
