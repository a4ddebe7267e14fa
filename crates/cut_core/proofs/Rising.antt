-- A controller's waiting entries stand by their stamps, up to its floor.
use Rattle.std.proofs.Common.{inl, inr, ◌≡◌, ℕ, ◌≤◌, Bool, true, false, not, cond, nat_eq, nat_lt, nat_le, ◌&&◌, ◌||◌, List, [], ◌∷◌, ◌++◌, map, refl, ap, subst, ◌∙◌, arith}
use Rattle.std.specs.Prelude.{filter}
use Rattle.std.specs.List.{list_all}
use Rattle.std.proofs.lemmas.Bool.{and_parts, and_from, cases_Bool, eqb-true, eq-eqb, ltb-true, ltb-false, leb-true, le-ltb, not-true, not_from_false}
use Rattle.std.proofs.lemmas.List.Elements.{filter-append}
use Rattle.ckd_track.specs.declared.write.Write.{Write}
use Rattle.xrc_edge.specs.Order.{is_in_order}
use Rattle.cut_core.specs.Events.{Event, reported_upto, floor}
use Rattle.cut_core.specs.Events.Event.{Join, Copied, Break, Raise, Form, Drop, Carry, Resume, Forget}
use Rattle.cut_core.specs.Groups.{CarriedEntry, carried_entry, copied_entry, is_write_carried, carried_by, waiting_in, comes_before}
use Rattle.cut_core.specs.LegalHistories.{are_in, is_legal_next}
use Rattle.cut_core.specs.Fates.{is_of_control}
use Rattle.cut_core.proofs.Filters.{filter_swap}
use Rattle.cut_core.proofs.Legality.{joins, copies}
use Rattle.cut_core.proofs.Ends.{floor_snoc, stays, waiting_snoc}
use Rattle.ckd_track.specs.Writes.{is_earlier}

-- entries of the controller whose stamps don't fall, from `low` to `high`
abbrev pub Rises : (k low high : ℕ) → List CarriedEntry → Type 0
Rises k low high [] = Unit {0}
Rises k low high (e ∷ entries) = (e.control ≡ k) × ((low ≤ e.stamp) × ((e.stamp ≤ high) × Rises k e.stamp high entries))

rises_from : (k low above high : ℕ) (entries : List CarriedEntry) → low ≤ above → Rises k above high entries → Rises k low high entries
rises_from k low above high [] le r = tt
rises_from k low above high (e ∷ entries) le r = (r.0, (omega (arith, le, r.1.0), r.1.1))

rises_filter : (k low high : ℕ) (p : CarriedEntry → Bool) (entries : List CarriedEntry) → Rises k low high entries → Rises k low high (filter p entries)
rises_filter k low high p [] r = tt
rises_filter k low high p (e ∷ entries) r = choose (p e) (rises_filter k e.stamp high p entries r.1.1.1)
  where
    choose : (t : Bool) → Rises k e.stamp high (filter p entries) → Rises k low high (cond t (e ∷ filter p entries) (filter p entries))
    choose true rest = (r.0, (r.1.0, (r.1.1.0, rest)))
    choose false rest = rises_from k low e.stamp high (filter p entries) r.1.0 rest

rises_append : (k low mid high : ℕ) (xs ys : List CarriedEntry) → low ≤ mid → mid ≤ high → Rises k low mid xs → Rises k mid high ys → Rises k low high (xs ++ ys)
rises_append k low mid high [] ys le up r s = rises_from k low mid high ys le s
rises_append k low mid high (e ∷ xs) ys le up r s = (r.0, (r.1.0, (omega (arith, r.1.1.0, up), rises_append k e.stamp mid high xs ys r.1.1.0 up r.1.1.1 s)))

-- such entries are in order
none_before : (k high : ℕ) (a : CarriedEntry) (entries : List CarriedEntry) → a.control ≡ k → Rises k a.stamp high entries → list_all (λ b. not (comes_before b a)) entries ≡ true
none_before k high a [] is r = refl
none_before k high a (b ∷ entries) is r =
    let lt : nat_lt b.stamp a.stamp ≡ false = le-ltb b.stamp a.stamp r.1.0 in
    let not_under : nat_lt b.control a.control ≡ false = le-ltb b.control a.control (omega (arith, is, r.0)) in
    and_from (not (comes_before b a)) (list_all (λ b. not (comes_before b a)) entries) (rw (lt, not_under) (either (nat_eq b.stamp a.stamp)))
    (none_before k high a entries is (rises_from k a.stamp b.stamp high entries r.1.0 r.1.1.1))
  where
    either : (t : Bool) → not (false || (t && false)) ≡ true
    either true = refl
    either false = refl

pub rises_order : (k low high : ℕ) (entries : List CarriedEntry) → Rises k low high entries → is_in_order comes_before entries ≡ true
rises_order k low high [] r = refl
rises_order k low high (e ∷ entries) r =
    and_from (list_all (λ b. not (comes_before b e)) entries) (is_in_order comes_before entries) (none_before k high e entries r.0 r.1.1.1) (rises_order k e.stamp high entries r.1.1.1)

-- ---- what one event carries

-- no write of a batch is below a stamp
abbrev none_under : ℕ → List Write → Bool
none_under low writes = list_all (λ w. not (nat_lt w.stamp.0 low)) writes

writes_rise : (k low above high : ℕ) (c : Write → Bool) (writes : List Write) → are_in above high writes ≡ true → none_under low writes ≡ true → is_in_order is_earlier writes ≡ true
    → Rises k low high (filter (is_of_control k) (map (carried_entry k) (filter c writes)))
writes_rise k low above high c [] within under ordered = tt
writes_rise k low above high c (w ∷ writes) within under ordered =
    let inside = and_parts (nat_lt above w.stamp.0 && nat_le w.stamp.0 high) (are_in above high writes) within in
    let up = leb-true w.stamp.0 high (and_parts (nat_lt above w.stamp.0) (nat_le w.stamp.0 high) inside.0).1 in
    let le = ltb-false w.stamp.0 low (not-true (nat_lt w.stamp.0 low) (and_parts (not (nat_lt w.stamp.0 low)) (none_under low writes) under).0) in
    let rest = and_parts (none_under w.stamp.0 writes) (is_in_order is_earlier writes) ordered in
    choose (c w) le up (writes_rise k w.stamp.0 above high c writes inside.1 rest.0 rest.1)
  where
    choose : (t : Bool) → low ≤ w.stamp.0 → w.stamp.0 ≤ high → Rises k w.stamp.0 high (filter (is_of_control k) (map (carried_entry k) (filter c writes)))
        → Rises k low high (filter (is_of_control k) (map (carried_entry k) (cond t (w ∷ filter c writes) (filter c writes))))
    choose true le up rest = rw (eq-eqb k k refl) (refl, (le, (up, rest)))
    choose false le up rest = rises_from k low w.stamp.0 high (filter (is_of_control k) (map (carried_entry k) (filter c writes))) le rest

-- writes above the floor aren't below it
none_under_floor : (above high : ℕ) (writes : List Write) → are_in above high writes ≡ true → none_under above writes ≡ true
none_under_floor above high [] within = refl
none_under_floor above high (w ∷ writes) within =
    let inside = and_parts (nat_lt above w.stamp.0 && nat_le w.stamp.0 high) (are_in above high writes) within in
    let lt = ltb-true above w.stamp.0 (and_parts (nat_lt above w.stamp.0) (nat_le w.stamp.0 high) inside.0).0 in
    and_from (not (nat_lt w.stamp.0 above)) (none_under above writes)
    (not_from_false (nat_lt w.stamp.0 above) (le-ltb w.stamp.0 above (omega arith)))
    (none_under_floor above high writes inside.1)

others : (j k : ℕ) (writes : List Write) → nat_eq j k ≡ false → filter (is_of_control k) (map (carried_entry j) writes) ≡ []
others j k [] e = refl
others j k (w ∷ writes) e = rw e (others j k writes e)

carried_rise : (n k : ℕ) (past : List Event) (y : Event) → is_legal_next n past y ≡ true → Rises k (floor k past) (floor k (past ++ y ∷ [])) (filter (is_of_control k) (carried_by past y))
carried_rise n k past (Join b) legal =
    let j = b.control in
    let parts = joins n past b legal in
    elim (cases_Bool (nat_eq j k)) [
      | inr other ↦ rw (others j k (filter (is_write_carried past j) b.writes) other) tt
      | inl same ↦
          let is : j ≡ k = eqb-true j k same in
          let told : reported_upto j (Join b) ≡ b.upto.0 = rw (eq-eqb b.control b.control refl) refl in
          let top : floor j (past ++ Join b ∷ []) ≡ b.upto.0 = omega (arith, floor_snoc j past (Join b), told, parts.tells.up) in
          subst (λ i. Rises i (floor i past) (floor i (past ++ Join b ∷ [])) (filter (is_of_control i) (map (carried_entry j) (filter (is_write_carried past j) b.writes)))) is
          (rw top (writes_rise j (floor j past) (floor j past) b.upto.0 (is_write_carried past j) b.writes parts.within (none_under_floor (floor j past) b.upto.0 b.writes parts.within) parts.order))
    ]
carried_rise n k past (Copied j v x s) legal = copied (nat_eq j k) refl (copies n j v x s past legal).stamp
  where
    copied : (t : Bool) → nat_eq j k ≡ t → s ≡ floor j past → Rises k (floor k past) (floor k (past ++ Copied j v x s ∷ [])) (cond t (copied_entry j v x s ∷ []) [])
    copied false other is = tt
    copied true same is =
        let here : s ≡ floor k past = is ∙ ap (λ i. floor i past) (eqb-true j k same) in
        (eqb-true j k same, (omega (arith, here), (omega (arith, here, floor_snoc k past (Copied j v x s)), tt)))
carried_rise n k past (Break j u) legal = tt
carried_rise n k past (Raise j u) legal = tt
carried_rise n k past (Form c) legal = tt
carried_rise n k past (Drop j v all) legal = tt
carried_rise n k past (Carry j v tracks) legal = tt
carried_rise n k past (Resume j v) legal = tt
carried_rise n k past (Forget j v) legal = tt

-- ---- what waits

abbrev pub IsRising : (k : ℕ) → List Event → Type 0
IsRising k past = Rises k 0 (floor k past) (filter (is_of_control k) (waiting_in [] past))

pub rising_next : (n k : ℕ) (past : List Event) (y : Event) → is_legal_next n past y ≡ true → IsRising k past → IsRising k (past ++ y ∷ [])
rising_next n k past y legal r =
    let w = waiting_in [] past in
    let split = ap (filter (is_of_control k)) (waiting_snoc [] past y) ∙ filter-append (is_of_control k) (filter (stays y) w) (carried_by past y) in
    let le : floor k past ≤ floor k (past ++ y ∷ []) = omega (arith, floor_snoc k past y) in
    rw (split, filter_swap (is_of_control k) (stays y) w)
    (rises_append k 0 (floor k past) (floor k (past ++ y ∷ [])) (filter (stays y) (filter (is_of_control k) w)) (filter (is_of_control k) (carried_by past y)) (omega arith) le
    (rises_filter k 0 (floor k past) (stays y) (filter (is_of_control k) w) r) (carried_rise n k past y legal))
