-- A history's entries controller by controller, put in order, are its entries put in order.
use Rattle.std.proofs.Common.{◌≡◌, ℕ, zero, suc, ◌+◌, ◌<◌, ◌≤◌, Bool, true, false, cond, nat_eq, nat_lt, ◌&&◌, List, [], ◌∷◌, ◌++◌, length, get_or, inl, inr, refl, sym, ap, subst, ◌∙◌, append-nil, arith}
use Rattle.std.specs.Prelude.{◌==◌, nat_le, filter}
use Rattle.std.specs.List.{list_all, flat_map}
use Rattle.std.proofs.lemmas.Bool.{cases_Bool, cases_lt, and_parts, and_from, or_parts, or_right, eqb-true, eqb-false, eq-eqb, ltb-true, ltb-false, lt-ltb, ne_eqb}
use Rattle.std.proofs.lemmas.List.Elements.{filter-append}
use Rattle.tod_stamp.specs.declared.stamp.Stamp.{Stamp}
use Rattle.xrc_edge.specs.Order.{in_order}
use Rattle.xrc_edge.proofs.Apart.{order_apart}
use Rattle.pending_queue.specs.Entries.{is_due}
use Rattle.cut_core.specs.Groups.{CarriedEntry, comes_before}
use Rattle.cut_core.specs.Fates.{is_of_control}
use Rattle.cut_core.proofs.Complete.{before_order}
use Rattle.cut_core.proofs.Filters.{filter_both, filter_none, filter_swap}
use Rattle.group_state.specs.Controls.{ControlState, due_of}
use Rattle.group_state.proofs.SoundLaws.{all_kept}
use Rattle.group_state.specs.Histories.{AreSeen}
use Rattle.group_state.proofs.Seen.{seen_append, seen_filter}

-- Of two entries of different controllers one stands before the other.
entries_apart : (a b : CarriedEntry) → (a.control == b.control) ≡ false → comes_before a b ≡ false → comes_before b a ≡ true
entries_apart a b other ab =
    let parts = or_parts (nat_lt a.stamp b.stamp) (nat_eq a.stamp b.stamp && nat_lt a.control b.control) ab in
    let le = ltb-false a.stamp b.stamp parts.0 in
    elim (cases_Bool (nat_eq a.stamp b.stamp)) [
      | inr differs ↦
          let not_same = eqb-false a.stamp b.stamp differs in
          rw (lt-ltb b.stamp a.stamp (elim (cases_lt b.stamp a.stamp) [ inl lt ↦ lt | inr ge ↦ absurd (not_same (omega arith)) ])) refl
      | inl same ↦
          let is = eqb-true a.stamp b.stamp same in
          let least : nat_lt a.control b.control ≡ false = ap (λ t. t && nat_lt a.control b.control) (sym same) ∙ parts.1 in
          let not_same = eqb-false a.control b.control other in
          let under : b.control < a.control = elim (cases_lt b.control a.control) [ inl lt ↦ lt | inr ge ↦ absurd (not_same (omega (arith, ltb-false a.control b.control least))) ] in
          or_right (nat_lt b.stamp a.stamp) (nat_eq b.stamp a.stamp && nat_lt b.control a.control)
          (and_from (nat_eq b.stamp a.stamp) (nat_lt b.control a.control) (eq-eqb b.stamp a.stamp (sym is)) (lt-ltb b.control a.control under))
    ]

-- ---- controller by controller

-- the entries of so many controllers, from one on
abbrev pub by_control : (first n : ℕ) → List CarriedEntry → List CarriedEntry
by_control k zero es = []
by_control k (suc n) es = filter (is_of_control k) es ++ by_control (k + 1) n es

of_both : (j k : ℕ) (es : List CarriedEntry) → nat_eq k j ≡ false → filter (is_of_control j) (filter (is_of_control k) es) ≡ []
of_both j k es other = filter_both (is_of_control j) (is_of_control k) es ∙ filter_none (λ e. is_of_control j e && is_of_control k e) es (λ e. never e.control (nat_eq e.control j) refl)
  where
    never : (c : ℕ) (t : Bool) → nat_eq c j ≡ t → (t && nat_eq c k) ≡ false
    never c false is = refl
    never c true is = ne_eqb c k (λ same. eqb-false k j other (sym same ∙ eqb-true c j is))

of_same : (j : ℕ) (es : List CarriedEntry) → filter (is_of_control j) (filter (is_of_control j) es) ≡ filter (is_of_control j) es
of_same j [] = refl
of_same j (e ∷ es) = choose (is_of_control j e) refl (of_same j es)
  where
    choose : (t : Bool) → is_of_control j e ≡ t → filter (is_of_control j) (filter (is_of_control j) es) ≡ filter (is_of_control j) es
        → filter (is_of_control j) (cond t (e ∷ filter (is_of_control j) es) (filter (is_of_control j) es)) ≡ cond t (e ∷ filter (is_of_control j) es) (filter (is_of_control j) es)
    choose true is h = rw (is, h) refl
    choose false is h = h

none_of : (j first n : ℕ) (es : List CarriedEntry) → ((k : ℕ) → first ≤ k → k < first + n → nat_eq k j ≡ false) → filter (is_of_control j) (by_control first n es) ≡ []
none_of j first zero es none = refl
none_of j first (suc n) es none =
    filter-append (is_of_control j) (filter (is_of_control first) es) (by_control (first + 1) n es)
    ∙ ap (λ (t : List CarriedEntry). t ++ filter (is_of_control j) (by_control (first + 1) n es)) (of_both j first es (none first (omega arith) (omega arith)))
    ∙ none_of j (first + 1) n es (λ k above below. none k (omega arith) (omega arith))

part_of : (j first n : ℕ) (es : List CarriedEntry) → first ≤ j → j < first + n → filter (is_of_control j) (by_control first n es) ≡ filter (is_of_control j) es
part_of j first zero es above below = absurd (omega arith)
part_of j first (suc n) es above below =
    filter-append (is_of_control j) (filter (is_of_control first) es) (by_control (first + 1) n es) ∙ elim (cases_Bool (nat_eq first j)) [
      | inl same ↦
          let is = eqb-true first j same in
          let here : filter (is_of_control j) (filter (is_of_control first) es) ≡ filter (is_of_control j) es = subst (λ k. filter (is_of_control j) (filter (is_of_control k) es) ≡ filter (is_of_control j) es) (sym is) (of_same j es) in
          let rest = none_of j (first + 1) n es (λ k up down. ne_eqb k j (λ e. omega arith)) in
          rw (here, rest) (append-nil (filter (is_of_control j) es))
      | inr other ↦
          let differs = eqb-false first j other in
          let more : first + 1 ≤ j = elim (cases_lt first j) [ inl lt ↦ omega arith | inr ge ↦ absurd (differs (omega arith)) ] in
          rw (of_both j first es other) (part_of j (first + 1) n es more (omega arith))
    ]

none_past : (j n : ℕ) (es : List CarriedEntry) → n ≤ j → list_all (λ e. nat_lt e.control n) es ≡ true → filter (is_of_control j) es ≡ []
none_past j n [] le all = refl
none_past j n (e ∷ es) le all =
    let parts = and_parts (nat_lt e.control n) (list_all (λ e. nat_lt e.control n) es) all in
    let lt = ltb-true e.control n parts.0 in
    rw (ne_eqb e.control j (λ is. omega arith)) (none_past j n es le parts.1)

alike : (n : ℕ) (es : List CarriedEntry) → list_all (λ e. nat_lt e.control n) es ≡ true → (j : ℕ) → filter (is_of_control j) (by_control 0 n es) ≡ filter (is_of_control j) es
alike n es all j = elim (cases_lt j n) [
  | inl lt ↦ part_of j 0 n es (omega arith) (omega arith)
  | inr ge ↦ none_of j 0 n es (λ k up down. ne_eqb k j (λ e. omega arith)) ∙ sym (none_past j n es ge all)
]

pub order_by_control : (n : ℕ) (es : List CarriedEntry) → list_all (λ e. nat_lt e.control n) es ≡ true → in_order comes_before (by_control 0 n es) ≡ in_order comes_before es
order_by_control n es all = order_apart comes_before before_order (λ e. e.control) entries_apart (by_control 0 n es) es (alike n es all)

-- ---- what is due of each controller

pub due_seen : (cut : Stamp) (entries : List CarriedEntry) (first : ℕ) (controls : List ControlState) (d : ControlState)
    → ((i : ℕ) → i < length controls → AreSeen (get_or controls i d).queue.waiting (filter (is_of_control (first + i)) entries))
    → AreSeen (flat_map (due_of cut) controls) (by_control first (length controls) (filter (λ e. nat_le e.stamp cut.0) entries))
due_seen cut entries first [] d seen = tt
due_seen cut entries first (c ∷ controls) d seen =
    let mine : AreSeen c.queue.waiting (filter (is_of_control first) entries) = subst (λ k. AreSeen c.queue.waiting (filter (is_of_control k) entries)) (omega arith) (seen 0 (omega arith)) in
    let due : AreSeen (due_of cut c) (filter (λ e. nat_le e.stamp cut.0) (filter (is_of_control first) entries)) =
    seen_filter (is_of_control first) (is_due cut) (λ e. nat_le e.stamp cut.0) (λ w e s is. rw s.stamp refl) c.queue.waiting (filter (is_of_control first) entries) (all_kept (is_of_control first) entries) mine in
    seen_append (due_of cut c) (flat_map (due_of cut) controls) (filter (is_of_control first) (filter (λ e. nat_le e.stamp cut.0) entries)) (by_control (first + 1) (length controls) (filter (λ e. nat_le e.stamp cut.0) entries))
    (subst (AreSeen (due_of cut c)) (filter_swap (λ e. nat_le e.stamp cut.0) (is_of_control first) entries) due)
    (due_seen cut entries (first + 1) controls d (λ i lt. subst (λ k. AreSeen (get_or controls i d).queue.waiting (filter (is_of_control k) entries)) (omega arith) (seen (suc i) (omega arith))))
