-- What becomes of a controller's carried entries: a form takes the first of them, and a drop takes out others.
use Rattle.std.proofs.Common.{inl, inr, ◌≡◌, ℕ, ◌<◌, Bool, true, false, not, cond, nat_le, ◌&&◌, ◌||◌, List, [], ◌∷◌, ◌++◌, refl, sym, ap, subst, ◌∙◌, append_assoc, append-nil, arith}
use Rattle.std.specs.Prelude.{filter}
use Rattle.std.proofs.lemmas.Bool.{and_parts, cases_Bool, leb-false, lt-leb}
use Rattle.std.proofs.lemmas.List.Elements.{filter-append, filter_agree}
use Rattle.xrc_edge.specs.Order.{in_order}
use Rattle.xrc_edge.proofs.OrderLaws.{order_stays}
use Rattle.xrc_edge.proofs.Positions.{filter_order}
use Rattle.cut_core.specs.Events.{Event, floor}
use Rattle.cut_core.specs.Events.Event.{Join, Copied, Break, Raise, Form, Drop, Carry, Resume, Forget}
use Rattle.cut_core.specs.Groups.{CarriedEntry, carried_by, forms, drops, waiting_in, comes_before, group}
use Rattle.cut_core.specs.LegalHistories.{is_legal_next, are_legal}
use Rattle.cut_core.specs.Cuts.{is_dropped_in}
use Rattle.cut_core.specs.Fates.{is_of_control, group_by, formed_in, kept_in, EachOnce}
use Rattle.cut_core.proofs.Filters.{filter_both, filter_swap}
use Rattle.cut_core.proofs.Ends.{stays, waiting_snoc}
use Rattle.cut_core.proofs.Kept.{Kept, kept_first, kept_next}
use Rattle.cut_core.proofs.Rising.{Rises, IsRising, rises_order}
use Rattle.cut_core.proofs.Complete.{before_order}

-- ---- a form takes the first of the entries

-- entries above the cut: none is taken
all_above : (k low high cut : ℕ) (d : CarriedEntry → Bool) (entries : List CarriedEntry) → cut < low → Rises k low high entries
    → (filter (λ e. nat_le e.stamp cut) entries ≡ []) × (filter (λ e. d e && not (nat_le e.stamp cut)) entries ≡ filter (λ e. nat_le e.stamp cut || d e) entries)
all_above k low high cut d [] lt r = (refl, refl)
all_above k low high cut d (e ∷ entries) lt r =
    let is : nat_le e.stamp cut ≡ false = lt-leb e.stamp cut (omega (arith, lt, r.1.0)) in
    let rest = all_above k e.stamp high cut d entries (omega (arith, lt, r.1.0)) r.1.1.1 in
    (rw is rest.0, rw is (kept (d e) rest.1))
  where
    kept : (t : Bool) → filter (λ e. d e && not (nat_le e.stamp cut)) entries ≡ filter (λ e. nat_le e.stamp cut || d e) entries
        → cond (t && true) (e ∷ filter (λ e. d e && not (nat_le e.stamp cut)) entries) (filter (λ e. d e && not (nat_le e.stamp cut)) entries)
        ≡ cond t (e ∷ filter (λ e. nat_le e.stamp cut || d e) entries) (filter (λ e. nat_le e.stamp cut || d e) entries)
    kept true h = ap (λ es. e ∷ es) h
    kept false h = h

first_taken : (k low high cut : ℕ) (d : CarriedEntry → Bool) (entries : List CarriedEntry) → Rises k low high entries
    → filter (λ e. nat_le e.stamp cut) entries ++ filter (λ e. d e && not (nat_le e.stamp cut)) entries ≡ filter (λ e. nat_le e.stamp cut || d e) entries
first_taken k low high cut d [] r = refl
first_taken k low high cut d (e ∷ entries) r = elim (cases_Bool (nat_le e.stamp cut)) [
  | inl le ↦ rw le (taken (d e) (first_taken k e.stamp high cut d entries r.1.1.1))
  | inr more ↦
      let all = all_above k e.stamp high cut d (e ∷ entries) (leb-false e.stamp cut more) (r.0, (omega arith, (r.1.1.0, r.1.1.1))) in
      rw (all.0, all.1) refl
]
  where
    taken : (t : Bool) → filter (λ e. nat_le e.stamp cut) entries ++ filter (λ e. d e && not (nat_le e.stamp cut)) entries ≡ filter (λ e. nat_le e.stamp cut || d e) entries
        → (e ∷ filter (λ e. nat_le e.stamp cut) entries) ++ cond (t && false) (e ∷ filter (λ e. d e && not (nat_le e.stamp cut)) entries) (filter (λ e. d e && not (nat_le e.stamp cut)) entries)
        ≡ e ∷ filter (λ e. nat_le e.stamp cut || d e) entries
    taken true h = ap (λ es. e ∷ es) h
    taken false h = ap (λ es. e ∷ es) h

-- ---- one more event

-- the controller's entries that later ones don't drop
abbrev lasts : (k : ℕ) → List Event → CarriedEntry → Bool
lasts k later e = is_of_control k e && not (is_dropped_in later e)

quiet_test : (a d r : Bool) → ((a && not r) && (not false && not d)) ≡ (a && not (d || (not false && r)))
quiet_test true true true = refl
quiet_test true true false = refl
quiet_test true false true = refl
quiet_test true false false = refl
quiet_test false d r = refl

-- an event that forms nothing: what it drops is dropped
quiet : (k : ℕ) (y : Event) (later : List Event) (w : List CarriedEntry) → ((e : CarriedEntry) → forms e y ≡ false) → filter (lasts k later) (filter (stays y) w) ≡ filter (lasts k (y ∷ later)) w
quiet k y later w none =
    filter_both (lasts k later) (stays y) w
    ∙ filter_agree (λ e. lasts k later e && stays y e) (lasts k (y ∷ later)) (λ e. rw (none e) (quiet_test (is_of_control k e) (drops e y) (is_dropped_in later e))) w

form_left : (a f r : Bool) → ((a && not r) && (not f && true)) ≡ ((not r && not f) && a)
form_left true f true = refl
form_left true true false = refl
form_left true false false = refl
form_left false f true = refl
form_left false true false = refl
form_left false false false = refl

form_right : (a f r : Bool) → (a && not (false || (not f && r))) ≡ ((f || not r) && a)
form_right true true r = refl
form_right true false true = refl
form_right true false false = refl
form_right false true r = refl
form_right false false true = refl
form_right false false false = refl

-- a form: its group is the first of the controller's entries, and the others wait
formed : (k c : ℕ) (past later : List Event) → IsRising k past
    → filter (is_of_control k) (group past c) ++ filter (lasts k later) (filter (stays (Form c)) (waiting_in [] past)) ≡ filter (lasts k (Form c ∷ later)) (waiting_in [] past)
formed k c past later r =
    let w = waiting_in [] past in
    let upto : CarriedEntry → Bool = λ e. nat_le e.stamp c in
    let kept : CarriedEntry → Bool = λ e. not (is_dropped_in later e) in
    let own = filter (is_of_control k) w in
    let first : filter (is_of_control k) (group past c) ≡ filter upto own =
    filter_order comes_before before_order (is_of_control k) (filter upto w) ∙ ap (in_order comes_before) (filter_swap (is_of_control k) upto w)
    ∙ sym (filter_order comes_before before_order upto own) ∙ ap (filter upto) (order_stays comes_before own (rises_order k 0 (floor k past) own r)) in
    let left : filter (lasts k later) (filter (stays (Form c)) w) ≡ filter (λ e. kept e && not (upto e)) own =
    filter_both (lasts k later) (stays (Form c)) w
    ∙ filter_agree (λ e. lasts k later e && stays (Form c) e) (λ e. (kept e && not (upto e)) && is_of_control k e) (λ e. form_left (is_of_control k e) (upto e) (is_dropped_in later e)) w
    ∙ sym (filter_both (λ e. kept e && not (upto e)) (is_of_control k) w) in
    let right : filter (lasts k (Form c ∷ later)) w ≡ filter (λ e. upto e || kept e) own =
    filter_agree (lasts k (Form c ∷ later)) (λ e. (upto e || kept e) && is_of_control k e) (λ e. form_right (is_of_control k e) (upto e) (is_dropped_in later e)) w
    ∙ sym (filter_both (λ e. upto e || kept e) (is_of_control k) w) in
    rw (first, left, right) (first_taken k 0 (floor k past) c kept own r)

one_more : (k : ℕ) (past later : List Event) (y : Event) → IsRising k past
    → filter (is_of_control k) (group_by past y) ++ filter (lasts k later) (filter (stays y) (waiting_in [] past)) ≡ filter (lasts k (y ∷ later)) (waiting_in [] past)
one_more k past later (Form c) r = formed k c past later r
one_more k past later (Join b) r = quiet k (Join b) later (waiting_in [] past) (λ e. refl)
one_more k past later (Copied j v x s) r = quiet k (Copied j v x s) later (waiting_in [] past) (λ e. refl)
one_more k past later (Break j u) r = quiet k (Break j u) later (waiting_in [] past) (λ e. refl)
one_more k past later (Raise j u) r = quiet k (Raise j u) later (waiting_in [] past) (λ e. refl)
one_more k past later (Drop j v all) r = quiet k (Drop j v all) later (waiting_in [] past) (λ e. refl)
one_more k past later (Carry j v tracks) r = quiet k (Carry j v tracks) later (waiting_in [] past) (λ e. refl)
one_more k past later (Resume j v) r = quiet k (Resume j v) later (waiting_in [] past) (λ e. refl)
one_more k past later (Forget j v) r = quiet k (Forget j v) later (waiting_in [] past) (λ e. refl)

-- ---- all later events

-- From a place on: what waits there and what is carried later, without what is dropped, is what is formed later and what waits in the end.
from_place : (n k : ℕ) (past later : List Event) → Kept n past → are_legal n past later ≡ true
    → formed_in k past later ++ filter (is_of_control k) (waiting_in [] (past ++ later)) ≡ filter (lasts k later) (waiting_in [] past) ++ kept_in k past later
from_place n k past [] kept legal =
    rw (append-nil past, filter_agree (lasts k []) (is_of_control k) (λ e. and_all (is_of_control k e)) (waiting_in [] past), append-nil (filter (is_of_control k) (waiting_in [] past))) refl
  where
    and_all : (a : Bool) → (a && true) ≡ a
    and_all true = refl
    and_all false = refl
from_place n k past (y ∷ later) kept legal =
    let parts = and_parts (is_legal_next n past y) (are_legal n (past ++ y ∷ []) later) legal in
    let next = from_place n k (past ++ y ∷ []) later (kept_next n past y parts.0 kept) parts.1 in
    let w = waiting_in [] past in
    let g = filter (is_of_control k) (group_by past y) in
    let left = filter (lasts k later) (filter (stays y) w) in
    let new = filter (lasts k later) (carried_by past y) in
    let rest = kept_in k (past ++ y ∷ []) later in
    let split : filter (lasts k later) (waiting_in [] (past ++ y ∷ [])) ≡ left ++ new = ap (filter (lasts k later)) (waiting_snoc [] past y) ∙ filter-append (lasts k later) (filter (stays y) w) (carried_by past y) in
    append_assoc g (formed_in k (past ++ y ∷ []) later) (filter (is_of_control k) (waiting_in [] (past ++ y ∷ later)))
    ∙ ap (λ es. g ++ es) (subst (λ p. formed_in k (past ++ y ∷ []) later ++ filter (is_of_control k) (waiting_in [] p) ≡ filter (lasts k later) (waiting_in [] (past ++ y ∷ [])) ++ rest) (append_assoc past (y ∷ []) later) next
    ∙ ap (λ es. es ++ rest) split)
    ∙ regroup g left new rest
    ∙ ap (λ es. es ++ (new ++ rest)) (one_more k past later y (kept.rises k))
  where
    regroup : (a b c d : List CarriedEntry) → a ++ ((b ++ c) ++ d) ≡ (a ++ b) ++ (c ++ d)
    regroup a b c d = ap (λ es. a ++ es) (append_assoc b c d) ∙ sym (append_assoc a b (c ++ d))

pub each_once : EachOnce
each_once n k past legal = from_place n k [] past (kept_first n) legal
