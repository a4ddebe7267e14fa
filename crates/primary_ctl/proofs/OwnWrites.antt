-- For a track only the controller's own writes count, in their order.
use Rattle.std.proofs.Common.{◌≡◌, ℕ, zero, suc, ◌+◌, ◌<◌, ◌≤◌, Bool, true, false, not, cond, ◌&&◌, List, [], ◌∷◌, ◌++◌, map, Some, refl, ap, ◌∙◌, nat_lt, nat_le, nat_eq, eq-eqb, arith, inl, inr, append-nil}
use Rattle.std.specs.Prelude.{filter, slice_get, IsTrue}
use Rattle.std.proofs.lemmas.Bool.{ltb-true, ltb-false, le-ltb, leb-true, eqb-true, ne_eqb, cases_Bool}
use Rattle.ckd_track.specs.declared.rec.Rec.{Rec}
use Rattle.ckd_track.specs.declared.write.Write.{Write}
use Rattle.write_trace.specs.declared.trace.Trace.{Trace}
use Rattle.write_trace.specs.Writes.{writes_of}
use Rattle.xrc_edge.specs.Order.{in_order, is_in_order}
use Rattle.primary_ctl.specs.States.{base_in, is_on, after_writes}
use Rattle.primary_ctl.specs.Primaries.{ControlWrite, write_of_control, all_writes, is_written_earlier, is_on_track, base_track, none_falls, primary}
use Rattle.std.proofs.lemmas.List.Elements.{filter-append}
use Rattle.xrc_edge.proofs.OrderLaws.{IsOrder, none_below, order_stays}
use Rattle.xrc_edge.proofs.Positions.{none_below_filter, filter_order}
use Rattle.primary_ctl.proofs.Filters.{both_true, and_true, is_not, filter_both}
use Rattle.ckd_track.specs.Writes.{writes_never_fall}

earlier_order : IsOrder is_written_earlier
earlier_order = record {
  one_way = λ a b is. le-ltb b.write.stamp.0 a.write.stamp.0 (omega (arith, ltb-true a.write.stamp.0 b.write.stamp.0 is));
  through = λ a b c bc ab. le-ltb a.write.stamp.0 c.write.stamp.0 (omega (arith, ltb-false b.write.stamp.0 c.write.stamp.0 bc, ltb-false a.write.stamp.0 b.write.stamp.0 ab));
}

-- the test of the law: a write on the track, up to the time
abbrev counts : (control volume track time : ℕ) → ControlWrite → Bool
counts control volume track time w = is_on_track control volume track w && nat_le w.write.stamp.0 time

-- the same of a controller's own write
abbrev own : (volume track time : ℕ) → Write → Bool
own volume track time w = is_on volume track w && nat_le w.stamp.0 time

-- a write of another controller doesn't count
other_control : (control volume track time j : ℕ) (w : Write) → nat_eq j control ≡ false → counts control volume track time (write_of_control j w) ≡ false
other_control control volume track time j w other = rw other refl

none_of : (control volume track time j : ℕ) (writes : List Write) → nat_eq j control ≡ false → filter (counts control volume track time) (map (write_of_control j) writes) ≡ []
none_of control volume track time j [] other = refl
none_of control volume track time j (w ∷ writes) other = rw (other_control control volume track time j w other) (none_of control volume track time j writes other)

none_later : (control volume track time j : ℕ) (traces : List Trace) → control < j → filter (counts control volume track time) (all_writes j traces) ≡ []
none_later control volume track time j [] above = refl
none_later control volume track time j (t ∷ traces) above =
    rw (
      filter-append (counts control volume track time) (map (write_of_control j) (writes_of t.entries)) (all_writes (j + 1) traces),
      none_of control volume track time j (writes_of t.entries) (eqb-false-of j control above),
    )
    (none_later control volume track time (j + 1) traces (omega arith))
  where
    eqb-false-of : (a b : ℕ) → b < a → nat_eq a b ≡ false
    eqb-false-of a b lt = ne_eqb a b (λ e. omega arith)

-- ---- the controller's own writes are those that count

same_control : (control volume track time : ℕ) (w : Write) → counts control volume track time (write_of_control control w) ≡ own volume track time w
same_control control volume track time w = rw (eq-eqb control control refl) refl

own_of : (control volume track time : ℕ) (writes : List Write) → filter (counts control volume track time) (map (write_of_control control) writes) ≡ map (write_of_control control) (filter (own volume track time) writes)
own_of control volume track time [] = refl
own_of control volume track time (w ∷ writes) =
    ap (λ b. cond b (write_of_control control w ∷ filter (counts control volume track time) (map (write_of_control control) writes)) (filter (counts control volume track time) (map (write_of_control control) writes))) (same_control control volume track time w)
    ∙ choose (own volume track time w) (own_of control volume track time writes)
  where
    choose : (b : Bool) → filter (counts control volume track time) (map (write_of_control control) writes) ≡ map (write_of_control control) (filter (own volume track time) writes)
        → cond b (write_of_control control w ∷ filter (counts control volume track time) (map (write_of_control control) writes)) (filter (counts control volume track time) (map (write_of_control control) writes))
        ≡ map (write_of_control control) (cond b (w ∷ filter (own volume track time) writes) (filter (own volume track time) writes))
    choose true h = ap (λ (t : List ControlWrite). write_of_control control w ∷ t) h
    choose false h = h

-- the trace at a place of a list
first_is : (s t : Trace) (traces : List Trace) → slice_get (s ∷ traces) 0 ≡ Some t → s ≡ t
first_is s t traces at = cc

own_are_all : (place j control volume track time : ℕ) (traces : List Trace) (t : Trace) → control ≡ j + place → slice_get traces place ≡ Some t
    → filter (counts control volume track time) (all_writes j traces) ≡ map (write_of_control control) (filter (own volume track time) (writes_of t.entries))
own_are_all place j control volume track time [] t is at = absurd cc
own_are_all zero j control volume track time (s ∷ traces) t is at =
    let p = counts control volume track time in
    let same : j ≡ control = omega (arith, is) in
    let rest = none_later control volume track time (j + 1) traces (omega (arith, is)) in
    filter-append p (map (write_of_control j) (writes_of s.entries)) (all_writes (j + 1) traces)
    ∙ ap (λ (ws : List ControlWrite). filter p (map (write_of_control j) (writes_of s.entries)) ++ ws) rest ∙ append-nil (filter p (map (write_of_control j) (writes_of s.entries)))
    ∙ ap (λ n. filter p (map (write_of_control n) (writes_of s.entries))) same
    ∙ own_of control volume track time (writes_of s.entries)
    ∙ ap (λ (u : Trace). map (write_of_control control) (filter (own volume track time) (writes_of u.entries))) (first_is s t traces at)
own_are_all (suc place) j control volume track time (s ∷ traces) t is at =
    let p = counts control volume track time in
    let none = none_of control volume track time j (writes_of s.entries) (ne_eqb j control (λ e. omega (arith, is))) in
    filter-append p (map (write_of_control j) (writes_of s.entries)) (all_writes (j + 1) traces)
    ∙ ap (λ (ws : List ControlWrite). ws ++ filter p (all_writes (j + 1) traces)) none
    ∙ own_are_all place (j + 1) control volume track time traces t (omega (arith, is)) at

plain_again : (control : ℕ) (writes : List Write) → map (λ (w : ControlWrite). w.write) (map (write_of_control control) writes) ≡ writes
plain_again control [] = refl
plain_again control (w ∷ writes) = ap (λ (t : List Write). w ∷ t) (plain_again control writes)

base_is : (place volume track : ℕ) (traces : List Trace) (t : Trace) → slice_get traces place ≡ Some t → base_track traces place volume track ≡ base_in t.header.base volume track
base_is place volume track [] t at = absurd cc
base_is zero volume track (s ∷ traces) t at = ap (λ (u : Trace). base_in u.header.base volume track) (first_is s t traces at)
base_is (suc place) volume track (s ∷ traces) t at = base_is place volume track traces t at

-- ---- one controller's writes are in order

all_from : (low : ℕ) (j : ℕ) (w : Write) (writes : List Write) → w.stamp.0 ≤ low → writes_never_fall low writes ≡ true → none_below is_written_earlier (write_of_control j w) (map (write_of_control j) writes) ≡ true
all_from low j w [] le e = refl
all_from low j w (v ∷ writes) le e =
    let parts = both_true (nat_le low v.stamp.0) (writes_never_fall v.stamp.0 writes) e in
    let above : low ≤ v.stamp.0 = leb-true low v.stamp.0 parts.0 in
    and_true (not (nat_lt v.stamp.0 w.stamp.0)) (none_below is_written_earlier (write_of_control j w) (map (write_of_control j) writes))
    (is_not (nat_lt v.stamp.0 w.stamp.0) (le-ltb v.stamp.0 w.stamp.0 (omega arith))) (all_from v.stamp.0 j w writes (omega arith) parts.1)

own_in_order : (p : ControlWrite → Bool) (j last : ℕ) (writes : List Write) → writes_never_fall last writes ≡ true → is_in_order is_written_earlier (filter p (map (write_of_control j) writes)) ≡ true
own_in_order p j last [] e = refl
own_in_order p j last (w ∷ writes) e =
    let parts = both_true (nat_le last w.stamp.0) (writes_never_fall w.stamp.0 writes) e in
    choose (p (write_of_control j w)) (own_in_order p j w.stamp.0 writes parts.1)
    (none_below_filter is_written_earlier p (write_of_control j w) (map (write_of_control j) writes) (all_from w.stamp.0 j w writes (omega arith) parts.1))
  where
    choose : (t : Bool) → is_in_order is_written_earlier (filter p (map (write_of_control j) writes)) ≡ true → none_below is_written_earlier (write_of_control j w) (filter p (map (write_of_control j) writes)) ≡ true
        → is_in_order is_written_earlier (cond t (write_of_control j w ∷ filter p (map (write_of_control j) writes)) (filter p (map (write_of_control j) writes))) ≡ true
    choose true h first = and_true (none_below is_written_earlier (write_of_control j w) (filter p (map (write_of_control j) writes))) (is_in_order is_written_earlier (filter p (map (write_of_control j) writes))) first h
    choose false h first = h

counted_in_order : (control volume track time j : ℕ) (traces : List Trace) → none_falls traces ≡ true
    → is_in_order is_written_earlier (filter (counts control volume track time) (all_writes j traces)) ≡ true
counted_in_order control volume track time j [] e = refl
counted_in_order control volume track time j (t ∷ traces) e =
    let p = counts control volume track time in
    let parts = both_true (writes_never_fall 0 (writes_of t.entries)) (none_falls traces) e in
    let split = filter-append p (map (write_of_control j) (writes_of t.entries)) (all_writes (j + 1) traces) in
    elim (cases_Bool (nat_eq j control)) [
      | inl same ↦
          let j-is : j ≡ control = eqb-true j control same in
          let rest = none_later control volume track time (j + 1) traces (omega arith) in
          rw (split, rest, append-nil (filter p (map (write_of_control j) (writes_of t.entries)))) (own_in_order p j 0 (writes_of t.entries) parts.0)
      | inr other ↦ rw (split, none_of control volume track time j (writes_of t.entries) other) (counted_in_order control volume track time (j + 1) traces parts.1)
    ]

-- Where no trace's stamps fall, only the controller's own writes count for its track, in their order.
pub own_writes : (traces : List Trace) (time control volume track : ℕ) (t : Trace) → IsTrue (none_falls traces) → slice_get traces control ≡ Some t →
    primary traces time control volume track ≡ after_writes (base_in t.header.base volume track) (filter (λ w. is_on volume track w && nat_le w.stamp.0 time) (writes_of t.entries))
own_writes traces time control volume track t fall at =
    let p = counts control volume track time in
    let all = all_writes 0 traces in
    let own_part = filter_order is_written_earlier earlier_order (is_on_track control volume track) (filter (λ w. nat_le w.write.stamp.0 time) all) in
    let both = filter_both (is_on_track control volume track) (λ w. nat_le w.write.stamp.0 time) all in
    let stays = order_stays is_written_earlier (filter p all) (counted_in_order control volume track time 0 traces fall) in
    let mine : filter p all ≡ map (write_of_control control) (filter (own volume track time) (writes_of t.entries)) = own_are_all control 0 control volume track time traces t (omega arith) at in
    ap (λ (ws : List ControlWrite). after_writes (base_track traces control volume track) (map (λ w. w.write) ws)) (own_part ∙ ap (in_order is_written_earlier) both ∙ stays ∙ mine)
    ∙ ap (λ (recs : List Rec). after_writes recs (map (λ w. w.write) (map (write_of_control control) (filter (own volume track time) (writes_of t.entries))))) (base_is control volume track traces t at)
    ∙ ap (after_writes (base_in t.header.base volume track)) (plain_again control (filter (own volume track time) (writes_of t.entries)))
