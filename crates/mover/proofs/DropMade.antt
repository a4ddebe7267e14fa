-- The mover's seat drops volumes, one after another.
use Rattle.std.proofs.Common.{◌≡◌, ℕ, zero, suc, ◌+◌, List, [], ◌∷◌, ◌++◌, get_or, map, take, Option, Some, None, refl, sym, ap, ◌∙◌, arith, append-nil, append_assoc, slice_get}
use Rattle.std.proofs.lemmas.Option.{same_Some}
use Rattle.pair_table.specs.declared.row.PairRow.{PairRow}
use Rattle.pair_table.specs.declared.row.PairState.{PairState}
use Rattle.turn_group.specs.Calls.{MadeCall, as_answer}
use Rattle.turn_group.specs.Notes.{KnownVolume}
use Rattle.turn_group.specs.Seats.{MoverSeatState}
use Rattle.mover.specs.Dropping.{MakesDrops, VolumeDrop, answer_of_drop, drop_of, drops_from, known_after_drops, owes_since}
use Rattle.mover.specs.Moves.{IsStillAt}

-- ---- no drop, one, and more

pub drops_none : (seat : MoverSeatState) → MakesDrops [] seat seat
drops_none seat = record { gained = []; calls_are = sym (append-nil seat.calls); are = refl; last = refl; known = refl }

answers_in_turn : (a b : List MadeCall) → map as_answer (a ++ b) ≡ map as_answer a ++ map as_answer b
answers_in_turn [] b = refl
answers_in_turn (c ∷ a) b = λ i. as_answer c ∷ answers_in_turn a b i

drops_in_turn : (a b : List VolumeDrop) → map answer_of_drop (a ++ b) ≡ map answer_of_drop a ++ map answer_of_drop b
drops_in_turn [] b = refl
drops_in_turn (d ∷ a) b = λ i. answer_of_drop d ∷ drops_in_turn a b i

known_in_turn : (a b : List VolumeDrop) (known : List (List KnownVolume)) → known_after_drops (a ++ b) known ≡ known_after_drops b (known_after_drops a known)
known_in_turn [] b known = refl
known_in_turn (d ∷ a) b known = known_in_turn a b _

pub drops_then : (a b : List VolumeDrop) (old mid new : MoverSeatState) → MakesDrops a old mid → MakesDrops b mid new → MakesDrops (a ++ b) old new
drops_then a b old mid new first then = record {
  gained = first.gained ++ then.gained;
  calls_are = then.calls_are ∙ ap (λ (l : List MadeCall). l ++ then.gained) first.calls_are ∙ append_assoc old.calls first.gained then.gained;
  are = answers_in_turn first.gained then.gained ∙ (λ i. first.are i ++ then.are i) ∙ sym (drops_in_turn a b);
  last = then.last ∙ first.last;
  known = then.known ∙ ap (known_after_drops b) first.known ∙ sym (known_in_turn a b old.known);
}

-- The rows up to a place, and the one there.
pub drops_more : (was : List (Option PairState)) (place : ℕ) (rows : List PairRow) (i : ℕ) (r : PairRow) → slice_get rows i ≡ Some r → drops_from place was (take (suc i) rows) ≡ drops_from place was (take i rows) ++ drop_of r (owes_since (get_or was (i + place) None) r.state)
drops_more was place [] i r at = absurd cc
drops_more was place (s ∷ rows) zero r at =
    let same : place ≡ 0 + place = omega arith in
    append-nil (drop_of s (owes_since (get_or was place None) s.state)) ∙ ap (λ (x : PairRow). drop_of x (owes_since (get_or was place None) x.state)) (same_Some s r at) ∙ ap (λ (n : ℕ). drop_of r (owes_since (get_or was n None) r.state)) same
drops_more was place (s ∷ rows) (suc i) r at =
    let same : i + suc place ≡ suc i + place = omega arith in
    ap (λ (l : List VolumeDrop). drop_of s (owes_since (get_or was place None) s.state) ++ l) (drops_more was (suc place) rows i r at ∙ ap (λ (n : ℕ). drops_from (suc place) was (take i rows) ++ drop_of r (owes_since (get_or was n None) r.state)) same)
    ∙ sym (append_assoc (drop_of s (owes_since (get_or was place None) s.state)) (drops_from (suc place) was (take i rows)) (drop_of r (owes_since (get_or was (suc i + place) None) r.state)))

-- ---- the seat stays

pub stays_self : (seat : MoverSeatState) → IsStillAt seat seat
stays_self seat = record { here = refl; begun = refl; all = refl; controls = refl }

pub stays_then : (old mid new : MoverSeatState) → IsStillAt old mid → IsStillAt mid new → IsStillAt old new
stays_then old mid new first then = record { here = then.here ∙ first.here; begun = then.begun ∙ first.begun; all = then.all ∙ first.all; controls = then.controls ∙ first.controls }
