-- The mover's seat takes in a reader's seat, the last of the list.
use Rattle.std.proofs.Common.{◌≡◌, List, [], ◌∷◌, ◌++◌, length, map, Option, Some, sym, ap, ◌∙◌, subst, arith, append_assoc, length-append}
use Rattle.std.specs.Prelude.{All}
use Rattle.std.proofs.lemmas.List.{length-map}
use mathlib.Core.List.{map-append}
use lib.ListN.{get_or-append}
use Rattle.group_state.specs.Groups.{Group}
use Rattle.turn.specs.Turn.{AllTrue}
use Rattle.turn_group.specs.Calls.{MadeCall}
use Rattle.turn_group.specs.Notes.{SeatNote, says}
use Rattle.turn_group.specs.Seats.{ReaderSeatState, calls_at, AllFrom, IsOwn, IsAtPlace}
use Rattle.turn_group.proofs.Places.{push_place, last_place}

-- the calls of the last seat go to the front of those that were taken in
pub shifted : (rest all : List (Option ReaderSeatState)) (seat : ReaderSeatState) (taken now whole : List (List MadeCall)) → all ≡ rest ++ Some seat ∷ [] → map calls_at all ++ taken ≡ whole → now ≡ seat.calls ∷ taken → map calls_at rest ++ now ≡ whole
shifted rest all seat taken now whole is was more =
    ap (λ l. map calls_at rest ++ l) more
    ∙ (sym (append_assoc (map calls_at rest) (seat.calls ∷ []) taken) ∙ (ap (λ l. l ++ taken) (sym (map-append calls_at rest (Some seat ∷ []))) ∙ (ap (λ l. map calls_at l ++ taken) (sym is) ∙ was)))

pub all_front : {A : Type 0} (P : A → Type 0) (xs ys : List A) → All P (xs ++ ys) → All P xs
all_front P xs ys h k d low = subst P (get_or-append xs ys d k low) (h k d (let longer = length-append xs ys in omega arith))

pub own_pushed : (rest : List (Option ReaderSeatState)) (seat : ReaderSeatState) → AllFrom IsAtPlace 0 (rest ++ Some seat ∷ []) → IsOwn seat.control seat.calls → AllFrom IsOwn 0 (map calls_at rest) → AllFrom IsOwn 0 (map calls_at (rest ++ Some seat ∷ []))
own_pushed rest seat places own all =
    let at : seat.control ≡ length (map calls_at rest) = last_place IsAtPlace rest (Some seat) places ∙ sym (length-map rest calls_at) in
    subst (λ l. AllFrom IsOwn 0 l) (sym (map-append calls_at rest (Some seat ∷ []))) (push_place IsOwn (map calls_at rest) seat.calls all (subst (λ k. IsOwn k seat.calls) at own))

-- of the notes of both seats those of the first are true
pub true_front : (s : Group) (ns ms : List SeatNote) → AllTrue says s (ns ++ ms) → AllTrue says s ns
true_front s [] ms are = tt
true_front s (n ∷ ns) ms are = (are.0, true_front s ns ms are.1)
