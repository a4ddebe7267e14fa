-- Calls on a console, one after another.
use Rattle.std.proofs.Common.{◌≡◌, ℕ, ◌<◌, ◌≤◌, cond, nat_le, true, false, List, [], ◌∷◌, ◌++◌, length, refl, sym, ◌∙◌, ap, subst, arith, length-append, Result, Ok, Err, OnOk, OnErr}
use Rattle.std.proofs.lemmas.Bool.Decides.{nat_tests}
use Rattle.crash_plant.specs.declared.turn.ConsoleTurn.{ConsoleTurn}
use Rattle.crash_plant.specs.Turns.{turn_at, last_turn, InTurn}

-- Moments before a call are as they were.
pub turn_before : (t : ℕ) (first : ConsoleTurn) (turns : List ConsoleTurn) (x : ConsoleTurn) → t < x.at → turn_at t first (turns ++ x ∷ []) ≡ turn_at t first turns
turn_before t first [] x late = let not : nat_le x.at t ≡ false = grind (arith, nat_tests) in rw not refl
turn_before t first (y ∷ turns) x late = ap (λ (z : ConsoleTurn). cond (nat_le y.at t) z first) (turn_before t y turns x late)

-- The last call is the latest.
pub last_latest : (first : ConsoleTurn) (turns : List ConsoleTurn) → InTurn first turns → first.at ≤ (last_turn first turns).at
last_latest first [] order = omega arith
last_latest first (x ∷ turns) order = omega (arith, order.0, last_latest x turns order.2)

pub turn_now : (t : ℕ) (first : ConsoleTurn) (turns : List ConsoleTurn) → InTurn first turns → (last_turn first turns).at ≤ t → turn_at t first turns ≡ last_turn first turns
turn_now t first [] order late = refl
turn_now t first (x ∷ turns) order late =
    let is : nat_le x.at t ≡ true = let bound = last_latest x turns order.2 in grind (arith, nat_tests) in
    rw is (turn_now t x turns order.2 late)

-- No earlier call had more said.
first_said : (first : ConsoleTurn) (turns : List ConsoleTurn) → InTurn first turns → first.said ≤ (last_turn first turns).said
first_said first [] order = omega arith
first_said first (x ∷ turns) order = omega (arith, order.1, first_said x turns order.2)

pub said_within : (t : ℕ) (first : ConsoleTurn) (turns : List ConsoleTurn) → InTurn first turns → (turn_at t first turns).said ≤ (last_turn first turns).said
said_within t first [] order = omega arith
said_within t first (x ∷ turns) order = elim (nat_le x.at t) as (λ b. (cond b (turn_at t x turns) first).said ≤ (last_turn x turns).said) [
  | true ↦ said_within t x turns order.2
  | false ↦ omega (arith, order.1, first_said x turns order.2)
]

pub last_turn_push : (first : ConsoleTurn) (turns : List ConsoleTurn) (x : ConsoleTurn) → last_turn first (turns ++ x ∷ []) ≡ x
last_turn_push first [] x = refl
last_turn_push first (y ∷ turns) x = last_turn_push y turns x

pub in_turn_push : (first : ConsoleTurn) (turns : List ConsoleTurn) (x : ConsoleTurn) → InTurn first turns → (last_turn first turns).at ≤ x.at → (last_turn first turns).said ≤ x.said → InTurn first (turns ++ x ∷ [])
in_turn_push first [] x order at said = (at, said, tt)
in_turn_push first (y ∷ turns) x order at said = (order.0, order.1, in_turn_push y turns x order.2 at said)

-- A record stays in order where a call comes to it at which these bytes are said, or none.
pub uttered_or_not : {T E : Type 0} (result : Result T E) (first : ConsoleTurn) (turns told : List ConsoleTurn) (next at : ℕ) (said bytes is_said : List ℕ) → InTurn first turns → (last_turn first turns).heard ≡ next → (last_turn first turns).said ≡ length said → (last_turn first turns).at ≤ at
    → OnOk result (is_said ≡ said ++ bytes) → OnOk result (told ≡ turns ++ record { at = at; heard = next; said = length (said ++ bytes) } ∷ []) → OnErr result (is_said ≡ said) → OnErr result (told ≡ turns)
    → InTurn first told × ((last_turn first told).heard ≡ next) × ((last_turn first told).said ≡ length is_said)
uttered_or_not (Ok x) first turns told next at said bytes is_said order heard_is said_is later is noted same same_turns =
    let x : ConsoleTurn = record { at = at; heard = next; said = length (said ++ bytes) } in
    let last : last_turn first told ≡ x = ap (λ (l : List ConsoleTurn). last_turn first l) noted ∙ last_turn_push first turns x in (
      subst (λ (l : List ConsoleTurn). InTurn first l) (sym noted) (in_turn_push first turns x order later (omega (arith, said_is, length-append said bytes))),
      ap (λ (t : ConsoleTurn). t.heard) last,
      ap (λ (t : ConsoleTurn). t.said) last ∙ ap length (sym is),
    )
uttered_or_not (Err e) first turns told next at said bytes is_said order heard_is said_is later is noted same same_turns = (
  subst (λ (l : List ConsoleTurn). InTurn first l) (sym same_turns) order,
  ap (λ (l : List ConsoleTurn). (last_turn first l).heard) same_turns ∙ heard_is,
  ap (λ (l : List ConsoleTurn). (last_turn first l).said) same_turns ∙ said_is ∙ ap length (sym same),
)

-- Where a byte is heard, or none, at a moment.
pub heard_noted : (first : ConsoleTurn) (turns told : List ConsoleTurn) (next at said : ℕ) → InTurn first turns → (last_turn first turns).said ≡ said → (last_turn first turns).at ≤ at → told ≡ turns ++ record { at = at; heard = next; said = said } ∷ []
    → InTurn first told × ((last_turn first told).heard ≡ next) × ((last_turn first told).said ≡ said)
heard_noted first turns told next at said order said_is later noted =
    let x : ConsoleTurn = record { at = at; heard = next; said = said } in
    let last : last_turn first told ≡ x = ap (λ (l : List ConsoleTurn). last_turn first l) noted ∙ last_turn_push first turns x in (
      subst (λ (l : List ConsoleTurn). InTurn first l) (sym noted) (in_turn_push first turns x order later (omega (arith, said_is))),
      ap (λ (t : ConsoleTurn). t.heard) last,
      ap (λ (t : ConsoleTurn). t.said) last,
    )
