-- What was heard and said up to a moment, from the record of the calls on a console.
use Rattle.std.specs.Prelude.{◌≤◌, ℕ, cond, nat_le, List, [], ◌∷◌, ⊤}
use Rattle.std.specs.Coded.{Unit-prop, le_prop}
use Rattle.crash_plant.specs.declared.turn.ConsoleTurn.{ConsoleTurn}

-- the last call up to a moment, after one
abbrev pub turn_at : ℕ → ConsoleTurn → List ConsoleTurn → ConsoleTurn
turn_at t first [] = first
turn_at t first (x ∷ turns) = cond (nat_le x.at t) (turn_at t x turns) first

abbrev pub last_turn : ConsoleTurn → List ConsoleTurn → ConsoleTurn
last_turn first [] = first
last_turn first (x ∷ turns) = last_turn x turns

-- Calls stand in the order of their moments, and none takes back what was said.
abbrev pub InTurn : ConsoleTurn → List ConsoleTurn → Type 0
InTurn first [] = ⊤
InTurn first (x ∷ turns) = (first.at ≤ x.at) × (first.said ≤ x.said) × InTurn x turns

order_prop : (m n : ℕ) → IsProp (m ≤ n)
order_prop m n = le_prop

pub InTurn-prop : (first : ConsoleTurn) (turns : List ConsoleTurn) → IsProp (InTurn first turns)
InTurn-prop first [] x y = Unit-prop x y
InTurn-prop first (t ∷ turns) x y = λ i. (order_prop first.at t.at x.0 y.0 i, order_prop first.said t.said x.1 y.1 i, InTurn-prop t turns x.2 y.2 i)
