-- The calls of all seats are one run of the machine.
use Rattle.std.specs.Prelude.{◌≡◌, ℕ, List, ◌∷◌, length, map, filter, Some, IsTrue, slice_get}
use Rattle.std.specs.List.{list_all}
use Rattle.turn.specs.Turn.{times_in, once_below, AllInOrder}
use Rattle.group_state.specs.Groups.{Group}
use Rattle.group_state.specs.Runs.{Runs}
use Rattle.turn_group.specs.Calls.{MadeCall, as_answer}
use Rattle.group_state.specs.Calls.{is_by_seat, is_by_reader, is_by_mover}

pub record OneHistory (first : Group) (mover : List MadeCall) (readers : List (List MadeCall)) (end : Group) : Type 0 where
  -- all calls, in order of tickets
  pub log : List MadeCall
  -- each was made when it might be, each reply is the machine's, and the state at the end is the machine's
  pub runs : Runs first (map as_answer log) end
  pub seats : IsTrue (list_all (λ (made : MadeCall). is_by_seat made.event) log)
  -- the tickets are the numbers below the number of calls, each once
  pub once : (ticket : ℕ) → times_in ticket (mover ∷ readers) ≡ once_below ticket (length log)
  -- each call stands in the log at its ticket, in the order of its seat's calls
  pub ordered : AllInOrder log (mover ∷ readers)
  -- each seat's list is its part of the log
  pub movers : filter (λ (made : MadeCall). is_by_mover made.event) log ≡ mover
  pub each : (k : ℕ) (own : List MadeCall) → slice_get readers k ≡ Some own → filter (λ (made : MadeCall). is_by_reader k made.event) log ≡ own
