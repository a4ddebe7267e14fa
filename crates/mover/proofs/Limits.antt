-- Which limits the mover's forms have.
use Rattle.std.proofs.Common.{◌≡◌, ℕ, true, List, [], ◌∷◌, ◌++◌, map, refl, ap, ◌∙◌}
use Rattle.std.specs.List.{list_all}
use Rattle.std.proofs.lemmas.Bool.{and_from, and_parts, eq-eqb}
use Rattle.tod_stamp.specs.declared.stamp.Stamp.{Stamp}
use Rattle.pending_queue.specs.Groups.{FormedGroup}
use Rattle.group_state.specs.declared.joining.Forming as forming
use Rattle.group_state.specs.Runs.{Answer}
use Rattle.mover.specs.Groups.{is_at_limit}
use Rattle.turn_group.specs.Calls.{MadeCall, as_answer}
use Rattle.turn_group.specs.Seats.{MoverSeatState}
use Rattle.mover.specs.Dropping.{MakesDrops, VolumeDrop, answer_of_drop}
use Rattle.mover.specs.Moves.{KeepsLimit}
use Rattle.mover.proofs.MoverCalls.{FormsGroup, form_answer}

-- Calls after others are limited where both are.
limited_then : (limit : ℕ) (calls gained : List MadeCall) → list_all (is_at_limit limit) (map as_answer calls) ≡ true → list_all (is_at_limit limit) (map as_answer gained) ≡ true → list_all (is_at_limit limit) (map as_answer (calls ++ gained)) ≡ true
limited_then limit [] gained before now = now
limited_then limit (c ∷ calls) gained before now =
    let parts = and_parts (is_at_limit limit (as_answer c)) (list_all (is_at_limit limit) (map as_answer calls)) before in
    and_from (is_at_limit limit (as_answer c)) (list_all (is_at_limit limit) (map as_answer (calls ++ gained))) parts.0 (limited_then limit calls gained parts.1 now)

drops_limited : (limit : ℕ) (drops : List VolumeDrop) → list_all (is_at_limit limit) (map answer_of_drop drops) ≡ true
drops_limited limit [] = refl
drops_limited limit (d ∷ drops) = drops_limited limit drops

-- A drop has no limit.
pub drops_keep_limit : (limit : ℕ) (drops : List VolumeDrop) (seat next : MoverSeatState) → MakesDrops drops seat next → KeepsLimit limit seat next
drops_keep_limit limit drops seat next made before =
    ap (λ (calls : List MadeCall). list_all (is_at_limit limit) (map as_answer calls)) made.calls_are ∙ limited_then limit seat.calls made.gained before (ap (list_all (is_at_limit limit)) made.are ∙ drops_limited limit drops)

-- A form has its own.
pub form_keeps_limit : (limit : Stamp) (r : forming.Forming) (group : FormedGroup) (seat turn : MoverSeatState) → FormsGroup limit r group seat turn → KeepsLimit limit.0 seat turn
form_keeps_limit limit r group seat turn f before =
    ap (λ (calls : List MadeCall). list_all (is_at_limit limit.0) (map as_answer calls)) f.calls ∙ limited_then limit.0 seat.calls (f.made ∷ []) before (ap (λ (a : Answer). list_all (is_at_limit limit.0) (a ∷ [])) f.answered ∙ and_from (is_at_limit limit.0 (form_answer limit r group)) true (eq-eqb limit.0 limit.0 refl) refl)
