-- Calls that may be made, with the machine's replies, are a run.
use Rattle.std.proofs.Common.{List, [], ◌∷◌, refl}
use Rattle.std.specs.Prelude.{fold}
use Rattle.group_state.specs.Groups.{Group}
use Rattle.group_state.specs.Machine.{Call, group_after}
use Rattle.group_state.specs.Runs.{May, Runs}
use Rattle.group_tests.specs.HistoryVectors.{answers_to}

-- each call may be made after those before it
abbrev pub AllMay : Group → List Call → Type 0
AllMay s [] = Unit {0}
AllMay s (call ∷ calls) = May s call × AllMay (group_after s call) calls

pub run_of : (s : Group) (calls : List Call) → AllMay s calls → Runs s (answers_to s calls) (fold group_after s calls)
run_of s [] may = refl
run_of s (call ∷ calls) may = (group_after s call, may.0, (refl, refl), run_of (group_after s call) calls may.1)
