use Rattle.std.proofs.Common.{◌≡◌}
use Rattle.crash_plant.proofs.console.Console.refill.Given as goal

abbrev pub invariant-loop : goal.invariant-loop
invariant-loop g l = l.self.faults ≡ l.initial.self.faults
