use Rattle.std.proofs.Common.{◌≡◌, [], false, length}
use Rattle.crash_plant.specs.Calls.{WorksOnConsole}
use Rattle.script_lines.specs.Hearing.{HearsText, KeepsHearing, SaysNothing}
use Rattle.script_lines.specs.Texts.{has_feed}
use Rattle.script_lines.proofs.hearing.hear_line.Given as goal

abbrev pub invariant-loop : goal.invariant-loop
invariant-loop g l = record {
  size : length l.text ≡ l.counter;
  no_feed : has_feed l.text ≡ false;
  heard : g.P.Plant.tells → HearsText l.text (g.P.Plant.state l.initial.plant) (g.P.Plant.state l.plant);
  keeps : g.P.Plant.tells → (first : _) → KeepsHearing [] l.text (g.P.Plant.state first) (g.P.Plant.state l.initial.plant) (g.P.Plant.state l.plant);
  silent : g.P.Plant.tells → SaysNothing (g.P.Plant.state l.initial.plant) (g.P.Plant.state l.plant);
  only : WorksOnConsole g.P.Plant.tells (g.P.Plant.state l.initial.plant) (g.P.Plant.state l.plant);
  count : (g.P.Plant.state l.plant).console_faults ≡ (g.P.Plant.state l.initial.plant).console_faults;
}
