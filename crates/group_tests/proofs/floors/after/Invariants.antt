-- The floors stand after the events so far.
use Rattle.std.proofs.Common.{◌≡◌, take, map}
use Rattle.cut_core.specs.HistoryEvents.{history_event}
use Rattle.cut_core.specs.Floors.{StandsAfter}
use Rattle.group_tests.proofs.floors.after.Given as goal

abbrev pub invariant-loop-event : goal.invariant-loop-event
invariant-loop-event l = record {
  controls : l.floors.controls ≡ l.controls;
  stands : StandsAfter l.floors (map history_event (take l.event-index l.events));
}
