-- What a history has of an event of the code.
use Rattle.std.specs.Prelude.{false}
use Rattle.cut_core.specs.Events as histories
use Rattle.cut_core.specs.Events.Event.{Join as Joins, Copied as Copies, Break as Breaks, Raise as Raises, Form as Forms, Drop as Drops}
use Rattle.cut_core.specs.declared.event.Event.{Event}
use Rattle.cut_core.specs.declared.event.Event.TheVariants.{Join, Copied, Break, Raise, Form, Drop}

-- A drop's `all` is no part of the code's event: it changes the map alone, and no floor.
abbrev pub history_event : Event → histories.Event
history_event (Join batch) = Joins batch
history_event (Copied control volume track stamp) = Copies control volume track stamp.0
history_event (Break control upto) = Breaks control upto.0
history_event (Raise control upto) = Raises control upto.0
history_event (Form cut) = Forms cut.0
history_event (Drop control volume) = Drops control volume false
