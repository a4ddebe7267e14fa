-- What deeds leave of the tracks that are held.
use Rattle.std.specs.Prelude.{List, [], ◌∷◌}
use Rattle.record_rows.specs.Deeds.{Deed}
use Rattle.record_rows.specs.Deeds.Deed.{Logged, Changed, Marked}
use Rattle.fed_logs.specs.ToldTracks.{HeldTracks, held_after_group}

-- what is held of each track after a deed
abbrev pub held_by_deed : HeldTracks → Deed → HeldTracks
held_by_deed held (Logged cut entries rows) = held_after_group entries held
held_by_deed held (Changed time rows) = held
held_by_deed held (Marked spot ended rows) = held

abbrev pub held_after_deeds : List Deed → HeldTracks → HeldTracks
held_after_deeds [] held = held
held_after_deeds (deed ∷ deeds) held = held_after_deeds deeds (held_by_deed held deed)
