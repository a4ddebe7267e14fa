use Rattle.std.proofs.Common.{◌-◌, length, take}
use Rattle.xrc_journal.specs.Items.{form_of}
use Rattle.xrc_journal.specs.Bodies.{earlier_of}
use Rattle.xrc_journal.specs.Drawn.{AreDrawn}
use Rattle.xrc_journal.proofs.Fronts.{ReadsTo}
use Rattle.xrc_journal.proofs.item.good_length.Given as goal

-- the items before are good, `late` says whether one of them is of a row, and `drawn` which tracks have an image there
abbrev pub invariant-loop-good : goal.invariant-loop-good
invariant-loop-good g l = record {
  reads : ReadsTo (form_of (g.P.Plant.state l.plant)) l.bytes l.good l.late;
  known : AreDrawn l.drawn (earlier_of (take l.good l.bytes)).drawn;
}

abbrev pub decreases-loop-good : goal.decreases-loop-good
decreases-loop-good g l = length l.bytes - l.good
