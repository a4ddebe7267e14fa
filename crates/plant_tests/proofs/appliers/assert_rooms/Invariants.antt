use Rattle.std.proofs.Common.{List, [], ◌∷◌}
use Rattle.std.specs.List.{AllWithin}
use Rattle.ckd_track.specs.declared.rec.Rec.{Rec}
use Rattle.xrc_journal.specs.Items.Item.{Image}
use Rattle.applier.specs.Sides.{HasItsSlots}
use Rattle.plant_tests.proofs.appliers.assert_rooms.Given as goal

abbrev pub invariant-loop-job : goal.invariant-loop-job
invariant-loop-job g l = (slot : List Rec) → AllWithin (HasItsSlots g.D.Disk.state (Image 0 0 slot ∷ Image 2 0 slot ∷ [])) l.jobs 0 l.job-index
