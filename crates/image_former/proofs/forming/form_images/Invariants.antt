use Rattle.std.proofs.Common.{◌≡◌, take}
use Rattle.std.specs.List.{AllZip}
use Rattle.xrc_journal.specs.Items.{AreItems, anywhere}
use Rattle.image_former.specs.Steps.{GoesBy, AreFormed}
use Rattle.image_former.proofs.forming.form_images.Given as goal

-- the entries before have their images
abbrev pub invariant-loop-place : goal.invariant-loop-place
invariant-loop-place g l = AllZip (GoesBy g.D.Disk.state g.D.Disk.tells l.table.rows l.formed.entries) l.fn.jobs l.jobs
    × AreFormed g.D.Disk.state g.D.Disk.tells l.table.rows l.formed.entries (take l.place l.formed.entries) l.jobs l.body.items
    × (l.body.room ≡ l.fn.body.room)
    × AreItems anywhere l.body.items
