use Rattle.std.proofs.Common.{◌≤◌}
use Rattle.ckd_track.specs.SlotPlaces.{slot_end}
use Rattle.applier.proofs.Places.{job_writes, room_in}
use Rattle.applier.proofs.applying.apply_item.Goals as goal

pub write_item-requires-clause-room : goal.write_item-requires-clause-room
write_item-requires-clause-room g c x e = room_in (λ disk. slot_end x ≤ (g.D.Disk.state disk).length_is) c.args.job.now.disk c.in-Some.disk c.in-Some.is (c.requires.room x c.if-job.false e)

pub returns-in-Some : goal.returns-in-Some
returns-in-Some g c i t = job_writes g.D.Disk.state g.D.Disk.tells i c.args.job.now c.in-Some.disk c.write_item.new.disk c.write_item.result c.is_err-job.result c.if-job.false c.in-Some.is c.is_err-job.ensures.value (c.write_item.ensures i t)
