use Rattle.ckd_track.proofs.Parts.{length-of_image}
use Rattle.ckd_track.proofs.slot.Slot.bytes.Goals as goal

pub returns-clause-short : goal.returns-clause-short
returns-clause-short c = rw c.as_slice.ensures.value (length-of_image _ c.self.invariant.begins)
