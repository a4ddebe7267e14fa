use Rattle.std.proofs.Common.{◌≡◌, take}
use Rattle.ckd_track.proofs.rec.copied_records.Given as goal

abbrev pub invariant-loop-rec : goal.invariant-loop-rec
invariant-loop-rec l = l.copy.items ≡ take l.rec-index l.recs
