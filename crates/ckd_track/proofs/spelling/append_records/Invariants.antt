use Rattle.std.proofs.Common.{◌≡◌, ◌++◌, take}
use Rattle.std.specs.List.{flat_map}
use Rattle.ckd_track.specs.Images.{record_spelling}
use Rattle.ckd_track.proofs.spelling.append_records.Given as goal

abbrev pub invariant-loop-rec : goal.invariant-loop-rec
invariant-loop-rec l = l.out ≡ l.fn.out ++ flat_map record_spelling (take l.rec-index l.recs)
