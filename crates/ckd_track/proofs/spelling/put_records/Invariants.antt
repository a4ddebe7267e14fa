use Rattle.std.proofs.Common.{◌≡◌, ◌+◌, length, take}
use Rattle.std.specs.List.{flat_map}
use Rattle.ckd_track.specs.Images.{record_spelling}
use Rattle.ckd_track.specs.Slots.{with_bytes}
use Rattle.ckd_track.proofs.spelling.put_records.Given as goal

abbrev pub invariant-loop-rec : goal.invariant-loop-rec
invariant-loop-rec l = record {
  bytes : l.buffer ≡ with_bytes l.place (flat_map record_spelling (take l.rec-index l.recs)) l.fn.buffer;
  end : l.end ≡ l.place + length (flat_map record_spelling (take l.rec-index l.recs));
}
