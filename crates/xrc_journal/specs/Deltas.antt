-- Reading a change of a track: the fields of an update or of a format, after their tag.
use Rattle.std.specs.Prelude.{ℕ, ◌+◌, ◌-◌, ◌==◌, List, length, Result, Ok, Err, if◌then◌else◌}
use Rattle.std.specs.Int.{w8}
use Rattle.tod_stamp.specs.Fields.{◌>>=◌, Left, Bad, number_at, within, any}
use Rattle.tod_stamp.specs.Fields.Bad.{Broken}
use Rattle.ckd_track.specs.declared.fault.ImageError.{ImageError}
use Rattle.ckd_track.specs.declared.rec.Rec.{Rec}
use Rattle.ckd_track.specs.declared.write.Kind.{Kind}
use Rattle.ckd_track.specs.declared.write.Kind.TheVariants.{Format}
use Rattle.ckd_track.specs.Tracks.{capacity}
use Rattle.ckd_track.specs.Images.{records_at}
use Rattle.ckd_track.specs.Fields.{update_at}

-- records as one field
abbrev pub as_body_field : Left → Result (List Rec × List ℕ) ImageError → Result (List Rec × Left) Bad
as_body_field left (Ok found) = Ok (found.0, record { place = left.place + (length left.bytes - length found.1); bytes = found.1 })
as_body_field left (Err bad) = Err (Broken left.place)

unfoldable pub body_format_at : Left → Result (Kind × Left) Bad
body_format_at left = do
  after ← number_at w8 any left
  count ← number_at w8 any after.1
  recs ← as_body_field count.1 (records_at count.0 count.1.place after.0 capacity count.1.bytes)
  Ok (Format after.0 recs.0, recs.1)

unfoldable pub change_at : Left → Result (Kind × Left) Bad
change_at left = do
  tag ← number_at w8 (within 2 3) left
  if tag.0 == 2 then update_at tag.1 else body_format_at tag.1
