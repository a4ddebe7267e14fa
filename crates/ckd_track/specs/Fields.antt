-- What the fields of an update are, read from the front of bytes.
use Rattle.std.specs.Prelude.{Result, Ok, nat_le}
use Rattle.std.specs.Int.{w8, w16}
use Rattle.tod_stamp.specs.Fields.{◌>>=◌, Left, Bad, bytes_at, number_at, within, any}
use Rattle.ckd_track.specs.declared.write.Kind.{Kind}
use Rattle.ckd_track.specs.declared.write.Kind.TheVariants.{Update}
use Rattle.ckd_track.specs.Effects.{longest_update}

unfoldable pub update_at : Left → Result (Kind × Left) Bad
update_at left = do
  number ← number_at w8 (within 1 255) left
  len ← number_at w16 (λ n. nat_le n longest_update) number.1
  bytes ← bytes_at len.0 any len.1
  Ok (Update number.0 bytes.0, bytes.1)
