use Rattle.ckd_image.proofs.TrackReads.{tracks_are_spelled}
use Rattle.ckd_image.proofs.laws.image_tracks_are_read.Goals as goal

pub returns : goal.returns
returns c = tracks_are_spelled
