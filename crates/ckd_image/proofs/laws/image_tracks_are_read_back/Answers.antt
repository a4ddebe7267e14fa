use Rattle.ckd_image.proofs.TrackReads.{tracks_read_back}
use Rattle.ckd_image.proofs.laws.image_tracks_are_read_back.Goals as goal

pub returns : goal.returns
returns c = tracks_read_back
