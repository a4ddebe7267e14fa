use Rattle.ckd_track.proofs.ImageLaws.{image_taken}
use Rattle.ckd_track.proofs.laws.images_are_read.Goals as goal

pub returns : goal.returns
returns c = image_taken
