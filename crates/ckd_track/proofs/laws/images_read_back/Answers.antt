use Rattle.ckd_track.proofs.ImageLaws.{image_again}
use Rattle.ckd_track.proofs.laws.images_read_back.Goals as goal

pub returns : goal.returns
returns c = image_again
