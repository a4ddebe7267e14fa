use Rattle.std.proofs.Common.{List, sym, subst}
use Rattle.ckd_track.specs.declared.rec.Rec.{Rec}
use Rattle.ckd_track.specs.Tracks.{IsTrack}
use Rattle.ckd_track.proofs.Puts.{record_fits}
use Rattle.ckd_image.proofs.spelling.spelled_track.Goals as goal

pub append_counted-requires-clause-fits : goal.append_counted-requires-clause-fits
append_counted-requires-clause-fits c =
    record_fits c.recs-recs.result.now c.loop-rec.rec-index c.rec-item.result (subst (λ (r : List Rec). IsTrack r) (sym c.recs-recs.ensures.recs) c.recs-recs.ensures.track) c.loop-rec-test.true c.rec-item.is
