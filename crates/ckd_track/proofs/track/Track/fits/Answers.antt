use Rattle.std.proofs.Common.{arith}
use Rattle.std.proofs.lemmas.Bool.{leb-true, le-leb}
use Rattle.ckd_track.proofs.TrackLaws.{track_on, track_follows}
use Rattle.ckd_track.proofs.track.Track.fits.Goals as goal
use Rattle.ckd_track.proofs.track.Track.fits.Goals.{then-rec-last-via-then-rec-last, then-rec-last-via-else-rec-last+then-len-gt255}

pub returns-then-rec-last : goal.returns-then-rec-last
returns-then-rec-last c = (
  λ e. absurd cc,
  λ is.
      let f = track_follows c.args.self.now c.args.rec.now is in
      absurd (elim c.then-rec-last.branch [
        | then-rec-last-via-then-rec-last w ↦ omega (arith, f.may.above, w.if-rec-last.true, c.last.ensures)
        | then-rec-last-via-else-rec-last+then-len-gt255 w ↦ omega (arith, f.may.key, w.if-len-gt255.true, w.len.ensures)
      ]),
)

pub returns : goal.returns
returns c = (
  λ e.
      let room = leb-true c.saturating_add-size.result c.room.result e in
      track_on c.args.self.now c.args.rec.now c.room.ensures.track
      (record { above = omega (arith, c.last.ensures); number = omega arith; key = omega (arith, c.len.ensures) })
      (omega (arith, room, c.saturating_add-size.ensures, c.len-2.ensures, c.len-3.ensures, c.room.ensures.left)),
  λ is.
      let f = track_follows c.args.self.now c.args.rec.now is in
      le-leb c.saturating_add-size.result c.room.result (omega (arith, f.room, c.saturating_add-size.ensures, c.len-2.ensures, c.len-3.ensures, c.room.ensures.left)),
)
