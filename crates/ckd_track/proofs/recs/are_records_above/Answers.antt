use Rattle.std.proofs.Common.{◌∙◌, nat_le, sym, ap, refl, arith}
use Rattle.std.proofs.lemmas.Bool.{leb-true, le-leb}
use Rattle.std.proofs.lemmas.List.{drop_all}
use Rattle.ckd_track.specs.Tracks.{rises_above, track_size, capacity}
use Rattle.ckd_track.proofs.ImageLaws.{both_true}
use Rattle.ckd_track.proofs.TrackLaws.{and_true}
use Rattle.ckd_track.proofs.Walks.{rises_first}
use Rattle.ckd_track.proofs.RowLaws.{left_at, sizes_left_at, rises_next}
use Rattle.ckd_track.proofs.recs.are_records_above.Goals as goal
use Rattle.ckd_track.proofs.recs.are_records_above.Goals.{then-rec-last-via-then-rec-last, then-rec-last-via-else-rec-last+then-len-gt255}

pub returns-then-rec-last : goal.returns-then-rec-last
returns-then-rec-last c = (
  λ e. absurd cc,
  λ is.
      let parts = both_true (rises_above c.args.low c.args.recs.now) (nat_le (track_size c.args.recs.now) capacity) is in
      let rec = c.rec-item.result in
      let here = ap (rises_above c.loop-rec.last) (sym (left_at c.args.recs.now c.loop-rec.rec-index rec c.loop-rec-test.true c.rec-item.is)) ∙ c.loop-rec.invariant.same ∙ parts.0 in
      let first = rises_first c.loop-rec.last rec _ here in
      absurd (elim c.then-rec-last.branch [
        | then-rec-last-via-then-rec-last w ↦ omega (arith, first.0, w.if-rec-last.true)
        | then-rec-last-via-else-rec-last+then-len-gt255 w ↦ omega (arith, first.1, w.if-len-gt255.true, w.len.ensures)
      ]),
)

pub returns-then-room-size : goal.returns-then-room-size
returns-then-room-size c = (
  λ e. absurd cc,
  λ is.
      let parts = both_true (rises_above c.args.low c.args.recs.now) (nat_le (track_size c.args.recs.now) capacity) is in
      let small = leb-true (track_size c.args.recs.now) capacity parts.1 in
      absurd (omega (arith, small, c.loop-rec.invariant.sizes, c.if-room-size.true, c.saturating_add-size.ensures, c.len-in-loop-rec.ensures, c.len-in-loop-rec-2.ensures, sizes_left_at c.args.recs.now c.loop-rec.rec-index c.rec-item.result c.loop-rec-test.true c.rec-item.is)),
)

pub loop-rec-init : goal.loop-rec-init
loop-rec-init c = record { same = refl; sizes = refl; within = omega arith }

pub loop-rec-preserved : goal.loop-rec-preserved
loop-rec-preserved c =
    let rec = c.rec-item.result in
    record {
      same = rises_next c.loop-rec.last c.args.recs.now c.loop-rec.rec-index rec c.loop-rec-test.true c.rec-item.is (omega (arith, c.if-rec-last.false)) (omega arith) (omega (arith, c.if-len-gt255.false, c.len.ensures)) ∙ c.loop-rec.invariant.same;
      sizes = omega (arith, c.loop-rec.invariant.sizes, c.loop-rec.invariant.within, c.if-room-size.false, c.saturating_add-size.ensures, c.len-in-loop-rec.ensures, c.len-in-loop-rec-2.ensures, sizes_left_at c.args.recs.now c.loop-rec.rec-index rec c.loop-rec-test.true c.rec-item.is);
      within = omega (arith, c.loop-rec.invariant.within);
    }

pub returns : goal.returns
returns c = (
  λ e.
      let none = drop_all c.loop-rec.rec-index c.args.recs.now c.loop-rec-test.false in
      and_true (rises_above c.args.low c.args.recs.now) (nat_le (track_size c.args.recs.now) capacity) (sym c.loop-rec.invariant.same ∙ ap (rises_above c.loop-rec.last) none)
      (le-leb (track_size c.args.recs.now) capacity (omega (arith, c.loop-rec.invariant.sizes, ap track_size none))),
  λ is. refl,
)
