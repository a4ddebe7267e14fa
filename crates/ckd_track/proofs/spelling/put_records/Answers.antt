use Rattle.std.proofs.Common.{◌≤◌, ◌+◌, ℕ, List, length, take, ap, ◌∙◌, arith, length-append}
use Rattle.std.specs.List.{flat_map}
use Rattle.ckd_track.specs.declared.rec.Rec.{Rec}
use Rattle.ckd_track.specs.Images.{record_spelling}
use Rattle.ckd_track.specs.Slots.{with_bytes}
use Rattle.ckd_track.proofs.Puts.{record_fits, spelled_more, spelled_room, put_next}
use Rattle.ckd_track.proofs.RowLaws.{take_every}
use Rattle.ckd_track.proofs.spelling.put_records.Goals as goal

pub put_record-end-requires-clause-fits : goal.put_record-end-requires-clause-fits
put_record-end-requires-clause-fits c = record_fits c.args.recs.now c.loop-rec.rec-index c.rec-item.result c.requires.track c.loop-rec-test.true c.rec-item.is

pub put_record-end-requires-clause-room : goal.put_record-end-requires-clause-room
put_record-end-requires-clause-room c =
    omega (arith, spelled_room c.args.recs.now c.loop-rec.rec-index c.rec-item.result c.loop-rec-test.true c.rec-item.is, c.loop-rec.invariant.end, c.requires.room, c.loop-rec.auto.buffer)

pub loop-rec-preserved : goal.loop-rec-preserved
loop-rec-preserved c =
    let front = flat_map record_spelling (take c.loop-rec.rec-index c.args.recs.now) in
    let spelling = record_spelling c.rec-item.result in
    let more = spelled_more c.args.recs.now c.loop-rec.rec-index c.rec-item.result c.loop-rec-test.true c.rec-item.is in
    let room : c.loop-rec.end ≤ length c.args.buffer.now =
    omega (arith, spelled_room c.args.recs.now c.loop-rec.rec-index c.rec-item.result c.loop-rec-test.true c.rec-item.is, c.loop-rec.invariant.end, c.requires.room) in
    record {
      bytes = c.put_record-end.ensures.bytes ∙ ap (with_bytes c.loop-rec.end spelling) c.loop-rec.invariant.bytes
          ∙ put_next c.args.place c.loop-rec.end front spelling c.args.buffer.now c.loop-rec.invariant.end room ∙ ap (λ (t : List ℕ). with_bytes c.args.place t c.args.buffer.now) more;
      end = omega (arith, c.put_record-end.ensures.end, c.loop-rec.invariant.end, ap length more, length-append front spelling);
    }

pub returns-clause-bytes : goal.returns-clause-bytes
returns-clause-bytes c =
    c.loop-rec.invariant.bytes ∙ ap (λ (r : List Rec). with_bytes c.args.place (flat_map record_spelling r) c.args.buffer.now) (take_every c.args.recs.now c.loop-rec.rec-index c.loop-rec-test.false)

pub returns-clause-end : goal.returns-clause-end
returns-clause-end c =
    c.loop-rec.invariant.end ∙ ap (λ (r : List Rec). c.args.place + length (flat_map record_spelling r)) (take_every c.args.recs.now c.loop-rec.rec-index c.loop-rec-test.false)
