use Rattle.std.proofs.Common.{◌∙◌, sym, ap, arith}
use Rattle.std.proofs.lemmas.Result.{err_from_is_err_and}
use Rattle.ckd_track.proofs.Steps.{with_front, goes_on, is_done, reads_no_more, record_is_first}
use Rattle.ckd_track.proofs.decoding.decoded_records.Goals as goal

pub returns-in_err-head : goal.returns-in_err-head
returns-in_err-head c =
    let p = err_from_is_err_and c.from_residual.result c.from_residual.ensures.1 in
    let end = reads_no_more c.in_err-head.field-0.0 c.args.count c.loop.counter c.loop.place c.loop.last c.loop.room c.loop.rest.now c.loop-test.true c.in_err-head.ensures.read in
    rw (p.1, p.2) (λ n. sym c.loop.invariant.same ∙ ap (with_front c.loop.recs) end)

pub overflow_sub-room : goal.overflow_sub-room
overflow_sub-room c = omega (arith, c.in_ok-head.ensures.head.fits)

pub loop-preserved : goal.loop-preserved
loop-preserved c =
    let is = c.in_ok-head.ensures.head in
    let on = goes_on c.loop.recs c.args.count c.loop.counter c.loop.place c.loop.last c.loop.room c.loop.rest.now c.in_ok-head.head c.in_ok-head.after.now c.loop-test.true is c.in_ok-head.ensures.read in
    let rec_is = c.in_ok-decoded_record.ensures ∙ record_is_first c.loop.rest.now c.loop.room c.in_ok-head.head c.in_ok-head.after.now is in
    record {
      same = rw (c.in_ok-push.ensures.ok, rec_is, c.spelled_length.ensures, c.size.ensures) (sym on ∙ c.loop.invariant.same);
      within = omega (arith, is.fits);
    }

pub returns : goal.returns
returns c = sym c.loop.invariant.same ∙ is_done c.loop.recs c.args.count c.loop.counter c.loop.place c.loop.last c.loop.room c.loop.rest.now c.loop-test.false
