use Rattle.std.proofs.Common.{◌≡◌, ℕ, ◌+◌, ◌-◌, [], ◌∷◌, ◌++◌, List, length, Err, sym, ap, ◌∙◌, arith}
use Rattle.std.proofs.lemmas.Result.{err_from_is_err_and}
use Rattle.ckd_track.specs.declared.rec.Rec.{Rec}
use Rattle.ckd_track.specs.Tracks.{last_number}
use Rattle.ckd_image.specs.declared.fault.TrackFault.TheVariants.{TooLong, Unended}
use Rattle.ckd_image.specs.ImageTracks.{counted_record, records_to_end}
use Rattle.ckd_image.proofs.Steps.{after_all, at_end, at_fault, at_next, at_too_long, last_of_more, no_track, read_here}
use Rattle.ckd_image.proofs.reading.records_to_end.Goals as goal

pub returns-then-begins_with : goal.returns-then-begins_with
returns-then-begins_with c =
    let place = 21 + (length c.args.bytes.now - length c.loop.rest.now) in
    sym c.loop.invariant.same ∙ at_end 256 c.loop.counter c.args.number place c.loop.track c.loop.rest.now (omega (arith, c.loop-test.true)) (sym c.begins_with.ensures ∙ c.if-begins_with.true)

pub returns-in_err-rec : goal.returns-in_err-rec
returns-in_err-rec c =
    let p = err_from_is_err_and c.from_residual.result c.from_residual.ensures.1 in
    let place = 21 + (length c.args.bytes.now - length c.loop.rest.now) in
    rw (p.1, p.2) (λ n. sym c.loop.invariant.same
    ∙ at_fault 256 c.loop.counter c.args.number place c.loop.track c.loop.rest.now c.in_err-rec.field-0.0 (omega (arith, c.loop-test.true)) (sym c.begins_with.ensures ∙ c.if-begins_with.false)
    (read_here c.args.number c.place_of_rest-place.result place c.loop.last (last_number 0 c.loop.track) c.loop.rest.now _ c.place_of_rest-place.ensures c.loop.invariant.last (c.in_err-rec.ensures.read n)))

pub returns-then-not-fits : goal.returns-then-not-fits
returns-then-not-fits c = λ some.
    let place = 21 + (length c.args.bytes.now - length c.loop.rest.now) in
    sym c.loop.invariant.same
    ∙ at_too_long 256 c.loop.counter c.args.number place c.loop.track c.loop.rest.now c.in_ok-rec.rec c.in_ok-rec.after.now (omega (arith, c.loop-test.true)) (sym c.begins_with.ensures ∙ c.if-begins_with.false)
    (read_here c.args.number c.place_of_rest-place.result place c.loop.last (last_number 0 c.loop.track) c.loop.rest.now _ c.place_of_rest-place.ensures c.loop.invariant.last c.in_ok-rec.ensures.read)
    (no_track c.fits.result (c.loop.track ++ c.in_ok-rec.rec ∷ []) c.fits.ensures.1 c.if-not-fits.true)
    ∙ ap (λ k. Err (TooLong k)) (sym c.place_of_rest-place.ensures)

pub loop-preserved : goal.loop-preserved
loop-preserved c =
    let bytes = c.args.bytes.now in
    let place = 21 + (length bytes - length c.loop.rest.now) in
    let rec = c.in_ok-rec.rec in
    let after = c.in_ok-rec.after.now in
    let long = length (counted_record c.args.number rec) in
    let next : 21 + (length bytes - length after) ≡ place + long = omega (arith, c.in_ok-rec.ensures.length, c.loop.invariant.shorter) in
    record {
      same =
          ap (λ k. records_to_end (256 - (c.loop.counter + 1)) c.args.number k c.push.new.self after) next
          ∙ ap (λ (t : List Rec). records_to_end (256 - (c.loop.counter + 1)) c.args.number (place + long) t after) c.in_ok-push.ensures.ok
          ∙ sym (at_next 256 c.loop.counter c.args.number place c.loop.track c.loop.rest.now rec after (omega (arith, c.loop-test.true)) (sym c.begins_with.ensures ∙ c.if-begins_with.false)
          (read_here c.args.number c.place_of_rest-place.result place c.loop.last (last_number 0 c.loop.track) c.loop.rest.now _ c.place_of_rest-place.ensures c.loop.invariant.last c.in_ok-rec.ensures.read)
          (c.fits.ensures.0 c.if-not-fits.false))
          ∙ c.loop.invariant.same;
      last = sym (ap (last_number 0) c.in_ok-push.ensures.ok ∙ last_of_more 0 c.loop.track rec);
      shorter = omega (arith, c.in_ok-rec.ensures.length, c.loop.invariant.shorter);
    }

pub returns : goal.returns
returns c = λ some.
    sym c.loop.invariant.same ∙ after_all 256 c.loop.counter c.args.number (21 + (length c.args.bytes.now - length c.loop.rest.now)) c.loop.track c.loop.rest.now (omega (arith, c.loop-test.false))
    ∙ ap (λ k. Err (Unended k)) (sym c.place_of_rest.ensures)
