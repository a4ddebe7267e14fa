use Rattle.std.proofs.Common.{◌∙◌, ◌+◌, ap, sym, arith, take, length, List, ℕ}
use Rattle.ckd_track.specs.Slots.{track_of_image, with_bytes, spelled_records}
use Rattle.ckd_track.proofs.Formatting.{fits_after_kept, taken_is, format_holds, formatted_lost}
use Rattle.ckd_track.proofs.changes.format_image_spelled.Goals as goal

pub returns-then-front-after-clause-seen : goal.returns-then-front-after-clause-seen
returns-then-front-after-clause-seen c =
    formatted_lost c.args.after (spelled_records c.args.count c.args.given.now) (track_of_image (take c.args.used c.args.buffer.now)) c.kept-front.result c.requires.holds.begins.is_track c.kept-front.ensures c.if-front-after.true

pub slice_bounds-put_bytes-end : goal.slice_bounds-put_bytes-end
slice_bounds-put_bytes-end c =
    let t = taken_is (spelled_records c.args.count c.args.given.now) c.args.given.now c.kept-front.result.room c.fitting_front-taken.result c.requires.spelled.spelled c.fitting_front-taken.ensures in
    t.end ∙ sym (ap length t.bytes)

pub put_bytes-end-requires : goal.put_bytes-end-requires
put_bytes-end-requires c =
    let t = taken_is (spelled_records c.args.count c.args.given.now) c.args.given.now c.kept-front.result.room c.fitting_front-taken.result c.requires.spelled.spelled c.fitting_front-taken.ensures in
    let b = fits_after_kept c.args.after c.args.used (spelled_records c.args.count c.args.given.now) c.args.buffer.now c.kept-front.result c.requires.holds c.requires.above c.kept-front.ensures in
    omega (arith, b.short, ap length t.bytes, c.requires.holds.sized)

pub overflow_add-front : goal.overflow_add-front
overflow_add-front c =
    let t = taken_is (spelled_records c.args.count c.args.given.now) c.args.given.now c.kept-front.result.room c.fitting_front-taken.result c.requires.spelled.spelled c.fitting_front-taken.ensures in
    let b = fits_after_kept c.args.after c.args.used (spelled_records c.args.count c.args.given.now) c.args.buffer.now c.kept-front.result c.requires.holds c.requires.above c.kept-front.ensures in
    omega (arith, b.few, t.count)

pub returns-clause-holds : goal.returns-clause-holds
returns-clause-holds c =
    let t = taken_is (spelled_records c.args.count c.args.given.now) c.args.given.now c.kept-front.result.room c.fitting_front-taken.result c.requires.spelled.spelled c.fitting_front-taken.ensures in
    let kept = c.kept-front.result in
    (format_holds c.args.after c.args.used (kept.count + c.fitting_front-taken.result.count) c.put_bytes-end.result (spelled_records c.args.count c.args.given.now) c.args.buffer.now c.put_bytes-end.new.buffer c.write_u16.new.buf kept
    c.requires.holds c.requires.above c.kept-front.ensures c.if-front-after.false
    (c.put_bytes-end.ensures.bytes ∙ ap (λ (b : List ℕ). with_bytes kept.end b c.args.buffer.now) t.bytes)
    (c.put_bytes-end.ensures.end ∙ ap (λ (b : List ℕ). kept.end + length b) t.bytes)
    (ap (λ n. kept.count + n) t.count) c.write_u16.ensures).holds

pub returns-clause-seen : goal.returns-clause-seen
returns-clause-seen c =
    let t = taken_is (spelled_records c.args.count c.args.given.now) c.args.given.now c.kept-front.result.room c.fitting_front-taken.result c.requires.spelled.spelled c.fitting_front-taken.ensures in
    let kept = c.kept-front.result in
    (format_holds c.args.after c.args.used (kept.count + c.fitting_front-taken.result.count) c.put_bytes-end.result (spelled_records c.args.count c.args.given.now) c.args.buffer.now c.put_bytes-end.new.buffer c.write_u16.new.buf kept
    c.requires.holds c.requires.above c.kept-front.ensures c.if-front-after.false
    (c.put_bytes-end.ensures.bytes ∙ ap (λ (b : List ℕ). with_bytes kept.end b c.args.buffer.now) t.bytes)
    (c.put_bytes-end.ensures.end ∙ ap (λ (b : List ℕ). kept.end + length b) t.bytes)
    (ap (λ n. kept.count + n) t.count) c.write_u16.ensures).seen
