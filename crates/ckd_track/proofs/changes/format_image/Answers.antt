use Rattle.std.proofs.Common.{◌∙◌, ◌+◌, ap, sym, subst, arith, take, length, List}
use Rattle.std.specs.List.{flat_map}
use Rattle.ckd_track.specs.declared.rec.Rec.{Rec}
use Rattle.ckd_track.specs.Tracks.{IsTrack}
use Rattle.ckd_track.specs.Images.{record_spelling}
use Rattle.ckd_track.specs.Slots.{track_of_image, with_bytes}
use Rattle.ckd_track.proofs.RowLaws.{above_is_track, above_rises}
use Rattle.ckd_track.proofs.Formatting.{fits_after_kept, format_holds, formatted_lost}
use Rattle.ckd_track.proofs.changes.format_image.Goals as goal

pub returns-then-front-after-clause-seen : goal.returns-then-front-after-clause-seen
returns-then-front-after-clause-seen c =
    formatted_lost c.args.after c.args.given.now (track_of_image (take c.args.used c.args.buffer.now)) c.kept-front.result c.requires.holds.begins.is_track c.kept-front.ensures c.if-front-after.true

pub fitting_records-taken-requires : goal.fitting_records-taken-requires
fitting_records-taken-requires c =
    record { track = above_is_track c.args.after c.args.given.now c.requires.above }

pub put_records-end-requires-clause-track : goal.put_records-end-requires-clause-track
put_records-end-requires-clause-track c =
    let b = fits_after_kept c.args.after c.args.used c.args.given.now c.args.buffer.now c.kept-front.result c.requires.holds (above_rises c.args.after c.args.given.now c.requires.above) c.kept-front.ensures in
    subst (λ (t : List Rec). IsTrack t) (sym c.fitting_records-taken.ensures) b.is_track

pub put_records-end-requires-clause-room : goal.put_records-end-requires-clause-room
put_records-end-requires-clause-room c =
    let b = fits_after_kept c.args.after c.args.used c.args.given.now c.args.buffer.now c.kept-front.result c.requires.holds (above_rises c.args.after c.args.given.now c.requires.above) c.kept-front.ensures in
    omega (arith, b.short, ap (λ (t : List Rec). length (flat_map record_spelling t)) c.fitting_records-taken.ensures, c.requires.holds.sized)

pub overflow_cast-taken : goal.overflow_cast-taken
overflow_cast-taken c =
    let b = fits_after_kept c.args.after c.args.used c.args.given.now c.args.buffer.now c.kept-front.result c.requires.holds (above_rises c.args.after c.args.given.now c.requires.above) c.kept-front.ensures in
    omega (arith, b.few, ap (λ (t : List Rec). length t) c.fitting_records-taken.ensures)

pub overflow_add-front : goal.overflow_add-front
overflow_add-front c =
    let b = fits_after_kept c.args.after c.args.used c.args.given.now c.args.buffer.now c.kept-front.result c.requires.holds (above_rises c.args.after c.args.given.now c.requires.above) c.kept-front.ensures in
    omega (arith, b.few, ap (λ (t : List Rec). length t) c.fitting_records-taken.ensures)

pub returns-clause-holds : goal.returns-clause-holds
returns-clause-holds c =
    let kept = c.kept-front.result in
    let taken = c.fitting_records-taken.ensures in
    (format_holds c.args.after c.args.used (kept.count + length c.fitting_records-taken.result.now) c.put_records-end.result c.args.given.now c.args.buffer.now c.put_records-end.new.buffer c.write_u16.new.buf kept
    c.requires.holds (above_rises c.args.after c.args.given.now c.requires.above) c.kept-front.ensures c.if-front-after.false
    (c.put_records-end.ensures.bytes ∙ ap (λ (t : List Rec). with_bytes kept.end (flat_map record_spelling t) c.args.buffer.now) taken)
    (c.put_records-end.ensures.end ∙ ap (λ (t : List Rec). kept.end + length (flat_map record_spelling t)) taken)
    (ap (λ (t : List Rec). kept.count + length t) taken) c.write_u16.ensures).holds

pub returns-clause-seen : goal.returns-clause-seen
returns-clause-seen c =
    let kept = c.kept-front.result in
    let taken = c.fitting_records-taken.ensures in
    (format_holds c.args.after c.args.used (kept.count + length c.fitting_records-taken.result.now) c.put_records-end.result c.args.given.now c.args.buffer.now c.put_records-end.new.buffer c.write_u16.new.buf kept
    c.requires.holds (above_rises c.args.after c.args.given.now c.requires.above) c.kept-front.ensures c.if-front-after.false
    (c.put_records-end.ensures.bytes ∙ ap (λ (t : List Rec). with_bytes kept.end (flat_map record_spelling t) c.args.buffer.now) taken)
    (c.put_records-end.ensures.end ∙ ap (λ (t : List Rec). kept.end + length (flat_map record_spelling t)) taken)
    (ap (λ (t : List Rec). kept.count + length t) taken) c.write_u16.ensures).seen
