use Rattle.std.proofs.Common.{sym, subst, ap, arith, List, length}
use Rattle.std.specs.List.{flat_map}
use Rattle.ckd_track.specs.declared.rec.Rec.{Rec}
use Rattle.ckd_track.specs.Tracks.{IsTrack}
use Rattle.ckd_track.specs.Images.{record_spelling}
use Rattle.ckd_track.proofs.KindLaws.{format_is_track, short_records}
use Rattle.ckd_track.proofs.entry.fields_len.Goals as goal

pub spelled_length-requires : goal.spelled_length-requires
spelled_length-requires c = record { track = subst (λ (t : List Rec). IsTrack t) (sym c.as_slice.ensures) (format_is_track c.args.kind.now c.in-Format.after c.in-Format.recs c.requires c.in-Format.is) }

pub overflow_add-result-in-Format : goal.overflow_add-result-in-Format
overflow_add-result-in-Format c =
    let short = short_records c.in-Format.recs (format_is_track c.args.kind.now c.in-Format.after c.in-Format.recs c.requires c.in-Format.is) in
    omega (arith, short, c.spelled_length.ensures, ap (λ (t : List Rec). length (flat_map record_spelling t)) c.as_slice.ensures)

pub overflow_add-result-in-Whole : goal.overflow_add-result-in-Whole
overflow_add-result-in-Whole c =
    let short = short_records c.in-Whole.track c.recs.ensures.track in
    omega (arith, short, c.spelled_length-in-Whole.ensures, ap (λ (t : List Rec). length (flat_map record_spelling t)) c.recs.ensures.recs)

pub returns-in-Format-clause-short : goal.returns-in-Format-clause-short
returns-in-Format-clause-short c =
    let short = short_records c.in-Format.recs (format_is_track c.args.kind.now c.in-Format.after c.in-Format.recs c.requires c.in-Format.is) in
    omega (arith, short, c.spelled_length.ensures, ap (λ (t : List Rec). length (flat_map record_spelling t)) c.as_slice.ensures)

pub returns-in-Whole-clause-short : goal.returns-in-Whole-clause-short
returns-in-Whole-clause-short c =
    let short = short_records c.in-Whole.track c.recs.ensures.track in
    omega (arith, short, c.spelled_length-in-Whole.ensures, ap (λ (t : List Rec). length (flat_map record_spelling t)) c.recs.ensures.recs)
