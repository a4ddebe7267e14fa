use Rattle.std.proofs.Common.{◌∷◌, [], sym, subst, arith, List}
use Rattle.ckd_track.specs.declared.rec.Rec.{Rec}
use Rattle.ckd_track.specs.Tracks.{IsTrack}
use Rattle.ckd_track.proofs.KindLaws.{format_is_track}
use Rattle.ckd_track.proofs.Puts.{few, kept_through}
use Rattle.ckd_track.proofs.entry.append_fields.Goals as goal

pub overflow_cast-len : goal.overflow_cast-len
overflow_cast-len c = omega (arith, few c.in-Format.recs (format_is_track c.args.kind.now c.in-Format.after c.in-Format.recs c.requires.rules c.in-Format.is), c.len-in-Format.ensures)

pub append_records-requires : goal.append_records-requires
append_records-requires c = record { track = subst (λ (t : List Rec). IsTrack t) (sym c.as_slice-in-Format.ensures) (format_is_track c.args.kind.now c.in-Format.after c.in-Format.recs c.requires.rules c.in-Format.is) }

pub returns-in_ok-extend_from_slice-in-Format-clause-kept : goal.returns-in_ok-extend_from_slice-in-Format-clause-kept
returns-in_ok-extend_from_slice-in-Format-clause-kept c =
    kept_through c.args.out.now (c.in-Format.after ∷ c.len-in-Format.result ∷ []) c.extend_from_slice-in-Format.new.self c.append_records.new.out c.in_ok-extend_from_slice-in-Format.ensures.ok c.append_records.ensures.kept
