use Rattle.std.proofs.Common.{◌≡◌, ◌∙◌, ◌≤◌, ◌++◌, ◌∷◌, [], ℕ, sym, subst, ap, arith, List, length, refl}
use Rattle.std.specs.List.{flat_map}
use Rattle.ckd_track.specs.declared.rec.Rec.{Rec}
use Rattle.ckd_track.specs.declared.write.Kind.{Kind}
use Rattle.ckd_track.specs.Tracks.{IsTrack}
use Rattle.ckd_track.specs.Images.{record_spelling}
use Rattle.ckd_track.specs.Entries.{kind_spelling}
use Rattle.ckd_track.specs.Slots.{with_bytes}
use Rattle.ckd_track.proofs.KindLaws.{format_is_track}
use Rattle.ckd_track.proofs.Puts.{few, put_two}
use Rattle.ckd_track.proofs.entry.put_fields.Goals as goal

pub overflow_cast-len : goal.overflow_cast-len
overflow_cast-len c = omega (arith, few c.in-Format.recs (format_is_track c.args.kind.now c.in-Format.after c.in-Format.recs c.requires.rules c.in-Format.is), c.len-in-Format.ensures)

pub put_records-requires-clause-track : goal.put_records-requires-clause-track
put_records-requires-clause-track c = subst (λ (t : List Rec). IsTrack t) (sym c.as_slice-in-Format.ensures) (format_is_track c.args.kind.now c.in-Format.after c.in-Format.recs c.requires.rules c.in-Format.is)

pub returns-in-Update-clause-bytes : goal.returns-in-Update-clause-bytes
returns-in-Update-clause-bytes c =
    let whole : c.update_head.result ++ c.as_slice.result.now ≡ kind_spelling c.args.kind.now = rw (c.update_head.ensures, c.len.ensures, c.as_slice.ensures, c.in-Update.is) refl in
    let room : c.put_bytes-next.result ≤ length c.args.out.now =
    omega (arith, c.requires.room, ap (λ (k : Kind). length (kind_spelling k)) c.in-Update.is, c.put_bytes-next.ensures.end, ap length c.update_head.ensures) in
    put_two c.args.place c.put_bytes-next.result c.update_head.result c.as_slice.result.now c.args.out.now c.put_bytes-next.new.buffer c.put_bytes.new.buffer c.put_bytes-next.ensures.end room c.put_bytes-next.ensures.bytes c.put_bytes.ensures.bytes
    ∙ ap (λ (t : List ℕ). with_bytes c.args.place t c.args.out.now) whole

pub returns-in-Format-clause-bytes : goal.returns-in-Format-clause-bytes
returns-in-Format-clause-bytes c =
    let head : List ℕ = c.in-Format.after ∷ c.len-in-Format.result ∷ [] in
    let spelled = flat_map record_spelling c.as_slice-in-Format.result.now in
    let whole : head ++ spelled ≡ kind_spelling c.args.kind.now = rw (c.len-in-Format.ensures, c.as_slice-in-Format.ensures, c.in-Format.is) refl in
    let room : c.put_bytes-next-in-Format.result ≤ length c.args.out.now =
    omega (arith, c.requires.room, ap (λ (k : Kind). length (kind_spelling k)) c.in-Format.is, c.put_bytes-next-in-Format.ensures.end) in
    put_two c.args.place c.put_bytes-next-in-Format.result head spelled c.args.out.now c.put_bytes-next-in-Format.new.buffer c.put_records.new.buffer c.put_bytes-next-in-Format.ensures.end room c.put_bytes-next-in-Format.ensures.bytes c.put_records.ensures.bytes
    ∙ ap (λ (t : List ℕ). with_bytes c.args.place t c.args.out.now) whole
