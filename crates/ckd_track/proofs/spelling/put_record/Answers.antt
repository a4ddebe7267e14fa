use Rattle.std.proofs.Common.{◌≡◌, ◌++◌, ◌≤◌, ℕ, List, length, refl, ap, ◌∙◌, arith, length-append}
use Rattle.ckd_track.specs.Images.{record_spelling}
use Rattle.ckd_track.specs.Slots.{with_bytes}
use Rattle.ckd_track.proofs.Puts.{put_three}
use Rattle.ckd_track.proofs.spelling.put_record.Goals as goal

pub returns-clause-bytes : goal.returns-clause-bytes
returns-clause-bytes c =
    let whole : c.head_bytes.result ++ (c.as_slice.result.now ++ c.as_slice-2.result.now) ≡ record_spelling c.args.rec.now = rw (c.head_bytes.ensures, c.as_slice.ensures, c.as_slice-2.ensures) refl in
    let room : c.put_bytes-content_place.result ≤ length c.args.buffer.now =
    omega (arith, c.requires.room, ap length c.head_bytes.ensures, ap length c.as_slice.ensures, c.put_bytes-key_place.ensures.end, c.put_bytes-content_place.ensures.end, length-append c.args.rec.now.key c.args.rec.now.content) in
    put_three c.args.place c.put_bytes-key_place.result c.put_bytes-content_place.result c.head_bytes.result c.as_slice.result.now c.as_slice-2.result.now c.args.buffer.now c.put_bytes-key_place.new.buffer c.put_bytes-content_place.new.buffer c.put_bytes.new.buffer
    c.put_bytes-key_place.ensures.end c.put_bytes-content_place.ensures.end room c.put_bytes-key_place.ensures.bytes c.put_bytes-content_place.ensures.bytes c.put_bytes.ensures.bytes
    ∙ ap (λ (t : List ℕ). with_bytes c.args.place t c.args.buffer.now) whole
