use Rattle.std.proofs.Common.{◌≡◌, ◌≤◌, ◌+◌, ℕ, List, length, ap, ◌∙◌, arith}
use Rattle.std.specs.Int.{w16, to_be_bytes}
use Rattle.std.specs.List.{flat_map}
use Rattle.ckd_track.specs.Images.{record_spelling}
use Rattle.ckd_track.specs.Slots.{with_bytes}
use Rattle.ckd_track.proofs.Puts.{put_next}
use Rattle.ckd_track.proofs.spelling.put_image.Goals as goal

pub returns-clause-bytes : goal.returns-clause-bytes
returns-clause-bytes c =
    let count = to_be_bytes w16 (length c.args.recs.now) in
    let records = flat_map record_spelling c.args.recs.now in
    let counted : c.put_bytes-records.new.buffer ≡ with_bytes c.args.place count c.args.buffer.now = c.put_bytes-records.ensures.bytes ∙ ap (λ (t : List ℕ). with_bytes c.args.place t c.args.buffer.now) c.count_bytes.ensures in
    let end : c.put_bytes-records.result ≡ c.args.place + length count = omega (arith, c.put_bytes-records.ensures.end, ap length c.count_bytes.ensures) in
    let room : c.put_bytes-records.result ≤ length c.args.buffer.now = omega (arith, end, c.requires.room) in
    c.put_records.ensures.bytes ∙ ap (with_bytes c.put_bytes-records.result records) counted ∙ put_next c.args.place c.put_bytes-records.result count records c.args.buffer.now end room
