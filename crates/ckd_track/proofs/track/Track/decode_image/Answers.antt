use Rattle.std.proofs.Common.{arith}
use Rattle.ckd_track.proofs.Parts.{read_track}
use Rattle.ckd_track.proofs.track.Track.decode_image.Goals as goal

pub of_records-requires : goal.of_records-requires
of_records-requires c = record { track = rw c.into_vec.ensures (read_track c.args.bytes.now c.in_ok-recs.rest.now c.in_ok-recs.recs (λ i. omega (arith, c.type_inv.bytes i)) c.in_ok-recs.ensures).is_track }

pub overflow_sub-result : goal.overflow_sub-result
overflow_sub-result c = (read_track c.args.bytes.now c.in_ok-recs.rest.now c.in_ok-recs.recs (λ i. omega (arith, c.type_inv.bytes i)) c.in_ok-recs.ensures).shorter

pub returns-clause-ok : goal.returns-clause-ok
returns-clause-ok c = rw (c.of_records.ensures, c.into_vec.ensures) (read_track c.args.bytes.now c.in_ok-recs.rest.now c.in_ok-recs.recs (λ i. omega (arith, c.type_inv.bytes i)) c.in_ok-recs.ensures).found

pub returns-clause-length : goal.returns-clause-length
returns-clause-length c = rw (c.of_records.ensures, c.into_vec.ensures) (read_track c.args.bytes.now c.in_ok-recs.rest.now c.in_ok-recs.recs (λ i. omega (arith, c.type_inv.bytes i)) c.in_ok-recs.ensures).size_is
