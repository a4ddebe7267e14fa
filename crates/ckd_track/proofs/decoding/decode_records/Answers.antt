use Rattle.std.proofs.Common.{ap, ◌∙◌, ℕ, List, Ok, arith}
use Rattle.ckd_track.proofs.Parts.{read_records}
use Rattle.ckd_track.proofs.decoding.decode_records.Goals as goal

pub overflow_sub-result : goal.overflow_sub-result
overflow_sub-result c = (read_records c.args.count c.args.after c.args.bytes.now c.in_ok-recs.rest.now c.in_ok-recs.recs (λ i. omega (arith, c.type_inv.bytes i)) c.in_ok-recs.ensures).shorter

pub returns-clause-ok : goal.returns-clause-ok
returns-clause-ok c =
    let read = read_records c.args.count c.args.after c.args.bytes.now c.in_ok-recs.rest.now c.in_ok-recs.recs (λ i. omega (arith, c.type_inv.bytes i)) c.in_ok-recs.ensures in
    (c.in_ok-recs.ensures ∙ ap (λ (t : List ℕ). Ok (c.in_ok-recs.recs, t)) read.rest_is)

pub returns-clause-length : goal.returns-clause-length
returns-clause-length c = (read_records c.args.count c.args.after c.args.bytes.now c.in_ok-recs.rest.now c.in_ok-recs.recs (λ i. omega (arith, c.type_inv.bytes i)) c.in_ok-recs.ensures).size_is
