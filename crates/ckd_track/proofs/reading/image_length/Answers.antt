use Rattle.std.proofs.Common.{arith}
use Rattle.ckd_track.proofs.Parts.{read_image}
use Rattle.ckd_track.proofs.Wants.{refused_otherwise}
use Rattle.ckd_track.proofs.reading.image_length.Goals as goal

pub overflow_sub-result : goal.overflow_sub-result
overflow_sub-result c = (read_image c.args.bytes.now c.in-Ok.rest.now (λ i. omega (arith, c.type_inv.bytes i)) c.in-Ok.ensures).shorter

pub returns-in-Ok-clause-ok : goal.returns-in-Ok-clause-ok
returns-in-Ok-clause-ok c = (read_image c.args.bytes.now c.in-Ok.rest.now (λ i. omega (arith, c.type_inv.bytes i)) c.in-Ok.ensures).found

pub returns-in-Ok-clause-length : goal.returns-in-Ok-clause-length
returns-in-Ok-clause-length c = (read_image c.args.bytes.now c.in-Ok.rest.now (λ i. omega (arith, c.type_inv.bytes i)) c.in-Ok.ensures).size_is

pub returns-in-Err-clause-memory : goal.returns-in-Err-clause-memory
returns-in-Err-clause-memory c = λ e. refused_otherwise c.args.bytes.now c.in-Err.error c.in-Err.ensures cc
