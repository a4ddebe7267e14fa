use Rattle.std.proofs.Common.{◌∙◌, [], sym, ap}
use Rattle.std.specs.Prelude.{unwrap_or}
use Rattle.ckd_track.specs.SlotPlaces.{track_read}
use Rattle.workload.proofs.Holding.{none_is_read}
use Rattle.workload.proofs.tracks.decoded.Goals as goal

pub returns-in-Ok : goal.returns-in-Ok
returns-in-Ok c = sym (ap (λ (r : _). unwrap_or (track_read r) []) c.in-Ok.ensures.ok)

pub returns-in-Err-Short : goal.returns-in-Err-Short
returns-in-Err-Short c = c.make.ensures ∙ sym (none_is_read c.args.bytes.now c.in-Err-Short.field-0 (λ same. absurd (cc (same, c.in-Err-Short.field-0-is))) c.in-Err-Short.ensures.err)

pub returns-in-Err-TooBig : goal.returns-in-Err-TooBig
returns-in-Err-TooBig c = c.make-in-Err-TooBig.ensures ∙ sym (none_is_read c.args.bytes.now c.in-Err-TooBig.field-0 (λ same. absurd (cc (same, c.in-Err-TooBig.field-0-is))) c.in-Err-TooBig.ensures.err)

pub returns-in-Err-Order : goal.returns-in-Err-Order
returns-in-Err-Order c = c.make-in-Err-Order.ensures ∙ sym (none_is_read c.args.bytes.now c.in-Err-Order.field-0 (λ same. absurd (cc (same, c.in-Err-Order.field-0-is))) c.in-Err-Order.ensures.err)
