use Rattle.std.proofs.Common.{refl}
use Rattle.ckd_bridge.proofs.Headers.{opening_is}
use Rattle.ckd_bridge.proofs.commands.before_base.Goals as goal

pub returns : goal.returns
returns c = rw (c.in_ok-extend_from_slice.ensures.ok, c.truncate.ensures, c.to_be_bytes.ensures, c.len.ensures) (opening_is c.args.serial c.args.cylinders c.header.new.out (rw (c.in_ok-header.ensures.ok, c.make-bytes.ensures, c.in_ok-push.ensures.ok, c.make-volumes.ensures, c.make.ensures) refl))
