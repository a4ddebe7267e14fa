use Rattle.std.proofs.Common.{◌≡◌, take}
use Rattle.xrc_session.specs.Replying.{causes_in}
use Rattle.xrc_session.proofs.replying.ReplyText.take_causes.Given as goal

abbrev pub invariant-loop-control : goal.invariant-loop-control
invariant-loop-control g l = (l.self.causes ≡ causes_in (take l.control l.fn.traces)) × (l.self.bytes ≡ l.fn.self.bytes)
