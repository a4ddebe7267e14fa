use Rattle.std.proofs.Common.{◌≡◌, drop}
use Rattle.xrc_session.specs.Openings.{first_named_again}
use Rattle.xrc_session.proofs.opening.check_serials.Given as goal

-- No volume before this one has a serial that was named.
abbrev pub invariant-loop-volume : goal.invariant-loop-volume
invariant-loop-volume l = first_named_again l.named 0 l.volumes ≡ first_named_again l.named l.volume (drop l.volume l.volumes)
