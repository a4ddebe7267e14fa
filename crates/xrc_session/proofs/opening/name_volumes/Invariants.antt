use Rattle.std.proofs.Common.{◌≡◌, ◌++◌, take}
use Rattle.xrc_session.specs.Openings.{serials_in_header}
use Rattle.xrc_session.proofs.NamedVolumes.{names_after}
use Rattle.xrc_session.proofs.opening.name_volumes.Given as goal

-- The volumes before this one were named.
abbrev pub invariant-loop-volume : goal.invariant-loop-volume
invariant-loop-volume l = (l.names ≡ names_after l.control l.volumes l.volume l.initial.names) × (l.named.items ≡ l.initial.named.items ++ serials_in_header (take l.volume l.volumes))
