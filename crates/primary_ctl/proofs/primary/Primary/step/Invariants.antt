use Rattle.std.proofs.Common.{◌≡◌, ℕ, take}
use Rattle.std.specs.Prelude.{filter}
use Rattle.primary_ctl.specs.States.{track_in, after_writes, is_on}
use Rattle.primary_ctl.proofs.primary.Primary.step.Given as goal

abbrev pub invariant-loop-write : goal.invariant-loop-write
invariant-loop-write l = record {
  volumes : l.self-inside.volumes ≡ l.initial.self-inside.volumes;
  empty : l.self-inside.empty ≡ l.initial.self-inside.empty;
  tracks : (v t : ℕ) → track_in l.self-inside.held v t ≡ after_writes (track_in l.initial.self-inside.held v t) (filter (is_on v t) (take l.write-index l.write-items));
}
