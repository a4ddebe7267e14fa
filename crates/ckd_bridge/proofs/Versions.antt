-- A track of an image can be named in a trace of either version.
use Rattle.std.proofs.Common.{ℕ, ◌*◌, ◌<◌, ◌≤◌, Bool, true, false, cond, nat_eq, arith}
use Rattle.write_trace.specs.Headers.{most_cylinders}

least_most : (first : Bool) → 65520 ≤ cond first 65520 1000000
least_most true = omega arith
least_most false = omega arith

pub track_is_near : (version track : ℕ) → track < 15 * 65520 → track < 15 * most_cylinders version
track_is_near version track lt = omega (arith, lt, least_most (nat_eq version 1))
