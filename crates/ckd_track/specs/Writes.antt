-- Writes by their stamps.
use Rattle.std.specs.Prelude.{ℕ, List, map, Bool, nat_lt}
use Rattle.xrc_edge.specs.Order.{never_fall}
use Rattle.ckd_track.specs.declared.write.Write.{Write}

-- whether a write has the lower stamp
abbrev pub is_earlier : Write → Write → Bool
is_earlier a b = nat_lt a.stamp.0 b.stamp.0

-- the stamps of writes never fall, from `last` on
abbrev pub writes_never_fall : (last : ℕ) → List Write → Bool
writes_never_fall last writes = never_fall last (map (λ w. w.stamp.0) writes)
