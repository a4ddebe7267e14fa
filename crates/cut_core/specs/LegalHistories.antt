-- Which histories are legal with a number of controllers, and the cut that the mover takes.
use Rattle.std.specs.Prelude.{ℕ, zero, suc, ◌==◌, ◌&&◌, ◌||◌, not, min, List, [], ◌∷◌, ◌++◌, Bool, true, nat_lt, nat_le, if◌then◌else◌}
use Rattle.std.specs.List.{list_all}
use Rattle.ckd_track.specs.declared.write.Write.{Write}
use Rattle.xrc_edge.specs.Order.{is_in_order}
use Rattle.cut_core.specs.Events.{Event, floor, is_broken_after, is_live, last_cut}
use Rattle.cut_core.specs.Events.Event.{Join, Copied, Break, Raise, Form}
use Rattle.cut_core.specs.Shares.{share}
use Rattle.ckd_track.specs.Writes.{is_earlier}

-- each write's stamp is above the one time, and at most the other
abbrev pub are_in : (above upto : ℕ) → List Write → Bool
are_in above upto writes = list_all (λ w. nat_lt above w.stamp.0 && nat_le w.stamp.0 upto) writes

-- the cut isn't above the floor of any live controller below that number
abbrev pub is_below_floors : (controls cut : ℕ) → List Event → Bool
is_below_floors zero c past = true
is_below_floors (suc k) c past = (not (is_live k past) || nat_le c (floor k past)) && is_below_floors k c past

-- a controller that may still report: it is one of the controllers, and hasn't broken
abbrev pub may_report : (controls control : ℕ) → List Event → Bool
may_report controls k past = nat_lt k controls && not (is_broken_after k past)

-- A batch joins where its controller hasn't broken, each write's stamp is above the floor and at most `upto`, stamps don't fall,
-- and `upto` isn't below the floor. A track is copied where it is wanted, at the floor. A break or a raise isn't below the
-- floor. A cut isn't below the last cut, and is at most the floor of each live controller. The rest is always legal.
abbrev pub is_legal_next : (controls : ℕ) → List Event → Event → Bool
is_legal_next n past (Join b) =
    may_report n b.control past && are_in (floor b.control past) b.upto.0 b.writes && is_in_order is_earlier b.writes && nat_le (floor b.control past) b.upto.0
is_legal_next n past (Copied k v x s) = may_report n k past && (share k v x past).is_wanted && s == floor k past
is_legal_next n past (Break k upto) = may_report n k past && nat_le (floor k past) upto
is_legal_next n past (Raise k upto) = may_report n k past && nat_le (floor k past) upto
is_legal_next n past (Form c) = nat_le (last_cut past) c && is_below_floors n c past
is_legal_next n past e = true

-- these events are legal after those, one after another
abbrev pub are_legal : (controls : ℕ) → List Event → List Event → Bool
are_legal n past [] = true
are_legal n past (e ∷ later) = is_legal_next n past e && are_legal n (past ++ e ∷ []) later

-- The cut that the mover takes: the least of the limit and all live floors.
abbrev pub least_floor : (controls limit : ℕ) → List Event → ℕ
least_floor zero limit past = limit
least_floor (suc k) limit past = if is_live k past then min (floor k past) (least_floor k limit past) else least_floor k limit past
