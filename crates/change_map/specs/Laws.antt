-- The laws of sets of tracks. Each is the contract of a public function without parameters.
use Rattle.std.specs.Prelude.{◌≡◌, ℕ, ◌<◌, ◌==◌, ◌&&◌, ◌||◌, not, nat_lt, List, length, Bool, false}
use Rattle.change_map.specs.Sets.{no_track, every_track, has_track, with_track, without_track, union}

-- ---- which tracks a set has

abbrev pub NoneHasNone : Type 0
NoneHasNone = (tracks x : ℕ) → has_track (no_track tracks) x ≡ false

abbrev pub EveryHasAll : Type 0
EveryHasAll = (tracks x : ℕ) → has_track (every_track tracks) x ≡ nat_lt x tracks

abbrev pub WithAddsOne : Type 0
WithAddsOne = (set : List Bool) (x y : ℕ) → x < length set → has_track (with_track set x) y ≡ (y == x || has_track set y)

abbrev pub WithoutTakesOne : Type 0
WithoutTakesOne = (set : List Bool) (x y : ℕ) → has_track (without_track set x) y ≡ (not (y == x) && has_track set y)

abbrev pub UnionHasBoth : Type 0
UnionHasBoth = (set others : List Bool) (x : ℕ) → length others ≡ length set → has_track (union set others) x ≡ (has_track set x || has_track others x)

-- Two sets of as many tracks that have the same ones are one.
abbrev pub SameTracksSameSet : Type 0
SameTracksSameSet = (set others : List Bool) → length set ≡ length others → ((x : ℕ) → has_track set x ≡ has_track others x) → set ≡ others
