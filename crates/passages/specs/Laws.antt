-- The laws of points that are passed. Each is the contract of a public function.
use Rattle.std.specs.Prelude.{◌≡◌, ℕ, ◌≤◌, List, ◌++◌, length, map, take, fold, Bool, true, Option, Some, None, IfSome, option_map}
use Rattle.std.specs.List.{All}
use Rattle.passages.specs.Points.{AreLinked, GoesThrough, Passed, Throughout, last_point, was_so}
use Rattle.passages.specs.Lasting.{HasBeenSo}
use Rattle.passages.specs.Telling.{told_by}

-- What is passed up to a moment, with nothing on its way, and what is passed from it on, is passed in a row.
abbrev pub PassedGoInARow : (P W C : Type 0) → (left : ℕ → C → Type 0) → (shows : P → C → Type 0) → Type 0
PassedGoInARow P W C left shows = (from mid to : ℕ) (p : P) (xs ys : List (Passed P W)) (next : Option P) → GoesThrough left shows from p xs mid None → GoesThrough left shows mid (last_point p xs) ys to next
    → GoesThrough left shows from p (xs ++ ys) to next

-- Whatever a crash leaves at a moment shows the last of the points up to some place.
abbrev pub PassedShowSome : (P W C : Type 0) → (left : ℕ → C → Type 0) → (shows : P → C → Type 0) → Type 0
PassedShowSome P W C left shows = (from to : ℕ) (p : P) (xs : List (Passed P W)) → GoesThrough left shows from p xs to None → Throughout left from to (λ c. (n : ℕ) × (n ≤ length xs) × shows (last_point p (take n xs)) c)

-- The last moment isn't before the first.
abbrev pub MomentsRise : (P W C : Type 0) → (left : ℕ → C → Type 0) → (shows : P → C → Type 0) → Type 0
MomentsRise P W C left shows = (from to : ℕ) (p : P) (xs : List (Passed P W)) (next : Option P) → GoesThrough left shows from p xs to next → from ≤ to

-- Where each point is good, whatever a crash leaves at each moment shows a good one.
abbrev pub PassedShowGoodOnes : (P W C : Type 0) → (left : ℕ → C → Type 0) → (shows : P → C → Type 0) → (good : P → Type 0) → Type 0
PassedShowGoodOnes P W C left shows good = (from to : ℕ) (p : P) (xs : List (Passed P W)) (next : Option P) → good p → All (λ n. good n.point) xs → IfSome next good → GoesThrough left shows from p xs to next
    → Throughout left from to (λ c. (q : P) × good q × shows q c)

-- Where nothing is on its way, anything may be said to be.
abbrev pub AnyMayBeOnItsWay : (P W C : Type 0) → (left : ℕ → C → Type 0) → (shows : P → C → Type 0) → Type 0
AnyMayBeOnItsWay P W C left shows = (from to : ℕ) (p q : P) (xs : List (Passed P W)) → GoesThrough left shows from p xs to None → GoesThrough left shows from p xs to (Some q)

-- Points that are passed are passed as others that tell of them, where whatever shows a good one shows what tells of it.
abbrev pub PassedToldOtherwise : (P W Q V C : Type 0) → (left : ℕ → C → Type 0) → (shows : P → C → Type 0) → (good : P → Type 0) → (tells : Q → C → Type 0) → Type 0
PassedToldOtherwise P W Q V C left shows good tells = (told : P → Q) (way : Passed P W → V) (from to : ℕ) (p : P) (xs : List (Passed P W)) (next : Option P) → ((q : P) (c : C) → good q → shows q c → tells (told q) c)
    → good p → All (λ n. good n.point) xs → IfSome next good → GoesThrough left shows from p xs to next → GoesThrough left tells from (told p) (map (told_by told way) xs) to (option_map told next)

-- What was passed stays passed where no more is left at the moments up to then.
abbrev pub PassedStay : (P W C : Type 0) → (left later : ℕ → C → Type 0) → (shows : P → C → Type 0) → Type 0
PassedStay P W C left later shows = (from to : ℕ) (p : P) (xs : List (Passed P W)) (next : Option P) → ((t : ℕ) → t ≤ to → (c : C) → later t c → left t c) → GoesThrough left shows from p xs to next
    → GoesThrough later shows from p xs to next

-- Links go on in a row.
abbrev pub LinksGoOn : (B N : Type 0) → (link : B → N → Type 0) → (after : B → N → B) → Type 0
LinksGoOn B N link after = (base : B) (xs ys : List N) → AreLinked link after base xs → AreLinked link after (fold after base xs) ys → AreLinked link after base (xs ++ ys)

-- The test over points tells what moments say. A crash may leave something at each of them, and all that it leaves at the beginning shows
-- the first point.
abbrev pub PointsTellSince : (P W C : Type 0) → (left : ℕ → C → Type 0) → (shows : P → C → Type 0) → Type 0
PointsTellSince P W C left shows = (so now : P → Bool) (so_meant now_meant : C → Bool) (from to : ℕ) (p : P) (xs : List (Passed P W)) → ((q : P) (c : C) → shows q c → so_meant c ≡ so q) → ((q : P) (c : C) → shows q c → now_meant c ≡ now q)
    → Throughout left from from (shows p) → GoesThrough left shows from p xs to None → ((t : ℕ) → from ≤ t → t ≤ to → (c : C) × left t c)
    → (was_so so now (so p) xs ≡ true → HasBeenSo C left so_meant now_meant from to) × (HasBeenSo C left so_meant now_meant from to → was_so so now (so p) xs ≡ true)
