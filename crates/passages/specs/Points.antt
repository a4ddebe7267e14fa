-- Points that are passed in a row, and what a crash may leave meanwhile. A point is what the devices of a site mean between two of their
-- records or marks.
use Rattle.std.specs.Prelude.{◌⊎◌, ℕ, ◌≤◌, ◌&&◌, ◌||◌, List, [], ◌∷◌, fold, Bool, Option, Some, None}

-- A point that was passed: the moment at which whatever a crash leaves shows it, and the way that led to it.
pub record Passed (P W : Type 0) : Type 0 where
  pub moment : ℕ
  pub point : P
  pub way : W

-- At each moment from one to another whatever a crash leaves is so. `left` is what a crash may leave at a moment.
abbrev pub Throughout : {C : Type 0} → (left : ℕ → C → Type 0) → (from to : ℕ) → (C → Type 0) → Type 0
Throughout left from to is = (t : ℕ) → from ≤ t → t ≤ to → (c : _) → left t c → is c

-- From a point on these are passed, in order. Between two of them whatever a crash leaves shows the one or the other, and at its own
-- moment each is shown by all. After the last one it is shown alone, or it and the next one, which is on its way.
abbrev pub GoesThrough : {P W C : Type 0} → (left : ℕ → C → Type 0) → (shows : P → C → Type 0) → (from : ℕ) → P → List (Passed P W) → (to : ℕ) → (on_its_way : Option P) → Type 0
GoesThrough left shows from p [] to None = (from ≤ to) × Throughout left from to (shows p)
GoesThrough left shows from p [] to (Some q) = (from ≤ to) × Throughout left from to (λ c. shows p c ⊎ shows q c)
GoesThrough left shows from p (n ∷ more) to next =
    (from ≤ n.moment) × Throughout left from n.moment (λ c. shows p c ⊎ shows n.point c) × Throughout left n.moment n.moment (shows n.point) × GoesThrough left shows n.moment n.point more to next

-- the last point of these
abbrev pub last_point : {P W : Type 0} → P → List (Passed P W) → P
last_point p [] = p
last_point p (n ∷ more) = last_point n.point more

-- Each of these comes after those before it. `after` is what one leaves to those after it.
abbrev pub AreLinked : {B N : Type 0} → (link : B → N → Type 0) → (after : B → N → B) → B → List N → Type 0
AreLinked link after base [] = Unit {0}
AreLinked link after base (n ∷ more) = link base n × AreLinked link after (after base n) more

-- Whether something was so at a point, and since then at each one that, or what is so now. `first` says whether it was so before these.
abbrev pub was_so : {P W : Type 0} → (so now : P → Bool) → (first : Bool) → List (Passed P W) → Bool
was_so so now first points = fold (λ was n. so n.point || (now n.point && was)) first points
