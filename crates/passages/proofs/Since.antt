-- What was so at a point and since then, told of points and of moments.
use Rattle.std.proofs.Common.{◌≡◌, ◌⊎◌, inl, inr, ℕ, ◌<◌, ◌≤◌, Bool, true, false, ◌&&◌, ◌||◌, List, [], ◌∷◌, None, refl, sym, ◌∙◌, arith}
use Rattle.std.specs.Prelude.{fold}
use Rattle.std.proofs.lemmas.Bool.{and_parts, cases_lt, or_cases, or_left, or_right}
use Rattle.passages.specs.Points.{GoesThrough, Passed, Throughout, was_so}
use Rattle.passages.specs.Lasting.{HasBeenSo}
use Rattle.passages.proofs.InARow.{moments_rise}

-- `so` and `now` tell points apart, and `so_meant` and `now_meant` what a crash leaves.
module _ (P W C : Type 0) (left : ℕ → C → Type 0) (shows : P → C → Type 0) (so now : P → Bool) (so_meant now_meant : C → Bool) (so_shown : (p : P) (c : C) → shows p c → so_meant c ≡ so p) (now_shown : (p : P) (c : C) → shows p c → now_meant c ≡ now p) where
  abbrev IsEither : C → Type 0
  IsEither c = (so_meant c ≡ true) ⊎ (now_meant c ≡ true)

  -- At a moment between these it was so by all, and since then up to the last one it was that, or what is so now.
  pub record WasSince (first to : ℕ) : Type 0 where
    pub moment : ℕ
    pub since : first ≤ moment
    pub within : moment ≤ to
    pub so_there : Throughout left moment moment (λ c. so_meant c ≡ true)
    pub later : Throughout left moment to IsEither

  -- What a choice that shows a point has.
  so_of : (p : P) (c : C) → shows p c → so p ≡ true → so_meant c ≡ true
  so_of p c shown is = so_shown p c shown ∙ is

  either_of : (p : P) (c : C) → shows p c → (so p || now p) ≡ true → IsEither c
  either_of p c shown is = elim (or_cases (so p) (now p) is) [ inl a ↦ inl (so_shown p c shown ∙ a) | inr b ↦ inr (now_shown p c shown ∙ b) ]

  longer : (first from to : ℕ) → from ≤ to → WasSince first from → Throughout left from to IsEither → WasSince first to
  longer first from to le was rest = record {
    moment = was.moment;
    since = was.since;
    within = omega (arith, was.within, le);
    so_there = was.so_there;
    later = λ t from-on up c has. by_side t from-on up c has (cases_lt t from);
  }
    where
      by_side : (t : ℕ) → was.moment ≤ t → t ≤ to → (c : C) → left t c → (t < from) ⊎ (from ≤ t) → IsEither c
      by_side t from-on up c has (inl before) = was.later t from-on (omega (arith, before)) c has
      by_side t from-on up c has (inr after) = rest t after up c has

  -- ---- from points to moments

  -- What the test tells of the points after one, where it tells it of that one.
  pub points_tell : (first from to : ℕ) (p : P) (xs : List (Passed P W)) (was : Bool) → GoesThrough left shows from p xs to None → (was ≡ true → ((so p || now p) ≡ true) × WasSince first from) → first ≤ from
      → fold (λ before n. so n.point || (now n.point && before)) was xs ≡ true → WasSince first to
  points_tell first from to p [] was goes known early is =
      let here = known is in
      longer first from to goes.0 here.1 (λ t from-on up c has. either_of p c (goes.1 t from-on up c has) here.0)
  points_tell first from to p (n ∷ xs) was goes known early is =
      points_tell first n.moment to n.point xs (so n.point || (now n.point && was)) goes.3 next (omega (arith, early, goes.0)) is
    where
      here : so n.point ≡ true → WasSince first n.moment
      here so_now = record {
        moment = n.moment;
        since = omega (arith, early, goes.0);
        within = omega arith;
        so_there = λ t from-on up c has. so_of n.point c (goes.2 t from-on up c has) so_now;
        later = λ t from-on up c has. inl (so_of n.point c (goes.2 t from-on up c has) so_now);
      }

      two : (so p || now p) ≡ true → now n.point ≡ true → (c : C) → shows p c ⊎ shows n.point c → IsEither c
      two here now_then c (inl a) = either_of p c a here
      two here now_then c (inr b) = inr (now_shown n.point c b ∙ now_then)

      next : (so n.point || (now n.point && was)) ≡ true → ((so n.point || now n.point) ≡ true) × WasSince first n.moment
      next e = elim (or_cases (so n.point) (now n.point && was) e) [
        | inl so_now ↦ (or_left (so n.point) (now n.point) so_now, here so_now)
        | inr rest ↦
            let parts = and_parts (now n.point) was rest in
            let before = known parts.1 in
            (or_right (so n.point) (now n.point) parts.0, longer first from n.moment goes.0 before.1 (λ t from-on up c has. two before.0 parts.0 c (goes.1 t from-on up c has)))
      ]

  -- ---- from moments to points

  -- Each moment has what a crash may leave.
  abbrev SomeLeft : (from to : ℕ) → Type 0
  SomeLeft from to = (t : ℕ) → from ≤ t → t ≤ to → (c : C) × left t c

  point_has : (p : P) (c : C) → shows p c → IsEither c → (so p || now p) ≡ true
  point_has p c shown (inl a) = or_left (so p) (now p) (sym (so_shown p c shown) ∙ a)
  point_has p c shown (inr b) = or_right (so p) (now p) (sym (now_shown p c shown) ∙ b)

  -- It is so still at a point that is that, or what is so now.
  still : (a b : Bool) → (a || b) ≡ true → (a || (b && true)) ≡ true
  still true b is = refl
  still false true is = refl
  still false false is = absurd cc

  kept_on : (moment from to : ℕ) (p : P) (xs : List (Passed P W)) → GoesThrough left shows from p xs to None → SomeLeft from to → moment ≤ from → Throughout left moment to IsEither
      → fold (λ before n. so n.point || (now n.point && before)) true xs ≡ true
  kept_on moment from to p [] goes some le later = refl
  kept_on moment from to p (n ∷ xs) goes some le later =
      let up : n.moment ≤ to = moments_rise P W C left shows n.moment to n.point xs None goes.3 in
      let one = some n.moment goes.0 up in
      let has = point_has n.point one.0 (goes.2 n.moment (omega arith) (omega arith) one.0 one.1) (later n.moment (omega (arith, le, goes.0)) up one.0 one.1) in
      rw (still (so n.point) (now n.point) has) (kept_on moment n.moment to n.point xs goes.3 (λ t from-on within. some t (omega (arith, from-on, goes.0)) within) (omega (arith, le, goes.0)) later)

  pub moments_tell : (from to : ℕ) (p : P) (xs : List (Passed P W)) (was : Bool) → GoesThrough left shows from p xs to None → SomeLeft from to → (so p ≡ true → was ≡ true) → WasSince from to
      → fold (λ before n. so n.point || (now n.point && before)) was xs ≡ true
  moments_tell from to p [] was goes some first since =
      let one = some since.moment since.since since.within in
      let shown = goes.1 since.moment since.since since.within one.0 one.1 in
      first (sym (so_shown p one.0 shown) ∙ since.so_there since.moment (omega arith) (omega arith) one.0 one.1)
  moments_tell from to p (n ∷ xs) was goes some first since =
      by_side (λ le. moments_tell n.moment to n.point xs (so n.point || (now n.point && was)) goes.3 (λ t from-on within. some t (omega (arith, from-on, goes.0)) within) (λ is. or_left (so n.point) (now n.point && was) is)
      (record { moment = since.moment; since = le; within = since.within; so_there = since.so_there; later = since.later }))
      (cases_lt since.moment n.moment)
    where
      up : n.moment ≤ to
      up = moments_rise P W C left shows n.moment to n.point xs None goes.3

      after : SomeLeft n.moment to
      after t from-on within = some t (omega (arith, from-on, goes.0)) within

      -- Where it was so before the point, it was so at the one before or at this one, and has been since.
      before : since.moment < n.moment → fold (λ before m. so m.point || (now m.point && before)) was (n ∷ xs) ≡ true
      before lt =
          let one = some since.moment since.since since.within in
          rw (by_shown one.0 (since.so_there since.moment (omega arith) (omega arith) one.0 one.1) (goes.1 since.moment since.since (omega (arith, lt)) one.0 one.1))
          (kept_on n.moment n.moment to n.point xs goes.3 after (omega arith) (λ t from-on within c has. since.later t (omega (arith, from-on, lt)) within c has))
        where
          here : (so n.point || now n.point) ≡ true
          here =
              let there = some n.moment goes.0 up in
              point_has n.point there.0 (goes.2 n.moment (omega arith) (omega arith) there.0 there.1) (since.later n.moment (omega (arith, lt)) up there.0 there.1)

          by_was : (w : Bool) → w ≡ true → (so n.point || (now n.point && w)) ≡ true
          by_was true is = still (so n.point) (now n.point) here
          by_was false is = absurd cc

          by_shown : (c : C) → so_meant c ≡ true → shows p c ⊎ shows n.point c → (so n.point || (now n.point && was)) ≡ true
          by_shown c is (inl a) = by_was was (first (sym (so_shown p c a) ∙ is))
          by_shown c is (inr b) = or_left (so n.point) (now n.point && was) (sym (so_shown n.point c b) ∙ is)

      by_side : (n.moment ≤ since.moment → fold (λ before m. so m.point || (now m.point && before)) was (n ∷ xs) ≡ true) → (since.moment < n.moment) ⊎ (n.moment ≤ since.moment) → fold (λ before m. so m.point || (now m.point && before)) was (n ∷ xs) ≡ true
      by_side after (inl lt) = before lt
      by_side after (inr le) = after le

  -- ---- both

  pub tell_since : (from to : ℕ) (p : P) (xs : List (Passed P W)) → Throughout left from from (shows p) → GoesThrough left shows from p xs to None → SomeLeft from to
      → (was_so so now (so p) xs ≡ true → HasBeenSo C left so_meant now_meant from to) × (HasBeenSo C left so_meant now_meant from to → was_so so now (so p) xs ≡ true)
  tell_since from to p xs begins goes some = (told, meant)
    where
      first : so p ≡ true → ((so p || now p) ≡ true) × WasSince from from
      first is = (
        or_left (so p) (now p) is,
        record {
          moment = from;
          since = omega arith;
          within = omega arith;
          so_there = λ t since within c has. so_of p c (begins t since within c has) is;
          later = λ t since within c has. inl (so_of p c (begins t since within c has) is);
        },
      )

      told : was_so so now (so p) xs ≡ true → HasBeenSo C left so_meant now_meant from to
      told is = let was = points_tell from from to p xs (so p) goes first (omega arith) is in record { moment = was.moment; since = was.since; within = was.within; so_there = was.so_there; later = was.later }

      meant : HasBeenSo C left so_meant now_meant from to → was_so so now (so p) xs ≡ true
      meant was = moments_tell from to p xs (so p) goes some (λ is. is) (record { moment = was.moment; since = was.since; within = was.within; so_there = was.so_there; later = was.later })
