-- The points at which deeds are done, in a row.
use Rattle.std.proofs.Common.{◌≡◌, ℕ, zero, suc, ◌+◌, ◌≤◌, List, [], ◌∷◌, ◌++◌, length, take, Option, Some, None, refl, sym, ap, subst, ◌∙◌, arith, append-nil, append_assoc, length-append}
use Rattle.std.specs.List.{All}
use Rattle.std.specs.Prelude.{IfSome, map, option_map}
use Rattle.std.proofs.lemmas.List.{take_all}
use Rattle.passages.specs.Points.{GoesThrough, last_point}
use Rattle.passages.specs.Telling.{told_by}
use Rattle.passages.proofs.Telling.{told_otherwise}
use Rattle.record_rows.specs.Deeds.{Deed}
use Rattle.site_store.specs.DoneDeeds.{PassedDeed, deed_passed, points_of, with_next}

-- The last of the points is that as many deeds are done as there are moments.
pub last_some : (done : List Deed) (moments : List ℕ) (deeds : List Deed) → length moments ≤ length deeds → last_point done (points_of done moments deeds) ≡ done ++ take (length moments) deeds
last_some done [] deeds few = sym (append-nil done)
last_some done (t ∷ moments) [] few = absurd (omega (arith, few))
last_some done (t ∷ moments) (deed ∷ deeds) few = last_some (done ++ deed ∷ []) moments deeds (omega (arith, few)) ∙ append_assoc done (deed ∷ []) (take (length moments) deeds)

-- Where there is one for each deed, all are done.
pub last_done : (done : List Deed) (moments : List ℕ) (deeds : List Deed) → length moments ≡ length deeds → last_point done (points_of done moments deeds) ≡ done ++ deeds
last_done done moments deeds each = last_some done moments deeds (omega (arith, each)) ∙ ap (λ (l : List Deed). done ++ l) (take_all (length moments) deeds (omega (arith, each)))

-- The points of deeds in turn are those of the first ones and those after them.
pub points_in_turn : (done : List Deed) (early : List ℕ) (a : List Deed) (late : List ℕ) (b : List Deed) → length early ≡ length a → points_of done (early ++ late) (a ++ b) ≡ points_of done early a ++ points_of (done ++ a) late b
points_in_turn done [] [] late b each = ap (λ (p : List Deed). points_of p late b) (sym (append-nil done))
points_in_turn done [] (deed ∷ a) late b each = absurd (omega (arith, each))
points_in_turn done (t ∷ early) [] late b each = absurd (omega (arith, each))
points_in_turn done (t ∷ early) (deed ∷ a) late b each =
    ap (λ (ps : List PassedDeed). deed_passed t done deed ∷ ps)
    (points_in_turn (done ++ deed ∷ []) early a late b (omega (arith, each)) ∙ ap (λ (p : List Deed). points_of (done ++ deed ∷ []) early a ++ points_of p late b) (append_assoc done (deed ∷ []) a))

-- The points of some first deeds don't depend on those after them.
pub points_first : (done : List Deed) (moments : List ℕ) (a b : List Deed) → length moments ≤ length a → points_of done moments (a ++ b) ≡ points_of done moments a
points_first done [] [] b few = refl
points_first done [] (deed ∷ a) b few = refl
points_first done (t ∷ moments) [] b few = absurd (omega (arith, few))
points_first done (t ∷ moments) (deed ∷ a) b few = ap (λ (ps : List PassedDeed). deed_passed t done deed ∷ ps) (points_first (done ++ deed ∷ []) moments a b (omega (arith, few)))

-- ---- first ones

pub take_first : (n : ℕ) (a b : List Deed) → n ≤ length a → take n (a ++ b) ≡ take n a
take_first zero a b few = refl
take_first (suc n) [] b few = absurd (omega (arith, few))
take_first (suc n) (deed ∷ a) b few = ap (λ (t : List Deed). deed ∷ t) (take_first n a b (omega (arith, few)))

pub take_after : (a b : List Deed) (m n : ℕ) → m ≡ length a + n → take m (a ++ b) ≡ a ++ take n b
take_after [] b m n is = let same : m ≡ n = omega (arith, is) in ap (λ (k : ℕ). take k b) same
take_after (deed ∷ a) b zero n is = absurd (omega (arith, is))
take_after (deed ∷ a) b (suc m) n is = ap (λ (t : List Deed). deed ∷ t) (take_after a b m n (omega (arith, is)))

pub first_in_turn : (early late : List ℕ) (a b : List Deed) → length early ≡ length a → take (length (early ++ late)) (a ++ b) ≡ a ++ take (length late) b
first_in_turn early late a b each = take_after a b (length (early ++ late)) (length late) (omega (arith, length-append early late, each))

pub next_in_turn : (early late : List ℕ) (a b : List Deed) → length early ≡ length a → with_next (length (early ++ late)) (a ++ b) ≡ a ++ with_next (length late) b
next_in_turn early late a b each = take_after a b (suc (length (early ++ late))) (suc (length late)) (omega (arith, length-append early late, each))

-- ---- after others

-- The points of deeds after others are those of the deeds, told after the others.
points_after : (a done : List Deed) (moments : List ℕ) (deeds : List Deed) → map (told_by (λ p. a ++ p) (λ n. n.way)) (points_of done moments deeds) ≡ points_of (a ++ done) moments deeds
points_after a done [] deeds = refl
points_after a done (t ∷ moments) [] = refl
points_after a done (t ∷ moments) (deed ∷ deeds) =
    let here = a ++ (done ++ deed ∷ []) in
    let told : PassedDeed = record { moment = t; point = here; way = deed } in
    ap (λ (ps : List PassedDeed). told ∷ ps) (points_after a (done ++ deed ∷ []) moments deeds)
    ∙ ap (λ (q : List Deed). let passed : PassedDeed = record { moment = t; point = q; way = deed } in passed ∷ points_of q moments deeds) (sym (append_assoc a done (deed ∷ [])))

any_next : (next : Option (List Deed)) → IfSome next (λ p. Unit {0})
any_next None = tt
any_next (Some p) = tt

-- Points that are passed are passed after other deeds, where what shows them shows them after those.
pub passed_after : (C : Type 0) (left : ℕ → C → Type 0) (shows after : List Deed → C → Type 0) (a : List Deed) → ((done : List Deed) (c : C) → shows done c → after (a ++ done) c) → (from to : ℕ) (done : List Deed) (moments : List ℕ) (deeds : List Deed)
    (next : Option (List Deed)) → GoesThrough left shows from done (points_of done moments deeds) to next → GoesThrough left after from (a ++ done) (points_of (a ++ done) moments deeds) to (option_map (λ p. a ++ p) next)
passed_after C left shows after a step from to done moments deeds next goes =
    subst (λ (ps : List PassedDeed). GoesThrough left after from (a ++ done) ps to (option_map (λ (p : List Deed). a ++ p) next)) (points_after a done moments deeds)
    (told_otherwise (List Deed) Deed (List Deed) Deed C left shows (λ p. Unit {0}) after (λ p. a ++ p) (λ n. n.way) (λ q c good is. step q c is) from to done (points_of done moments deeds) next tt (λ k n less. tt) (any_next next) goes)

-- ---- which points they are

-- Each point is that some first deeds are done, after those before.
pub are_first : (done : List Deed) (moments : List ℕ) (deeds : List Deed) → All (λ n. (k : ℕ) × (k ≤ length deeds) × (n.point ≡ done ++ take k deeds)) (points_of done moments deeds)
are_first done [] deeds k n less = absurd (omega (arith, less))
are_first done (t ∷ moments) [] k n less = absurd (omega (arith, less))
are_first done (t ∷ moments) (deed ∷ deeds) zero n less = (1, omega arith, refl)
are_first done (t ∷ moments) (deed ∷ deeds) (suc k) n less =
    let found = are_first (done ++ deed ∷ []) moments deeds k n (omega (arith, less)) in
    (suc found.0, omega (arith, found.1), found.2 ∙ append_assoc done (deed ∷ []) (take found.0 deeds))
