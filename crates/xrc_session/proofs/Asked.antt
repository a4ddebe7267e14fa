-- Lines that were asked, and the points that come by them.
use Rattle.std.proofs.Common.{◌≡◌, ◌⊎◌, inl, inr, ℕ, zero, suc, ◌<◌, ◌≤◌, Bool, true, false, cond, List, [], ◌∷◌, ◌++◌, length, Option, Some, None, refl, sym, ap, subst, ◌∙◌, arith, slice_get}
use Rattle.std.specs.Prelude.{◌==◌, fold, if◌then◌else◌}
use Rattle.std.specs.Option.{option_map}
use Rattle.std.proofs.lemmas.Bool.{cases_lt, cond-false, cond-true, eq-eqb, ne_eqb}
use Rattle.std.specs.List.{All}
use Rattle.std.proofs.lemmas.List.{length_push}
use Rattle.std.proofs.lemmas.List.Elements.{All-cons, All-nil}
use Rattle.std.proofs.lemmas.Option.{slice_get_past}
use Rattle.row_changes.specs.Changes.{Timed}
use Rattle.xrc_command.specs.declared.line.Line.{Line}
use Rattle.consistency.specs.Answering.{is_command_of, points_before}
use Rattle.consistency.specs.Stages.{ScriptRun, accepts_end}
use Rattle.consistency.specs.Pauses.{asked_in}
use Rattle.consistency.specs.Courses.{Answered}
use Rattle.consistency.specs.Leads.{Point}
use Rattle.consistency.specs.Ways.{ComesBy, ComesNext, IsAtWork, IsEnding, Leg, PassedPoint, Way, is_ending, last_answered, leg_after, leg_by, table_at}
use Rattle.consistency.specs.Ways.Way.{Commanded, Ending, MarkedFor, OnTheWay}
use Rattle.consistency.proofs.Lines.{last_at}
use Rattle.consistency.proofs.OnTheWay.{marks_are_commanded}
use Rattle.passages.specs.Points.{AreLinked, last_point}
use Rattle.mover.specs.Working.{LinesAsked}
use Rattle.xrc_session.specs.Trails.{asked_with}

-- ---- the lines

-- What stands in a list stands there before one more.
pub before_last : {X : Type 0} (lines : List X) (a : X) (n : ℕ) → n < length lines → slice_get (lines ++ a ∷ []) n ≡ slice_get lines n
before_last [] a n below = absurd (omega (arith, below))
before_last (x ∷ lines) a zero below = refl
before_last (x ∷ lines) a (suc n) below = before_last lines a n (omega (arith, below))

-- No line after all is one of them.
pub none_after : (lines : List Answered) (n : ℕ) → length lines ≤ n → asked_in lines n ≡ None
none_after lines n past = ap (option_map (λ a. a.line)) (slice_get_past lines n past)

pub asked_there : (lines : List Answered) (next : Option Line) (n : ℕ) → n ≡ length lines → asked_with lines next n ≡ next
asked_there lines next n is = cond-true (n == length lines) next (asked_in lines n) (eq-eqb n (length lines) is)

asked_else : (lines : List Answered) (next : Option Line) (n : ℕ) → ¬ (n ≡ length lines) → asked_with lines next n ≡ asked_in lines n
asked_else lines next n differ = cond-false (n == length lines) next (asked_in lines n) (ne_eqb n (length lines) differ)

-- The line after others is asked there, and then it is one of them.
pub asked_of_line : (lines : List Answered) (a : Answered) (n : ℕ) → asked_in (lines ++ a ∷ []) n ≡ asked_with lines (Some a.line) n
asked_of_line lines a n = by_side (cases_lt n (length lines))
  where
    after : (length lines < n) ⊎ (n ≤ length lines) → length lines ≤ n → asked_in (lines ++ a ∷ []) n ≡ asked_with lines (Some a.line) n
    after (inl later) le =
        none_after (lines ++ a ∷ []) n (omega (arith, later, length_push lines a))
        ∙ sym (asked_else lines (Some a.line) n (λ is. absurd (omega (arith, later, is))) ∙ none_after lines n le)
    after (inr up) le =
        let is : n ≡ length lines = omega (arith, up, le) in
        ap (asked_in (lines ++ a ∷ [])) is ∙ ap (option_map (λ b. b.line)) (last_at lines a) ∙ sym (asked_there lines (Some a.line) n is)

    by_side : (n < length lines) ⊎ (length lines ≤ n) → asked_in (lines ++ a ∷ []) n ≡ asked_with lines (Some a.line) n
    by_side (inl before) =
        ap (option_map (λ b. b.line)) (before_last lines a n before)
        ∙ sym (asked_else lines (Some a.line) n (λ is. absurd (omega (arith, before, is))))
    by_side (inr le) = after (cases_lt (length lines) n) le

pub asked_of_lines : (lines : List Answered) (a : Answered) → asked_in (lines ++ a ∷ []) ≡ asked_with lines (Some a.line)
asked_of_lines lines a = λ i n. asked_of_line lines a n i

-- No line was heard after all.
pub asked_of_none : (lines : List Answered) → asked_in lines ≡ asked_with lines None
asked_of_none lines = λ i n. at n i
  where
    at : (n : ℕ) → asked_in lines n ≡ asked_with lines None n
    at n = by_side (cases_lt n (length lines))
      where
        by_side : (n < length lines) ⊎ (length lines ≤ n) → asked_in lines n ≡ asked_with lines None n
        by_side (inl before) = sym (asked_else lines None n (λ is. absurd (omega (arith, before, is))))
        by_side (inr le) = none_after lines n le ∙ none (n == length lines) (none_after lines n le)
          where
            none : (b : Bool) → asked_in lines n ≡ None → None ≡ cond b None (asked_in lines n)
            none true is = refl
            none false is = sym is

-- None is asked after it.
pub asked_number : (lines : List Answered) (line : Line) (n : ℕ) → length lines ≤ n → asked_with lines (Some line) n ≡ Some line → n ≡ length lines
asked_number lines line n le is = by_side (cases_lt (length lines) n)
  where
    by_side : (length lines < n) ⊎ (n ≤ length lines) → n ≡ length lines
    by_side (inl later) =
        let none : None ≡ Some line = sym (asked_else lines (Some line) n (λ same. absurd (omega (arith, later, same))) ∙ none_after lines n le) ∙ is in
        absurd cc
    by_side (inr up) = omega (arith, le, up)

-- Lines before are asked alike, whatever was heard of the next one.
pub asked_alike : (lines : List Answered) (next other : Option Line) (n : ℕ) → n < length lines → asked_with lines other n ≡ asked_with lines next n
asked_alike lines next other n below = asked_else lines other n differ ∙ sym (asked_else lines next n differ)
  where
    differ : ¬ (n ≡ length lines)
    differ is = absurd (omega (arith, below, is))

-- ---- links look back

-- No line less is answered at the next point.
answered_by_way : (l : Leg) (q : Point) (w : Way) → l.answered ≤ (leg_by l q w).answered
answered_by_way l q (OnTheWay changes) = omega arith
answered_by_way l q (MarkedFor line hits) = omega arith
answered_by_way l q (Commanded line hits) = omega arith
answered_by_way l q (Ending line hits) = omega arith

pub answered_rises : (l : Leg) (points : List PassedPoint) → l.answered ≤ (fold leg_after l points).answered
answered_rises l [] = omega arith
answered_rises l (n ∷ points) = omega (arith, answered_by_way l n.point n.way, answered_rises (leg_after l n) points)

last_alike : (asked other : LinesAsked) (n m : ℕ) → n ≤ m → ((k : ℕ) → k < m → other k ≡ asked k) → last_answered other n ≡ last_answered asked n
last_alike asked other zero m le same = refl
last_alike asked other (suc n) m le same = same n (omega (arith, le))

-- The end is looked for in the line answered last.
pub same_ending : (run : ScriptRun) (asked other : LinesAsked) (l : Leg) (m : ℕ) → l.answered ≤ m → ((k : ℕ) → k < m → other k ≡ asked k) → is_ending run other l ≡ is_ending run asked l
same_ending run asked other l m le same = ap (accepts_end run (table_at run l.point)) (last_alike asked other l.answered m le same)

module _ (run : ScriptRun) (asked other : LinesAsked) (m : ℕ) (same : (k : ℕ) → k < m → other k ≡ asked k) where
  at_work_still : (l : Leg) → l.answered ≤ m → IsAtWork run asked l → IsAtWork run other l
  at_work_still l le at = record { goes_on = at.goes_on; not_ending = same_ending run asked other l m le same ∙ at.not_ending; none_marked = at.none_marked }

  -- A link to a point looks at lines up to those that are answered there.
  link_back : (l : Leg) (q : Point) (w : Way) → l.answered ≤ m → ((line : ℕ) (hits : List Timed) → w ≡ MarkedFor line hits → line < m) → (leg_by l q w).answered ≤ m → ComesBy run asked l q w → ComesBy run other l q w
  link_back l q (OnTheWay changes) le marked up way = (at_work_still l le way.0, way.1)
  link_back l q (MarkedFor line hits) le marked up way =
      let here = same line (marked line hits refl) in
      (way.0, at_work_still l le way.1, record { line = way.2.line; heard = here ∙ way.2.heard; may = way.2.may; alters = way.2.alters; some = way.2.some; leads = way.2.leads })
  link_back l q (Commanded line hits) le marked up way =
      let here = same line (omega (arith, up, way.0)) in
      (way.0, same_ending run asked other l m le same ∙ way.1, record { line = way.2.line; heard = here ∙ way.2.heard; stand = way.2.stand; recorded = way.2.recorded; active = way.2.active; ended = way.2.ended })
  link_back l q (Ending line hits) le marked up way =
      let here = same line (omega (arith, le, way.0.last)) in
      (way.0, subst (λ (o : Option Line). IsEnding run o l.point q hits) (sym here) way.1)

-- The number of the lines after a mark that a command's record needs, if a point comes after it.
pub marked_below : (run : ScriptRun) (asked : LinesAsked) (l : Leg) (n : PassedPoint) (points : List PassedPoint) → (fold leg_after l (n ∷ points)).marked ≡ [] → AreLinked (ComesNext run asked) leg_after l (n ∷ points)
    → (line : ℕ) (hits : List Timed) → n.way ≡ MarkedFor line hits → (line ≡ l.answered) × (line < (fold leg_after l (n ∷ points)).answered)
marked_below run asked l n [] none linked line hits is = absurd (come.2.some (sym (ap (λ (w : Way). (leg_by l n.point w).marked) is) ∙ none))
  where
    come : ComesBy run asked l n.point (MarkedFor line hits)
    come = subst (λ (w : Way). ComesBy run asked l n.point w) is linked.0.0
marked_below run asked l n (p ∷ points) none linked line hits is =
    let come = subst (λ (w : Way). ComesBy run asked l n.point w) is linked.0.0 in
    let next = marks_are_commanded run asked l n p line hits is linked.0 linked.1.0 in
    let after : (leg_after (leg_after l n) p).answered ≡ suc (leg_after l n).answered = ap (λ (w : Way). (leg_by (leg_after l n) p.point w).answered) next.1 in
    let same : (leg_after l n).answered ≡ l.answered = ap (λ (w : Way). (leg_by l n.point w).answered) is in
    (come.0, omega (arith, come.0, after, same, answered_rises (leg_after (leg_after l n) p) points))

-- So links stay as they are while no line is asked otherwise that was answered.
pub links_look_back : (run : ScriptRun) (asked other : LinesAsked) (l : Leg) (points : List PassedPoint) → (fold leg_after l points).marked ≡ [] → ((k : ℕ) → k < (fold leg_after l points).answered → other k ≡ asked k)
    → AreLinked (ComesNext run asked) leg_after l points → AreLinked (ComesNext run other) leg_after l points
links_look_back run asked other l [] none same linked = tt
links_look_back run asked other l (n ∷ points) none same linked =
    let m = (fold leg_after l (n ∷ points)).answered in (
      (link_back run asked other m same l n.point n.way (answered_rises l (n ∷ points)) (λ line hits is. (marked_below run asked l n points none linked line hits is).1) (answered_rises (leg_after l n) points) linked.0.0, linked.0.1),
      links_look_back run asked other (leg_after l n) points none same linked.1,
    )

-- ---- the points before a command

not_command : (line number : ℕ) → ¬ (line ≡ number) → (line == number) ≡ false
not_command line number differ = ne_eqb line number differ

-- No point is of a line that wasn't answered yet.
pub none_of_number : (run : ScriptRun) (asked : LinesAsked) (l : Leg) (points : List PassedPoint) (number : ℕ) → (fold leg_after l points).marked ≡ [] → (fold leg_after l points).answered ≤ number
    → AreLinked (ComesNext run asked) leg_after l points → points_before number points ≡ points
none_of_number run asked l [] number none up linked = refl
none_of_number run asked l (n ∷ points) number none up linked =
    cond-false (is_command_of number n.way) [] (n ∷ points_before number points) (by_way n.way refl linked.0.0) ∙ ap (λ (xs : List PassedPoint). n ∷ xs) (none_of_number run asked (leg_after l n) points number none up linked.1)
  where
    by_way : (w : Way) → n.way ≡ w → ComesBy run asked l n.point w → is_command_of number w ≡ false
    by_way (OnTheWay changes) is way = refl
    by_way (Ending line hits) is way = refl
    by_way (MarkedFor line hits) is way =
        let below = (marked_below run asked l n points none linked line hits is).1 in
        not_command line number (λ same. absurd (omega (arith, below, up, same)))
    by_way (Commanded line hits) is way =
        let after : (leg_after l n).answered ≡ suc l.answered = ap (λ (w : Way). (leg_by l n.point w).answered) is in
        not_command line number (λ same. absurd (omega (arith, same, way.0, after, up, answered_rises (leg_after l n) points)))

-- So none of them is a command of it.
pub fresh_points : (number : ℕ) (points : List PassedPoint) → points_before number points ≡ points → All (λ n. is_command_of number n.way ≡ false) points
fresh_points number [] same = All-nil (λ (n : PassedPoint). is_command_of number n.way ≡ false)
fresh_points number (n ∷ points) same = by_way (is_command_of number n.way) refl same (fresh_points number points)
  where
    by_way : (b : Bool) → is_command_of number n.way ≡ b → (if b then [] else n ∷ points_before number points) ≡ n ∷ points → (points_before number points ≡ points → All (λ m. is_command_of number m.way ≡ false) points)
        → All (λ m. is_command_of number m.way ≡ false) (n ∷ points)
    by_way true is cut rest = absurd cc
    by_way false is cut rest =
        let tail : points_before number points ≡ points = cc in
        All-cons (λ (m : PassedPoint). is_command_of number m.way ≡ false) n points is (rest tail)

module _ (run : ScriptRun) (asked : LinesAsked) (l : Leg) (n : PassedPoint) (number : ℕ) (from : l.answered ≤ number) (front back : List PassedPoint) (rest : (leg_after l n).answered ≤ number → front ≡ back) where
  abbrev after_point : List PassedPoint → List PassedPoint
  after_point points = if is_command_of number n.way then [] else n ∷ points

  on : (leg_after l n).answered ≤ number → after_point front ≡ after_point back
  on le = ap after_point (rest le)

  here : is_command_of number n.way ≡ true → after_point front ≡ after_point back
  here is = cond-true (is_command_of number n.way) [] (n ∷ front) is ∙ sym (cond-true (is_command_of number n.way) [] (n ∷ back) is)

  same_answered : (w : Way) → n.way ≡ w → (leg_by l n.point w).answered ≡ l.answered → (leg_after l n).answered ≤ number
  same_answered w is same = omega (arith, ap (λ (w : Way). (leg_by l n.point w).answered) is, same, from)

  differ_if : (b : Bool) → b ≡ true → b ≡ false → ⊥
  differ_if true one two = cc
  differ_if false one two = cc

  by_number : (line : ℕ) (hits : List Timed) → n.way ≡ Commanded line hits → line ≡ l.answered → (b : Bool) → (line == number) ≡ b → after_point front ≡ after_point back
  by_number line hits is at true equal = here (ap (is_command_of number) is ∙ equal)
  by_number line hits is at false equal =
      let after : (leg_after l n).answered ≡ suc l.answered = ap (λ (w : Way). (leg_by l n.point w).answered) is in
      on (later (cases_lt number (suc l.answered)) after)
    where
      later : (number < suc l.answered) ⊎ (suc l.answered ≤ number) → (leg_after l n).answered ≡ suc l.answered → (leg_after l n).answered ≤ number
      later (inl lt) after = absurd (differ_if (line == number) (eq-eqb line number (omega (arith, at, lt, from))) equal)
      later (inr le) after = omega (arith, le, after)

  later_point : (w : Way) → n.way ≡ w → ComesBy run asked l n.point w → after_point front ≡ after_point back
  later_point (OnTheWay changes) is way = on (same_answered (OnTheWay changes) is refl)
  later_point (Ending line hits) is way = on (same_answered (Ending line hits) is refl)
  later_point (MarkedFor line hits) is way = on (same_answered (MarkedFor line hits) is refl)
  later_point (Commanded line hits) is way = by_number line hits is way.0 (line == number) refl

-- More points after them change nothing before the command of a line that was answered.
pub later_points : (run : ScriptRun) (asked : LinesAsked) (l : Leg) (points more : List PassedPoint) (number : ℕ) → l.answered ≤ number → number < (fold leg_after l points).answered → AreLinked (ComesNext run asked) leg_after l points
    → points_before number (points ++ more) ≡ points_before number points
later_points run asked l [] more number from below linked = absurd (omega (arith, from, below))
later_points run asked l (n ∷ points) more number from below linked =
    later_point run asked l n number from (points_before number (points ++ more)) (points_before number points) (λ le. later_points run asked (leg_after l n) points more number le below linked.1) n.way refl linked.0.0

-- ---- the point of a leg

-- A leg stands at the last point, if no mark stands alone there.
pub last_of_leg : (run : ScriptRun) (asked : LinesAsked) (l : Leg) (points : List PassedPoint) → (fold leg_after l points).marked ≡ [] → AreLinked (ComesNext run asked) leg_after l points → (fold leg_after l points).point ≡ last_point l.point points
last_of_leg run asked l [] none linked = refl
last_of_leg run asked l (n ∷ []) none linked = by_way n.way refl linked.0.0
  where
    by_way : (w : Way) → n.way ≡ w → ComesBy run asked l n.point w → (leg_after l n).point ≡ n.point
    by_way (OnTheWay changes) is way = ap (λ (w : Way). (leg_by l n.point w).point) is
    by_way (Ending line hits) is way = ap (λ (w : Way). (leg_by l n.point w).point) is
    by_way (MarkedFor line hits) is way = absurd (way.2.some (sym (ap (λ (w : Way). (leg_by l n.point w).marked) is) ∙ none))
    by_way (Commanded line hits) is way = ap (λ (w : Way). (leg_by l n.point w).point) is
last_of_leg run asked l (n ∷ p ∷ points) none linked = last_of_leg run asked (leg_after l n) (p ∷ points) none linked.1

pub fold_append : (l : Leg) (points more : List PassedPoint) → fold leg_after l (points ++ more) ≡ fold leg_after (fold leg_after l points) more
fold_append l [] more = refl
fold_append l (n ∷ points) more = fold_append (leg_after l n) points more
