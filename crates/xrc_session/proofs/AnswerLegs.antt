-- The legs of a line's command: before it, after it, and after the mark of an end.
use Rattle.std.proofs.Common.{◌≡◌, ◌⊎◌, inl, inr, ℕ, suc, Bool, true, false, ◌||◌, List, [], ◌∷◌, ◌++◌, refl, sym, ap, subst, ◌∙◌, true≢false, append-nil}
use Rattle.std.specs.Prelude.{fold, if◌then◌else◌}
use Rattle.std.specs.List.{All, list_any}
use Rattle.std.proofs.lemmas.Bool.{eq-eqb, or_left, or_right}
use Rattle.std.proofs.lemmas.List.Elements.{All-head, All-tail}
use Rattle.row_changes.specs.Changes.{Timed}
use Rattle.consistency.specs.Answering.{is_command_of, points_before}
use Rattle.consistency.specs.Stages.{ScriptRun, Stage}
use Rattle.consistency.specs.Leads.{Point}
use Rattle.consistency.specs.Ways.{ComesBy, ComesNext, IsLegOf, Leg, PassedPoint, Way, leg_after, leg_by}
use Rattle.consistency.specs.Ways.Way.{Commanded, Ending, MarkedFor, OnTheWay}
use Rattle.consistency.proofs.Legs.{leg_goes_on, leg_is_marked}
use Rattle.passages.specs.Points.{AreLinked, last_point}
use Rattle.mover.specs.Working.{LinesAsked}
use Rattle.xrc_session.specs.Answering.{AreOfCommand}
use Rattle.xrc_session.specs.Answering.AreOfCommand.{OfCommand, OfEnd, AfterMark}

-- ---- by their ways

pub comes_by : (run : ScriptRun) (asked : LinesAsked) (l : Leg) (n : PassedPoint) (way : Way) → n.way ≡ way → ComesNext run asked l n → ComesBy run asked l n.point way
comes_by run asked l n way is comes = subst (ComesBy run asked l n.point) is comes.0

-- ---- after a line's points

-- The leg's point is the last of them.
pub command_point : (number : ℕ) (hits : List Timed) (points : List PassedPoint) → AreOfCommand number hits points → (l : Leg) (p : Point) → (fold leg_after l points).point ≡ last_point p points
command_point number hits _ (OfCommand n is) l p = ap (λ (way : Way). (leg_by l n.point way).point) is
command_point number hits _ (OfEnd n m own more is ends both) l p = ap (λ (way : Way). (leg_by (leg_after l n) m.point way).point) ends
command_point number hits _ (AfterMark n points by rest) l p = command_point number hits points rest (leg_after l n) n.point

-- The line is answered after them.
pub command_answered : (number : ℕ) (hits : List Timed) (points : List PassedPoint) → AreOfCommand number hits points → (l : Leg) → (fold leg_after l points).answered ≡ suc l.answered
command_answered number hits _ (OfCommand n is) l = ap (λ (way : Way). (leg_by l n.point way).answered) is
command_answered number hits _ (OfEnd n m own more is ends both) l =
    ap (λ (way : Way). (leg_by (leg_after l n) m.point way).answered) ends ∙ ap (λ (way : Way). (leg_by l n.point way).answered) is
command_answered number hits _ (AfterMark n points by rest) l = command_answered number hits points rest (leg_after l n) ∙ ap suc (still by)
  where
    still : (n.way ≡ OnTheWay []) ⊎ ((marked : List Timed) × (n.way ≡ MarkedFor number marked)) → (leg_after l n).answered ≡ l.answered
    still (inl on_way) = ap (λ (way : Way). (leg_by l n.point way).answered) on_way
    still (inr marked) = ap (λ (way : Way). (leg_by l n.point way).answered) marked.1

-- ---- the leg that finds the command

-- The command of a line comes from a leg of the stage, with the changes of an earlier one, and leaves a leg.
pub record IsCommandLeg (run : ScriptRun) (stage : Stage) (asked : LinesAsked) (l : Leg) (number : ℕ) (hits : List Timed) (after : Leg) : Type 0 where
  pub before : Leg
  pub leg : IsLegOf run stage before
  pub changes : before.changes ≡ l.changes
  pub comes : ComesBy run asked before after.point (Commanded number hits)
  pub is : after ≡ leg_by before after.point (Commanded number hits)

-- It is the one after the marks among the line's points, unless the session has ended there.
pub command_leg : (run : ScriptRun) (stage : Stage) (asked : LinesAsked) (number : ℕ) (hits : List Timed) (points : List PassedPoint) → AreOfCommand number hits points → (l : Leg) → IsLegOf run stage l
    → AreLinked (ComesNext run asked) leg_after l points → (fold leg_after l points).point.is_ended ≡ false → IsCommandLeg run stage asked l number hits (fold leg_after l points)
command_leg run stage asked number hits _ (OfCommand n is) l leg linked goes =
    let point : (leg_after l n).point ≡ n.point = ap (λ (way : Way). (leg_by l n.point way).point) is in
    record {
      before = l;
      leg = leg;
      changes = refl;
      comes = subst (λ (q : Point). ComesBy run asked l q (Commanded number hits)) (sym point) (comes_by run asked l n (Commanded number hits) is linked.0);
      is = ap (leg_by l n.point) is ∙ ap (λ (q : Point). leg_by l q (Commanded number hits)) (sym point);
    }
command_leg run stage asked number hits _ (OfEnd n m own more is ends both) l leg linked goes =
    let ending = (comes_by run asked (leg_after l n) m (Ending number more) ends linked.1.0).1 in
    let point = ap (λ (way : Way). (leg_by (leg_after l n) m.point way).point.is_ended) ends in
    absurd (true≢false (sym ending.ended ∙ sym point ∙ goes))
command_leg run stage asked number hits _ (AfterMark n points by rest) l leg linked goes = by_way by (λ next. command_leg run stage asked number hits points rest (leg_after l n) next linked.1 goes)
  where
    Found : Leg → Type 0
    Found from = IsCommandLeg run stage asked from number hits (fold leg_after (leg_after l n) points)

    after : IsLegOf run stage (leg_after l n) → (leg_after l n).changes ≡ l.changes → (IsLegOf run stage (leg_after l n) → Found (leg_after l n)) → Found l
    after next same more =
        let found = more next in
        record { before = found.before; leg = found.leg; changes = found.changes ∙ same; comes = found.comes; is = found.is }

    by_way : (n.way ≡ OnTheWay []) ⊎ ((marked : List Timed) × (n.way ≡ MarkedFor number marked)) → (IsLegOf run stage (leg_after l n) → Found (leg_after l n)) → Found l
    by_way (inl on_way) more =
        after (subst (λ (way : Way). IsLegOf run stage (leg_by l n.point way)) (sym on_way) (leg_goes_on run stage l n.point [] leg (comes_by run asked l n (OnTheWay []) on_way linked.0).1))
        (ap (λ (way : Way). (leg_by l n.point way).changes) on_way ∙ append-nil l.changes) more
    by_way (inr marked) more =
        after (subst (λ (way : Way). IsLegOf run stage (leg_by l n.point way)) (sym marked.1) (leg_is_marked run stage l n.point number marked.0 leg))
        (ap (λ (way : Way). (leg_by l n.point way).changes) marked.1) more

-- ---- the mark of an end after the command

-- The points of a line with the mark of its end after them, unless the session had ended before it.
pub command_with_end : (run : ScriptRun) (asked : LinesAsked) (number : ℕ) (hits more : List Timed) (points : List PassedPoint) (m : PassedPoint) → m.way ≡ Ending number more → AreOfCommand number hits points → (l : Leg)
    → AreLinked (ComesNext run asked) leg_after l points → (fold leg_after l points).point.is_ended ≡ false → AreOfCommand number (hits ++ more) (points ++ m ∷ [])
command_with_end run asked number hits more _ m ends (OfCommand n is) l linked goes = OfEnd n m hits more is ends refl
command_with_end run asked number hits more _ m ends (OfEnd n k own late is ending both) l linked goes =
    let ended = (comes_by run asked (leg_after l n) k (Ending number late) ending linked.1.0).1.ended in
    let point = ap (λ (way : Way). (leg_by (leg_after l n) k.point way).point.is_ended) ending in
    absurd (true≢false (sym ended ∙ sym point ∙ goes))
command_with_end run asked number hits more _ m ends (AfterMark n points by rest) l linked goes =
    AfterMark n (points ++ m ∷ []) by (command_with_end run asked number hits more points m ends rest (leg_after l n) linked.1 goes)

-- ---- what a reply says

-- The points before a line's command are told by those up to some point of the line.
pub told_by_first : (number : ℕ) (xs ys : List PassedPoint) → list_any (λ n. is_command_of number n.way) xs ≡ true → points_before number (xs ++ ys) ≡ points_before number xs
told_by_first number [] ys has = absurd (true≢false (sym has))
told_by_first number (n ∷ xs) ys has = by_flag (is_command_of number n.way) (λ later. told_by_first number xs ys later) has
  where
    by_flag : (b : Bool) → (list_any (λ m. is_command_of number m.way) xs ≡ true → points_before number (xs ++ ys) ≡ points_before number xs) → (b || list_any (λ m. is_command_of number m.way) xs) ≡ true
        → (if b then [] else n ∷ points_before number (xs ++ ys)) ≡ (if b then [] else n ∷ points_before number xs)
    by_flag true rest has = refl
    by_flag false rest has = ap (λ (l : List PassedPoint). n ∷ l) (rest has)

of_line : (number : ℕ) (hits : List Timed) (n : PassedPoint) → n.way ≡ Commanded number hits → is_command_of number n.way ≡ true
of_line number hits n is = ap (is_command_of number) is ∙ eq-eqb number number refl

-- Of a line's points one is of its command.
pub command_is_there : (number : ℕ) (hits : List Timed) (points : List PassedPoint) → AreOfCommand number hits points → list_any (λ n. is_command_of number n.way) points ≡ true
command_is_there number hits _ (OfCommand n is) = or_left (is_command_of number n.way) false (of_line number hits n is)
command_is_there number hits _ (OfEnd n m own more is ends both) = or_left (is_command_of number n.way) (is_command_of number m.way || false) (of_line number own n is)
command_is_there number hits _ (AfterMark n points by rest) = or_right (is_command_of number n.way) (list_any (λ m. is_command_of number m.way) points) (command_is_there number hits points rest)

-- Points that aren't of the line are all before its command.
pub none_of_line : (number : ℕ) (xs ys : List PassedPoint) → All (λ n. is_command_of number n.way ≡ false) xs → points_before number (xs ++ ys) ≡ xs ++ points_before number ys
none_of_line number [] ys none = refl
none_of_line number (n ∷ xs) ys none =
    ap (λ (b : Bool). if b then [] else n ∷ points_before number (xs ++ ys)) (All-head (λ (m : PassedPoint). is_command_of number m.way ≡ false) n xs none)
    ∙ ap (λ (rest : List PassedPoint). n ∷ rest) (none_of_line number xs ys (All-tail (λ (m : PassedPoint). is_command_of number m.way ≡ false) n xs none))
