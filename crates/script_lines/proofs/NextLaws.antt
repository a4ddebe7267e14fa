-- The next line of a script, and what it is to a run.
use Rattle.std.proofs.Common.{◌≡◌, inl, inr, ℕ, ◌-◌, ◌<◌, ◌≤◌, Bool, true, false, cond, nat_eq, eq-eqb, Equal, Greater, Less, List, [], ◌++◌, length, Option, Some, None, refl, sym, ap, subst, ◌∙◌, append-nil, append_assoc, arith}
use Rattle.std.specs.Prelude.{◌==◌, ◌&&◌, nat_le, nat_lt}
use Rattle.std.specs.Ordering.{is_le, nat_cmp}
use Rattle.std.proofs.lemmas.Bool.{and_left, and_right, cases_lt, cond-false, le-leb, le-ltb, lt-leb, lt-ltb, or_left, true≢false}
use Rattle.crash_plant.specs.Moments.{PlantState}
use Rattle.xrc_command.specs.declared.line.Line.{Line}
use Rattle.xrc_command.specs.Reading.{line_spelled}
use Rattle.xrc_command.proofs.ShortLines.{long_spells_none}
use Rattle.consistency.specs.Courses.{first_line, is_whole_line, last_line_time, later_line, most_lines, next_line, texts_of}
use Rattle.consistency.proofs.Lines.{whole_at_end}
use Rattle.script_lines.specs.declared.next.Next.{Next}
use Rattle.script_lines.specs.declared.next.Next.TheVariants.{Bad, Line as NextLine, Nothing}
use Rattle.script_lines.specs.Hearing.{HearsText}
use Rattle.script_lines.specs.NextLines.{IsNextInRuns, IsNextLine, asked_next}
use Rattle.script_lines.specs.Texts.{IsWhole, has_feed}
use Rattle.script_lines.proofs.EndLaws.{fed_has}

-- ---- times

-- A time that isn't later compares so,
pub is_le_from_le : (a b : ℕ) → a ≤ b → is_le (nat_cmp a b) ≡ true
is_le_from_le a b le = elim (cases_lt a b) [
  | inl below ↦ ap (λ (t : Bool). is_le (cond t Less (cond (nat_eq a b) Equal Greater))) (lt-ltb a b below)
  | inr above ↦ ap (λ (t : Bool). is_le (cond t Less (cond (nat_eq a b) Equal Greater))) (le-ltb a b above) ∙ ap (λ (t : Bool). is_le (cond t Equal Greater)) (eq-eqb a b (omega (arith, le, above)))
]

-- and a later one doesn't.
pub later_from_not_le : (a b : ℕ) → is_le (nat_cmp a b) ≡ false → b < a
later_from_not_le a b not = elim (cases_lt b a) [ inl later ↦ later | inr le ↦ absurd (true≢false (sym (is_le_from_le a b le) ∙ not)) ]

-- ---- lines that count

-- A line counts that isn't one too many and comes not before the line before.
pub counts : (number before : ℕ) (line : Line) → number ≤ 100000 → 1 ≤ number → before ≤ line.time.0 → later_line (number - 1) before (Some line) ≡ Some line
counts number before line few some later = rw (lt-ltb (number - 1) most_lines (omega (arith, few, some))) (rw (le-leb before line.time.0 later) refl)

-- One too many doesn't,
pub one_too_many : (number before : ℕ) (line : Line) → 100000 < number → later_line (number - 1) before (Some line) ≡ None
one_too_many number before line many =
    cond-false (nat_lt (number - 1) most_lines && nat_le before line.time.0) (Some line) None (and_left (nat_lt (number - 1) most_lines) (nat_le before line.time.0) (le-ltb (number - 1) most_lines (omega (arith, many))))

-- and none that falls in time.
pub falls_in_time : (number before : ℕ) (line : Line) → line.time.0 < before → later_line (number - 1) before (Some line) ≡ None
falls_in_time number before line falls =
    cond-false (nat_lt (number - 1) most_lines && nat_le before line.time.0) (Some line) None (and_right (nat_lt (number - 1) most_lines) (nat_le before line.time.0) (lt-leb before line.time.0 falls))

-- ---- in runs

-- A line that was heard whole is one, where the script's end is known.
whole_is : (tells : Type 0) → tells → (at_end : Bool) (text left : List ℕ) → (left ≡ [] → at_end ≡ true) → IsWhole tells text left → is_whole_line at_end text ≡ true
whole_is tells told at_end text left ends (inl fed) = or_left (has_feed text) (at_end && nat_lt 0 (length text)) (fed_has text fed)
whole_is tells told at_end text left ends (inr last) = ap (λ (e : Bool). is_whole_line e text) (ends (last.at_end told)) ∙ (whole_at_end text last.some last.front.no_feed).0

-- What asks nothing is no next line.
none_next : (whole : Bool) (o : Option Line) → o ≡ None → cond whole o None ≡ None
none_next true o is = is
none_next false o is = refl

nothing_next : (number before : ℕ) (at_end : Bool) → next_line number before at_end [] ≡ None
nothing_next number before true = refl
nothing_next number before false = refl

-- What was heard is the next line of a run.
next_is : (tells : Type 0) → tells → (number before : ℕ) (at_end : Bool) (text left : List ℕ) (next : Next) → (left ≡ [] → at_end ≡ true) → IsNextLine tells number before text left next → next_line (number - 1) before at_end text ≡ asked_next next
next_is tells told number before at_end text left (NextLine line) ends is =
    ap (λ (w : Bool). cond w (later_line (number - 1) before (line_spelled (first_line text))) None) (whole_is tells told at_end text left ends is.0) ∙ is.1
next_is tells told number before at_end text left Bad ends (inl is) = none_next (is_whole_line at_end text) (later_line (number - 1) before (line_spelled (first_line text))) is.1
next_is tells told number before at_end text left Bad ends (inr long) =
    let whole : first_line text ≡ text = (whole_at_end text (omega (arith, long.size)) long.no_feed).1 in
    none_next (is_whole_line at_end text) (later_line (number - 1) before (line_spelled (first_line text)))
    (ap (λ (l : List ℕ). later_line (number - 1) before (line_spelled l)) whole ∙ ap (later_line (number - 1) before) (long_spells_none text (omega (arith, long.size))))
next_is tells told number before at_end text left Nothing ends none = ap (next_line (number - 1) before at_end) none.text_is ∙ nothing_next (number - 1) before at_end

-- So it is in runs.
pub next_in_runs : (tells : Type 0) → tells → (number before : ℕ) (text : List ℕ) (first old new : PlantState) (next : Next) → HearsText text old new → IsNextLine tells number before text new.script next → IsNextInRuns number before text (asked_next next) first old
next_in_runs tells told number before text first old new next heard is run lines keeps counted time =
    let script : first.script ≡ (texts_of lines ++ text) ++ new.script = keeps.script ∙ ap (λ (l : List ℕ). l ++ old.script) (append-nil (texts_of lines)) ∙ ap (λ (l : List ℕ). texts_of lines ++ l) heard.script ∙ sym (append_assoc (texts_of lines) text new.script) in
    let ends : new.script ≡ [] → (length (texts_of lines ++ text) == length first.script) ≡ true = λ end. eq-eqb (length (texts_of lines ++ text)) (length first.script) (ap length (sym (script ∙ ap (λ (l : List ℕ). (texts_of lines ++ text) ++ l) end ∙ append-nil (texts_of lines ++ text)))) in
    let at : number - 1 ≡ length lines = omega (arith, counted) in
    subst (λ (n : ℕ). next_line n (last_line_time lines (length lines)) (length (texts_of lines ++ text) == length first.script) text ≡ asked_next next) at
    (subst (λ (b : ℕ). next_line (number - 1) b (length (texts_of lines ++ text) == length first.script) text ≡ asked_next next) (sym time)
    (next_is tells told number before (length (texts_of lines ++ text) == length first.script) text new.script next ends is))
