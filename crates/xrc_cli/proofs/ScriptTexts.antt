-- In a script of lines that count none is bad.
use Rattle.std.proofs.Common.{◌≡◌, ◌⊎◌, inl, inr, ℕ, suc, ◌+◌, ◌-◌, ◌<◌, ◌≤◌, ◌||◌, ◌&&◌, Bool, true, false, cond, nat_eq, nat_lt, List, [], ◌∷◌, ◌++◌, length, take, Some, None, refl, sym, ap, subst, ◌∙◌, append-nil, append_assoc, arith, slice_get}
use Rattle.std.specs.Prelude.{fold}
use Rattle.std.proofs.lemmas.Bool.{and_parts, cases_lt, eqb-true, ltb-true}
use Rattle.std.proofs.lemmas.List.{append_cancel_left, length-append, nil_from_length, take_all}
use Rattle.xrc_command.specs.declared.line.Line.{Line}
use Rattle.xrc_command.specs.Reading.{line_spelled}
use Rattle.xrc_command.proofs.ShortLines.{long_spells_none}
use Rattle.consistency.specs.Courses.{Answered, AreAsked, IsAsked, first_line, is_whole_line, last_line_time, later_line, lines_begun, lines_begun_from, next_line, texts_of}
use Rattle.consistency.proofs.Lines.{whole_at_end}
use Rattle.script_lines.specs.declared.line_end.LineEnd.{LineEnd}
use Rattle.script_lines.specs.declared.line_end.LineEnd.TheVariants.{Nothing, TooLong, Whole}
use Rattle.script_lines.specs.declared.next.Next.TheVariants.{Bad}
use Rattle.script_lines.specs.NextLines.{IsNextLine}
use Rattle.script_lines.specs.Texts.{has_feed}
use Rattle.script_lines.proofs.EndLaws.{Ends, told_apart}

-- ---- one line

-- A text ends with its one line feed.
record EndsWithFeed (text : List ℕ) : Type 0 where
  line : List ℕ
  no_feed : has_feed line ≡ false
  text_is : text ≡ line ++ 10 ∷ []

none_begun : (text : List ℕ) → lines_begun_from false text ≤ 0 → text ≡ []
none_begun [] few = refl
none_begun (b ∷ text) few = absurd (omega (arith, few))

feed_alone : (b : ℕ) (text : List ℕ) → nat_eq b 10 ≡ true → text ≡ [] → EndsWithFeed (b ∷ text)
feed_alone b text is none = record { line = []; no_feed = refl; text_is = ap (λ (x : ℕ). x ∷ text) (eqb-true b 10 is) ∙ ap (λ (l : List ℕ). 10 ∷ l) none }

feed_later : (b : ℕ) (text : List ℕ) → nat_eq b 10 ≡ false → EndsWithFeed text → EndsWithFeed (b ∷ text)
feed_later b text is e = record { line = b ∷ e.line; no_feed = ap (λ (f : Bool). f || has_feed e.line) is ∙ e.no_feed; text_is = ap (λ (l : List ℕ). b ∷ l) e.text_is }

-- Where a line has begun and no other does.
abbrev FedInside : (text : List ℕ) → Type 0
FedInside text = lines_begun_from true text ≤ 0 → has_feed text ≡ true → EndsWithFeed text

inside_by : (b : ℕ) (text : List ℕ) → FedInside text → (f : Bool) → nat_eq b 10 ≡ f → 0 + lines_begun_from (cond f false true) text ≤ 0 → (f || has_feed text) ≡ true → EndsWithFeed (b ∷ text)
inside_by b text rest true is few has = feed_alone b text is (none_begun text (omega (arith, few)))
inside_by b text rest false is few has = feed_later b text is (rest (omega (arith, few)) has)

fed_inside : (text : List ℕ) → FedInside text
fed_inside [] few has = absurd (cc has)
fed_inside (b ∷ text) few has = inside_by b text (fed_inside text) (nat_eq b 10) refl few has

-- One line with a line feed ends with it.
fed_of : (text : List ℕ) → lines_begun text ≤ 1 → has_feed text ≡ true → EndsWithFeed text
fed_of [] few has = absurd (cc has)
fed_of (b ∷ text) few has = by_feed (nat_eq b 10) refl few has
  where
    by_feed : (f : Bool) → nat_eq b 10 ≡ f → 1 + lines_begun_from (cond f false true) text ≤ 1 → (f || has_feed text) ≡ true → EndsWithFeed (b ∷ text)
    by_feed true is few has = feed_alone b text is (none_begun text (omega (arith, few)))
    by_feed false is few has = feed_later b text is (fed_inside text (omega (arith, few)) has)

before_by : (b : ℕ) (line : List ℕ) → (has_feed line ≡ false → first_line (line ++ 10 ∷ []) ≡ line) → (f : Bool) → nat_eq b 10 ≡ f → (f || has_feed line) ≡ false → first_line (b ∷ (line ++ 10 ∷ [])) ≡ b ∷ line
before_by b line rest true is none = absurd (cc none)
before_by b line rest false is none = rw is (ap (λ (l : List ℕ). b ∷ l) (rest none))

before_feed : (line : List ℕ) → has_feed line ≡ false → first_line (line ++ 10 ∷ []) ≡ line
before_feed [] none = refl
before_feed (b ∷ line) none = before_by b line (before_feed line) (nat_eq b 10) refl none

-- What a line asks that counts, it asks as a line that was heard whole.
record Asks (n before : ℕ) (at_end : Bool) (a : Answered) : Type 0 where
  whole : is_whole_line at_end a.text ≡ true
  line : later_line n before (line_spelled (first_line a.text)) ≡ Some a.line
  short : length (first_line a.text) ≤ 256

asks_of : (n before : ℕ) (at_end : Bool) (a : Answered) → next_line n before at_end a.text ≡ Some a.line → Asks n before at_end a
asks_of n before at_end a asks = by_whole (is_whole_line at_end a.text) refl asks
  where
    short_of : later_line n before (line_spelled (first_line a.text)) ≡ Some a.line → (70 < length (first_line a.text)) ⊎ (length (first_line a.text) ≤ 70) → length (first_line a.text) ≤ 256
    short_of line (inl long) =
        let none : later_line n before (line_spelled (first_line a.text)) ≡ None = ap (later_line n before) (long_spells_none (first_line a.text) long) in
        absurd (cc (line, none))
    short_of line (inr few) = omega (arith, few)

    by_whole : (w : Bool) → is_whole_line at_end a.text ≡ w → cond w (later_line n before (line_spelled (first_line a.text))) None ≡ Some a.line → Asks n before at_end a
    by_whole true is line = record { whole = is; line = line; short = short_of line (cases_lt 70 (length (first_line a.text))) }
    by_whole false is line = absurd (cc line)

-- It is a whole line of what is left of the script, after which so much stands.
whole_of : (n before : ℕ) (at_end : Bool) (a : Answered) (rest : List ℕ) → IsAsked n before at_end a → (at_end ≡ true → rest ≡ []) → Ends Whole a.text rest
whole_of n before at_end a rest asked ends = by_feed (has_feed a.text) refl its.whole
  where
    its : Asks n before at_end a
    its = asks_of n before at_end a asked.asks

    by_feed : (f : Bool) → has_feed a.text ≡ f → (f || (at_end && nat_lt 0 (length a.text))) ≡ true → Ends Whole a.text rest
    by_feed true is whole =
        let e = fed_of a.text asked.one_line is in
        let first : first_line a.text ≡ e.line = ap first_line e.text_is ∙ before_feed e.line e.no_feed in
        inl (record { line = e.line; front = record { short = omega (arith, its.short, ap length first); no_feed = e.no_feed }; text_is = e.text_is })
    by_feed false is whole =
        let both = and_parts at_end (nat_lt 0 (length a.text)) whole in
        let some = ltb-true 0 (length a.text) both.1 in
        let first = (whole_at_end a.text some is).1 in
        inr (record { some = some; front = record { short = omega (arith, its.short, ap length first); no_feed = is }; at_end = λ told. ends both.0 })

-- ---- lines after others

-- Lines are asked after so many others, the last of them at a time, whose texts have so many bytes, of a script of so many.
abbrev AskedAfter : (total n before used : ℕ) → List Answered → Type 0
AskedAfter total n before used lines = (m : ℕ) (a : Answered) → slice_get lines m ≡ Some a
    → IsAsked (n + m) (fold (λ t x. x.line.time.0) before (take m lines)) (nat_eq (used + length (texts_of (take (suc m) lines))) total) a

first_asked : (total n before used : ℕ) (a : Answered) (lines : List Answered) → AskedAfter total n before used (a ∷ lines) → IsAsked n before (nat_eq (used + length a.text) total) a
first_asked total n before used a lines are =
    let here = are 0 a refl in
    let text : length (a.text ++ []) ≡ length a.text = ap length (append-nil a.text) in
    subst (λ (k : ℕ). IsAsked k before (nat_eq (used + length a.text) total) a) (let e : n + 0 ≡ n = omega arith in e)
    (subst (λ (k : ℕ). IsAsked (n + 0) before (nat_eq k total) a) (let e : used + length (a.text ++ []) ≡ used + length a.text = omega (arith, text) in e) here)

later_asked : (total n before used : ℕ) (a : Answered) (lines : List Answered) → AskedAfter total n before used (a ∷ lines) → AskedAfter total (suc n) a.line.time.0 (used + length a.text) lines
later_asked total n before used a lines are m b at =
    let texts = texts_of (take (suc m) lines) in
    let here = are (suc m) b at in
    let size : length (a.text ++ texts) ≡ length a.text + length texts = length-append a.text texts in
    let number : n + suc m ≡ suc n + m = omega arith in
    let bytes : used + length (a.text ++ texts) ≡ used + length a.text + length texts = omega (arith, size) in
    subst (λ (k : ℕ). IsAsked k (fold (λ t x. x.line.time.0) a.line.time.0 (take m lines)) (nat_eq (used + length a.text + length texts) total) b) number
    (subst (λ (k : ℕ). IsAsked (n + suc m) (fold (λ t x. x.line.time.0) a.line.time.0 (take m lines)) (nat_eq k total) b) bytes here)

all_asked : (script : List ℕ) (lines : List Answered) → AreAsked script lines → AskedAfter (length script) 0 0 0 lines
all_asked script lines are m a at =
    let texts = texts_of (take (suc m) lines) in
    let here = are m a at in
    let number : m ≡ 0 + m = omega arith in
    let bytes : length texts ≡ 0 + length texts = omega arith in
    subst (λ (k : ℕ). IsAsked k (last_line_time lines m) (nat_eq (0 + length texts) (length script)) a) number
    (subst (λ (k : ℕ). IsAsked m (last_line_time lines m) (nat_eq k (length script)) a) bytes here)

-- ---- one script

-- The first line of what is left is a whole one.
module _ (total n before used : ℕ) (a : Answered) (left rest : List ℕ) (asked : IsAsked n before (nat_eq (used + length a.text) total) a) (all : used + length left ≡ total) (is : left ≡ a.text ++ rest) where
  at_end_is : nat_eq (used + length a.text) total ≡ true → rest ≡ []
  at_end_is end =
      let here = eqb-true (used + length a.text) total end in
      let size : length left ≡ length a.text + length rest = ap length is ∙ length-append a.text rest in
      nil_from_length rest (omega (arith, here, all, size))

  first_whole : Ends Whole a.text rest
  first_whole = whole_of n before (nat_eq (used + length a.text) total) a rest asked at_end_is

  asks_line : later_line n before (line_spelled (first_line a.text)) ≡ Some a.line
  asks_line = (asks_of n before (nat_eq (used + length a.text) total) a asked.asks).line

-- Nothing is left after the last line.
not_after_all : (end : LineEnd) (text rest : List ℕ) → [] ≡ text ++ rest → Ends end text rest → (end ≡ Nothing → ⊥) → ⊥
not_after_all end text rest is ends other = other (told_apart [] text [] rest [] end Nothing is refl ends (record { text_is = refl; at_end = λ told. refl })).0

module _ (tells : Type 0) (told : tells) (total : ℕ) (text rest : List ℕ) where
  -- how a bad line ended
  bad_ends : (number before : ℕ) → IsNextLine tells number before text rest Bad → (Ends Whole text rest × (later_line (number - 1) before (line_spelled (first_line text)) ≡ None)) ⊎ Ends TooLong text rest
  bad_ends number before (inl (inl fed, none)) = inl (inl fed, none)
  bad_ends number before (inl (inr last, none)) = inl (inr (record { some = last.some; front = last.front; at_end = λ unit. last.at_end told }), none)
  bad_ends number before (inr long) = inr long

  none_is_bad : (n before used : ℕ) (left : List ℕ) (lines good : List Answered) → AskedAfter total n before used lines → AskedAfter total n before used good → used + length left ≡ total → left ≡ texts_of good → left ≡ texts_of lines ++ (text ++ rest)
      → IsNextLine tells (n + length lines + 1) (fold (λ t x. x.line.time.0) before lines) text rest Bad → ⊥
  none_is_bad n before used left [] [] are others all wanted is bad = by_end (bad_ends (n + 0 + 1) before bad)
    where
      by_end : (Ends Whole text rest × (later_line (n + 0 + 1 - 1) before (line_spelled (first_line text)) ≡ None)) ⊎ Ends TooLong text rest → ⊥
      by_end (inl whole) = not_after_all Whole text rest (sym wanted ∙ is) whole.0 (λ same. cc same)
      by_end (inr long) = not_after_all TooLong text rest (sym wanted ∙ is) long (λ same. cc same)
  none_is_bad n before used left [] (g ∷ good) are others all wanted is bad = by_end (bad_ends (n + 0 + 1) before bad)
    where
      asked : IsAsked n before (nat_eq (used + length g.text) total) g
      asked = first_asked total n before used g good others

      whole_there : Ends Whole g.text (texts_of good)
      whole_there = first_whole total n before used g left (texts_of good) asked all wanted

      by_end : (Ends Whole text rest × (later_line (n + 0 + 1 - 1) before (line_spelled (first_line text)) ≡ None)) ⊎ Ends TooLong text rest → ⊥
      by_end (inl whole) =
          let same = (told_apart left text g.text rest (texts_of good) Whole Whole is wanted whole.0 whole_there).1 in
          let number : n + 0 + 1 - 1 ≡ n = omega arith in
          let none : later_line n before (line_spelled (first_line g.text)) ≡ None = sym (ap (λ (k : ℕ). later_line k before (line_spelled (first_line g.text))) number) ∙ sym (ap (λ (l : List ℕ). later_line (n + 0 + 1 - 1) before (line_spelled (first_line l))) same) ∙ whole.1 in
          let some = asks_line total n before used g left (texts_of good) asked all wanted in
          cc (none, some)
      by_end (inr long) = let clash = (told_apart left text g.text rest (texts_of good) TooLong Whole is wanted long whole_there).0 in cc clash
  none_is_bad n before used left (a ∷ lines) [] are others all wanted is bad =
      not_after_all Whole a.text (texts_of lines ++ (text ++ rest)) (sym wanted ∙ after) (first_whole total n before used a left (texts_of lines ++ (text ++ rest)) (first_asked total n before used a lines are) all after) (λ same. cc same)
    where
      after : left ≡ a.text ++ (texts_of lines ++ (text ++ rest))
      after = is ∙ append_assoc a.text (texts_of lines) (text ++ rest)
  none_is_bad n before used left (a ∷ lines) (g ∷ good) are others all wanted is bad =
      none_is_bad (suc n) a.line.time.0 (used + length a.text) (texts_of good) lines good (later_asked total n before used a lines are)
      (subst (λ (t : ℕ). AskedAfter total (suc n) t (used + length a.text) good) (ap (λ (l : Line). l.time.0) (sym same_line))
      (subst (λ (l : List ℕ). AskedAfter total (suc n) g.line.time.0 (used + length l) good) (sym same_text) (later_asked total n before used g good others)))
      (omega (arith, all, ap length wanted, length-append g.text (texts_of good), ap length same_text)) refl
      (append_cancel_left a.text (texts_of good) (texts_of lines ++ (text ++ rest)) (ap (λ (l : List ℕ). l ++ texts_of good) same_text ∙ sym wanted ∙ after))
      (subst (λ (k : ℕ). IsNextLine tells k (fold (λ t x. x.line.time.0) a.line.time.0 lines) text rest Bad) (let e : n + suc (length lines) + 1 ≡ suc n + length lines + 1 = omega arith in e) bad)
    where
      after : left ≡ a.text ++ (texts_of lines ++ (text ++ rest))
      after = is ∙ append_assoc a.text (texts_of lines) (text ++ rest)

      mine : IsAsked n before (nat_eq (used + length a.text) total) a
      mine = first_asked total n before used a lines are

      its : IsAsked n before (nat_eq (used + length g.text) total) g
      its = first_asked total n before used g good others

      same_text : a.text ≡ g.text
      same_text =
          (told_apart left a.text g.text (texts_of lines ++ (text ++ rest)) (texts_of good) Whole Whole after wanted (first_whole total n before used a left (texts_of lines ++ (text ++ rest)) mine all after)
          (first_whole total n before used g left (texts_of good) its all wanted)).1

      same_line : a.line ≡ g.line
      same_line =
          let one = asks_line total n before used a left (texts_of lines ++ (text ++ rest)) mine all after in
          let two = asks_line total n before used g left (texts_of good) its all wanted in
          let texts = ap (λ (l : List ℕ). later_line n before (line_spelled (first_line l))) same_text in
          cc (one, two, texts)

-- Lines that were asked of a script of lines that count: what was heard after them is no bad line.
pub no_bad_line : (tells : Type 0) → tells → (script : List ℕ) (lines good : List Answered) (text rest : List ℕ) → AreAsked script lines → AreAsked script good → texts_of good ≡ script → script ≡ texts_of lines ++ text ++ rest
    → IsNextLine tells (length lines + 1) (last_line_time lines (length lines)) text rest Bad → ⊥
no_bad_line tells told script lines good text rest are others whole is bad =
    none_is_bad tells told (length script) text rest 0 0 0 script lines good (all_asked script lines are) (all_asked script good others) (let e : 0 + length script ≡ length script = omega arith in e) (sym whole)
    (is ∙ append_assoc (texts_of lines) text rest)
    (subst (λ (k : ℕ). IsNextLine tells k (fold (λ t x. x.line.time.0) 0 lines) text rest Bad) (let e : length lines + 1 ≡ 0 + length lines + 1 = omega arith in e)
    (subst (λ (l : List Answered). IsNextLine tells (length lines + 1) (fold (λ t x. x.line.time.0) 0 l) text rest Bad) (take_all (length lines) lines (omega arith)) bad))
