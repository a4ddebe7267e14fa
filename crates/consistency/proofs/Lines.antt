-- The lines of a run, one more of them, and the stages after them.
use Rattle.std.proofs.Common.{◌≡◌, ◌⊎◌, inl, inr, ℕ, zero, suc, ◌+◌, ◌<◌, ◌≤◌, Bool, true, false, cond, nat_eq, List, [], ◌∷◌, ◌++◌, length, take, Option, Some, None, refl, sym, ap, subst, ◌∙◌, append-nil, arith, length-append, slice_get}
use Rattle.std.specs.Prelude.{◌==◌, ◌||◌, ◌&&◌, fold, nat_le, nat_lt}
use Rattle.std.specs.List.{list_any}
use Rattle.std.proofs.lemmas.Bool.{and_parts, and_right, cond-false, leb-true, lt-leb, lt-ltb, ne_eqb, or_parts, or_right}
use Rattle.std.proofs.lemmas.List.{length_push, take-append-le, take_all}
use Rattle.std.proofs.lemmas.List.Concat.{flat_map-append}
use Rattle.std.proofs.lemmas.Option.{slice_get_cases, slice_get_within}
use Rattle.xrc_command.specs.declared.line.Line.{Line}
use Rattle.xrc_command.specs.Reading.{line_spelled}
use Rattle.consistency.specs.Stages.{ScriptRun, Stage}
use Rattle.consistency.specs.Courses.{Answered, AreAsked, IsAnswered, IsAsked, IsCourse, last_line_time, lines_begun_from, first_line, first_stage, is_whole_line, later_line, lines_begun, most_lines, next_line, replied_after, replies_of, stage_after, stage_at, texts_of}
use Rattle.consistency.specs.Times.{AreWhole}
use Rattle.consistency.proofs.Pieces.{whole_append}
use Rattle.consistency.proofs.Replies.{reply_whole}

-- ---- one more in a list

pub same_some : {X : Type 0} (a b : X) → (let x : Option X = Some a in let y : Option X = Some b in x ≡ y) → a ≡ b
same_some a b e = cc

-- What stands in a list with one more stands in the list, or is that one.
pub at_or_last : {X : Type 0} (lines : List X) (a : X) (n : ℕ) (b : X) → slice_get (lines ++ a ∷ []) n ≡ Some b → (slice_get lines n ≡ Some b) ⊎ ((n ≡ length lines) × (a ≡ b))
at_or_last [] a zero b at = inr (refl, same_some a b at)
at_or_last [] a (suc n) b at = absurd cc
at_or_last (x ∷ lines) a zero b at = inl at
at_or_last (x ∷ lines) a (suc n) b at = elim (at_or_last lines a n b at) [ inl here ↦ inl here | inr last ↦ inr (ap suc last.0, last.1) ]

pub last_at : {X : Type 0} (lines : List X) (a : X) → slice_get (lines ++ a ∷ []) (length lines) ≡ Some a
last_at [] a = refl
last_at (x ∷ lines) a = last_at lines a

-- A fold over one item more.
fold_more : {X S : Type 0} (f : S → X → S) (s : S) (lines : List X) (n : ℕ) (a : X) → slice_get lines n ≡ Some a → fold f s (take (suc n) lines) ≡ f (fold f s (take n lines)) a
fold_more f s [] n a at = absurd cc
fold_more f s (x ∷ lines) zero a at = ap (f s) (same_some x a at)
fold_more f s (x ∷ lines) (suc n) a at = fold_more f (f s x) lines n a at

-- ---- stages

-- The stage after one line more.
pub stage_then : (run : ScriptRun) (lines : List Answered) (n : ℕ) (a : Answered) → slice_get lines n ≡ Some a → stage_at run lines (suc n) ≡ stage_after (stage_at run lines n) a
stage_then run lines n a at = fold_more stage_after (first_stage run) lines n a at

-- Lines that follow don't change the stages of those before.
pub stage_front : (run : ScriptRun) (lines more : List Answered) (n : ℕ) → n ≤ length lines → stage_at run (lines ++ more) n ≡ stage_at run lines n
stage_front run lines more n within = ap (λ (l : List Answered). fold stage_after (first_stage run) l) (take-append-le n lines more within)

-- Nor do they change the time of the last of them.
pub last_front : (lines more : List Answered) (n : ℕ) → n ≤ length lines → last_line_time (lines ++ more) n ≡ last_line_time lines n
last_front lines more n within = ap (λ (l : List Answered). fold (λ (before : ℕ) (a : Answered). a.line.time.0) 0 l) (take-append-le n lines more within)

-- The stage after all lines and one more.
pub stage_more : (run : ScriptRun) (lines : List Answered) (a : Answered) → stage_at run (lines ++ a ∷ []) (length (lines ++ a ∷ [])) ≡ stage_after (stage_at run lines (length lines)) a
stage_more run lines a =
    let one : length (lines ++ a ∷ []) ≡ suc (length lines) = omega (arith, length_push lines a) in
    ap (stage_at run (lines ++ a ∷ [])) one ∙ stage_then run (lines ++ a ∷ []) (length lines) a (last_at lines a) ∙ ap (λ (s : Stage). stage_after s a) (stage_front run lines (a ∷ []) (length lines) (omega arith))

-- ---- texts and replies

pub texts_more : (lines : List Answered) (a : Answered) → texts_of (lines ++ a ∷ []) ≡ texts_of lines ++ a.text
texts_more lines a = flat_map-append (λ x. x.text) lines (a ∷ []) ∙ ap (λ (l : List ℕ). texts_of lines ++ l) (append-nil a.text)

pub replies_more : (lines : List Answered) (a : Answered) → replies_of (lines ++ a ∷ []) ≡ replies_of lines ++ a.reply
replies_more lines a = flat_map-append (λ x. x.reply) lines (a ∷ []) ∙ ap (λ (l : List ℕ). replies_of lines ++ l) (append-nil a.reply)

-- ---- courses

-- One line more goes on with a course.
pub course_more : (run : ScriptRun) (lines : List Answered) (a : Answered) → IsCourse run lines → IsAnswered run (stage_at run lines (length lines)) a → IsCourse run (lines ++ a ∷ [])
course_more run lines a course answered n b at = elim (at_or_last lines a n b at) [
  | inl here ↦ let within : n ≤ length lines = omega (arith, slice_get_within lines n b here) in subst (λ (s : Stage). IsAnswered run s b) (sym (stage_front run lines (a ∷ []) n within)) (course n b here)
  | inr last ↦
      let within : n ≤ length lines = omega (arith, last.0) in
      subst (λ (s : Stage). IsAnswered run s b) (sym (stage_front run lines (a ∷ []) n within ∙ ap (stage_at run lines) last.0)) (subst (λ (x : Answered). IsAnswered run (stage_at run lines (length lines)) x) last.1 answered)
]

-- a line that was asked after a time, with the texts up to it
abbrev AskedAt : (script : List ℕ) → (n before : ℕ) → (texts : List ℕ) → Answered → Type 0
AskedAt script n before texts a = IsAsked n before (length texts == length script) a

pub asked_more : (script : List ℕ) (lines : List Answered) (a : Answered) → AreAsked script lines
    → IsAsked (length lines) (last_line_time lines (length lines)) (length (texts_of lines ++ a.text) == length script) a → AreAsked script (lines ++ a ∷ [])
asked_more script lines a are asked n b at = elim (at_or_last lines a n b at) [
  | inl here ↦
      let below : n < length lines = slice_get_within lines n b here in
      let within : n ≤ length lines = omega (arith, below) in
      let next : suc n ≤ length lines = omega (arith, below) in
      subst (λ (k : ℕ). AskedAt script n k (texts_of (take (suc n) (lines ++ a ∷ []))) b) (sym (last_front lines (a ∷ []) n within))
      (subst (λ (l : List Answered). AskedAt script n (last_line_time lines n) (texts_of l) b) (sym (take-append-le (suc n) lines (a ∷ []) next)) (are n b here))
  | inr last ↦
      let within : n ≤ length lines = omega (arith, last.0) in
      let all : length (lines ++ a ∷ []) ≤ suc n = omega (arith, last.0, length_push lines a) in
      subst (λ (k : ℕ). AskedAt script n k (texts_of (take (suc n) (lines ++ a ∷ []))) b) (sym (last_front lines (a ∷ []) n within ∙ ap (last_line_time lines) last.0))
      (subst (λ (l : List ℕ). AskedAt script n (last_line_time lines (length lines)) l b) (sym (ap texts_of (take_all (suc n) (lines ++ a ∷ []) all) ∙ texts_more lines a))
      (subst (λ (m : ℕ). AskedAt script m (last_line_time lines (length lines)) (texts_of lines ++ a.text) b) (sym last.0)
      (subst (λ (x : Answered). AskedAt script (length lines) (last_line_time lines (length lines)) (texts_of lines ++ a.text) x) last.1 asked)))
]

-- The replies of a course are whole lines.
replies_are_whole : (lines : List Answered) → ((n : ℕ) (a : Answered) → slice_get lines n ≡ Some a → AreWhole a.reply) → AreWhole (replies_of lines)
replies_are_whole [] whole = refl
replies_are_whole (x ∷ lines) whole = whole_append x.reply (replies_of lines) (whole zero x refl) (replies_are_whole lines (λ n a at. whole (suc n) a at))

pub replies_whole : (run : ScriptRun) (lines : List Answered) → IsCourse run lines → AreWhole (replies_of lines)
replies_whole run lines course = replies_are_whole lines (λ n a at. reply_whole _ a.line a.reply (course n a at).is_reply)

-- ---- the line that was heard

-- It isn't before the last one.
pub next_not_before : (answered before : ℕ) (at_end : Bool) (text : List ℕ) (line : Line) → next_line answered before at_end text ≡ Some line → before ≤ line.time.0
next_not_before answered before at_end text line is = whole (is_whole_line at_end text) (line_spelled (first_line text)) is
  where
    counted : (b : Bool) (l : Line) → nat_lt answered most_lines && nat_le before l.time.0 ≡ b → cond b (Some l) None ≡ Some line → before ≤ line.time.0
    counted true l counts is = let same : l ≡ line = same_some l line is in omega (arith, leb-true before l.time.0 (and_parts (nat_lt answered most_lines) (nat_le before l.time.0) counts).1, ap (λ (x : Line). x.time.0) same)
    counted false l counts is = absurd cc

    later : (o : Option Line) → later_line answered before o ≡ Some line → before ≤ line.time.0
    later None is = absurd cc
    later (Some l) is = counted (nat_lt answered most_lines && nat_le before l.time.0) l refl is

    whole : (b : Bool) (o : Option Line) → cond b (later_line answered before o) None ≡ Some line → before ≤ line.time.0
    whole true o is = later o is
    whole false o is = absurd cc

-- The stamp of a reply isn't after the line that it answers, also where it is that of the session's end.
pub replied_by_last : (run : ScriptRun) (script : List ℕ) (lines : List Answered) (n : ℕ) → AreAsked script lines → n ≤ length lines → (stage_at run lines n).replied ≤ last_line_time lines n
replied_by_last run script lines zero are within = omega arith
replied_by_last run script lines (suc n) are within = elim (slice_get_cases lines n).1 [
  | inl there ↦
      let a = there.0 in
      let at = there.2 in
      let s = stage_at run lines n in
      let before = replied_by_last run script lines n are (omega (arith, within)) in
      let later = next_not_before n (last_line_time lines n) (length (texts_of (take (suc n) lines)) == length script) a.text a.line (are n a at).asks in
      let last : last_line_time lines (suc n) ≡ a.line.time.0 = fold_more (λ (t : ℕ) (b : Answered). b.line.time.0) 0 lines n a at in
      let replied : (stage_at run lines (suc n)).replied ≡ replied_after s a.line = ap (λ (x : Stage). x.replied) (stage_then run lines n a at) in
      let by : replied_after s a.line ≤ a.line.time.0 = by_end s.table.is_ended s.replied a.line.time.0 (omega (arith, before, later)) in
      omega (arith, last, replied, by)
  | inr none ↦ absurd (omega (arith, within, none.0))
]
  where
    by_end : (e : Bool) (old new : ℕ) → old ≤ new → cond e old new ≤ new
    by_end true old new le = le
    by_end false old new le = omega arith

-- Nothing is heard of a line before its first byte, and no line before it is whole.
pub none_heard : (answered before : ℕ) (at_end : Bool) (text : List ℕ) → is_whole_line at_end text ≡ false → next_line answered before at_end text ≡ None
none_heard answered before at_end text is = rw is refl

never_heard : (b : Bool) (o : Option Line) → o ≡ None → cond b o None ≡ None
never_heard true o is = is
never_heard false o is = refl

pub time_falls : (answered before : ℕ) (at_end : Bool) (text : List ℕ) (line : Line) → line_spelled (first_line text) ≡ Some line → line.time.0 < before → next_line answered before at_end text ≡ None
time_falls answered before at_end text line asks falls =
    never_heard (is_whole_line at_end text) (later_line answered before (line_spelled (first_line text)))
    (ap (later_line answered before) asks ∙ cond-false (nat_lt answered most_lines && nat_le before line.time.0) (Some line) None (and_right (nat_lt answered most_lines) (nat_le before line.time.0) (lt-leb before line.time.0 falls)))

-- The last line is whole with the script's end.
pub whole_at_end : (line : List ℕ) → 0 < length line → list_any (λ x. nat_eq x 10) line ≡ false → (is_whole_line true line ≡ true) × (first_line line ≡ line)
whole_at_end line some none = (or_right (list_any (λ x. nat_eq x 10) line) (nat_lt 0 (length line)) (lt-ltb 0 (length line) some), whole_text line none)
  where
    whole_text : (l : List ℕ) → list_any (λ x. nat_eq x 10) l ≡ false → first_line l ≡ l
    whole_text [] none = refl
    whole_text (x ∷ l) none = let parts = or_parts (nat_eq x 10) (list_any (λ x. nat_eq x 10) l) none in rw parts.0 (ap (λ (r : List ℕ). x ∷ r) (whole_text l parts.1))

-- Two lines begin where a byte follows a line feed.
feed_then : (is_inside : Bool) (text : List ℕ) (b : ℕ) → list_any (λ x. nat_eq x 10) text ≡ true → 2 ≤ cond is_inside 1 0 + lines_begun_from is_inside (text ++ b ∷ [])
feed_then is_inside [] b any = absurd cc
feed_then is_inside (x ∷ text) b any = inside is_inside (feed (nat_eq x 10) any (feed_then true text b) (some text))
  where
    some : (l : List ℕ) → 1 ≤ lines_begun_from false (l ++ b ∷ [])
    some [] = omega arith
    some (y ∷ l) = omega arith

    feed : (f : Bool) → (f || list_any (λ x. nat_eq x 10) text) ≡ true → (list_any (λ x. nat_eq x 10) text ≡ true → 2 ≤ 1 + lines_begun_from true (text ++ b ∷ [])) → 1 ≤ lines_begun_from false (text ++ b ∷ []) → 2 ≤ 1 + lines_begun_from (cond f false true) (text ++ b ∷ [])
    feed true any on from = omega (arith, from)
    feed false any on from = on any

    inside : (i : Bool) → 2 ≤ 1 + lines_begun_from (cond (nat_eq x 10) false true) (text ++ b ∷ []) → 2 ≤ cond i 1 0 + (cond i 0 1 + lines_begun_from (cond (nat_eq x 10) false true) (text ++ b ∷ []))
    inside true two = omega (arith, two)
    inside false two = omega (arith, two)

-- While only one line begins, what was heard before its last byte has no line feed.
pub no_feed_before : (text : List ℕ) (b : ℕ) → lines_begun (text ++ b ∷ []) ≤ 1 → list_any (λ x. nat_eq x 10) text ≡ false
no_feed_before text b one = choose (list_any (λ x. nat_eq x 10) text) refl
  where
    choose : (t : Bool) → list_any (λ x. nat_eq x 10) text ≡ t → t ≡ false
    choose true any = let two : 2 ≤ 0 + lines_begun_from false (text ++ b ∷ []) = feed_then false text b any in absurd (omega (arith, one, two))
    choose false none = refl

-- A byte after a text without a line feed begins no second line.
pub one_line_more : (text : List ℕ) (b : ℕ) → list_any (λ x. nat_eq x 10) text ≡ false → lines_begun (text ++ b ∷ []) ≤ 1
one_line_more [] b none = omega arith
one_line_more (x ∷ text) b none =
    let parts = or_parts (nat_eq x 10) (list_any (λ z. nat_eq z 10) text) none in
    let rest : lines_begun_from (cond (nat_eq x 10) false true) (text ++ b ∷ []) ≡ 0 = rw parts.0 (inside text parts.1) in
    omega (arith, rest)
  where
    inside : (l : List ℕ) → list_any (λ z. nat_eq z 10) l ≡ false → lines_begun_from true (l ++ b ∷ []) ≡ 0
    inside [] none = refl
    inside (y ∷ l) none = let parts = or_parts (nat_eq y 10) (list_any (λ z. nat_eq z 10) l) none in let rest : lines_begun_from (cond (nat_eq y 10) false true) (l ++ b ∷ []) ≡ 0 = rw parts.0 (inside l parts.1) in omega (arith, rest)

pub not_end_is : (heard : List ℕ) (b : ℕ) (left script : List ℕ) → script ≡ heard ++ b ∷ left → nat_eq (length heard) (length script) ≡ false
not_end_is heard b left script is = ne_eqb (length heard) (length script) (λ same. absurd (omega (arith, same, ap length is, length-append heard (b ∷ left))))
