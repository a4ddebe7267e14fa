-- As many lines are answered as replies were said.
use Rattle.std.proofs.Common.{◌≡◌, ℕ, zero, suc, ◌+◌, ◌<◌, ◌≤◌, ◌^◌, Bool, true, false, cond, List, [], ◌∷◌, ◌++◌, length, take, Some, refl, ap, ◌∙◌, arith, slice_get}
use Rattle.std.specs.Prelude.{count_by, is_ok}
use Rattle.std.specs.List.{list_any}
use Rattle.std.proofs.lemmas.Bool.{or_parts}
use Rattle.std.proofs.lemmas.List.Sums.{sum_by-append}
use Rattle.tod_stamp.proofs.TextLaws.{texts_back}
use Rattle.xrc_command.specs.declared.line.Line.{Line}
use Rattle.consistency.specs.Stages.{ScriptRun}
use Rattle.consistency.specs.Courses.{Answered, IsCourse, StandsAt, replies_of}
use Rattle.consistency.specs.Replies.{IsReply, answer_word, are_reply, is_answer, is_reply_line, reply_count}
use Rattle.consistency.specs.Times.{AreWhole, whole_lines}
use Rattle.consistency.proofs.Pieces.{lines_append, whole_append}
use Rattle.consistency.proofs.Replies.{reply_lines, reply_whole}

count_append : {X : Type 0} (p : X → Bool) (xs ys : List X) → count_by p (xs ++ ys) ≡ count_by p xs + count_by p ys
count_append p xs ys = sum_by-append (λ x. cond (p x) 1 0) xs ys

count_none : {X : Type 0} (p : X → Bool) (xs : List X) → list_any p xs ≡ false → count_by p xs ≡ 0
count_none p [] none = refl
count_none p (x ∷ xs) none = let parts = or_parts (p x) (list_any p xs) none in rw parts.0 (omega (arith, count_none p xs parts.1))

-- A reply's last line is a reply.
answer_is : (is_accepted : Bool) → is_answer (answer_word is_accepted) ≡ true
answer_is true = refl
answer_is false = refl

line_is_reply : (is_accepted : Bool) (line : Line) (reply : List ℕ) → line.time.0 < 2 ^ 64 → (r : IsReply is_accepted line reply) → is_reply_line r.last ≡ true
line_is_reply is_accepted line reply below r = ap are_reply r.words_are ∙ rw (ap is_ok (texts_back (record { 0 = line.time.0 }) below)) (answer_is is_accepted)

one_reply : (is_accepted : Bool) (line : Line) (reply : List ℕ) → line.time.0 < 2 ^ 64 → IsReply is_accepted line reply → reply_count reply ≡ 1
one_reply is_accepted line reply below r =
    let last : count_by is_reply_line (r.last ∷ []) ≡ 1 = rw (line_is_reply is_accepted line reply below r) refl in
    ap (count_by is_reply_line) (reply_lines is_accepted line reply r) ∙ count_append is_reply_line (whole_lines r.report) (r.last ∷ []) ∙ omega (arith, count_none is_reply_line (whole_lines r.report) r.none, last)

-- What is answered in a run is one reply each.
abbrev IsOneReply : Answered → Type 0
IsOneReply a = AreWhole a.reply × (reply_count a.reply ≡ 1)

count_replies : (lines : List Answered) (n : ℕ) → n ≤ length lines → ((m : ℕ) (a : Answered) → slice_get lines m ≡ Some a → IsOneReply a) → (AreWhole (replies_of (take n lines))) × (reply_count (replies_of (take n lines)) ≡ n)
count_replies lines zero within each = (refl, refl)
count_replies [] (suc n) within each = absurd (omega (arith, within))
count_replies (x ∷ lines) (suc n) within each =
    let first = each zero x refl in
    let rest = count_replies lines n (omega (arith, within)) (λ m a at. each (suc m) a at) in (
      whole_append x.reply (replies_of (take n lines)) first.0 rest.0,
      ap (count_by is_reply_line) (lines_append x.reply (replies_of (take n lines)) first.0) ∙ count_append is_reply_line (whole_lines x.reply) (whole_lines (replies_of (take n lines))) ∙ omega (arith, first.1, rest.1),
    )

pub replies_counted : (run : ScriptRun) (lines : List Answered) (heard said : List ℕ) → ((n : ℕ) (a : Answered) → slice_get lines n ≡ Some a → a.line.time.0 < 2 ^ 64) → IsCourse run lines → (at : StandsAt lines heard said) → reply_count said ≡ at.answered
replies_counted run lines heard said stamped course at =
    let counted = count_replies lines at.answered at.within (λ m a is. (reply_whole _ a.line a.reply (course m a is).is_reply, one_reply _ a.line a.reply (stamped m a is) (course m a is).is_reply)) in
    ap reply_count at.said_is ∙ ap (count_by is_reply_line) (lines_append (replies_of (take at.answered lines)) at.part counted.0)
    ∙ count_append is_reply_line (whole_lines (replies_of (take at.answered lines))) (whole_lines at.part) ∙ omega (arith, counted.1, count_none is_reply_line (whole_lines at.part) at.none_more)
