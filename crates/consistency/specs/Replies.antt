-- The replies to lines, and which of the lines that were said are replies.
use Rattle.std.specs.Prelude.{◌≡◌, ℕ, ◌==◌, ◌&&◌, ◌||◌, List, [], ◌∷◌, ◌++◌, codes, bytes_eq, count_by, is_ok, Bool, false, if◌then◌else◌}
use Rattle.std.specs.List.{list_any}
use Rattle.tod_stamp.specs.Stamps.{stamp_of_digits, stamp_text}
use Rattle.xrc_command.specs.declared.line.Line.{Line}
use Rattle.xquery_report.specs.Replies.{command_word}
use Rattle.consistency.specs.Times.{AreWhole, whole_lines, words}

-- ---- lines that are replies

abbrev pub is_stamp : (word : List ℕ) → Bool
is_stamp word = is_ok (stamp_of_digits word)

abbrev pub is_answer : (word : List ℕ) → Bool
is_answer word = bytes_eq word (codes "OK") || bytes_eq word (codes "REFUSED")

abbrev pub are_reply : (words : List (List ℕ)) → Bool
are_reply [] = false
are_reply (time ∷ []) = false
are_reply (time ∷ command ∷ []) = false
are_reply (time ∷ command ∷ answer ∷ others) = is_stamp time && is_answer answer

-- A reply's first word is a stamp, and its third one OK or REFUSED. So the lines of a report are none, and the line of a status is none.
abbrev pub is_reply_line : (line : List ℕ) → Bool
is_reply_line line = are_reply (words line)

-- whether a whole line of what was said is a reply
abbrev pub has_reply : (said : List ℕ) → Bool
has_reply said = list_any is_reply_line (whole_lines said)

-- how many are
abbrev pub reply_count : (said : List ℕ) → ℕ
reply_count said = count_by is_reply_line (whole_lines said)

-- ---- the reply to a line

abbrev pub answer_word : (is_accepted : Bool) → List ℕ
answer_word is_accepted = if is_accepted then codes "OK" else codes "REFUSED"

-- A reply is whole lines of a report, of which none is a reply, and then one line: the time of the line that is answered, its command's
-- word, and whether the command is accepted.
pub record IsReply (is_accepted : Bool) (line : Line) (reply : List ℕ) : Type 0 where
  pub report : List ℕ
  pub whole : AreWhole report
  pub none : has_reply report ≡ false
  pub last : List ℕ
  pub one_line : list_any (λ b. b == 10) last ≡ false
  pub parts : reply ≡ report ++ last ++ 10 ∷ []
  pub others : List (List ℕ)
  pub words_are : words last ≡ stamp_text line.time.0 ∷ command_word line.command ∷ answer_word is_accepted ∷ others
