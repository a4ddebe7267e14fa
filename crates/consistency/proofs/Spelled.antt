-- A line of words between spaces, and a reply that ends with such a line.
use Rattle.std.proofs.Common.{◌≡◌, ℕ, zero, suc, ◌/◌, ◌%◌, ◌<◌, Bool, true, false, nat_eq, List, [], ◌∷◌, ◌++◌, refl, ap, ◌∙◌, append_assoc, append-nil, arith}
use Rattle.std.specs.List.{flat_map, list_any}
use Rattle.std.proofs.lemmas.Bool.{ne_eqb, or_from}
use Rattle.std.proofs.lemmas.Bool.Decides.{nat_tests}
use Rattle.std.proofs.lemmas.List.Folds.{list_any-append}
use Rattle.pair_table.specs.declared.command.Command.{Command}
use Rattle.pair_table.specs.declared.command.Command.TheVariants.{Start, AddPair, DelPair, Suspend, Query, End}
use Rattle.tod_stamp.specs.Stamps.{hex_digit, hex_digits, stamp_text}
use Rattle.xrc_command.specs.declared.line.Line.{Line}
use Rattle.xquery_report.specs.Replies.{command_word}
use Rattle.consistency.specs.Replies.{IsReply, answer_word, has_reply}
use Rattle.consistency.specs.Times.{AreWhole, ended_pieces, unended, words}
use Rattle.consistency.proofs.Pieces.{no_pieces, pieces_append}

-- a text without this byte
abbrev pub HasNo : (byte : ℕ) → List ℕ → Type 0
HasNo byte text = list_any (λ b. nat_eq b byte) text ≡ false

-- a word: neither a space nor a line feed stands in it
abbrev pub IsWord : List ℕ → Type 0
IsWord text = HasNo 32 text × HasNo 10 text

pub data AreWords : List (List ℕ) → Type 0 where
  no_word : AreWords []
  one_more : {word : List ℕ} {others : List (List ℕ)} → IsWord word → AreWords others → AreWords (word ∷ others)

-- a word, and others after it, each after a space
abbrev pub spelled : (word : List ℕ) → (others : List (List ℕ)) → List ℕ
spelled word others = word ++ flat_map (λ w. 32 ∷ w) others

pub has_no_both : (byte : ℕ) (a b : List ℕ) → HasNo byte a → HasNo byte b → HasNo byte (a ++ b)
has_no_both byte a b first second = list_any-append (λ x. nat_eq x byte) a b ∙ or_from (list_any (λ x. nat_eq x byte) a) (list_any (λ x. nat_eq x byte) b) first second

-- ---- words of a line

word_then : (word rest : List ℕ) → HasNo 32 word → words (word ++ 32 ∷ rest) ≡ word ∷ words rest
word_then word rest none =
    let own = no_pieces 32 [] word none in
    let after = 32 ∷ (rest ++ 32 ∷ []) in
    ap (ended_pieces 32 []) (append_assoc word (32 ∷ rest) (32 ∷ [])) ∙ pieces_append 32 [] word after ∙ ap (λ (l : List (List ℕ)). l ++ ended_pieces 32 (unended 32 [] word) after) own.0 ∙ ap (λ (r : List ℕ). ended_pieces 32 r after) own.1

word_alone : (word : List ℕ) → HasNo 32 word → words word ≡ word ∷ []
word_alone word none =
    let own = no_pieces 32 [] word none in
    pieces_append 32 [] word (32 ∷ []) ∙ ap (λ (l : List (List ℕ)). l ++ ended_pieces 32 (unended 32 [] word) (32 ∷ [])) own.0 ∙ ap (λ (r : List ℕ). ended_pieces 32 r (32 ∷ [])) own.1

-- The words of what is spelled are those that were.
pub words_spelled : (word : List ℕ) (others : List (List ℕ)) → IsWord word → AreWords others → words (spelled word others) ≡ word ∷ others
words_spelled word [] is no_word = ap words (append-nil word) ∙ word_alone word is.0
words_spelled word (next ∷ others) is (one_more first rest) = word_then word (spelled next others) is.0 ∙ ap (λ (l : List (List ℕ)). word ∷ l) (words_spelled next others first rest)

-- No line feed stands in it.
pub no_feed_spelled : (word : List ℕ) (others : List (List ℕ)) → IsWord word → AreWords others → HasNo 10 (spelled word others)
no_feed_spelled word [] is no_word = ap (list_any (λ x. nat_eq x 10)) (append-nil word) ∙ is.1
no_feed_spelled word (next ∷ others) is (one_more first rest) = has_no_both 10 word (32 ∷ spelled next others) is.1 (no_feed_spelled next others first rest)

-- ---- the words of replies

digit_not : (d byte : ℕ) → byte < 48 → nat_eq (hex_digit d) byte ≡ false
digit_not d byte low = ne_eqb (hex_digit d) byte (grind (arith, nat_tests))

digits_have_no : (count n byte : ℕ) → byte < 48 → HasNo byte (hex_digits count n)
digits_have_no zero n byte low = refl
digits_have_no (suc count) n byte low = has_no_both byte (hex_digits count (n / 16)) (hex_digit (n % 16) ∷ []) (digits_have_no count (n / 16) byte low) (or_from (nat_eq (hex_digit (n % 16)) byte) false (digit_not (n % 16) byte low) refl)

-- A stamp is a word.
pub stamp_is_word : (time : ℕ) → IsWord (stamp_text time)
stamp_is_word time = (digits_have_no 16 time 32 (omega arith), digits_have_no 16 time 10 (omega arith))

command_is_word : (command : Command) → IsWord (command_word command)
command_is_word (Start level) = (refl, refl)
command_is_word (AddPair primary secondary group) = (refl, refl)
command_is_word (DelPair choice) = (refl, refl)
command_is_word (Suspend choice) = (refl, refl)
command_is_word Query = (refl, refl)
command_is_word End = (refl, refl)

answer_is_word : (is_accepted : Bool) → IsWord (answer_word is_accepted)
answer_is_word true = (refl, refl)
answer_is_word false = (refl, refl)

-- A report and then a line of these words is the reply to a line.
pub reply_spelled : (is_accepted : Bool) (line : Line) (report : List ℕ) (others : List (List ℕ)) → AreWhole report → has_reply report ≡ false → AreWords others
    → IsReply is_accepted line (report ++ spelled (stamp_text line.time.0) (command_word line.command ∷ answer_word is_accepted ∷ others) ++ 10 ∷ [])
reply_spelled is_accepted line report others whole none are =
    let words_kept = one_more (command_is_word line.command) (one_more (answer_is_word is_accepted) are) in
    record {
      report = report;
      whole = whole;
      none = none;
      last = spelled (stamp_text line.time.0) (command_word line.command ∷ answer_word is_accepted ∷ others);
      one_line = no_feed_spelled (stamp_text line.time.0) (command_word line.command ∷ answer_word is_accepted ∷ others) (stamp_is_word line.time.0) words_kept;
      parts = refl;
      others = others;
      words_are = words_spelled (stamp_text line.time.0) (command_word line.command ∷ answer_word is_accepted ∷ others) (stamp_is_word line.time.0) words_kept;
    }
