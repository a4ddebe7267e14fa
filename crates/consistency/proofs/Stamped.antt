-- The times that replies say: the one after `T=` in the reply line.
use Rattle.std.proofs.Common.{◌≡◌, ℕ, zero, suc, ◌/◌, ◌%◌, ◌<◌, Bool, true, false, nat_eq, List, [], ◌∷◌, ◌++◌, refl, ap, ◌∙◌, append-nil, arith}
use Rattle.std.specs.List.{flat_map, list_any}
use Rattle.std.proofs.lemmas.Bool.{ne_eqb, or_from, or_parts}
use Rattle.std.proofs.lemmas.Bool.Decides.{nat_tests}
use Rattle.pair_table.specs.declared.command.Command.{Command}
use Rattle.pair_table.specs.declared.command.Command.TheVariants.{Start, AddPair, DelPair, Suspend, Query, End}
use Rattle.tod_stamp.specs.Stamps.{hex_digit, hex_digits, stamp_text}
use Rattle.xquery_report.specs.Replies.{command_word}
use Rattle.consistency.specs.Replies.{answer_word}
use Rattle.consistency.specs.Times.{time_after, time_in_word, times_in_line, times_in_words, times_said}
use Rattle.consistency.proofs.Pieces.{line_ended}
use Rattle.consistency.proofs.Spelled.{AreWords, HasNo, IsWord, has_no_both, no_feed_spelled, spelled, words_spelled}

-- The times of a line of words are those in the words.
pub times_spelled : (word : List ℕ) (others : List (List ℕ)) → IsWord word → AreWords others → times_said (spelled word others ++ 10 ∷ []) ≡ times_in_words [] (word ∷ others)
times_spelled word others is are =
    ap (flat_map times_in_line) (line_ended [] (spelled word others) refl (no_feed_spelled word others is are)) ∙ append-nil (times_in_line (spelled word others)) ∙ ap (times_in_words []) (words_spelled word others is are)

-- ---- words without a time

-- A word that doesn't begin with T tells none, and after one that doesn't begin with J none is told.
no_time_in : (word : List ℕ) → HasNo 84 word → time_in_word word ≡ []
no_time_in [] none = refl
no_time_in (x ∷ word) none = rw (or_parts (nat_eq x 84) (list_any (λ b. nat_eq b 84) word) none).0 refl

no_time_after : (before word : List ℕ) → HasNo 74 before → time_after before word ≡ []
no_time_after [] word none = refl
no_time_after (x ∷ before) word none = rw (or_parts (nat_eq x 74) (list_any (λ b. nat_eq b 74) before) none).0 refl

-- Neither T nor J is a hexadecimal digit.
high_digit_not : (d byte : ℕ) → d < 16 → 70 < byte → nat_eq (hex_digit d) byte ≡ false
high_digit_not d byte low high = ne_eqb (hex_digit d) byte (grind (arith, nat_tests))

digits_lie_below : (count n byte : ℕ) → 70 < byte → HasNo byte (hex_digits count n)
digits_lie_below zero n byte high = refl
digits_lie_below (suc count) n byte high = has_no_both byte (hex_digits count (n / 16)) (hex_digit (n % 16) ∷ []) (digits_lie_below count (n / 16) byte high) (or_from (nat_eq (hex_digit (n % 16)) byte) false (high_digit_not (n % 16) byte (omega arith) high) refl)

-- The words of commands and answers say none.
command_says_none : (command : Command) → (time_in_word (command_word command) ≡ []) × HasNo 74 (command_word command)
command_says_none (Start level) = (refl, refl)
command_says_none (AddPair primary secondary group) = (refl, refl)
command_says_none (DelPair choice) = (refl, refl)
command_says_none (Suspend choice) = (refl, refl)
command_says_none Query = (refl, refl)
command_says_none End = (refl, refl)

pub answer_says_none : (is_accepted : Bool) → (time_in_word (answer_word is_accepted) ≡ []) × HasNo 74 (answer_word is_accepted)
answer_says_none true = (refl, refl)
answer_says_none false = (refl, refl)

-- One word on, where the word and the one before it tell none.
word_on : (before word : List ℕ) (words : List (List ℕ)) → time_in_word word ≡ [] → HasNo 74 before → times_in_words before (word ∷ words) ≡ times_in_words word words
word_on before word words none after = rw (none, no_time_after before word after) refl

-- The times of a reply line are those after its answer.
pub times_after_answer : (is_accepted : Bool) (time : ℕ) (command : Command) (others : List (List ℕ)) → times_in_words [] (stamp_text time ∷ command_word command ∷ answer_word is_accepted ∷ others) ≡ times_in_words (answer_word is_accepted) others
times_after_answer is_accepted time command others =
    let told = command_says_none command in
    word_on [] (stamp_text time) (command_word command ∷ answer_word is_accepted ∷ others) (no_time_in (stamp_text time) (digits_lie_below 16 time 84 (omega arith))) refl
    ∙ word_on (stamp_text time) (command_word command) (answer_word is_accepted ∷ others) told.0 (digits_lie_below 16 time 74 (omega arith)) ∙ word_on (command_word command) (answer_word is_accepted) others (answer_says_none is_accepted).0 told.1
