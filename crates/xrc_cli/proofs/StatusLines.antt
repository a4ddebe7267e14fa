-- The last line of a run's stop is no reply and says no time.
use Rattle.std.proofs.Common.{◌≡◌, ◌⊎◌, inl, inr, ℕ, zero, suc, ◌/◌, ◌%◌, ◌<◌, Bool, true, false, cond, nat_eq, ◌&&◌, ◌||◌, List, [], ◌∷◌, ◌++◌, refl, sym, ap, ◌∙◌, append_assoc, append-nil, arith}
use Rattle.std.specs.Prelude.{bytes_eq, codes, decimal}
use Rattle.std.specs.Fmt.{digit_glyph, digits, digits_onto}
use Rattle.std.specs.List.{flat_map, list_any}
use Rattle.std.proofs.lemmas.Bool.{and_left, and_right, ne_eqb, or_from, or_parts}
use Rattle.std.proofs.lemmas.Bool.Decides.{nat_tests}
use Rattle.crash_plant.specs.declared.device.Device.{Device}
use Rattle.crash_plant.specs.declared.device.Device.TheVariants.{Control, State, Journal, Volume}
use Rattle.xrc_status.specs.declared.stop.Stop.{Stop}
use Rattle.xrc_status.specs.declared.stop.Stop.TheVariants.{NoMemory, BadWords, ConsoleFault, BadLine, JournalFault, ControlFault, StateFault, BadHeader, HeaderFault, NoSession, OtherSession, Damaged, VolumeFault, TooSmall, BadSite, Spent}
use Rattle.xrc_status.specs.Stops.{details, device_text, last_line, status_line, status_of}
use Rattle.consistency.specs.Replies.{are_reply, has_reply, is_reply_line}
use Rattle.consistency.specs.Times.{time_after, time_in_word, times_in_words, times_said, words}
use Rattle.consistency.proofs.Pieces.{line_ended}
use Rattle.consistency.proofs.Spelled.{AreWords, HasNo, IsWord, no_feed_spelled, spelled, words_spelled}
use Rattle.consistency.proofs.Spelled.AreWords.{no_word, one_more}
use Rattle.consistency.proofs.Stamped.{times_spelled}
use Rattle.xrc_cli.specs.Statuses.{may_end_run}

-- ---- decimal numbers

-- A decimal digit lies from 48 to 57.
digit_is_not : (d byte : ℕ) → d < 10 → (byte < 48) ⊎ (57 < byte) → nat_eq (digit_glyph false d) byte ≡ false
digit_is_not d byte small (inl low) = ne_eqb (digit_glyph false d) byte (grind (arith, nat_tests))
digit_is_not d byte small (inr high) = ne_eqb (digit_glyph false d) byte (grind (arith, nat_tests))

digits_have_no : (byte : ℕ) → (byte < 48) ⊎ (57 < byte) → (count n : ℕ) (after : List ℕ) → HasNo byte after → HasNo byte (digits_onto count 10 false n after)
digits_have_no byte no_digit zero n after none = none
digits_have_no byte no_digit (suc count) n after none =
    let digit = digit_glyph false (n % 10) in
    let one : HasNo byte (digit ∷ after) = or_from (nat_eq digit byte) (list_any (λ b. nat_eq b byte) after) (digit_is_not (n % 10) byte (omega arith) no_digit) none in
    choose (nat_eq (n / 10) 0) one (digits_have_no byte no_digit count (n / 10) (digit ∷ after) one)
  where
    choose : (t : Bool) → HasNo byte (digit_glyph false (n % 10) ∷ after) → HasNo byte (digits_onto count 10 false (n / 10) (digit_glyph false (n % 10) ∷ after))
        → HasNo byte (cond t (digit_glyph false (n % 10) ∷ after) (digits_onto count 10 false (n / 10) (digit_glyph false (n % 10) ∷ after)))
    choose true one more = one
    choose false one more = more

-- A decimal number has digits alone.
decimal_has_no : (byte : ℕ) → (byte < 48) ⊎ (57 < byte) → (n : ℕ) → HasNo byte (decimal n)
unfolding digits
decimal_has_no byte no_digit n = digits_have_no byte no_digit 64 n [] refl

decimal_is_word : (n : ℕ) → IsWord (decimal n)
decimal_is_word n = (decimal_has_no 32 (inl (omega arith)) n, decimal_has_no 10 (inl (omega arith)) n)

-- ---- words that say no time

-- A word that doesn't hold an equals sign, and isn't the word after which a time stands.
abbrev SaysNone : (word : List ℕ) → Type 0
SaysNone word = HasNo 61 word × (bytes_eq word (codes "JOURNALED") ≡ false)

none_in : (word : List ℕ) → HasNo 61 word → time_in_word word ≡ []
none_in [] none = refl
none_in (x ∷ []) none = rw (and_right (nat_eq x 84) false refl) refl
none_in (x ∷ y ∷ word) none =
    let second = (or_parts (nat_eq y 61) (list_any (λ b. nat_eq b 61) word) (or_parts (nat_eq x 61) (list_any (λ b. nat_eq b 61) (y ∷ word)) none).1).0 in
    rw (and_right (nat_eq x 84) (nat_eq y 61 && true) (and_left (nat_eq y 61) true second)) refl

none_after : (before word : List ℕ) → bytes_eq before (codes "JOURNALED") ≡ false → time_after before word ≡ []
none_after before word other = rw other refl

data AreQuiet : List (List ℕ) → Type 0 where
  no_more : AreQuiet []
  quiet_then : {word : List ℕ} {others : List (List ℕ)} → IsWord word → SaysNone word → AreQuiet others → AreQuiet (word ∷ others)

quiet_words : {others : List (List ℕ)} → AreQuiet others → AreWords others
quiet_words no_more = no_word
quiet_words (quiet_then is tells rest) = one_more is (quiet_words rest)

-- Words that say none say none together.
times_quiet : (before : List ℕ) (others : List (List ℕ)) → bytes_eq before (codes "JOURNALED") ≡ false → AreQuiet others → times_in_words before others ≡ []
times_quiet before [] other no_more = refl
times_quiet before (word ∷ others) other (quiet_then is tells rest) =
    ap (λ (l : List ℕ). l ++ time_after before word ++ times_in_words word others) (none_in word tells.0) ∙ ap (λ (l : List ℕ). l ++ times_in_words word others) (none_after before word other) ∙ times_quiet word others tells.1 rest

-- ---- which words say none

no_first : (word : List ℕ) → HasNo 74 word → bytes_eq word (codes "JOURNALED") ≡ false
no_first [] none = refl
no_first (x ∷ word) none = rw (or_parts (nat_eq x 74) (list_any (λ b. nat_eq b 74) word) none).0 refl

decimal_says_none : (n : ℕ) → SaysNone (decimal n)
decimal_says_none n = (decimal_has_no 61 (inr (omega arith)) n, no_first (decimal n) (decimal_has_no 74 (inr (omega arith)) n))

-- ---- the lines of stops

-- the words of a device's name
abbrev device_words : Device → List (List ℕ)
device_words Control = codes "CONTROL" ∷ []
device_words State = codes "STATE" ∷ []
device_words (Journal j) = codes "JOURNAL" ∷ decimal j ∷ []
device_words (Volume v) = codes "VOLUME" ∷ decimal v ∷ []

-- the words after a status
abbrev words_after : Stop → List (List ℕ)
words_after (BadLine n) = decimal n ∷ []
words_after (JournalFault j) = decimal j ∷ []
words_after (BadHeader trace place) = decimal trace ∷ decimal place ∷ []
words_after (HeaderFault trace) = decimal trace ∷ []
words_after (OtherSession name) = name ∷ []
words_after (Damaged d place) = device_words d ++ decimal place ∷ []
words_after (TooSmall d needed) = device_words d ++ decimal needed ∷ []
words_after NoMemory = []
words_after BadWords = []
words_after ConsoleFault = []
words_after ControlFault = []
words_after StateFault = []
words_after NoSession = []
words_after VolumeFault = []
words_after BadSite = []
words_after Spent = []

-- words, each after a space
abbrev spaced : List (List ℕ) → List ℕ
spaced words = flat_map (λ w. 32 ∷ w) words

device_spaced : (d : Device) (after : List ℕ) → spaced (device_words d ++ after ∷ []) ≡ device_text d ++ 32 ∷ after
device_spaced Control after = simp append-nil
device_spaced State after = simp append-nil
device_spaced (Journal j) after = simp append-nil
device_spaced (Volume v) after = simp append-nil

-- What stands after a status is these words.
details_spaced : (stop : Stop) → spaced (words_after stop) ≡ details stop
details_spaced (BadLine n) = append-nil (32 ∷ decimal n)
details_spaced (JournalFault j) = append-nil (32 ∷ decimal j)
details_spaced (BadHeader trace place) = ap (λ (l : List ℕ). 32 ∷ (decimal trace ++ l)) (append-nil (32 ∷ decimal place))
details_spaced (HeaderFault trace) = append-nil (32 ∷ decimal trace)
details_spaced (OtherSession name) = append-nil (32 ∷ name)
details_spaced (Damaged d place) = device_spaced d (decimal place)
details_spaced (TooSmall d needed) = device_spaced d (decimal needed)
details_spaced NoMemory = refl
details_spaced BadWords = refl
details_spaced ConsoleFault = refl
details_spaced ControlFault = refl
details_spaced StateFault = refl
details_spaced NoSession = refl
details_spaced VolumeFault = refl
details_spaced BadSite = refl
details_spaced Spent = refl

-- They tell no time.
number_quiet : (n : ℕ) {others : List (List ℕ)} → AreQuiet others → AreQuiet (decimal n ∷ others)
number_quiet n rest = quiet_then (decimal_is_word n) (decimal_says_none n) rest

device_quiet : (d : Device) (n : ℕ) → AreQuiet (device_words d ++ decimal n ∷ [])
device_quiet Control n = quiet_then (refl, refl) (refl, refl) (number_quiet n no_more)
device_quiet State n = quiet_then (refl, refl) (refl, refl) (number_quiet n no_more)
device_quiet (Journal j) n = quiet_then (refl, refl) (refl, refl) (number_quiet j (number_quiet n no_more))
device_quiet (Volume v) n = quiet_then (refl, refl) (refl, refl) (number_quiet v (number_quiet n no_more))

words_quiet : (stop : Stop) → may_end_run (status_of stop) ≡ true → AreQuiet (words_after stop)
words_quiet (BadLine n) told = number_quiet n no_more
words_quiet (JournalFault j) told = number_quiet j no_more
words_quiet (BadHeader trace place) told = number_quiet trace (number_quiet place no_more)
words_quiet (HeaderFault trace) told = number_quiet trace no_more
words_quiet (OtherSession name) told = absurd (cc told)
words_quiet (Damaged d place) told = device_quiet d place
words_quiet (TooSmall d needed) told = device_quiet d needed
words_quiet NoMemory told = no_more
words_quiet BadWords told = no_more
words_quiet ConsoleFault told = no_more
words_quiet ControlFault told = no_more
words_quiet StateFault told = no_more
words_quiet NoSession told = no_more
words_quiet VolumeFault told = no_more
words_quiet BadSite told = no_more
words_quiet Spent told = no_more

module _ (status : ℕ) (others : List (List ℕ)) (quiet : AreQuiet others) where
  abbrev line_words : List (List ℕ)
  line_words = decimal status ∷ others

  all_quiet : AreQuiet line_words
  all_quiet = number_quiet status quiet

  abbrev line : List ℕ
  line = spelled (codes "STATUS") line_words

  status_is_word : IsWord (codes "STATUS")
  status_is_word = (refl, refl)

  line_is : line ++ 10 ∷ [] ≡ status_line status (spaced others)
  line_is = simp append_assoc

  no_reply : (words : List (List ℕ)) → are_reply (codes "STATUS" ∷ words) ≡ false
  no_reply [] = refl
  no_reply (a ∷ []) = refl
  no_reply (a ∷ b ∷ words) = refl

  status_is_none : has_reply (status_line status (spaced others)) ≡ false
  status_is_none =
      sym (ap has_reply line_is) ∙ ap (list_any is_reply_line) (line_ended [] line refl (no_feed_spelled (codes "STATUS") line_words status_is_word (quiet_words all_quiet)))
      ∙ ap (λ (l : List (List ℕ)). are_reply l || false) (words_spelled (codes "STATUS") line_words status_is_word (quiet_words all_quiet)) ∙ ap (λ (b : Bool). b || false) (no_reply line_words)

  status_says_none : times_said (status_line status (spaced others)) ≡ []
  status_says_none = sym (ap times_said line_is) ∙ times_spelled (codes "STATUS") line_words status_is_word (quiet_words all_quiet) ∙ times_quiet (codes "STATUS") line_words refl all_quiet

by_words : (stop : Stop) → may_end_run (status_of stop) ≡ true → (has_reply (status_line (status_of stop) (details stop)) ≡ false) × (times_said (status_line (status_of stop) (details stop)) ≡ [])
by_words stop told =
    let quiet = words_quiet stop told in
    let said = ap (status_line (status_of stop)) (details_spaced stop) in
    (sym (ap has_reply said) ∙ status_is_none (status_of stop) (words_after stop) quiet, sym (ap times_said said) ∙ status_says_none (status_of stop) (words_after stop) quiet)

-- A stop's line is no reply and says no time.
pub stop_says_none : (stop : Stop) → may_end_run (status_of stop) ≡ true → (has_reply (last_line stop) ≡ false) × (times_said (last_line stop) ≡ [])
stop_says_none ConsoleFault told = (refl, refl)
stop_says_none (BadLine n) told = by_words (BadLine n) told
stop_says_none (JournalFault j) told = by_words (JournalFault j) told
stop_says_none (BadHeader trace place) told = by_words (BadHeader trace place) told
stop_says_none (HeaderFault trace) told = by_words (HeaderFault trace) told
stop_says_none (OtherSession name) told = absurd (cc told)
stop_says_none (Damaged d place) told = by_words (Damaged d place) told
stop_says_none (TooSmall d needed) told = by_words (TooSmall d needed) told
stop_says_none NoMemory told = by_words NoMemory told
stop_says_none BadWords told = by_words BadWords told
stop_says_none ControlFault told = by_words ControlFault told
stop_says_none StateFault told = by_words StateFault told
stop_says_none NoSession told = by_words NoSession told
stop_says_none VolumeFault told = by_words VolumeFault told
stop_says_none BadSite told = by_words BadSite told
stop_says_none Spent told = by_words Spent told
