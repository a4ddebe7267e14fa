-- Decimal numbers, stamps and names as words of a line, and the words that say no time.
use Rattle.std.proofs.Common.{◌≡◌, ◌⊎◌, inl, inr, ℕ, zero, suc, ◌^◌, ◌/◌, ◌%◌, ◌<◌, ◌≤◌, Bool, true, false, true≢false, cond, nat_eq, ◌&&◌, List, [], ◌∷◌, ◌++◌, length, refl, sym, ap, ◌∙◌, append-nil, arith}
use Rattle.std.specs.Prelude.{bytes_eq, codes, decimal}
use Rattle.std.specs.Fmt.{digit_glyph, digits, digits_onto}
use Rattle.std.specs.List.{list_all, list_any}
use Rattle.std.proofs.lemmas.Bool.{and_left, and_parts, and_right, ne_eqb, or_from, or_parts}
use Rattle.std.proofs.lemmas.Bool.Decides.{nat_tests}
use Rattle.std.proofs.lemmas.Slice.Eq.{bytes_eq-Decides}
use Rattle.tod_stamp.specs.Fields.{within}
use Rattle.tod_stamp.specs.Names.{is_name, is_name_char}
use Rattle.tod_stamp.specs.Stamps.{hex_digit, hex_digits, stamp_of_digits, stamp_text}
use Rattle.tod_stamp.proofs.TextLaws.{texts_back}
use Rattle.consistency.specs.Times.{time_after, time_in_word, times_in_words, times_of}
use Rattle.consistency.proofs.Spelled.{AreWords, HasNo, IsWord, has_no_both, stamp_is_word}
use Rattle.consistency.proofs.Spelled.AreWords.{no_word, one_more}

-- ---- decimal numbers

-- A decimal digit lies from 48 to 57.
digit_is_not : (d byte : ℕ) → d < 10 → (byte < 48) ⊎ (57 < byte) → nat_eq (digit_glyph false d) byte ≡ false
digit_is_not d byte small (inl low) = ne_eqb (digit_glyph false d) byte (grind (arith, nat_tests))
digit_is_not d byte small (inr high) = ne_eqb (digit_glyph false d) byte (grind (arith, nat_tests))

digits_have_no : (byte : ℕ) → (byte < 48) ⊎ (57 < byte) → (count n : ℕ) (after : List ℕ) → HasNo byte after → HasNo byte (digits_onto count 10 false n after)
digits_have_no byte no_digit zero n after none = none
digits_have_no byte no_digit (suc count) n after none =
    let digit = digit_glyph false (n % 10) in
    let one : HasNo byte (digit ∷ after) = or_from (nat_eq digit byte) (list_any (λ b. nat_eq b byte) after) (digit_is_not (n % 10) byte (omega arith) no_digit) none in
    choose (nat_eq (n / 10) 0) one (digits_have_no byte no_digit count (n / 10) (digit ∷ after) one)
  where
    choose : (t : Bool) → HasNo byte (digit_glyph false (n % 10) ∷ after) → HasNo byte (digits_onto count 10 false (n / 10) (digit_glyph false (n % 10) ∷ after))
        → HasNo byte (cond t (digit_glyph false (n % 10) ∷ after) (digits_onto count 10 false (n / 10) (digit_glyph false (n % 10) ∷ after)))
    choose true one more = one
    choose false one more = more

-- A decimal number has digits alone.
decimal_has_no : (byte : ℕ) → (byte < 48) ⊎ (57 < byte) → (n : ℕ) → HasNo byte (decimal n)
unfolding digits
decimal_has_no byte no_digit n = digits_have_no byte no_digit 64 n [] refl

decimal_is_word : (n : ℕ) → IsWord (decimal n)
decimal_is_word n = (decimal_has_no 32 (inl (omega arith)) n, decimal_has_no 10 (inl (omega arith)) n)

-- ---- stamps

-- Neither an equals sign nor J is a hexadecimal digit.
hex_is_not : (d byte : ℕ) → d < 16 → ((57 < byte) × (byte < 65)) ⊎ (70 < byte) → nat_eq (hex_digit d) byte ≡ false
hex_is_not d byte small (inl between) = ne_eqb (hex_digit d) byte (grind (arith, nat_tests, between.0, between.1))
hex_is_not d byte small (inr high) = ne_eqb (hex_digit d) byte (grind (arith, nat_tests))

hex_have_no : (count n byte : ℕ) → ((57 < byte) × (byte < 65)) ⊎ (70 < byte) → HasNo byte (hex_digits count n)
hex_have_no zero n byte none = refl
hex_have_no (suc count) n byte none = has_no_both byte (hex_digits count (n / 16)) (hex_digit (n % 16) ∷ []) (hex_have_no count (n / 16) byte none) (or_from (nat_eq (hex_digit (n % 16)) byte) false (hex_is_not (n % 16) byte (omega arith) none) refl)

-- ---- words that say no time

-- A word that doesn't hold an equals sign, and isn't the word after which a time stands.
abbrev pub SaysNone : (word : List ℕ) → Type 0
SaysNone word = HasNo 61 word × (bytes_eq word (codes "JOURNALED") ≡ false)

pub none_in : (word : List ℕ) → HasNo 61 word → time_in_word word ≡ []
none_in [] none = refl
none_in (x ∷ []) none = rw (and_right (nat_eq x 84) false refl) refl
none_in (x ∷ y ∷ word) none =
    let second = (or_parts (nat_eq y 61) (list_any (λ b. nat_eq b 61) word) (or_parts (nat_eq x 61) (list_any (λ b. nat_eq b 61) (y ∷ word)) none).1).0 in
    rw (and_right (nat_eq x 84) (nat_eq y 61 && true) (and_left (nat_eq y 61) true second)) refl

none_after : (before word : List ℕ) → bytes_eq before (codes "JOURNALED") ≡ false → time_after before word ≡ []
none_after before word other = rw other refl

pub data AreQuiet : List (List ℕ) → Type 0 where
  no_more : AreQuiet []
  quiet_then : {word : List ℕ} {others : List (List ℕ)} → IsWord word → SaysNone word → AreQuiet others → AreQuiet (word ∷ others)

pub quiet_words : {others : List (List ℕ)} → AreQuiet others → AreWords others
quiet_words no_more = no_word
quiet_words (quiet_then is tells rest) = one_more is (quiet_words rest)

-- After words that say none there are the times of the rest.
pub quiet_on : (before word : List ℕ) (others : List (List ℕ)) → bytes_eq before (codes "JOURNALED") ≡ false → HasNo 61 word → times_in_words before (word ∷ others) ≡ times_in_words word others
quiet_on before word others other none = ap (λ (l : List ℕ). l ++ time_after before word ++ times_in_words word others) (none_in word none) ∙ ap (λ (l : List ℕ). l ++ times_in_words word others) (none_after before word other)

-- Words that say none say none together.
pub times_quiet : (before : List ℕ) (others : List (List ℕ)) → bytes_eq before (codes "JOURNALED") ≡ false → AreQuiet others → times_in_words before others ≡ []
times_quiet before [] other no_more = refl
times_quiet before (word ∷ others) other (quiet_then is tells rest) = quiet_on before word others other tells.0 ∙ times_quiet word others tells.1 rest

-- ---- a time after them

-- the word that says a time
abbrev pub time_word : (time : ℕ) → List ℕ
time_word time = codes "T=" ++ stamp_text time

pub time_is_word : (time : ℕ) → IsWord (time_word time)
time_is_word time = ((stamp_is_word time).0, (stamp_is_word time).1)

time_alone : (before : List ℕ) (time : ℕ) → bytes_eq before (codes "JOURNALED") ≡ false → time < 2 ^ 64 → times_in_words before (time_word time ∷ []) ≡ time ∷ []
time_alone before time other below =
    let own = time_in_word (time_word time) in
    ap (λ (l : List ℕ). own ++ l ++ []) (none_after before (time_word time) other) ∙ append-nil (own ++ []) ∙ append-nil own ∙ ap times_of (texts_back (record { 0 = time }) below)

-- After words that say none it says the one time.
pub time_after_quiet : (before : List ℕ) (others : List (List ℕ)) (time : ℕ) → bytes_eq before (codes "JOURNALED") ≡ false → AreQuiet others → time < 2 ^ 64 → times_in_words before (others ++ time_word time ∷ []) ≡ time ∷ []
time_after_quiet before [] time other no_more below = time_alone before time other below
time_after_quiet before (word ∷ others) time other (quiet_then is tells rest) below = quiet_on before word (others ++ time_word time ∷ []) other tells.0 ∙ time_after_quiet word others time tells.1 rest below

-- ---- which words say none

no_first : (word : List ℕ) → HasNo 74 word → bytes_eq word (codes "JOURNALED") ≡ false
no_first [] none = refl
no_first (x ∷ word) none = rw (or_parts (nat_eq x 74) (list_any (λ b. nat_eq b 74) word) none).0 refl

stamp_says_none : (time : ℕ) → SaysNone (stamp_text time)
stamp_says_none time = (hex_have_no 16 time 61 (inl (omega arith, omega arith)), no_first (stamp_text time) (hex_have_no 16 time 74 (inr (omega arith))))

-- A stamp after the word of a journal's time tells it.
pub time_journaled : (time : ℕ) (others : List (List ℕ)) → AreQuiet others → time < 2 ^ 64 → times_in_words (codes "JOURNALED") (stamp_text time ∷ others) ≡ time ∷ []
time_journaled time others quiet below =
    ap (λ (l : List ℕ). l ++ time_after (codes "JOURNALED") (stamp_text time) ++ times_in_words (stamp_text time) others) (none_in (stamp_text time) (stamp_says_none time).0)
    ∙ ap (λ (l : List ℕ). times_of (stamp_of_digits (stamp_text time)) ++ l) (times_quiet (stamp_text time) others (stamp_says_none time).1 quiet)
    ∙ append-nil (times_of (stamp_of_digits (stamp_text time))) ∙ ap times_of (texts_back (record { 0 = time }) below)

-- ---- numbers and stamps say none

pub quiet_number : (n : ℕ) {others : List (List ℕ)} → AreQuiet others → AreQuiet (decimal n ∷ others)
quiet_number n rest = quiet_then (decimal_is_word n) (decimal_has_no 61 (inr (omega arith)) n, no_first (decimal n) (decimal_has_no 74 (inr (omega arith)) n)) rest

pub quiet_stamp : (time : ℕ) {others : List (List ℕ)} → AreQuiet others → AreQuiet (stamp_text time ∷ others)
quiet_stamp time rest = quiet_then (stamp_is_word time) (stamp_says_none time) rest

-- ---- names

-- A name has none of the bytes that no name has.
name_has_no : (byte : ℕ) → is_name_char byte ≡ false → (name : List ℕ) → list_all is_name_char name ≡ true → HasNo byte name
name_has_no byte no_char [] all = refl
name_has_no byte no_char (x ∷ name) all =
    let parts = and_parts (is_name_char x) (list_all is_name_char name) all in
    or_from (nat_eq x byte) (list_any (λ b. nat_eq b byte) name) (ne_eqb x byte (λ same. true≢false (sym parts.0 ∙ ap is_name_char same ∙ no_char))) (name_has_no byte no_char name parts.1)

too_short : (name : List ℕ) → length name ≤ 8 → bytes_eq name (codes "JOURNALED") ≡ false
too_short name short = choose (bytes_eq name (codes "JOURNALED")) refl
  where
    choose : (t : Bool) → bytes_eq name (codes "JOURNALED") ≡ t → bytes_eq name (codes "JOURNALED") ≡ false
    choose true is = let long : length name ≡ 9 = ap length ((bytes_eq-Decides name (codes "JOURNALED")).0 is) in absurd (omega (arith, short, long))
    choose false is = is

-- The name of a session or a volume tells none.
pub quiet_name : (most : ℕ) (name : List ℕ) {others : List (List ℕ)} → most ≤ 8 → is_name most name ≡ true → AreQuiet others → AreQuiet (name ∷ others)
quiet_name most name few is rest =
    let chars = and_parts (within 1 most (length name)) (list_all is_name_char name) is in
    quiet_then (name_has_no 32 refl name chars.1, name_has_no 10 refl name chars.1) (name_has_no 61 refl name chars.1, too_short name (grind (arith, nat_tests, chars.0, few))) rest
