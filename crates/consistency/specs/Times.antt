-- The times that were said: the stamps after `T=` and `JOURNALED` in whole lines.
use Rattle.std.specs.Prelude.{◌≡◌, ℕ, ◌==◌, List, [], ◌∷◌, ◌++◌, take, drop, codes, Result, Ok, Err, bytes_eq, if◌then◌else◌}
use Rattle.std.specs.List.{flat_map}
use Rattle.tod_stamp.specs.declared.stamp.Stamp.{Stamp}
use Rattle.tod_stamp.specs.declared.stamp.StampError.{StampError}
use Rattle.tod_stamp.specs.Stamps.{stamp_of_digits}

-- the pieces of a text that a separator ends, where this was read of the first one; what follows the last separator is none
abbrev pub ended_pieces : (separator : ℕ) → (read : List ℕ) → (text : List ℕ) → List (List ℕ)
ended_pieces separator read [] = []
ended_pieces separator read (b ∷ text) = if b == separator then read ∷ ended_pieces separator [] text else ended_pieces separator (read ++ b ∷ []) text

-- what follows the last separator, where this was read before the first one
abbrev pub unended : (separator : ℕ) → (read : List ℕ) → (text : List ℕ) → List ℕ
unended separator read [] = read
unended separator read (b ∷ text) = if b == separator then unended separator [] text else unended separator (read ++ b ∷ []) text

-- A line ends with a line feed.
abbrev pub whole_lines : (text : List ℕ) → List (List ℕ)
whole_lines text = ended_pieces 10 [] text

-- Lines are whole where nothing follows the last line feed.
abbrev pub AreWhole : (text : List ℕ) → Type 0
AreWhole text = unended 10 [] text ≡ []

-- Words stand between spaces.
abbrev pub words : (line : List ℕ) → List (List ℕ)
words line = ended_pieces 32 [] (line ++ 32 ∷ [])

abbrev pub times_of : Result Stamp StampError → List ℕ
times_of (Ok stamp) = stamp.0 ∷ []
times_of (Err why) = []

-- the time in a word that begins with `T=`
abbrev pub time_in_word : (word : List ℕ) → List ℕ
time_in_word word = if bytes_eq (take 2 word) (codes "T=") then times_of (stamp_of_digits (drop 2 word)) else []

-- the time after the word `JOURNALED`
abbrev pub time_after : (before word : List ℕ) → List ℕ
time_after before word = if bytes_eq before (codes "JOURNALED") then times_of (stamp_of_digits word) else []

-- the times in words, where this one stands before the first
abbrev pub times_in_words : (before : List ℕ) → List (List ℕ) → List ℕ
times_in_words before [] = []
times_in_words before (word ∷ words) = time_in_word word ++ time_after before word ++ times_in_words word words

abbrev pub times_in_line : (line : List ℕ) → List ℕ
times_in_line line = times_in_words [] (words line)

-- the times in the whole lines of what was said
abbrev pub times_said : (said : List ℕ) → List ℕ
times_said said = flat_map times_in_line (whole_lines said)
