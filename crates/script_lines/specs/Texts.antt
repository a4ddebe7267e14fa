-- What was heard of one line of a script, with its line feed, and how it ended.
use Rattle.std.specs.Prelude.{◌≡◌, ◌⊎◌, ℕ, ◌==◌, ◌<◌, ◌≤◌, List, [], ◌∷◌, ◌++◌, length, Bool, false, Option, Some, None, if◌then◌else◌}
use Rattle.std.specs.List.{list_any}
use Rattle.xrc_edge.specs.declared.limits.TheConstants.{LONGEST_LINE, LONGEST_TEXT}
use Rattle.crash_plant.specs.declared.device.Heard.{Heard}
use Rattle.crash_plant.specs.declared.device.Heard.TheVariants.{Byte, End}
use Rattle.script_lines.specs.declared.line_end.LineEnd.{LineEnd}
use Rattle.script_lines.specs.declared.line_end.LineEnd.TheVariants.{Nothing, Whole}

-- whether a line feed stands in a text
abbrev pub has_feed : (text : List ℕ) → Bool
has_feed text = list_any (λ b. b == 10) text

-- The front of a line: at most the bytes of the longest line, and no line feed.
pub record IsFront (text : List ℕ) : Type 0 where
  pub short : length text ≤ LONGEST_LINE
  pub no_feed : has_feed text ≡ false

-- A line and its line feed.
pub record IsFed (text : List ℕ) : Type 0 where
  pub line : List ℕ
  pub front : IsFront line
  pub text_is : text ≡ line ++ 10 ∷ []

-- A last line without one: it has a byte, and the script has ended, where bytes are told.
pub record IsLast (tells : Type 0) (text left : List ℕ) : Type 0 where
  pub some : 0 < length text
  pub front : IsFront text
  pub at_end : tells → left ≡ []

-- A line that was heard whole.
abbrev pub IsWhole : (tells : Type 0) → (text left : List ℕ) → Type 0
IsWhole tells text left = IsFed text ⊎ IsLast tells text left

-- one byte more, and none of them a line feed
pub record IsTooLong (text : List ℕ) : Type 0 where
  pub size : length text ≡ LONGEST_TEXT
  pub no_feed : has_feed text ≡ false

-- Nothing was heard, and the script has ended, where bytes are told.
pub record IsNothing (tells : Type 0) (text left : List ℕ) : Type 0 where
  pub text_is : text ≡ []
  pub at_end : tells → left ≡ []

-- ---- after the front of a line

-- what was heard
abbrev pub bytes_of : Heard → List ℕ
bytes_of (Byte b) = b ∷ []
bytes_of End = []

-- How the line ended with what was heard after its front. None where it goes on.
abbrev pub end_after : (front : List ℕ) → Heard → Option LineEnd
end_after front (Byte b) = if b == 10 then Some Whole else None
end_after [] End = Some Nothing
end_after (b ∷ front) End = Some Whole
