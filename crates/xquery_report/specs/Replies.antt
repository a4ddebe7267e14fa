-- The reply to a command: one line, which ends with a line feed. A part of the line has its space before it.
use Rattle.std.specs.Prelude.{ℕ, List, [], ◌∷◌, ◌++◌, Option, Some, None, Result, Ok, Err, codes, decimal}
use Rattle.tod_stamp.specs.declared.stamp.Stamp.{Stamp}
use Rattle.tod_stamp.specs.Stamps.{stamp_text}
use Rattle.pair_table.specs.declared.command.Change.{Change}
use Rattle.pair_table.specs.declared.command.Command.{Command}
use Rattle.pair_table.specs.declared.command.Command.TheVariants.{Start, AddPair, DelPair, Suspend, Query, End}
use Rattle.pair_table.specs.declared.command.Refusal.{Refusal}
use Rattle.pair_table.specs.declared.command.Refusal.TheVariants.{NoSession, SessionExists, NoPrimary, NoSecondary, SecondaryInUse, AlreadyPaired, TooSmall, OtherSecondary, NotPaired, Ended, ControlBroken}

abbrev pub command_word : Command → List ℕ
command_word (Start level) = codes "XSTART"
command_word (AddPair primary secondary group) = codes "XADDPAIR"
command_word (DelPair choice) = codes "XDELPAIR"
command_word (Suspend choice) = codes "XSUSPEND"
command_word Query = codes "XQUERY"
command_word End = codes "XEND"

abbrev pub command_part : Command → List ℕ
command_part command = 32 ∷ command_word command

-- ---- refusals

abbrev pub refusal_number : Refusal → ℕ
refusal_number NoSession = 1
refusal_number SessionExists = 2
refusal_number NoPrimary = 3
refusal_number NoSecondary = 4
refusal_number SecondaryInUse = 5
refusal_number AlreadyPaired = 6
refusal_number (TooSmall tracks) = 7
refusal_number OtherSecondary = 8
refusal_number NotPaired = 9
refusal_number Ended = 10
refusal_number (ControlBroken control) = 11

abbrev pub refusal_name : Refusal → List ℕ
refusal_name NoSession = codes "NOSESSION"
refusal_name SessionExists = codes "SESSIONEXISTS"
refusal_name NoPrimary = codes "NOPRIMARY"
refusal_name NoSecondary = codes "NOSECONDARY"
refusal_name SecondaryInUse = codes "SECONDARYINUSE"
refusal_name AlreadyPaired = codes "ALREADYPAIRED"
refusal_name (TooSmall tracks) = codes "TOOSMALL"
refusal_name OtherSecondary = codes "OTHERSECONDARY"
refusal_name NotPaired = codes "NOTPAIRED"
refusal_name Ended = codes "ENDED"
refusal_name (ControlBroken control) = codes "CONTROLBROKEN"

-- the tracks of the primary that is too large, or the number of the controller that broke
abbrev pub value_part : Refusal → List ℕ
value_part (TooSmall tracks) = 32 ∷ decimal tracks
value_part (ControlBroken control) = 32 ∷ decimal control
value_part NoSession = []
value_part SessionExists = []
value_part NoPrimary = []
value_part NoSecondary = []
value_part SecondaryInUse = []
value_part AlreadyPaired = []
value_part OtherSecondary = []
value_part NotPaired = []
value_part Ended = []

abbrev pub refusal_part : Refusal → List ℕ
refusal_part refusal = codes " REFUSED" ++ 32 ∷ decimal (refusal_number refusal) ++ codes " " ++ refusal_name refusal ++ value_part refusal

-- ---- the reply

-- how many tracks are to be copied of a pair that was added
abbrev pub tracks_part : Command → (tracks : ℕ) → List ℕ
tracks_part (AddPair primary secondary group) tracks = codes " TRACKS" ++ 32 ∷ decimal tracks
tracks_part (Start level) tracks = []
tracks_part (DelPair choice) tracks = []
tracks_part (Suspend choice) tracks = []
tracks_part Query tracks = []
tracks_part End tracks = []

abbrev pub answer_part : Command → Result Change Refusal → (tracks : ℕ) → List ℕ
answer_part command (Ok change) tracks = codes " OK" ++ tracks_part command tracks
answer_part command (Err refusal) tracks = refusal_part refusal

-- the session's time, where it was started
abbrev pub said_part : Option Stamp → List ℕ
said_part None = []
said_part (Some time) = codes " T=" ++ stamp_text time.0

abbrev pub reply_line : (time : ℕ) → Command → Result Change Refusal → (tracks : ℕ) → Option Stamp → List ℕ
reply_line time command answer tracks said = stamp_text time ++ command_part command ++ answer_part command answer tracks ++ said_part said ++ 10 ∷ []
