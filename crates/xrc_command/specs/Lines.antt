-- The lines of a script, as they are spelled: a time, one space and a command to a session.
use Rattle.std.specs.Prelude.{◌≡◌, ◌≤◌, ◌⊎◌, ◌&&◌, ℕ, List, [], ◌++◌, Bool, true, Option, Some, None, Ok, codes, IsTrue}
use Rattle.tod_stamp.specs.Names.{is_serial, is_session}
use Rattle.tod_stamp.specs.Stamps.{stamp_of_digits}
use Rattle.pair_table.specs.declared.command.Choice.{Choice}
use Rattle.pair_table.specs.declared.command.Choice.TheVariants.{One, All}
use Rattle.pair_table.specs.declared.command.Command.{Command}
use Rattle.pair_table.specs.declared.command.Command.TheVariants.{Start, AddPair, DelPair, Suspend, Query, End}
use Rattle.pair_table.specs.declared.level.Level.{Level}
use Rattle.pair_table.specs.declared.level.Level.TheVariants.{Volume, Session, Group}
use Rattle.pair_table.specs.Rows.{is_group}
use Rattle.xrc_command.specs.declared.line.Line.{Line}

-- ---- the texts of commands

abbrev pub level_text : Level → List ℕ
level_text Volume = codes "VOLUME"
level_text Session = codes "SESSION"
level_text Group = codes "GROUP"

abbrev pub pair_text : (primary secondary : List ℕ) → List ℕ
pair_text primary secondary = primary ++ codes "," ++ secondary

-- what a pair that gets a group has after it
abbrev pub group_text : Option (List ℕ) → List ℕ
group_text None = []
group_text (Some group) = codes " GROUP(" ++ group ++ codes ")"

abbrev pub choice_text : Choice → List ℕ
choice_text (One primary secondary) = pair_text primary secondary
choice_text All = codes "ALL"

-- a command's text, with nothing left out
abbrev pub command_text : (session : List ℕ) → Command → List ℕ
command_text session (Start level) = codes "XSTART " ++ session ++ codes " ERRORLEVEL(" ++ level_text level ++ codes ")"
command_text session (AddPair primary secondary group) = codes "XADDPAIR " ++ session ++ codes " VOLUME(" ++ pair_text primary secondary ++ codes ")" ++ group_text group
command_text session (DelPair choice) = codes "XDELPAIR " ++ session ++ codes " VOLUME(" ++ choice_text choice ++ codes ")"
command_text session (Suspend choice) = codes "XSUSPEND " ++ session ++ codes " VOLUME(" ++ choice_text choice ++ codes ")"
command_text session Query = codes "XQUERY " ++ session
command_text session End = codes "XEND " ++ session

-- the text of a start that leaves its level out
abbrev pub short_start_text : (session : List ℕ) → List ℕ
short_start_text session = codes "XSTART " ++ session

-- The level that a start leaves out is VOLUME.
abbrev pub IsCommandText : (session : List ℕ) → Command → (text : List ℕ) → Type 0
IsCommandText session command text = (text ≡ command_text session command) ⊎ ((command ≡ Start Volume) × (text ≡ short_start_text session))

-- ---- the names in commands

abbrev pub names_serials : Choice → Bool
names_serials (One primary secondary) = is_serial primary && is_serial secondary
names_serials All = true

-- What a command calls a primary or a secondary is a serial, and a group has a serial's form.
abbrev pub has_serials : Command → Bool
has_serials (Start level) = true
has_serials (AddPair primary secondary group) = is_serial primary && is_serial secondary && is_group group
has_serials (DelPair choice) = names_serials choice
has_serials (Suspend choice) = names_serials choice
has_serials Query = true
has_serials End = true

-- ---- lines

-- The time has 16 hexadecimal digits of either case, not all zero. Nothing stands before it or after the command.
pub record IsLine (line : Line) (bytes : List ℕ) : Type 0 where
  pub digits : List ℕ
  pub command : List ℕ
  pub parts : bytes ≡ digits ++ codes " " ++ command
  pub reads : stamp_of_digits digits ≡ Ok line.time
  pub positive : 1 ≤ line.time.0
  pub spells : IsCommandText line.session line.command command
  pub session : IsTrue (is_session line.session)
  pub serials : IsTrue (has_serials line.command)

-- The law: a text spells one line at most.
abbrev pub LinesAreToldApart : Type 0
LinesAreToldApart = (bytes : List ℕ) (line other : Line) → IsLine line bytes → IsLine other bytes → line ≡ other
