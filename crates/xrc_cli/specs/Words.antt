-- The words of a command line.
use Rattle.std.specs.Prelude.{ℕ, ◌+◌, ◌*◌, ◌-◌, ◌≤◌, ◌==◌, ◌&&◌, List, [], ◌∷◌, Bool, false, Option, Some, None, bytes_eq, codes, fold, nat_le, if◌then◌else◌}
use Rattle.xrc_edge.specs.declared.limits.TheConstants.{MOST_CONTROLS, MOST_CYLINDERS}
use Rattle.tod_stamp.specs.Fields.{within}
use Rattle.tod_stamp.specs.Names.{is_serial, is_session}
use Rattle.xrc_cli.specs.declared.words.Asked.{Asked}
use Rattle.xrc_cli.specs.declared.words.Asked.TheVariants.{Advance, Copy, Generate, Init, Query, Recover, Run}
use Rattle.xrc_cli.specs.declared.words.TheConstants.{LAST_DEVICE, MOST_NUMBER}
use Rattle.xrc_cli.specs.declared.words.Wanted.{Wanted}
use Rattle.xrc_cli.specs.declared.words.Wanted.TheVariants.{Devices, Nothing, Traces}

-- ---- numbers

-- one decimal digit more
abbrev pub with_digit : Option ℕ → (byte : ℕ) → Option ℕ
with_digit None b = None
with_digit (Some n) b = if within 48 57 b then Some (10 * n + (b - 48)) else None

-- what decimal digits are worth
abbrev pub digits_value : (digits : List ℕ) → Option ℕ
digits_value digits = fold with_digit (Some 0) digits

-- whether there is a zero in front of another digit
abbrev pub has_leading_zero : (digits : List ℕ) → Bool
has_leading_zero [] = false
has_leading_zero (b ∷ []) = false
has_leading_zero (b ∷ c ∷ digits) = b == 48

abbrev pub from_to : (least most : ℕ) → Option ℕ → Option ℕ
from_to least most None = None
from_to least most (Some n) = if nat_le least n && nat_le n most then Some n else None

-- A number from the least to the most, in decimal digits: without a sign, and without a leading zero but for the number 0 itself.
abbrev pub number_in : (least most : ℕ) → (word : List ℕ) → Option ℕ
number_in least most [] = None
number_in least most (b ∷ word) = if has_leading_zero (b ∷ word) then None else from_to least most (digits_value (b ∷ word))

-- ---- operands

-- how many traces a word names: 1 to 16
abbrev pub storage_of : (word : List ℕ) → Option ℕ
storage_of word = number_in 1 MOST_CONTROLS word

-- the number of a volume device: 0 to 63
abbrev pub device_of : (word : List ℕ) → Option ℕ
device_of word = number_in 0 LAST_DEVICE word

abbrev pub cylinders_named : (word : List ℕ) → Option ℕ
cylinders_named word = number_in 1 MOST_CYLINDERS word

-- the number of an input: 0 to 4,294,967,295
abbrev pub input_of : (word : List ℕ) → Option ℕ
input_of word = number_in 0 MOST_NUMBER word

-- by how much the number of a target is greater: 1 to 63
abbrev pub shift_of : (word : List ℕ) → Option ℕ
shift_of word = number_in 1 LAST_DEVICE word

-- ---- command lines

abbrev pub asked_run : (session : List ℕ) → Option ℕ → Option Asked
asked_run session None = None
asked_run session (Some storage) = if is_session session then Some (Run session storage) else None

abbrev pub asked_copy : (session : List ℕ) → Option ℕ → Option Asked
asked_copy session None = None
asked_copy session (Some shift) = if is_session session then Some (Copy session shift) else None

abbrev pub asked_init : (serial : List ℕ) → (device cylinders : Option ℕ) → Option Asked
asked_init serial None cylinders = None
asked_init serial (Some device) None = None
asked_init serial (Some device) (Some cylinders) = if is_serial serial then Some (Init device serial cylinders) else None

abbrev pub asked_generate : Option ℕ → Option Asked
asked_generate None = None
asked_generate (Some number) = Some (Generate number)

-- the commands that take a session alone
abbrev pub asked_of_session : (command session : List ℕ) → Option Asked
asked_of_session command session =
    if bytes_eq command (codes "recover") then Some (Recover session) else
    if bytes_eq command (codes "advance") then Some (Advance session) else
    if bytes_eq command (codes "query") then Some (Query session) else None

abbrev pub asked_of_two : (command operand : List ℕ) → Option Asked
asked_of_two command operand =
    if bytes_eq command (codes "generate") then asked_generate (input_of operand) else
    if is_session operand then asked_of_session command operand else None

abbrev pub asked_of_three : (command session number : List ℕ) → Option Asked
asked_of_three command session number =
    if bytes_eq command (codes "run") then asked_run session (storage_of number) else
    if bytes_eq command (codes "copy") then asked_copy session (shift_of number) else None

-- What the words ask for: `run SESSION STORAGE`, `recover SESSION`, `advance SESSION`, `copy SESSION SHIFT`, `query SESSION`, `init DEVICE SERIAL
-- CYLINDERS` or `generate NUMBER`. No other words are a command line.
abbrev pub asked_by_words : List (List ℕ) → Option Asked
asked_by_words [] = None
asked_by_words (command ∷ []) = None
asked_by_words (command ∷ operand ∷ []) = asked_of_two command operand
asked_by_words (command ∷ session ∷ number ∷ []) = asked_of_three command session number
asked_by_words (command ∷ device ∷ serial ∷ cylinders ∷ []) = if bytes_eq command (codes "init") then asked_init serial (device_of device) (cylinders_named cylinders) else None
asked_by_words (command ∷ a ∷ b ∷ c ∷ other ∷ words) = None

-- the ranges of a command's numbers: 1 to 16 traces, and at least one cylinder
abbrev pub HasRange : Asked → Type 0
HasRange (Run session storage) = (1 ≤ storage) × (storage ≤ MOST_CONTROLS)
HasRange (Init device serial cylinders) = 1 ≤ cylinders
HasRange other = Unit {0}

-- what has to be opened for them
abbrev pub wanted_by : Option Asked → Wanted
wanted_by None = Nothing
wanted_by (Some (Run session storage)) = Traces storage
wanted_by (Some (Recover session)) = Devices
wanted_by (Some (Advance session)) = Devices
wanted_by (Some (Copy session shift)) = Devices
wanted_by (Some (Query session)) = Devices
wanted_by (Some (Init device serial cylinders)) = Devices
wanted_by (Some (Generate number)) = Nothing
