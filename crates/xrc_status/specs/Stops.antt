-- How a command that was not done ends: the number of its status and the last line that it says.
use Rattle.std.specs.Prelude.{ℕ, List, [], ◌∷◌, ◌++◌, codes, decimal}
use Rattle.crash_plant.specs.declared.device.Device.{Device}
use Rattle.crash_plant.specs.declared.device.Device.TheVariants.{Control, State, Journal, Volume}
use Rattle.xrc_status.specs.declared.stop.Stop.{Stop}
use Rattle.xrc_status.specs.declared.stop.Stop.TheVariants.{NoMemory, BadWords, ConsoleFault, BadLine, JournalFault, ControlFault, StateFault, BadHeader, HeaderFault, NoSession, OtherSession, Damaged, VolumeFault, TooSmall, BadSite, Spent}

abbrev pub status_of : Stop → ℕ
status_of NoMemory = 1
status_of BadWords = 2
status_of ConsoleFault = 3
status_of (BadLine n) = 4
status_of (JournalFault j) = 5
status_of ControlFault = 6
status_of StateFault = 7
status_of (BadHeader trace place) = 8
status_of (HeaderFault trace) = 9
status_of NoSession = 10
status_of (OtherSession name) = 11
status_of (Damaged d place) = 12
status_of VolumeFault = 13
status_of (TooSmall d needed) = 14
status_of BadSite = 16
status_of Spent = 24

-- a space and a number
abbrev pub number_text : ℕ → List ℕ
number_text n = 32 ∷ decimal n

-- a space and a device's name
abbrev pub device_text : Device → List ℕ
device_text Control = codes " CONTROL"
device_text State = codes " STATE"
device_text (Journal j) = codes " JOURNAL" ++ number_text j
device_text (Volume v) = codes " VOLUME" ++ number_text v

-- What the line says after the status: a line of the script; a journal; a trace, and a place of it; a trace; a session; a device and
-- a place of it; a device and how many bytes it needs.
abbrev pub details : Stop → List ℕ
details (BadLine n) = number_text n
details (JournalFault j) = number_text j
details (BadHeader trace place) = number_text trace ++ number_text place
details (HeaderFault trace) = number_text trace
details (OtherSession name) = 32 ∷ name
details (Damaged d place) = device_text d ++ number_text place
details (TooSmall d needed) = device_text d ++ number_text needed
details NoMemory = []
details BadWords = []
details ConsoleFault = []
details ControlFault = []
details StateFault = []
details NoSession = []
details VolumeFault = []
details BadSite = []
details Spent = []

-- the line of a status
abbrev pub status_line : ℕ → (after : List ℕ) → List ℕ
status_line status after = codes "STATUS" ++ number_text status ++ after ++ 10 ∷ []

-- Each says the line of its status, but that the console failed says none.
abbrev pub last_line : Stop → List ℕ
last_line ConsoleFault = []
last_line stop = status_line (status_of stop) (details stop)
