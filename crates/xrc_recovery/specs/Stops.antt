-- Why a recovery ends, and what it leaves by then.
use Rattle.std.specs.Prelude.{◌≡◌, ◌≤◌, ◌⊎◌, ℕ, List, Some, None}
use Rattle.xrc_edge.specs.declared.limits.TheConstants.{FEWEST_JOURNALS, MOST_JOURNALS, MOST_SITE_VOLUMES}
use Rattle.xrc_edge.specs.Causes.{Rose}
use Rattle.crash_plant.specs.declared.device.Device.{Device}
use Rattle.crash_plant.specs.declared.device.Device.TheVariants.{Control, State, Journal, Volume}
use Rattle.crash_plant.specs.Moments.{PlantState}
use Rattle.site_means.specs.declared.means.Means.{Means}
use Rattle.site_means.specs.declared.site_error.SiteError.{SiteError}
use Rattle.site_means.specs.declared.site_error.SiteError.TheVariants.{NoSession as NoSessionError, Damaged as DamagedError, Fault, TooSmall as TooSmallError, NoMemory as NoMemoryError}
use Rattle.site_means.specs.Meaning.{meaning}
use Rattle.site_means.specs.Meaning.Meaning.{NoMark, DamagedAt}
use Rattle.site_means.specs.Answers.{IsInTurn, first_short, need}
use Rattle.xrecover.specs.declared.recover_error.RecoverError.{RecoverError}
use Rattle.xrecover.specs.declared.recover_error.RecoverError.TheVariants.{Site, Other}
use Rattle.xrecover.specs.Answers.{After, IsOf, IsOther, IsRecoverable, IsTooSmall}
use Rattle.xrc_status.specs.declared.stop.Stop.{Stop}
use Rattle.xrc_status.specs.declared.stop.Stop.TheVariants.{NoMemory, BadWords, ConsoleFault, BadLine, JournalFault, ControlFault, StateFault, BadHeader, HeaderFault, NoSession, OtherSession, Damaged, VolumeFault, TooSmall, BadSite, Spent}

-- A site has its numbers of journals and of volumes.
pub record IsSite (plant : PlantState) : Type 0 where
  pub some_journals : FEWEST_JOURNALS ≤ plant.journals
  pub few_journals : plant.journals ≤ MOST_JOURNALS
  pub few_volumes : plant.volumes ≤ MOST_SITE_VOLUMES

-- ---- the stop of an error

abbrev pub fault_of : Device → Stop
fault_of Control = ControlFault
fault_of State = StateFault
fault_of (Journal j) = JournalFault j
fault_of (Volume v) = VolumeFault

abbrev pub site_stop : SiteError → Stop
site_stop NoSessionError = NoSession
site_stop (DamagedError d place) = Damaged d place
site_stop (Fault d) = fault_of d
site_stop (TooSmallError d needed) = TooSmall d needed
site_stop NoMemoryError = NoMemory

abbrev pub stop_of : RecoverError → Stop
stop_of (Site e) = site_stop e
stop_of (Other name) = OtherSession name

-- ---- what calls for a stop

-- The control, the state or a journal is the first that has fewer bytes than it needs.
pub record IsShort (plant : PlantState) (d : Device) (needed : ℕ) : Type 0 where
  pub first : first_short plant ≡ Some d
  pub need_is : needed ≡ need d

-- What is so of the devices, by what reads gave, where a recovery of a session ends so: the lengths come first, then the control, the
-- session, the state, the journals in the order of the walk, and the lengths of the duplex pairs' volumes. Of a fault it says that
-- the device was read in its turn. A recovery ends in no other way.
abbrev pub CallsFor : PlantState → (session : List ℕ) → Stop → Type 0
CallsFor plant session BadSite = ¬ IsSite plant
CallsFor plant session (TooSmall d needed) = IsShort plant d needed ⊎ IsTooSmall plant session d needed
CallsFor plant session ControlFault = IsInTurn plant Control
CallsFor plant session NoSession = meaning plant plant.bytes ≡ NoMark
CallsFor plant session (Damaged d place) = (meaning plant plant.bytes ≡ DamagedAt d place) × After plant session d
CallsFor plant session (OtherSession name) = IsOther plant session name
CallsFor plant session StateFault = IsOf plant session × IsInTurn plant State
CallsFor plant session (JournalFault j) = IsOf plant session × IsInTurn plant (Journal j)
CallsFor plant session NoMemory = IsOf plant session
CallsFor plant session VolumeFault = IsOf plant session
CallsFor plant session ConsoleFault = IsOf plant session
CallsFor plant session BadWords = ⊥
CallsFor plant session (BadLine n) = ⊥
CallsFor plant session (BadHeader trace place) = ⊥
CallsFor plant session (HeaderFault trace) = ⊥
CallsFor plant session Spent = ⊥

-- The count of some volume rose.
abbrev pub HasFailure : (before now : Device → ℕ) → Type 0
HasFailure before now = (v : ℕ) × Rose (before (Volume v)) (now (Volume v))

-- The count of what failed rose. A recovery ends in no way that isn't its own, also where reads aren't told.
abbrev pub HasRisen : (old new : PlantState) → Stop → Type 0
HasRisen old new ConsoleFault = Rose old.console_faults new.console_faults
HasRisen old new (JournalFault j) = Rose (old.faults (Journal j)) (new.faults (Journal j))
HasRisen old new ControlFault = Rose (old.faults Control) (new.faults Control)
HasRisen old new StateFault = Rose (old.faults State) (new.faults State)
HasRisen old new VolumeFault = HasFailure old.faults new.faults
HasRisen old new NoMemory = Unit {0}
HasRisen old new NoSession = Unit {0}
HasRisen old new (OtherSession name) = Unit {0}
HasRisen old new (Damaged d place) = Unit {0}
HasRisen old new (TooSmall d needed) = Unit {0}
HasRisen old new BadSite = Unit {0}
HasRisen old new BadWords = ⊥
HasRisen old new (BadLine n) = ⊥
HasRisen old new (BadHeader trace place) = ⊥
HasRisen old new (HeaderFault trace) = ⊥
HasRisen old new Spent = ⊥

-- It says lines before it ends so.
abbrev pub HasLines : Stop → Type 0
HasLines stop = (stop ≡ ConsoleFault) ⊎ (stop ≡ VolumeFault)

-- It ends so before anything is written: not by a fault of a journal, which can also come while its items are read once more, and not
-- with lines.
abbrev pub StopsEarly : Stop → Type 0
StopsEarly (JournalFault j) = ⊥
StopsEarly VolumeFault = ⊥
StopsEarly ConsoleFault = ⊥
StopsEarly stop = Unit {0}

-- ---- what calls for none

-- The devices mean something of this session, and each is long enough.
pub record IsReady (plant : PlantState) (session : List ℕ) : Type 0 where
  pub long : first_short plant ≡ None
  pub means : Means
  pub is_meant : IsRecoverable plant session means
