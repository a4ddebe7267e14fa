-- What ends a run before its script is heard: the numbers of the site, the lengths of its devices, and the headers of the traces, in this order.
use Rattle.std.specs.Prelude.{◌≡◌, ◌⊎◌, ℕ, ◌+◌, ◌<◌, ◌==◌, ◌&&◌, List, [], ◌∷◌, ◌++◌, length, map, find, Bool, Option, Some, None, Result, Ok, Err, IsErrOf, IsSomeAnd, IsTrue, nat_le, nat_lt, bytes_eq, if◌then◌else◌, slice_index_or}
use Rattle.std.specs.List.{list_all, list_any}
use Rattle.xrc_edge.specs.declared.limits.TheConstants.{FEWEST_JOURNALS, MOST_JOURNALS, MOST_SITE_VOLUMES}
use Rattle.xrc_edge.specs.Causes.{Rose}
use Rattle.crash_plant.specs.declared.device.Device.{Device}
use Rattle.crash_plant.specs.declared.device.Device.TheVariants.{Control, State, Journal, Volume}
use Rattle.crash_plant.specs.declared.layout.TheConstants.{CONTROL_LENGTH, STATE_LENGTH}
use Rattle.crash_plant.specs.Moments.{PlantState}
use Rattle.write_trace.specs.declared.header.Header.{Header}
use Rattle.write_trace.specs.declared.header.VolumeHead.{VolumeHead}
use Rattle.write_trace.specs.declared.trace.HeaderError.{HeaderError}
use Rattle.write_trace.specs.declared.trace.HeaderError.TheVariants as header
use Rattle.write_trace.specs.Headers.{serial_place}
use Rattle.write_trace.specs.Starts.{ReadsHeader}
use Rattle.xrc_journal.specs.Lengths.{journal_length}
use Rattle.pair_table.specs.Naming.{Naming, none_alike}
use Rattle.primary_ctl.specs.States.{PrimaryState}
use Rattle.sidefile.specs.States.{SidefileState}
use Rattle.site_means.specs.Answers.{examined}
use Rattle.consistency.specs.Stages.{volumes_named}
use Rattle.fed_logs.specs.FeedLaws.{IsFirstFeed}
use Rattle.mover.specs.declared.lane.Lane.{Lane}
use Rattle.mover.specs.Lanes.{first_reader, reader_in}
use Rattle.xrc_status.specs.declared.stop.Stop.{Stop}
use Rattle.xrc_status.specs.declared.stop.Stop.TheVariants.{BadHeader, BadSite, HeaderFault, NoMemory, TooSmall}
use Rattle.xrc_session.specs.Lanes.{AllTold, AllWent, SourceBytes, trace_given}

-- ---- the site

-- There are as many traces as the session has controllers, and as many journals and volumes as a site has; one volume at least.
abbrev pub has_site_numbers : (controls traces : ℕ) → PlantState → Bool
has_site_numbers controls traces plant = traces == controls && (nat_le FEWEST_JOURNALS plant.journals && nat_le plant.journals MOST_JOURNALS) && (nat_le 1 plant.volumes && nat_le plant.volumes MOST_SITE_VOLUMES)

-- how many bytes a device needs in a session of so many controllers; a volume's are no matter of its opening
abbrev pub session_need : (controls : ℕ) → Device → ℕ
session_need controls Control = CONTROL_LENGTH
session_need controls State = STATE_LENGTH
session_need controls (Journal j) = journal_length controls
session_need controls (Volume v) = 0

abbrev pub is_too_short : (controls : ℕ) → PlantState → Device → Bool
is_too_short controls plant d = nat_lt (plant.lengths d) (session_need controls d)

-- the first device that has fewer bytes than it needs: the control, the state, or a journal
abbrev pub first_too_short : (controls : ℕ) → PlantState → Option Device
first_too_short controls plant = find (is_too_short controls plant) (examined plant)

abbrev pub stop_of_length : (controls : ℕ) → Option Device → Option Stop
stop_of_length controls None = None
stop_of_length controls (Some d) = Some (TooSmall d (session_need controls d))

-- the stop by numbers and lengths, if there is one
abbrev pub stop_of_site : (controls traces : ℕ) → PlantState → Option Stop
stop_of_site controls traces plant = if has_site_numbers controls traces plant then stop_of_length controls (first_too_short controls plant) else Some BadSite

-- ---- the headers

abbrev pub is_named_in : (named : List (List ℕ)) → (serial : List ℕ) → Bool
is_named_in named serial = list_any (bytes_eq serial) named

-- the first volume, from this one on, with a serial that was named before
abbrev pub first_named_again : (named : List (List ℕ)) → (volume : ℕ) → List VolumeHead → Option ℕ
first_named_again named v [] = None
first_named_again named v (head ∷ heads) = if is_named_in named head.serial then Some v else first_named_again named (v + 1) heads

abbrev pub serials_in_header : List VolumeHead → List (List ℕ)
serials_in_header heads = map (λ head. head.serial) heads

abbrev pub stop_of_header : (control : ℕ) → HeaderError → Stop
stop_of_header k (header.BadHeader place) = BadHeader k place
stop_of_header k header.HeaderFault = HeaderFault k
stop_of_header k header.NoMemory = NoMemory

-- The stop by the headers of traces, from this controller on, if there is one: the first header that leaves its form, is cut, or names a serial
-- that an earlier one names.
abbrev pub stop_of_headers : (control : ℕ) → (named : List (List ℕ)) → List SourceBytes → Option Stop
stop_of_headers k named [] = None
stop_of_headers k named (s ∷ sources) = elim (trace_given s) [
  | Err error ↦ Some (stop_of_header k error)
  | Ok t ↦ elim (first_named_again named 0 t.header.volumes) [
    | Some v ↦ Some (BadHeader k (serial_place t.header.version v))
    | None ↦ stop_of_headers (k + 1) (named ++ serials_in_header t.header.volumes) sources
  ]
]

-- the first stop that is due
abbrev pub opening_stop : (controls : ℕ) → PlantState → List SourceBytes → Option Stop
opening_stop controls plant sources = elim (stop_of_site controls (length sources) plant) [ Some stop ↦ Some stop | None ↦ stop_of_headers 0 [] sources ]

-- ---- how opening ends

abbrev pub IsOfSite : Stop → Type 0
IsOfSite stop = (stop ≡ BadSite) ⊎ ((d : Device) × (needed : ℕ) × (stop ≡ TooSmall d needed))

abbrev pub IsOfHeaders : Stop → Type 0
IsOfHeaders stop = ((k : ℕ) × (place : ℕ) × (stop ≡ BadHeader k place)) ⊎ ((k : ℕ) × (stop ≡ HeaderFault k))

-- A stop that comes before the script is heard.
abbrev pub ComesEarly : Stop → Type 0
ComesEarly stop = IsOfSite stop ⊎ IsOfHeaders stop

-- How a call that opens a session ends: with the first stop that is due, exactly, or for want of memory once numbers and lengths are right.
--   site, of_site: numbers and lengths come first, and no source is pulled then
--   headers, of_headers: then the headers in order, by what their sources gave
--   fault: whatever a source tells, a fault in its header comes only where its count rose
pub record OpensInOrder {S T : Type 0} (left : S → Option (List ℕ)) (faults : S → ℕ) (controls : ℕ) (before now : List (Lane S)) (plant : PlantState) (result : Result T Stop) : Type 0 where
  pub site : (stop : Stop) → stop_of_site controls (length before) plant ≡ Some stop → IsErrOf result stop × (now ≡ before)
  pub of_site : (stop : Stop) → IsOfSite stop → IsErrOf result stop → stop_of_site controls (length before) plant ≡ Some stop
  pub headers : (sources : List SourceBytes) (stop : Stop) → AllTold left faults before now sources → opening_stop controls plant sources ≡ Some stop → IsErrOf result stop ⊎ IsErrOf result NoMemory
  pub of_headers : (sources : List SourceBytes) (stop : Stop) → AllTold left faults before now sources → IsOfHeaders stop → IsErrOf result stop → opening_stop controls plant sources ≡ Some stop
  pub fault : (k : ℕ) (d : Lane S) → IsErrOf result (HeaderFault k) → Rose (faults (slice_index_or before k d).source) (faults (slice_index_or now k d).source)

-- ---- in the work for headers

-- Headers stop a call exactly by the first of them that stops a run, from this controller on, or it stops for want of memory.
pub record StopsByHeaders {S T : Type 0} (left : S → Option (List ℕ)) (faults : S → ℕ) (control : ℕ) (named : List (List ℕ)) (before now : List (Lane S)) (result : Result T Stop) : Type 0 where
  pub due : (sources : List SourceBytes) (stop : Stop) → AllTold left faults before now sources → stop_of_headers control named sources ≡ Some stop → IsErrOf result stop ⊎ IsErrOf result NoMemory
  pub stops : (sources : List SourceBytes) (stop : Stop) → AllTold left faults before now sources → IsErrOf result stop → (stop ≡ NoMemory) ⊎ (stop_of_headers control named sources ≡ Some stop)

-- A stop is one of a controller's header.
abbrev pub IsOfControlHeader : (control : ℕ) → Stop → Type 0
IsOfControlHeader k stop = ((place : ℕ) × (stop ≡ BadHeader k place)) ⊎ (stop ≡ HeaderFault k)

-- The serials that were named are those of the names' volumes, which are of the controllers below this one.
pub record AreSerialsNamed (control : ℕ) (named : List (List ℕ)) (names : Naming) : Type 0 where
  pub serials : named ≡ map (λ v. v.serial) names.primaries
  pub below : IsTrue (list_all (λ v. nat_lt v.control control) names.primaries)
  pub apart : IsTrue (none_alike names.primaries)

-- The volumes of a controller may be named: none of their serials was.
pub record NamesApart (control : ℕ) (volumes : List VolumeHead) (named : List (List ℕ)) (names : Naming) : Type 0 where
  pub are : AreSerialsNamed control named names
  pub new : first_named_again named 0 volumes ≡ None

-- A lane's header was read, its volumes were named, and the lane has its reader, which has read nothing after the header. Its source was told so.
pub record OpensLane {S : Type 0} (left : S → Option (List ℕ)) (faults : S → ℕ) (control : ℕ) (named : List (List ℕ)) (names : Naming) (before opened : Lane S) (named_now : List (List ℕ)) (names_now : Naming) : Type 0 where
  pub head : Header
  pub side : SidefileState
  pub primary : PrimaryState
  pub reader : reader_in opened ≡ Some (first_reader side primary)
  pub of_control : side.control ≡ control
  pub halted : side.halted ≡ None
  pub apart : first_named_again named 0 head.volumes ≡ None
  pub fresh : IsFirstFeed head (record { side = side; primary = primary; held = None; halted = None })
  pub reads : ReadsHeader (left before.source) (left opened.source) head side.reader
  pub quiet : faults opened.source ≡ faults before.source
  pub names_are : names_now ≡ record names { primaries = names.primaries ++ volumes_named control 0 head.volumes }
  pub named_are : named_now ≡ named ++ serials_in_header head.volumes

-- Each lane has its reader, of its controller, which has read nothing after the header.
pub record AreLanesOpened {S : Type 0} (left : S → Option (List ℕ)) (faults : S → ℕ) (before opened : List (Lane S)) : Type 0 where
  pub many : length opened ≡ length before
  pub each : (k : ℕ) (d : Lane S) → k < length opened → IsSomeAnd (reader_in (slice_index_or opened k d)) (λ r. (r.feed.side.control ≡ k) × (r.feed.halted ≡ None) × (r.feed.side.upto ≡ 0) × (r.feed.primary.time ≡ 0))
  pub quiet : (k : ℕ) (d : Lane S) → k < length opened → faults (slice_index_or opened k d).source ≡ faults (slice_index_or before k d).source

-- Lanes that were opened: whatever their sources turn out to give by a later time, if each lane's reader went on to then, no header stops a call.
abbrev pub StayGood : {S : Type 0} → (left : S → Option (List ℕ)) → (faults : S → ℕ) → (before opened : List (Lane S)) → Type 0
StayGood left faults before opened = (last : _) (sources : List SourceBytes) → AllTold left faults before last sources → AllWent left faults opened last → stop_of_headers 0 [] sources ≡ None
