-- The bytes of a track in a device image: its one spelling, and reading it.
use Rattle.std.specs.Prelude.{◌≡◌, ◌≢◌, ℕ, zero, suc, ◌+◌, ◌-◌, ◌/◌, ◌%◌, List, [], ◌∷◌, ◌++◌, length, take, drop, replicate, Bool, Option, Some, None, Result, Ok, Err, not, nat_lt, bytes_eq, if◌then◌else◌}
use Rattle.std.specs.List.{flat_map}
use Rattle.std.specs.Int.{w16, to_be_bytes}
use Rattle.tod_stamp.specs.Fields.{◌>>=◌}
use Rattle.xrc_edge.specs.declared.limits.TheConstants.{TRACKS_OF_CYLINDER}
use Rattle.ckd_track.specs.declared.rec.Rec.{Rec}
use Rattle.ckd_track.specs.declared.fault.ImageError.{ImageError}
use Rattle.ckd_track.specs.declared.fault.ImageError.TheVariants.{Short, TooBig, Order, NoMemory as no_memory}
use Rattle.ckd_track.specs.Tracks.{capacity, is_track, last_number}
use Rattle.ckd_track.specs.Images.{record_at, record_spelling}
use Rattle.ckd_image.specs.declared.layout.TheConstants.{COUNT_LENGTH, FRONT_LENGTH, HOME_LENGTH}
use Rattle.ckd_image.specs.declared.fault.TrackFault.{TrackFault}
use Rattle.ckd_image.specs.declared.fault.TrackFault.TheVariants.{HomeAddress, RecordZero, Misplaced, Number, TooLong, Unended, NoMemory}

-- ---- the spelling

-- the cylinder and head of a track, in two bytes each
abbrev pub count_place : (track : ℕ) → List ℕ
count_place track = to_be_bytes w16 (track / TRACKS_OF_CYLINDER) ++ to_be_bytes w16 (track % TRACKS_OF_CYLINDER)

-- a byte 0, and the place of the track
abbrev pub home_address : (track : ℕ) → List ℕ
home_address track = 0 ∷ count_place track

-- A record with its count field: the place of its track, and then number, lengths, key and content as in any image.
abbrev pub counted_record : (track : ℕ) → Rec → List ℕ
counted_record track rec = count_place track ++ record_spelling rec

-- the record zero of every track
abbrev pub record_zero : Rec
record_zero = record { number = 0; key = []; content = replicate 8 0 }

abbrev pub track_front : (track : ℕ) → List ℕ
track_front track = home_address track ++ counted_record track record_zero

abbrev pub end_mark : List ℕ
end_mark = replicate 8 255

-- A track up to its end mark. What stands after that is free.
abbrev pub image_track : (track : ℕ) → List Rec → List ℕ
image_track track recs = track_front track ++ flat_map (counted_record track) recs ++ end_mark

-- with zeros up to a size; none if it is longer
abbrev pub fitted_image_track : (size track : ℕ) → List Rec → Option (List ℕ)
fitted_image_track size track recs = if nat_lt size (length (image_track track recs)) then None else Some (image_track track recs ++ replicate (size - length (image_track track recs)) 0)

-- ---- reading it

abbrev pub begins_with : (front bytes : List ℕ) → Bool
begins_with front bytes = bytes_eq front (take (length front) bytes)

-- the fault of a record at a place of a track
abbrev pub track_fault_at : (place : ℕ) → ImageError → TrackFault
track_fault_at place Short = Unended place
track_fault_at place TooBig = TooLong place
track_fault_at place (Order in_record) = Number place
track_fault_at place no_memory = NoMemory

abbrev pub placed_in_track : {X : Type 0} → (place : ℕ) → Result X ImageError → Result X TrackFault
placed_in_track place (Ok x) = Ok x
placed_in_track place (Err e) = Err (track_fault_at place e)

-- A record at a place, and what follows it: its count field must be there, name the track, and have a number above the last.
unfoldable pub counted_at : (track place last : ℕ) → List ℕ → Result (Rec × List ℕ) TrackFault
counted_at track place last bytes =
    if nat_lt (length bytes) COUNT_LENGTH then Err (Unended place)
    else if not (begins_with (count_place track) bytes) then Err (Misplaced place)
    else placed_in_track place (record_at 0 last capacity (drop 4 bytes))

-- The records up to the end mark, after those that stand before the place. With each the track must stay one.
unfoldable pub records_to_end : (turns track place : ℕ) → (before : List Rec) → List ℕ → Result (List Rec) TrackFault
records_to_end zero track place before bytes = Err (Unended place)
records_to_end (suc turns) track place before bytes =
    if begins_with end_mark bytes then Ok before
    else (counted_at track place (last_number 0 before) bytes >>= λ first.
    if is_track (before ++ first.0 ∷ [])
    then records_to_end turns track (place + length (counted_record track first.0)) (before ++ first.0 ∷ []) first.1
    else Err (TooLong place))

-- The track that the bytes begin with: home address, record zero, records, end mark. A track has at most 255 records.
abbrev pub device_track_at : (track : ℕ) → List ℕ → Result (List Rec) TrackFault
device_track_at track bytes =
    if not (begins_with (home_address track) bytes) then Err HomeAddress
    else if not (begins_with (track_front track) bytes) then Err RecordZero
    else records_to_end 256 track FRONT_LENGTH [] (drop FRONT_LENGTH bytes)

-- What a reader in the code returned is what reading gives, unless memory ran out.
abbrev pub GivesTrack : {X Y : Type 0} → (X → Y) → Result X TrackFault → Result Y TrackFault → Type 0
GivesTrack view (Ok x) read = read ≡ Ok (view x)
GivesTrack view (Err e) read = e ≢ NoMemory → read ≡ Err e
