-- Where the contents of some records stand, of which the first is spelled at a place; and fronts of records.
use Rattle.std.specs.Prelude.{ℕ, ◌+◌, ◌-◌, ◌==◌, nat_lt, List, [], ◌∷◌, length, Option, Some, None, if◌then◌else◌}
use Rattle.ckd_track.specs.declared.rec.Rec.{Rec}
use Rattle.ckd_track.specs.Tracks.{record_size}
use Rattle.ckd_track.specs.declared.head.Head.{Head}
use Rattle.ckd_track.specs.Heads.{head_size, head_length}
use Rattle.ckd_track.specs.declared.places.Place.{Place}
use Rattle.ckd_track.specs.declared.fronts.Front.{Front}

-- the place of the content of the record with the number
abbrev pub place_of_content : (number at : ℕ) → List Rec → Option Place
place_of_content number at [] = None
place_of_content number at (r ∷ recs) =
    if r.number == number
    then Some (record { from = at + 4 + length r.key; len = length r.content })
    else place_of_content number (at + (4 + length r.key + length r.content)) recs

-- the head of a record
abbrev pub head_of : Rec → Head
head_of r = record { number = r.number; key_length = length r.key; content_length = length r.content }

-- ---- the front of a track, or of given records

-- no record, whose spelling would begin at a place, with this room
abbrev pub no_front : (at room : ℕ) → Front
no_front at room = record { end = at; count = 0; room = room; last = 0 }

-- a front with one more record
abbrev pub front_with : Front → Rec → Front
front_with front r = record { end = front.end + (4 + length r.key + length r.content); count = front.count + 1; room = front.room - record_size r; last = r.number }

-- a front with the record of a head
abbrev pub front_after : Front → Head → Front
front_after front head = record { end = front.end + head_length head; count = front.count + 1; room = front.room - head_size head; last = head.number }

-- the records with a number up to `after`
abbrev pub front_up_to : (after : ℕ) → Front → List Rec → Front
front_up_to after front [] = front
front_up_to after front (r ∷ recs) = if nat_lt after r.number then front else front_up_to after (front_with front r) recs

-- the records up to the first that doesn't fit
abbrev pub front_fitting : Front → List Rec → Front
front_fitting front [] = front
front_fitting front (r ∷ recs) = if nat_lt front.room (record_size r) then front else front_fitting (front_with front r) recs
