-- Entries: what waits in a queue for each write, which of them a cut takes, and how they stand in a group.
use Rattle.std.specs.Prelude.{◌≡◌, ℕ, ◌==◌, ◌&&◌, ◌||◌, not, List, [], ◌∷◌, map, filter, Bool, true, false, nat_lt, nat_le, IsTrue}
use Rattle.tod_stamp.specs.declared.stamp.Stamp.{Stamp}
use Rattle.ckd_track.specs.declared.rec.Rec.{Rec}
use Rattle.ckd_track.specs.declared.write.Kind.{Kind}
use Rattle.ckd_track.specs.declared.write.Kind.TheVariants.{Update, Format, Whole}
use Rattle.ckd_track.specs.declared.write.Write.{Write}
use Rattle.ckd_track.specs.Effects.{is_kind, keeps_rules}
use Rattle.ckd_track.specs.Entries.{queue_form}
use Rattle.xrc_edge.specs.Order.{never_fall}
use Rattle.std.specs.List.{list_all}
use Rattle.pending_queue.specs.declared.entry.Effect.{Effect}
use Rattle.pending_queue.specs.declared.entry.Effect.TheVariants.{Write as WriteEffect, Copy as CopyEffect}
use Rattle.pending_queue.specs.declared.head.EntryHead.{EntryHead}

-- A waiting entry: what its write names, what it does to its track, its queue form, and whether it is a copied track.
pub record WaitingEntry : Type 0 where
  pub head : EntryHead
  pub kind : Kind
  pub form : List ℕ
  pub is_copy : Bool

abbrev pub is_whole : Kind → Bool
is_whole (Update number bytes) = false
is_whole (Format after recs) = false
is_whole (Whole track) = true

abbrev pub entry_head : (control : ℕ) → Write → EntryHead
entry_head k write = record { control = k; volume = write.volume; track = write.track; stamp = write.stamp; whole = is_whole write.kind }

abbrev pub entry_of : (control : ℕ) → Write → WaitingEntry
entry_of k write = record { head = entry_head k write; kind = write.kind; form = queue_form write; is_copy = false }

-- the write of a head that does this to its track
abbrev pub write_of : EntryHead → Kind → Write
write_of head kind = record { volume = head.volume; track = head.track; stamp = head.stamp; kind = kind }

-- what an entry does to its track: what a write does, or what a copied track does, which replaces it
abbrev pub effect_kind : Effect → Kind
effect_kind (WriteEffect kind) = kind.value
effect_kind (CopyEffect slot) = Whole slot.value

abbrev pub is_copied : Effect → Bool
is_copied (WriteEffect kind) = false
is_copied (CopyEffect slot) = true

-- the entry of a head with this effect and this queue form
abbrev pub entry_by : EntryHead → Effect → (form : List ℕ) → WaitingEntry
entry_by head effect form = record { head = head; kind = effect_kind effect; form = form; is_copy = is_copied effect }

-- A form is spelled by the write of a head that does this to its track, and keeps the rules.
pub record IsSpelled (head : EntryHead) (kind : Kind) (form : List ℕ) : Type 0 where
  pub keeps : IsTrue (is_kind kind)
  pub whole : head.whole ≡ is_whole kind
  pub spelled : form ≡ queue_form (write_of head kind)

-- The entry is of a write that keeps the rules: its head names what the write names, and its form is the write's queue form.
abbrev pub IsOfWrite : WaitingEntry → Type 0
IsOfWrite entry = IsSpelled entry.head entry.kind entry.form

abbrev pub entries_of : (control : ℕ) → List Write → List WaitingEntry
entries_of k writes = map (entry_of k) writes

-- A copied track waits as a write of the whole track, with its controller's floor as stamp.
abbrev pub copy_head : (control volume track : ℕ) → (stamp : Stamp) → EntryHead
copy_head k volume track stamp = record { control = k; volume = volume; track = track; stamp = stamp; whole = true }

abbrev pub copy_of : EntryHead → List Rec → WaitingEntry
copy_of head recs = record { head = head; kind = Whole recs; form = queue_form (write_of head (Whole recs)); is_copy = true }

-- the rules that each write keeps by itself
abbrev pub all_keep_rules : List Write → Bool
all_keep_rules writes = list_all (λ write. keeps_rules write.kind) writes

-- ---- stamps

abbrev pub entry_stamp : WaitingEntry → ℕ
entry_stamp entry = entry.head.stamp.0

-- the stamp of the last entry, where `last` stands before the first
abbrev pub last_stamp_from : (last : ℕ) → List WaitingEntry → ℕ
last_stamp_from last [] = last
last_stamp_from last (entry ∷ entries) = last_stamp_from (entry_stamp entry) entries

-- the stamp of the last entry, or 0
abbrev pub last_stamp : List WaitingEntry → ℕ
last_stamp entries = last_stamp_from 0 entries

-- the stamps of entries never fall, from `last` on
abbrev pub entries_never_fall : (last : ℕ) → List WaitingEntry → Bool
entries_never_fall last entries = never_fall last (map entry_stamp entries)

-- ---- volumes

abbrev pub is_of_volume : (volume : ℕ) → WaitingEntry → Bool
is_of_volume v entry = entry.head.volume == v

-- the entries of other volumes
abbrev pub without_volume : (volume : ℕ) → List WaitingEntry → List WaitingEntry
without_volume v entries = filter (λ entry. not (is_of_volume v entry)) entries

-- the tracks of a volume's entries, in order
abbrev pub entry_tracks : (volume : ℕ) → List WaitingEntry → List ℕ
entry_tracks v entries = map (λ entry. entry.head.track) (filter (is_of_volume v) entries)

-- whether an entry is on track x of the volume
abbrev pub is_queued_on : (volume x : ℕ) → WaitingEntry → Bool
is_queued_on v x entry = is_of_volume v entry && entry.head.track == x

-- whether an entry is a copied track of the volume
abbrev pub is_copy_of : (volume : ℕ) → WaitingEntry → Bool
is_copy_of v entry = is_of_volume v entry && entry.is_copy

-- the copied tracks among entries
abbrev pub copies : List WaitingEntry → List WaitingEntry
copies entries = filter (λ entry. entry.is_copy) entries

-- ---- cuts

-- A cut takes the entries with a stamp at most its own.
abbrev pub is_due : (cut : Stamp) → WaitingEntry → Bool
is_due cut entry = nat_le (entry_stamp entry) cut.0

abbrev pub is_later : (cut : Stamp) → WaitingEntry → Bool
is_later cut entry = nat_lt cut.0 (entry_stamp entry)

-- the entries that a cut takes
abbrev pub due : (cut : Stamp) → List WaitingEntry → List WaitingEntry
due cut entries = filter (is_due cut) entries

-- the entries that it leaves
abbrev pub left : (cut : Stamp) → List WaitingEntry → List WaitingEntry
left cut entries = filter (is_later cut) entries

-- ---- the order of a group

-- A head stands before another by stamp, then by controller.
abbrev pub head_before : EntryHead → EntryHead → Bool
head_before a b = nat_lt a.stamp.0 b.stamp.0 || (a.stamp.0 == b.stamp.0 && nat_lt a.control b.control)

-- An entry stands before another by their heads. Those of one stamp and controller stand by position.
abbrev pub stands_before : WaitingEntry → WaitingEntry → Bool
stands_before a b = head_before a.head b.head
