-- Room: the records and the blocks that entries take, and those that are free.
use Rattle.std.specs.Prelude.{ℕ, ◌+◌, ◌&&◌, List, length, sum_by, Bool, nat_le}
pub use Rattle.block_region.specs.Blocks.{blocks_of}
use Rattle.ckd_track.specs.declared.layout.TheConstants.{BEFORE_IMAGE}
use Rattle.ckd_track.specs.declared.rec.Rec.{Rec}
use Rattle.ckd_track.specs.declared.write.Write.{Write}
use Rattle.ckd_track.specs.Images.{image}
use Rattle.ckd_track.specs.Entries.{queue_form}
use Rattle.pending_queue.specs.declared.room.Room.{Room}
use Rattle.pending_queue.specs.Entries.{WaitingEntry}

-- the blocks that writes need as entries
abbrev pub blocks_needed : List Write → ℕ
blocks_needed writes = sum_by (λ write. blocks_of (length (queue_form write))) writes

-- the blocks that entries take
abbrev pub blocks_taken : List WaitingEntry → ℕ
blocks_taken entries = sum_by (λ entry. blocks_of (length entry.form)) entries

-- whether there are records and blocks enough for the writes
abbrev pub has_room : Room → List Write → Bool
has_room room writes = nat_le (length writes) room.records && nat_le (blocks_needed writes) room.blocks

-- the blocks that a copied track needs as an entry
abbrev pub track_blocks : List Rec → ℕ
track_blocks recs = blocks_of (BEFORE_IMAGE + length (image recs))

-- whether there are a record and blocks enough for a copied track
abbrev pub has_room_for_track : Room → List Rec → Bool
has_room_for_track room recs = nat_le 1 room.records && nat_le (track_blocks recs) room.blocks
