-- The four bytes that a record's spelling begins with.
use Rattle.std.specs.Prelude.{◌≡◌, ◌≤◌, ◌<◌, ◌^◌, ℕ, ◌+◌, List, length, take, drop, slice_index, slice_range}
use Rattle.std.specs.Int.{w16, from_be_bytes}
use Rattle.ckd_track.specs.declared.head.Head.{Head}
use Rattle.ckd_track.specs.declared.rec.Rec.{Rec}

-- the head at the front of the bytes
abbrev pub head_at : List ℕ → Head
head_at bytes = record { number = slice_index bytes 0; key_length = slice_index bytes 1; content_length = from_be_bytes w16 (slice_range bytes 2 4) }

-- the size of its record, and the length of its spelling
abbrev pub head_size : Head → ℕ
head_size head = 8 + head.key_length + head.content_length

abbrev pub head_length : Head → ℕ
head_length head = 4 + head.key_length + head.content_length

-- the record of a head, with key and content from what follows the first four bytes
abbrev pub record_of : Head → List ℕ → Rec
record_of head bytes = record {
  number = head.number;
  key = take head.key_length (drop 4 bytes);
  content = take head.content_length (drop head.key_length (drop 4 bytes));
}

-- the record of the head at the front
abbrev pub first_record : List ℕ → Rec
first_record bytes = record_of (head_at bytes) bytes

-- The head stands at the front, its record fits the room and the bytes, and the rest follows the record.
pub record IsFirst (bytes : List ℕ) (room : ℕ) (head : Head) (rest : List ℕ) : Type 0 where
  pub is_head : head ≡ head_at bytes
  pub fits : head_size head ≤ room
  pub whole : head_length head ≤ length bytes
  pub rest_is : rest ≡ drop (head_length head) bytes

-- The lengths of key and content fit their fields of a head.
pub record FitsHead (rec : Rec) : Type 0 where
  pub key_fits : length rec.key ≤ 255
  pub content_fits : length rec.content < 2 ^ 16
