-- A body: a buffer of items and a closed gate after them, seen as the items.
use Rattle.std.specs.Prelude.{◌≡◌, ◌≤◌, ℕ, ◌+◌, ◌-◌, ◌==◌, ◌&&◌, false, List, [], ◌∷◌, ◌++◌, length, take, slice_index, Bool, Option, Some, None, if◌then◌else◌, IsTrue}
use Rattle.xrc_journal.specs.Items.{Item, Form, Earlier, AreItems, none_earlier, earlier_after_all, anywhere, is_drawn, is_item, item_spelling, body_spelling}
use Rattle.xrc_journal.specs.Items.Item.{Image, Delta, Pair, Gone}
use Rattle.xrc_journal.specs.Reading.{Items, items_at}

-- what a body holds
pub record BodyState : Type 0 where
  pub items : List Item
  -- the most bytes that the items may have
  pub room : ℕ

-- the items of bytes, of whatever tracks
abbrev pub items_of : List ℕ → List Item
items_of bytes = (items_at anywhere 0 bytes).good

-- what a buffer holds whose first bytes are used
abbrev pub held_in : (used : ℕ) → (buffer : List ℕ) → BodyState
held_in used buffer = record { items = items_of (take used buffer); room = length buffer - 1 }

-- The used bytes are the items of a group, all of them, and a closed gate stands after them.
pub record HoldsItems (used : ℕ) (buffer : List ℕ) : Type 0 where
  pub within : used + 1 ≤ length buffer
  pub shut : slice_index buffer used ≡ 0
  pub keep : AreItems anywhere (items_of (take used buffer))
  pub spelled : take used buffer ≡ body_spelling (items_of (take used buffer))

-- no items, in the same room
abbrev pub without_items : BodyState → BodyState
without_items held = record { items = []; room = held.room }

-- one item more, in the same room
abbrev pub with_item : Item → BodyState → BodyState
with_item item held = record { items = held.items ++ item ∷ []; room = held.room }

-- whether an item of a row is among them
abbrev pub are_late : List Item → Bool
are_late items = (earlier_after_all items none_earlier).late

-- whether an image of a track is among them
abbrev pub have_image : List Item → (device track : ℕ) → Bool
have_image items device track = is_drawn (earlier_after_all items none_earlier).drawn device track

-- The item fits into the rest of the room.
abbrev pub FitsInRoom : BodyState → Item → Type 0
FitsInRoom held item = length (body_spelling held.items) + length (item_spelling item) ≤ held.room

-- The bytes spell an item that may follow these.
pub record IsNextItem (items : List Item) (bytes : List ℕ) : Type 0 where
  pub item : Item
  pub keeps : IsTrue (is_item anywhere (earlier_after_all items none_earlier) item)
  pub spelled : bytes ≡ item_spelling item

-- The item that the bytes spell was put after these.
abbrev pub PutsItem : (bytes : List ℕ) → (old new : BodyState) → Type 0
PutsItem bytes old new = (item : Item) → IsTrue (is_item anywhere (earlier_after_all old.items none_earlier) item) → bytes ≡ item_spelling item → new ≡ with_item item old

-- ---- bytes of a body that is read

-- The bytes are the items of a group, all of them.
pub record IsBody (bytes : List ℕ) : Type 0 where
  pub keep : AreItems anywhere (items_of bytes)
  pub spelled : bytes ≡ body_spelling (items_of bytes)

-- The bytes begin with an item.
pub record BeginsWithItem (bytes : List ℕ) : Type 0 where
  pub earlier : Earlier
  pub item : Item
  pub rest : List ℕ
  pub keeps : IsTrue (is_item anywhere earlier item)
  pub parts : bytes ≡ item_spelling item ++ rest

-- The same of a certain item.
pub record BeginsWith (bytes : List ℕ) (item : Item) : Type 0 where
  pub earlier : Earlier
  pub rest : List ℕ
  pub keeps : IsTrue (is_item anywhere earlier item)
  pub parts : bytes ≡ item_spelling item ++ rest

-- whether an item is an image of a track
abbrev pub draws : (device track : ℕ) → Item → Bool
draws device track (Image d x recs) = d == device && x == track
draws device track (Delta d x kind) = false
draws device track (Pair version row) = false
draws device track (Gone d) = false

-- what the items of a body say to those after them
abbrev pub earlier_of : List ℕ → Earlier
earlier_of bytes = earlier_after_all (items_of bytes) none_earlier

-- The first n bytes are all good items, and a bad one begins after them where they aren't all bytes.
pub record GoodFront (form : Form) (bytes : List ℕ) (n : ℕ) : Type 0 where
  pub within : n ≤ length bytes
  pub keep : AreItems form (items_of (take n bytes))
  pub spelled : take n bytes ≡ body_spelling (items_of (take n bytes))
  pub read : (place : ℕ) → items_at form place bytes ≡ record { good = items_of (take n bytes); bad = if n == length bytes then None else Some (place + n) }

-- The good items were taken, and the first bad place given.
pub record Takes (read : Items) (bad : Option ℕ) (old new : BodyState) : Type 0 where
  pub items : new ≡ record { items = read.good; room = old.room }
  pub bad_is : bad ≡ read.bad
