-- Links between the entries of a group that may be on one track.
use Rattle.std.specs.Prelude.{◌≡◌, ◌≢◌, ◌≤◌, ◌<◌, ◌+◌, ◌*◌, ◌%◌, ℕ, List, Option, Some, None, length, min, slice_get, slice_index_or}
use Rattle.pending_queue.specs.declared.head.EntryHead.{EntryHead}
use Rattle.image_former.specs.declared.links.TheConstants.{BUCKETS, LINKED}
use Rattle.image_former.specs.declared.links.Links.{Links}

-- A number below BUCKETS that the entries of a track share.
abbrev pub bucket_of : EntryHead → ℕ
bucket_of head = (head.track + 61 * head.volume + 67 * head.control) % BUCKETS

abbrev pub bucket_of_some : Option EntryHead → ℕ
bucket_of_some (Some head) = bucket_of head
bucket_of_some None = BUCKETS

-- that of the entry at a place
abbrev pub bucket_at : List EntryHead → (place : ℕ) → ℕ
bucket_at heads place = bucket_of_some (slice_get heads place)

abbrev pub linked_count : List EntryHead → ℕ
linked_count heads = min (length heads) LINKED

-- No entry from one place up to another is in the bucket.
abbrev pub NoneIn : List EntryHead → (from to bucket : ℕ) → Type 0
NoneIn heads from to bucket = (q : ℕ) → from ≤ q → q < to → bucket_at heads q ≢ bucket

-- The next entry of a bucket from a place on; the end of the linked entries where there is none.
pub record IsNextOfBucket (heads : List EntryHead) (from bucket next : ℕ) : Type 0 where
  pub low : from ≤ next
  pub high : next ≤ linked_count heads
  pub shares : next < linked_count heads → bucket_at heads next ≡ bucket
  pub none : NoneIn heads from next bucket

-- One more than the place of the last entry of a bucket before a place; 0 where there is none.
pub record IsLastOfBucket (heads : List EntryHead) (to bucket last : ℕ) : Type 0 where
  pub high : last ≤ to
  pub shares : (e : ℕ) → last ≡ e + 1 → bucket_at heads e ≡ bucket
  pub none : NoneIn heads last to bucket

-- Each linked entry leads to the next one of its bucket.
pub record AreLinkedForth (heads : List EntryHead) (forth : List ℕ) : Type 0 where
  pub size : length forth ≡ LINKED
  pub each : (p : ℕ) → p < linked_count heads → IsNextOfBucket heads (p + 1) (bucket_at heads p) (slice_index_or forth p 0)

-- Each linked entry leads to the last one of its bucket before it.
pub record AreLinkedBack (heads : List EntryHead) (back : List ℕ) : Type 0 where
  pub size : length back ≡ LINKED
  pub each : (p : ℕ) → p < linked_count heads → IsLastOfBucket heads p (bucket_at heads p) (slice_index_or back p 0)

-- Where to look next for an entry of the track of the one at a place: among the linked entries at the next one of its bucket, after
-- them at the next one.
pub record LeadsForth (heads : List EntryHead) (place next : ℕ) : Type 0 where
  pub rises : place < next
  pub within : next ≤ length heads
  pub none : NoneIn heads (place + 1) next (bucket_at heads place)
  pub shares : next < linked_count heads → bucket_at heads next ≡ bucket_at heads place
  pub one_on : linked_count heads ≤ place → next ≡ place + 1

-- The same before it.
abbrev pub LeadsBack : List EntryHead → (place : ℕ) → Option ℕ → Type 0
LeadsBack heads place None = NoneIn heads 0 place (bucket_at heads place)
LeadsBack heads place (Some e) = (e < place) × (bucket_at heads e ≡ bucket_at heads place) × NoneIn heads (e + 1) place (bucket_at heads place)

-- The links of a group are those of its heads.
pub record AreEntriesLinked (heads : List EntryHead) (links : Links) : Type 0 where
  pub forth : AreLinkedForth heads links.forth
  pub back : AreLinkedBack heads links.back
