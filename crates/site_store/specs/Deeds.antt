-- What deeds do, one after another, to what the devices of a site mean and to the content of tracks.
use Rattle.std.specs.Prelude.{ℕ, List, [], ◌∷◌, map, Bool, Option}
use Rattle.ckd_track.specs.declared.rec.Rec.{Rec}
use Rattle.ckd_track.specs.declared.write.Kind.{Kind}
use Rattle.crash_plant.specs.declared.spot.Spot.{Spot}
use Rattle.pair_table.specs.declared.row.PairRow.{PairRow}
use Rattle.pair_table.specs.Tables.{with_rows}
use Rattle.pending_queue.specs.Entries.{WaitingEntry}
use Rattle.image_former.specs.Changes.{changed_through}
use Rattle.record_rows.specs.Deeds.{Deed, rows_by_deed}
use Rattle.record_rows.specs.Deeds.Deed.{Logged, Changed, Marked}
use Rattle.site_means.specs.declared.means.Means.{Means}

-- ---- one deed

-- a meaning with another time and other rows, and one from a mark with these rows
abbrev pub with_time_and_rows : (time : ℕ) → List PairRow → Means → Means
with_time_and_rows time rows means = record means { time = record { 0 = time }; table = with_rows means.table rows }

abbrev pub from_mark : Spot → (ended : Bool) → List PairRow → Means → Means
from_mark spot ended rows means = record means { from = spot; ended = ended; table = with_rows means.table rows }

abbrev pub means_by_deed : Means → Deed → Means
means_by_deed means (Logged cut entries rows) = with_time_and_rows cut rows means
means_by_deed means (Changed time rows) = with_time_and_rows time rows means
means_by_deed means (Marked spot ended rows) = from_mark spot ended rows means

-- what each entry does to its track
abbrev pub kinds_of : List WaitingEntry → List Kind
kinds_of entries = map (λ entry. entry.kind) entries

-- What a deed leaves of a device's track, where these are the rows before it. They name the device of an entry: a row that the
-- group itself suspends had its device when the entry was formed.
abbrev pub content_by_deed : (device track : ℕ) → List PairRow → Deed → Option (List Rec) → Option (List Rec)
content_by_deed device track rows (Logged cut entries next) old = changed_through rows device track entries (kinds_of entries) old
content_by_deed device track rows (Changed time next) old = old
content_by_deed device track rows (Marked spot ended next) old = old

-- ---- deeds one after another

abbrev pub means_after : List Deed → Means → Means
means_after [] means = means
means_after (deed ∷ deeds) means = means_after deeds (means_by_deed means deed)

abbrev pub content_after : (device track : ℕ) → List PairRow → List Deed → Option (List Rec) → Option (List Rec)
content_after device track rows [] old = old
content_after device track rows (deed ∷ deeds) old = content_after device track (rows_by_deed deed) deeds (content_by_deed device track rows deed old)
