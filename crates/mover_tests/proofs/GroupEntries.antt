-- Entries of rows, in tests.
use Rattle.std.proofs.Common.{◌≡◌, ◌+◌, ◌*◌, ◌<◌, ℕ, List, take, Option, Some, sym, subst}
use Rattle.std.specs.Prelude.{slice_get, map, find, IsSomeAnd}
use Rattle.std.specs.List.{All}
use Rattle.std.proofs.lemmas.List.Elements.{All-more}
use Rattle.std.proofs.lemmas.Option.{slice_get_within, get_or_from_slice_get}
use Rattle.pair_table.specs.declared.row.PairRow.{PairRow}
use Rattle.pending_queue.specs.declared.head.EntryHead.{EntryHead}
use Rattle.pending_queue.specs.Entries.{WaitingEntry}
use Rattle.image_former.specs.Entries.{is_row_of}
use Rattle.image_former.proofs.Entries.{head_in, entry_there}
use Rattle.site_store.specs.Logging.{IsOfSomeRow}

-- What all heads have, all entries have.
heads_more : (P : EntryHead → Type 0) (entries : List WaitingEntry) (i : ℕ) (h : EntryHead) → slice_get (map head_in entries) i ≡ Some h → P h
    → All (λ (e : WaitingEntry). P e.head) (take i entries) → All (λ (e : WaitingEntry). P e.head) (take (i + 1) entries)
heads_more P entries i h shown has before =
    let t = entry_there entries i h shown in
    let own : P t.entry.head = subst P (sym t.head) has in
    All-more (λ (e : WaitingEntry). P e.head) entries i t.entry (slice_get_within entries i t.entry t.there) before
    (subst (λ (e : WaitingEntry). P e.head) (sym (get_or_from_slice_get entries i t.entry t.entry t.there)) own)

-- one entry more
pub rows_more : (rows : List PairRow) (entries : List WaitingEntry) (i : ℕ) (h : EntryHead) (row : PairRow) → slice_get (map head_in entries) i ≡ Some h → Some row ≡ find (is_row_of h) rows → h.track < row.cylinders * 15
    → All (IsOfSomeRow rows) (take i entries) → All (IsOfSomeRow rows) (take (i + 1) entries)
rows_more rows entries i h row shown found low before =
    heads_more (λ (g : EntryHead). IsSomeAnd (find (is_row_of g) rows) (λ r. g.track < r.cylinders * 15)) entries i h shown (subst (λ (o : Option PairRow). IsSomeAnd o (λ r. h.track < r.cylinders * 15)) found low) before
