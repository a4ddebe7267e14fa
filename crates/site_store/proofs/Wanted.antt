-- The devices of entries, one entry after another.
use Rattle.std.proofs.Common.{◌≡◌, inl, inr, ℕ, ◌+◌, ◌<◌, ◌==◌, ◌||◌, Bool, true, false, List, [], ◌∷◌, length, set, take, map, get_or, Option, Some, None, refl, sym, ap, subst, ◌∙◌, eq-eqb}
use Rattle.std.specs.Prelude.{IsSome, IsSomeAnd, find, slice_get}
use Rattle.std.specs.List.{All, list_any}
use Rattle.std.proofs.lemmas.Bool.{cases_eq, ne_eqb}
use Rattle.std.proofs.lemmas.Option.{slice_get_within, get_or_from_slice_get}
use Rattle.std.proofs.lemmas.List.{get_or-set_other, get_or-set_same}
use Rattle.pair_table.specs.declared.row.PairRow.{PairRow}
use Rattle.pending_queue.specs.declared.head.EntryHead.{EntryHead}
use Rattle.pending_queue.specs.Entries.{WaitingEntry}
use Rattle.image_former.specs.Entries.{entry_device, is_device, is_row_of, row_device}
use Rattle.image_former.proofs.Entries.{entry_there, head_in}
use Rattle.image_former.proofs.Lists.{any_more}
use Rattle.site_store.specs.Logging.{is_entry_of_device}

-- One flag more is set.
flag_set : (flags : List Bool) (i d : ℕ) → i < length flags → get_or (set flags i true) d false ≡ (get_or flags d false || (i == d))
flag_set flags i d within = elim (cases_eq i d) [
  | inl same ↦ (λ k. get_or (set flags i true) (sym same k) false) ∙ get_or-set_same flags i true false within ∙ sym (or_true (get_or flags d false)) ∙ ap (λ (b : Bool). get_or flags d false || b) (sym (eq-eqb i d same))
  | inr other ↦ get_or-set_other flags i d true false (λ is. other (sym is)) ∙ sym (or_false (get_or flags d false)) ∙ ap (λ (b : Bool). get_or flags d false || b) (sym (ne_eqb i d other))
]
  where
    or_true : (b : Bool) → (b || true) ≡ true
    or_true true = λ k. true
    or_true false = λ k. true

    or_false : (b : Bool) → (b || false) ≡ b
    or_false true = λ k. true
    or_false false = λ k. false

-- An entry whose device is known has a row.
pub some_row : (o : Option PairRow) (P : ℕ → Type 0) → IsSomeAnd (row_device o) P → IsSome o
some_row (Some row) P is = λ k. true
some_row None P is = absurd is

-- The device of the next entry is set, too.
pub wanted_more : (rows : List PairRow) (entries : List WaitingEntry) (flags : List Bool) (i device : ℕ) (h : EntryHead) → slice_get (map head_in entries) i ≡ Some h → row_device (find (is_row_of h) rows) ≡ Some device → device < length flags
    → (d : ℕ) → get_or flags d false ≡ list_any (is_entry_of_device rows d) (take i entries) → get_or (set flags device true) d false ≡ list_any (is_entry_of_device rows d) (take (i + 1) entries)
wanted_more rows entries flags i device h there is within d before =
    let e = entry_there entries i h there in
    let on : is_entry_of_device rows d e.entry ≡ (device == d) = ap (is_device d) (ap (λ (k : EntryHead). row_device (find (is_row_of k) rows)) e.head ∙ is) in
    flag_set flags device d within ∙ (λ k. before k || sym on k) ∙ sym (any_more (is_entry_of_device rows d) entries i e.entry e.there)

-- What holds of the device of each entry holds of that of a head.
pub device_at : (rows : List PairRow) (entries : List WaitingEntry) (i : ℕ) (h : EntryHead) (P : ℕ → Type 0) → slice_get (map head_in entries) i ≡ Some h → All (λ entry. IsSomeAnd (entry_device rows entry) P) entries → IsSomeAnd (row_device (find (is_row_of h) rows)) P
device_at rows entries i h P there all =
    let e = entry_there entries i h there in
    let within = slice_get_within entries i e.entry e.there in
    let at = get_or_from_slice_get entries i e.entry e.entry e.there in
    subst (λ (k : EntryHead). IsSomeAnd (row_device (find (is_row_of k) rows)) P) e.head (subst (λ (w : WaitingEntry). IsSomeAnd (entry_device rows w) P) at (all i e.entry within))

-- Before the first entry none is.
pub none_first : (test : WaitingEntry → Bool) (entries : List WaitingEntry) → list_any test (take 0 entries) ≡ false
none_first test [] = refl
none_first test (e ∷ entries) = refl
