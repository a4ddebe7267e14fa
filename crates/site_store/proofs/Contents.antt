-- What deeds leave of the content of a track.
use Rattle.std.proofs.Common.{◌≡◌, inl, inr, ℕ, nat_eq, Bool, true, false, cond, ◌&&◌, List, [], ◌∷◌, Option, Some, refl, sym, ap, ◌∙◌}
use Rattle.std.specs.Prelude.{find, unwrap_or, if◌then◌else◌}
use Rattle.std.specs.List.{list_any}
use Rattle.std.proofs.lemmas.Bool.{and_parts, eq-eqb, eqb-true, or_cases, or_parts}
use Rattle.std.proofs.lemmas.List.Elements.{All-head, All-tail}
use Rattle.ckd_track.specs.declared.rec.Rec.{Rec}
use Rattle.ckd_track.specs.declared.write.Kind.{Kind}
use Rattle.ckd_track.specs.declared.write.Kind.TheVariants.{Update, Format, Whole}
use Rattle.ckd_track.specs.Effects.{apply}
use Rattle.pair_table.specs.declared.row.PairRow.{PairRow}
use Rattle.pair_table.specs.Tables.{is_of}
use Rattle.pending_queue.specs.Entries.{WaitingEntry, is_whole}
use Rattle.image_former.specs.Changes.{changed_by, changed_through, changed_where}
use Rattle.image_former.specs.Entries.{is_device, is_entry_on, is_row_of, row_device}
use Rattle.image_former.proofs.Changing.{changed_none}
use Rattle.record_rows.specs.Deeds.{Deed, entries_by_deed, rows_by_deed}
use Rattle.site_store.specs.Deeds.{content_after, content_by_deed, kinds_of}
use Rattle.record_rows.specs.Deeds.Deed.{Logged, Changed, Marked}
use Rattle.site_store.specs.Exceptions.{is_whole_on}
use Rattle.site_store.specs.DeedLaws.{EntriesChangeTheirTracks, EntriesGoByRowsBefore, OnlyEntriesChangeContent}

-- ---- no entry

no_entries : (d x : ℕ) (rows : List PairRow) (deed : Deed) (old : Option (List Rec)) → entries_by_deed deed ≡ [] → content_by_deed d x rows deed old ≡ old
no_entries d x rows (Logged cut entries next) old none = ap (λ (es : List WaitingEntry). changed_through rows d x es (kinds_of es) old) none
no_entries d x rows (Changed time next) old none = refl
no_entries d x rows (Marked spot ended next) old none = refl

pub only_entries : OnlyEntriesChangeContent
only_entries d x rows [] old none = refl
only_entries d x rows (deed ∷ deeds) old none =
    ap (λ (r : Option (List Rec)). content_after d x (rows_by_deed deed) deeds r) (no_entries d x rows deed old (All-head (λ (e : Deed). entries_by_deed e ≡ []) deed deeds none))
    ∙ only_entries d x (rows_by_deed deed) deeds old (All-tail (λ (e : Deed). entries_by_deed e ≡ []) deed deeds none)

-- ---- one entry

by_on : (on : Bool) (new old : Option (List Rec)) → (if on then new else old) ≡ (if on then new else old)
by_on on new old = refl

pub own_track : EntriesChangeTheirTracks
own_track cut d x rows next entry old = by_on (is_entry_on rows d x entry) (Some (apply (unwrap_or old []) entry.kind)) old

-- ---- no row

other_device : (d e : ℕ) → nat_eq d e ≡ false → nat_eq e d ≡ false
other_device d e differ = by_test (nat_eq e d) refl
  where
    by_test : (b : Bool) → nat_eq e d ≡ b → nat_eq e d ≡ false
    by_test true is = absurd (cc (differ, eq-eqb d e (sym (eqb-true e d is))))
    by_test false is = is

found_elsewhere : (d : ℕ) (test : PairRow → Bool) (rows : List PairRow) → list_any (is_of d) rows ≡ false → is_device d (row_device (find test rows)) ≡ false
found_elsewhere d test [] none = refl
found_elsewhere d test (r ∷ rows) none =
    let parts = or_parts (nat_eq d r.device) (list_any (is_of d) rows) none in
    by_test (other_device d r.device parts.0) (found_elsewhere d test rows parts.1) (test r)
  where
    by_test : nat_eq r.device d ≡ false → is_device d (row_device (find test rows)) ≡ false → (b : Bool) → is_device d (row_device (cond b (Some r) (find test rows))) ≡ false
    by_test here later true = here
    by_test here later false = later

none_there : (d x : ℕ) (rows : List PairRow) (entries : List WaitingEntry) → list_any (is_of d) rows ≡ false → list_any (is_entry_on rows d x) entries ≡ false
none_there d x rows [] none = refl
none_there d x rows (e ∷ entries) none = rw (found_elsewhere d (is_row_of e.head) rows none) (none_there d x rows entries none)

pub rows_before : EntriesGoByRowsBefore
rows_before d x rows (Logged cut entries next) old none = changed_none (is_entry_on rows d x) entries (kinds_of entries) old (none_there d x rows entries none)
rows_before d x rows (Changed time next) old none = refl
rows_before d x rows (Marked spot ended next) old none = refl

-- ---- a whole image

-- An entry that is a whole image leaves the same of any two tracks.
same_by : (on : Bool) (kind : Kind) (old other : Option (List Rec)) → on ≡ true → is_whole kind ≡ true → changed_by on kind old ≡ changed_by on kind other
same_by true (Whole track) old other on whole = refl
same_by true (Update number bytes) old other on whole = absurd cc
same_by true (Format after recs) old other on whole = absurd cc
same_by false kind old other on whole = absurd cc

same_where : (on : WaitingEntry → Bool) (entries : List WaitingEntry) (old other : Option (List Rec)) → list_any (λ e. on e && is_whole e.kind) entries ≡ true
    → changed_where on entries (kinds_of entries) old ≡ changed_where on entries (kinds_of entries) other
same_where on [] old other whole = absurd cc
same_where on (e ∷ entries) old other whole = elim (or_cases (on e && is_whole e.kind) (list_any (λ f. on f && is_whole f.kind) entries) whole) [
  | inl here ↦
      let parts = and_parts (on e) (is_whole e.kind) here in
      ap (λ (t : Option (List Rec)). changed_where on entries (kinds_of entries) t) (same_by (on e) e.kind old other parts.0 parts.1)
  | inr later ↦ same_where on entries (changed_by (on e) e.kind old) (changed_by (on e) e.kind other) later
]

pub same_by_deed : (d x : ℕ) (rows : List PairRow) (deed : Deed) (old other : Option (List Rec)) → list_any (is_whole_on rows d x) (entries_by_deed deed) ≡ true → content_by_deed d x rows deed old ≡ content_by_deed d x rows deed other
same_by_deed d x rows (Logged cut entries next) old other whole = same_where (is_entry_on rows d x) entries old other whole
same_by_deed d x rows (Changed time next) old other whole = absurd cc
same_by_deed d x rows (Marked spot ended next) old other whole = absurd cc
