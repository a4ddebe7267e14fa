-- What deeds leave of a row's device is what they leave of what is held of its volume.
use Rattle.std.proofs.Common.{◌≡◌, ℕ, Bool, true, nat_eq, List, [], ◌∷◌, Option, refl, sym, ap, ◌∙◌}
use Rattle.std.proofs.lemmas.Bool.{and_from, eq-eqb}
use Rattle.ckd_track.specs.declared.rec.Rec.{Rec}
use Rattle.crash_plant.specs.Choices.{Choice}
use Rattle.crash_plant.specs.Moments.{PlantState}
use Rattle.pair_table.specs.declared.row.PairRow.{PairRow}
use Rattle.pair_table.specs.Tables.{none_clash}
use Rattle.pending_queue.specs.Entries.{WaitingEntry}
use Rattle.image_former.specs.Changes.{changed_by}
use Rattle.image_former.specs.Entries.{is_entry_on}
use Rattle.record_rows.specs.Deeds.{Deed, rows_by_deed, rows_after_deeds}
use Rattle.record_rows.specs.Deeds.Deed.{Logged, Changed, Marked}
use Rattle.site_means.specs.Sight.{content_of}
use Rattle.site_store.specs.Deeds.{content_after}
use Rattle.fed_logs.specs.ToldTracks.{HeldTracks, after_entries, held_after_group, names_track}
use Rattle.fed_logs.specs.Deeds.{held_after_deeds}
use Rattle.mover.specs.OwedTracks.{held_by_choice, held_of_row}
use Rattle.mover.proofs.Pairs.{Among, entries_on_still, entry_names, found_row, pairs_of}

-- Each deed leaves the pairs of the rows before it.
abbrev pub KeepPairs : List PairRow → List Deed → Type 0
KeepPairs rows [] = Unit {0}
KeepPairs rows (deed ∷ deeds) = (pairs_of (rows_by_deed deed) ≡ pairs_of rows) × KeepPairs (rows_by_deed deed) deeds

pub pairs_after : (rows : List PairRow) (deeds : List Deed) → KeepPairs rows deeds → pairs_of (rows_after_deeds deeds rows) ≡ pairs_of rows
pairs_after rows [] keep = refl
pairs_after rows (deed ∷ deeds) keep = pairs_after (rows_by_deed deed) deeds keep.1 ∙ keep.0

same_where : (f g : WaitingEntry → Bool) (entries : List WaitingEntry) (old : Option (List Rec)) → ((e : WaitingEntry) → f e ≡ g e) → after_entries f entries old ≡ after_entries g entries old
same_where f g [] old same = refl
same_where f g (e ∷ entries) old same = ap (λ (b : Bool). after_entries f entries (changed_by b e.kind old)) (same e) ∙ same_where f g entries (changed_by (g e) e.kind old) same

module _ (r : PairRow) (first : List PairRow) (apart : none_clash first ≡ true) (there : Among r first) (x : ℕ) where
  -- An entry is on the row's track exactly where it names it, by any rows of these pairs.
  on_by : (rows : List PairRow) → pairs_of rows ≡ pairs_of first → (e : WaitingEntry) → is_entry_on rows r.device x e ≡ names_track r.control r.volume x e
  on_by rows same e = entries_on_still first rows same r.device x e ∙ entry_names r first apart there x e

  content_is : (deeds : List Deed) (rows : List PairRow) (held : HeldTracks) → pairs_of rows ≡ pairs_of first → KeepPairs rows deeds → content_after r.device x rows deeds (held r.control r.volume x) ≡ held_after_deeds deeds held r.control r.volume x
  content_is [] rows held same keep = refl
  content_is (Logged cut entries next ∷ deeds) rows held same keep =
      ap (λ (o : Option (List Rec)). content_after r.device x next deeds o) (same_where (is_entry_on rows r.device x) (names_track r.control r.volume x) entries (held r.control r.volume x) (on_by rows same))
      ∙ content_is deeds next (held_after_group entries held) (keep.0 ∙ same) keep.1
  content_is (Changed time next ∷ deeds) rows held same keep = content_is deeds next held (keep.0 ∙ same) keep.1
  content_is (Marked spot ended next ∷ deeds) rows held same keep = content_is deeds next held (keep.0 ∙ same) keep.1

  -- What a choice holds of the row's track is the content of its device.
  pub held_is : (plant : PlantState) (c : Choice) → held_by_choice plant c first r.control r.volume x ≡ content_of plant c r.device x
  held_is plant c = ap (held_of_row plant c x) (found_row r.control r.volume r first apart there (and_from (nat_eq r.control r.control) (nat_eq r.volume r.volume) (eq-eqb r.control r.control refl) (eq-eqb r.volume r.volume refl)))

  pub content_after_is : (plant : PlantState) (c : Choice) (deeds : List Deed) → KeepPairs first deeds → content_after r.device x first deeds (content_of plant c r.device x) ≡ held_after_deeds deeds (held_by_choice plant c first) r.control r.volume x
  content_after_is plant c deeds keep = ap (λ (o : Option (List Rec)). content_after r.device x first deeds o) (sym (held_is plant c)) ∙ content_is deeds first (held_by_choice plant c first) refl keep
