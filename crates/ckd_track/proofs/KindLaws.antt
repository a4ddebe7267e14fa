-- The fields of a kind, taken apart as Slot::apply_fields does it.
use Rattle.std.proofs.Common.{◌≡◌, ℕ, ◌≤◌, List, [], ◌∷◌, true, nat_le, sym, ap, subst, ◌∙◌, length, take, drop, arith}
use Rattle.std.specs.Prelude.{slice_index, IsTrue}
use Rattle.std.specs.List.{flat_map}
use Rattle.std.proofs.lemmas.Bool.{leb-true}
use Rattle.std.proofs.lemmas.List.{append-nil, get_or-take}
use Rattle.ckd_track.specs.declared.rec.Rec.{Rec}
use Rattle.ckd_track.specs.Tracks.{track_size, capacity, rises_above, are_records_above, IsTrack}
use Rattle.ckd_track.specs.Effects.{keeps_rules, is_kind, apply, formatted, longest_update}
use Rattle.ckd_track.specs.declared.write.Kind.{Kind}
use Rattle.ckd_track.specs.declared.write.Kind.TheVariants.{Update, Format, Whole}
use Rattle.ckd_track.specs.declared.write.Write.{Write}
use Rattle.ckd_track.specs.Images.{record_spelling, longest_image}
use Rattle.ckd_track.proofs.ImageLaws.{both_true}
use Rattle.ckd_track.proofs.TrackLaws.{and_true}
use Rattle.ckd_track.proofs.ImageLaws.{records_again}
use Rattle.ckd_track.specs.Entries.{tag_of, kind_spelling, queue_form}
use Rattle.ckd_track.specs.Slots.{IsImage, SpellsRecords, spelled_records, records_of, track_of_image}
use Rattle.ckd_track.proofs.Parts.{image_is_image, track_of-image, length-image}
use Rattle.ckd_track.proofs.FrontLaws.{rises_lower}
use Rattle.ckd_track.proofs.RowLaws.{above_is_track}
use Rattle.tod_stamp.specs.Fields.{within}

-- what the fields of a Format are
pub record FormatFields (fields : List ℕ) : Type 0 where
  pub long : 2 ≤ length fields
  pub spelled : SpellsRecords (slice_index fields 1) (drop 2 fields)
  pub above : rises_above (slice_index fields 0) (spelled_records (slice_index fields 1) (drop 2 fields)) ≡ true

spelled_again : (after : ℕ) (recs : List Rec) → are_records_above after recs ≡ true → spelled_records (length recs) (flat_map record_spelling recs) ≡ recs
spelled_again after recs are =
    let parts = both_true (rises_above after recs) (nat_le (track_size recs) capacity) are in
    ap (λ (t : List ℕ). spelled_records (length recs) t) (sym (append-nil (flat_map record_spelling recs)))
    ∙ ap records_of (records_again 0 0 capacity recs [] (rises_lower 0 after recs (omega arith) parts.0) (leb-true (track_size recs) capacity parts.1) (omega arith))

kind_records : (after : ℕ) (recs : List Rec) → IsTrue (is_kind (Format after recs)) → are_records_above after recs ≡ true
kind_records after recs keeps = (both_true (nat_le after 255) (are_records_above after recs) keeps).1

format_of : (after : ℕ) (recs : List Rec) → are_records_above after recs ≡ true → FormatFields (after ∷ length recs ∷ flat_map record_spelling recs)
format_of after recs are =
    let parts = both_true (rises_above after recs) (nat_le (track_size recs) capacity) are in
    let again = spelled_again after recs are in
    record {
      long = omega arith;
      spelled = record {
        are_records = subst (λ (t : List Rec). IsTrack t) (sym again) (and_true (rises_above 0 recs) (nat_le (track_size recs) capacity) (rises_lower 0 after recs (omega arith) parts.0) parts.1);
        number = ap length again;
        spelled = ap (flat_map record_spelling) (sym again);
      };
      above = subst (λ (t : List Rec). rises_above after t ≡ true) (sym again) parts.0;
    }

pub format_fields : (fields : List ℕ) (kind : Kind) → IsTrue (is_kind kind) → 3 ≡ tag_of kind → fields ≡ kind_spelling kind → FormatFields fields
format_fields fields (Update number bytes) keeps tag e = absurd (omega (arith, tag))
format_fields fields (Format after recs) keeps tag e = subst FormatFields (sym e) (format_of after recs (kind_records after recs keeps))
format_fields fields (Whole track) keeps tag e = absurd (omega (arith, tag))

pub format_is : (fields : List ℕ) (kind : Kind) (old : List Rec) → IsTrue (is_kind kind) → 3 ≡ tag_of kind → fields ≡ kind_spelling kind
    → formatted (slice_index fields 0) (spelled_records (slice_index fields 1) (drop 2 fields)) old ≡ apply old kind
format_is fields (Update number bytes) old keeps tag e = absurd (omega (arith, tag))
format_is fields (Format after recs) old keeps tag e =
    ap (λ (f : List ℕ). formatted (slice_index f 0) (spelled_records (slice_index f 1) (drop 2 f)) old) e ∙ ap (λ (t : List Rec). formatted after t old) (spelled_again after recs (kind_records after recs keeps))
format_is fields (Whole track) old keeps tag e = absurd (omega (arith, tag))

pub whole_fields : (fields : List ℕ) (tag : ℕ) (kind : Kind) → (tag ≡ 2 → ⊥) → (tag ≡ 3 → ⊥) → IsTrue (is_kind kind) → tag ≡ tag_of kind → fields ≡ kind_spelling kind → IsImage fields
whole_fields fields tag (Update number bytes) two three keeps is e = absurd (two is)
whole_fields fields tag (Format after recs) two three keeps is e = absurd (three is)
whole_fields fields tag (Whole track) two three keeps is e = subst IsImage (sym e) (image_is_image track keeps)

pub whole_is : (fields : List ℕ) (tag : ℕ) (kind : Kind) (old : List Rec) → (tag ≡ 2 → ⊥) → (tag ≡ 3 → ⊥) → IsTrue (is_kind kind) → tag ≡ tag_of kind → fields ≡ kind_spelling kind → track_of_image fields ≡ apply old kind
whole_is fields tag (Update number bytes) old two three keeps is e = absurd (two is)
whole_is fields tag (Format after recs) old two three keeps is e = absurd (three is)
whole_is fields tag (Whole track) old two three keeps is e = ap track_of_image e ∙ track_of-image track keeps

-- the same with the first two bytes split off
pub format_split : (fields head given : List ℕ) → FormatFields fields → head ≡ take 2 fields → given ≡ drop 2 fields
    → (slice_index head 0 ≡ slice_index fields 0) × (slice_index head 1 ≡ slice_index fields 1) × SpellsRecords (slice_index head 1) given × (rises_above (slice_index head 0) (spelled_records (slice_index head 1) given) ≡ true)
format_split fields head given f head_is given_is =
    let zeroth : slice_index head 0 ≡ slice_index fields 0 = ap (λ (t : List ℕ). slice_index t 0) head_is ∙ get_or-take 2 fields 0 0 (omega arith) in
    let first : slice_index head 1 ≡ slice_index fields 1 = ap (λ (t : List ℕ). slice_index t 1) head_is ∙ get_or-take 2 fields 1 0 (omega arith) in
    (zeroth, first, rw (first, given_is) f.spelled, rw (zeroth, first, given_is) f.above)

-- a queue form, and a delta, split in front of the fields
pub form_split : (entry head fields : List ℕ) (write : Write) → head ≡ take 15 entry → fields ≡ drop 15 entry → entry ≡ queue_form write
    → (15 ≤ length entry) × (slice_index head 0 ≡ tag_of write.kind) × (fields ≡ kind_spelling write.kind)
form_split entry head fields write head_is fields_is e =
    (omega (arith, ap length e), ap (λ (t : List ℕ). slice_index t 0) (head_is ∙ ap (take 15) e), fields_is ∙ ap (drop 15) e)

pub delta_split : (bytes head fields : List ℕ) (kind : Kind) → head ≡ take 1 bytes → fields ≡ drop 1 bytes → bytes ≡ tag_of kind ∷ kind_spelling kind
    → (slice_index head 0 ≡ tag_of kind) × (fields ≡ kind_spelling kind)
delta_split bytes head fields kind head_is fields_is e = (ap (λ (t : List ℕ). slice_index t 0) (head_is ∙ ap (take 1) e), fields_is ∙ ap (drop 1) e)

pub form_long : (entry : List ℕ) (write : Write) → entry ≡ queue_form write → 15 ≤ length entry
form_long entry write e = omega (arith, ap length e)

-- ---- the rules of a kind

-- the records of a format stand above `after`
pub format_rules : (kind : Kind) (after : ℕ) (recs : List Rec) → IsTrue (keeps_rules kind) → kind ≡ Format after recs → are_records_above after recs ≡ true
format_rules kind after recs keeps is = (both_true (nat_le after 255) (are_records_above after recs) (subst (λ (k : Kind). IsTrue (keeps_rules k)) is keeps)).1

pub format_is_track : (kind : Kind) (after : ℕ) (recs : List Rec) → IsTrue (keeps_rules kind) → kind ≡ Format after recs → IsTrack recs
format_is_track kind after recs keeps is = above_is_track after recs (format_rules kind after recs keeps is)

-- the spelling of a track's records is short
pub short_records : (recs : List Rec) → IsTrack recs → length (flat_map record_spelling recs) ≤ 56660
short_records recs is = omega (arith, length-image recs is)

-- the fields of a kind are short
pub short_fields : (kind : Kind) → IsTrue (is_kind kind) → length (kind_spelling kind) ≤ longest_image
short_fields (Update number bytes) keeps =
    let parts = both_true (within 1 255 number) (nat_le (length bytes) longest_update) keeps in
    omega (arith, leb-true (length bytes) longest_update parts.1)
short_fields (Format after recs) keeps = omega (arith, short_records recs (above_is_track after recs (kind_records after recs keeps)))
short_fields (Whole track) keeps = length-image track keeps
