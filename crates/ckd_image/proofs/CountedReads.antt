-- A record with its count field: what is read was spelled so, and what is spelled is read again.
use Rattle.std.proofs.Common.{◌≡◌, ℕ, suc, ◌+◌, ◌-◌, ◌<◌, ◌≤◌, Bool, true, false, cond, nat_lt, nat_le, ◌&&◌, List, [], ◌∷◌, ◌++◌, length, take, drop, Result, Ok, Err, refl, sym, ap, subst, ◌∙◌, append_assoc, arith, length-append, length-drop}
use Rattle.std.specs.Prelude.{not}
use Rattle.std.specs.List.{flat_map}
use Rattle.std.proofs.lemmas.Bool.{le-ltb, le-leb, ltb-false}
use Rattle.std.proofs.lemmas.List.{append-nil, drop_at}
use Rattle.std.proofs.lemmas.List.Sums.{sum_by-cons}
use Rattle.tod_stamp.specs.Fields.{◌>>=◌, IsBytes, within}
use Rattle.tod_stamp.proofs.FieldLaws.{IsBytes-drop, bind_ok, guard_ok}
use Rattle.ckd_track.specs.declared.fault.ImageError.{ImageError}
use Rattle.ckd_track.specs.declared.rec.Rec.{Rec}
use Rattle.ckd_track.specs.Tracks.{record_size, track_size, capacity, rises_above}
use Rattle.ckd_track.specs.Images.{record_spelling, record_at, records_at}
use Rattle.ckd_track.proofs.ImageLaws.{record_takes, records_again, records_take}
use Rattle.ckd_track.proofs.TrackLaws.{and_true}
use Rattle.ckd_image.specs.declared.layout.TheConstants.{COUNT_LENGTH}
use Rattle.ckd_image.specs.declared.fault.TrackFault.{TrackFault}
use Rattle.ckd_image.specs.declared.fault.TrackFault.TheVariants.{Misplaced, Unended}
use Rattle.ckd_image.specs.ImageTracks.{count_place, counted_record, counted_at, begins_with, placed_in_track}
use Rattle.ckd_image.proofs.Fronts.{begins_is, begins_again, not_false}

-- ---- one record of a row of one

same_row : (a b : List Rec × List ℕ) → (let x : Result (List Rec × List ℕ) ImageError = Ok a in let y : Result (List Rec × List ℕ) ImageError = Ok b in x ≡ y) → a ≡ b
same_row a b e = cc

pub record IsOne (last : ℕ) (bytes : List ℕ) (recs : List Rec) (rest : List ℕ) : Type 0 where
  pub rec : Rec
  pub row : recs ≡ rec ∷ []
  pub read : record_at 0 last capacity bytes ≡ Ok (rec, rest)

pub one_read : (last : ℕ) (bytes : List ℕ) (recs : List Rec) (rest : List ℕ) → records_at 1 0 last capacity bytes ≡ Ok (recs, rest) → IsOne last bytes recs rest
unfolding records_at
one_read last bytes recs rest e =
    let first = bind_ok (record_at 0 last capacity bytes) (λ f. records_at 0 (0 + length (record_spelling f.0)) f.0.number (capacity - record_size f.0) f.1 >>= (λ o. Ok (f.0 ∷ o.0, o.1))) (recs, rest) e in
    let same = same_row (first.0.0 ∷ [], first.0.1) (recs, rest) first.2 in
    record {
      rec = first.0.0;
      row = sym (ap (λ (p : List Rec × List ℕ). p.0) same);
      read = first.1 ∙ ap (λ (t : List ℕ). Ok (first.0.0, t)) (ap (λ (p : List Rec × List ℕ). p.1) same);
    }

failed : (r : Result (Rec × List ℕ) ImageError) (f : Rec × List ℕ → Result (List Rec × List ℕ) ImageError) (error : ImageError) → ((x : Rec × List ℕ) → f x ≡ Err error → ⊥) → (r >>= f) ≡ Err error → r ≡ Err error
failed (Ok x) f error none e = absurd (none x e)
failed (Err d) f error none e = cc

row_is_no_error : (row : List Rec × List ℕ) (error : ImageError) → (let x : Result (List Rec × List ℕ) ImageError = Ok row in let y : Result (List Rec × List ℕ) ImageError = Err error in x ≡ y) → ⊥
row_is_no_error row error e = cc

pub none_read : (last : ℕ) (bytes : List ℕ) (error : ImageError) → records_at 1 0 last capacity bytes ≡ Err error → record_at 0 last capacity bytes ≡ Err error
unfolding records_at
none_read last bytes error e = failed (record_at 0 last capacity bytes) (λ f. records_at 0 (0 + length (record_spelling f.0)) f.0.number (capacity - record_size f.0) f.1 >>= (λ o. Ok (f.0 ∷ o.0, o.1))) error
    (λ f g. row_is_no_error (f.0 ∷ [], f.1) error g) e

-- how many bytes the record took
pub record OneIsThere (last n : ℕ) (bytes : List ℕ) (recs : List Rec) : Type 0 where
  pub rec : Rec
  pub row : recs ≡ rec ∷ []
  pub read : record_at 0 last capacity bytes ≡ Ok (rec, drop n bytes)
  pub within : n ≤ length bytes

pub one_is_there : (last n : ℕ) (bytes : List ℕ) (recs : List Rec) → IsBytes bytes → records_at 1 0 last capacity bytes ≡ Ok (recs, drop n bytes) → n ≡ length (flat_map record_spelling recs)
    → OneIsThere last n bytes recs
one_is_there last n bytes recs fits e size =
    let one = one_read last bytes recs (drop n bytes) e in
    let taken = records_take 1 0 last capacity bytes recs (drop n bytes) fits e in
    record {
      rec = one.rec;
      row = one.row;
      read = one.read;
      within = omega (arith, size, ap length taken.parts, length-append (flat_map record_spelling recs) (drop n bytes), length-drop n bytes);
    }

-- ---- what is read was spelled so

placed_ok : {X : Type 0} (place : ℕ) (r : Result X ImageError) (x : X) → placed_in_track place r ≡ Ok x → r ≡ Ok x
placed_ok place (Ok y) x e = cc
placed_ok place (Err d) x e = absurd cc

pub record CountedTaken (track last : ℕ) (bytes : List ℕ) (rec : Rec) (rest : List ℕ) : Type 0 where
  pub parts : bytes ≡ counted_record track rec ++ rest
  pub above : last < rec.number
  pub rest_bytes : IsBytes rest

pub counted_taken : (track place last : ℕ) (bytes : List ℕ) (rec : Rec) (rest : List ℕ) → IsBytes bytes → counted_at track place last bytes ≡ Ok (rec, rest) → CountedTaken track last bytes rec rest
unfolding counted_at
counted_taken track place last bytes rec rest fits e =
    let read = placed_in_track place (record_at 0 last capacity (drop 4 bytes)) in
    let one = guard_ok (nat_lt (length bytes) COUNT_LENGTH) (Unended place) (cond (not (begins_with (count_place track) bytes)) (Err (Misplaced place)) read) (rec, rest) e in
    let two = guard_ok (not (begins_with (count_place track) bytes)) (Misplaced place) read (rec, rest) one.1 in
    let begins = begins_is (count_place track) bytes (not_false (begins_with (count_place track) bytes) two.0) in
    let taken = record_takes 0 last capacity (drop 4 bytes) rec rest (IsBytes-drop 4 bytes fits) (placed_ok place (record_at 0 last capacity (drop 4 bytes)) (rec, rest) two.1) in
    record {
      parts = begins ∙ ap (λ (t : List ℕ). count_place track ++ t) taken.parts ∙ sym (append_assoc (count_place track) (record_spelling rec) rest);
      above = taken.above;
      rest_bytes = taken.rest_bytes;
    }

-- ---- what is spelled is read again

pub record MayBeRead (last : ℕ) (rec : Rec) : Type 0 where
  pub above : last < rec.number
  pub number : rec.number ≤ 255
  pub key : length rec.key ≤ 255
  pub fits : record_size rec ≤ capacity

alone_rises : (last : ℕ) (rec : Rec) → MayBeRead last rec → rises_above last (rec ∷ []) ≡ true
alone_rises last rec may =
    and_true (within (last + 1) 255 rec.number && nat_le (length rec.key) 255) true
    (and_true (within (last + 1) 255 rec.number) (nat_le (length rec.key) 255)
    (and_true (nat_le (last + 1) rec.number) (nat_le rec.number 255) (le-leb (last + 1) rec.number (omega (arith, may.above))) (le-leb rec.number 255 may.number))
    (le-leb (length rec.key) 255 may.key))
    refl

pub same_first : (a b : Rec) → a ∷ [] ≡ b ∷ [] → a ≡ b
same_first a b e = cc

record_again : (last : ℕ) (rec : Rec) (rest : List ℕ) → MayBeRead last rec → record_at 0 last capacity (record_spelling rec ++ rest) ≡ Ok (rec, rest)
record_again last rec rest may =
    let row : flat_map record_spelling (rec ∷ []) ≡ record_spelling rec = append-nil (record_spelling rec) in
    let again : records_at 1 0 last capacity (record_spelling rec ++ rest) ≡ Ok (rec ∷ [], rest) =
    ap (λ (t : List ℕ). records_at 1 0 last capacity (t ++ rest)) (sym row) ∙ records_again 0 last capacity (rec ∷ []) rest (alone_rises last rec may) (omega (arith, may.fits, sum_by-cons record_size rec [])) (omega arith) in
    let one = one_read last (record_spelling rec ++ rest) (rec ∷ []) rest again in
    one.read ∙ ap (λ (r : Rec). Ok (r, rest)) (sym (same_first rec one.rec one.row))

counted_by : (track place last : ℕ) (bytes : List ℕ) (read : Rec × List ℕ) → nat_lt (length bytes) COUNT_LENGTH ≡ false → begins_with (count_place track) bytes ≡ true
    → record_at 0 last capacity (drop 4 bytes) ≡ Ok read → counted_at track place last bytes ≡ Ok read
unfolding counted_at
counted_by track place last bytes read long begins is = rw (long, begins, is) refl

pub counted_again : (track place last : ℕ) (rec : Rec) (rest : List ℕ) → MayBeRead last rec → counted_at track place last (counted_record track rec ++ rest) ≡ Ok (rec, rest)
counted_again track place last rec rest may =
    let bytes = counted_record track rec ++ rest in
    let regrouped : bytes ≡ count_place track ++ (record_spelling rec ++ rest) = append_assoc (count_place track) (record_spelling rec) rest in
    let begins : begins_with (count_place track) bytes ≡ true = ap (begins_with (count_place track)) regrouped ∙ begins_again (count_place track) (record_spelling rec ++ rest) in
    let left : drop 4 bytes ≡ record_spelling rec ++ rest = ap (drop 4) regrouped ∙ drop_at (count_place track) (record_spelling rec ++ rest) 4 refl in
    counted_by track place last bytes (rec, rest) (le-ltb (length bytes) COUNT_LENGTH (omega arith)) begins (ap (record_at 0 last capacity) left ∙ record_again last rec rest may)

-- what is read, once the count field names the track
pub counted_is : (track place last : ℕ) (bytes : List ℕ) → nat_lt (length bytes) COUNT_LENGTH ≡ false → begins_with (count_place track) bytes ≡ true
    → counted_at track place last bytes ≡ placed_in_track place (record_at 0 last capacity (drop 4 bytes))
unfolding counted_at
counted_is track place last bytes long begins = rw (long, begins) refl
