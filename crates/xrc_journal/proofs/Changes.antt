-- Changes of tracks: what one spells is read again, and what is read as one keeps the rules and was spelled so.
use Rattle.std.proofs.Common.{◌≡◌, ℕ, ◌+◌, ◌-◌, ◌^◌, ◌≤◌, Bool, true, false, cond, nat_eq, nat_le, ◌&&◌, List, [], ◌∷◌, ◌++◌, length, Ok, refl, sym, ap, subst, ◌∙◌, append_assoc, arith, length-append}
use Rattle.std.specs.List.{flat_map}
use Rattle.std.specs.Int.{w8, w16, to_be_bytes}
use Rattle.std.proofs.lemmas.Bool.{leb-true, le-leb, eqb-true, eqb-false}
use Rattle.tod_stamp.specs.Fields.{◌>>=◌, IsBytes, Left, bytes_at, number_at, within, any}
use Rattle.tod_stamp.proofs.FieldLaws.{at_place, bind_ok, Takes, Takes-then, wide8, wide16, number_again, number_takes, bytes_again, bytes_takes}
use Rattle.ckd_track.specs.declared.rec.Rec.{Rec}
use Rattle.ckd_track.specs.declared.write.Kind.{Kind}
use Rattle.ckd_track.specs.declared.write.Kind.TheVariants.{Update, Format, Whole}
use Rattle.ckd_track.specs.Tracks.{capacity, track_size, rises_above, are_records_above}
use Rattle.ckd_track.specs.Effects.{is_kind, longest_update}
use Rattle.ckd_track.specs.Entries.{tag_of, kind_spelling, delta_spelling, changes_part}
use Rattle.ckd_track.specs.Images.{record_spelling, records_at}
use Rattle.ckd_track.proofs.ImageLaws.{records_again, records_take}
use Rattle.xrc_journal.specs.Deltas.{as_body_field, body_format_at, change_at}
use Rattle.xrc_journal.proofs.Fields.{both_true, and_true, given_is, one_byte, byte_again, field_ok, after_takes}
use Rattle.ckd_track.specs.Fields.{update_at}

-- ---- read again

update_again : (place number : ℕ) (bytes rest : List ℕ) → is_kind (Update number bytes) ≡ true
    → update_at (at_place place (number ∷ (to_be_bytes w16 (length bytes) ++ (bytes ++ rest)))) ≡ Ok (Update number bytes, at_place (place + 1 + 2 + length bytes) rest)
unfolding update_at
update_again place number bytes rest ok =
    let parts = both_true (within 1 255 number) (nat_le (length bytes) longest_update) ok in
    let len_le = leb-true (length bytes) longest_update parts.1 in
    let one = byte_again (within 1 255) place number (to_be_bytes w16 (length bytes) ++ (bytes ++ rest)) parts.0 in
    let two = number_again w16 (2 ^ 16) wide16 (λ n. nat_le n longest_update) (place + 1) (length bytes) (bytes ++ rest) (omega (arith, len_le)) parts.1 in
    let three = bytes_again (length bytes) any (place + 1 + 2) bytes rest refl refl in
    rw (one, two, three) refl

records_back : (place low : ℕ) (recs : List Rec) (rest : List ℕ) → rises_above low recs ≡ true → nat_le (track_size recs) capacity ≡ true
    → as_body_field (at_place place (flat_map record_spelling recs ++ rest)) (records_at (length recs) place low capacity (flat_map record_spelling recs ++ rest)) ≡ Ok (recs, at_place (place + length (flat_map record_spelling recs)) rest)
records_back place low recs rest rises fits =
    let again = records_again place low capacity recs rest rises (leb-true (track_size recs) capacity fits) (omega arith) in
    let len : length (flat_map record_spelling recs ++ rest) - length rest ≡ length (flat_map record_spelling recs) = omega (arith, length-append (flat_map record_spelling recs) rest) in
    rw (again, len) refl

format_again : (place low : ℕ) (recs : List Rec) (rest : List ℕ) → is_kind (Format low recs) ≡ true
    → body_format_at (at_place place (low ∷ (length recs ∷ (flat_map record_spelling recs ++ rest)))) ≡ Ok (Format low recs, at_place (place + 1 + 1 + length (flat_map record_spelling recs)) rest)
unfolding body_format_at
format_again place low recs rest ok =
    let parts = both_true (nat_le low 255) (rises_above low recs && nat_le (track_size recs) capacity) ok in
    let are = both_true (rises_above low recs) (nat_le (track_size recs) capacity) parts.1 in
    let one = byte_again any place low (length recs ∷ (flat_map record_spelling recs ++ rest)) refl in
    let two = byte_again any (place + 1) (length recs) (flat_map record_spelling recs ++ rest) refl in
    let three = records_back (place + 1 + 1) low recs rest are.0 are.1 in
    rw (one, two, three) refl

-- a change after its tag
update_tagged : (place : ℕ) (fields : List ℕ) → change_at (at_place place (2 ∷ fields)) ≡ update_at (at_place (place + 1) fields)
unfolding change_at
update_tagged place fields = rw (byte_again (within 2 3) place 2 fields refl) refl

format_tagged : (place : ℕ) (fields : List ℕ) → change_at (at_place place (3 ∷ fields)) ≡ body_format_at (at_place (place + 1) fields)
unfolding change_at
format_tagged place fields = rw (byte_again (within 2 3) place 3 fields refl) refl

pub changes_again : (place : ℕ) (kind : Kind) (rest : List ℕ) → changes_part kind ≡ true → is_kind kind ≡ true → change_at (at_place place (delta_spelling kind ++ rest)) ≡ Ok (kind, at_place (place + length (delta_spelling kind)) rest)
changes_again place (Update number bytes) rest part ok =
    update_tagged place (kind_spelling (Update number bytes) ++ rest)
    ∙ ap (λ (t : List ℕ). update_at (at_place (place + 1) t)) (append_assoc (number ∷ [] ++ to_be_bytes w16 (length bytes)) bytes rest)
    ∙ update_again (place + 1) number bytes rest ok ∙ ap (λ n. Ok (Update number bytes, at_place n rest)) (omega arith)
changes_again place (Format low recs) rest part ok =
    format_tagged place (kind_spelling (Format low recs) ++ rest)
    ∙ format_again (place + 1) low recs rest ok ∙ ap (λ n. Ok (Format low recs, at_place n rest)) (omega arith)
changes_again place (Whole track) rest part ok = absurd cc

-- ---- what is read

-- what was read as a change with this tag
record KindTaken (tag : ℕ) (left : Left) (kind : Kind) (next : Left) : Type 0 where
  takes : Takes left (kind_spelling kind) next
  kept : is_kind kind ≡ true
  part : changes_part kind ≡ true
  tagged : tag_of kind ≡ tag

update_takes : (left : Left) (kind : Kind) (next : Left) → IsBytes left.bytes → update_at left ≡ Ok (kind, next) → KindTaken 2 left kind next
unfolding update_at
update_takes left kind next fits e =
    let one = bind_ok (number_at w8 (within 1 255) left) (λ n. number_at w16 (λ k. nat_le k longest_update) n.1 >>= (λ k. bytes_at k.0 any k.1 >>= (λ b. Ok (Update n.0 b.0, b.1)))) (kind, next) e in
    let number = number_takes w8 (2 ^ 8) wide8 (within 1 255) left one.0.0 one.0.1 fits one.1 in
    let two = bind_ok (number_at w16 (λ k. nat_le k longest_update) one.0.1) (λ k. bytes_at k.0 any k.1 >>= (λ b. Ok (Update one.0.0 b.0, b.1))) (kind, next) one.2 in
    let len = number_takes w16 (2 ^ 16) wide16 (λ k. nat_le k longest_update) one.0.1 two.0.0 two.0.1 number.takes.rest_bytes two.1 in
    let three = bind_ok (bytes_at two.0.0 any two.0.1) (λ b. Ok (Update one.0.0 b.0, b.1)) (kind, next) two.2 in
    let bytes = bytes_takes two.0.0 any two.0.1 three.0.0 three.0.1 len.takes.rest_bytes three.1 in
    let whole = Takes-then left (to_be_bytes w8 one.0.0 ++ to_be_bytes w16 two.0.0) two.0.1 three.0.0 three.0.1
    (Takes-then left (to_be_bytes w8 one.0.0) one.0.1 (to_be_bytes w16 two.0.0) two.0.1 number.takes len.takes) bytes.0 in
    let spelled : (to_be_bytes w8 one.0.0 ++ to_be_bytes w16 two.0.0) ++ three.0.0 ≡ kind_spelling (Update one.0.0 three.0.0) =
    ap (λ (t : List ℕ). (t ++ to_be_bytes w16 two.0.0) ++ three.0.0) (one_byte one.0.0 number.fits)
    ∙ ap (λ k. (one.0.0 ∷ [] ++ to_be_bytes w16 k) ++ three.0.0) (sym bytes.1) in
    subst (λ (p : Kind × Left). KindTaken 2 left p.0 p.1) (given_is (Update one.0.0 three.0.0, three.0.1) (kind, next) three.2) (record {
      takes = subst (λ (t : List ℕ). Takes left t three.0.1) spelled whole;
      kept = and_true (within 1 255 one.0.0) (nat_le (length three.0.0) longest_update) number.kept (subst (λ k. nat_le k longest_update ≡ true) (sym bytes.1) len.kept);
      part = refl;
      tagged = refl;
    })

format_takes : (left : Left) (kind : Kind) (next : Left) → IsBytes left.bytes → body_format_at left ≡ Ok (kind, next) → KindTaken 3 left kind next
unfolding body_format_at
format_takes left kind next fits e =
    let one = bind_ok (number_at w8 any left) (λ n. number_at w8 any n.1 >>= (λ k. as_body_field k.1 (records_at k.0 k.1.place n.0 capacity k.1.bytes) >>= (λ r. Ok (Format n.0 r.0, r.1)))) (kind, next) e in
    let low = number_takes w8 (2 ^ 8) wide8 any left one.0.0 one.0.1 fits one.1 in
    let two = bind_ok (number_at w8 any one.0.1) (λ k. as_body_field k.1 (records_at k.0 k.1.place one.0.0 capacity k.1.bytes) >>= (λ r. Ok (Format one.0.0 r.0, r.1))) (kind, next) one.2 in
    let count = number_takes w8 (2 ^ 8) wide8 any one.0.1 two.0.0 two.0.1 low.takes.rest_bytes two.1 in
    let three = bind_ok (as_body_field two.0.1 (records_at two.0.0 two.0.1.place one.0.0 capacity two.0.1.bytes)) (λ r. Ok (Format one.0.0 r.0, r.1)) (kind, next) two.2 in
    let recs = three.0.0 in
    let read = field_ok two.0.1 (records_at two.0.0 two.0.1.place one.0.0 capacity two.0.1.bytes) recs three.0.1 three.1 in
    let taken = records_take two.0.0 two.0.1.place one.0.0 capacity two.0.1.bytes recs read.0 count.takes.rest_bytes read.1 in
    let body = subst (λ (n : Left). Takes two.0.1 (flat_map record_spelling recs) n) read.2 (after_takes two.0.1 (flat_map record_spelling recs) read.0 count.takes.rest_bytes taken.parts) in
    let whole = Takes-then left (to_be_bytes w8 one.0.0 ++ to_be_bytes w8 two.0.0) two.0.1 (flat_map record_spelling recs) three.0.1
    (Takes-then left (to_be_bytes w8 one.0.0) one.0.1 (to_be_bytes w8 two.0.0) two.0.1 low.takes count.takes) body in
    let spelled : (to_be_bytes w8 one.0.0 ++ to_be_bytes w8 two.0.0) ++ flat_map record_spelling recs ≡ kind_spelling (Format one.0.0 recs) =
    ap (λ (t : List ℕ). (t ++ to_be_bytes w8 two.0.0) ++ flat_map record_spelling recs) (one_byte one.0.0 low.fits)
    ∙ ap (λ (t : List ℕ). (one.0.0 ∷ [] ++ t) ++ flat_map record_spelling recs) (one_byte two.0.0 count.fits)
    ∙ ap (λ k. one.0.0 ∷ k ∷ [] ++ flat_map record_spelling recs) (sym taken.number) in
    subst (λ (p : Kind × Left). KindTaken 3 left p.0 p.1) (given_is (Format one.0.0 recs, three.0.1) (kind, next) three.2) (record {
      takes = subst (λ (t : List ℕ). Takes left t three.0.1) spelled whole;
      kept = and_true (nat_le one.0.0 255) (are_records_above one.0.0 recs) (le-leb one.0.0 255 (omega (arith, low.fits)))
          (and_true (rises_above one.0.0 recs) (nat_le (track_size recs) capacity) taken.rises (le-leb (track_size recs) capacity taken.fits));
      part = refl;
      tagged = refl;
    })

-- what was read as a change
pub record ChangeTaken (left : Left) (kind : Kind) (next : Left) : Type 0 where
  pub takes : Takes left (delta_spelling kind) next
  pub kept : is_kind kind ≡ true
  pub part : changes_part kind ≡ true

pub change_takes : (left : Left) (kind : Kind) (next : Left) → IsBytes left.bytes → change_at left ≡ Ok (kind, next) → ChangeTaken left kind next
unfolding change_at
change_takes left kind next fits e =
    let one = bind_ok (number_at w8 (within 2 3) left) (λ t. cond (nat_eq t.0 2) (update_at t.1) (body_format_at t.1)) (kind, next) e in
    let tag = number_takes w8 (2 ^ 8) wide8 (within 2 3) left one.0.0 one.0.1 fits one.1 in
    let range = both_true (nat_le 2 one.0.0) (nat_le one.0.0 3) tag.kept in
    choose one.0.0 one.0.1 (nat_eq one.0.0 2) refl (leb-true 2 one.0.0 range.0) (leb-true one.0.0 3 range.1) (subst (λ (t : List ℕ). Takes left t one.0.1) (one_byte one.0.0 tag.fits) tag.takes) one.2
  where
    tagged : (tag : ℕ) (after : Left) → Takes left (tag ∷ []) after → KindTaken tag after kind next → ChangeTaken left kind next
    tagged tag after head k = record { takes = subst (λ n. Takes left (n ∷ kind_spelling kind) next) (sym k.tagged) (Takes-then left (tag ∷ []) after (kind_spelling kind) next head k.takes); kept = k.kept; part = k.part }

    choose : (tag : ℕ) (after : Left) (two : Bool) → nat_eq tag 2 ≡ two → 2 ≤ tag → tag ≤ 3 → Takes left (tag ∷ []) after → cond two (update_at after) (body_format_at after) ≡ Ok (kind, next) → ChangeTaken left kind next
    choose tag after true is from to head e = tagged tag after head (subst (λ k. KindTaken k after kind next) (sym (eqb-true tag 2 is)) (update_takes after kind next head.rest_bytes e))
    choose tag after false other from to head e =
        let three : 3 ≡ tag = omega (arith, from, to, eqb-false tag 2 other) in
        tagged tag after head (subst (λ k. KindTaken k after kind next) three (format_takes after kind next head.rest_bytes e))
