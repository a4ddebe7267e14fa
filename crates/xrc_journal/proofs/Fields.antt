-- Steps that the readers of items and of records share.
use Rattle.std.proofs.Common.{◌≡◌, ℕ, ◌+◌, ◌-◌, ◌<◌, Bool, true, false, nat_lt, ◌&&◌, List, [], ◌∷◌, ◌++◌, length, Option, Some, None, Result, Ok, Err, refl, ap, subst, arith, length-append}
use Rattle.std.specs.Int.{w8, to_be_bytes}
use Rattle.std.proofs.lemmas.Bool.{le-ltb}
use Rattle.std.proofs.lemmas.List.{take_at, drop_at}
use Rattle.tod_stamp.specs.Fields.{IsBytes, Left, Bad, number_at}
use Rattle.tod_stamp.proofs.FieldLaws.{IsBytes-drop, IsBytes-take, Takes, at_place}
use Rattle.ckd_track.specs.declared.rec.Rec.{Rec}
use Rattle.ckd_track.specs.declared.fault.ImageError.{ImageError}
use Rattle.ckd_track.specs.Tracks.{is_track}
use Rattle.ckd_track.specs.Images.{image, image_at}
use Rattle.ckd_track.proofs.ImageLaws.{image_again, image_taken}
use Rattle.pair_table.specs.declared.row.PairRow.{PairRow}
use Rattle.xrc_journal.specs.Deltas.{as_body_field}
use Rattle.xrc_journal.specs.Reading.{body_image_field, row_or}

pub both_true : (a b : Bool) → (a && b) ≡ true → (a ≡ true) × (b ≡ true)
both_true true b e = (refl, e)
both_true false b e = absurd cc

pub and_true : (a b : Bool) → a ≡ true → b ≡ true → (a && b) ≡ true
and_true true b e f = f
and_true false b e f = absurd cc

-- the value that a reader gave
pub given_is : {A : Type 0} (a b : A) → (let x : Result A Bad = Ok a in let y : Result A Bad = Ok b in x ≡ y) → a ≡ b
given_is a b e = cc

pub some_is : {A : Type 0} (a b : A) → (let x : Option A = Some a in let y : Option A = Some b in x ≡ y) → a ≡ b
some_is a b e = cc

pub one_byte : (n : ℕ) → n < 256 → to_be_bytes w8 n ≡ n ∷ []
one_byte n lt = ap (λ k. k ∷ []) (omega (arith, lt))

pub byte_again : (rule : ℕ → Bool) (place n : ℕ) (rest : List ℕ) → rule n ≡ true → number_at w8 rule (at_place place (n ∷ rest)) ≡ Ok (n, at_place (place + 1) rest)
unfolding number_at
byte_again rule place n rest kept =
    let long : nat_lt (length (n ∷ rest)) 1 ≡ false = le-ltb _ _ (omega arith) in
    rw (long, kept) refl

pub IsBytes-rest : (front rest : List ℕ) → IsBytes (front ++ rest) → IsBytes rest
IsBytes-rest front rest fits = subst (λ (t : List ℕ). IsBytes t) (drop_at front rest (length front) refl) (IsBytes-drop (length front) (front ++ rest) fits)

pub IsBytes-front : (front rest : List ℕ) → IsBytes (front ++ rest) → IsBytes front
IsBytes-front front rest fits = subst (λ (t : List ℕ). IsBytes t) (take_at front rest (length front) refl) (IsBytes-take (length front) (front ++ rest) fits)

-- ---- images

-- what is left after so many bytes
abbrev pub after_these : Left → List ℕ → Left
after_these left rest = record { place = left.place + (length left.bytes - length rest); bytes = rest }

pub image_back : (place : ℕ) (track : List Rec) (rest : List ℕ) → is_track track ≡ true → body_image_field (at_place place (image track ++ rest)) ≡ Ok (track, at_place (place + length (image track)) rest)
image_back place track rest ok =
    let again = image_again track rest ok in
    let len : length (image track ++ rest) - length rest ≡ length (image track) = omega (arith, length-append (image track) rest) in
    rw (again, len) refl

pub field_ok : (left : Left) (read : Result (List Rec × List ℕ) ImageError) (recs : List Rec) (next : Left) → as_body_field left read ≡ Ok (recs, next)
    → (rest : List ℕ) × (read ≡ Ok (recs, rest)) × (after_these left rest ≡ next)
field_ok left (Ok found) recs next e =
    let is = given_is (found.0, after_these left found.1) (recs, next) e in
    (found.1, ap (λ (t : List Rec). Ok (t, found.1)) (ap (λ (p : List Rec × Left). p.0) is), ap (λ (p : List Rec × Left). p.1) is)
field_ok left (Err bad) recs next e = absurd cc

pub after_takes : (left : Left) (text rest : List ℕ) → IsBytes left.bytes → left.bytes ≡ text ++ rest → Takes left text (after_these left rest)
after_takes left text rest fits e = record {
  parts = e;
  place = omega (arith, ap length e, length-append text rest);
  rest_bytes = IsBytes-rest text rest (subst (λ (t : List ℕ). IsBytes t) e fits);
}

pub image_takes : (left : Left) (track : List Rec) (next : Left) → IsBytes left.bytes → body_image_field left ≡ Ok (track, next)
    → Takes left (image track) next × (is_track track ≡ true)
image_takes left track next fits e =
    let read = field_ok left (image_at left.bytes) track next e in
    let taken = image_taken left.bytes read.0 track fits read.1 in
    (subst (λ (n : Left). Takes left (image track) n) read.2 (after_takes left (image track) read.0 fits taken.1), taken.0)

-- ---- rows

pub row_given : (left : Left) (read : Option PairRow) (row : PairRow) → row_or left read ≡ Ok row → read ≡ Some row
row_given left (Some found) row e = ap (λ (r : PairRow). Some r) (given_is found row e)
row_given left None row e = absurd cc
