-- What 21 bytes of a header say.
use Rattle.std.proofs.Common.{◌≡◌, ◌≢◌, sym, ℕ, ◌+◌, ◌-◌, ◌^◌, ◌<◌, ◌≤◌, Bool, true, false, cond, nat_eq, nat_lt, nat_le, ◌&&◌, List, length, slice_index, Option, Some, None, Result, Ok, Err, refl, ap, ◌∙◌, arith}
use Rattle.std.specs.Int.{w32, w64}
use Rattle.std.proofs.lemmas.Bool.{eq-eqb, ne_eqb, eqb-true, ltb-true}
use Rattle.tod_stamp.specs.Fields.{◌>>=◌, Left, Bad, within}
use Rattle.tod_stamp.proofs.FieldLaws.{at_place}
use Rattle.tod_stamp.specs.declared.stamp.Stamp.{Stamp}
use Rattle.crash_plant.specs.declared.spot.Spot.{Spot}
use Rattle.xrc_journal.specs.declared.header.RecordHeader.{RecordHeader}
use Rattle.xrc_journal.specs.declared.header.RecordHeader.TheVariants.{Group as GroupHeader, Switch as SwitchHeader}
use Rattle.xrc_journal.specs.Records.{RecordHead, is_body_length, record_head_at, most_body}
use Rattle.tod_stamp.specs.Fields.{u32_at, u64_at}
use Rattle.xrc_journal.specs.Answers.{header_of, keeps_header}
use Rattle.xrc_journal.proofs.Fields.{both_true}
use Rattle.xrc_journal.proofs.RecordsRead.{group_fits}
use Rattle.xrc_journal.proofs.Steps.{number_step, byte_step}

-- one field more, and the last
field : {A : Type 0} (r : Result A Bad) (b s : Bool) (x : A) (e : Bad) (then : A → Result (RecordHead × Left) Bad) (h : Option RecordHeader) → r ≡ cond b (Ok x) (Err e) → header_of (then x) ≡ cond s h None → header_of (r >>= then) ≡ cond (b && s) h None
field {A = A} r b s x e then h is next = ap (λ (q : Result A Bad). header_of (q >>= then)) is ∙ by_rule b
  where
    by_rule : (b : Bool) → header_of (cond b (Ok x) (Err e) >>= then) ≡ cond (b && s) h None
    by_rule true = next
    by_rule false = refl

last_field : {A : Type 0} (r : Result A Bad) (b : Bool) (x : A) (e : Bad) (then : A → Result (RecordHead × Left) Bad) (h : Option RecordHeader) → r ≡ cond b (Ok x) (Err e) → header_of (then x) ≡ h → header_of (r >>= then) ≡ cond b h None
last_field {A = A} r b x e then h is next = ap (λ (q : Result A Bad). header_of (q >>= then)) is ∙ by_rule b
  where
    by_rule : (b : Bool) → header_of (cond b (Ok x) (Err e) >>= then) ≡ cond b h None
    by_rule true = next
    by_rule false = refl

pub header_is : (size : ℕ) (at : Spot) (last p : ℕ) (bytes : List ℕ) → length bytes ≡ 21
    → header_of (record_head_at size at last (at_place p bytes)) ≡ cond (keeps_header size at last bytes) (header_of (Ok (record { kind = slice_index bytes 0; time = u64_at bytes 9; len = u32_at bytes 17 }, at_place p bytes))) None
unfolding record_head_at
header_is size at last p bytes len =
    field _ _ _ _ _ _ _ (byte_step (within 1 2) p 0 bytes (omega (arith, len)))
    (field _ _ _ _ _ _ _ (number_step w64 (λ n. nat_eq n at.number && nat_lt n (2 ^ 64 - 1)) (p + 1) 1 bytes (omega (arith, len)))
    (field _ _ _ _ _ _ _ (number_step w64 (nat_le last) (p + 1 + 8) 9 bytes (omega (arith, len)))
    (last_field _ _ _ _ _ _ (number_step w32 (is_body_length size at (slice_index bytes 0)) (p + 1 + 8 + 8) 17 bytes (omega (arith, len))) refl)))

module _ (size : ℕ) (at : Spot) (last p : ℕ) (bytes : List ℕ) (len : length bytes ≡ 21) where
  pub header_bad : keeps_header size at last bytes ≡ false → None ≡ header_of (record_head_at size at last (at_place p bytes))
  header_bad bad = sym (header_is size at last p bytes len ∙ rw bad refl)

  pub header_group : (time length : ℕ) → keeps_header size at last bytes ≡ true → slice_index bytes 0 ≡ 1 → time ≡ u64_at bytes 9 → length ≡ u32_at bytes 17 → Some (GroupHeader (record { 0 = time }) length) ≡ header_of (record_head_at size at last (at_place p bytes))
  header_group time length keeps kind time_is length_is =
      (λ i. Some (GroupHeader (record { 0 = time_is i }) (length_is i))) ∙ sym (header_is size at last p bytes len ∙ rw (keeps, eq-eqb (slice_index bytes 0) 1 kind) refl)

  pub header_switch : (time : ℕ) → keeps_header size at last bytes ≡ true → slice_index bytes 0 ≢ 1 → time ≡ u64_at bytes 9 → Some (SwitchHeader (record { 0 = time })) ≡ header_of (record_head_at size at last (at_place p bytes))
  header_switch time keeps kind time_is =
      (λ i. Some (SwitchHeader (record { 0 = time_is i }))) ∙ sym (header_is size at last p bytes len ∙ rw (keeps, ne_eqb (slice_index bytes 0) 1 kind) refl)

-- what a header that keeps the rules says of its numbers
pub record HeaderBounds (size : ℕ) (at : Spot) (bytes : List ℕ) : Type 0 where
  pub number : at.number < 2 ^ 64 - 1
  pub group : slice_index bytes 0 ≡ 1 → (u32_at bytes 17 ≤ most_body) × (at.place + 22 + u32_at bytes 17 + 24 ≤ size)

pub header_bounds : (size : ℕ) (at : Spot) (last : ℕ) (bytes : List ℕ) → keeps_header size at last bytes ≡ true → HeaderBounds size at bytes
header_bounds size at last bytes keeps =
    let n = u64_at bytes 1 in
    let a = both_true (within 1 2 (slice_index bytes 0)) ((nat_eq n at.number && nat_lt n (2 ^ 64 - 1)) && (nat_le last (u64_at bytes 9) && is_body_length size at (slice_index bytes 0) (u32_at bytes 17))) keeps in
    let b = both_true (nat_eq n at.number && nat_lt n (2 ^ 64 - 1)) (nat_le last (u64_at bytes 9) && is_body_length size at (slice_index bytes 0) (u32_at bytes 17)) a.1 in
    let c = both_true (nat_eq n at.number) (nat_lt n (2 ^ 64 - 1)) b.0 in
    let d = both_true (nat_le last (u64_at bytes 9)) (is_body_length size at (slice_index bytes 0) (u32_at bytes 17)) b.1 in
    record {
      number = omega (arith, eqb-true n at.number c.0, ltb-true n (2 ^ 64 - 1) c.1);
      group = λ kind. group_fits size at (record { kind = slice_index bytes 0; time = 0; len = u32_at bytes 17 }) (eq-eqb (slice_index bytes 0) 1 kind) d.1;
    }

pub group_length : (t s : Stamp) (n m : ℕ) → (let x : Option RecordHeader = Some (GroupHeader t n) in let y : Option RecordHeader = Some (GroupHeader s m) in x ≡ y) → n ≡ m
group_length t s n m e = cc
