-- What is read as a header keeps the rules and was spelled so.
use Rattle.std.proofs.Common.{◌≡◌, ℕ, zero, suc, ◌+◌, ◌-◌, ◌^◌, Bool, true, false, cond, not, nat_eq, nat_le, ◌&&◌, List, [], ◌∷◌, ◌++◌, length, Result, Ok, Err, refl, sym, ap, subst, ◌∙◌, inl, inr}
use Rattle.std.specs.Prelude.{bytes_eq, sum_by, slice_index}
use Rattle.std.specs.List.{flat_map, list_any}
use Rattle.std.specs.Int.{w16, w32, to_be_bytes}
use Rattle.std.proofs.lemmas.Slice.Eq.{bytes_eq-Decides}
use Rattle.tod_stamp.specs.Fields.{◌>>=◌, IsBytes, Left, Bad, bytes_at, number_at, within, is_version}
use Rattle.tod_stamp.specs.Fields.Bad.{Broken}
use Rattle.tod_stamp.specs.Names.{is_serial, serial_field, is_field, before_spaces}
use Rattle.tod_stamp.proofs.FieldLaws.{bind_ok, Takes, Takes-then, wide16, wide32, number_takes, bytes_takes}
use Rattle.tod_stamp.proofs.NameLaws.{fields_spelled}
use Rattle.ckd_track.specs.Tracks.{is_track}
use Rattle.ckd_track.specs.Images.{image}
use Rattle.write_trace.specs.declared.header.VolumeHead.{VolumeHead}
use Rattle.write_trace.specs.declared.header.Header.{Header}
use Rattle.write_trace.specs.Headers.{Base, cylinder_width, most_cylinders, trace_mark, tracks_of, is_track_of, place_spelling, volume_spelling, base_spelling, header_spelling, are_volumes, is_from, are_bases, is_header, is_trace_mark, version_at, is_new_serial, volume_at, volumes_at, place_at, image_field, base_at, bases_at, header_at}
use Rattle.write_trace.specs.Laws.{HeadersAreSpelled}
use Rattle.write_trace.proofs.FieldSteps.{both_true, either_true, and_true, given_is, none_taken, cylinder_limit, cylinder_wide, place_takes, image_takes}

-- ---- the mark

-- what was read as a mark
record VersionTaken (left : Left) (version : ℕ) (next : Left) : Type 0 where
  takes : Takes left (trace_mark version) next
  kept : is_version version ≡ true

mark_taken : (left : Left) (version : ℕ) (mark : List ℕ) (next : Left) → mark ≡ trace_mark version → slice_index (trace_mark version) 3 - 48 ≡ version → is_version version ≡ true → Takes left mark next
    → VersionTaken left (slice_index mark 3 - 48) next
mark_taken left version mark next is says keeps takes =
    let read : slice_index mark 3 - 48 ≡ version = ap (λ (t : List ℕ). slice_index t 3 - 48) is ∙ says in
    subst (λ v. VersionTaken left v next) (sym read) (record { takes = subst (λ (t : List ℕ). Takes left t next) is takes; kept = keeps })

version_takes : (left : Left) (version : ℕ) (next : Left) → IsBytes left.bytes → version_at left ≡ Ok (version, next) → VersionTaken left version next
unfolding version_at
version_takes left version next fits e =
    let one = bind_ok (bytes_at 4 is_trace_mark left) (λ m. Ok (slice_index m.0 3 - 48, m.1)) (version, next) e in
    let bytes = bytes_takes 4 is_trace_mark left one.0.0 one.0.1 fits one.1 in
    let given = given_is (slice_index one.0.0 3 - 48, one.0.1) (version, next) one.2 in
    subst (λ (p : ℕ × Left). VersionTaken left p.0 p.1) given
    (elim (either_true (bytes_eq one.0.0 (trace_mark 1)) (bytes_eq one.0.0 (trace_mark 2)) bytes.2) [
      | inl h ↦ mark_taken left 1 one.0.0 one.0.1 ((bytes_eq-Decides one.0.0 (trace_mark 1)).0 h) refl refl bytes.0
      | inr h ↦ mark_taken left 2 one.0.0 one.0.1 ((bytes_eq-Decides one.0.0 (trace_mark 2)).0 h) refl refl bytes.0
    ])

-- ---- volumes

-- what was read as a volume
record VolumeTaken (version : ℕ) (seen : List (List ℕ)) (left : Left) (v : VolumeHead) (next : Left) : Type 0 where
  takes : Takes left (volume_spelling version v) next
  kept : (is_serial v.serial && not (list_any (bytes_eq v.serial) seen) && within 1 (most_cylinders version) v.cylinders) ≡ true

volume_takes : (version : ℕ) (seen : List (List ℕ)) (left : Left) (v : VolumeHead) (next : Left) → IsBytes left.bytes → volume_at version seen left ≡ Ok (v, next) → VolumeTaken version seen left v next
unfolding volume_at
volume_takes version seen left v next fits e =
    let wide = cylinder_width version in
    let rule = within 1 (most_cylinders version) in
    let one = bind_ok (bytes_at 6 (is_new_serial seen) left) (λ s. number_at wide rule s.1 >>= (λ c. Ok (record { serial = before_spaces s.0; cylinders = c.0 }, c.1))) (v, next) e in
    let field = bytes_takes 6 (is_new_serial seen) left one.0.0 one.0.1 fits one.1 in
    let two = bind_ok (number_at wide rule one.0.1) (λ c. Ok (record { serial = before_spaces one.0.0; cylinders = c.0 }, c.1)) (v, next) one.2 in
    let cylinders = number_takes wide (cylinder_limit (nat_eq version 1)) (cylinder_wide (nat_eq version 1)) rule one.0.1 two.0.0 two.0.1 field.0.rest_bytes two.1 in
    let serial = before_spaces one.0.0 in
    let fresh = not (list_any (bytes_eq serial) seen) in
    let parts = both_true (is_field 6 one.0.0) fresh field.2 in
    let name = both_true (is_serial serial) _ parts.0 in
    let spelled : serial_field serial ≡ one.0.0 = fields_spelled 6 one.0.0 field.1 parts.0 in
    let whole = Takes-then left one.0.0 one.0.1 (to_be_bytes wide two.0.0) two.0.1 field.0 cylinders.takes in
    subst (λ (p : VolumeHead × Left). VolumeTaken version seen left p.0 p.1) (given_is (record { serial = serial; cylinders = two.0.0 }, two.0.1) (v, next) two.2) (record {
      takes = subst (λ (t : List ℕ). Takes left (t ++ to_be_bytes wide two.0.0) two.0.1) (sym spelled) whole;
      kept = and_true (is_serial serial && fresh) (rule two.0.0) (and_true (is_serial serial) fresh name.0 parts.1) cylinders.kept;
    })

-- what was read as so many volumes
record VolumesTaken (version count : ℕ) (seen : List (List ℕ)) (left : Left) (volumes : List VolumeHead) (next : Left) : Type 0 where
  takes : Takes left (flat_map (volume_spelling version) volumes) next
  kept : are_volumes version seen volumes ≡ true
  number : length volumes ≡ count

volumes_take : (version count : ℕ) (seen : List (List ℕ)) (left : Left) (volumes : List VolumeHead) (next : Left) → IsBytes left.bytes → volumes_at version count seen left ≡ Ok (volumes, next) → VolumesTaken version count seen left volumes next
unfolding volumes_at
volumes_take version zero seen left volumes next fits e =
    subst (λ (p : List VolumeHead × Left). VolumesTaken version 0 seen left p.0 p.1) (given_is ([], left) (volumes, next) e) (record { takes = none_taken left fits; kept = refl; number = refl })
volumes_take version (suc count) seen left volumes next fits e =
    let one = bind_ok (volume_at version seen left) (λ f. volumes_at version count (f.0.serial ∷ seen) f.1 >>= (λ o. Ok (f.0 ∷ o.0, o.1))) (volumes, next) e in
    let v = one.0.0 in
    let first = volume_takes version seen left v one.0.1 fits one.1 in
    let two = bind_ok (volumes_at version count (v.serial ∷ seen) one.0.1) (λ o. Ok (v ∷ o.0, o.1)) (volumes, next) one.2 in
    let others = volumes_take version count (v.serial ∷ seen) one.0.1 two.0.0 two.0.1 first.takes.rest_bytes two.1 in
    subst (λ (p : List VolumeHead × Left). VolumesTaken version (suc count) seen left p.0 p.1) (given_is (v ∷ two.0.0, two.0.1) (volumes, next) two.2) (record {
      takes = Takes-then left (volume_spelling version v) one.0.1 (flat_map (volume_spelling version) two.0.0) two.0.1 first.takes others.takes;
      kept = and_true (is_serial v.serial && not (list_any (bytes_eq v.serial) seen) && within 1 (most_cylinders version) v.cylinders) (are_volumes version (v.serial ∷ seen) two.0.0) first.kept others.kept;
      number = ap suc others.number;
    })

-- ---- base tracks

admit_ok : {A E : Type 0} (b : Bool) (d : E) (x : Result A E) (y : A) → cond b x (Err d) ≡ Ok y → (b ≡ true) × (x ≡ Ok y)
admit_ok true d x y e = (refl, e)
admit_ok false d x y e = absurd cc

-- what was read as a base track
pub record BaseTaken (version : ℕ) (volumes : List VolumeHead) (low : ℕ × ℕ) (left : Left) (b : Base) (next : Left) : Type 0 where
  pub takes : Takes left (base_spelling version b) next
  pub kept : (is_track_of volumes b.0 b.1 && is_from low (b.0, b.1) && is_track b.2) ≡ true

pub base_takes : (version : ℕ) (volumes : List VolumeHead) (low : ℕ × ℕ) (left : Left) (b : Base) (next : Left) → IsBytes left.bytes → base_at version volumes low left ≡ Ok (b, next) → BaseTaken version volumes low left b next
unfolding base_at
base_takes version volumes low left b next fits e =
    let one = bind_ok (place_at version volumes left) (λ at. cond (is_from low at.0) (image_field at.1) (Err (Broken left.place)) >>= (λ r. Ok ((at.0.0, at.0.1, r.0), r.1))) (b, next) e in
    let at = one.0.0 in
    let place = place_takes version volumes left at one.0.1 fits one.1 in
    let two = bind_ok (cond (is_from low at) (image_field one.0.1) (Err (Broken left.place))) (λ r. Ok ((at.0, at.1, r.0), r.1)) (b, next) one.2 in
    let may = admit_ok (is_from low at) (Broken left.place) (image_field one.0.1) two.0 two.1 in
    let track = image_takes one.0.1 two.0.0 two.0.1 place.0.rest_bytes may.1 in
    subst (λ (p : Base × Left). BaseTaken version volumes low left p.0 p.1) (given_is ((at.0, at.1, two.0.0), two.0.1) (b, next) two.2) (record {
      takes = Takes-then left (place_spelling version at.0 at.1) one.0.1 (image two.0.0) two.0.1 place.0 track.0;
      kept = and_true (is_track_of volumes at.0 at.1 && is_from low at) (is_track two.0.0) (and_true (is_track_of volumes at.0 at.1) (is_from low at) place.1 may.0) track.1;
    })

-- what was read as so many base tracks
record BasesTaken (version : ℕ) (volumes : List VolumeHead) (count : ℕ) (low : ℕ × ℕ) (left : Left) (base : List Base) (next : Left) : Type 0 where
  takes : Takes left (flat_map (base_spelling version) base) next
  kept : are_bases volumes low base ≡ true
  number : length base ≡ count

bases_take : (version : ℕ) (volumes : List VolumeHead) (count : ℕ) (low : ℕ × ℕ) (left : Left) (base : List Base) (next : Left) → IsBytes left.bytes → bases_at version volumes count low left ≡ Ok (base, next) → BasesTaken version volumes count low left base next
unfolding bases_at
bases_take version volumes zero low left base next fits e =
    subst (λ (p : List Base × Left). BasesTaken version volumes 0 low left p.0 p.1) (given_is ([], left) (base, next) e) (record { takes = none_taken left fits; kept = refl; number = refl })
bases_take version volumes (suc count) low left base next fits e =
    let one = bind_ok (base_at version volumes low left) (λ f. bases_at version volumes count (f.0.0, f.0.1 + 1) f.1 >>= (λ o. Ok (f.0 ∷ o.0, o.1))) (base, next) e in
    let b = one.0.0 in
    let first = base_takes version volumes low left b one.0.1 fits one.1 in
    let two = bind_ok (bases_at version volumes count (b.0, b.1 + 1) one.0.1) (λ o. Ok (b ∷ o.0, o.1)) (base, next) one.2 in
    let others = bases_take version volumes count (b.0, b.1 + 1) one.0.1 two.0.0 two.0.1 first.takes.rest_bytes two.1 in
    subst (λ (p : List Base × Left). BasesTaken version volumes (suc count) low left p.0 p.1) (given_is (b ∷ two.0.0, two.0.1) (base, next) two.2) (record {
      takes = Takes-then left (base_spelling version b) one.0.1 (flat_map (base_spelling version) two.0.0) two.0.1 first.takes others.takes;
      kept = and_true (is_track_of volumes b.0 b.1 && is_from low (b.0, b.1) && is_track b.2) (are_bases volumes (b.0, b.1 + 1) two.0.0) first.kept others.kept;
      number = ap suc others.number;
    })

-- ---- headers

-- what was read as a header
pub record HeaderTaken (left : Left) (h : Header) (next : Left) : Type 0 where
  pub takes : Takes left (header_spelling h) next
  pub kept : is_header h ≡ true

-- what is read after the mark
abbrev after_version : (version : ℕ) → Left → Result (Header × Left) Bad
after_version version left = do
  count ← number_at w16 (within 1 32) left
  volumes ← volumes_at version count.0 [] count.1
  many ← number_at w32 (λ n. nat_le n (sum_by tracks_of volumes.0)) volumes.1
  base ← bases_at version volumes.0 many.0 (0, 0) many.1
  Ok (record { version = version; volumes = volumes.0; base = base.0 }, base.1)

pub header_takes : (left : Left) (h : Header) (next : Left) → IsBytes left.bytes → header_at left ≡ Ok (h, next) → HeaderTaken left h next
unfolding header_at
header_takes left h next fits e =
    let one = bind_ok (version_at left) (λ m. after_version m.0 m.1) (h, next) e in
    let start = version_takes left one.0.0 one.0.1 fits one.1 in
    after_mark one.0.0 one.0.1 start.kept start.takes one.2
  where
    after_mark : (version : ℕ) (after : Left) → is_version version ≡ true → Takes left (trace_mark version) after
        → after_version version after ≡ Ok (h, next)
        → HeaderTaken left h next
    after_mark version after is start e =
        let two = bind_ok (number_at w16 (within 1 32) after) (λ c. volumes_at version c.0 [] c.1 >>= (λ v. number_at w32 (λ n. nat_le n (sum_by tracks_of v.0)) v.1 >>= (λ k. bases_at version v.0 k.0 (0, 0) k.1 >>= (λ b. Ok (record { version = version; volumes = v.0; base = b.0 }, b.1))))) (h, next) e in
        let count = number_takes w16 (2 ^ 16) wide16 (within 1 32) after two.0.0 two.0.1 start.rest_bytes two.1 in
        let three = bind_ok (volumes_at version two.0.0 [] two.0.1) (λ v. number_at w32 (λ n. nat_le n (sum_by tracks_of v.0)) v.1 >>= (λ k. bases_at version v.0 k.0 (0, 0) k.1 >>= (λ b. Ok (record { version = version; volumes = v.0; base = b.0 }, b.1)))) (h, next) two.2 in
        let volumes = three.0.0 in
        let heads = volumes_take version two.0.0 [] two.0.1 volumes three.0.1 count.takes.rest_bytes three.1 in
        let four = bind_ok (number_at w32 (λ n. nat_le n (sum_by tracks_of volumes)) three.0.1) (λ k. bases_at version volumes k.0 (0, 0) k.1 >>= (λ b. Ok (record { version = version; volumes = volumes; base = b.0 }, b.1))) (h, next) three.2 in
        let many = number_takes w32 (2 ^ 32) wide32 (λ n. nat_le n (sum_by tracks_of volumes)) three.0.1 four.0.0 four.0.1 heads.takes.rest_bytes four.1 in
        let five = bind_ok (bases_at version volumes four.0.0 (0, 0) four.0.1) (λ b. Ok (record { version = version; volumes = volumes; base = b.0 }, b.1)) (h, next) four.2 in
        let tracks = bases_take version volumes four.0.0 (0, 0) four.0.1 five.0.0 five.0.1 many.takes.rest_bytes five.1 in
        let found : Header = record { version = version; volumes = volumes; base = five.0.0 } in
        let texts = λ (n k : ℕ). (((trace_mark version ++ to_be_bytes w16 n) ++ flat_map (volume_spelling version) volumes) ++ to_be_bytes w32 k) ++ flat_map (base_spelling version) five.0.0 in
        let a = Takes-then left (trace_mark version) after (to_be_bytes w16 two.0.0) two.0.1 start count.takes in
        let b = Takes-then left (trace_mark version ++ to_be_bytes w16 two.0.0) two.0.1 (flat_map (volume_spelling version) volumes) three.0.1 a heads.takes in
        let c = Takes-then left ((trace_mark version ++ to_be_bytes w16 two.0.0) ++ flat_map (volume_spelling version) volumes) three.0.1 (to_be_bytes w32 four.0.0) four.0.1 b many.takes in
        let whole : Takes left (texts two.0.0 four.0.0) five.0.1 = Takes-then left (((trace_mark version ++ to_be_bytes w16 two.0.0) ++ flat_map (volume_spelling version) volumes) ++ to_be_bytes w32 four.0.0) four.0.1 (flat_map (base_spelling version) five.0.0) five.0.1 c tracks.takes in
        let spelled : texts two.0.0 four.0.0 ≡ texts (length volumes) (length five.0.0) = ap (λ n. texts n four.0.0) (sym heads.number) ∙ ap (λ k. texts (length volumes) k) (sym tracks.number) in
        subst (λ (p : Header × Left). HeaderTaken left p.0 p.1) (given_is (found, five.0.1) (h, next) five.2) (record {
          takes = subst (λ (t : List ℕ). Takes left t five.0.1) spelled whole;
          kept = and_true (is_version version && within 1 32 (length volumes) && are_volumes version [] volumes) (are_bases volumes (0, 0) five.0.0)
              (and_true (is_version version && within 1 32 (length volumes)) (are_volumes version [] volumes)
              (and_true (is_version version) (within 1 32 (length volumes)) is (subst (λ n. within 1 32 n ≡ true) (sym heads.number) count.kept))
              heads.kept) tracks.kept;
        })

pub headers_spelled : HeadersAreSpelled
headers_spelled place bytes h left fits read =
    let taken = header_takes (record { place = place; bytes = bytes }) h left fits read in
    (taken.kept, taken.takes.parts, taken.takes.place)
