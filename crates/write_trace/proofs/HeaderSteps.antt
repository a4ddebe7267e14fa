-- Reading the fields of a header's volumes.
use Rattle.std.proofs.Common.{◌≡◌, ℕ, zero, suc, ◌+◌, ◌-◌, ◌<◌, ◌≤◌, Bool, true, false, cond, not, ◌||◌, ◌==◌, nat_lt, nat_le, List, [], ◌∷◌, ◌++◌, length, sum_by, take, drop, Option, Some, None, Result, Ok, Err, refl, sym, ap, subst, ◌∙◌, append_assoc, arith, length-take}
use Rattle.std.specs.Prelude.{bytes_eq}
use Rattle.std.specs.Int.{Width, w16, w32, byte_len, from_be_bytes}
use Rattle.std.specs.List.{list_any, list_all}
use Rattle.std.proofs.lemmas.Bool.{ltb-false, eq-eqb}
use Rattle.std.proofs.lemmas.List.{append-nil}
use Rattle.tod_stamp.specs.Fields.{◌>>=◌, Left, Bad, after, bytes_at, number_at, within, any}
use Rattle.tod_stamp.specs.Fields.Bad.{Cut, Broken}
use Rattle.tod_stamp.specs.Names.{is_field, is_name, is_serial, before_spaces, name_in}
use Rattle.tod_stamp.proofs.FieldLaws.{bind_ok, guard_ok, allow_ok}
use Rattle.write_trace.specs.declared.header.VolumeHead.{VolumeHead}
use Rattle.write_trace.specs.Headers.{cylinder_width, most_cylinders, tracks_of, version_at, is_new_serial, volume_at, volumes_at, are_volumes}
use Rattle.write_trace.proofs.FieldSteps.{both_true, and_true}
use Rattle.write_trace.specs.declared.stop.NoRead.{NoRead}
use Rattle.write_trace.specs.declared.stop.NoRead.TheVariants as stops
use Rattle.write_trace.specs.FieldReads.{GivesField, Fails}
use Rattle.write_trace.specs.HeaderParts.{seen_after, header_front_at}

-- ---- serials that were seen

any_seen : (serial : List ℕ) (seen : List (List ℕ)) (volumes : List VolumeHead) → list_any (bytes_eq serial) (seen_after seen volumes) ≡ (list_any (λ (v : VolumeHead). bytes_eq serial v.serial) volumes || list_any (bytes_eq serial) seen)
any_seen serial seen [] = refl
any_seen serial seen (v ∷ volumes) = any_seen serial (v.serial ∷ seen) volumes ∙ regroup (bytes_eq serial v.serial) (list_any (λ (v : VolumeHead). bytes_eq serial v.serial) volumes) (list_any (bytes_eq serial) seen)
  where
    regroup : (a b c : Bool) → (b || (a || c)) ≡ ((a || b) || c)
    regroup true true c = refl
    regroup true false c = refl
    regroup false true c = refl
    regroup false false c = refl

-- the serial of a volume of the row was seen
pub taken_is : (serial : List ℕ) (volumes : List VolumeHead) (r : Bool) → r ≡ list_any (λ (v : VolumeHead). bytes_eq serial v.serial) volumes → r ≡ list_any (bytes_eq serial) (seen_after [] volumes)
taken_is serial volumes r e = e ∙ sym (any_seen serial [] volumes ∙ none (list_any (λ (v : VolumeHead). bytes_eq serial v.serial) volumes))
  where
    none : (a : Bool) → (a || false) ≡ a
    none true = refl
    none false = refl

-- one volume more in the row
pub seen_more : (seen : List (List ℕ)) (volumes : List VolumeHead) (v : VolumeHead) → seen_after seen (volumes ++ v ∷ []) ≡ v.serial ∷ seen_after seen volumes
seen_more seen [] v = refl
seen_more seen (w ∷ volumes) v = seen_more (w.serial ∷ seen) volumes v

-- ---- a field that is no serial's

pub record IsFront (n : ℕ) (left : Left) (field : List ℕ) (next : Left) : Type 0 where
  pub there : nat_lt (length left.bytes) n ≡ false
  pub sized : length field ≡ n
  pub front : field ≡ take n left.bytes
  pub next_is : next ≡ after n left

pub front_is : (n : ℕ) (left : Left) (field : List ℕ) (next : Left) → bytes_at n any left ≡ Ok (field, next) → IsFront n left field next
unfolding bytes_at
front_is n left field next e =
    let one = guard_ok (nat_lt (length left.bytes) n) (Cut left.place) (Ok (take n left.bytes, after n left)) (field, next) e in
    let same : take n left.bytes ≡ field = first_is _ _ one.1 in
    record {
      there = one.0;
      sized = omega (arith, ap length same, length-take n left.bytes, ltb-false _ _ one.0);
      front = sym same;
      next_is = sym (second_is _ _ one.1);
    }
  where
    first_is : (a b : List ℕ × Left) → (let p : Result (List ℕ × Left) Bad = Ok a in let q : Result (List ℕ × Left) Bad = Ok b in p ≡ q) → a.0 ≡ b.0
    first_is a b e = cc

    second_is : (a b : List ℕ × Left) → (let p : Result (List ℕ × Left) Bad = Ok a in let q : Result (List ℕ × Left) Bad = Ok b in p ≡ q) → a.1 ≡ b.1
    second_is a b e = cc

no_field : (field : List ℕ) (b : Bool) → is_field 6 field ≡ b → length field ≡ 6 → name_in 6 field ≡ None → b ≡ false
no_field field true is len none = absurd (clash (before_spaces field) (sym none ∙ rw (eq-eqb (length field) 6 len, is) refl))
  where
    clash : (name : List ℕ) → (let p : Option (List ℕ) = None in p ≡ Some name) → ⊥
    clash name e = cc
no_field field false is len none = refl

pub no_serial : (version : ℕ) (seen : List (List ℕ)) (left : Left) (field : List ℕ) (next : Left) → bytes_at 6 any left ≡ Ok (field, next) → name_in 6 field ≡ None → volume_at version seen left ≡ Err (Broken left.place)
unfolding volume_at bytes_at
no_serial version seen left field next read none =
    let is = front_is 6 left field next read in
    let bad : is_field 6 (take 6 left.bytes) ≡ false = ap (is_field 6) (sym is.front) ∙ no_field field (is_field 6 field) refl is.sized none in
    rw (is.there, bad) refl

-- ---- volume after volume, as a loop reads them

-- volumes that were read before, and those that are still read
abbrev pub with_volumes : List VolumeHead → Result (List VolumeHead × Left) Bad → Result (List VolumeHead × Left) Bad
with_volumes front read = read >>= λ x. Ok (front ++ x.0, x.1)

regroup_volumes : (front : List VolumeHead) (v : VolumeHead) (read : Result (List VolumeHead × Left) Bad) → with_volumes front (read >>= λ x. Ok (v ∷ x.0, x.1)) ≡ with_volumes (front ++ v ∷ []) read
regroup_volumes front v (Ok x) = ap (λ (vs : List VolumeHead). Ok (vs, x.1)) (simp append_assoc)
regroup_volumes front v (Err e) = refl

pub volumes_go_on : (version : ℕ) (front : List VolumeHead) (count i : ℕ) (left next : Left) (v : VolumeHead) (total : Result (List VolumeHead × Left) Bad) → i < count → volume_at version (seen_after [] front) left ≡ Ok (v, next)
    → with_volumes front (volumes_at version (count - i) (seen_after [] front) left) ≡ total → with_volumes (front ++ v ∷ []) (volumes_at version (count - (i + 1)) (seen_after [] (front ++ v ∷ [])) next) ≡ total
unfolding volumes_at
volumes_go_on version front count i left next v total lt read so_far =
    let k : count - i ≡ suc (count - (i + 1)) = omega arith in
    let one : with_volumes front (volumes_at version (count - i) (seen_after [] front) left) ≡ with_volumes (front ++ v ∷ []) (volumes_at version (count - (i + 1)) (v.serial ∷ seen_after [] front) next) =
    rw (k, read) (regroup_volumes front v (volumes_at version (count - (i + 1)) (v.serial ∷ seen_after [] front) next)) in
    ap (λ (seen : List (List ℕ)). with_volumes (front ++ v ∷ []) (volumes_at version (count - (i + 1)) seen next)) (seen_more [] front v) ∙ sym one ∙ so_far

volumes_stop : (version : ℕ) (bad : Bad) (front : List VolumeHead) (count i : ℕ) (left : Left) (total : Result (List VolumeHead × Left) Bad) → i < count → volume_at version (seen_after [] front) left ≡ Err bad
    → with_volumes front (volumes_at version (count - i) (seen_after [] front) left) ≡ total → total ≡ Err bad
unfolding volumes_at
volumes_stop version bad front count i left total lt read so_far =
    let k : count - i ≡ suc (count - (i + 1)) = omega arith in
    let one : with_volumes front (volumes_at version (count - i) (seen_after [] front) left) ≡ Err bad = rw (k, read) refl in
    sym so_far ∙ one

pub volumes_end : (version : ℕ) (stop : NoRead) (front : List VolumeHead) (count i : ℕ) (left : Left) (total : Result (List VolumeHead × Left) Bad) → i < count → Fails stop (volume_at version (seen_after [] front) left)
    → with_volumes front (volumes_at version (count - i) (seen_after [] front) left) ≡ total → Fails stop total
volumes_end version stops.Memory front count i left total lt read so_far = tt
volumes_end version (stops.Cut place) front count i left total lt read so_far = volumes_stop version (Cut place) front count i left total lt read so_far
volumes_end version (stops.Broken place) front count i left total lt read so_far = volumes_stop version (Broken place) front count i left total lt read so_far

pub volumes_done : (version : ℕ) (front : List VolumeHead) (count i : ℕ) (left : Left) (total : Result (List VolumeHead × Left) Bad) → count ≤ i → with_volumes front (volumes_at version (count - i) (seen_after [] front) left) ≡ total → total ≡ Ok (front, left)
unfolding volumes_at
volumes_done version front count i left total le so_far =
    let k : count - i ≡ 0 = omega arith in
    let one : with_volumes front (volumes_at version (count - i) (seen_after [] front) left) ≡ Ok (front, left) = rw k (ap (λ (vs : List VolumeHead). Ok (vs, left)) (append-nil front)) in
    sym so_far ∙ one

-- ---- what was read keeps the rules

pub bytes_keep : (n : ℕ) (rule : List ℕ → Bool) (left : Left) (x : List ℕ × Left) → bytes_at n rule left ≡ Ok x → rule x.0 ≡ true
unfolding bytes_at
bytes_keep n rule left x e =
    let one = guard_ok (nat_lt (length left.bytes) n) (Cut left.place) (cond (rule (take n left.bytes)) (Ok (take n left.bytes, after n left)) (Err (Broken left.place))) x e in
    let two = allow_ok (rule (take n left.bytes)) (Broken left.place) (take n left.bytes, after n left) x one.1 in
    ap (λ (y : List ℕ × Left). rule y.0) (sym two.1) ∙ two.0

pub number_keeps : (w : Width) (rule : ℕ → Bool) (left : Left) (x : ℕ × Left) → number_at w rule left ≡ Ok x → rule x.0 ≡ true
unfolding number_at
number_keeps w rule left x e =
    let n = from_be_bytes w (take (byte_len w) left.bytes) in
    let one = guard_ok (nat_lt (length left.bytes) (byte_len w)) (Cut left.place) (cond (rule n) (Ok (n, after (byte_len w) left)) (Err (Broken left.place))) x e in
    let two = allow_ok (rule n) (Broken left.place) (n, after (byte_len w) left) x one.1 in
    ap (λ (y : ℕ × Left). rule y.0) (sym two.1) ∙ two.0

pub record IsVolumeHeadSound (version : ℕ) (seen : List (List ℕ)) (v : VolumeHead) : Type 0 where
  pub serial : is_serial v.serial ≡ true
  pub new : not (list_any (bytes_eq v.serial) seen) ≡ true
  pub cylinders : within 1 (most_cylinders version) v.cylinders ≡ true

volume_keeps : (version : ℕ) (seen : List (List ℕ)) (left : Left) (x : VolumeHead × Left) → volume_at version seen left ≡ Ok x → IsVolumeHeadSound version seen x.0
unfolding volume_at
volume_keeps version seen left x e =
    let a = bind_ok (bytes_at 6 (is_new_serial seen) left) (λ serial. number_at (cylinder_width version) (within 1 (most_cylinders version)) serial.1 >>= λ cylinders. Ok (record { serial = before_spaces serial.0; cylinders = cylinders.0 }, cylinders.1)) x e in
    let b = bind_ok (number_at (cylinder_width version) (within 1 (most_cylinders version)) a.0.1) (λ cylinders. Ok (record { serial = before_spaces a.0.0; cylinders = cylinders.0 }, cylinders.1)) x a.2 in
    let rule = bytes_keep 6 (is_new_serial seen) left a.0 a.1 in
    let both = both_true (is_field 6 a.0.0) (not (list_any (bytes_eq (before_spaces a.0.0)) seen)) rule in
    let name = both_true (is_name 6 (before_spaces a.0.0)) (list_all (λ c. c == 32) (drop (length (before_spaces a.0.0)) a.0.0)) both.0 in
    let is : record { serial = before_spaces a.0.0; cylinders = b.0.0 } ≡ x.0 = first_is (record { serial = before_spaces a.0.0; cylinders = b.0.0 }, b.0.1) x b.2 in
    let made : IsVolumeHeadSound version seen (record { serial = before_spaces a.0.0; cylinders = b.0.0 }) = record { serial = name.0; new = both.1; cylinders = number_keeps (cylinder_width version) (within 1 (most_cylinders version)) a.0.1 b.0 b.1 } in
    subst (λ (v : VolumeHead). IsVolumeHeadSound version seen v) is made
  where
    first_is : (a b : VolumeHead × Left) → (let p : Result (VolumeHead × Left) Bad = Ok a in let q : Result (VolumeHead × Left) Bad = Ok b in p ≡ q) → a.0 ≡ b.0
    first_is a b e = cc

-- the volumes that were read are volumes of a header, and so many
pub record KeepVolumes (version count : ℕ) (seen : List (List ℕ)) (volumes : List VolumeHead) : Type 0 where
  pub rules : are_volumes version seen volumes ≡ true
  pub many : length volumes ≡ count

pub volumes_keep : (version : ℕ) (count : ℕ) (seen : List (List ℕ)) (left : Left) (x : List VolumeHead × Left) → volumes_at version count seen left ≡ Ok x → KeepVolumes version count seen x.0
unfolding volumes_at
volumes_keep version zero seen left x e = subst (λ (vs : List VolumeHead). KeepVolumes version 0 seen vs) (first_is ([], left) x e) (record { rules = refl; many = refl })
  where
    first_is : (a b : List VolumeHead × Left) → (let p : Result (List VolumeHead × Left) Bad = Ok a in let q : Result (List VolumeHead × Left) Bad = Ok b in p ≡ q) → a.0 ≡ b.0
    first_is a b e = cc
volumes_keep version (suc count) seen left x e =
    let a = bind_ok (volume_at version seen left) (λ first. volumes_at version count (first.0.serial ∷ seen) first.1 >>= λ others. Ok (first.0 ∷ others.0, others.1)) x e in
    let b = bind_ok (volumes_at version count (a.0.0.serial ∷ seen) a.0.1) (λ others. Ok (a.0.0 ∷ others.0, others.1)) x a.2 in
    let first = volume_keeps version seen left a.0 a.1 in
    let others = volumes_keep version count (a.0.0.serial ∷ seen) a.0.1 b.0 b.1 in
    let made : KeepVolumes version (suc count) seen (a.0.0 ∷ b.0.0) = record {
      rules = and_true _ _ (and_true _ _ (and_true _ _ first.serial first.new) first.cylinders) others.rules;
      many = omega (arith, others.many);
    } in
    subst (λ (vs : List VolumeHead). KeepVolumes version (suc count) seen vs) (first_is (a.0.0 ∷ b.0.0, b.0.1) x b.2) made
  where
    first_is : (a b : List VolumeHead × Left) → (let p : Result (List VolumeHead × Left) Bad = Ok a in let q : Result (List VolumeHead × Left) Bad = Ok b in p ≡ q) → a.0 ≡ b.0
    first_is a b e = cc

-- a reader whose limit is equal to another
pub same_most : (r : Result (ℕ × Left) NoRead) (left : Left) (a b : ℕ) → a ≡ b → GivesField (λ x. (x.0, x.1)) r (number_at w32 (λ n. nat_le n a) left) → GivesField (λ x. (x.0, x.1)) r (number_at w32 (λ n. nat_le n b) left)
same_most r left a b e h = subst (λ k. GivesField (λ x. (x.0, x.1)) r (number_at w32 (λ n. nat_le n k) left)) e h

-- ---- the head as a whole

abbrev many_at : List VolumeHead → Left → Result (ℕ × Left) Bad
many_at volumes left = number_at w32 (λ n. nat_le n (sum_by tracks_of volumes)) left

head_then : (version : ℕ) (left marked counted next_is : Left) (count : ℕ) (volumes : List VolumeHead) → version_at left ≡ Ok (version, marked) → number_at w16 (within 1 32) marked ≡ Ok (count, counted) → volumes_at version count [] counted ≡ Ok (volumes, next_is)
    → header_front_at left ≡ (many_at volumes next_is >>= λ many. Ok ((version, volumes, many.0), many.1))
unfolding header_front_at
head_then version left marked counted next_is count volumes a b c = rw (a, b, c) refl

pub head_read : (version : ℕ) (left marked counted next_is next : Left) (count many : ℕ) (volumes : List VolumeHead) → version_at left ≡ Ok (version, marked) → number_at w16 (within 1 32) marked ≡ Ok (count, counted) → volumes_at version count [] counted ≡ Ok (volumes, next_is)
    → number_at w32 (λ n. nat_le n (sum_by tracks_of volumes)) next_is ≡ Ok (many, next) → header_front_at left ≡ Ok ((version, volumes, many), next)
head_read version left marked counted next_is next count many volumes a b c d = head_then version left marked counted next_is count volumes a b c ∙ ap (λ (r : Result (ℕ × Left) Bad). r >>= λ many. Ok ((version, volumes, many.0), many.1)) d

pub head_fails : (version : ℕ) (stop : NoRead) (left marked counted next_is : Left) (count : ℕ) (volumes : List VolumeHead) → version_at left ≡ Ok (version, marked) → number_at w16 (within 1 32) marked ≡ Ok (count, counted) → volumes_at version count [] counted ≡ Ok (volumes, next_is)
    → Fails stop (number_at w32 (λ n. nat_le n (sum_by tracks_of volumes)) next_is) → Fails stop (header_front_at left)
head_fails version stops.Memory left marked counted next_is count volumes a b c d = tt
head_fails version (stops.Cut place) left marked counted next_is count volumes a b c d = head_then version left marked counted next_is count volumes a b c ∙ ap (λ (r : Result (ℕ × Left) Bad). r >>= λ many. Ok ((version, volumes, many.0), many.1)) d
head_fails version (stops.Broken place) left marked counted next_is count volumes a b c d = head_then version left marked counted next_is count volumes a b c ∙ ap (λ (r : Result (ℕ × Left) Bad). r >>= λ many. Ok ((version, volumes, many.0), many.1)) d
