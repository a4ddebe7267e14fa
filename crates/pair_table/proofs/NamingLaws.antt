-- Names are left sound as they are given, and how a name is found.
use Rattle.std.proofs.Common.{◌≡◌, ℕ, ◌<◌, ◌≤◌, Bool, true, false, not, cond, nat_eq, nat_le, nat_lt, ◌&&◌, ◌||◌, List, [], ◌∷◌, ◌++◌, length, Option, Some, None, Result, Ok, Err, slice_index_or, slice_set, refl, sym, ap, subst, ◌∙◌, arith, OnOk, OnErr}
use Rattle.std.specs.Prelude.{bytes_eq}
use Rattle.std.specs.List.{list_any, list_all}
use Rattle.std.proofs.lemmas.Bool.{eqb-true, leb-true, lt-ltb, le-ltb, ltb-true, ltb-false}
use Rattle.std.proofs.lemmas.List.{set-get_or}
use Rattle.tod_stamp.specs.Fields.{within}
use Rattle.pair_table.specs.declared.names.NamedDevice.{NamedDevice}
use Rattle.pair_table.specs.declared.names.NamedVolume.{NamedVolume}
use Rattle.pair_table.specs.Naming.{AreNamesSound, MayName, are_alike, is_before, is_broken, label_in, lower, naming_of, none_alike, with_broken}
use Rattle.pair_table.specs.Rows.{are_in_ranges}
use Rattle.pair_table.proofs.RowRules.{both_true, and_true}
use Rattle.pair_table.proofs.TableLaws.{either_false, not_true, not_false}
use Rattle.pair_table.proofs.PutLaws.{name_sym, number_sym}
use Rattle.pair_table.proofs.FlagLaws.{flag_told, flag_set}

-- ---- one more volume

alike_sym : (v w : NamedVolume) → are_alike v w ≡ are_alike w v
alike_sym v w = rw (name_sym v.serial w.serial, number_sym v.control w.control, number_sym v.volume w.volume) refl

none_more : (v w : NamedVolume) (volumes : List NamedVolume) → list_any (are_alike w) volumes ≡ false → are_alike v w ≡ false → list_any (are_alike w) (volumes ++ v ∷ []) ≡ false
none_more v w [] none apart = rw (alike_sym w v, apart) refl
none_more v w (u ∷ volumes) none apart =
    let parts = either_false (are_alike w u) (list_any (are_alike w) volumes) none in
    rw parts.0 (none_more v w volumes parts.1 apart)

pub apart_more : (v : NamedVolume) (volumes : List NamedVolume) → none_alike volumes ≡ true → list_any (are_alike v) volumes ≡ false → none_alike (volumes ++ v ∷ []) ≡ true
apart_more v [] apart new = refl
apart_more v (w ∷ volumes) apart new =
    let parts = both_true (not (list_any (are_alike w) volumes)) (none_alike volumes) apart in
    let news = either_false (are_alike v w) (list_any (are_alike v) volumes) new in
    and_true (not (list_any (are_alike w) (volumes ++ v ∷ []))) (none_alike (volumes ++ v ∷ []))
    (not_false (list_any (are_alike w) (volumes ++ v ∷ [])) (none_more v w volumes (not_true (list_any (are_alike w) volumes) parts.0) news.0)) (apart_more v volumes parts.1 news.1)

pub ranges_more : (v : NamedVolume) (volumes : List NamedVolume) → are_in_ranges v.control v.volume v.cylinders ≡ true → list_all (λ w. are_in_ranges w.control w.volume w.cylinders) volumes ≡ true
    → list_all (λ w. are_in_ranges w.control w.volume w.cylinders) (volumes ++ v ∷ []) ≡ true
ranges_more v [] is all = and_true (are_in_ranges v.control v.volume v.cylinders) true is refl
ranges_more v (w ∷ volumes) is all =
    let parts = both_true (are_in_ranges w.control w.volume w.cylinders) (list_all (λ u. are_in_ranges u.control u.volume u.cylinders) volumes) all in
    and_true (are_in_ranges w.control w.volume w.cylinders) (list_all (λ u. are_in_ranges u.control u.volume u.cylinders) (volumes ++ v ∷ [])) parts.0 (ranges_more v volumes is parts.1)

-- whether the volume was put after the others or not, the names are left sound
pub keeps_primary : {E : Type 0} → (r : Result (Unit {0}) E) (v : NamedVolume) (old new : List NamedVolume) (labels : List NamedDevice) (broken : List ℕ) → OnOk r (new ≡ old ++ v ∷ []) → OnErr r (new ≡ old)
    → AreNamesSound (record { primaries = old; labels = labels; broken = broken }) → MayName v (record { primaries = old; labels = labels; broken = broken }) → AreNamesSound (record { primaries = new; labels = labels; broken = broken })
keeps_primary (Ok done) v old new labels broken ok err keeps may =
    subst (λ (t : List NamedVolume). AreNamesSound (record { primaries = t; labels = labels; broken = broken })) (sym ok) (record {
      ranges = ranges_more v old may.ranges keeps.ranges;
      apart = apart_more v old keeps.apart (not_true (list_any (are_alike v) old) may.new);
      devices = keeps.devices;
    })
keeps_primary (Err why) v old new labels broken ok err keeps may =
    subst (λ (t : List NamedVolume). AreNamesSound (record { primaries = t; labels = labels; broken = broken })) (sym err) keeps

-- ---- a broken controller

-- a controller that has a named volume is below the number of controllers
pub control_below : (control : ℕ) (volumes : List NamedVolume) → list_all (λ w. are_in_ranges w.control w.volume w.cylinders) volumes ≡ true → list_any (λ v. nat_eq v.control control) volumes ≡ true → control < 16
control_below control [] all has = absurd cc
control_below control (v ∷ volumes) all has =
    let parts = both_true (are_in_ranges v.control v.volume v.cylinders) (list_all (λ u. are_in_ranges u.control u.volume u.cylinders) volumes) all in
    let ranges = both_true (nat_le v.control 15 && nat_le v.volume 31) (within 1 1000000 v.cylinders) parts.0 in
    let below = leb-true v.control 15 (both_true (nat_le v.control 15) (nat_le v.volume 31) ranges.0).0 in
    choose (nat_eq v.control control) refl below has (control_below control volumes parts.1)
  where
    choose : (b : Bool) → nat_eq v.control control ≡ b → v.control ≤ 15 → (b || list_any (λ u. nat_eq u.control control) volumes) ≡ true → (list_any (λ u. nat_eq u.control control) volumes ≡ true → control < 16) → control < 16
    choose true here below has next = omega (arith, eqb-true v.control control here, below)
    choose false here below has next = next has

pub flag_breaks : (control : ℕ) (volumes : List NamedVolume) (labels : List NamedDevice) (flags : List Bool) → control < length flags → list_any (λ v. nat_eq v.control control) volumes ≡ true
    → naming_of volumes labels (slice_set flags control true) ≡ with_broken control (naming_of volumes labels flags)
flag_breaks control volumes labels flags below has =
    choose (slice_index_or flags control false) refl (flag_told flags 0 control control (omega arith))
  where
    choose : (b : Bool) → slice_index_or flags control false ≡ b → is_broken control (naming_of volumes labels flags) ≡ slice_index_or flags control false
        → naming_of volumes labels (slice_set flags control true) ≡ with_broken control (naming_of volumes labels flags)
    choose true is told =
        rw (has, told, is) (ap (λ t. naming_of volumes labels t) (ap (slice_set flags control) (sym is) ∙ set-get_or flags control false))
    choose false is told =
        rw (has, told, is) (ap (λ (t : List ℕ). record { primaries = volumes; labels = labels; broken = t }) (flag_set flags 0 control control (omega arith) below is))

-- ---- the lowest device with a label

lower_before : (l m x : NamedDevice) → nat_lt l.device x.device ≡ true → nat_lt x.device m.device ≡ true → nat_lt l.device m.device ≡ true
lower_before l m x e f = lt-ltb l.device m.device (omega (arith, ltb-true l.device x.device e, ltb-true x.device m.device f))

not_before : (l m x : NamedDevice) → nat_lt l.device x.device ≡ false → nat_lt x.device m.device ≡ false → nat_lt l.device m.device ≡ false
not_before l m x e f = le-ltb l.device m.device (omega (arith, ltb-false l.device x.device e, ltb-false x.device m.device f))

-- what a further label l makes of the lowest, where m stands in front of the others
lowest_step : (l m : NamedDevice) (is : Bool) (rest : Option NamedDevice) → Some (lower m (cond (is && is_before l rest) (Some l) rest)) ≡ cond (is && is_before l (Some (lower m rest))) (Some l) (Some (lower m rest))
lowest_step l m false rest = refl
lowest_step l m true None = choose (nat_lt l.device m.device)
  where
    choose : (b : Bool) → Some (cond b l m) ≡ cond b (Some l) (Some m)
    choose true = refl
    choose false = refl
lowest_step l m true (Some x) = choose (nat_lt l.device x.device) refl (nat_lt x.device m.device) refl
  where
    both : (b : Bool) → Some (cond b l m) ≡ cond b (Some l) (Some m)
    both true = refl
    both false = refl

    choose : (b : Bool) → nat_lt l.device x.device ≡ b → (d : Bool) → nat_lt x.device m.device ≡ d
        → Some (lower m (cond b (Some l) (Some x))) ≡ cond (nat_lt l.device (cond d x m).device) (Some l) (Some (cond d x m))
    choose true e true f = rw (lower_before l m x e f, e) refl
    choose true e false f = both (nat_lt l.device m.device)
    choose false e true f = rw (f, e) refl
    choose false e false f = rw (f, not_before l m x e f) refl

pub label_more : (serial : List ℕ) (labels : List NamedDevice) (l : NamedDevice)
    → label_in serial (labels ++ l ∷ []) ≡ cond (bytes_eq l.serial serial && is_before l (label_in serial labels)) (Some l) (label_in serial labels)
label_more serial [] l = choose (bytes_eq l.serial serial)
  where
    choose : (b : Bool) → cond b (Some l) None ≡ cond (b && true) (Some l) None
    choose true = refl
    choose false = refl
label_more serial (m ∷ labels) l = choose (bytes_eq m.serial serial) (label_more serial labels l)
  where
    choose : (b : Bool) → label_in serial (labels ++ l ∷ []) ≡ cond (bytes_eq l.serial serial && is_before l (label_in serial labels)) (Some l) (label_in serial labels)
        → cond b (Some (lower m (label_in serial (labels ++ l ∷ [])))) (label_in serial (labels ++ l ∷ []))
        ≡ cond (bytes_eq l.serial serial && is_before l (cond b (Some (lower m (label_in serial labels))) (label_in serial labels))) (Some l) (cond b (Some (lower m (label_in serial labels))) (label_in serial labels))
    choose true more = ap (λ o. Some (lower m o)) more ∙ lowest_step l m (bytes_eq l.serial serial) (label_in serial labels)
    choose false more = more
