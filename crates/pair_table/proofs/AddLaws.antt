-- A new pair: which names it has, that its row may be put, and where that row goes.
use Rattle.std.proofs.Common.{◌≡◌, ℕ, zero, suc, ◌≤◌, ◌<◌, ◌+◌, Bool, true, false, not, cond, nat_eq, nat_lt, ◌&&◌, ◌||◌, List, [], ◌∷◌, ◌++◌, length, find, Option, Some, None, refl, sym, ap, subst, ◌∙◌, arith, true≢false}
use Rattle.std.specs.Prelude.{bytes_eq}
use Rattle.std.specs.List.{list_any, list_all}
use Rattle.std.proofs.lemmas.Bool.{eqb-true, eq-eqb, ltb-true, lt-ltb}
use Rattle.std.proofs.lemmas.Slice.Eq.{bytes_eq-Decides}
use Rattle.pair_table.specs.declared.command.Refusal.{Refusal}
use Rattle.pair_table.specs.declared.command.Refusal.TheVariants.{ControlBroken, SecondaryInUse}
use Rattle.pair_table.specs.declared.names.NamedDevice.{NamedDevice}
use Rattle.pair_table.specs.declared.names.NamedVolume.{NamedVolume}
use Rattle.pair_table.specs.declared.row.PairRow.{PairRow}
use Rattle.pair_table.specs.Commands.{MayCommand, add_to, has_named_primary, is_volume_of, new_row, new_row_for}
use Rattle.pair_table.specs.Naming.{AreNamesSound, Naming, are_alike, is_broken, label_in, labelled_device, lower, none_alike, primary_of}
use Rattle.pair_table.specs.Refusals.{is_of_primary, refuses_found, refuses_label, refuses_primary, row_of_primary}
use Rattle.pair_table.specs.Rows.{are_in_ranges}
use Rattle.pair_table.specs.Tables.{AreRowsSound, MayPut, are_below, clashes, clashes_apart, is_of, most_rows, none_clash, with_row, without_row}
use Rattle.pair_table.proofs.FindLaws.{all-snoc, any_more, found_all, found_any, found_passes, none_found, or_right}
use Rattle.pair_table.proofs.PutLaws.{all_apart, name_sym, none-with_row}
use Rattle.pair_table.proofs.RowRules.{both_true, and_true}
use Rattle.pair_table.proofs.StateLaws.{same_name}
use Rattle.pair_table.proofs.TableLaws.{apart-filter, either_false, first_apart, not_false, not_true, without-absent}

-- ---- what an accepted pair without a row has

-- the names of a pair that isn't refused, whose secondary no row uses
pub record NewPair (names : Naming) (rows : List PairRow) (primary secondary : List ℕ) : Type 0 where
  pub volume : NamedVolume
  pub label : NamedDevice
  pub named : primary_of primary names ≡ Some volume
  pub labelled : labelled_device secondary names ≡ Some label
  pub unused : list_any (is_of label.device) rows ≡ false

pub new_pair : (names : Naming) (rows : List PairRow) (primary secondary : List ℕ) → refuses_primary primary secondary names rows (primary_of primary names) ≡ None → row_of_primary primary rows ≡ None → NewPair names rows primary secondary
new_pair names rows primary secondary own none = by_volume (primary_of primary names) refl own
  where
    by_use : (v : NamedVolume) (l : NamedDevice) → primary_of primary names ≡ Some v → labelled_device secondary names ≡ Some l → (used : Bool) → list_any (is_of l.device) rows ≡ used → (size : Option Refusal)
        → cond used (Some SecondaryInUse) size ≡ None → NewPair names rows primary secondary
    by_use v l named labelled true is size own = absurd cc
    by_use v l named labelled false is size own = record { volume = v; label = l; named = named; labelled = labelled; unused = is }

    by_label : (v : NamedVolume) → primary_of primary names ≡ Some v → (o : Option NamedDevice) → labelled_device secondary names ≡ o → refuses_label primary secondary rows v o ≡ None → NewPair names rows primary secondary
    by_label v named None labelled own = absurd cc
    by_label v named (Some l) labelled own = by_use v l named labelled (list_any (is_of l.device) rows) refl _ (ap (refuses_found secondary rows v l) (sym none) ∙ own)

    by_break : (v : NamedVolume) → primary_of primary names ≡ Some v → (broken : Bool) → cond broken (Some (ControlBroken v.control)) (refuses_label primary secondary rows v (labelled_device secondary names)) ≡ None → NewPair names rows primary secondary
    by_break v named true own = absurd cc
    by_break v named false own = by_label v named (labelled_device secondary names) refl own

    by_volume : (o : Option NamedVolume) → primary_of primary names ≡ o → refuses_primary primary secondary names rows o ≡ None → NewPair names rows primary secondary
    by_volume None named own = absurd cc
    by_volume (Some v) named own = by_break v named (is_broken v.control names) own

-- ---- labels

lower_all : (test : NamedDevice → Bool) (l : NamedDevice) (o : Option NamedDevice) (m : NamedDevice) → test l ≡ true → ((k : NamedDevice) → o ≡ Some k → test k ≡ true) → lower l o ≡ m → test m ≡ true
lower_all test l None m here rest is = ap test (sym is) ∙ here
lower_all test l (Some k) m here rest is = choose (nat_lt k.device l.device) is
  where
    choose : (b : Bool) → cond b k l ≡ m → test m ≡ true
    choose true is = ap test (sym is) ∙ rest k refl
    choose false is = ap test (sym is) ∙ here

-- the label that is found is one of the labels
pub label_all : (test : NamedDevice → Bool) (secondary : List ℕ) (labels : List NamedDevice) (l : NamedDevice) → list_all test labels ≡ true → label_in secondary labels ≡ Some l → test l ≡ true
label_all test secondary [] l all found = absurd cc
label_all test secondary (k ∷ labels) l all found =
    let parts = both_true (test k) (list_all test labels) all in
    choose (bytes_eq k.serial secondary) found parts.0 (λ m e. label_all test secondary labels m parts.1 e)
  where
    choose : (b : Bool) → cond b (Some (lower k (label_in secondary labels))) (label_in secondary labels) ≡ Some l → test k ≡ true → ((m : NamedDevice) → label_in secondary labels ≡ Some m → test m ≡ true) → test l ≡ true
    choose true found here next = lower_all test k (label_in secondary labels) l here next cc
    choose false found here next = next l found

-- ---- no row clashes with the new one

same_place : (w x : NamedVolume) → w.control ≡ x.control → w.volume ≡ x.volume → are_alike w x ≡ true
same_place w x control volume =
    or_right (bytes_eq w.serial x.serial) (nat_eq w.control x.control && nat_eq w.volume x.volume)
    (and_true (nat_eq w.control x.control) (nat_eq w.volume x.volume) (eq-eqb w.control x.control control) (eq-eqb w.volume x.volume volume))

-- what a row's volume is
record VolumeOf (r : PairRow) (v : NamedVolume) : Type 0 where
  serial : bytes_eq v.serial r.primary ≡ true
  control : v.control ≡ r.control
  volume : v.volume ≡ r.volume

volume_is : (r : PairRow) (v : NamedVolume) → is_volume_of r v ≡ true → VolumeOf r v
volume_is r v is =
    let a = both_true (bytes_eq v.serial r.primary && nat_eq v.control r.control && nat_eq v.volume r.volume) (nat_eq v.cylinders r.cylinders) is in
    let b = both_true (bytes_eq v.serial r.primary && nat_eq v.control r.control) (nat_eq v.volume r.volume) a.0 in
    let c = both_true (bytes_eq v.serial r.primary) (nat_eq v.control r.control) b.0 in
    record { serial = c.0; control = eqb-true v.control r.control c.1; volume = eqb-true v.volume r.volume b.1 }

-- A named volume with the controller and volume of a named row is that row's.
one_place : (primary : List ℕ) (volumes : List NamedVolume) (v : NamedVolume) (r : PairRow) → none_alike volumes ≡ true → find (λ w. bytes_eq w.serial primary) volumes ≡ Some v → list_any (is_volume_of r) volumes ≡ true
    → v.control ≡ r.control → v.volume ≡ r.volume → bytes_eq v.serial r.primary ≡ true
one_place primary [] v r apart found named control volume = absurd cc
one_place primary (w ∷ volumes) v r apart found named control volume =
    let parts = both_true (not (list_any (are_alike w) volumes)) (none_alike volumes) apart in
    choose (bytes_eq w.serial primary) found (is_volume_of r w) refl named (not_true (list_any (are_alike w) volumes) parts.0) (λ e f. one_place primary volumes v r parts.1 e f control volume)
  where
    choose : (first : Bool) → cond first (Some w) (find (λ u. bytes_eq u.serial primary) volumes) ≡ Some v → (here : Bool) → is_volume_of r w ≡ here → (here || list_any (is_volume_of r) volumes) ≡ true
        → list_any (are_alike w) volumes ≡ false → (find (λ u. bytes_eq u.serial primary) volumes ≡ Some v → list_any (is_volume_of r) volumes ≡ true → bytes_eq v.serial r.primary ≡ true) → bytes_eq v.serial r.primary ≡ true
    choose true found true is named none next = let same : w ≡ v = cc in subst (λ (u : NamedVolume). bytes_eq u.serial r.primary ≡ true) same (volume_is r w is).serial
    choose true found false is named none next =
        let same : w ≡ v = cc in
        let alike : (u : NamedVolume) → is_volume_of r u ≡ true → are_alike w u ≡ true = λ u e.
        let of = volume_is r u e in
        same_place w u (ap (λ (x : NamedVolume). x.control) same ∙ control ∙ sym of.control) (ap (λ (x : NamedVolume). x.volume) same ∙ volume ∙ sym of.volume) in
        absurd (true≢false (sym (any_more (is_volume_of r) (are_alike w) volumes alike named) ∙ none))
    choose false found true is named none next =
        let of = volume_is r w is in
        absurd (true≢false (sym (found_any (λ u. bytes_eq u.serial primary) (are_alike w) volumes v found (same_place w v (of.control ∙ sym control) (of.volume ∙ sym volume))) ∙ none))
    choose false found false is named none next = next found named

-- no row of the primary, or of the device
none_new : (names : Naming) (primary secondary : List ℕ) (group : Option (List ℕ)) (v : NamedVolume) (l : NamedDevice) (rows : List PairRow) → AreNamesSound names → primary_of primary names ≡ Some v → list_all (has_named_primary names) rows ≡ true
    → list_any (is_of_primary primary) rows ≡ false → list_any (is_of l.device) rows ≡ false → list_any (clashes (new_row secondary group v l)) rows ≡ false
none_new names primary secondary group v l [] keeps found named other unused = refl
none_new names primary secondary group v l (r ∷ rows) keeps found named other unused =
    let names_here = both_true (has_named_primary names r) (list_all (has_named_primary names) rows) named in
    let others = either_false (bytes_eq r.primary primary) (list_any (is_of_primary primary) rows) other in
    let devices = either_false (nat_eq l.device r.device) (list_any (is_of l.device) rows) unused in
    let same : v.serial ≡ primary = (bytes_eq-Decides v.serial primary).0 (found_passes (λ w. bytes_eq w.serial primary) names.primaries v found) in
    let names_apart : bytes_eq v.serial r.primary ≡ false = ap (λ n. bytes_eq n r.primary) same ∙ name_sym primary r.primary ∙ others.0 in
    let places_apart : (nat_eq v.control r.control && nat_eq v.volume r.volume) ≡ false = choose names_here.0 names_apart (nat_eq v.control r.control) refl (nat_eq v.volume r.volume) refl in
    rw (names_apart, devices.0, places_apart, none_new names primary secondary group v l rows keeps found names_here.1 others.1 devices.1) refl
  where
    choose : has_named_primary names r ≡ true → bytes_eq v.serial r.primary ≡ false → (a : Bool) → nat_eq v.control r.control ≡ a → (b : Bool) → nat_eq v.volume r.volume ≡ b → (a && b) ≡ false
    choose named apart true e true f = absurd (true≢false (sym (one_place primary names.primaries v r keeps.apart found named (eqb-true v.control r.control e) (eqb-true v.volume r.volume f)) ∙ apart))
    choose named apart true e false f = refl
    choose named apart false e b f = refl

-- ---- as many rows as devices at most

below-without : (most : ℕ) (rows : List PairRow) → are_below (suc most) rows ≡ true → are_below most (without_row most rows) ≡ true
below-without most [] all = refl
below-without most (r ∷ rows) all =
    let parts = both_true (nat_lt r.device (suc most)) (are_below (suc most) rows) all in
    choose (nat_eq most r.device) refl (ltb-true r.device (suc most) parts.0) (below-without most rows parts.1)
  where
    choose : (b : Bool) → nat_eq most r.device ≡ b → r.device < suc most → are_below most (without_row most rows) ≡ true → are_below most (cond (not b) (r ∷ without_row most rows) (without_row most rows)) ≡ true
    choose true is lt next = next
    choose false is lt next = and_true (nat_lt r.device most) (are_below most (without_row most rows)) (lt-ltb r.device most (grind (arith, is, lt))) next

length-without : (device : ℕ) (rows : List PairRow) → none_clash rows ≡ true → length rows ≤ length (without_row device rows) + 1
length-without device [] apart = omega arith
length-without device (r ∷ rows) apart =
    let first = first_apart r rows apart in
    choose (nat_eq device r.device) refl first.devices (length-without device rows first.others)
  where
    choose : (b : Bool) → nat_eq device r.device ≡ b → list_any (is_of r.device) rows ≡ false → length rows ≤ length (without_row device rows) + 1 → length (r ∷ rows) ≤ length (cond (not b) (r ∷ without_row device rows) (without_row device rows)) + 1
    choose true is none next =
        let at = eqb-true device r.device is in
        let same = without-absent device rows (ap (λ n. list_any (is_of n) rows) at ∙ none) in
        omega (arith, ap length same)
    choose false is none next = omega (arith, next)

pub few_devices : (most : ℕ) (rows : List PairRow) → none_clash rows ≡ true → are_below most rows ≡ true → length rows ≤ most
few_devices zero [] apart below = omega arith
few_devices zero (r ∷ rows) apart below = absurd (omega (arith, ltb-true r.device 0 (both_true (nat_lt r.device 0) (are_below 0 rows) below).0))
few_devices (suc most) rows apart below =
    omega (arith, length-without most rows apart, few_devices most (without_row most rows) (apart-filter (λ r. not (is_of most r)) rows apart) (below-without most rows below))

-- ---- the new row

-- a row of a device that has none goes last
pub with_row-last : (row : PairRow) (rows : List PairRow) → list_any (is_of row.device) rows ≡ false → with_row row rows ≡ rows ++ row ∷ []
with_row-last row [] none = refl
with_row-last row (r ∷ rows) none =
    let parts = either_false (nat_eq row.device r.device) (list_any (is_of row.device) rows) none in
    rw parts.0 (ap (λ (t : List PairRow). r ∷ t) (with_row-last row rows parts.1))

pub new_row_named : (names : Naming) (primary secondary : List ℕ) (group : Option (List ℕ)) (v : NamedVolume) (l : NamedDevice) → primary_of primary names ≡ Some v → has_named_primary names (new_row secondary group v l) ≡ true
new_row_named names primary secondary group v l found =
    found_any (λ w. bytes_eq w.serial primary) (is_volume_of (new_row secondary group v l)) names.primaries v found
    (rw (same_name v.serial, eq-eqb v.control v.control refl, eq-eqb v.volume v.volume refl, eq-eqb v.cylinders v.cylinders refl) refl)

pub may_command_new : (names : Naming) (primary secondary : List ℕ) (group : Option (List ℕ)) (v : NamedVolume) (l : NamedDevice) (rows : List PairRow) → AreNamesSound names → MayCommand names rows → primary_of primary names ≡ Some v → labelled_device secondary names ≡ Some l
    → MayCommand names (rows ++ new_row secondary group v l ∷ [])
may_command_new names primary secondary group v l rows keeps may found labelled = record {
  named = all-snoc (has_named_primary names) rows (new_row secondary group v l) may.named (new_row_named names primary secondary group v l found);
  below = all-snoc (λ r. nat_lt r.device most_rows) rows (new_row secondary group v l) may.below (label_all (λ k. nat_lt k.device most_rows) secondary names.labels l keeps.devices labelled);
}

pub may_put_new : (names : Naming) (primary secondary : List ℕ) (group : Option (List ℕ)) (rows : List PairRow) → AreNamesSound names → AreRowsSound rows → MayCommand names rows → row_of_primary primary rows ≡ None → (p : NewPair names rows primary secondary)
    → MayPut (new_row secondary group p.volume p.label) rows
may_put_new names primary secondary group rows keeps kept may none p =
    let row = new_row secondary group p.volume p.label in
    let apart = none_new names primary secondary group p.volume p.label rows keeps p.named may.named (none_found (is_of_primary primary) rows none) p.unused in
    let put : none_clash (with_row row rows) ≡ true = none-with_row row rows kept.apart ∙ not_false (list_any (clashes_apart row) rows) (all_apart row rows p.unused ∙ apart) in
    let last = with_row-last row rows p.unused in
    let below = subst (λ (t : List PairRow). are_below most_rows t ≡ true) (sym last) (may_command_new names primary secondary group p.volume p.label rows keeps may p.named p.labelled).below in
    record {
      rules = found_all (λ w. bytes_eq w.serial primary) (λ w. are_in_ranges w.control w.volume w.cylinders) names.primaries p.volume p.named keeps.ranges;
      apart = put;
      few = few_devices most_rows (with_row row rows) put below;
    }

-- ---- the row that is put

-- what is known of the row of a new pair
pub record NewRow (names : Naming) (rows : List PairRow) (primary secondary : List ℕ) (group : Option (List ℕ)) (row : PairRow) : Type 0 where
  pub put : MayPut row rows
  pub last : with_row row rows ≡ add_to group rows (row_of_primary primary rows) (new_row_for secondary group (primary_of primary names) (labelled_device secondary names))
  pub may : MayCommand names (with_row row rows)

pub new_row_is : (names : Naming) (rows : List PairRow) (primary secondary : List ℕ) (group : Option (List ℕ)) (row : PairRow) → AreNamesSound names → AreRowsSound rows → MayCommand names rows → refuses_primary primary secondary names rows (primary_of primary names) ≡ None
    → row_of_primary primary rows ≡ None → Some row ≡ new_row_for secondary group (primary_of primary names) (labelled_device secondary names) → NewRow names rows primary secondary group row
new_row_is names rows primary secondary group row keeps kept may own none is =
    let p = new_pair names rows primary secondary own none in
    let new = new_row secondary group p.volume p.label in
    let named : new_row_for secondary group (primary_of primary names) (labelled_device secondary names) ≡ Some new = λ i. new_row_for secondary group (p.named i) (p.labelled i) in
    let both : Some row ≡ Some new = is ∙ named in
    let same : new ≡ row = cc in
    let last = with_row-last new rows p.unused in
    subst (NewRow names rows primary secondary group) same (record {
      put = may_put_new names primary secondary group rows keeps kept may none p;
      last = last ∙ (λ i. add_to group rows (sym none i) (sym named i));
      may = subst (MayCommand names) (sym last) (may_command_new names primary secondary group p.volume p.label rows keeps may p.named p.labelled);
    })
