-- What a label makes of a volume.
use Rattle.std.proofs.Common.{◌≡◌, ◌≤◌, ◌<◌, ◌&&◌, inl, inr, refl, List, ℕ, Bool, true, false, not, cond, nat_le, nat_lt, take, Option, Some, None, ap, ◌∙◌, arith}
use Rattle.std.specs.Prelude.{IfSome, IsTrue}
use Rattle.std.specs.List.{list_any}
use Rattle.std.proofs.lemmas.Bool.{and_parts, le-ltb, leb-true, lt-ltb}
use Rattle.tod_stamp.proofs.NameLaws.{and_true}
use Rattle.crash_plant.specs.declared.device.Device.TheVariants.{Volume}
use Rattle.crash_plant.specs.Moments.{PlantState, Same, on, Follows}
use Rattle.crash_plant.specs.Calls.{WorksOn}
use Rattle.volume_label.specs.declared.label.Label.{Label}
use Rattle.volume_label.specs.Labels.{holds_cylinders, label_of, volume_need}
use Rattle.pair_table.specs.declared.row.PairRow.{PairRow}
use Rattle.pair_table.specs.Tables.{HasRow, is_of}
use Rattle.xrecover.specs.Works.{Nothing, OfOneVolume, Works}
use Rattle.xrecover.proofs.Works.{works_more, works_one}
use Rattle.crash_plant.specs.declared.device.Device.{Device}
use Rattle.crash_plant.specs.declared.device.Device.TheVariants.{Control, State, Journal}
use Rattle.std.proofs.lemmas.Bool.{cases_eq}
use Rattle.third_copy.specs.declared.targets.Target.{Target}
use Rattle.third_copy.specs.declared.targets.Target.TheVariants.{Found, Missing}
use Rattle.third_copy.specs.Targets.{by_label, is_unread, target_in, target_of}

-- A volume with such a label has room for the cylinders.
pub long_found : (length cylinders : ℕ) (label : Option Label) → IfSome label (λ l. IsTrue (holds_cylinders length l.cylinders)) → by_label label cylinders ≡ Found → volume_need cylinders ≤ length
long_found length cylinders None room is = absurd cc
long_found length cylinders (Some l) room is = by_test (nat_le cylinders l.cylinders) refl is
  where
    by_test : (b : Bool) → nat_le cylinders l.cylinders ≡ b → cond b Found Missing ≡ Found → volume_need cylinders ≤ length
    by_test true fits e =
        let whole = leb-true (volume_need l.cylinders) length (and_parts (nat_le 1 l.cylinders) (nat_le (volume_need l.cylinders) length) room).1 in
        omega (arith, leb-true cylinders l.cylinders fits, whole)
    by_test false fits e = absurd cc

-- A label makes of it no unread one.
pub read_label : (cylinders : ℕ) (label : Option Label) → is_unread (by_label label cylinders) ≡ false
read_label cylinders None = refl
read_label cylinders (Some l) = by_test (nat_le cylinders l.cylinders)
  where
    by_test : (b : Bool) → is_unread (cond b Found Missing) ≡ false
    by_test true = refl
    by_test false = refl

-- Calls that read one volume write nothing.
of_one : (v : ℕ) (d : Device) (x y : List ℕ) → OfOneVolume v Same d x y → Nothing d x y
of_one v Control x y p = p
of_one v State x y p = p
of_one v (Journal j) x y p = p
of_one v (Volume w) x y p = elim (cases_eq w v) [ inl is ↦ p.0 is | inr differs ↦ p.1 differs ]

pub works_reading : (tells : Type 0) (v : ℕ) (a b : PlantState) → WorksOn tells (λ d. d ≡ Volume v) a b → (tells → b.bytes (Volume v) ≡ a.bytes (Volume v)) → (tells → Follows Same (on a (Volume v)) (on b (Volume v))) → Works tells Nothing a b
works_reading tells v a b only bytes moments = works_more tells (OfOneVolume v Same) Nothing a b (λ told d x y p. of_one v d x y p) (works_one tells v Same a b only bytes moments)

-- ---- whether a target is a volume that no row has

not_any : (b : Bool) → ¬ (b ≡ true) → not b ≡ true
not_any true none = absurd (none refl)
not_any false none = refl

module _ (plant : PlantState) (rows : List PairRow) (shift : ℕ) (r : PairRow) where
  abbrev read_so : Target
  read_so = by_label (label_of (plant.lengths (Volume (target_of shift r))) (take 14 (plant.bytes (Volume (target_of shift r))))) r.cylinders

  pub target_is : target_of shift r < plant.volumes → ¬ HasRow (target_of shift r) rows → target_in plant rows shift r ≡ read_so
  target_is there free = ap (λ (b : Bool). cond b read_so Missing) (and_true _ _ (lt-ltb (target_of shift r) plant.volumes there) (not_any (list_any (is_of (target_of shift r)) rows) free))

  pub target_beyond : plant.volumes ≤ target_of shift r → target_in plant rows shift r ≡ Missing
  target_beyond past = ap (λ (b : Bool). cond (b && not (list_any (is_of (target_of shift r)) rows)) read_so Missing) (le-ltb (target_of shift r) plant.volumes past)

  pub target_taken : HasRow (target_of shift r) rows → target_in plant rows shift r ≡ Missing
  target_taken has = ap (λ (b : Bool). cond (nat_lt (target_of shift r) plant.volumes && not b) read_so Missing) has ∙ ap (λ (b : Bool). cond b read_so Missing) (never (nat_lt (target_of shift r) plant.volumes))
    where
      never : (b : Bool) → (b && false) ≡ false
      never true = refl
      never false = refl
