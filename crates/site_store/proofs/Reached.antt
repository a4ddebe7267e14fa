-- Whom hits reach, by flags of the devices that are hit.
use Rattle.std.proofs.Common.{◌≡◌, ℕ, zero, suc, ◌<◌, ◌==◌, ◌&&◌, ◌||◌, not, Bool, true, false, List, [], ◌∷◌, Option, Some, refl, sym, ap, ◌∙◌, arith, eq-eqb, true≢false}
use Rattle.std.specs.Prelude.{slice_get, nat_lt}
use Rattle.std.specs.List.{list_any}
use Rattle.std.proofs.lemmas.Bool.{and_parts, ltb-true}
use Rattle.std.proofs.lemmas.Option.{same_Some}
use Rattle.pair_table.specs.declared.level.Level.{Level}
use Rattle.pair_table.specs.declared.level.Level.TheVariants.{Volume as VolumeLevel, Session as SessionLevel, Group as GroupLevel}
use Rattle.pair_table.specs.declared.row.PairRow.{PairRow}
use Rattle.pair_table.specs.Tables.{are_below, is_of, none_clash}
use Rattle.pair_table.proofs.TableLaws.{first_apart}
use Rattle.record_rows.specs.Hits.{is_reached}
use Rattle.row_changes.specs.Changes.{are_same_group, reach_of, shares_group}
use Rattle.site_store.specs.declared.hits.HitDevices.{HitDevices}
use Rattle.site_store.specs.Hits.{AreDevices, is_hit_in_group, reaches_at}
use Rattle.site_store.proofs.HitRows.{any_at}

shares_is : (devices : List ℕ) (hit : HitDevices) (r : PairRow) (rows : List PairRow) → AreDevices devices hit → are_below 64 rows ≡ true → list_any (is_hit_in_group hit r.group) rows ≡ shares_group rows devices r
shares_is devices hit r [] are below = refl
shares_is devices hit r (s ∷ rows) are below =
    let parts = and_parts (nat_lt s.device 64) (are_below 64 rows) below in
    λ i. (are.flags s.device (ltb-true s.device 64 parts.0) i && are_same_group s.group r.group) || shares_is devices hit r rows are parts.1 i

-- whether hits of these devices reach a row among rows
abbrev pub reaches_by : Level → List PairRow → HitDevices → PairRow → Bool
reaches_by level rows hit r = hit.any && reaches_at level rows hit r

pub reaches_is : (level : Level) (devices : List ℕ) (hit : HitDevices) (rows : List PairRow) (r : PairRow) → AreDevices devices hit → r.device < 64 → are_below 64 rows ≡ true → reaches_by level rows hit r ≡ is_reached (reach_of level rows) devices r
reaches_is level [] hit rows r are lt below = λ i. are.any_is i && reaches_at level rows hit r
reaches_is VolumeLevel (d ∷ devices) hit rows r are lt below = λ i. are.any_is i && false
reaches_is SessionLevel (d ∷ devices) hit rows r are lt below = λ i. are.any_is i && not (are.flags r.device lt i)
reaches_is GroupLevel (d ∷ devices) hit rows r are lt below = λ i. are.any_is i && (not (are.flags r.device lt i) && shares_is (d ∷ devices) hit r rows are below i)

-- Two rows of a table are on different devices.
pub other_device : (rows : List PairRow) (n i : ℕ) (r s : PairRow) → none_clash rows ≡ true → n < i → slice_get rows n ≡ Some r → slice_get rows i ≡ Some s → ¬ (r.device ≡ s.device)
other_device [] n i r s apart lt first last = absurd cc
other_device (x ∷ rows) n zero r s apart lt first last = absurd (omega (arith, lt))
other_device (x ∷ rows) zero (suc i) r s apart lt first last =
    let same : x ≡ r = same_Some x r first in
    let none : list_any (is_of x.device) rows ≡ false = (first_apart x rows apart).devices in
    λ e. true≢false (sym (any_at (is_of x.device) rows i s last (eq-eqb x.device s.device (ap (λ (k : PairRow). k.device) same ∙ e))) ∙ none)
other_device (x ∷ rows) (suc n) (suc i) r s apart lt first last = other_device rows n i r s (first_apart x rows apart).others (omega (arith, lt)) first last
