-- The rules of a row, one by one.
use Rattle.std.proofs.Common.{◌≡◌, ◌^◌, ◌<◌, ◌≤◌, zero, suc, Bool, true, false, nat_lt, nat_le, ◌&&◌, List, [], ◌∷◌, refl, arith}
use Rattle.std.specs.Prelude.{IsTrue}
use Rattle.std.specs.List.{All, list_all}
use Rattle.std.proofs.lemmas.Bool.{ltb-true, leb-true}
use Rattle.tod_stamp.specs.Fields.{within}
use Rattle.tod_stamp.specs.Names.{is_serial}
use Rattle.pair_table.specs.declared.row.PairRow.{PairRow}
use Rattle.pair_table.specs.Rows.{keeps_row_rules, is_group, is_state, is_row}

pub both_true : (a b : Bool) → (a && b) ≡ true → (a ≡ true) × (b ≡ true)
both_true true b e = (refl, e)
both_true false b e = absurd cc

pub and_true : (a b : Bool) → a ≡ true → b ≡ true → (a && b) ≡ true
and_true true b e f = f
and_true false b e f = absurd cc

pub record RowRules (r : PairRow) : Type 0 where
  pub primary : is_serial r.primary ≡ true
  pub secondary : is_serial r.secondary ≡ true
  pub control : r.control ≤ 15
  pub volume : r.volume ≤ 31
  pub cylinders : within 1 1000000 r.cylinders ≡ true
  pub few : r.cylinders ≤ 1000000
  pub device : r.device < 2 ^ 16
  pub device_lt : nat_lt r.device (2 ^ 16) ≡ true
  pub state : is_state r.state ≡ true
  pub group : is_group r.group ≡ true

pub row_keeps : (r : PairRow) → is_row r ≡ true → keeps_row_rules r ≡ true
row_keeps r is =
    let z = both_true (is_serial r.primary && is_serial r.secondary && keeps_row_rules r && nat_lt r.device (2 ^ 16) && is_state r.state) (is_group r.group) is in
    let a = both_true (is_serial r.primary && is_serial r.secondary && keeps_row_rules r && nat_lt r.device (2 ^ 16)) (is_state r.state) z.0 in
    let b = both_true (is_serial r.primary && is_serial r.secondary && keeps_row_rules r) (nat_lt r.device (2 ^ 16)) a.0 in
    (both_true (is_serial r.primary && is_serial r.secondary) (keeps_row_rules r) b.0).1

pub row_rules : (r : PairRow) → is_row r ≡ true → RowRules r
row_rules r is =
    let z = both_true (is_serial r.primary && is_serial r.secondary && keeps_row_rules r && nat_lt r.device (2 ^ 16) && is_state r.state) (is_group r.group) is in
    let a = both_true (is_serial r.primary && is_serial r.secondary && keeps_row_rules r && nat_lt r.device (2 ^ 16)) (is_state r.state) z.0 in
    let b = both_true (is_serial r.primary && is_serial r.secondary && keeps_row_rules r) (nat_lt r.device (2 ^ 16)) a.0 in
    let c = both_true (is_serial r.primary && is_serial r.secondary) (keeps_row_rules r) b.0 in
    let names = both_true (is_serial r.primary) (is_serial r.secondary) c.0 in
    let d = both_true (nat_le r.control 15 && nat_le r.volume 31) (within 1 1000000 r.cylinders) c.1 in
    let e = both_true (nat_le r.control 15) (nat_le r.volume 31) d.0 in
    record {
      primary = names.0;
      secondary = names.1;
      control = leb-true r.control 15 e.0;
      volume = leb-true r.volume 31 e.1;
      cylinders = d.1;
      few = leb-true r.cylinders 1000000 (both_true (nat_le 1 r.cylinders) (nat_le r.cylinders 1000000) d.1).1;
      device = ltb-true r.device (2 ^ 16) b.1;
      device_lt = b.1;
      state = a.1;
      group = z.1;
    }

pub is_row_by : (r : PairRow) → is_serial r.primary ≡ true → is_serial r.secondary ≡ true → keeps_row_rules r ≡ true → nat_lt r.device (2 ^ 16) ≡ true → is_state r.state ≡ true → is_group r.group ≡ true → is_row r ≡ true
is_row_by r primary secondary rules device state group =
    and_true (is_serial r.primary && is_serial r.secondary && keeps_row_rules r && nat_lt r.device (2 ^ 16) && is_state r.state) (is_group r.group)
    (and_true (is_serial r.primary && is_serial r.secondary && keeps_row_rules r && nat_lt r.device (2 ^ 16)) (is_state r.state)
    (and_true (is_serial r.primary && is_serial r.secondary && keeps_row_rules r) (nat_lt r.device (2 ^ 16))
    (and_true (is_serial r.primary && is_serial r.secondary) (keeps_row_rules r) (and_true (is_serial r.primary) (is_serial r.secondary) primary secondary) rules) device) state) group

-- each of rows keeps the rules, by its place
pub all_keep : (rows : List PairRow) → list_all is_row rows ≡ true → All (λ r. IsTrue (keeps_row_rules r)) rows
all_keep [] all k d lt = absurd (omega (arith, lt))
all_keep (r ∷ rows) all zero d lt = row_keeps r (both_true (is_row r) (list_all is_row rows) all).0
all_keep (r ∷ rows) all (suc k) d lt = all_keep rows (both_true (is_row r) (list_all is_row rows) all).1 k d (omega (arith, lt))
