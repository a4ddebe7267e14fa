-- A slot's state stands in its first 2,447 bytes, so what is written into one slot leaves the other.
use Rattle.std.proofs.Common.{◌≡◌, ◌≢◌, ℕ, zero, suc, ◌+◌, ◌-◌, ◌≤◌, true, cond, nat_le, ◌&&◌, List, ◌++◌, length, take, drop, slice_index, get_or-take, option_map, Option, Some, None, ok_or, refl, sym, ap, subst, ◌∙◌, arith, inl, inr, length-take, append_assoc}
use Rattle.std.specs.Prelude.{slice_range, bytes_eq}
use Rattle.std.specs.Int.{w16, from_be_bytes}
use Rattle.std.proofs.lemmas.Bool.{cases_lt, le-leb, leb-true}
use Rattle.std.proofs.lemmas.List.{take-take, drop-take, drop-drop, drop_at}
use Rattle.std.proofs.lemmas.Option.{same_Some}
use Rattle.tod_stamp.specs.Names.{is_session}
use Rattle.crash_plant.specs.Bytes.{patched, Torn}
use Rattle.pair_table.specs.declared.level.Level.{Level}
use Rattle.pair_table.specs.declared.row.PairRow.{PairRow}
use Rattle.pair_table.specs.Tables.{Table, AreRowsSound, are_below}
use Rattle.state_set.specs.Slots.{Stored, title, has_title, state_slot_place, slot_spelling, slot_fields, kept, rows_in, state_at, state_of, OneSlot, started_table, with_table}
use Rattle.state_set.proofs.After.{same_bool}
use Rattle.state_set.proofs.RowsAt.{rows_fit, rows_window}
use Rattle.state_set.proofs.Fields.{too_many}
use Rattle.state_set.proofs.Again.{states_back}

rows_same : (version volumes count m : ℕ) (bytes : List ℕ) → 2432 ≤ m → rows_in version volumes count (take m bytes) ≡ rows_in version volumes count bytes
rows_same version volumes count m bytes le = elim (cases_lt 64 count) [
  | inl many ↦ too_many version volumes count (take m bytes) many ∙ sym (too_many version volumes count bytes many)
  | inr few ↦ ap (kept volumes) (rows_window version count m bytes (omega (arith, rows_fit version count few, le)))
]

module _ (m : ℕ) (bytes : List ℕ) (le : 2447 ≤ m) where
  title_same : (version : ℕ) (session : List ℕ) → has_title version session (take m bytes) ≡ has_title version session bytes
  title_same version session =
      let there : nat_le 15 (length (take m bytes)) ≡ nat_le 15 (length bytes) =
      same_bool (nat_le 15 (length (take m bytes))) (nat_le 15 (length bytes)) (λ e. le-leb 15 (length bytes) (omega (arith, leb-true 15 (length (take m bytes)) e, length-take m bytes)))
      (λ e. le-leb 15 (length (take m bytes)) (omega (arith, leb-true 15 (length bytes) e, length-take m bytes, le))) in
      let front : take 12 (take m bytes) ≡ take 12 bytes = take-take 12 m bytes (omega (arith, le)) in
      λ i. there i && bytes_eq (title version session) (front i)

  fields_same : (version volumes : ℕ) → slot_fields version volumes (take m bytes) ≡ slot_fields version volumes bytes
  fields_same version volumes =
      let level : slice_index (take m bytes) 12 ≡ slice_index bytes 12 = get_or-take m bytes 12 0 (omega (arith, le)) in
      let by_13 : m ≡ 13 + (m - 13) = omega (arith, le) in
      let count : slice_range (take m bytes) 13 15 ≡ slice_range bytes 13 15 = ap (λ (k : ℕ). take 2 (drop 13 (take k bytes))) by_13 ∙ ap (take 2) (drop-take 13 (m - 13) bytes) ∙ take-take 2 (m - 13) (drop 13 bytes) (omega (arith, le)) in
      let by_15 : m ≡ 15 + (m - 15) = omega (arith, le) in
      let rest : drop 15 (take m bytes) ≡ take (m - 15) (drop 15 bytes) = ap (λ (k : ℕ). drop 15 (take k bytes)) by_15 ∙ drop-take 15 (m - 15) bytes in
      rw (level, count, rest, rows_same version volumes (from_be_bytes w16 (slice_range bytes 13 15)) (m - 15) (drop 15 bytes) (omega (arith, le))) refl

pub window : (volumes : ℕ) (session : List ℕ) (m : ℕ) (bytes : List ℕ) → 2447 ≤ m → state_at volumes session (take m bytes) ≡ state_at volumes session bytes
window volumes session m bytes le =
    λ i. cond (title_same m bytes le 2 session i) (fields_same m bytes le 2 volumes i) (cond (title_same m bytes le 1 session i) (fields_same m bytes le 1 volumes i) None)

-- ---- the other slot

second_stays : (n : ℕ) (old new : List ℕ) → n ≤ 8192 → Torn (state_slot_place 0) n old new → drop 8192 new ≡ drop 8192 old
second_stays n old new le torn =
    let split : n + (8192 - n) ≡ 8192 = omega (arith, le) in
    let here : state_slot_place 0 + n ≡ n = omega arith in
    let after : drop n new ≡ drop n old = ap (λ (k : ℕ). drop k new) (sym here) ∙ torn.after ∙ ap (λ (k : ℕ). drop k old) here in
    let back : (l : List ℕ) → drop (8192 - n) (drop n l) ≡ drop 8192 l = λ l. drop-drop (8192 - n) n l ∙ ap (λ (k : ℕ). drop k l) split in
    sym (back new) ∙ ap (drop (8192 - n)) after ∙ back old

pub other_stays : (slot n : ℕ) (old new : List ℕ) → slot ≤ 1 → n ≤ 8192 → Torn (state_slot_place slot) n old new → (volumes : ℕ) (session : List ℕ) (other : ℕ) → other ≤ 1 → other ≢ slot → state_of volumes session other new ≡ state_of volumes session other old
other_stays zero n old new at le torn volumes session zero within differs = absurd (differs refl)
other_stays zero n old new at le torn volumes session (suc zero) within differs = ap (λ (t : List ℕ). ok_or (state_at volumes session t) 8192) (second_stays n old new le torn)
other_stays zero n old new at le torn volumes session (suc (suc other)) within differs = absurd (omega (arith, within))
other_stays (suc zero) n old new at le torn volumes session zero within differs =
    let same : state_at volumes session new ≡ state_at volumes session old =
    sym (window volumes session 8192 new (omega arith)) ∙ ap (state_at volumes session) torn.before ∙ window volumes session 8192 old (omega arith) in
    ap (λ (o : Option Stored). ok_or o 0) same
other_stays (suc zero) n old new at le torn volumes session (suc zero) within differs = absurd (differs refl)
other_stays (suc zero) n old new at le torn volumes session (suc (suc other)) within differs = absurd (omega (arith, within))
other_stays (suc (suc slot)) n old new at le torn volumes session other within differs = absurd (omega (arith, at))

pub one_slot : (slot n place k : ℕ) (old new : List ℕ) → slot ≤ 1 → n ≤ 8192 → place ≡ state_slot_place slot → k ≡ n → Torn place k old new → OneSlot slot n old new
one_slot slot n place k old new at le place_is k_is torn =
    let there = subst (λ (p : ℕ). Torn p k old new) place_is torn in
    let here = subst (λ (j : ℕ). Torn (state_slot_place slot) j old new) k_is there in
    record { torn = here; others = other_stays slot n old new at le here }

-- ---- what was written is there

pub stands : (volumes slot : ℕ) (session : List ℕ) (level : Level) (rows : List PairRow) (old new : List ℕ) → is_session session ≡ true → AreRowsSound rows → are_below volumes rows ≡ true → state_slot_place slot ≤ length old
    → new ≡ patched (state_slot_place slot) (slot_spelling session level rows) old → state_of volumes session slot new ≡ ok_or (Some (record { level = level; rows = rows })) (state_slot_place slot)
stands volumes slot session level rows old new is keeps below long written =
    let spelled = slot_spelling session level rows in
    let front = take (state_slot_place slot) old in
    let rest = drop (state_slot_place slot + length spelled) old in
    let there : drop (state_slot_place slot) new ≡ spelled ++ rest =
    ap (drop (state_slot_place slot)) (written ∙ append_assoc front spelled rest) ∙ drop_at front (spelled ++ rest) (state_slot_place slot) (omega (arith, length-take (state_slot_place slot) old, long)) in
    ap (λ (t : List ℕ). ok_or (state_at volumes session t) (state_slot_place slot)) there ∙ ap (λ (o : Option Stored). ok_or o (state_slot_place slot)) (states_back volumes session level rows rest is keeps below)

-- ---- what was read of a slot

pub read_is : (volumes slot : ℕ) (session state bytes : List ℕ) → bytes ≡ take 2447 (drop (state_slot_place slot) state) → state_of volumes session slot state ≡ ok_or (state_at volumes session bytes) (state_slot_place slot)
read_is volumes slot session state bytes is =
    ap (λ (o : Option Stored). ok_or o (state_slot_place slot)) (sym (ap (state_at volumes session) is ∙ window volumes session 2447 (drop (state_slot_place slot) state) (omega arith)))

-- a level and a table
pub some_state : (session : List ℕ) (o : Option Stored) (found : Level × Table) → Some found ≡ option_map (with_table session) o → o ≡ Some (record { level = found.0; rows = found.1.rows })
some_state session None found e = absurd cc
some_state session (Some s) found e = ap (λ (f : Level × Table). Some (record { level = f.0; rows = f.1.rows })) (sym (same_Some found (with_table session s) e))

pub found_started : (session : List ℕ) (o : Option Stored) (found : Level × Table) → Some found ≡ option_map (with_table session) o → found.1 ≡ started_table session found.1.rows
found_started session None found e = absurd cc
found_started session (Some s) found e =
    let same = same_Some found (with_table session s) e in
    ap (λ (f : Level × Table). f.1) same ∙ ap (λ (f : Level × Table). started_table session f.1.rows) (sym same)

pub no_state : (session : List ℕ) (o : Option Stored) → None ≡ option_map (with_table session) o → o ≡ None
no_state session None e = refl
no_state session (Some s) e = absurd cc
