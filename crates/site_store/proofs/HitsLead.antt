-- A change's items with those of the hits after them lead to the rows with the hits, also from rows in which these hits are told.
use Rattle.std.proofs.Common.{◌≡◌, inl, inr, ℕ, zero, suc, ◌+◌, ◌<◌, ◌==◌, Bool, true, false, cond, ◌||◌, List, [], ◌∷◌, ◌++◌, length, Option, Some, None, refl, sym, ap, subst, ◌∙◌, eq-eqb, eqb-true}
use Rattle.std.specs.Prelude.{slice_get, nat_lt}
use Rattle.std.specs.List.{list_any}
use Rattle.std.proofs.lemmas.Bool.{and_parts, ltb-true}
use Rattle.std.proofs.lemmas.Option.{same_Some}
use Rattle.tod_stamp.specs.declared.stamp.Stamp.{Stamp}
use Rattle.pair_table.specs.declared.level.Level.{Level}
use Rattle.pair_table.specs.declared.row.PairState.{PairState}
use Rattle.pair_table.specs.declared.row.PairState.TheVariants.{Suspended}
use Rattle.pair_table.specs.declared.row.PairRow.{PairRow}
use Rattle.pair_table.specs.declared.row.SuspendCause.TheVariants.{Device}
use Rattle.pair_table.specs.Devices.{is_among}
use Rattle.pair_table.specs.Tables.{are_below, in_state, is_of, none_clash, row_of, with_row}
use Rattle.pair_table.proofs.TableLaws.{either_false, first_apart}
use Rattle.record_rows.specs.ChangedRows.{rows_in_states}
use Rattle.record_rows.specs.GroupRows.{row_in}
use Rattle.record_rows.specs.Hits.{hit_now, is_hit_now, rows_marked}
use Rattle.record_rows.specs.Records.{rows_with_hits}
use Rattle.record_rows.proofs.Devices.{apart_of}
use Rattle.record_rows.proofs.HitRows.{among_hit}
use Rattle.row_changes.specs.Changes.{hit_row, since}
use Rattle.state_set.specs.Slots.{are_rows}
use Rattle.state_set.proofs.After.{rows_parts}
use Rattle.site_means.specs.Walk.{first_unfit, fits_rows, rows_by, rows_through}
use Rattle.site_means.proofs.Goes.{rows_append}
use Rattle.xrc_journal.specs.Items.{Item, item_spelling}
use Rattle.xrc_journal.specs.Items.Item.{Pair}
use Rattle.site_store.specs.declared.hits.Hits.{Hits}
use Rattle.site_store.specs.Changing.{Lead}
use Rattle.site_store.specs.Hits.{AreHits, NextStates, is_reached_by, pair_in, pairs_with_next, state_by_hits, with_hits}
use Rattle.site_store.proofs.Breaks.{eqb_sym_false}
use Rattle.site_store.proofs.HitStates.{hits_make_rows}
use Rattle.site_store.proofs.RowsNear.{AreNear, IsNear, bare, bare_rows, near_bare, near_same, near_through, near_unfit, same_are}

-- ---- items in turn

unfit_first : (volumes place : ℕ) (xs ys : List Item) (rows : List PairRow) → first_unfit volumes place rows xs ≡ None → ((p : ℕ) → first_unfit volumes p (rows_through xs rows) ys ≡ None) → first_unfit volumes place rows (xs ++ ys) ≡ None
unfit_first volumes place [] ys rows first last = last place
unfit_first volumes place (i ∷ xs) ys rows first last = by_fit (fits_rows volumes rows i) first (λ more. unfit_first volumes (place + length (item_spelling i)) xs ys (rows_by i rows) more last)
  where
    by_fit : (fits : Bool) → cond fits (first_unfit volumes (place + length (item_spelling i)) (rows_by i rows) xs) (Some place) ≡ None
        → (first_unfit volumes (place + length (item_spelling i)) (rows_by i rows) xs ≡ None → first_unfit volumes (place + length (item_spelling i)) (rows_by i rows) (xs ++ ys) ≡ None)
        → cond fits (first_unfit volumes (place + length (item_spelling i)) (rows_by i rows) (xs ++ ys)) (Some place) ≡ None
    by_fit true first more = more first
    by_fit false first more = absurd cc

-- ---- pairs of rows that stand among some rows

-- the row is its device's, but for the state
abbrev IsAmongBare : List PairRow → PairRow → Type 0
IsAmongBare rows row = row_of row.device (bare_rows rows) ≡ Some (bare row)

-- A row in the place of its own keeps the others.
bare_with : (row : PairRow) (rows : List PairRow) → IsAmongBare rows row → bare_rows (with_row row rows) ≡ bare_rows rows
bare_with row [] among = absurd cc
bare_with row (r ∷ rows) among = by_device (is_of row.device r) among (bare_with row rows)
  where
    by_device : (here : Bool) → cond here (Some (bare r)) (row_of row.device (bare_rows rows)) ≡ Some (bare row) → (IsAmongBare rows row → bare_rows (with_row row rows) ≡ bare_rows rows) → bare_rows (cond here (row ∷ rows) (r ∷ with_row row rows)) ≡ bare_rows (r ∷ rows)
    by_device true is more = ap (λ (s : PairRow). s ∷ bare_rows rows) (sym (same_Some (bare r) (bare row) is))
    by_device false is more = ap (λ (l : List PairRow). bare r ∷ l) (more is)

-- A device with a row is the device of one.
row_then_any : (device : ℕ) (rows : List PairRow) (row : PairRow) → row_of device (bare_rows rows) ≡ Some row → list_any (is_of device) rows ≡ true
row_then_any device [] row is = absurd cc
row_then_any device (r ∷ rows) row is = by_first (is_of device r) (row_then_any device rows row) is
  where
    by_first : (b : Bool) → (row_of device (bare_rows rows) ≡ Some row → list_any (is_of device) rows ≡ true) → cond b (Some (bare r)) (row_of device (bare_rows rows)) ≡ Some row → (b || list_any (is_of device) rows) ≡ true
    by_first true more e = refl
    by_first false more e = more e

-- after a row of another device it is among them still
more_among : (r : PairRow) (rows : List PairRow) (row : PairRow) → list_any (is_of r.device) rows ≡ false → IsAmongBare rows row → IsAmongBare (r ∷ rows) row
more_among r rows row apart among = one (is_of row.device r) refl
  where
    one : (b : Bool) → is_of row.device r ≡ b → IsAmongBare (r ∷ rows) row
    one false differ = (λ i. cond (differ i) (Some (bare r)) (row_of row.device (bare_rows rows))) ∙ among
    one true same =
        let is : row.device ≡ r.device = eqb-true row.device r.device same in
        let there : list_any (is_of r.device) rows ≡ true = ap (λ (d : ℕ). list_any (is_of d) rows) (sym is) ∙ row_then_any row.device rows (bare row) among in
        absurd (cc (there, apart))

module _ (next : NextStates) where
  -- ---- they fit

  pairs_fit : (volumes place : ℕ) (all ns rows : List PairRow) → are_rows volumes all ≡ true → bare_rows ns ≡ bare_rows all → none_clash rows ≡ true → ((row : PairRow) → IsAmongBare rows row → IsAmongBare all row) → first_unfit volumes place ns (pairs_with_next next rows) ≡ None
  pairs_fit volumes place all ns [] are same apart within = refl
  pairs_fit volumes place all ns (r ∷ rows) are same apart within =
      let first = first_apart r rows apart in
      by_state (next r) (λ (p : ℕ) (l : List PairRow) still. pairs_fit volumes p all l rows are still first.others (λ row among. within row (more_among r rows row first.devices among)))
    where
      by_state : (o : Option PairState) → ((p : ℕ) (l : List PairRow) → bare_rows l ≡ bare_rows all → first_unfit volumes p l (pairs_with_next next rows) ≡ None) → first_unfit volumes place ns (pair_in r o ++ pairs_with_next next rows) ≡ None
      by_state None more = more place ns same
      by_state (Some state) more =
          let row = in_state state r in
          let here : IsAmongBare (r ∷ rows) row = λ i. cond (eq-eqb r.device r.device refl i) (Some (bare r)) (row_of r.device (bare_rows rows)) in
          let among : IsAmongBare ns row = ap (λ (l : List PairRow). row_of row.device l) same ∙ within row here in
          let still : bare_rows (with_row row ns) ≡ bare_rows all = bare_with row ns among ∙ same in
          let fits : are_rows volumes (with_row row ns) ≡ true = same_are volumes (with_row row ns) all still ∙ are in
          (λ i. cond (fits i) (first_unfit volumes (place + length (item_spelling (Pair 2 row))) (with_row row ns) (pairs_with_next next rows)) (Some place))
          ∙ more (place + length (item_spelling (Pair 2 row))) (with_row row ns) still

  -- ---- and lead

  -- pairs of other devices leave a row
  after_row : (r : PairRow) (rows before : List PairRow) → list_any (is_of r.device) rows ≡ false → rows_through (pairs_with_next next rows) (r ∷ before) ≡ r ∷ rows_through (pairs_with_next next rows) before
  after_row r [] before apart = refl
  after_row r (s ∷ rows) before apart =
      let parts = either_false (is_of r.device s) (list_any (is_of r.device) rows) apart in
      by_state (next s) (eqb_sym_false r.device s.device parts.0) (λ l. after_row r rows l parts.1)
    where
      by_state : (o : Option PairState) → (s.device == r.device) ≡ false → ((l : List PairRow) → rows_through (pairs_with_next next rows) (r ∷ l) ≡ r ∷ rows_through (pairs_with_next next rows) l)
          → rows_through (pair_in s o ++ pairs_with_next next rows) (r ∷ before) ≡ r ∷ rows_through (pair_in s o ++ pairs_with_next next rows) before
      by_state None other more = more before
      by_state (Some state) other more = ap (λ (b : Bool). rows_through (pairs_with_next next rows) (cond b (in_state state s ∷ before) (r ∷ with_row (in_state state s) before))) other ∙ more (with_row (in_state state s) before)

  -- Each row that is hit changes.
  abbrev pub ChangeHit : (failed : List Bool) → List PairRow → Type 0
  ChangeHit failed rows = (i : ℕ) (row : PairRow) → slice_get rows i ≡ Some row → is_hit_now failed row ≡ true → (state : PairState) × (next row ≡ Some state)

  near_lead : (failed : List Bool) (ns bs : List PairRow) → AreNear failed ns bs → none_clash bs ≡ true → ChangeHit failed bs → rows_through (pairs_with_next next bs) ns ≡ rows_in_states next bs
  near_lead failed [] [] near apart change = refl
  near_lead failed [] (b ∷ bs) near apart change = absurd near
  near_lead failed (a ∷ ns) [] near apart change = absurd near
  near_lead failed (a ∷ ns) (b ∷ bs) near apart change =
      let first = first_apart b bs apart in
      by_state (next b) refl first.devices (near_lead failed ns bs near.1 first.others (λ i row at. change (suc i) row at))
    where
      device : a.device ≡ b.device
      device = ap (λ (r : PairRow). r.device) near.0.bare_is

      by_state : (o : Option PairState) → next b ≡ o → list_any (is_of b.device) bs ≡ false → rows_through (pairs_with_next next bs) ns ≡ rows_in_states next bs
          → rows_through (pair_in b o ++ pairs_with_next next bs) (a ∷ ns) ≡ row_in b o ∷ rows_in_states next bs
      by_state None none others more =
          let same : a ≡ b = elim near.0.same [ inl same ↦ same | inr hit ↦ (let c = change 0 b refl hit in let some = c.1 in absurd (cc (some, none))) ] in
          after_row a bs ns (ap (λ (d : ℕ). list_any (is_of d) bs) device ∙ others) ∙ (λ i. same i ∷ more i)
      by_state (Some state) some others more =
          ap (λ (x : Bool). rows_through (pairs_with_next next bs) (cond x (in_state state b ∷ ns) (a ∷ with_row (in_state state b) ns))) (eq-eqb b.device a.device (sym device))
          ∙ after_row (in_state state b) bs ns others ∙ ap (λ (l : List PairRow). in_state state b ∷ l) more

-- ---- hits

hit_changes : (level : Level) (time : Stamp) (failed : List Bool) (marked : List ℕ) (rows : List PairRow) (hits : Hits) → AreHits level time failed marked rows hits → none_clash rows ≡ true → are_below 64 rows ≡ true → ChangeHit (with_hits hits) failed rows
hit_changes level time failed marked rows hits are apart below i row at hit =
    let lt = below_at rows i row below at in
    let among : is_among row.device (hit_now failed rows) ≡ true = among_hit failed rows i row (apart_of rows apart) at ∙ hit in
    (Suspended Device hits.time, ap (λ (b : Bool). state_by_hits b (is_reached_by hits row.device) hits.cause hits.time row.state) (are.devices row.device lt ∙ among))
  where
    below_at : (rows : List PairRow) (i : ℕ) (row : PairRow) → are_below 64 rows ≡ true → slice_get rows i ≡ Some row → row.device < 64
    below_at [] i row below is = absurd cc
    below_at (r ∷ rows) zero row below is =
        let same : r ≡ row = cc is in
        subst (λ (s : PairRow). s.device < 64) same (ltb-true r.device 64 (and_parts (nat_lt r.device 64) (are_below 64 rows) below).0)
    below_at (r ∷ rows) (suc i) row below is = below_at rows i row (and_parts (nat_lt r.device 64) (are_below 64 rows) below).1 is

-- The rows of a mark are near those before it.
marked_near : (failed : List Bool) (time : ℕ) (hit : List ℕ) (rows : List PairRow) → ((i : ℕ) (row : PairRow) → slice_get rows i ≡ Some row → is_among row.device hit ≡ is_hit_now failed row) → AreNear failed (rows_marked time hit rows) rows
marked_near failed time hit [] is = tt
marked_near failed time hit (r ∷ rows) is = (one (is_among r.device hit) refl, marked_near failed time hit rows (λ i row at. is (suc i) row at))
  where
    one : (b : Bool) → is_among r.device hit ≡ b → IsNear failed (hit_row hit time r) r
    one true among = record { bare_is = ap (λ (c : Bool). bare (cond c (in_state (since Device time) r) r)) among; same = inr (sym (is 0 r refl) ∙ among) }
    one false not = let same = ap (λ (c : Bool). cond c (in_state (since Device time) r) r) not in record { bare_is = ap bare same; same = inl same }

pub near_marked : (failed : List Bool) (time : ℕ) (rows : List PairRow) → none_clash rows ≡ true → AreNear failed (rows_marked time (hit_now failed rows) rows) rows
near_marked failed time rows apart = marked_near failed time (hit_now failed rows) rows (λ i row at. among_hit failed rows i row (apart_of rows apart) at)

-- ---- a change and its hits

module _ (level : Level) (cut : Stamp) (failed : List Bool) (rows : List PairRow) (hits : Hits) (are : AreHits level cut failed [] rows hits) (volumes : ℕ) (keep : are_rows volumes rows ≡ true) (few : are_below 64 rows ≡ true) (changed : List Item) (first : List PairRow)
    (leads : Lead volumes changed first rows) where
  apart : none_clash rows ≡ true
  apart = (rows_parts volumes rows keep).apart

  -- From rows that are near the first ones they lead to the rows with the hits.
  pub near_leads : (ns : List PairRow) → AreNear failed ns first → Lead volumes (changed ++ pairs_with_next (with_hits hits) rows) ns (rows_with_hits level cut.0 failed rows)
  near_leads ns near =
      let pairs = pairs_with_next (with_hits hits) rows in
      let then : AreNear failed (rows_through changed ns) rows = subst (λ (l : List PairRow). AreNear failed (rows_through changed ns) l) leads.leads (near_through failed changed ns first near) in
      record {
        leads = rows_append changed pairs ns ∙ near_lead (with_hits hits) failed (rows_through changed ns) rows then apart (hit_changes level cut failed [] rows hits are apart few) ∙ hits_make_rows level cut failed rows hits are few;
        fit = unfit_first volumes 0 changed pairs ns (near_unfit failed volumes 0 changed ns first near ∙ leads.fit) (λ p. pairs_fit (with_hits hits) volumes p rows (rows_through changed ns) rows keep (near_bare failed (rows_through changed ns) rows then) apart (λ row among. among));
      }

  pub change_leads : Lead volumes (changed ++ pairs_with_next (with_hits hits) rows) first (rows_with_hits level cut.0 failed rows)
  change_leads = near_leads first (near_same failed first)
