-- The items of a command's change lead from the rows before it to those after it.
use Rattle.std.proofs.Common.{◌≡◌, ◌≢◌, ℕ, ◌+◌, ◌≤◌, ◌==◌, ◌&&◌, ◌||◌, Bool, true, false, not, cond, nat_le, List, [], ◌∷◌, ◌++◌, length, map, filter, Option, Some, None, refl, sym, ap, subst, ◌∙◌, arith, eqb-true, eq-eqb}
use Rattle.std.specs.Prelude.{find}
use Rattle.std.specs.List.{list_any, list_all}
use Rattle.std.proofs.lemmas.Bool.{and_from, and_parts, le-leb}
use Rattle.pair_table.specs.declared.command.Change.{Change}
use Rattle.pair_table.specs.declared.command.Change.TheVariants.{Nothing, Started, Added, Resumed, Gone as GoneRows, Suspended as SuspendedRows, Ended}
use Rattle.pair_table.specs.declared.command.Command.{Command}
use Rattle.pair_table.specs.declared.command.Command.TheVariants.{Start, AddPair, DelPair, Suspend, Query, End}
use Rattle.pair_table.specs.declared.names.NamedDevice.{NamedDevice}
use Rattle.pair_table.specs.declared.row.PairState.{PairState}
use Rattle.pair_table.specs.declared.row.PairState.TheVariants.{Suspended}
use Rattle.pair_table.specs.declared.row.PairRow.{PairRow}
use Rattle.pair_table.specs.declared.row.SuspendCause.TheVariants.{Command as ByCommand}
use Rattle.pair_table.specs.Commands.{add_to, added, change_of, devices_of, is_chosen, is_to_suspend, new_row, new_row_for, rows_after, wants_memory}
use Rattle.pair_table.specs.Naming.{Naming, labelled_device, primary_of}
use Rattle.pair_table.specs.Refusals.{is_of_primary, is_start, refuses_command, refuses_primary, row_of_primary}
use Rattle.pair_table.specs.Tables.{AreRowsSound, are_below, in_state, is_of, most_rows, none_clash, resumed_in, row_changed, row_of, with_resumed, with_row, without_row}
use Rattle.pair_table.proofs.AddLaws.{new_pair, with_row-last}
use Rattle.pair_table.proofs.PutLaws.{number_sym}
use Rattle.pair_table.proofs.StateLaws.{changed_of_primary}
use Rattle.pair_table.proofs.TableLaws.{changed-absent, either_false, first_apart, not_false, without-absent}
use Rattle.state_set.specs.Slots.{are_rows}
use Rattle.record_rows.specs.ChangedRows.{rows_in_states}
use Rattle.record_rows.specs.GroupRows.{row_in}
use Rattle.site_means.specs.Walk.{first_unfit, rows_through}
use Rattle.xrc_journal.specs.Items.{Item, item_spelling}
use Rattle.xrc_journal.specs.Items.Item.{Pair, Gone}
use Rattle.site_store.specs.Changing.{Lead, changed_items, gone_of, named_devices, pair_item, pairs_of}
use Rattle.site_store.specs.Commands.{alters}
use Rattle.site_store.specs.Hits.{NextStates, pair_in, pairs_with_next}
use Rattle.site_store.proofs.FormedItems.{pairs_lead}
use Rattle.site_store.proofs.RecordPairsFit.{next_pairs_fit}

-- ---- how many devices, and whether a row changes

few_chosen : (test : PairRow → Bool) (rows : List PairRow) → length (devices_of (filter test rows)) ≤ length rows
few_chosen test [] = omega arith
few_chosen test (r ∷ rows) = by_test (test r) (few_chosen test rows)
  where
    by_test : (b : Bool) → length (devices_of (filter test rows)) ≤ length rows → length (devices_of (cond b (r ∷ filter test rows) (filter test rows))) ≤ length (r ∷ rows)
    by_test true le = omega (arith, le)
    by_test false le = omega (arith, le)

pub few_named : (names : Naming) (command : Command) (rows : List PairRow) → (wants_memory command ≡ true → length rows ≤ 64) → named_devices (change_of names command rows) ≤ 64
few_named names (Start level) rows few = omega arith
few_named names (AddPair p s g) rows few = by_names (row_of_primary p rows) (labelled_device s names)
  where
    by_names : (o : Option PairRow) (l : Option NamedDevice) → named_devices (added o l) ≤ 64
    by_names (Some r) l = omega arith
    by_names None (Some l) = omega arith
    by_names None None = omega arith
few_named names (DelPair choice) rows few = omega (arith, few_chosen (is_chosen choice) rows, few refl)
few_named names (Suspend choice) rows few = omega (arith, few_chosen (is_to_suspend choice) rows, few refl)
few_named names Query rows few = omega arith
few_named names End rows few = omega arith

-- A change with items alters a row.
pub alters_some : (change : Change) (rows : List PairRow) → changed_items change rows ≢ [] → alters change ≡ true
alters_some Nothing rows some = absurd (some refl)
alters_some Started rows some = absurd (some refl)
alters_some (Added device) rows some = refl
alters_some (Resumed device) rows some = refl
alters_some (GoneRows []) rows some = absurd (some refl)
alters_some (GoneRows (d ∷ devices)) rows some = refl
alters_some (SuspendedRows []) rows some = absurd (some refl)
alters_some (SuspendedRows (d ∷ devices)) rows some = refl
alters_some Ended rows some = absurd (some refl)

-- ---- devices of other rows

abbrev is_other : (device d : ℕ) → Bool
is_other device d = not (d == device)

others_chosen : (test : PairRow → Bool) (device : ℕ) (rows : List PairRow) → list_any (is_of device) rows ≡ false → list_all (is_other device) (devices_of (filter test rows)) ≡ true
others_chosen test device [] none = refl
others_chosen test device (r ∷ rows) none =
    let parts = either_false (device == r.device) (list_any (is_of device) rows) none in
    by_test (test r) (number_sym r.device device ∙ parts.0) (others_chosen test device rows parts.1)
  where
    by_test : (b : Bool) → (r.device == device) ≡ false → list_all (is_other device) (devices_of (filter test rows)) ≡ true → list_all (is_other device) (devices_of (cond b (r ∷ filter test rows) (filter test rows))) ≡ true
    by_test true other more = and_from (is_other device r.device) (list_all (is_other device) (devices_of (filter test rows))) (not_false (r.device == device) other) more
    by_test false other more = more

not_is : (b : Bool) → not b ≡ true → b ≡ false
not_is true e = absurd (cc e)
not_is false e = refl

-- ---- rows that go

gone_after : (devices : List ℕ) (r : PairRow) (rows : List PairRow) → list_all (is_other r.device) devices ≡ true → rows_through (gone_of devices) (r ∷ rows) ≡ r ∷ rows_through (gone_of devices) rows
gone_after [] r rows others = refl
gone_after (d ∷ devices) r rows others =
    let parts = and_parts (is_other r.device d) (list_all (is_other r.device) devices) others in
    ap (λ (b : Bool). rows_through (gone_of devices) (cond (not b) (r ∷ without_row d rows) (without_row d rows))) (not_is (d == r.device) parts.0) ∙ gone_after devices r (without_row d rows) parts.1

gone_fit_after : (volumes place : ℕ) (devices : List ℕ) (r : PairRow) (rows : List PairRow) → list_all (is_other r.device) devices ≡ true → first_unfit volumes place rows (gone_of devices) ≡ None → first_unfit volumes place (r ∷ rows) (gone_of devices) ≡ None
gone_fit_after volumes place [] r rows others fit = refl
gone_fit_after volumes place (d ∷ devices) r rows others fit =
    let parts = and_parts (is_other r.device d) (list_all (is_other r.device) devices) others in
    let differ : (d == r.device) ≡ false = not_is (d == r.device) parts.0 in
    (λ i. cond (differ i || list_any (is_of d) rows) (first_unfit volumes (place + length (item_spelling (Gone d))) (cond (not (differ i)) (r ∷ without_row d rows) (without_row d rows)) (gone_of devices)) (Some place))
    ∙ by_row (list_any (is_of d) rows) fit (λ more. gone_fit_after volumes (place + length (item_spelling (Gone d))) devices r (without_row d rows) parts.1 more)
  where
    by_row : (b : Bool) → cond b (first_unfit volumes (place + length (item_spelling (Gone d))) (without_row d rows) (gone_of devices)) (Some place) ≡ None
        → (first_unfit volumes (place + length (item_spelling (Gone d))) (without_row d rows) (gone_of devices) ≡ None → first_unfit volumes (place + length (item_spelling (Gone d))) (r ∷ without_row d rows) (gone_of devices) ≡ None)
        → cond b (first_unfit volumes (place + length (item_spelling (Gone d))) (r ∷ without_row d rows) (gone_of devices)) (Some place) ≡ None
    by_row true fit more = more fit
    by_row false fit more = absurd (cc fit)

gone_leads : (test : PairRow → Bool) (rows : List PairRow) → none_clash rows ≡ true → rows_through (gone_of (devices_of (filter test rows))) rows ≡ filter (λ r. not (test r)) rows
gone_leads test [] apart = refl
gone_leads test (r ∷ rows) apart =
    let first = first_apart r rows apart in
    by_test (test r) (without-absent r.device rows first.devices) (others_chosen test r.device rows first.devices) (gone_leads test rows first.others)
  where
    own : (r.device == r.device) ≡ true
    own = eq-eqb r.device r.device refl

    by_test : (b : Bool) → without_row r.device rows ≡ rows → list_all (is_other r.device) (devices_of (filter test rows)) ≡ true → rows_through (gone_of (devices_of (filter test rows))) rows ≡ filter (λ s. not (test s)) rows
        → rows_through (gone_of (devices_of (cond b (r ∷ filter test rows) (filter test rows)))) (r ∷ rows) ≡ cond (not b) (r ∷ filter (λ s. not (test s)) rows) (filter (λ s. not (test s)) rows)
    by_test true away others more =
        (λ i. rows_through (gone_of (devices_of (filter test rows))) (cond (not (own i)) (r ∷ without_row r.device rows) (without_row r.device rows)))
        ∙ ap (λ (l : List PairRow). rows_through (gone_of (devices_of (filter test rows))) l) away ∙ more
    by_test false away others more = gone_after (devices_of (filter test rows)) r rows others ∙ ap (λ (l : List PairRow). r ∷ l) more

gone_fits : (volumes place : ℕ) (test : PairRow → Bool) (rows : List PairRow) → none_clash rows ≡ true → first_unfit volumes place rows (gone_of (devices_of (filter test rows))) ≡ None
gone_fits volumes place test [] apart = refl
gone_fits volumes place test (r ∷ rows) apart =
    let first = first_apart r rows apart in
    by_test (test r) (without-absent r.device rows first.devices) (others_chosen test r.device rows first.devices) (λ p. gone_fits volumes p test rows first.others)
  where
    own : (r.device == r.device) ≡ true
    own = eq-eqb r.device r.device refl

    by_test : (b : Bool) → without_row r.device rows ≡ rows → list_all (is_other r.device) (devices_of (filter test rows)) ≡ true → ((p : ℕ) → first_unfit volumes p rows (gone_of (devices_of (filter test rows))) ≡ None)
        → first_unfit volumes place (r ∷ rows) (gone_of (devices_of (cond b (r ∷ filter test rows) (filter test rows)))) ≡ None
    by_test true away others more =
        (λ i. cond (own i || list_any (is_of r.device) rows) (first_unfit volumes (place + length (item_spelling (Gone r.device))) (cond (not (own i)) (r ∷ without_row r.device rows) (without_row r.device rows)) (gone_of (devices_of (filter test rows)))) (Some place))
        ∙ ap (λ (l : List PairRow). first_unfit volumes (place + length (item_spelling (Gone r.device))) l (gone_of (devices_of (filter test rows)))) away ∙ more (place + length (item_spelling (Gone r.device)))
    by_test false away others more = gone_fit_after volumes place (devices_of (filter test rows)) r rows others (more place)

-- ---- rows that pass a test, in another state

-- what becomes of the rows that pass
abbrev next_where : (test : PairRow → Bool) → PairState → NextStates
next_where test state r = cond (test r) (Some state) None

rows_where : (test : PairRow → Bool) (state : PairState) (rows : List PairRow) → rows_in_states (next_where test state) rows ≡ map (λ r. cond (test r) (in_state state r) r) rows
rows_where test state [] = refl
rows_where test state (r ∷ rows) = λ i. by_test (test r) i ∷ rows_where test state rows i
  where
    by_test : (b : Bool) → row_in r (cond b (Some state) None) ≡ cond b (in_state state r) r
    by_test true = refl
    by_test false = refl

pairs_after : (devices : List ℕ) (r : PairRow) (rows : List PairRow) → list_all (is_other r.device) devices ≡ true → pairs_of devices (r ∷ rows) ≡ pairs_of devices rows
pairs_after [] r rows others = refl
pairs_after (d ∷ devices) r rows others =
    let parts = and_parts (is_other r.device d) (list_all (is_other r.device) devices) others in
    (λ i. pair_item (cond (not_is (d == r.device) parts.0 i) (Some r) (row_of d rows)) ++ pairs_after devices r rows parts.1 i)

pairs_where : (test : PairRow → Bool) (state : PairState) (rows : List PairRow) → none_clash rows ≡ true → pairs_of (devices_of (filter test rows)) (map (λ r. cond (test r) (in_state state r) r) rows) ≡ pairs_with_next (next_where test state) rows
pairs_where test state [] apart = refl
pairs_where test state (r ∷ rows) apart =
    let first = first_apart r rows apart in
    by_test (test r) (others_chosen test r.device rows first.devices) (pairs_where test state rows first.others)
  where
    by_test : (b : Bool) → list_all (is_other r.device) (devices_of (filter test rows)) ≡ true → pairs_of (devices_of (filter test rows)) (map (λ s. cond (test s) (in_state state s) s) rows) ≡ pairs_with_next (next_where test state) rows
        → pairs_of (devices_of (cond b (r ∷ filter test rows) (filter test rows))) (cond b (in_state state r) r ∷ map (λ s. cond (test s) (in_state state s) s) rows) ≡ pair_in r (cond b (Some state) None) ++ pairs_with_next (next_where test state) rows
    by_test true others more =
        (λ i. pair_item (cond (eq-eqb r.device r.device refl i) (Some (in_state state r)) (row_of r.device (map (λ s. cond (test s) (in_state state s) s) rows))) ++ pairs_after (devices_of (filter test rows)) (in_state state r) (map (λ s. cond (test s) (in_state state s) s) rows) others i)
        ∙ ap (λ (l : List Item). Pair 2 (in_state state r) ∷ l) more
    by_test false others more = pairs_after (devices_of (filter test rows)) r (map (λ s. cond (test s) (in_state state s) s) rows) others ∙ more

-- ---- one row

any_there : (d : ℕ) (rows : List PairRow) (r : PairRow) → row_of d rows ≡ Some r → list_any (is_of d) rows ≡ true
any_there d [] r found = absurd (cc found)
any_there d (s ∷ rows) r found = by_first (d == s.device) found (any_there d rows r)
  where
    by_first : (b : Bool) → cond b (Some s) (row_of d rows) ≡ Some r → (row_of d rows ≡ Some r → list_any (is_of d) rows ≡ true) → (b || list_any (is_of d) rows) ≡ true
    by_first true found more = refl
    by_first false found more = more found

-- After a row with which none clashes a device's row is found too.
after_other : (s : PairRow) (rows : List PairRow) (r : PairRow) → none_clash (s ∷ rows) ≡ true → row_of r.device rows ≡ Some r → row_of r.device (s ∷ rows) ≡ Some r
after_other s rows r apart there = by_device (r.device == s.device) refl
  where
    by_device : (b : Bool) → (r.device == s.device) ≡ b → cond (r.device == s.device) (Some s) (row_of r.device rows) ≡ Some r
    by_device true is =
        let any : list_any (is_of s.device) rows ≡ true = ap (λ (d : ℕ). list_any (is_of d) rows) (sym (eqb-true r.device s.device is)) ∙ any_there r.device rows r there in
        let none = (first_apart s rows apart).devices in
        absurd (cc (any, none))
    by_device false is = (λ i. cond (is i) (Some s) (row_of r.device rows)) ∙ there

row_there : (test : PairRow → Bool) (rows : List PairRow) (r : PairRow) → none_clash rows ≡ true → find test rows ≡ Some r → row_of r.device rows ≡ Some r
row_there test [] r apart found = absurd (cc found)
row_there test (s ∷ rows) r apart found =
    let first = first_apart s rows apart in
    by_test (test s) found (λ e. row_there test rows r first.others e)
  where
    own : s ≡ r → row_of r.device (s ∷ rows) ≡ Some r
    own same = (λ i. cond (eq-eqb r.device s.device (ap (λ (k : PairRow). k.device) (sym same)) i) (Some s) (row_of r.device rows)) ∙ ap Some same

    by_test : (b : Bool) → cond b (Some s) (find test rows) ≡ Some r → (find test rows ≡ Some r → row_of r.device rows ≡ Some r) → row_of r.device (s ∷ rows) ≡ Some r
    by_test true found more = own (cc found)
    by_test false found more = after_other s rows r apart (more found)

-- A change of a row leaves its device.
abbrev LeavesDevice : (PairRow → PairRow) → Type 0
LeavesDevice change = (r : PairRow) → (change r).device ≡ r.device

-- A row put as it is changed is in the place of its own.
put_changed : (change : PairRow → PairRow) (leaves : LeavesDevice change) (rows : List PairRow) (r : PairRow) → none_clash rows ≡ true → row_of r.device rows ≡ Some r → with_row (change r) rows ≡ map (row_changed r.device change) rows
put_changed change leaves [] r apart found = absurd (cc found)
put_changed change leaves (s ∷ rows) r apart found =
    let first = first_apart s rows apart in
    ap (λ (d : ℕ). cond (d == s.device) (change r ∷ rows) (s ∷ with_row (change r) rows)) (leaves r)
    ∙ by_device (r.device == s.device) refl found (λ e. put_changed change leaves rows r first.others e)
  where
    by_device : (b : Bool) → (r.device == s.device) ≡ b → cond b (Some s) (row_of r.device rows) ≡ Some r → (row_of r.device rows ≡ Some r → with_row (change r) rows ≡ map (row_changed r.device change) rows)
        → cond b (change r ∷ rows) (s ∷ with_row (change r) rows) ≡ cond b (change s) s ∷ map (row_changed r.device change) rows
    by_device true is found more =
        let first = first_apart s rows apart in
        let same : s ≡ r = cc found in
        let absent : list_any (is_of r.device) rows ≡ false = ap (λ (d : ℕ). list_any (is_of d) rows) (eqb-true r.device s.device is) ∙ first.devices in
        (λ i. change (sym same i) ∷ sym (changed-absent r.device change rows absent) i)
    by_device false is found more = ap (λ (l : List PairRow). s ∷ l) (more found)

row_as_changed : (change : PairRow → PairRow) (leaves : LeavesDevice change) (rows : List PairRow) (r : PairRow) → row_of r.device rows ≡ Some r → row_of r.device (map (row_changed r.device change) rows) ≡ Some (change r)
row_as_changed change leaves [] r found = absurd (cc found)
row_as_changed change leaves (s ∷ rows) r found = by_device (r.device == s.device) refl found (row_as_changed change leaves rows r)
  where
    by_device : (b : Bool) → (r.device == s.device) ≡ b → cond b (Some s) (row_of r.device rows) ≡ Some r → (row_of r.device rows ≡ Some r → row_of r.device (map (row_changed r.device change) rows) ≡ Some (change r))
        → cond (is_of r.device (cond b (change s) s)) (Some (cond b (change s) s)) (row_of r.device (map (row_changed r.device change) rows)) ≡ Some (change r)
    by_device true is found more =
        let same : s ≡ r = cc found in
        let own : is_of r.device (change s) ≡ true = ap (λ (d : ℕ). r.device == d) (leaves s) ∙ is in
        (λ i. cond (own i) (Some (change s)) (row_of r.device (map (row_changed r.device change) rows))) ∙ ap (λ (k : PairRow). Some (change k)) same
    by_device false is found more = (λ i. cond (is i) (Some s) (row_of r.device (map (row_changed r.device change) rows))) ∙ more found

-- Rows that keep the rules over rows, on devices of a plant.
are_by : (volumes : ℕ) (rows : List PairRow) → length rows ≤ most_rows → none_clash rows ≡ true → are_below volumes rows ≡ true → are_rows volumes rows ≡ true
are_by volumes rows few apart below =
    and_from (nat_le (length rows) most_rows && none_clash rows) (are_below volumes rows) (and_from (nat_le (length rows) most_rows) (none_clash rows) (le-leb (length rows) most_rows few) apart) below

-- One pair leads to the rows with it, where these keep the rules.
one_leads : (volumes : ℕ) (row : PairRow) (before after : List PairRow) → with_row row before ≡ after → are_rows volumes after ≡ true → Lead volumes (Pair 2 row ∷ []) before after
one_leads volumes row before after is are = record { leads = is; fit = (λ i. cond ((ap (λ (l : List PairRow). are_rows volumes l) is ∙ are) i) None (Some 0)) }

-- ---- a put row

row_last : (row : PairRow) (rows : List PairRow) → row_of row.device (with_row row rows) ≡ Some row
row_last row [] = λ i. cond (eq-eqb row.device row.device refl i) (Some row) None
row_last row (r ∷ rows) = by_device (row.device == r.device) refl (row_last row rows)
  where
    by_device : (b : Bool) → (row.device == r.device) ≡ b → row_of row.device (with_row row rows) ≡ Some row → row_of row.device (cond b (row ∷ rows) (r ∷ with_row row rows)) ≡ Some row
    by_device true is more = λ i. cond (eq-eqb row.device row.device refl i) (Some row) (row_of row.device rows)
    by_device false is more = (λ i. cond (is i) (Some r) (row_of row.device (with_row row rows))) ∙ more

pub put_leads : (volumes : ℕ) (row : PairRow) (rows : List PairRow) → length (with_row row rows) ≤ most_rows → none_clash (with_row row rows) ≡ true → are_below volumes (with_row row rows) ≡ true → Lead volumes (changed_items (Added row.device) (with_row row rows)) rows (with_row row rows)
put_leads volumes row rows few apart below =
    subst (λ (o : Option PairRow). Lead volumes (pair_item o ++ []) rows (with_row row rows)) (sym (row_last row rows))
    (one_leads volumes row rows (with_row row rows) refl (are_by volumes (with_row row rows) few apart below))

-- ---- a command

module _ (volumes : ℕ) (names : Naming) (time : ℕ) (rows : List PairRow) (below : are_below volumes rows ≡ true) where
  add_leads : (p s : List ℕ) (g : Option (List ℕ)) → AreRowsSound rows → refuses_primary p s names rows (primary_of p names) ≡ None → AreRowsSound (rows_after names time (AddPair p s g) rows) → are_below volumes (rows_after names time (AddPair p s g) rows) ≡ true
      → Lead volumes (changed_items (change_of names (AddPair p s g) rows) (rows_after names time (AddPair p s g) rows)) rows (rows_after names time (AddPair p s g) rows)
  add_leads p s g keeps own keeps_then below_then = by_row (row_of_primary p rows) refl keeps_then below_then
    where
      new : row_of_primary p rows ≡ None → AreRowsSound (add_to g rows None (new_row_for s g (primary_of p names) (labelled_device s names))) → are_below volumes (add_to g rows None (new_row_for s g (primary_of p names) (labelled_device s names))) ≡ true
          → Lead volumes (changed_items (added None (labelled_device s names)) (add_to g rows None (new_row_for s g (primary_of p names) (labelled_device s names)))) rows (add_to g rows None (new_row_for s g (primary_of p names) (labelled_device s names)))
      new found keeps_then below_then =
          let n = new_pair names rows p s own found in
          let row = new_row s g n.volume n.label in
          let last : rows ++ row ∷ [] ≡ with_row row rows = sym (with_row-last row rows n.unused) in
          let then : AreRowsSound (with_row row rows) = subst AreRowsSound last (subst (λ (x : Type 0). x) (λ i. AreRowsSound (add_to g rows None (new_row_for s g (n.named i) (n.labelled i)))) keeps_then) in
          subst (λ (x : Type 0). x)
          (λ i. Lead volumes (changed_items (added None (sym n.labelled i)) (add_to g rows None (new_row_for s g (sym n.named i) (sym n.labelled i)))) rows (add_to g rows None (new_row_for s g (sym n.named i) (sym n.labelled i))))
          (subst (λ (l : List PairRow). Lead volumes (changed_items (Added n.label.device) l) rows l) (sym last)
          (put_leads volumes row rows then.few then.apart
          (subst (λ (l : List PairRow). are_below volumes l ≡ true) last (subst (λ (x : Type 0). x) (λ i. are_below volumes (add_to g rows None (new_row_for s g (n.named i) (n.labelled i))) ≡ true) below_then))))

      old : (r : PairRow) → row_of_primary p rows ≡ Some r → (let then = map (λ o. cond (is_of_primary r.primary o) (resumed_in g o) o) rows in
          AreRowsSound then → are_below volumes then ≡ true → Lead volumes (changed_items (Resumed r.device) then) rows then)
      old r found keeps_then below_then =
          let there = row_there (is_of_primary p) rows r keeps.apart found in
          let is : with_resumed r.device g rows ≡ map (λ o. cond (is_of_primary r.primary o) (resumed_in g o) o) rows = changed_of_primary p (resumed_in g) rows r keeps.apart found in
          let shown : row_of r.device (map (λ o. cond (is_of_primary r.primary o) (resumed_in g o) o) rows) ≡ Some (resumed_in g r) = ap (λ (l : List PairRow). row_of r.device l) (sym is) ∙ row_as_changed (resumed_in g) (λ k. refl) rows r there in
          subst (λ (o : Option PairRow). Lead volumes (pair_item o ++ []) rows (map (λ k. cond (is_of_primary r.primary k) (resumed_in g k) k) rows)) (sym shown)
          (one_leads volumes (resumed_in g r) rows _ (put_changed (resumed_in g) (λ k. refl) rows r keeps.apart there ∙ is) (are_by volumes _ keeps_then.few keeps_then.apart below_then))

      by_row : (o : Option PairRow) → row_of_primary p rows ≡ o → AreRowsSound (add_to g rows o (new_row_for s g (primary_of p names) (labelled_device s names))) → are_below volumes (add_to g rows o (new_row_for s g (primary_of p names) (labelled_device s names))) ≡ true
          → Lead volumes (changed_items (added o (labelled_device s names)) (add_to g rows o (new_row_for s g (primary_of p names) (labelled_device s names)))) rows (add_to g rows o (new_row_for s g (primary_of p names) (labelled_device s names)))
      by_row (Some r) found keeps_then below_then = old r found keeps_then below_then
      by_row None found keeps_then below_then = new found keeps_then below_then

  suspend_leads : (test : PairRow → Bool) (state : PairState) → AreRowsSound rows → (let then = map (λ r. cond (test r) (in_state state r) r) rows in Lead volumes (pairs_of (devices_of (filter test rows)) then) rows then)
  suspend_leads test state keeps =
      subst (λ (l : List Item). Lead volumes l rows (map (λ r. cond (test r) (in_state state r) r) rows)) (sym (pairs_where test state rows keeps.apart)) (record {
        leads = pairs_lead (next_where test state) rows keeps.apart ∙ rows_where test state rows;
        fit = next_pairs_fit (next_where test state) volumes 0 rows (are_by volumes rows keeps.few keeps.apart below) keeps.apart;
      })

  -- The items of the change lead to the rows after the command.
  pub command_leads : (command : Command) → (wants_memory command ≡ true → AreRowsSound rows) → is_start command ≡ false → refuses_command names rows command ≡ None → AreRowsSound (rows_after names time command rows) → are_below volumes (rows_after names time command rows) ≡ true
      → Lead volumes (changed_items (change_of names command rows) (rows_after names time command rows)) rows (rows_after names time command rows)
  command_leads (Start level) keeps starts own keeps_then below_then = absurd (cc starts)
  command_leads (AddPair p s g) keeps starts own keeps_then below_then = add_leads p s g (keeps refl) own keeps_then below_then
  command_leads (DelPair choice) keeps starts own keeps_then below_then = let k = keeps refl in record { leads = gone_leads (is_chosen choice) rows k.apart; fit = gone_fits volumes 0 (is_chosen choice) rows k.apart }
  command_leads (Suspend choice) keeps starts own keeps_then below_then = suspend_leads (is_to_suspend choice) (Suspended ByCommand (record { 0 = time })) (keeps refl)
  command_leads Query keeps starts own keeps_then below_then = record { leads = refl; fit = refl }
  command_leads End keeps starts own keeps_then below_then = record { leads = refl; fit = refl }
