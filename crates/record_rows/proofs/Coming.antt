-- The changes of records and marks may come.
use Rattle.std.proofs.Common.{◌≡◌, ℕ, zero, suc, ◌≤◌, Bool, true, false, cond, nat_eq, List, [], ◌∷◌, ◌++◌, length, map, Option, Some, None, refl, sym, ap, subst, ◌∙◌, arith, slice_get}
use Rattle.std.specs.Prelude.{nat_le}
use Rattle.std.specs.List.{flat_map, list_all, list_any}
use Rattle.std.proofs.lemmas.Bool.{and_from, and_parts, eq-eqb, le-leb}
use Rattle.std.proofs.lemmas.List.{append_assoc}
use Rattle.std.proofs.lemmas.Option.{same_Some}
use Rattle.tod_stamp.specs.declared.stamp.Stamp.{Stamp}
use Rattle.ckd_track.specs.declared.write.Cause.{Cause}
use Rattle.pair_table.specs.declared.level.Level.{Level}
use Rattle.pair_table.specs.declared.row.PairRow.{PairRow}
use Rattle.pair_table.specs.declared.row.PairState.{PairState}
use Rattle.pair_table.specs.declared.row.PairState.TheVariants.{Pending, Copy, Duplex, Suspended}
use Rattle.pair_table.specs.declared.row.SuspendCause.TheVariants.{Device}
use Rattle.pair_table.specs.Devices.{is_among}
use Rattle.pair_table.specs.Rows.{is_suspended}
use Rattle.pair_table.specs.Tables.{changed_row as row_in_state, in_state, is_of, row_of}
use Rattle.pair_table.proofs.StateLaws.{same_name}
use Rattle.pending_queue.specs.Groups.{FormedGroup}
use Rattle.row_changes.specs.Changes.{Due, FaultReach, Timed, after_change, after_changes, are_due, are_hit, break_time_of, due_in_record, hit_row, is_at, is_of_record, may_all_come, may_end, may_mature, reach_of, reached_row, reaches_others, row_may_mature, since}
use Rattle.row_changes.specs.Changes.Due.{NoneDue, DueSince, DueIn}
use Rattle.row_changes.specs.Changes.RowChange.{Hit, MarkedHit, Mature, Reached}
use Rattle.row_changes.specs.Spans.{is_hit_at}
use Rattle.row_changes.proofs.Functions.{after_rows, row_after}
use Rattle.row_changes.proofs.Reaching.{reached_state}
use Rattle.record_rows.specs.GroupRows.{are_breaks_at_cut, breaking, group_changes, is_break_at, is_shown_done, matured_by, matured_with_group, maturing, maturing_of, row_in, row_with_group, shown_break, state_with_group}
use Rattle.record_rows.specs.Hits.{due_once_marked, hit_changes, hit_now, marked_changes, rows_marked, told_changes}
use Rattle.record_rows.specs.Records.{changes_after_mark, record_changes, rows_after_mark, rows_with_record}
use Rattle.record_rows.specs.ToldRows.{due_after_changes}
use Rattle.record_rows.proofs.Composing.{changes_in_a_row, comes_first, comes_in_a_row}
use Rattle.record_rows.proofs.Devices.{apart_first, apart_in_map, devices_apart, found_in_map, none_at, row_at_place, still_have}
use Rattle.record_rows.proofs.GroupSteps.{breaks_make, broken_to, device_in, groups_are_changes}
use Rattle.record_rows.proofs.HitRows.{hit_have_rows, hits_are_changes, marks_are_changes, told_are_changes}

-- ---- what is due while a record's changes come

-- Nothing is due after a mark without hits, or where failures reach no others. Else the others are, and these devices were hit.
abbrev pub WaitsIf : (others : Bool) → (marked : List ℕ) → (cut : ℕ) → Due → Type 0
WaitsIf others [] cut due = due ≡ NoneDue
WaitsIf false (d ∷ marked) cut due = due ≡ NoneDue
WaitsIf true (d ∷ marked) cut due = (are_due (d ∷ marked) due ≡ true) × (is_of_record due cut ≡ true)

abbrev pub Waits : Level → (marked : List ℕ) → (cut : ℕ) → Due → Type 0
Waits level = WaitsIf (reaches_others level)

may_if : (others : Bool) (marked : List ℕ) (cut : ℕ) (due : Due) → WaitsIf others marked cut due → is_of_record due cut ≡ true
may_if others [] cut due waits = ap (λ (d : Due). is_of_record d cut) waits
may_if false (d ∷ marked) cut due waits = ap (λ (x : Due). is_of_record x cut) waits
may_if true (d ∷ marked) cut due waits = waits.1

may_record : (level : Level) (marked : List ℕ) (cut : ℕ) (due : Due) → Waits level marked cut due → is_of_record due cut ≡ true
may_record level = may_if (reaches_others level)

on_if : (others : Bool) (marked : List ℕ) (cut : ℕ) (due : Due) → WaitsIf others marked cut due → WaitsIf others marked cut (due_in_record due cut)
on_if others [] cut due waits = ap (λ (d : Due). due_in_record d cut) waits
on_if false (d ∷ marked) cut due waits = ap (λ (x : Due). due_in_record x cut) waits
on_if true (d ∷ marked) cut NoneDue waits = waits
on_if true (d ∷ marked) cut (DueSince mark devices) waits = (waits.0, eq-eqb cut cut refl)
on_if true (d ∷ marked) cut (DueIn at devices) waits = waits

waits_on : (level : Level) (marked : List ℕ) (cut : ℕ) (due : Due) → Waits level marked cut due → Waits level marked cut (due_in_record due cut)
waits_on level = on_if (reaches_others level)

waits_first : (level : Level) (marked : List ℕ) (time cut : ℕ) → Waits level marked cut (due_once_marked level time marked)
waits_first level [] time cut = refl
waits_first level (d ∷ marked) time cut = choose (reaches_others level)
  where
    choose : (others : Bool) → WaitsIf others (d ∷ marked) cut (cond others (DueSince time (d ∷ marked)) NoneDue)
    choose true = (same_name (d ∷ marked), refl)
    choose false = refl

up_to : (n : ℕ) → n ≤ n
up_to n = omega arith

some_hit : (d : ℕ) (hit : List ℕ) (rows : List PairRow) → list_all (λ e. list_any (is_of e) rows) (d ∷ hit) ≡ true → are_hit (d ∷ hit) rows ≡ true
some_hit d hit rows have = and_from (nat_le 1 (length (d ∷ hit))) (list_all (λ e. list_any (is_of e) rows) (d ∷ hit)) (le-leb 1 (length (d ∷ hit)) (let le : 1 ≤ suc (length hit) = omega arith in le)) have

-- what a mark left due, where failures reach others
abbrev reached_if : (others : Bool) → (time : ℕ) → (marked : List ℕ) → List Timed
reached_if others time [] = []
reached_if others time (d ∷ marked) = cond others (record { time = time; change = Reached (d ∷ marked) } ∷ []) []

module _ (level : Level) (breaks : List (Option ℕ)) (marked : List ℕ) (cut : ℕ) where
  -- A record's hits may come where nothing is due, and leave nothing due.
  hits_come : (hit : List ℕ) (due : Due) (from : ℕ) (rows : List PairRow) → due ≡ NoneDue → from ≤ cut → list_all (λ d. list_any (is_of d) rows) hit ≡ true → may_all_come level breaks false due from cut rows (hit_changes cut hit) ≡ true
  hits_come hit due from rows none le have = subst (λ (d : Due). may_all_come level breaks false d from cut rows (hit_changes cut hit) ≡ true) (sym none) (after_nothing hit have)
    where
      after_nothing : (l : List ℕ) → list_all (λ d. list_any (is_of d) rows) l ≡ true → may_all_come level breaks false NoneDue from cut rows (hit_changes cut l) ≡ true
      after_nothing [] h = refl
      after_nothing (d ∷ l) h = comes_first level breaks false NoneDue from cut rows (record { time = cut; change = Hit (d ∷ l) }) [] le (up_to cut) (some_hit d l rows h) refl

  -- What a record tells after its group's changes may come, and leaves nothing due.
  told_come : (hit : List ℕ) (due : Due) (from : ℕ) (rows : List PairRow) → Waits level marked cut due → from ≤ cut → list_all (λ d. list_any (is_of d) rows) hit ≡ true → may_all_come level breaks false due from cut rows (told_changes level cut marked hit) ≡ true
  told_come hit due from rows waits le have = choose (reaches_others level) marked waits
    where
      choose : (others : Bool) (m : List ℕ) → WaitsIf others m cut due → may_all_come level breaks false due from cut rows (reached_if others cut m ++ hit_changes cut hit) ≡ true
      choose others [] w = hits_come hit due from rows w le have
      choose false (d ∷ m) w = hits_come hit due from rows w le have
      choose true (d ∷ m) w =
          let t : Timed = record { time = cut; change = Reached (d ∷ m) } in
          let reached = reached_row (reach_of level rows) (d ∷ m) cut in
          comes_first level breaks false due from cut rows t (hit_changes cut hit) le (up_to cut) (and_from (are_due (d ∷ m) due) (is_of_record due cut) w.0 w.1)
          (hits_come hit NoneDue cut (map reached rows) refl (up_to cut) (still_have reached (λ r. ap (λ (x : PairRow). x.device) (reached_state (reach_of level rows) (d ∷ m) cut r)) rows hit have))

  -- Others may come after a record's breaks if they may come whatever these leave due.
  breaks_come : (found : List (ℕ × Stamp × Cause)) (due : Due) (from : ℕ) (rows : List PairRow) (rest : List Timed) → Waits level marked cut due → from ≤ cut → list_all (is_break_at breaks cut) found ≡ true
      → ((next : Due) (then : ℕ) → Waits level marked cut next → then ≤ cut → may_all_come level breaks false next then cut (after_changes level (map (breaking cut) found) rows) rest ≡ true)
      → may_all_come level breaks false due from cut rows (map (breaking cut) found ++ rest) ≡ true
  breaks_come [] due from rows rest waits le are more = more due from waits le
  breaks_come (f ∷ found) due from rows rest waits le are more =
      let parts = and_parts (is_break_at breaks cut f) (list_all (is_break_at breaks cut) found) are in
      let at = and_parts (nat_eq f.1.0 cut) (is_at cut (break_time_of f.0 breaks)) parts.0 in
      comes_first level breaks false due from cut rows (breaking cut f) (map (breaking cut) found ++ rest) le (up_to cut)
      (and_from (is_of_record due cut) (is_at cut (break_time_of f.0 breaks)) (may_record level marked cut due waits) at.1)
      (breaks_come found (due_in_record due cut) cut (after_change level (breaking cut f) rows) rest (waits_on level marked cut due waits) (up_to cut) parts.1 more)

-- ---- rows that mature

some_state : (a b : PairState) → (let x : Option PairState = Some a in let y : Option PairState = Some b in x ≡ y) → a ≡ b
some_state a b e = same_Some a b e

may_of : (broken : Option Stamp) (done : Bool) (old new : PairState) → matured_by broken done old ≡ Some new → may_mature old new ≡ true
may_of (Some time) done old new is = absurd cc
may_of None true Pending new is = subst (λ (s : PairState). may_mature Pending s ≡ true) (some_state Duplex new is) refl
may_of None false Pending new is = subst (λ (s : PairState). may_mature Pending s ≡ true) (some_state Copy new is) refl
may_of None true Copy new is = subst (λ (s : PairState). may_mature Copy s ≡ true) (some_state Duplex new is) refl
may_of None false Copy new is = absurd cc
may_of None done Duplex new is = absurd cc
may_of None done (Suspended cause at) new is = absurd cc

-- A row that matures is in no controller that breaks.
unbroken : (broken : Option Stamp) (done : Bool) (old new : PairState) → matured_by broken done old ≡ Some new → broken ≡ None
unbroken (Some time) done old new is = absurd cc
unbroken None done old new is = refl

-- Each row that matures stands among rows as it is.
abbrev pub Stand : FormedGroup → (maturing all : List PairRow) → Type 0
Stand group xs rows = (i : ℕ) (x : PairRow) → slice_get xs i ≡ Some x → (state : PairState) → matured_with_group group x ≡ Some state → row_of x.device rows ≡ Some x

keeps_state : (d : ℕ) (state : PairState) (r : PairRow) → (row_in_state d state r).device ≡ r.device
keeps_state d state r = choose (nat_eq d r.device)
  where
    choose : (b : Bool) → (cond b (in_state state r) r).device ≡ r.device
    choose true = refl
    choose false = refl

other_stays : (d : ℕ) (state : PairState) (r : PairRow) → nat_eq d r.device ≡ false → row_in_state d state r ≡ r
other_stays d state r other = rw other refl

module _ (level : Level) (breaks : List (Option ℕ)) (marked : List ℕ) (group : FormedGroup) where
  -- These may come after others at the record's cut, whatever they leave due.
  abbrev More : (first : List Timed) → List PairRow → (rest : List Timed) → Type 0
  More first rows rest = (next : Due) (then : ℕ) → Waits level marked group.cut.0 next → then ≤ group.cut.0 → may_all_come level breaks false next then group.cut.0 (after_changes level first rows) rest ≡ true

  -- Others may come after the rows that mature if they may come whatever these leave due.
  matures_come : (xs : List PairRow) (due : Due) (from : ℕ) (rows : List PairRow) (rest : List Timed) → Waits level marked group.cut.0 due → from ≤ group.cut.0 → devices_apart xs ≡ true → Stand group xs rows → More (flat_map (maturing_of group) xs) rows rest
      → may_all_come level breaks false due from group.cut.0 rows (flat_map (maturing_of group) xs ++ rest) ≡ true
  matures_come [] due from rows rest waits le apart stand more = more due from waits le
  matures_come (x ∷ xs) due from rows rest waits le apart stand more =
      let first = apart_first x xs apart in
      choose (matured_with_group group x) refl more (λ last then l w up s k. matures_come xs last then l rest w up first.1 s k)
    where
      choose : (o : Option PairState) → matured_with_group group x ≡ o → More (maturing group.cut.0 x.device o ++ flat_map (maturing_of group) xs) rows rest
          → ((last : Due) (then : ℕ) (l : List PairRow) → Waits level marked group.cut.0 last → then ≤ group.cut.0 → Stand group xs l → More (flat_map (maturing_of group) xs) l rest
          → may_all_come level breaks false last then group.cut.0 l (flat_map (maturing_of group) xs ++ rest) ≡ true)
          → may_all_come level breaks false due from group.cut.0 rows ((maturing group.cut.0 x.device o ++ flat_map (maturing_of group) xs) ++ rest) ≡ true
      choose None is k others = others due from rows waits le (λ i z at. stand (suc i) z at) k
      choose (Some state) is k others =
          let t : Timed = record { time = group.cut.0; change = Mature x.device state } in
          let here : row_of x.device rows ≡ Some x = stand zero x refl state is in
          let may = may_of (shown_break x.control group.breaks) (is_shown_done group x) x.state state is in
          comes_first level breaks false due from group.cut.0 rows t (flat_map (maturing_of group) xs ++ rest) le (up_to group.cut.0)
          (and_from (is_of_record due group.cut.0) (row_may_mature state (row_of x.device rows)) (may_record level marked group.cut.0 due waits) (ap (row_may_mature state) here ∙ may))
          (others (due_in_record due group.cut.0) group.cut.0 (after_change level t rows) (waits_on level marked group.cut.0 due waits) (up_to group.cut.0)
          (λ i z at s e. found_in_map (row_in_state x.device state) (keeps_state x.device state) z.device rows z (stand (suc i) z at s e)
          ∙ ap (λ (r : PairRow). let o : Option PairRow = Some r in o) (other_stays x.device state z (none_at x.device xs i z (apart_first x xs apart).0 at)))
          k)

  -- ---- a group's changes, and what its record tells after them

  after_break : (reach : FaultReach) (found : List (ℕ × Stamp × Cause)) (r : PairRow) → list_all (is_break_at breaks group.cut.0) found ≡ true → shown_break r.control found ≡ None → row_after reach (map (breaking group.cut.0) found) r ≡ r
  after_break reach found r are none = breaks_make reach breaks group.cut.0 found r are ∙ none_broken (shown_break r.control found) none
    where
      none_broken : (o : Option Stamp) → o ≡ None → row_in r (broken_to o (is_suspended r.state)) ≡ r
      none_broken None e = refl
      none_broken (Some time) e = absurd cc

  keeps_broken : (reach : FaultReach) (r : PairRow) → are_breaks_at_cut breaks group ≡ true → (row_after reach (map (breaking group.cut.0) group.breaks) r).device ≡ r.device
  keeps_broken reach r are = ap (λ (x : PairRow). x.device) (breaks_make reach breaks group.cut.0 group.breaks r are) ∙ device_in r (broken_to (shown_break r.control group.breaks) (is_suspended r.state))

  stand_after : (rows : List PairRow) → devices_apart rows ≡ true → are_breaks_at_cut breaks group ≡ true → Stand group rows (after_changes level (map (breaking group.cut.0) group.breaks) rows)
  stand_after rows apart are i x at state is =
      let reach = reach_of level rows in
      subst (λ (l : List PairRow). row_of x.device l ≡ Some x) (sym (after_rows level (map (breaking group.cut.0) group.breaks) rows))
      (found_in_map (row_after reach (map (breaking group.cut.0) group.breaks)) (λ r. keeps_broken reach r are) x.device rows x (row_at_place rows i x apart at)
      ∙ ap (λ (r : PairRow). let o : Option PairRow = Some r in o)
      (after_break reach group.breaks x are (unbroken (shown_break x.control group.breaks) (is_shown_done group x) x.state state is)))

  pub after_marks_come : (hit : List ℕ) (due : Due) (from : ℕ) (rows : List PairRow) → Waits level marked group.cut.0 due → from ≤ group.cut.0 → devices_apart rows ≡ true → are_breaks_at_cut breaks group ≡ true
      → list_all (λ d. list_any (is_of d) rows) hit ≡ true → may_all_come level breaks false due from group.cut.0 rows (group_changes group rows ++ told_changes level group.cut.0 marked hit) ≡ true
  after_marks_come hit due from rows waits le apart are have =
      subst (λ (l : List Timed). may_all_come level breaks false due from group.cut.0 rows l ≡ true) (sym (append_assoc broken matured told))
      (breaks_come level breaks marked group.cut.0 group.breaks due from rows (matured ++ told) waits le are
      (λ next then w up. matures_come rows next then (after_changes level broken rows) told w up apart (stand_after rows apart are)
      (λ last later v by. told_come level breaks marked group.cut.0 hit last later (after_changes level matured (after_changes level broken rows)) v by had)))
    where
      broken : List Timed
      broken = map (breaking group.cut.0) group.breaks

      matured : List Timed
      matured = flat_map (maturing_of group) rows

      told : List Timed
      told = told_changes level group.cut.0 marked hit

      had : list_all (λ d. list_any (is_of d) (after_changes level matured (after_changes level broken rows))) hit ≡ true
      had =
          subst (λ (l : List PairRow). list_all (λ d. list_any (is_of d) l) hit ≡ true) (sym (sym (changes_in_a_row level broken matured rows) ∙ groups_are_changes level breaks group rows apart are))
          (still_have (row_with_group group) (λ r. device_in r (state_with_group group r)) rows hit have)

-- ---- records

pub after_marks_may_come : (level : Level) (breaks : List (Option ℕ)) (marked : List ℕ) (group : FormedGroup) (failed : List Bool) (time from : ℕ) (rows : List PairRow) → devices_apart rows ≡ true → are_breaks_at_cut breaks group ≡ true
    → from ≤ group.cut.0 → may_all_come level breaks false (due_once_marked level time marked) from group.cut.0 rows (changes_after_mark level marked group failed rows) ≡ true
after_marks_may_come level breaks marked group failed time from rows apart are le =
    after_marks_come level breaks marked group (hit_now failed rows) (due_once_marked level time marked) from rows (waits_first level marked time group.cut.0) le apart are (hit_have_rows failed rows)

pub records_may_come : (level : Level) (breaks : List (Option ℕ)) (group : FormedGroup) (failed : List Bool) (from : ℕ) (rows : List PairRow) → devices_apart rows ≡ true → are_breaks_at_cut breaks group ≡ true
    → from ≤ group.cut.0 → may_all_come level breaks false NoneDue from group.cut.0 rows (record_changes group failed rows) ≡ true
records_may_come level breaks group failed from rows apart are le =
    after_marks_may_come level breaks [] group failed from from rows apart are le

pub after_marks_are_changes : (level : Level) (breaks : List (Option ℕ)) (marked : List ℕ) (group : FormedGroup) (failed : List Bool) (rows : List PairRow) → devices_apart rows ≡ true → are_breaks_at_cut breaks group ≡ true
    → rows_after_mark level marked group failed rows ≡ after_changes level (changes_after_mark level marked group failed rows) rows
after_marks_are_changes level breaks marked group failed rows apart are =
    let told = told_changes level group.cut.0 marked (hit_now failed rows) in
    told_are_changes level group.cut.0 marked (hit_now failed rows) (map (row_with_group group) rows) ∙ ap (λ (l : List PairRow). after_changes level told l) (sym (groups_are_changes level breaks group rows apart are))
    ∙ sym (changes_in_a_row level (group_changes group rows) told rows)

pub records_are_changes : (level : Level) (breaks : List (Option ℕ)) (group : FormedGroup) (failed : List Bool) (rows : List PairRow) → devices_apart rows ≡ true → are_breaks_at_cut breaks group ≡ true
    → rows_with_record level group failed rows ≡ after_changes level (record_changes group failed rows) rows
records_are_changes level breaks group failed rows apart are =
    let hits = hit_changes group.cut.0 (hit_now failed rows) in
    hits_are_changes level group.cut.0 (hit_now failed rows) (map (row_with_group group) rows) ∙ ap (λ (l : List PairRow). after_changes level hits l) (sym (groups_are_changes level breaks group rows apart are))
    ∙ sym (changes_in_a_row level (group_changes group rows) hits rows)

-- ---- hits alone, and marks

pub hits_may_come : (level : Level) (breaks : List (Option ℕ)) (failed : List Bool) (from time : ℕ) (rows : List PairRow) → from ≤ time
    → (may_all_come level breaks false NoneDue from time rows (hit_changes time (hit_now failed rows)) ≡ true) × (list_all (is_hit_at time) (hit_changes time (hit_now failed rows)) ≡ true)
hits_may_come level breaks failed from time rows le = (
  told_come level breaks [] time (hit_now failed rows) NoneDue from rows refl le (hit_have_rows failed rows),
  at_time (hit_now failed rows),
)
  where
    at_time : (hit : List ℕ) → list_all (is_hit_at time) (hit_changes time hit) ≡ true
    at_time [] = refl
    at_time (d ∷ hit) = rw (eq-eqb time time refl) refl

mark_comes : (level : Level) (breaks : List (Option ℕ)) (hit : List ℕ) (from time : ℕ) (rows : List PairRow) → from ≤ time → list_all (λ d. list_any (is_of d) rows) hit ≡ true → may_all_come level breaks true NoneDue from time rows (marked_changes time hit) ≡ true
mark_comes level breaks [] from time rows le have = refl
mark_comes level breaks (d ∷ hit) from time rows le have =
    comes_first level breaks true NoneDue from time rows (record { time = time; change = MarkedHit (d ∷ hit) }) [] le (up_to time) (some_hit d hit rows have) (ends (reaches_others level))
  where
    ends : (others : Bool) → may_end true time (cond others (DueSince time (d ∷ hit)) NoneDue) ≡ true
    ends false = refl
    ends true = eq-eqb time time refl

mark_leaves : (level : Level) (time : ℕ) (hit : List ℕ) → due_after_changes level NoneDue (marked_changes time hit) ≡ due_once_marked level time hit
mark_leaves level time [] = refl
mark_leaves level time (d ∷ hit) = refl

pub marks_may_come : (level : Level) (breaks : List (Option ℕ)) (failed : List Bool) (from time : ℕ) (rows : List PairRow) → from ≤ time
    → (may_all_come level breaks true NoneDue from time rows (marked_changes time (hit_now failed rows)) ≡ true) × (due_after_changes level NoneDue (marked_changes time (hit_now failed rows)) ≡ due_once_marked level time (hit_now failed rows))
marks_may_come level breaks failed from time rows le = (mark_comes level breaks (hit_now failed rows) from time rows le (hit_have_rows failed rows), mark_leaves level time (hit_now failed rows))

-- ---- a mark and its record

keeps_hit : (hit : List ℕ) (time : ℕ) (r : PairRow) → (hit_row hit time r).device ≡ r.device
keeps_hit hit time r = choose (is_among r.device hit)
  where
    choose : (b : Bool) → (cond b (in_state (since Device time) r) r).device ≡ r.device
    choose true = refl
    choose false = refl

module _ (level : Level) (breaks : List (Option ℕ)) (group : FormedGroup) (early late : List Bool) (time : ℕ) (rows : List PairRow) (apart : devices_apart rows ≡ true) (are : are_breaks_at_cut breaks group ≡ true) where
  abbrev pub hit : List ℕ
  hit = hit_now early rows

  abbrev pub next : List PairRow
  next = rows_marked time hit rows

  abbrev pub after : List Timed
  after = changes_after_mark level hit group late next

  next_apart : devices_apart next ≡ true
  next_apart = apart_in_map (hit_row hit time) (keeps_hit hit time) rows apart

  pub marked_records_are_changes : rows_after_mark level hit group late next ≡ after_changes level (marked_changes time hit ++ after) rows
  marked_records_are_changes =
      after_marks_are_changes level breaks hit group late next next_apart are ∙ ap (λ (l : List PairRow). after_changes level after l) (marks_are_changes level time hit rows) ∙ sym (changes_in_a_row level (marked_changes time hit) after rows)

  pub marked_records_may_come : (from : ℕ) → from ≤ time → time ≤ group.cut.0 → may_all_come level breaks false NoneDue from group.cut.0 rows (marked_changes time hit ++ after) ≡ true
  marked_records_may_come from le up =
      let mark = marks_may_come level breaks early from time rows le in
      comes_in_a_row level breaks true false NoneDue from time group.cut.0 rows (marked_changes time hit) after up le mark.0
      (subst (λ (d : Due). may_all_come level breaks false d time group.cut.0 (after_changes level (marked_changes time hit) rows) after ≡ true) (sym mark.1)
      (subst (λ (l : List PairRow). may_all_come level breaks false (due_once_marked level time hit) time group.cut.0 l after ≡ true) (marks_are_changes level time hit rows)
      (after_marks_may_come level breaks hit group late time time next next_apart are up)))
