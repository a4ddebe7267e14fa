-- A row that its own device suspends stays so through changes that may come.
use Rattle.std.proofs.Common.{◌≡◌, inl, inr, ℕ, Bool, true, false, cond, nat_eq, List, [], ◌∷◌, map, Option, Some, refl, sym, ap, subst, ◌∙◌, true≢false}
use Rattle.std.proofs.lemmas.Bool.{and_parts, eqb-true}
use Rattle.pair_table.specs.declared.level.Level.{Level}
use Rattle.pair_table.specs.declared.row.PairRow.{PairRow}
use Rattle.pair_table.specs.declared.row.PairState.{PairState}
use Rattle.pair_table.specs.declared.row.PairState.TheVariants.{Pending, Copy, Duplex, Suspended}
use Rattle.pair_table.specs.declared.row.SuspendCause.{SuspendCause}
use Rattle.pair_table.specs.declared.row.SuspendCause.TheVariants.{Control, Device}
use Rattle.pair_table.specs.Devices.{is_among}
use Rattle.pair_table.specs.Rows.{is_suspended}
use Rattle.pair_table.specs.Tables.{in_state, is_of, none_clash, row_of}
use Rattle.row_changes.specs.Changes.{Due, FaultReach, RowChange, Timed, after_change, after_changes, due_after, hit_row, is_of_record, may_come, may_mature, reach_of, reached_row, row_after_change, row_may_mature, since, suspended_by}
use Rattle.row_changes.specs.Changes.RowChange.{Break, Hit, MarkedHit, Mature, Reached}
use Rattle.pair_table.specs.States.{is_device_suspended}
use Rattle.consistency.specs.Leads.{Comes}
use Rattle.fed_logs.specs.Moves.{HasRowIn}
use Rattle.mover.specs.OwedTracks.{IsUnfailed}
use Rattle.mover.proofs.Pairs.{Among, among_cases, among_of, apart_still, contains_of, found_of_device, pair_of, same_pairs, changed_pair}
use Rattle.mover.proofs.Pairs.Among.{Here, Later}

-- ---- one row

failed_is_suspended : (state : PairState) → is_device_suspended state ≡ true → is_suspended state ≡ true
failed_is_suspended Pending is = is
failed_is_suspended Copy is = is
failed_is_suspended Duplex is = is
failed_is_suspended (Suspended cause since) is = refl

failed_never_matures : (state next : PairState) → is_device_suspended state ≡ true → may_mature state next ≡ false
failed_never_matures Pending next is = absurd (true≢false (sym is))
failed_never_matures Copy next is = absurd (true≢false (sym is))
failed_never_matures Duplex next is = absurd (true≢false (sym is))
failed_never_matures (Suspended cause since) next is = refl

abbrev HasFailed : PairRow → Type 0
HasFailed r = is_device_suspended r.state ≡ true

either_failed : (b : Bool) (x y : PairRow) → HasFailed x → HasFailed y → HasFailed (cond b x y)
either_failed true x y h k = h
either_failed false x y h k = k

suspended_failed : (cause : SuspendCause) (time : ℕ) (r : PairRow) → HasFailed r → HasFailed (suspended_by cause time r)
suspended_failed cause time r h = choose (is_suspended r.state) (failed_is_suspended r.state h)
  where
    choose : (t : Bool) → t ≡ true → HasFailed (cond t r (in_state (since cause time) r))
    choose true is = h
    choose false is = absurd (true≢false (sym is))

hit_failed : (devices : List ℕ) (time : ℕ) (r : PairRow) → HasFailed r → HasFailed (hit_row devices time r)
hit_failed devices time r h = either_failed (is_among r.device devices) (in_state (since Device time) r) r refl h

reached_failed : (reach : FaultReach) (devices : List ℕ) (time : ℕ) (r : PairRow) → HasFailed r → HasFailed (reached_row reach devices time r)
reached_failed reach devices time r h = either_failed (reach.reaches devices r) (suspended_by reach.cause time r) r (suspended_failed reach.cause time r h) h

-- a row among others stays so by a change that may come
failed_stays : (reach : FaultReach) (breaks : List (Option ℕ)) (due : Due) (rows : List PairRow) (time : ℕ) (change : RowChange) → none_clash rows ≡ true → may_come breaks due rows (record { time = time; change = change }) ≡ true
    → (r : PairRow) → Among r rows → HasFailed r → HasFailed (row_after_change reach (record { time = time; change = change }) r)
failed_stays reach breaks due rows time (Mature device state) apart may r there h = choose (is_of device r) refl
  where
    choose : (t : Bool) → is_of device r ≡ t → HasFailed (cond t (in_state state r) r)
    choose false is = h
    choose true is =
        let found : row_of device rows ≡ Some r = ap (λ (d : ℕ). row_of d rows) (eqb-true device r.device is) ∙ found_of_device r rows apart there in
        let matures : may_mature r.state state ≡ true = sym (ap (row_may_mature state) found) ∙ (and_parts (is_of_record due time) (row_may_mature state (row_of device rows)) may).1 in
        absurd (true≢false (sym matures ∙ failed_never_matures r.state state h))
failed_stays reach breaks due rows time (Break control) apart may r there h = either_failed (nat_eq r.control control) (suspended_by Control time r) r (suspended_failed Control time r h) h
failed_stays reach breaks due rows time (Hit devices) apart may r there h = reached_failed reach devices time (hit_row devices time r) (hit_failed devices time r h)
failed_stays reach breaks due rows time (MarkedHit devices) apart may r there h = hit_failed devices time r h
failed_stays reach breaks due rows time (Reached devices) apart may r there h = reached_failed reach devices time r h

-- ---- rows

-- A row among changed ones is one of these, changed.
pub record WasAmong (f : PairRow → PairRow) (s : PairRow) (rows : List PairRow) : Type 0 where
  pub row : PairRow
  pub among : Among row rows
  pub is : f row ≡ s

pub among_map : (f : PairRow → PairRow) (s : PairRow) (rows : List PairRow) → Among s (map f rows) → WasAmong f s rows
among_map f s [] there = absurd (among_cases s [] there)
among_map f s (r ∷ rows) there = elim (among_cases s (f r ∷ map f rows) there) [
  | inl same ↦ record { row = r; among = Here rows; is = same }
  | inr later ↦
      let h = among_map f s rows later in
      record { row = h.row; among = Later r rows h.among; is = h.is }
]

unfailed_once : (level : Level) (breaks : List (Option ℕ)) (due : Due) (rows : List PairRow) (t : Timed) → none_clash rows ≡ true → may_come breaks due rows t ≡ true → (k v : ℕ) → HasRowIn IsUnfailed k v (after_change level t rows) → HasRowIn IsUnfailed k v rows
unfailed_once level breaks due rows t apart may k v has =
    let reach = reach_of level rows in
    let was = among_map (row_after_change reach t) has.row rows (among_of (after_change level t rows) has.row has.among) in
    let pair : pair_of has.row ≡ pair_of was.row = ap pair_of (sym was.is) ∙ changed_pair reach t was.row in
    record {
      row = was.row;
      among = contains_of was.row rows was.among;
      control = sym (ap (λ (r : PairRow). r.control) pair) ∙ has.control;
      volume = sym (ap (λ (r : PairRow). r.volume) pair) ∙ has.volume;
      state = unfailed was.row was.among was.is (is_device_suspended was.row.state) refl;
    }
  where
    unfailed : (r : PairRow) → Among r rows → row_after_change (reach_of level rows) t r ≡ has.row → (b : Bool) → is_device_suspended r.state ≡ b → is_device_suspended r.state ≡ false
    unfailed r there is false e = e
    unfailed r there is true e =
        absurd (true≢false (sym (subst HasFailed is (failed_stays (reach_of level rows) breaks due rows t.time t.change apart may r there e)) ∙ has.state))

-- Rows are unfailed after changes that may come only where they were before.
pub unfailed_before : (level : Level) (breaks : List (Option ℕ)) (due last : Due) (from to : ℕ) (rows : List PairRow) (changes : List Timed) → none_clash rows ≡ true → Comes level breaks due from to rows changes last
    → (k v : ℕ) → HasRowIn IsUnfailed k v (after_changes level changes rows) → HasRowIn IsUnfailed k v rows
unfailed_before level breaks due last from to rows [] apart comes k v has = has
unfailed_before level breaks due last from to rows (t ∷ changes) apart comes k v has =
    let next = after_change level t rows in
    unfailed_once level breaks due rows t apart comes.2 k v
    (unfailed_before level breaks (due_after level due t) last t.time to next changes (apart_still rows next (same_pairs level (t ∷ []) rows) apart) comes.3 k v has)
