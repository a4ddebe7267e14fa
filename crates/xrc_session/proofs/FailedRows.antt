-- Rows that their devices suspend after changes: they were so before, or a hit among the changes is of their device.
use Rattle.std.proofs.Common.{◌≡◌, ◌⊎◌, ℕ, zero, suc, ◌+◌, ◌≤◌, nat_eq, Bool, true, false, cond, not, List, [], ◌∷◌, ◌++◌, map, Option, Some, None, refl, sym, ap, subst, ◌∙◌, arith, inl, inr, true≢false}
use Rattle.std.specs.List.{Contains, flat_map, list_all}
use Rattle.std.proofs.lemmas.Bool.{and_from, and_parts}
use Rattle.std.proofs.lemmas.List.Folds.{list_all-append}
use Rattle.tod_stamp.specs.declared.stamp.Stamp.{Stamp}
use Rattle.ckd_track.specs.declared.write.Cause.{Cause}
use Rattle.pair_table.specs.declared.level.Level.{Level}
use Rattle.pair_table.specs.declared.row.PairRow.{PairRow}
use Rattle.pair_table.specs.declared.row.PairState.{PairState}
use Rattle.pair_table.specs.declared.row.PairState.TheVariants.{Pending, Copy, Duplex, Suspended}
use Rattle.pair_table.specs.declared.row.SuspendCause.TheVariants.{Control as ByControl, Device as ByDevice}
use Rattle.pair_table.specs.Devices.{is_among}
use Rattle.pair_table.specs.Rows.{is_suspended}
use Rattle.pair_table.specs.Tables.{in_state, is_of}
use Rattle.pending_queue.specs.Groups.{FormedGroup}
use Rattle.row_changes.specs.Changes.{FaultReach, RowChange, Timed, after_change, after_changes, hit_row, reach_of, reached_row, reaches_others, row_after_change, since}
use Rattle.row_changes.specs.Changes.RowChange.{Break, Hit, MarkedHit, Mature, Reached}
use Rattle.row_changes.specs.Spans.{hit_count, hits}
use Rattle.row_changes.proofs.Reaching.{changes_state, reach_is_other}
use Rattle.record_rows.proofs.Counting.{counts_append}
use Rattle.record_rows.specs.GroupRows.{breaking, group_changes, is_shown_done, matured_by, matured_state, maturing, maturing_of, shown_break}
use Rattle.record_rows.specs.Hits.{hit_changes, marked_changes, reached_changes, told_changes}
use Rattle.pair_table.specs.States.{is_by_device, is_device_suspended}

-- ---- changes that mature

-- A change makes no row one that its device suspends, but by a hit.
abbrev pub is_plain : Timed → Bool
is_plain t = elim t.change [ Mature device state ↦ not (is_device_suspended state) | Break k ↦ true | Hit devices ↦ true | MarkedHit devices ↦ true | Reached devices ↦ true ]

abbrev pub are_plain : List Timed → Bool
are_plain changes = list_all is_plain changes

pub plain_hits : (time : ℕ) (hit : List ℕ) → are_plain (hit_changes time hit) ≡ true
plain_hits time [] = refl
plain_hits time (d ∷ hit) = refl

pub plain_marked : (time : ℕ) (hit : List ℕ) → are_plain (marked_changes time hit) ≡ true
plain_marked time [] = refl
plain_marked time (d ∷ hit) = refl

plain_breaks : (time : ℕ) (breaks : List (ℕ × Stamp × Cause)) → are_plain (map (breaking time) breaks) ≡ true
plain_breaks time [] = refl
plain_breaks time (b ∷ breaks) = plain_breaks time breaks

plain_matured : (time device : ℕ) (done : Bool) (state : PairState) → are_plain (maturing time device (matured_state done state)) ≡ true
plain_matured time device true Pending = refl
plain_matured time device false Pending = refl
plain_matured time device true Copy = refl
plain_matured time device false Copy = refl
plain_matured time device done Duplex = refl
plain_matured time device done (Suspended cause at) = refl

plain_maturing : (group : FormedGroup) (r : PairRow) → are_plain (maturing_of group r) ≡ true
plain_maturing group r = by (shown_break r.control group.breaks)
  where
    by : (broken : Option Stamp) → are_plain (maturing group.cut.0 r.device (matured_by broken (is_shown_done group r) r.state)) ≡ true
    by (Some at) = refl
    by None = plain_matured group.cut.0 r.device (is_shown_done group r) r.state

plain_all : (group : FormedGroup) (rows : List PairRow) → are_plain (flat_map (maturing_of group) rows) ≡ true
plain_all group [] = refl
plain_all group (r ∷ rows) = list_all-append is_plain (maturing_of group r) (flat_map (maturing_of group) rows) ∙ and_from (are_plain (maturing_of group r)) (are_plain (flat_map (maturing_of group) rows)) (plain_maturing group r) (plain_all group rows)

pub plain_group : (group : FormedGroup) (rows : List PairRow) → are_plain (group_changes group rows) ≡ true
plain_group group rows =
    list_all-append is_plain (map (breaking group.cut.0) group.breaks) (flat_map (maturing_of group) rows)
    ∙ and_from (are_plain (map (breaking group.cut.0) group.breaks)) (are_plain (flat_map (maturing_of group) rows)) (plain_breaks group.cut.0 group.breaks) (plain_all group rows)

pub plain_both : (a b : List Timed) → are_plain a ≡ true → are_plain b ≡ true → are_plain (a ++ b) ≡ true
plain_both a b first then = list_all-append is_plain a b ∙ and_from (are_plain a) (are_plain b) first then

plain_reached : (level : Level) (time : ℕ) (marked : List ℕ) → are_plain (reached_changes level time marked) ≡ true
plain_reached level time [] = refl
plain_reached level time (d ∷ marked) = choose (reaches_others level)
  where
    choose : (others : Bool) → are_plain (cond others (record { time = time; change = Reached (d ∷ marked) } ∷ []) []) ≡ true
    choose true = refl
    choose false = refl

pub plain_told : (level : Level) (time : ℕ) (marked hit : List ℕ) → are_plain (told_changes level time marked hit) ≡ true
plain_told level time marked hit = plain_both (reached_changes level time marked) (hit_changes time hit) (plain_reached level time marked) (plain_hits time hit)

-- ---- one change

-- A row's device suspends it, and is hit by a change, or the row was so before.
abbrev HitOrWas : Timed → (r s : PairRow) → Type 0
HitOrWas t r s = is_device_suspended s.state ≡ true → (hits r.device t ≡ true) ⊎ (r.state ≡ s.state)

module _ (reach : FaultReach) (other : is_by_device reach.cause ≡ false) where
  pub reached_hit : (devices : List ℕ) (time : ℕ) (r : PairRow) → is_device_suspended (reached_row reach devices time r).state ≡ true → r.state ≡ (reached_row reach devices time r).state
  reached_hit devices time r is = by (reach.reaches devices r) (is_suspended r.state) is
    where
      by : (a b : Bool) → is_device_suspended (cond a (cond b r (in_state (since reach.cause time) r)) r).state ≡ true → r.state ≡ (cond a (cond b r (in_state (since reach.cause time) r)) r).state
      by true true is = refl
      by true false is = absurd (true≢false (sym is ∙ other))
      by false b is = refl

marked_hit : (devices : List ℕ) (time : ℕ) (r : PairRow) → is_device_suspended (hit_row devices time r).state ≡ true → (is_among r.device devices ≡ true) ⊎ (r.state ≡ (hit_row devices time r).state)
marked_hit devices time r is = by (is_among r.device devices) refl is
  where
    by : (a : Bool) → is_among r.device devices ≡ a → is_device_suspended (cond a (in_state (since ByDevice time) r) r).state ≡ true → (is_among r.device devices ≡ true) ⊎ (r.state ≡ (cond a (in_state (since ByDevice time) r) r).state)
    by true among is = inl among
    by false among is = inr refl

hit_by : (reach : FaultReach) → is_by_device reach.cause ≡ false → (time : ℕ) (change : RowChange) (r : PairRow) → is_plain (record { time = time; change = change }) ≡ true → HitOrWas (record { time = time; change = change }) r (row_after_change reach (record { time = time; change = change }) r)
hit_by reach other time (Mature device state) r plain is = by (is_of device r) is
  where
    by : (a : Bool) → is_device_suspended (cond a (in_state state r) r).state ≡ true → (false ≡ true) ⊎ (r.state ≡ (cond a (in_state state r) r).state)
    by true is = absurd (true≢false (sym plain ∙ ap not is))
    by false is = inr refl
hit_by reach other time (Break k) r plain is = by (nat_eq r.control k) (is_suspended r.state) is
  where
    by : (a b : Bool) → is_device_suspended (cond a (cond b r (in_state (since ByControl time) r)) r).state ≡ true → (false ≡ true) ⊎ (r.state ≡ (cond a (cond b r (in_state (since ByControl time) r)) r).state)
    by true true is = inr refl
    by true false is = absurd (true≢false (sym is))
    by false b is = inr refl
hit_by reach other time (Hit devices) r plain is =
    let then = reached_hit reach other devices time (hit_row devices time r) is in
    elim (marked_hit devices time r (ap is_device_suspended then ∙ is)) [ inl hit ↦ inl hit | inr was ↦ inr (was ∙ then) ]
hit_by reach other time (MarkedHit devices) r plain is = marked_hit devices time r is
hit_by reach other time (Reached devices) r plain is = inr (reached_hit reach other devices time r is)

-- ---- a change leaves a row's device

same_device : (reach : FaultReach) (t : Timed) (r : PairRow) → (row_after_change reach t r).device ≡ r.device
same_device reach t r = ap (λ (x : PairRow). x.device) (changes_state reach t r)

-- ---- changes in a row

contains_map : (f : PairRow → PairRow) (rows : List PairRow) (s : PairRow) → Contains (map f rows) s → (r : PairRow) × Contains rows r × (f r ≡ s)
contains_map f [] s among = absurd (let low = among.1 in omega (arith, low))
contains_map f (r ∷ rows) s (zero, low, is) = (r, (0, omega arith, refl), is)
contains_map f (r ∷ rows) s (suc k, low, is) =
    let found = contains_map f rows s (k, omega (arith, low), is) in
    let at = found.1 in
    (found.0, (suc at.0, (let low = at.1 in omega (arith, low)), at.2), found.2)

-- A row stood among these on its device, in its state.
pub record WasFailed (z : PairRow) (rows : List PairRow) : Type 0 where
  pub row : PairRow
  pub among : Contains rows row
  pub same : row.device ≡ z.device
  pub state : row.state ≡ z.state

pub more_hits : (device : ℕ) (a b : List Timed) → 1 ≤ hit_count device b → 1 ≤ hit_count device (a ++ b)
more_hits device a b some = let sum = counts_append device a b in omega (arith, some, sum)

pub fewer_hits : (device : ℕ) (a b : List Timed) → 1 ≤ hit_count device a → 1 ≤ hit_count device (a ++ b)
fewer_hits device a b some = let sum = counts_append device a b in omega (arith, some, sum)

some_hit : (device : ℕ) (t : Timed) (changes : List Timed) → hits device t ≡ true → 1 ≤ hit_count device (t ∷ changes)
some_hit device t changes is = fewer_hits device (t ∷ []) changes (let one : hit_count device (t ∷ []) ≡ 0 + 1 = ap (λ (b : Bool). 0 + cond b 1 0) is in omega (arith, one))

-- A row that its device suspends after changes was as it is before, or its device was hit.
pub failed_by : (level : Level) (changes : List Timed) (rows : List PairRow) (r : PairRow) → are_plain changes ≡ true → Contains (after_changes level changes rows) r → is_device_suspended r.state ≡ true → (1 ≤ hit_count r.device changes) ⊎ WasFailed r rows
failed_by level [] rows r plain among is = inr (record { row = r; among = among; same = refl; state = refl })
failed_by level (t ∷ changes) rows r plain among is =
    let parts = and_parts (is_plain t) (are_plain changes) plain in
    after parts.0 (failed_by level changes (after_change level t rows) r parts.1 among is)
  where
    reach : FaultReach
    reach = reach_of level rows

    one : (s : PairRow) → s.device ≡ r.device → s.state ≡ r.state → (q : PairRow) → Contains rows q → row_after_change reach t q ≡ s → (hits q.device t ≡ true) ⊎ (q.state ≡ (row_after_change reach t q).state) → (1 ≤ hit_count r.device (t ∷ changes)) ⊎ WasFailed r rows
    one s same alike q there at (inl hit) =
        let device : q.device ≡ r.device = sym (same_device reach t q) ∙ ap (λ (x : PairRow). x.device) at ∙ same in
        inl (some_hit r.device t changes (subst (λ (d : ℕ). hits d t ≡ true) device hit))
    one s same alike q there at (inr was) =
        let device : q.device ≡ r.device = sym (same_device reach t q) ∙ ap (λ (x : PairRow). x.device) at ∙ same in
        inr (record { row = q; among = there; same = device; state = was ∙ ap (λ (x : PairRow). x.state) at ∙ alike })

    after : is_plain t ≡ true → (1 ≤ hit_count r.device changes) ⊎ WasFailed r (after_change level t rows) → (1 ≤ hit_count r.device (t ∷ changes)) ⊎ WasFailed r rows
    after plain (inl some) = inl (more_hits r.device (t ∷ []) changes some)
    after plain (inr was) =
        let found = contains_map (row_after_change reach t) rows was.row was.among in
        one was.row was.same was.state found.0 found.1 found.2 (hit_by reach (reach_is_other level rows) t.time t.change found.0 plain (ap (λ (x : PairRow). is_device_suspended x.state) found.2 ∙ ap is_device_suspended was.state ∙ is))
