-- Without a hit the rows that changes lead to are determined, row by row.
use Rattle.std.proofs.Common.{◌≡◌, ℕ, zero, suc, ◌+◌, ◌≤◌, ◌<◌, Bool, true, false, not, cond, nat_eq, ◌&&◌, ◌||◌, List, [], ◌∷◌, map, Option, Some, None, refl, sym, ap, subst, ◌∙◌, arith, true≢false, slice_get}
use Rattle.std.specs.Prelude.{bytes_eq, nat_le, nat_lt}
use Rattle.std.specs.List.{list_all, list_any}
use Rattle.std.proofs.lemmas.Bool.{and_parts, or_parts, eqb-true, eqb-false, not-true, eq-eqb, leb-true, le-leb, lt-ltb, and_from}
use Rattle.std.proofs.lemmas.List.{map-id}
use Rattle.std.proofs.lemmas.Simd.{map-map}
use Rattle.pair_table.specs.declared.level.Level.{Level}
use Rattle.pair_table.specs.declared.row.PairRow.{PairRow}
use Rattle.pair_table.specs.declared.row.PairState.{PairState}
use Rattle.pair_table.specs.declared.row.PairState.TheVariants.{Pending, Copy, Duplex, Suspended}
use Rattle.pair_table.specs.declared.row.SuspendCause.TheVariants.{Control as ByControl}
use Rattle.pair_table.specs.Rows.{is_suspended}
use Rattle.pair_table.specs.Tables.{clashes, in_state, none_clash, row_of}
use Rattle.row_changes.specs.Changes.{FaultReach, RowChange, Timed, after_change, after_changes, break_time_of, due_after, is_at, may_all_come, may_come, may_mature, reach_of, row_after_change, row_may_mature, since}
use Rattle.row_changes.specs.Changes.RowChange.{Break, Hit, MarkedHit, Mature, Reached}
use Rattle.row_changes.specs.Changes.Due.{NoneDue}
use Rattle.row_changes.specs.Spans.{all_broke, has_no_hit, is_break, breaks_control, is_maturing, lies_in, next_row, next_state}
use Rattle.pair_table.specs.States.{is_settled}
use Rattle.row_changes.proofs.Reaching.{changes_state, same_reach}

-- ---- booleans

same_eq : (a b : ℕ) → nat_eq a b ≡ nat_eq b a
same_eq a b = choose (nat_eq a b) (nat_eq b a) refl refl
  where
    choose : (x y : Bool) → nat_eq a b ≡ x → nat_eq b a ≡ y → nat_eq a b ≡ nat_eq b a
    choose true y p q = rw p (sym (eq-eqb b a (sym (eqb-true a b p))))
    choose false true p q = rw q (eq-eqb a b (sym (eqb-true b a q)))
    choose false false p q = p ∙ sym q

-- ---- one row

-- what changes make of one row, with a reach that stays meanwhile
abbrev pub row_after : FaultReach → List Timed → PairRow → PairRow
row_after reach [] r = r
row_after reach (t ∷ changes) r = row_after reach changes (row_after_change reach t r)

pub after_rows : (level : Level) (changes : List Timed) (rows : List PairRow) → after_changes level changes rows ≡ map (row_after (reach_of level rows) changes) rows
after_rows level [] rows = sym (map-id rows)
after_rows level (t ∷ changes) rows =
    let reach = reach_of level rows in
    let next = after_change level t rows in
    after_rows level changes next ∙ map-map (row_after (reach_of level next) changes) (row_after_change reach t) rows
    ∙ ap (λ (later : FaultReach). map (λ r. row_after later changes (row_after_change reach t r)) rows) (same_reach level (row_after_change reach t) (changes_state reach t) rows)

abbrev is_plain : Timed → Bool
is_plain t = is_break t || is_maturing t

-- what a change that is no hit makes of the state of a device's row, with its controller
abbrev pub state_by : Timed → (device control : ℕ) → PairState → PairState
state_by t device control state = elim t.change [
  | Mature d s ↦ cond (nat_eq d device) s state
  | Break k ↦ cond (nat_eq control k) (cond (is_suspended state) state (since ByControl t.time)) state
  | Hit devices ↦ state
  | MarkedHit devices ↦ state
  | Reached devices ↦ state
]

abbrev pub state_after : List Timed → (device control : ℕ) → PairState → PairState
state_after [] device control state = state
state_after (t ∷ changes) device control state = state_after changes device control (state_by t device control state)

changed_is : (reach : FaultReach) (time : ℕ) (change : RowChange) (r : PairRow) → let t : Timed = record { time = time; change = change } in is_plain t ≡ true → row_after_change reach t r ≡ in_state (state_by t r.device r.control r.state) r
changed_is reach time (Mature d s) r plain = choose (nat_eq d r.device)
  where
    choose : (b : Bool) → cond b (in_state s r) r ≡ in_state (cond b s r.state) r
    choose true = refl
    choose false = refl
changed_is reach time (Break k) r plain = choose (nat_eq r.control k) (is_suspended r.state)
  where
    choose : (b c : Bool) → cond b (cond c r (in_state (since ByControl time) r)) r ≡ in_state (cond b (cond c r.state (since ByControl time)) r.state) r
    choose true true = refl
    choose true false = refl
    choose false c = refl
changed_is reach time (Hit devices) r plain = absurd cc
changed_is reach time (MarkedHit devices) r plain = absurd cc
changed_is reach time (Reached devices) r plain = absurd cc

pub row_is : (reach : FaultReach) (changes : List Timed) (r : PairRow) → has_no_hit changes ≡ true → row_after reach changes r ≡ in_state (state_after changes r.device r.control r.state) r
row_is reach [] r plain = refl
row_is reach (t ∷ changes) r plain =
    let parts = and_parts (is_plain t) (has_no_hit changes) plain in
    ap (row_after reach changes) (changed_is reach t.time t.change r parts.0) ∙ row_is reach changes (in_state (state_by t r.device r.control r.state) r) parts.1

-- ---- look-ups

some_row : (a b : PairRow) → (let x : Option PairRow = Some a in let y : Option PairRow = Some b in x ≡ y) → a ≡ b
some_row a b e = cc

found_in_map : (f : PairRow → PairRow) → ((x : PairRow) → (f x).device ≡ x.device) → (d : ℕ) (rows : List PairRow) (r : PairRow) → row_of d rows ≡ Some r → row_of d (map f rows) ≡ Some (f r)
found_in_map f keeps d [] r e = absurd cc
found_in_map f keeps d (x ∷ rows) r e = choose (nat_eq d x.device) refl (found_in_map f keeps d rows r) e
  where
    choose : (b : Bool) → nat_eq d x.device ≡ b → (row_of d rows ≡ Some r → row_of d (map f rows) ≡ Some (f r)) → cond b (Some x) (row_of d rows) ≡ Some r → row_of d (map f (x ∷ rows)) ≡ Some (f r)
    choose true is next e = rw (ap (nat_eq d) (keeps x) ∙ is) (ap (λ (o : PairRow). let s : Option PairRow = Some (f o) in s) (some_row x r e))
    choose false is next e = rw (ap (nat_eq d) (keeps x) ∙ is) (next e)

-- the device's row after a change that is no hit
found_after : (level : Level) (t : Timed) (d : ℕ) (rows : List PairRow) (r : PairRow) → is_plain t ≡ true → row_of d rows ≡ Some r → row_of d (after_change level t rows) ≡ Some (in_state (state_by t r.device r.control r.state) r)
found_after level t d rows r plain e =
    let reach = reach_of level rows in
    found_in_map (row_after_change reach t) (λ x. ap (λ (y : PairRow). y.device) (changed_is reach t.time t.change x plain)) d rows r e
    ∙ ap (λ (y : PairRow). let s : Option PairRow = Some y in s) (changed_is reach t.time t.change r plain)

-- ---- the state of a row after changes

is_at_is : (time : ℕ) (b : Option ℕ) → is_at time b ≡ true → b ≡ Some time
is_at_is time None at = absurd cc
is_at_is time (Some b) at = ap (λ n. let s : Option ℕ = Some n in s) (eqb-true b time at)

-- Only rows that wait or are copied mature, and none becomes suspended so.
matures_from : (from to : PairState) → may_mature from to ≡ true → (is_suspended from ≡ false) × (is_suspended to ≡ false)
matures_from Pending Pending may = absurd cc
matures_from Pending Copy may = (refl, refl)
matures_from Pending Duplex may = (refl, refl)
matures_from Pending (Suspended cause time) may = absurd cc
matures_from Copy Pending may = absurd cc
matures_from Copy Copy may = absurd cc
matures_from Copy Duplex may = (refl, refl)
matures_from Copy (Suspended cause time) may = absurd cc
matures_from Duplex to may = absurd cc
matures_from (Suspended cause time) to may = absurd cc

-- What is known of a state after changes that lead from one time to another: a suspended one stays; else it is suspended by the
-- controller's break, which lies between, where that came, and isn't suspended where it didn't.
pub record Settles (breaks : List (Option ℕ)) (from to control : ℕ) (changes : List Timed) (old new : PairState) : Type 0 where
  pub stays : is_suspended old ≡ true → new ≡ old
  pub broken : is_suspended old ≡ false → list_any (breaks_control control) changes ≡ true → (b : ℕ) × (break_time_of control breaks ≡ Some b) × (from ≤ b) × (b < to) × (new ≡ since ByControl b)
  pub whole : is_suspended old ≡ false → list_any (breaks_control control) changes ≡ false → is_suspended new ≡ false

other_below : (a b : ℕ) → nat_eq a b ≡ false → a ≤ b → a < b
other_below a b is le = omega (arith, eqb-false a b is, le)

below_end : (time to : ℕ) → not (nat_eq time to) ≡ true → time ≤ to → time < to
below_end time to differs le = choose (nat_eq time to) refl differs
  where
    choose : (b : Bool) → nat_eq time to ≡ b → not b ≡ true → time < to
    choose true is n = absurd cc
    choose false is n = other_below time to is le

-- The device's row in a state, with its controller.
abbrev Found : (device control : ℕ) → List PairRow → PairState → Type 0
Found device control rows state = (r : PairRow) × (row_of device rows ≡ Some r) × (r.device ≡ device) × (r.control ≡ control) × (r.state ≡ state)

module _ (level : Level) (breaks : List (Option ℕ)) (to device control : ℕ) where
  -- A change is after others that settle what it leaves.
  one_settles : (from time : ℕ) (change : RowChange) (changes : List Timed) (rows : List PairRow) (state new : PairState) → let t : Timed = record { time = time; change = change } in
      from ≤ time → time ≤ to → not (is_break t && nat_eq time to) ≡ true → is_plain t ≡ true → Found device control rows state
      → may_come breaks NoneDue rows t ≡ true → Settles breaks time to control changes (state_by t device control state) new → Settles breaks from to control (t ∷ changes) state new
  one_settles from time (Mature d s) changes rows state new after before differs plain found may later = matured (nat_eq d device) refl later
    where
      maturing : nat_eq d device ≡ true → may_mature state s ≡ true
      maturing is = subst (λ (q : PairState). may_mature q s ≡ true) found.4 (subst (λ (o : Option PairRow). row_may_mature s o ≡ true) (ap (λ n. row_of n rows) (eqb-true d device is) ∙ found.1) may)

      matured : (b : Bool) → nat_eq d device ≡ b → Settles breaks time to control changes (cond b s state) new → Settles breaks from to control (record { time = time; change = Mature d s } ∷ changes) state new
      matured true is later =
          let from_to = matures_from state s (maturing is) in
          record {
            stays = λ suspended. absurd (true≢false (sym suspended ∙ from_to.0));
            broken = λ none any. let b = later.broken from_to.1 any in (b.0, b.1, omega (arith, after, b.2), b.3, b.4);
            whole = λ none any. later.whole from_to.1 any;
          }
      matured false is later = record {
        stays = later.stays;
        broken = λ none any. let b = later.broken none any in (b.0, b.1, omega (arith, after, b.2), b.3, b.4);
        whole = later.whole;
      }
  one_settles from time (Break k) changes rows state new after before differs plain found may later = broke (nat_eq control k) (is_suspended state) refl refl later
    where
      broke : (b c : Bool) → nat_eq control k ≡ b → is_suspended state ≡ c → Settles breaks time to control changes (cond b (cond c state (since ByControl time)) state) new
          → Settles breaks from to control (record { time = time; change = Break k } ∷ changes) state new
      broke true true is suspended later = record {
        stays = later.stays;
        broken = λ none any. absurd (true≢false (sym suspended ∙ none));
        whole = λ none any. absurd (true≢false (sym suspended ∙ none));
      }
      broke true false is suspended later = record {
        stays = λ was. absurd (true≢false (sym was ∙ suspended));
        broken = λ none any. (time, ap (λ n. break_time_of n breaks) (eqb-true control k is) ∙ is_at_is time (break_time_of k breaks) may, after, below_end time to differs before, later.stays refl);
        whole = λ none any. absurd (true≢false (sym (same_eq k control ∙ is) ∙ (or_parts (nat_eq k control) (list_any (breaks_control control) changes) any).0));
      }
      broke false c is suspended later =
          let other : nat_eq k control ≡ false = same_eq k control ∙ is in
          let rest : list_any (breaks_control control) (record { time = time; change = Break k } ∷ changes) ≡ list_any (breaks_control control) changes = rw other refl in
          record {
            stays = later.stays;
            broken = λ none any. let b = later.broken none (sym rest ∙ any) in (b.0, b.1, omega (arith, after, b.2), b.3, b.4);
            whole = λ none any. later.whole none (sym rest ∙ any);
          }
  one_settles from time (Hit devices) changes rows state new after before differs plain found may later = absurd cc
  one_settles from time (MarkedHit devices) changes rows state new after before differs plain found may later = absurd cc
  one_settles from time (Reached devices) changes rows state new after before differs plain found may later = absurd cc

  found_next : (rows : List PairRow) (state : PairState) (t : Timed) → is_plain t ≡ true → Found device control rows state → Found device control (after_change level t rows) (state_by t device control state)
  found_next rows state t plain found =
      let r = found.0 in
      let next = state_by t r.device r.control r.state in
      (in_state next r, found_after level t device rows r plain found.1, found.2, found.3, same r found.2 found.3 found.4)
    where
      same : (r : PairRow) → r.device ≡ device → r.control ≡ control → r.state ≡ state → state_by t r.device r.control r.state ≡ state_by t device control state
      same r p q s = rw (p, q, s) refl

  none_due : (time : ℕ) (change : RowChange) → let t : Timed = record { time = time; change = change } in is_plain t ≡ true → due_after level NoneDue t ≡ NoneDue
  none_due time (Mature d s) plain = refl
  none_due time (Break k) plain = refl
  none_due time (Hit devices) plain = absurd cc
  none_due time (MarkedHit devices) plain = absurd cc
  none_due time (Reached devices) plain = absurd cc

  pub settles : (from : ℕ) (changes : List Timed) (rows : List PairRow) (state : PairState) → Found device control rows state → may_all_come level breaks false NoneDue from to rows changes ≡ true
      → has_no_hit changes ≡ true → list_all (λ t. not (is_break t && nat_eq t.time to)) changes ≡ true → Settles breaks from to control changes state (state_after changes device control state)
  settles from [] rows state found may plain differs = record { stays = λ is. refl; broken = λ none any. absurd cc; whole = λ none any. none }
  settles from (t ∷ changes) rows state found may plain differs =
      let c = and_parts (nat_le from t.time && nat_le t.time to && may_come breaks NoneDue rows t) (may_all_come level breaks false (due_after level NoneDue t) t.time to (after_change level t rows) changes) may in
      let b = and_parts (nat_le from t.time && nat_le t.time to) (may_come breaks NoneDue rows t) c.0 in
      let a = and_parts (nat_le from t.time) (nat_le t.time to) b.0 in
      let p = and_parts (is_plain t) (has_no_hit changes) plain in
      let d = and_parts (not (is_break t && nat_eq t.time to)) (list_all (λ t. not (is_break t && nat_eq t.time to)) changes) differs in
      let rest = subst (λ due. may_all_come level breaks false due t.time to (after_change level t rows) changes ≡ true) (none_due t.time t.change p.0) c.1 in
      one_settles from t.time t.change changes rows state (state_after (t ∷ changes) device control state) (leb-true from t.time a.0) (leb-true t.time to a.1) d.0 p.0 found b.1
      (settles t.time changes (after_change level t rows) (state_by t device control state) (found_next rows state t p.0 found) rest p.1 d.1)

-- ---- breaks that must have come

broke_from : (from to first control : ℕ) (breaks : List (Option ℕ)) (changes : List Timed) → all_broke from to first breaks changes ≡ true → lies_in from to (break_time_of control breaks) ≡ true → list_any (breaks_control (first + control)) changes ≡ true
broke_from from to first control [] changes all lies = absurd cc
broke_from from to first zero (b ∷ breaks) changes all lies =
    let here = and_parts (not (lies_in from to b) || list_any (breaks_control first) changes) (all_broke from to (first + 1) breaks changes) all in
    subst (λ k. list_any (breaks_control k) changes ≡ true) (let e : first ≡ first + 0 = omega arith in e) (came (lies_in from to b) (list_any (breaks_control first) changes) lies here.0)
  where
    came : (l a : Bool) → l ≡ true → (not l || a) ≡ true → a ≡ true
    came true a is or = or
    came false a is or = absurd cc
broke_from from to first (suc control) (b ∷ breaks) changes all lies =
    let here = and_parts (not (lies_in from to b) || list_any (breaks_control first) changes) (all_broke from to (first + 1) breaks changes) all in
    subst (λ k. list_any (breaks_control k) changes ≡ true) (let e : first + 1 + control ≡ first + suc control = omega arith in e) (broke_from from to (first + 1) control breaks changes here.1 lies)

-- ---- the row before the command

settled_is : (state : PairState) → is_suspended state ≡ false → is_settled state ≡ true → state ≡ Duplex
settled_is Pending none settled = absurd cc
settled_is Copy none settled = absurd cc
settled_is Duplex none settled = refl
settled_is (Suspended cause time) none settled = absurd cc

next_outside : (from to : ℕ) (b : Option ℕ) → lies_in from to b ≡ false → next_state from to b ≡ Duplex
next_outside from to None out = refl
next_outside from to (Some b) out = rw out refl

next_inside : (from to b : ℕ) → from ≤ b → b < to → next_state from to (Some b) ≡ since ByControl b
next_inside from to b after before = rw (and_from (nat_le from b) (nat_lt b to) (le-leb from b after) (lt-ltb b to before)) refl

-- A row that isn't suspended has the next state, once it is settled.
state_is : (breaks : List (Option ℕ)) (from to control : ℕ) (changes : List Timed) (old new : PairState) → all_broke from to 0 breaks changes ≡ true → Settles breaks from to control changes old new
    → is_settled new ≡ true → is_suspended old ≡ false → new ≡ next_state from to (break_time_of control breaks)
state_is breaks from to control changes old new all s settled none = choose (list_any (breaks_control control) changes) refl
  where
    outside : (l : Bool) → lies_in from to (break_time_of control breaks) ≡ l → list_any (breaks_control control) changes ≡ false → l ≡ false
    outside true lies any = absurd (true≢false (sym (broke_from from to 0 control breaks changes all lies) ∙ ap (λ k. list_any (breaks_control k) changes) (let e : 0 + control ≡ control = omega arith in e) ∙ any))
    outside false lies any = refl

    choose : (a : Bool) → list_any (breaks_control control) changes ≡ a → new ≡ next_state from to (break_time_of control breaks)
    choose true any = let b = s.broken none any in b.4 ∙ sym (next_inside from to b.0 b.2 b.3) ∙ ap (next_state from to) (sym b.1)
    choose false any = settled_is new (s.whole none any) settled ∙ sym (next_outside from to (break_time_of control breaks) (outside (lies_in from to (break_time_of control breaks)) refl any))

pub row_is_next : (breaks : List (Option ℕ)) (from to : ℕ) (changes : List Timed) (r : PairRow) (new : PairState) → all_broke from to 0 breaks changes ≡ true → Settles breaks from to r.control changes r.state new
    → is_settled new ≡ true → in_state new r ≡ next_row breaks from to r
row_is_next breaks from to changes r new all s settled = choose (is_suspended r.state) refl
  where
    choose : (b : Bool) → is_suspended r.state ≡ b → in_state new r ≡ cond b r (in_state (next_state from to (break_time_of r.control breaks)) r)
    choose true is = ap (λ (q : PairState). in_state q r) (s.stays is)
    choose false is = ap (λ (q : PairState). in_state q r) (state_is breaks from to r.control changes r.state new all s settled is)

-- ---- all rows

apart_found : (x r : PairRow) (rest : List PairRow) → clashes r x ≡ false → row_of x.device rest ≡ Some x → row_of x.device (r ∷ rest) ≡ Some x
apart_found x r rest apart found =
    let first = or_parts (bytes_eq r.primary x.primary || nat_eq r.device x.device) (nat_eq r.control x.control && nat_eq r.volume x.volume) apart in
    let second = or_parts (bytes_eq r.primary x.primary) (nat_eq r.device x.device) first.0 in
    rw (same_eq x.device r.device ∙ second.1) found

here_found : (r : PairRow) (rest : List PairRow) → row_of r.device (r ∷ rest) ≡ Some r
here_found r rest = rw (eq-eqb r.device r.device refl) refl

-- Each of these is found by its device after rows that don't clash with it.
abbrev Founds : List PairRow → List PairRow → Type 0
Founds all rows = (i : ℕ) (x : PairRow) → slice_get rows i ≡ Some x → row_of x.device all ≡ Some x

founds : (rows : List PairRow) → none_clash rows ≡ true → Founds rows rows
founds [] apart i x at = absurd cc
founds (r ∷ rows) apart zero x at = subst (λ (y : PairRow). row_of y.device (r ∷ rows) ≡ Some y) (some_row r x at) (here_found r rows)
founds (r ∷ rows) apart (suc i) x at =
    let parts = and_parts (not (list_any (clashes r) rows)) (none_clash rows) apart in
    apart_found x r rows (none_at rows i (not-true (list_any (clashes r) rows) parts.0) at) (founds rows parts.1 i x at)
  where
    none_at : (rows : List PairRow) (i : ℕ) → list_any (clashes r) rows ≡ false → slice_get rows i ≡ Some x → clashes r x ≡ false
    none_at [] i none at = absurd cc
    none_at (y ∷ rows) zero none at = subst (λ (z : PairRow). clashes r z ≡ false) (some_row y x at) (or_parts (clashes r y) (list_any (clashes r) rows) none).0
    none_at (y ∷ rows) (suc i) none at = none_at rows i (or_parts (clashes r y) (list_any (clashes r) rows) none).1 at

same_map : (f g : PairRow → PairRow) (rows : List PairRow) → ((i : ℕ) (x : PairRow) → slice_get rows i ≡ Some x → f x ≡ g x) → map f rows ≡ map g rows
same_map f g [] same = refl
same_map f g (r ∷ rows) same = rw (same zero r refl) (ap (λ (l : List PairRow). g r ∷ l) (same_map f g rows (λ i x at. same (suc i) x at)))

settled_at : (f : PairRow → PairRow) (rows : List PairRow) (i : ℕ) (x : PairRow) → list_all (λ r. is_settled r.state) (map f rows) ≡ true → slice_get rows i ≡ Some x → is_settled (f x).state ≡ true
settled_at f [] i x all at = absurd cc
settled_at f (r ∷ rows) zero x all at = subst (λ (y : PairRow). is_settled (f y).state ≡ true) (some_row r x at) (and_parts (is_settled (f r).state) (list_all (λ r. is_settled r.state) (map f rows)) all).0
settled_at f (r ∷ rows) (suc i) x all at = settled_at f rows i x (and_parts (is_settled (f r).state) (list_all (λ r. is_settled r.state) (map f rows)) all).1 at

pub rows_determined : (level : Level) (breaks : List (Option ℕ)) (from to : ℕ) (changes : List Timed) (rows : List PairRow) → none_clash rows ≡ true → may_all_come level breaks false NoneDue from to rows changes ≡ true
    → all_broke from to 0 breaks changes ≡ true → list_all (λ t. not (is_break t && nat_eq t.time to)) changes ≡ true → list_all (λ r. is_settled r.state) (after_changes level changes rows) ≡ true → has_no_hit changes ≡ true
    → after_changes level changes rows ≡ map (next_row breaks from to) rows
rows_determined level breaks from to changes rows apart may broke differs settled plain =
    let reach = reach_of level rows in
    let as_map = after_rows level changes rows in
    as_map ∙ same_map (row_after reach changes) (next_row breaks from to) rows (λ i x at.
    let is = row_is reach changes x plain in
    let s = settles level breaks to x.device x.control from changes rows x.state (x, founds rows apart i x at, refl, refl, refl) may plain differs in
    let end = subst (λ (y : PairRow). is_settled y.state ≡ true) is (settled_at (row_after reach changes) rows i x (subst (λ (l : List PairRow). list_all (λ r. is_settled r.state) l ≡ true) as_map settled) at) in
    is ∙ row_is_next breaks from to changes x (state_after changes x.device x.control x.state) broke s end)
