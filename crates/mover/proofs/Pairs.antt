-- Rows of the same pairs: what entries are on, and which device a controller's volume has.
use Rattle.std.proofs.Common.{◌≡◌, ℕ, zero, suc, ◌<◌, Bool, true, false, cond, not, nat_eq, ◌&&◌, ◌||◌, List, [], ◌∷◌, map, length, ◌⊎◌, inl, inr, Option, Some, None, refl, sym, ap, subst, ◌∙◌, arith, true≢false}
use Rattle.std.specs.Prelude.{find, bytes_eq, slice_index_or}
use Rattle.std.specs.List.{list_any, Contains}
use Rattle.std.proofs.lemmas.Bool.{and_parts, and_from, eqb-true, eq-eqb}
use Rattle.pair_table.specs.declared.level.Level.{Level}
use Rattle.pair_table.specs.declared.row.PairRow.{PairRow}
use Rattle.pair_table.specs.declared.row.PairState.{PairState}
use Rattle.pair_table.specs.declared.row.PairState.TheVariants.{Duplex}
use Rattle.pair_table.specs.Tables.{clashes, is_of, none_clash, row_of}
use Rattle.pair_table.proofs.PutLaws.{number_sym}
use Rattle.pair_table.proofs.TableLaws.{either_false, first_apart}
use Rattle.pending_queue.specs.Entries.{WaitingEntry}
use Rattle.image_former.specs.Entries.{is_device, is_entry_on, is_row_of, row_device}
use Rattle.row_changes.specs.Changes.{FaultReach, Timed, after_change, after_changes, reach_of, row_after_change}
use Rattle.row_changes.proofs.Reaching.{changes_state}
use Rattle.fed_logs.specs.ToldTracks.{names_track}
use Rattle.fed_logs.specs.Moves.{HasRowIn}

-- ---- pairs

-- a row's pair, whatever its state and its group are
abbrev pub pair_of : PairRow → PairRow
pair_of r = record r { state = Duplex; group = None }

abbrev pub pairs_of : List PairRow → List PairRow
pairs_of rows = map pair_of rows

-- changes leave each row's pair

abbrev pub IsPairOf : PairRow → PairRow → Type 0
IsPairOf r s = pair_of s ≡ pair_of r

pub changed_pair : (reach : FaultReach) (t : Timed) (r : PairRow) → IsPairOf r (row_after_change reach t r)
changed_pair reach t r = ap pair_of (changes_state reach t r)

mapped_pairs : (reach : FaultReach) (t : Timed) (rows : List PairRow) → pairs_of (map (row_after_change reach t) rows) ≡ pairs_of rows
mapped_pairs reach t [] = refl
mapped_pairs reach t (r ∷ rows) = λ i. changed_pair reach t r i ∷ mapped_pairs reach t rows i

pub same_pairs : (level : Level) (changes : List Timed) (rows : List PairRow) → pairs_of (after_changes level changes rows) ≡ pairs_of rows
same_pairs level [] rows = refl
same_pairs level (t ∷ changes) rows = same_pairs level changes (after_change level t rows) ∙ mapped_pairs (reach_of level rows) t rows

-- ---- what depends on pairs alone

clashes_pairs : (r : PairRow) (rows : List PairRow) → list_any (clashes (pair_of r)) (pairs_of rows) ≡ list_any (clashes r) rows
clashes_pairs r [] = refl
clashes_pairs r (s ∷ rows) = ap (λ (b : Bool). clashes r s || b) (clashes_pairs r rows)

apart_pairs : (rows : List PairRow) → none_clash (pairs_of rows) ≡ none_clash rows
apart_pairs [] = refl
apart_pairs (r ∷ rows) = λ i. not (clashes_pairs r rows i) && apart_pairs rows i

pub apart_still : (rows next : List PairRow) → pairs_of next ≡ pairs_of rows → none_clash rows ≡ true → none_clash next ≡ true
apart_still rows next same apart = sym (apart_pairs next) ∙ ap none_clash same ∙ apart_pairs rows ∙ apart

-- the device of the first row that passes a test
abbrev pub device_by : (PairRow → Bool) → List PairRow → Option ℕ
device_by test rows = row_device (find test rows)

device_pairs : (test : PairRow → Bool) → ((r : PairRow) → test (pair_of r) ≡ test r) → (rows : List PairRow) → device_by test (pairs_of rows) ≡ device_by test rows
device_pairs test same [] = refl
device_pairs test same (r ∷ rows) = ap (λ (b : Bool). row_device (cond b (Some (pair_of r)) (find test (pairs_of rows)))) (same r) ∙ choose (test r) (device_pairs test same rows)
  where
    choose : (b : Bool) → device_by test (pairs_of rows) ≡ device_by test rows → row_device (cond b (Some (pair_of r)) (find test (pairs_of rows))) ≡ row_device (cond b (Some r) (find test rows))
    choose true others = refl
    choose false others = others

pub device_still : (test : PairRow → Bool) → ((r : PairRow) → test (pair_of r) ≡ test r) → (rows next : List PairRow) → pairs_of next ≡ pairs_of rows → device_by test next ≡ device_by test rows
device_still test alike rows next same = sym (device_pairs test alike next) ∙ ap (device_by test) same ∙ device_pairs test alike rows

pub entries_on_still : (rows next : List PairRow) → pairs_of next ≡ pairs_of rows → (d x : ℕ) (e : WaitingEntry) → is_entry_on next d x e ≡ is_entry_on rows d x e
entries_on_still rows next same d x e = ap (λ (o : Option ℕ). is_device d o && nat_eq e.head.track x) (device_still (is_row_of e.head) (λ r. refl) rows next same)

-- ---- a row among others

pub data Among (r : PairRow) : List PairRow → Type 0 where
  Here : (rows : List PairRow) → Among r (r ∷ rows)
  Later : (s : PairRow) (rows : List PairRow) → Among r rows → Among r (s ∷ rows)

among_at : (rows : List PairRow) (k : ℕ) (r : PairRow) → k < length rows → slice_index_or rows k r ≡ r → Among r rows
among_at [] k r low is = absurd (omega (arith, low))
among_at (s ∷ rows) zero r low is = subst (λ (x : PairRow). Among r (x ∷ rows)) (sym is) (Here rows)
among_at (s ∷ rows) (suc k) r low is = Later s rows (among_at rows k r (omega (arith, low)) is)

pub among_of : (rows : List PairRow) (r : PairRow) → Contains rows r → Among r rows
among_of rows r c = among_at rows c.0 r c.1 c.2

pub contains_of : (r : PairRow) (rows : List PairRow) → Among r rows → Contains rows r
contains_of r _ (Here rows) = (0, omega arith, refl)
contains_of r _ (Later s rows there) = let c = contains_of r rows there in (suc c.0, (let low = c.1 in omega (arith, low)), c.2)

-- where no row clashes with one, none has its device, and none its controller and volume
pub record Apart (r s : PairRow) : Type 0 where
  pub device : nat_eq r.device s.device ≡ false
  pub volume : (nat_eq r.control s.control && nat_eq r.volume s.volume) ≡ false

apart_from : (r s : PairRow) → clashes r s ≡ false → Apart r s
apart_from r s e =
    let one = either_false (bytes_eq r.primary s.primary || nat_eq r.device s.device) (nat_eq r.control s.control && nat_eq r.volume s.volume) e in
    record { device = (either_false (bytes_eq r.primary s.primary) (nat_eq r.device s.device) one.0).1; volume = one.1 }

pub apart_among : (r s : PairRow) (rows : List PairRow) → list_any (clashes r) rows ≡ false → Among s rows → Apart r s
apart_among r s _ none (Here rows) = apart_from r s (either_false (clashes r s) (list_any (clashes r) rows) none).0
apart_among r s _ none (Later x rows there) = apart_among r s rows (either_false (clashes r x) (list_any (clashes r) rows) none).1 there

-- the first of controller and volume
abbrev pub is_of_volume_at : (k v : ℕ) → PairRow → Bool
is_of_volume_at k v r = nat_eq r.control k && nat_eq r.volume v

pub both_there : (k v : ℕ) (r s : PairRow) → is_of_volume_at k v r ≡ true → is_of_volume_at k v s ≡ true → (nat_eq r.control s.control && nat_eq r.volume s.volume) ≡ true
both_there k v r s h g =
    let a = and_parts (nat_eq r.control k) (nat_eq r.volume v) h in
    let b = and_parts (nat_eq s.control k) (nat_eq s.volume v) g in
    and_from (nat_eq r.control s.control) (nat_eq r.volume s.volume) (eq-eqb r.control s.control (eqb-true r.control k a.0 ∙ sym (eqb-true s.control k b.0))) (eq-eqb r.volume s.volume (eqb-true r.volume v a.1 ∙ sym (eqb-true s.volume v b.1)))

-- the row of a controller's volume is found
pub found_row : (k v : ℕ) (r : PairRow) (rows : List PairRow) → none_clash rows ≡ true → Among r rows → is_of_volume_at k v r ≡ true → find (is_of_volume_at k v) rows ≡ Some r
found_row k v r _ apart (Here rows) is = rw is refl
found_row k v r _ apart (Later s rows there) is = choose (is_of_volume_at k v s) refl (found_row k v r rows (first_apart s rows apart).others there is)
  where
    choose : (b : Bool) → is_of_volume_at k v s ≡ b → find (is_of_volume_at k v) rows ≡ Some r → cond b (Some s) (find (is_of_volume_at k v) rows) ≡ Some r
    choose true at others = absurd (true≢false (sym (both_there k v s r at is) ∙ (apart_among s r rows (first_apart s rows apart).first there).volume))
    choose false at others = others

-- the row of a device is found
pub found_of_device : (r : PairRow) (rows : List PairRow) → none_clash rows ≡ true → Among r rows → row_of r.device rows ≡ Some r
found_of_device r _ apart (Here rows) = rw (eq-eqb r.device r.device refl) refl
found_of_device r _ apart (Later s rows there) =
    let other : nat_eq r.device s.device ≡ false = number_sym r.device s.device ∙ (apart_among s r rows (first_apart s rows apart).first there).device in
    rw other (found_of_device r rows (first_apart s rows apart).others there)

-- ---- entries of a row

-- Without a row of a device no entry is on it.
no_device : (d : ℕ) (test : PairRow → Bool) (rows : List PairRow) → list_any (is_of d) rows ≡ false → is_device d (device_by test rows) ≡ false
no_device d test [] none = refl
no_device d test (r ∷ rows) none =
    let parts = either_false (nat_eq d r.device) (list_any (is_of d) rows) none in
    choose (test r) parts.0 (no_device d test rows parts.1)
  where
    choose : (b : Bool) → nat_eq d r.device ≡ false → is_device d (device_by test rows) ≡ false → is_device d (row_device (cond b (Some r) (find test rows))) ≡ false
    choose true here others = number_sym r.device d ∙ here
    choose false here others = others

-- An entry is on a row's device exactly where it names the row's controller and volume.
device_is : (k v : ℕ) (r : PairRow) (rows : List PairRow) → none_clash rows ≡ true → Among r rows → is_device r.device (device_by (is_of_volume_at k v) rows) ≡ is_of_volume_at k v r
device_is k v r _ apart (Here rows) = choose (is_of_volume_at k v r)
  where
    choose : (b : Bool) → is_device r.device (row_device (cond b (Some r) (find (is_of_volume_at k v) rows))) ≡ b
    choose true = eq-eqb r.device r.device refl
    choose false = no_device r.device (is_of_volume_at k v) rows (first_apart r rows apart).devices
device_is k v r _ apart (Later s rows there) = choose (is_of_volume_at k v s) refl (is_of_volume_at k v r) refl (device_is k v r rows (first_apart s rows apart).others there)
  where
    from : Apart s r
    from = apart_among s r rows (first_apart s rows apart).first there

    choose : (b : Bool) → is_of_volume_at k v s ≡ b → (t : Bool) → is_of_volume_at k v r ≡ t → is_device r.device (device_by (is_of_volume_at k v) rows) ≡ is_of_volume_at k v r
        → is_device r.device (row_device (cond b (Some s) (find (is_of_volume_at k v) rows))) ≡ is_of_volume_at k v r
    choose true at true is others = absurd (true≢false (sym (both_there k v s r at is) ∙ from.volume))
    choose true at false is others = from.device ∙ sym is
    choose false at t is others = others

regroup : (a b c : Bool) → ((a && b) && c) ≡ (a && (b && c))
regroup true b c = refl
regroup false b c = refl

pub entry_names : (r : PairRow) (rows : List PairRow) → none_clash rows ≡ true → Among r rows → (x : ℕ) (e : WaitingEntry) → is_entry_on rows r.device x e ≡ names_track r.control r.volume x e
entry_names r rows apart there x e =
    ap (λ (b : Bool). b && nat_eq e.head.track x) (device_is e.head.control e.head.volume r rows apart there)
    ∙ ap (λ (b : Bool). (b && nat_eq r.volume e.head.volume) && nat_eq e.head.track x) (number_sym r.control e.head.control)
    ∙ ap (λ (b : Bool). (nat_eq e.head.control r.control && b) && nat_eq e.head.track x) (number_sym r.volume e.head.volume)
    ∙ regroup (nat_eq e.head.control r.control) (nat_eq e.head.volume r.volume) (nat_eq e.head.track x)

-- ---- the device of a controller's volume

pub named_by : (k v : ℕ) (r : PairRow) → r.control ≡ k → r.volume ≡ v → is_of_volume_at k v r ≡ true
named_by k v r control volume = and_from (nat_eq r.control k) (nat_eq r.volume v) (eq-eqb r.control k control) (eq-eqb r.volume v volume)

same_number : (a b : ℕ) → (let x : Option ℕ = Some a in let y : Option ℕ = Some b in x ≡ y) → a ≡ b
same_number a b e = cc

-- Rows of one controller's volume, among rows of the same pairs, have one device.
pub one_device : (is now : PairState → Type 0) (k v : ℕ) (rows next : List PairRow) → none_clash rows ≡ true → pairs_of next ≡ pairs_of rows → (a : HasRowIn is k v rows) (b : HasRowIn now k v next) → a.row.device ≡ b.row.device
one_device is now k v rows next apart same a b =
    let first = found_row k v a.row rows apart (among_of rows a.row a.among) (named_by k v a.row a.control a.volume) in
    let then = found_row k v b.row next (apart_still rows next same apart) (among_of next b.row b.among) (named_by k v b.row b.control b.volume) in
    same_number a.row.device b.row.device (sym (ap row_device first) ∙ sym (device_still (is_of_volume_at k v) (λ r. refl) rows next same) ∙ ap row_device then)

-- ---- the row of a pair at the start

-- A row among others has its pair among rows of the same pairs.
pub record HasPair (s : PairRow) (rows : List PairRow) : Type 0 where
  pub row : PairRow
  pub among : Among row rows
  pub pair : pair_of row ≡ pair_of s

abbrev pub AmongCases : PairRow → List PairRow → Type 0
AmongCases r [] = ⊥
AmongCases r (s ∷ rows) = (s ≡ r) ⊎ Among r rows

pub among_cases : (r : PairRow) (rows : List PairRow) → Among r rows → AmongCases r rows
among_cases r _ (Here rows) = inl refl
among_cases r _ (Later s rows there) = inr there

pair_among : (s : PairRow) (rows : List PairRow) → Among (pair_of s) (pairs_of rows) → HasPair s rows
pair_among s [] there = absurd (among_cases (pair_of s) [] there)
pair_among s (r ∷ rows) there = elim (among_cases (pair_of s) (pair_of r ∷ pairs_of rows) there) [
  | inl same ↦ record { row = r; among = Here rows; pair = same }
  | inr later ↦
      let h = pair_among s rows later in
      record { row = h.row; among = Later r rows h.among; pair = h.pair }
]

among_pairs : (s : PairRow) (rows : List PairRow) → Among s rows → Among (pair_of s) (pairs_of rows)
among_pairs s _ (Here rows) = Here (pairs_of rows)
among_pairs s _ (Later t rows there) = Later (pair_of t) (pairs_of rows) (among_pairs s rows there)

pub pair_before : (s : PairRow) (rows next : List PairRow) → pairs_of next ≡ pairs_of rows → Among s next → HasPair s rows
pair_before s rows next same there = pair_among s rows (subst (Among (pair_of s)) same (among_pairs s next there))
