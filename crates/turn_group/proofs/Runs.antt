-- The calls of all seats are one run of the group state, of which each seat's list is its part.
use Rattle.std.proofs.Common.{◌≡◌, ◌≢◌, ℕ, zero, suc, Bool, true, false, nat_eq, List, [], ◌∷◌, map, Some, refl, sym, ap, ◌∙◌, subst}
use Rattle.std.specs.Prelude.{filter}
use Rattle.std.specs.List.{list_all, slice_get}
use Rattle.std.proofs.lemmas.Bool.{and_parts, eqb-true, ne_eqb}
use mathlib.Core.Option.{some, some-ne-none, some-injective}
use lib.ListN.{get_elem?}
use Rattle.turn.specs.Turn.{ReachesBy, OneRun}
use Rattle.turn.proofs.Parts.{AllAre, part_of_run}
use Rattle.group_state.specs.Groups.{Group}
use Rattle.group_state.specs.Machine.{Call}
use Rattle.group_state.specs.Machine.Call.{Join, NextWanted, Copied, Raise, Break, Form, Carry, Drop, Resume, Forget}
use Rattle.group_state.specs.Runs.{Runs}
use Rattle.turn_group.specs.Calls.{MadeCall, as_answer, seat_steps}
use Rattle.group_state.specs.Calls.{is_by_seat, is_by_reader, is_by_mover}
use Rattle.turn_group.specs.Seats.{AllFrom, IsOwn}
use Rattle.turn_group.specs.Histories.{OneHistory}
use Rattle.turn_group.proofs.Places.{at_place}

pub runs_of : (x : Group) (log : List MadeCall) (y : Group) → ReachesBy seat_steps x log y → Runs x (map as_answer log) y
runs_of x [] y run = sym run
runs_of x (e ∷ log) y run = (run.0, run.1.1, run.1.2, runs_of run.0 log y run.2)

pub seats_of : (x : Group) (log : List MadeCall) (y : Group) → ReachesBy seat_steps x log y → list_all (λ (made : MadeCall). is_by_seat made.event) log ≡ true
seats_of x [] y run = refl
seats_of x (e ∷ log) y run = rw run.1.0 (seats_of run.0 log y run.2)

-- ---- whose a call is

mover_alone : (k : ℕ) (call : Call) → is_by_mover call ≡ true → is_by_reader k call ≡ false
mover_alone k (Join b) by = absurd cc
mover_alone k (NextWanted j) by = absurd cc
mover_alone k (Copied j v x at slot) by = absurd cc
mover_alone k (Raise j upto) by = absurd cc
mover_alone k (Break j upto cause) by = absurd cc
mover_alone k (Form limit) by = refl
mover_alone k (Carry j v plan) by = refl
mover_alone k (Drop j v all) by = refl
mover_alone k (Resume j v) by = refl
mover_alone k (Forget j v) by = refl

reader_alone : (k : ℕ) (call : Call) → is_by_reader k call ≡ true → is_by_mover call ≡ false
reader_alone k (Join b) by = refl
reader_alone k (NextWanted j) by = refl
reader_alone k (Copied j v x at slot) by = refl
reader_alone k (Raise j upto) by = refl
reader_alone k (Break j upto cause) by = refl
reader_alone k (Form limit) by = absurd cc
reader_alone k (Carry j v plan) by = refl
reader_alone k (Drop j v all) by = absurd cc
reader_alone k (Resume j v) by = refl
reader_alone k (Forget j v) by = refl

apart_number : (i j k : ℕ) → j ≢ k → nat_eq i j ≡ true → nat_eq i k ≡ false
apart_number i j k apart is = ne_eqb i k (λ e. apart (sym (eqb-true i j is) ∙ e))

readers_apart : (j k : ℕ) (call : Call) → j ≢ k → is_by_reader j call ≡ true → is_by_reader k call ≡ false
readers_apart j k (Join b) apart by = apart_number b.control j k apart by
readers_apart j k (NextWanted i) apart by = apart_number i j k apart by
readers_apart j k (Copied i v x at slot) apart by = apart_number i j k apart by
readers_apart j k (Raise i upto) apart by = apart_number i j k apart by
readers_apart j k (Break i upto cause) apart by = apart_number i j k apart by
readers_apart j k (Form limit) apart by = refl
readers_apart j k (Carry i v plan) apart by = refl
readers_apart j k (Drop i v all) apart by = refl
readers_apart j k (Resume i v) apart by = refl
readers_apart j k (Forget i v) apart by = refl

-- ---- each list is its part

module _ (log : List MadeCall) (own : Call → Bool) where
  abbrev made_by : (Call → Bool) → MadeCall → Bool
  made_by who made = who made.event

  all_own : (es : List MadeCall) → list_all (made_by own) es ≡ true → AllAre log (made_by own) true es
  all_own [] is = tt
  all_own (e ∷ es) is = let parts = and_parts (own e.event) (list_all (made_by own) es) is in (parts.0, all_own es parts.1)

  none_other : (who : Call → Bool) (es : List MadeCall) → list_all (made_by who) es ≡ true → ((call : Call) → who call ≡ true → own call ≡ false) → AllAre log (made_by own) false es
  none_other who [] is apart = tt
  none_other who (e ∷ es) is apart = let parts = and_parts (who e.event) (list_all (made_by who) es) is in (apart e.event parts.0, none_other who es parts.1 apart)

at_slice : {A : Type 0} (l : List A) (k : ℕ) (x : A) → slice_get l k ≡ Some x → get_elem? l k ≡ some x
at_slice [] k x at = absurd cc
at_slice (y ∷ l) zero x at = let same : y ≡ x = cc in ap some same
at_slice (y ∷ l) (suc k) x at = at_slice l k x at

slice_at : {A : Type 0} (l : List A) (k : ℕ) (x : A) → get_elem? l k ≡ some x → slice_get l k ≡ Some x
slice_at [] k x at = absurd (some-ne-none x (sym at))
slice_at (y ∷ l) zero x at = ap Some (some-injective y x at)
slice_at (y ∷ l) (suc k) x at = slice_at l k x at

module _ (first end : Group) (mover : List MadeCall) (readers : List (List MadeCall)) (run : OneRun seat_steps first (mover ∷ readers) end)
    (movers : list_all (λ (made : MadeCall). is_by_mover made.event) mover ≡ true) (each : AllFrom IsOwn 0 readers) where
  movers_part : filter (λ (made : MadeCall). is_by_mover made.event) run.log ≡ mover
  movers_part = part_of_run seat_steps first end (mover ∷ readers) run (λ made. is_by_mover made.event) 0 mover refl (all_own run.log is_by_mover mover movers) others
    where
      others : (j : ℕ) (fs : List MadeCall) → j ≢ 0 → get_elem? (mover ∷ readers) j ≡ some fs → AllAre run.log (λ made. is_by_mover made.event) false fs
      others zero fs apart at = absurd (apart refl)
      others (suc j) fs apart at = none_other run.log is_by_mover (is_by_reader j) fs (at_place IsOwn readers j fs each (slice_at readers j fs at)) (reader_alone j)

  readers_part : (k : ℕ) (own : List MadeCall) → slice_get readers k ≡ Some own → filter (λ (made : MadeCall). is_by_reader k made.event) run.log ≡ own
  readers_part k own at =
      part_of_run seat_steps first end (mover ∷ readers) run (λ made. is_by_reader k made.event) (suc k) own (at_slice readers k own at) (all_own run.log (is_by_reader k) own (at_place IsOwn readers k own each at)) others
    where
      others : (j : ℕ) (fs : List MadeCall) → j ≢ suc k → get_elem? (mover ∷ readers) j ≡ some fs → AllAre run.log (λ made. is_by_reader k made.event) false fs
      others zero fs apart is = subst (AllAre run.log (λ made. is_by_reader k made.event) false) (some-injective mover fs is) (none_other run.log (is_by_reader k) is_by_mover mover movers (mover_alone k))
      others (suc j) fs apart is =
          none_other run.log (is_by_reader k) (is_by_reader j) fs (at_place IsOwn readers j fs each (slice_at readers j fs is)) (λ call by. readers_apart j k call (λ e. apart (ap suc e)) by)

  pub one_history : OneHistory first mover readers end
  one_history = record {
    log = run.log;
    runs = runs_of first run.log end run.runs;
    seats = seats_of first run.log end run.runs;
    once = run.once;
    ordered = run.in_order;
    movers = movers_part;
    each = readers_part;
  }
