-- The calls of all seats of a table are one log, of which each seat's calls are its part.
use Rattle.std.proofs.Common.{◌≡◌, ◌⊎◌, inl, inr, ◌<◌, ℕ, zero, suc, Bool, true, false, cond, ◌||◌, List, [], ◌∷◌, length, map, Option, Some, None, refl, ap, ◌∙◌, arith}
use Rattle.std.specs.Prelude.{filter, slice_get, slice_index_or}
use Rattle.std.specs.List.{Contains, list_all}
use Rattle.std.proofs.lemmas.Bool.{and_from, and_parts, eqb-true, le-leb}
use Rattle.group_state.specs.Calls.{is_by_mover, is_by_reader, is_by_seat}
use Rattle.group_state.specs.Groups.{Group}
use Rattle.group_state.specs.Machine.{Call}
use Rattle.group_state.specs.Machine.Call.{Join, NextWanted, Copied, Raise, Break, Form, Carry, Drop, Resume, Forget}
use Rattle.group_state.specs.Runs.{Answer}
use Rattle.fed_logs.specs.Feeds.{is_call_of_reader, part_of_mover, part_of_reader}
use Rattle.fed_logs.specs.LogLaws.{is_limit_up_to, is_limited}
use Rattle.mover.specs.Groups.{is_at_limit, takes_limit}
use Rattle.fed_logs.specs.Logs.{is_call_of_seat}
use Rattle.turn_group.specs.Calls.{MadeCall, as_answer}
use Rattle.turn_group.specs.Histories.{OneHistory}
use Rattle.turn_group.specs.Seats.{ReaderSeatState, calls_at, seat_at}

-- ---- tests of calls

-- the answers whose calls pass a test
filter_answers : (who : Call → Bool) (log : List MadeCall) → filter (λ (a : Answer). who a.call) (map as_answer log) ≡ map as_answer (filter (λ (made : MadeCall). who made.event) log)
filter_answers who [] = refl
filter_answers who (m ∷ log) = choose (who m.event) (filter_answers who log)
  where
    choose : (t : Bool) → filter (λ (a : Answer). who a.call) (map as_answer log) ≡ map as_answer (filter (λ (made : MadeCall). who made.event) log)
        → cond t (as_answer m ∷ filter (λ (a : Answer). who a.call) (map as_answer log)) (filter (λ (a : Answer). who a.call) (map as_answer log))
        ≡ map as_answer (cond t (m ∷ filter (λ (made : MadeCall). who made.event) log) (filter (λ (made : MadeCall). who made.event) log))
    choose true rest = ap (λ (l : List Answer). as_answer m ∷ l) rest
    choose false rest = rest

-- What all items pass, those that pass another test do.
pub all_filtered : {A : Type 0} (test keep : A → Bool) (items : List A) → list_all test items ≡ true → list_all test (filter keep items) ≡ true
all_filtered test keep [] all = refl
all_filtered test keep (a ∷ items) all =
    let parts = and_parts (test a) (list_all test items) all in
    choose (keep a) (and_from (test a) (list_all test (filter keep items)) parts.0 (all_filtered test keep items parts.1)) (all_filtered test keep items parts.1)
  where
    choose : (t : Bool) → list_all test (a ∷ filter keep items) ≡ true → list_all test (filter keep items) ≡ true → list_all test (cond t (a ∷ filter keep items) (filter keep items)) ≡ true
    choose true here rest = here
    choose false here rest = rest

contains_either : {A : Type 0} (y x : A) (items : List A) → Contains (y ∷ items) x → (y ≡ x) ⊎ Contains items x
contains_either y x items (zero, low, is) = inl is
contains_either y x items (suc k, low, is) = inr (k, omega (arith, low), is)

contains_later : {A : Type 0} (y x : A) (items : List A) → Contains items x → Contains (y ∷ items) x
contains_later y x items (k, low, is) = (suc k, omega (arith, low), is)

-- What is among those that pass is among all.
pub contains_filtered : {A : Type 0} (keep : A → Bool) (items : List A) (x : A) → Contains (filter keep items) x → Contains items x
contains_filtered keep [] x has = has
contains_filtered {A} keep (y ∷ items) x has = choose (contains_filtered keep items x) (keep y) has
  where
    choose : (Contains (filter keep items) x → Contains items x) → (t : Bool) → Contains (cond t (y ∷ filter keep items) (filter keep items)) x → Contains (y ∷ items) x
    choose others true has = elim (contains_either y x (filter keep items) has) [
      | inl here ↦ (0, omega arith, here)
      | inr later ↦ contains_later y x items (others later)
    ]
    choose others false has = contains_later y x items (others has)

-- ---- whose a call is

seat_call : (call : Call) → is_by_seat call ≡ true → (is_call_of_reader call || is_by_mover call) ≡ true
seat_call (Join b) by = refl
seat_call (NextWanted k) by = refl
seat_call (Copied k v x at slot) by = refl
seat_call (Raise k upto) by = refl
seat_call (Break k upto cause) by = refl
seat_call (Form limit) by = refl
seat_call (Carry k v plan) by = absurd cc
seat_call (Drop k v all) by = refl
seat_call (Resume k v) by = absurd cc
seat_call (Forget k v) by = absurd cc

pub by_seat : (call : Call) → (is_call_of_reader call || is_by_mover call) ≡ true → is_by_seat call ≡ true
by_seat (Join b) by = refl
by_seat (NextWanted k) by = refl
by_seat (Copied k v x at slot) by = refl
by_seat (Raise k upto) by = refl
by_seat (Break k upto cause) by = refl
by_seat (Form limit) by = refl
by_seat (Carry k v plan) by = absurd cc
by_seat (Drop k v all) by = refl
by_seat (Resume k v) by = absurd cc
by_seat (Forget k v) by = absurd cc

pub seats_alone : (log : List MadeCall) → list_all (λ (made : MadeCall). is_by_seat made.event) log ≡ true → list_all is_call_of_seat (map as_answer log) ≡ true
seats_alone [] all = refl
seats_alone (m ∷ log) all =
    let parts = and_parts (is_by_seat m.event) (list_all (λ (made : MadeCall). is_by_seat made.event) log) all in
    and_from (is_call_of_reader m.event || is_by_mover m.event) (list_all is_call_of_seat (map as_answer log)) (seat_call m.event parts.0) (seats_alone log parts.1)

-- ---- limits

-- Only the mover forms. So each form of the log takes a limit if each of the mover's part does.
limited_reader : (limit : ℕ) (a : Answer) → is_by_mover a.call ≡ false → is_at_limit limit a ≡ true
limited_reader limit a none = of a.call none
  where
    of : (call : Call) → is_by_mover call ≡ false → is_at_limit limit (record { call = call; reply = a.reply }) ≡ true
    of (Join b) none = refl
    of (NextWanted k) none = refl
    of (Copied k v x at slot) none = refl
    of (Raise k upto) none = refl
    of (Break k upto cause) none = refl
    of (Form given) none = absurd cc
    of (Carry k v plan) none = refl
    of (Drop k v all) none = refl
    of (Resume k v) none = refl
    of (Forget k v) none = refl

pub limited_all : (limit : ℕ) (log : List Answer) → list_all (is_at_limit limit) (part_of_mover log) ≡ true → list_all (is_at_limit limit) log ≡ true
limited_all limit [] all = refl
limited_all limit (a ∷ log) all = choose (limited_all limit log) (is_by_mover a.call) refl all
  where
    choose : (list_all (is_at_limit limit) (part_of_mover log) ≡ true → list_all (is_at_limit limit) log ≡ true) → (t : Bool) → is_by_mover a.call ≡ t → list_all (is_at_limit limit) (cond t (a ∷ part_of_mover log) (part_of_mover log)) ≡ true
        → list_all (is_at_limit limit) (a ∷ log) ≡ true
    choose others true is all =
        let parts = and_parts (is_at_limit limit a) (list_all (is_at_limit limit) (part_of_mover log)) all in
        and_from (is_at_limit limit a) (list_all (is_at_limit limit) log) parts.0 (others parts.1)
    choose others false is all = and_from (is_at_limit limit a) (list_all (is_at_limit limit) log) (limited_reader limit a is) (others all)

-- ---- the parts

slice_mapped : {A B : Type 0} (f : A → B) (items : List A) (k : ℕ) (d : A) → k < length items → slice_get (map f items) k ≡ Some (f (slice_index_or items k d))
slice_mapped f [] k d low = absurd (omega (arith, low))
slice_mapped f (x ∷ items) zero d low = refl
slice_mapped f (x ∷ items) (suc k) d low = slice_mapped f items k d (omega (arith, low))

module _ (first end : Group) (mover : List MadeCall) (seats : List (Option ReaderSeatState)) (h : OneHistory first mover (map calls_at seats) end) where
  -- the calls in order of their turns
  abbrev pub log_of : List Answer
  log_of = map as_answer h.log

  pub mover_part : part_of_mover log_of ≡ map as_answer mover
  mover_part = filter_answers is_by_mover h.log ∙ ap (map as_answer) h.movers

  pub reader_part : (k : ℕ) → k < length seats → part_of_reader k log_of ≡ map as_answer (calls_at (seat_at seats k))
  reader_part k low = filter_answers (is_by_reader k) h.log ∙ ap (map as_answer) (h.each k (calls_at (seat_at seats k)) (slice_mapped calls_at seats k None low))

-- A form that takes a limit is up to it.
pub up_to_limit : (limit : ℕ) (log : List Answer) → list_all (is_at_limit limit) log ≡ true → list_all (is_limited limit) log ≡ true
up_to_limit limit [] all = refl
up_to_limit limit (a ∷ log) all =
    let parts = and_parts (is_at_limit limit a) (list_all (is_at_limit limit) log) all in
    and_from (is_limited limit a) (list_all (is_limited limit) log) (of a.call parts.0) (up_to_limit limit log parts.1)
  where
    of : (call : Call) → takes_limit limit call ≡ true → is_limit_up_to limit call ≡ true
    of (Join b) is = refl
    of (NextWanted k) is = refl
    of (Copied k v x at slot) is = refl
    of (Raise k upto) is = refl
    of (Break k upto cause) is = refl
    of (Form given) is = let e = eqb-true given.0 limit is in le-leb given.0 limit (omega (arith, e))
    of (Carry k v plan) is = refl
    of (Drop k v all) is = refl
    of (Resume k v) is = refl
    of (Forget k v) is = refl
