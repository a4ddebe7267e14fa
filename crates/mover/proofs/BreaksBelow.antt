-- The breaks that a log's readers report are below a limit, if those of each reader are.
use Rattle.std.proofs.Common.{◌≡◌, ◌<◌, ℕ, nat_lt, Bool, true, false, cond, ◌||◌, List, [], ◌∷◌, length, refl, subst, arith}
use Rattle.std.specs.List.{list_all}
use Rattle.std.proofs.lemmas.Bool.{and_from, and_parts, eq-eqb}
use Rattle.group_state.specs.Calls.{is_by_mover}
use Rattle.group_state.specs.Groups.{Group}
use Rattle.group_state.specs.Machine.{Call}
use Rattle.group_state.specs.Machine.Call.{Join, NextWanted, Copied, Raise, Break, Form, Carry, Drop, Resume, Forget}
use Rattle.group_state.specs.Runs.{Answer, May, Runs}
use Rattle.fed_logs.specs.Feeds.{is_answer_of, is_call_of_reader, part_of_reader}
use Rattle.fed_logs.specs.Logs.{is_call_of_seat}
use Rattle.fed_logs.specs.ShownBreaks.{is_break_below}
use Rattle.turn_group.proofs.Known.{sizes_last}
use Rattle.mover.proofs.LanesAgain.{count_stays}
use Rattle.mover.proofs.LogParts.{by_seat}

abbrev AreBelow : (limit : ℕ) → List Answer → Type 0
AreBelow limit run = list_all (is_break_below limit) run ≡ true

-- A break is its reader's.
below_here : (limit : ℕ) (s : Group) (a : Answer) (run : List Answer) → May s a.call → ((k : ℕ) → k < length s.controls → AreBelow limit (part_of_reader k (a ∷ run))) → is_break_below limit a ≡ true
below_here limit s a run may each = of a.call may each
  where
    of : (call : Call) → May s call → ((k : ℕ) → k < length s.controls → AreBelow limit (part_of_reader k (record { call = call; reply = a.reply } ∷ run))) → is_break_below limit (record { call = call; reply = a.reply }) ≡ true
    of (Join batch) may each = refl
    of (NextWanted k) may each = refl
    of (Copied k v x at slot) may each = refl
    of (Raise k upto) may each = refl
    of (Break k upto cause) may each =
        let here : Answer = record { call = Break k upto cause; reply = a.reply } in
        let own : AreBelow limit (here ∷ part_of_reader k run) = subst (λ (t : Bool). AreBelow limit (cond t (here ∷ part_of_reader k run) (part_of_reader k run))) (eq-eqb k k refl) (each k may.0) in
        (and_parts (nat_lt upto.0 limit) (list_all (is_break_below limit) (part_of_reader k run)) own).0
    of (Form given) may each = refl
    of (Carry k v plan) may each = refl
    of (Drop k v all) may each = refl
    of (Resume k v) may each = refl
    of (Forget k v) may each = refl

below_after : (limit : ℕ) (a : Answer) (run : List Answer) (k : ℕ) → AreBelow limit (part_of_reader k (a ∷ run)) → AreBelow limit (part_of_reader k run)
below_after limit a run k below = of (is_answer_of k a) below
  where
    of : (t : Bool) → AreBelow limit (cond t (a ∷ part_of_reader k run) (part_of_reader k run)) → AreBelow limit (part_of_reader k run)
    of true below = (and_parts (is_break_below limit a) (list_all (is_break_below limit) (part_of_reader k run)) below).1
    of false below = below

pub all_below : (limit : ℕ) (s : Group) (run : List Answer) (end : Group) → Runs s run end → list_all is_call_of_seat run ≡ true → ((k : ℕ) → k < length s.controls → list_all (is_break_below limit) (part_of_reader k run) ≡ true)
    → list_all (is_break_below limit) run ≡ true
all_below limit s [] end runs seats each = refl
all_below limit s (a ∷ run) end (next, may, is, rest) seats each =
    let parts = and_parts (is_call_of_reader a.call || is_by_mover a.call) (list_all is_call_of_seat run) seats in
    let count = count_stays s next (sizes_last s s a.call a.reply next refl (by_seat a.call parts.0, may, is)) in
    and_from (is_break_below limit a) (list_all (is_break_below limit) run) (below_here limit s a run may each)
    (all_below limit next run end rest parts.1 (λ k low. below_after limit a run k (each k (omega (arith, low, count)))))
