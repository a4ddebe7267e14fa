-- What a seat's calls tell for a feed.
use Rattle.std.proofs.Common.{arith, ◌≡◌, ◌≤◌, ◌<◌, ◌*◌, ◌==◌, ◌&&◌, not, ℕ, suc, nat_eq, nat_lt, nat_le, true, false, Bool, cond, List, [], ◌∷◌, ◌++◌, length, map, Option, Some, None, refl, sym, ap, ◌∙◌, subst}
use Rattle.std.specs.Prelude.{IsTrue, IfSome}
use Rattle.std.specs.List.{All, list_all}
use Rattle.std.proofs.lemmas.Bool.{and_parts, and_from, not_from_false, eqb-true, lt-ltb, le-leb, le-ltb}
use Rattle.xrc_edge.specs.Order.{is_in_order}
use Rattle.cut_core.specs.LegalHistories.{are_in}
use Rattle.ckd_track.specs.declared.write.Write.{Write}
use Rattle.ckd_track.specs.Effects.{keeps_rules}
use Rattle.ckd_track.specs.Writes.{is_earlier}
use Rattle.pending_queue.specs.Entries.{all_keep_rules}
use Rattle.write_trace.specs.Headers.{cylinders_of, is_track_of}
use Rattle.write_trace.specs.Writes.{IsWriteTo}
use Rattle.sidefile.specs.States.{IsRunOf}
use Rattle.group_state.specs.declared.volume.Volume.{Volume}
use Rattle.group_state.specs.Volumes.{volume_of, passes}
use Rattle.group_state.specs.Groups.{Group, control_at}
use Rattle.group_state.specs.SoundStates.{passes_or_none, is_track_within, are_within}
use Rattle.tod_stamp.specs.declared.stamp.Stamp.{Stamp}
use Rattle.ckd_track.specs.declared.write.Batch.{Batch}
use Rattle.write_trace.specs.declared.header.VolumeHead.{VolumeHead}
use Rattle.group_state.specs.declared.joining.RunJoin as running
use Rattle.group_state.specs.declared.joining.RunJoin.TheVariants as runnings
use Rattle.group_state.specs.Answers.{run_reply}
use Rattle.group_state.specs.Machine.{Call, Reply}
use Rattle.group_state.specs.Machine.Call.{Join, NextWanted}
use Rattle.group_state.specs.Machine.Reply.{Wanted}
use Rattle.group_state.specs.Runs.{Answer}
use Rattle.fed_logs.specs.Reporters.{ReporterState, reporter_after}
use Rattle.turn.specs.Turn.{ticketed}
use Rattle.turn_group.specs.Calls.{MadeCall, as_answer}
use Rattle.turn_group.specs.Seats.{ReaderSeatState, ReaderCalled, reader_after, TurnState, SeatMayJoin, SeatMayCopy, is_track_of_control}
use Rattle.mover.specs.Readers.{SitsAt, reporter_of, is_of_header}

pub answers_after : (t : ℕ) (call : Call) (reply : Reply) (calls : List MadeCall) → map as_answer (calls ++ ticketed t call reply ∷ []) ≡ map as_answer calls ++ record { call = call; reply = reply } ∷ []
answers_after t call reply [] = refl
answers_after t call reply (c ∷ calls) = ap (λ (more : List Answer). as_answer c ∷ more) (answers_after t call reply calls)

module _ (heads : List VolumeHead) (old : ReaderSeatState) where
  -- a reporter after a call, with these answers
  abbrev with_answers : ReporterState → List Answer → ReporterState
  with_answers s answers = record s { answers = answers }

  run_is : (t : ℕ) (batch : Batch) (joined : running.RunJoin) → reporter_of heads (reader_after t (Join batch) (run_reply joined) old) ≡ reporter_after (Join batch) (run_reply joined) (reporter_of heads old)
  run_is t batch runnings.Joined = ap (with_answers (reporter_of heads (record old { floor = batch.upto }))) (answers_after t (Join batch) (run_reply runnings.Joined) old.calls)
  run_is t batch (runnings.Held room) = ap (with_answers (reporter_of heads old)) (answers_after t (Join batch) (run_reply (runnings.Held room)) old.calls)

  wanted_is : (t : ℕ) (found : Option (ℕ × ℕ)) → reporter_of heads (reader_after t (NextWanted old.control) (Wanted found) old) ≡ reporter_after (NextWanted old.control) (Wanted found) (reporter_of heads old)
  wanted_is t found = ap (with_answers (reporter_of heads old)) (answers_after t (NextWanted old.control) (Wanted found) old.calls)

  module _ (new : ReaderSeatState) where
    pub wanted : (found : Option (ℕ × ℕ)) → ReaderCalled old (NextWanted old.control) (Wanted found) new → reporter_of heads new ≡ reporter_after (NextWanted old.control) (Wanted found) (reporter_of heads old)
    wanted found called = ap (reporter_of heads) called.after ∙ wanted_is called.ticket found

    pub ran : (batch : Batch) (joined : running.RunJoin) → ReaderCalled old (Join batch) (run_reply joined) new → reporter_of heads new ≡ reporter_after (Join batch) (run_reply joined) (reporter_of heads old)
    ran batch joined called = ap (reporter_of heads) called.after ∙ run_is called.ticket batch joined

-- ---- a run may be joined

all_head : {A : Type 0} (P : A → Type 0) (x : A) (xs : List A) → All P (x ∷ xs) → P x
all_head P x xs are = are 0 x (omega arith)

all_tail : {A : Type 0} (P : A → Type 0) (x : A) (xs : List A) → All P (x ∷ xs) → All P xs
all_tail P x xs are = λ k d lt. are (suc k) d (omega (arith, lt))

all_keep : (heads : List VolumeHead) (writes : List Write) → All (IsWriteTo heads) writes → all_keep_rules writes ≡ true
all_keep heads [] are = refl
all_keep heads (w ∷ writes) are = and_from (keeps_rules w.kind) (all_keep_rules writes) (and_parts (is_track_of heads w.volume w.track) (keeps_rules w.kind) (all_head (IsWriteTo heads) w writes are)).1 (all_keep heads writes (all_tail (IsWriteTo heads) w writes are))

-- a track of the header's volumes is below the tracks of its volume, where that is kept
track_in : (heads : List VolumeHead) (volumes : List Volume) (v x : ℕ) → list_all (is_of_header heads) volumes ≡ true → is_track_of heads v x ≡ true → is_track_within volumes v x ≡ true
track_in heads [] v x all is = refl
track_in heads (u ∷ volumes) v x all is =
    let parts = and_parts (is_of_header heads u) (list_all (is_of_header heads) volumes) all in choose (nat_eq u.number v) refl parts.0 (track_in heads volumes v x parts.1 is)
  where
    choose : (t : Bool) → nat_eq u.number v ≡ t → is_of_header heads u ≡ true → is_track_within volumes v x ≡ true
        → passes_or_none (λ (w : Volume). nat_lt x (length w.map)) (cond t (Some u) (volume_of v volumes)) ≡ true
    choose true e here rest =
        let size : length u.map ≡ 15 * cylinders_of heads u.number = eqb-true (length u.map) (15 * cylinders_of heads u.number) (and_parts (nat_lt u.number (length heads)) (length u.map == 15 * cylinders_of heads u.number) here).1 in
        let same : u.number ≡ v = eqb-true u.number v e in
        rw (size, same) (and_parts (nat_lt v (length heads)) (nat_lt x (15 * cylinders_of heads v)) is).1
    choose false e here rest = rest

-- a track of a volume that is kept is one of the header's volumes
wanted_in : (heads : List VolumeHead) (volumes : List Volume) (v x : ℕ) → list_all (is_of_header heads) volumes ≡ true → passes (λ (u : Volume). nat_lt x (length u.map)) (volume_of v volumes) ≡ true → is_track_of heads v x ≡ true
wanted_in heads [] v x all is = absurd cc
wanted_in heads (u ∷ volumes) v x all is =
    let parts = and_parts (is_of_header heads u) (list_all (is_of_header heads) volumes) all in choose (nat_eq u.number v) refl parts.0 (wanted_in heads volumes v x parts.1) is
  where
    choose : (t : Bool) → nat_eq u.number v ≡ t → is_of_header heads u ≡ true → (passes (λ (w : Volume). nat_lt x (length w.map)) (volume_of v volumes) ≡ true → is_track_of heads v x ≡ true)
        → passes (λ (w : Volume). nat_lt x (length w.map)) (cond t (Some u) (volume_of v volumes)) ≡ true → is_track_of heads v x ≡ true
    choose true e here rest is =
        let parts = and_parts (nat_lt u.number (length heads)) (length u.map == 15 * cylinders_of heads u.number) here in
        let size : length u.map ≡ 15 * cylinders_of heads u.number = eqb-true (length u.map) (15 * cylinders_of heads u.number) parts.1 in
        let same : u.number ≡ v = eqb-true u.number v e in
        and_from (nat_lt v (length heads)) (nat_lt x (15 * cylinders_of heads v)) (subst (λ n. nat_lt n (length heads) ≡ true) same parts.0)
        (subst (λ n. nat_lt x n ≡ true) (size ∙ ap (λ n. 15 * cylinders_of heads n) same) is)
    choose false e here rest is = rest is

all_within : (heads : List VolumeHead) (volumes : List Volume) (writes : List Write) → list_all (is_of_header heads) volumes ≡ true → All (IsWriteTo heads) writes → are_within volumes writes ≡ true
all_within heads volumes [] all are = refl
all_within heads volumes (w ∷ writes) all are =
    and_from (is_track_within volumes w.volume w.track) (are_within volumes writes) (track_in heads volumes w.volume w.track all (and_parts (is_track_of heads w.volume w.track) (keeps_rules w.kind) (all_head (IsWriteTo heads) w writes are)).0)
    (all_within heads volumes writes all (all_tail (IsWriteTo heads) w writes are))

abbrev IsStamped : (stamp : ℕ) → Write → Type 0
IsStamped stamp w = w.stamp.0 ≡ stamp

all_in : (above upto stamp : ℕ) (writes : List Write) → above < stamp → stamp ≤ upto → All (IsStamped stamp) writes → are_in above upto writes ≡ true
all_in above upto stamp [] low high are = refl
all_in above upto stamp (w ∷ writes) low high are =
    let here : w.stamp.0 ≡ stamp = all_head (IsStamped stamp) w writes are in
    and_from (nat_lt above w.stamp.0 && nat_le w.stamp.0 upto) (are_in above upto writes)
    (and_from (nat_lt above w.stamp.0) (nat_le w.stamp.0 upto) (lt-ltb above w.stamp.0 (omega (arith, low, here))) (le-leb w.stamp.0 upto (omega (arith, high, here))))
    (all_in above upto stamp writes low high (all_tail (IsStamped stamp) w writes are))

none_earlier : (stamp : ℕ) (a : Write) (writes : List Write) → a.stamp.0 ≡ stamp → All (IsStamped stamp) writes → list_all (λ (b : Write). not (is_earlier b a)) writes ≡ true
none_earlier stamp a [] is are = refl
none_earlier stamp a (w ∷ writes) is are =
    let here : w.stamp.0 ≡ stamp = all_head (IsStamped stamp) w writes are in
    and_from (not (is_earlier w a)) (list_all (λ (b : Write). not (is_earlier b a)) writes) (not_from_false (is_earlier w a) (le-ltb w.stamp.0 a.stamp.0 (omega (arith, is, here)))) (none_earlier stamp a writes is (all_tail (IsStamped stamp) w writes are))

in_order : (stamp : ℕ) (writes : List Write) → All (IsStamped stamp) writes → is_in_order is_earlier writes ≡ true
in_order stamp [] are = refl
in_order stamp (w ∷ writes) are = and_from (list_all (λ (b : Write). not (is_earlier b w)) writes) (is_in_order is_earlier writes) (none_earlier stamp w writes (all_head (IsStamped stamp) w writes are) (all_tail (IsStamped stamp) w writes are))
    (in_order stamp writes (all_tail (IsStamped stamp) w writes are))

pub may_join : (at : TurnState) (heads : List VolumeHead) (seat : ReaderSeatState) (batch : Batch) → SitsAt at heads seat → IsTrue seat.reporting → IsRunOf heads seat.control seat.floor.0 batch.upto.0 batch → SeatMayJoin seat batch
may_join at heads seat batch sits reporting run = record {
  control = run.from;
  rules = all_keep heads batch.writes run.kept;
  tells = record { reporting = reporting; up = omega (arith, run.above, run.there) };
  within = all_in seat.floor.0 batch.upto.0 run.stamp batch.writes run.above run.there run.stamps;
  order = in_order run.stamp batch.writes run.stamps;
  tracks = subst (λ (g : Group). are_within (control_at g seat.control).volumes batch.writes ≡ true) (sym sits.begun) (all_within heads (control_at at.first seat.control).volumes batch.writes sits.sized run.kept);
}

-- ---- a track may be copied

stamp_is : (a b : Stamp) → a.0 ≡ b.0 → a ≡ b
stamp_is a b same = ap (λ (n : ℕ). let s : Stamp = record { 0 = n } in s) same

pub may_copy : (at : TurnState) (heads : List VolumeHead) (seat : ReaderSeatState) (v x : ℕ) (when : Stamp) → SitsAt at heads seat → IsTrue seat.reporting → when.0 ≡ seat.floor.0 → is_track_of heads v x ≡ true → SeatMayCopy seat v x when
may_copy at heads seat v x when sits reporting floor is = record {
  reporting = reporting;
  floor = stamp_is when seat.floor floor;
  within = subst (λ (g : Group). is_track_within (control_at g seat.control).volumes v x ≡ true) (sym sits.begun) (track_in heads (control_at at.first seat.control).volumes v x sits.sized is);
}

-- The track that is wanted next is one of the trace's volumes.
pub wanted_within : (at : TurnState) (heads : List VolumeHead) (seat : ReaderSeatState) → SitsAt at heads seat → (found : Option (ℕ × ℕ)) → IfSome found (λ p. is_track_of_control seat.first seat.control p.0 p.1 ≡ true) → IfSome found (λ p. is_track_of heads p.0 p.1 ≡ true)
wanted_within at heads seat sits None is = tt
wanted_within at heads seat sits (Some (v, x)) is =
    wanted_in heads (control_at at.first seat.control).volumes v x sits.sized (subst (λ (g : Group). is_track_of_control g seat.control v x ≡ true) sits.begun is)
