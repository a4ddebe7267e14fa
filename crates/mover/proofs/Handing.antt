-- Seats handed to lanes one after another, and handed back.
use Rattle.std.proofs.Common.{◌≡◌, ◌<◌, ◌≤◌, ℕ, List, length, replicate, Option, None, sym, ◌∙◌, arith}
use Rattle.std.specs.Prelude.{slice_index_or}
use Rattle.std.proofs.lemmas.List.{get_or-replicate, ext_get_or, length-replicate}
use Rattle.turn_group.specs.Seats.{ReaderSeatState, seat_at}
use Rattle.mover.specs.declared.lane.Lane.{Lane}
use Rattle.mover.specs.Lanes.{LaneTakesSeat, LaneGivesSeat}

-- The first lanes took their seats. The others, and their seats, are as before.
pub record HandsOut {S : Type 0} (first now : List (Lane S)) (seats then : List (Option ReaderSeatState)) (place : ℕ) : Type 0 where
  pub same : length now ≡ length first
  pub takes : (k : ℕ) (d : Lane S) → k < place → LaneTakesSeat seats k (slice_index_or first k d) (slice_index_or now k d)
  pub rest : (k : ℕ) (d : Lane S) → place ≤ k → slice_index_or now k d ≡ slice_index_or first k d
  pub many : length then ≡ length seats
  pub gone : (k : ℕ) → k < place → seat_at then k ≡ None
  pub there : (k : ℕ) → place ≤ k → seat_at then k ≡ seat_at seats k

-- After all, no seat is left.
pub hands_all : {S : Type 0} (first now : List (Lane S)) (seats then : List (Option ReaderSeatState)) (place : ℕ) → HandsOut first now seats then place → length first ≤ place → length seats ≡ length first → then ≡ replicate (length first) None
hands_all first now seats then place h over all = ext_get_or None then (replicate (length first) None) (h.many ∙ all ∙ sym (length-replicate (length first) None)) (λ k below.
    let low : k < length first = omega (arith, below, h.many, all) in
    h.gone k (omega (arith, low, over)) ∙ sym (get_or-replicate (length first) k None None low))

-- The first lanes gave their seats back. The others still have theirs, and their places are empty.
pub record HandsBack {S : Type 0} (first now : List (Lane S)) (then : List (Option ReaderSeatState)) (place : ℕ) : Type 0 where
  pub same : length now ≡ length first
  pub gives : (k : ℕ) (d : Lane S) → k < place → LaneGivesSeat then k (slice_index_or first k d) (slice_index_or now k d)
  pub rest : (k : ℕ) (d : Lane S) → place ≤ k → slice_index_or now k d ≡ slice_index_or first k d
  pub many : length then ≡ length first
  pub free : (k : ℕ) → place ≤ k → seat_at then k ≡ None
