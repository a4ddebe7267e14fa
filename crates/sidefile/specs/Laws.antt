-- The laws of hands one after another.
use Rattle.std.specs.Prelude.{◌≡◌, ℕ, List, [], ◌∷◌, length, take, drop, map, Option, Some}
use Rattle.ckd_track.specs.declared.write.Write.{Write}
use Rattle.ckd_track.specs.declared.write.Cause.{Cause}
use Rattle.write_trace.specs.declared.entry.Entry.{Entry}
use Rattle.write_trace.specs.Writes.{writes_of}
use Rattle.sidefile.specs.declared.hand.Hand.{Hand}
use Rattle.sidefile.specs.declared.hand.Hand.TheVariants as hands
use Rattle.sidefile.specs.Runs.{runs}
use Rattle.sidefile.specs.Breaks.{Break, break_in}
use Rattle.sidefile.specs.Hands.{hand, left_after, broken}

-- the hands at these limits, one after another
abbrev pub hands_at : (control : ℕ) → Option Cause → (limits : List ℕ) → List (List Entry) → List Hand
hands_at control cause [] left = []
hands_at control cause (limit ∷ limits) left = hand control cause limit left ∷ hands_at control cause limits (left_after (hand control cause limit left) left)

-- and the runs that are left after them
abbrev pub left_after_all : (control : ℕ) → Option Cause → (limits : List ℕ) → List (List Entry) → List (List Entry)
left_after_all control cause [] left = left
left_after_all control cause (limit ∷ limits) left = left_after_all control cause limits (left_after (hand control cause limit left) left)

-- the writes of each batch among hands
abbrev pub batches_in : List Hand → List (List Write)
batches_in [] = []
batches_in (hands.Batch batch ∷ given) = batch.writes ∷ batches_in given
batches_in (hands.AtLimit ∷ given) = batches_in given
batches_in (hands.Broken cause upto ∷ given) = batches_in given
batches_in (hands.NoMemory ∷ given) = batches_in given

-- ---- the laws

-- Where an answer is a break it is the break of the whole trace, whatever was handed over before.
abbrev pub BreaksAreTheBreak : Type 0
BreaksAreTheBreak = (control limit : ℕ) (cause : Option Cause) (limits : List ℕ) (entries : List Entry) (b : Break) →
    hand control cause limit (left_after_all control cause limits (runs entries)) ≡ broken b → break_in cause (runs entries) ≡ Some b

-- The batches are the first runs' writes, in order, each run once, and the others are left.
abbrev pub HandedAreTheFirst : Type 0
HandedAreTheFirst = (control : ℕ) (cause : Option Cause) (limits : List ℕ) (all : List (List Entry)) →
    let given = batches_in (hands_at control cause limits all) in
    (given ≡ map writes_of (take (length given) all)) × (left_after_all control cause limits all ≡ drop (length given) all)
