-- Hands one after another: what each takes, and what they all hand over.
use Rattle.std.proofs.Common.{◌≡◌, ◌≢◌, ℕ, ◌-◌, ◌<◌, ◌≤◌, min, Bool, true, false, nat_lt, List, [], ◌∷◌, length, take, drop, map, Option, Some, None, refl, sym, ap, subst, ◌∙◌, arith}
use Rattle.std.proofs.lemmas.Bool.{ltb-true, ltb-false}
use Rattle.tod_stamp.specs.declared.stamp.Stamp.{Stamp}
use Rattle.ckd_track.specs.declared.write.Write.{Write}
use Rattle.ckd_track.specs.declared.write.Cause.{Cause}
use Rattle.write_trace.specs.declared.entry.Entry.{Entry}
use Rattle.write_trace.specs.Writes.{writes_of}
use Rattle.sidefile.specs.declared.hand.Hand.{Hand}
use Rattle.sidefile.specs.declared.hand.Hand.TheVariants as hands
use Rattle.sidefile.specs.Runs.{run_stamp, runs, is_crowded}
use Rattle.sidefile.specs.Breaks.{Break, stamp, crowd, break_in}
use Rattle.sidefile.specs.Hands.{batch_of, broken, hand, left_after}
use Rattle.sidefile.specs.Laws.{hands_at, left_after_all, batches_in, BreaksAreTheBreak, HandedAreTheFirst}

-- ---- what one hand does

-- the stamp of the first run that is left, or 0
abbrev pub first_stamp : List (List Entry) → ℕ
first_stamp [] = 0
first_stamp (run ∷ more) = run_stamp run

-- a batch goes up to just before the next run, or to the limit
abbrev pub GoesTo : (limit upto : ℕ) → List (List Entry) → Type 0
GoesTo limit upto [] = upto ≡ limit
GoesTo limit upto (next ∷ more) = upto ≡ min limit (run_stamp next - 1)

-- nothing up to the limit is left
abbrev pub IsAbove : (limit : ℕ) → List (List Entry) → Type 0
IsAbove limit [] = Unit {0}
IsAbove limit (run ∷ more) = limit < run_stamp run

pub data Step (control : ℕ) (cause : Option Cause) (limit : ℕ) (all : List (List Entry)) : Type 0 where
  Takes : (run : List Entry) (more : List (List Entry)) (upto : ℕ) → all ≡ run ∷ more → hand control cause limit all ≡ hands.Batch (batch_of control run upto)
      → run_stamp run ≤ limit → GoesTo limit upto more → is_crowded run ≡ false → (more ≡ [] → cause ≡ None) → Step control cause limit all
  Waits : hand control cause limit all ≡ hands.AtLimit → IsAbove limit all → (all ≡ [] → cause ≡ None) → Step control cause limit all
  Breaks : (b : Break) → hand control cause limit all ≡ broken b → b.upto ≡ first_stamp all - 1 → first_stamp all ≤ limit → (cause ≡ None → all ≢ []) → break_in cause all ≡ Some b → Step control cause limit all

pub step : (control : ℕ) (cause : Option Cause) (limit : ℕ) (all : List (List Entry)) → Step control cause limit all
step control None limit [] = Waits refl tt (λ e. refl)
step control (Some c) limit [] = Breaks (record { cause = c; upto = 0 }) refl refl (omega arith) (λ e. absurd cc) refl
step control cause limit (run ∷ []) = by_limit (nat_lt limit (run_stamp run)) (is_crowded run) cause refl refl
  where
    by_limit : (above crowded : Bool) (cause : Option Cause) → nat_lt limit (run_stamp run) ≡ above → is_crowded run ≡ crowded → Step control cause limit (run ∷ [])
    by_limit true crowded cause a k = Waits (rw a refl) (ltb-true limit (run_stamp run) a) (λ e. absurd cc)
    by_limit false true cause a k = Breaks (crowd run) (rw (a, k) refl) refl (ltb-false limit (run_stamp run) a) (λ e f. absurd cc) (rw k refl)
    by_limit false false None a k = Takes run [] limit refl (rw (a, k) refl) (ltb-false limit (run_stamp run) a) refl k (λ e. refl)
    by_limit false false (Some c) a k = Breaks (record { cause = c; upto = run_stamp run - 1 }) (rw (a, k) refl) refl (ltb-false limit (run_stamp run) a) (λ e. absurd cc) (rw k refl)
step control cause limit (run ∷ next ∷ more) = by_limit (nat_lt limit (run_stamp run)) (is_crowded run) refl refl
  where
    by_limit : (above crowded : Bool) → nat_lt limit (run_stamp run) ≡ above → is_crowded run ≡ crowded → Step control cause limit (run ∷ next ∷ more)
    by_limit true crowded a k = Waits (rw a refl) (ltb-true limit (run_stamp run) a) (λ e. absurd cc)
    by_limit false true a k = Breaks (crowd run) (rw (a, k) refl) refl (ltb-false limit (run_stamp run) a) (λ e f. absurd cc) (rw k refl)
    by_limit false false a k = Takes run (next ∷ more) (min limit (run_stamp next - 1)) refl (rw (a, k) refl) (ltb-false limit (run_stamp run) a) refl k (λ e. absurd cc)

-- ---- breaks

same_stamp : (a b : Stamp) → a ≡ b → a.0 ≡ b.0
same_stamp a b e = ap (λ (x : Stamp). x.0) e

one_break : (a b : Break) → broken a ≡ broken b → a ≡ b
one_break a b e =
    let causes : a.cause ≡ b.cause = cc in
    let stamps : stamp a.upto ≡ stamp b.upto = cc in
    ap (λ (c : Cause). record { cause = c; upto = a.upto }) causes ∙ ap (λ n. record { cause = b.cause; upto = n }) (same_stamp (stamp a.upto) (stamp b.upto) stamps)

-- a break of the runs that a hand leaves is a break of them all
break_after : (cause : Option Cause) (run : List Entry) (more : List (List Entry)) (b : Break) → is_crowded run ≡ false → (more ≡ [] → cause ≡ None) → break_in cause more ≡ Some b → break_in cause (run ∷ more) ≡ Some b
break_after cause run [] b k clean e = let none : break_in cause [] ≡ None = ap (λ (c : Option Cause). break_in c []) (clean refl) in absurd cc
break_after cause run (next ∷ more) b k clean e = rw k e

pub break_before : (control limit : ℕ) (cause : Option Cause) (all : List (List Entry)) (b : Break) → Step control cause limit all → break_in cause (left_after (hand control cause limit all) all) ≡ Some b → break_in cause all ≡ Some b
break_before control limit cause all b (Takes run more upto is h there goes k clean) e =
    let left : left_after (hand control cause limit all) all ≡ more = ap (λ (x : Hand). left_after x all) h ∙ ap (left_after (hands.Batch (batch_of control run upto))) is in
    ap (break_in cause) is ∙ break_after cause run more b k clean (ap (break_in cause) (sym left) ∙ e)
break_before control limit cause all b (Waits h above clean) e = ap (λ (x : Hand). break_in cause (left_after x all)) (sym h) ∙ e
break_before control limit cause all b (Breaks c h upto there some br) e = ap (λ (x : Hand). break_in cause (left_after x all)) (sym h) ∙ e

pub break_here : (control limit : ℕ) (cause : Option Cause) (all : List (List Entry)) (b : Break) → Step control cause limit all → hand control cause limit all ≡ broken b → break_in cause all ≡ Some b
break_here control limit cause all b (Takes run more upto is h there goes k clean) e = absurd cc
break_here control limit cause all b (Waits h above clean) e = absurd cc
break_here control limit cause all b (Breaks c h upto there some br) e = br ∙ ap (λ (x : Break). Some x) (one_break c b (sym h ∙ e))

breaks_of : (control limit : ℕ) (cause : Option Cause) (limits : List ℕ) (all : List (List Entry)) (b : Break) → hand control cause limit (left_after_all control cause limits all) ≡ broken b → break_in cause all ≡ Some b
breaks_of control limit cause [] all b e = break_here control limit cause all b (step control cause limit all) e
breaks_of control limit cause (l ∷ limits) all b e = break_before control l cause all b (step control cause l all) (breaks_of control limit cause limits (left_after (hand control cause l all) all) b e)

pub breaks_are : BreaksAreTheBreak
breaks_are control limit cause limits entries b e = breaks_of control limit cause limits (runs entries) b e

-- ---- the first runs

-- what is handed over of these runs, and what is left, where this is the first hand
abbrev FirstsFrom : (control : ℕ) → Option Cause → (limits : List ℕ) → (all : List (List Entry)) → Hand → Type 0
FirstsFrom control cause limits all h =
    (batches_in (h ∷ hands_at control cause limits (left_after h all)) ≡ map writes_of (take (length (batches_in (h ∷ hands_at control cause limits (left_after h all)))) all))
    × (left_after_all control cause limits (left_after h all) ≡ drop (length (batches_in (h ∷ hands_at control cause limits (left_after h all)))) all)

abbrev Firsts : (control : ℕ) → Option Cause → (limits : List ℕ) → (all : List (List Entry)) → Type 0
Firsts control cause limits all =
    (batches_in (hands_at control cause limits all) ≡ map writes_of (take (length (batches_in (hands_at control cause limits all))) all))
    × (left_after_all control cause limits all ≡ drop (length (batches_in (hands_at control cause limits all))) all)

firsts_by : (control l : ℕ) (cause : Option Cause) (limits : List ℕ) (all : List (List Entry)) → Step control cause l all
    → ((left : List (List Entry)) → Firsts control cause limits left) → FirstsFrom control cause limits all (hand control cause l all)
firsts_by control l cause limits all (Takes run more upto is h there goes k clean) others =
    let batch = hands.Batch (batch_of control run upto) in
    let taken : FirstsFrom control cause limits (run ∷ more) batch = (ap (λ (t : List (List Write)). writes_of run ∷ t) (others more).0, (others more).1) in
    subst (λ (x : Hand). FirstsFrom control cause limits all x) (sym h) (subst (λ (a : List (List Entry)). FirstsFrom control cause limits a batch) (sym is) taken)
firsts_by control l cause limits all (Waits h above clean) others = subst (λ (x : Hand). FirstsFrom control cause limits all x) (sym h) (others all)
firsts_by control l cause limits all (Breaks c h upto there some br) others = subst (λ (x : Hand). FirstsFrom control cause limits all x) (sym h) (others all)

pub handed_first : HandedAreTheFirst
handed_first control cause [] all = (refl, refl)
handed_first control cause (l ∷ limits) all = firsts_by control l cause limits all (step control cause l all) (λ left. handed_first control cause limits left)
