-- Runs from the front, and what is handed over of them.
use Rattle.std.proofs.Common.{◌≡◌, ◌≢◌, ℕ, ◌-◌, ◌<◌, ◌≤◌, min, Bool, true, false, cond, nat_eq, eq-eqb, ◌&&◌, List, [], ◌∷◌, ◌++◌, length, Option, refl, sym, ap, subst, ◌∙◌, arith, length-append}
use Rattle.std.specs.List.{flat_map}
use Rattle.std.proofs.lemmas.Bool.{eqb-true, ne_eqb, le-ltb, lt-ltb}
use Rattle.ckd_track.specs.declared.layout.TheConstants.{WRITES_OF_RUN}
use Rattle.ckd_track.specs.declared.write.Batch.{Batch}
use Rattle.ckd_track.specs.declared.write.Write.{Write}
use Rattle.ckd_track.specs.declared.write.Cause.{Cause}
use Rattle.ckd_track.specs.declared.write.Cause.TheVariants.{Crowded}
use Rattle.write_trace.specs.declared.entry.Entry.{Entry}
use Rattle.write_trace.specs.declared.entry.Entry.TheVariants.{Written}
use Rattle.write_trace.specs.Entries.{stamp_of}
use Rattle.write_trace.specs.Writes.{writes_of}
use Rattle.sidefile.specs.declared.hand.Hand.TheVariants as hands
use Rattle.sidefile.specs.Runs.{run_stamp, with_first, runs, RunsAreAll}
use Rattle.sidefile.specs.Breaks.{stamp, break_after}
use Rattle.sidefile.specs.Hands.{batch_of, broken_or, hand, left_after}
use Rattle.sidefile.specs.Looks.{have_stamp}
use Rattle.sidefile.proofs.Collects.{writes_append}

both_true : (a b : Bool) → (a && b) ≡ true → (a ≡ true) × (b ≡ true)
both_true true b e = (refl, e)
both_true false b e = absurd cc

-- ---- all entries

first_of_all : (e : Entry) (more : List (List Entry)) → flat_map (λ run. run) (with_first e more) ≡ e ∷ flat_map (λ run. run) more
first_of_all e [] = refl
first_of_all e (run ∷ more) = choose (nat_eq (stamp_of e) (run_stamp run))
  where
    choose : (t : Bool) → flat_map (λ r. r) (cond t ((e ∷ run) ∷ more) ((e ∷ []) ∷ run ∷ more)) ≡ e ∷ flat_map (λ r. r) (run ∷ more)
    choose true = refl
    choose false = refl

pub runs_are_all : RunsAreAll
runs_are_all [] = refl
runs_are_all (e ∷ entries) = first_of_all e (runs entries) ∙ ap (λ (t : List Entry). e ∷ t) (runs_are_all entries)

-- ---- the first run

-- The first run begins with the first entry.
pub record Begins (e : Entry) (all : List (List Entry)) : Type 0 where
  pub run : List Entry
  pub more : List (List Entry)
  pub is : all ≡ (e ∷ run) ∷ more

begins_with : (e : Entry) (all : List (List Entry)) → Begins e (with_first e all)
begins_with e [] = record { run = []; more = []; is = refl }
begins_with e (run ∷ all) = choose (nat_eq (stamp_of e) (run_stamp run))
  where
    choose : (t : Bool) → Begins e (cond t ((e ∷ run) ∷ all) ((e ∷ []) ∷ run ∷ all))
    choose true = record { run = run; more = all; is = refl }
    choose false = record { run = []; more = run ∷ all; is = refl }

pub begins : (e : Entry) (entries : List Entry) → Begins e (runs (e ∷ entries))
begins e entries = begins_with e (runs entries)

-- an entry of the same stamp joins the first run
joins : (e first : Entry) (run : List Entry) (more all : List (List Entry)) → stamp_of e ≡ stamp_of first → all ≡ (first ∷ run) ∷ more → with_first e all ≡ (e ∷ first ∷ run) ∷ more
joins e first run more all same is =
    ap (with_first e) is ∙ ap (λ t. cond t ((e ∷ first ∷ run) ∷ more) ((e ∷ []) ∷ (first ∷ run) ∷ more)) (eq-eqb (stamp_of e) (stamp_of first) same)

begins_other : (e first : Entry) (all : List (List Entry)) → stamp_of e ≢ stamp_of first → Begins first all → with_first e all ≡ (e ∷ []) ∷ all
begins_other e first all other b =
    ap (with_first e) b.is
    ∙ ap (λ t. cond t ((e ∷ first ∷ b.run) ∷ b.more) ((e ∷ []) ∷ (first ∷ b.run) ∷ b.more)) (ne_eqb (stamp_of e) (stamp_of first) other)
    ∙ ap (λ (t : List (List Entry)). (e ∷ []) ∷ t) (sym b.is)

-- a run that the end ends
pub run_at_end : (first : Entry) (taken : List Entry) → have_stamp (stamp_of first) taken ≡ true → runs (first ∷ taken) ≡ (first ∷ taken) ∷ []
run_at_end first [] stamps = refl
run_at_end first (e ∷ taken) stamps =
    let parts = both_true (nat_eq (stamp_of e) (stamp_of first)) (have_stamp (stamp_of first) taken) stamps in
    let same : stamp_of first ≡ stamp_of e = sym (eqb-true (stamp_of e) (stamp_of first) parts.0) in
    joins first e taken [] (runs (e ∷ taken)) same (run_at_end e taken (subst (λ n. have_stamp n taken ≡ true) same parts.1))

-- a run that an entry of another stamp ends
pub run_before : (first : Entry) (taken : List Entry) (next : Entry) (more : List Entry) → have_stamp (stamp_of first) taken ≡ true → stamp_of first ≢ stamp_of next
    → runs (first ∷ taken ++ next ∷ more) ≡ (first ∷ taken) ∷ runs (next ∷ more)
run_before first [] next more stamps other = begins_other first next (runs (next ∷ more)) other (begins next more)
run_before first (e ∷ taken) next more stamps other =
    let parts = both_true (nat_eq (stamp_of e) (stamp_of first)) (have_stamp (stamp_of first) taken) stamps in
    let same : stamp_of first ≡ stamp_of e = sym (eqb-true (stamp_of e) (stamp_of first) parts.0) in
    joins first e taken (runs (next ∷ more)) (runs (e ∷ taken ++ next ∷ more)) same
    (run_before e taken next more (subst (λ n. have_stamp n taken ≡ true) same parts.1) (λ is. other (same ∙ is)))

-- a run that goes on after some of its entries
pub record GoesOn (run : List Entry) (all : List (List Entry)) : Type 0 where
  pub others : List Entry
  pub more : List (List Entry)
  pub is : all ≡ (run ++ others) ∷ more

pub run_with : (first : Entry) (taken : List Entry) (next : Entry) (more : List Entry) → have_stamp (stamp_of first) taken ≡ true → stamp_of next ≡ stamp_of first
    → GoesOn (first ∷ taken ++ next ∷ []) (runs (first ∷ taken ++ next ∷ more))
run_with first [] next more stamps same =
    let b = begins next more in
    record { others = b.run; more = b.more; is = joins first next b.run b.more (runs (next ∷ more)) (sym same) b.is }
run_with first (e ∷ taken) next more stamps same =
    let parts = both_true (nat_eq (stamp_of e) (stamp_of first)) (have_stamp (stamp_of first) taken) stamps in
    let here : stamp_of first ≡ stamp_of e = sym (eqb-true (stamp_of e) (stamp_of first) parts.0) in
    let g = run_with e taken next more (subst (λ n. have_stamp n taken ≡ true) here parts.1) (same ∙ here) in
    record { others = g.others; more = g.more; is = joins first e (taken ++ next ∷ [] ++ g.others) g.more (runs (e ∷ taken ++ next ∷ more)) here g.is }

-- ---- hands

-- the next stamp is above the limit
pub hand_above : (control : ℕ) (cause : Option Cause) (limit : ℕ) (first : Entry) (entries : List Entry) → limit < stamp_of first → hand control cause limit (runs (first ∷ entries)) ≡ hands.AtLimit
hand_above control cause limit first entries above =
    let b = begins first entries in
    ap (hand control cause limit) b.is ∙ choose b.run b.more
  where
    choose : (run : List Entry) (more : List (List Entry)) → hand control cause limit ((first ∷ run) ∷ more) ≡ hands.AtLimit
    choose run [] = rw (lt-ltb limit (stamp_of first) above) refl
    choose run (next ∷ more) = rw (lt-ltb limit (stamp_of first) above) refl

-- a whole run, and an entry after it
pub hand_before : (control : ℕ) (cause : Option Cause) (limit : ℕ) (first : Entry) (taken : List Entry) (next : Entry) (more : List Entry)
    → have_stamp (stamp_of first) taken ≡ true → stamp_of first ≢ stamp_of next → stamp_of first ≤ limit → length (writes_of (first ∷ taken)) ≤ WRITES_OF_RUN
    → hand control cause limit (runs (first ∷ taken ++ next ∷ more)) ≡ hands.Batch (batch_of control (first ∷ taken) (min limit (stamp_of next - 1)))
hand_before control cause limit first taken next more stamps other there room =
    let b = begins next more in
    ap (hand control cause limit) (run_before first taken next more stamps other ∙ ap (λ (t : List (List Entry)). (first ∷ taken) ∷ t) b.is)
    ∙ rw (le-ltb limit (stamp_of first) there, le-ltb WRITES_OF_RUN (length (writes_of (first ∷ taken))) room) refl

pub left_before : (first : Entry) (taken : List Entry) (next : Entry) (more : List Entry) (b : Batch) → have_stamp (stamp_of first) taken ≡ true → stamp_of first ≢ stamp_of next
    → runs (next ∷ more) ≡ left_after (hands.Batch b) (runs (first ∷ taken ++ next ∷ more))
left_before first taken next more b stamps other = ap (left_after (hands.Batch b)) (sym (run_before first taken next more stamps other))

pub left_at_end : (first : Entry) (taken : List Entry) (b : Batch) → have_stamp (stamp_of first) taken ≡ true → [] ≡ left_after (hands.Batch b) (runs (first ∷ taken))
left_at_end first taken b stamps = ap (left_after (hands.Batch b)) (sym (run_at_end first taken stamps))

-- a run that the end ends
pub hand_at_end : (control : ℕ) (cause : Option Cause) (limit : ℕ) (first : Entry) (taken : List Entry)
    → have_stamp (stamp_of first) taken ≡ true → stamp_of first ≤ limit → length (writes_of (first ∷ taken)) ≤ WRITES_OF_RUN
    → hand control cause limit (runs (first ∷ taken)) ≡ broken_or (hands.Batch (batch_of control (first ∷ taken) limit)) (break_after cause (stamp_of first))
hand_at_end control cause limit first taken stamps there room =
    ap (hand control cause limit) (run_at_end first taken stamps)
    ∙ rw (le-ltb limit (stamp_of first) there, le-ltb WRITES_OF_RUN (length (writes_of (first ∷ taken))) room) refl

-- a run with a write too many
pub hand_crowded : (control : ℕ) (cause : Option Cause) (limit : ℕ) (first : Entry) (taken : List Entry) (w : Write) (more : List Entry)
    → have_stamp (stamp_of first) taken ≡ true → w.stamp.0 ≡ stamp_of first → stamp_of first ≤ limit → length (writes_of (first ∷ taken)) ≡ WRITES_OF_RUN
    → hand control cause limit (runs (first ∷ taken ++ Written w ∷ more)) ≡ hands.Broken (Crowded (stamp (stamp_of first))) (stamp (stamp_of first - 1))
hand_crowded control cause limit first taken w more stamps same there full =
    let g = run_with first taken (Written w) more stamps same in
    let run = (first ∷ taken ++ Written w ∷ []) ++ g.others in
    let crowded : WRITES_OF_RUN < length (writes_of run) = omega (
      arith,
      full,
      ap length (writes_append (first ∷ taken ++ Written w ∷ []) g.others),
      length-append (writes_of (first ∷ taken ++ Written w ∷ [])) (writes_of g.others),
      ap length (writes_append (first ∷ taken) (Written w ∷ [])),
      length-append (writes_of (first ∷ taken)) (w ∷ []),
    ) in
    ap (hand control cause limit) g.is ∙ choose g.others g.more crowded
  where
    choose : (others : List Entry) (more : List (List Entry)) → WRITES_OF_RUN < length (writes_of ((first ∷ taken ++ Written w ∷ []) ++ others))
        → hand control cause limit (((first ∷ taken ++ Written w ∷ []) ++ others) ∷ more) ≡ hands.Broken (Crowded (stamp (stamp_of first))) (stamp (stamp_of first - 1))
    choose others [] crowded = rw (le-ltb limit (stamp_of first) there, lt-ltb WRITES_OF_RUN (length (writes_of ((first ∷ taken ++ Written w ∷ []) ++ others))) crowded) refl
    choose others (next ∷ more) crowded = rw (le-ltb limit (stamp_of first) there, lt-ltb WRITES_OF_RUN (length (writes_of ((first ∷ taken ++ Written w ∷ []) ++ others))) crowded) refl
