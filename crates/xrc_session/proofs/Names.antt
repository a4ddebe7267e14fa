-- The names at a time: those of a run, with the controllers that have broken by then.
use Rattle.std.proofs.Common.{◌≡◌, ◌⊎◌, ℕ, suc, ◌+◌, ◌<◌, ◌≤◌, nat_eq, nat_lt, Bool, true, false, cond, ◌||◌, not, List, [], ◌∷◌, ◌++◌, length, map, Option, Some, None, refl, sym, ap, ◌∙◌, arith, true≢false, inl, inr}
use Rattle.std.specs.Prelude.{bytes_eq, is_some, option_map, slice_get, slice_index_or}
use Rattle.std.specs.List.{list_any}
use Rattle.std.proofs.lemmas.Bool.{le-ltb, lt-ltb, ltb-true}
use Rattle.std.proofs.lemmas.List.{length-map}
use Rattle.tod_stamp.specs.declared.stamp.Stamp.{Stamp}
use Rattle.ckd_track.specs.declared.write.Cause.{Cause}
use Rattle.write_trace.specs.declared.header.VolumeHead.{VolumeHead}
use Rattle.write_trace.specs.declared.trace.Trace.{Trace}
use Rattle.sidefile.specs.Breaks.{Break, break_of, break_time, is_below}
use Rattle.pair_table.specs.declared.command.Change.{Change}
use Rattle.pair_table.specs.declared.command.Command.{Command}
use Rattle.pair_table.specs.declared.command.Command.TheVariants.{Start, AddPair, DelPair, Suspend, Query, End}
use Rattle.pair_table.specs.declared.command.Refusal.{Refusal}
use Rattle.pair_table.specs.declared.command.Refusal.TheVariants.{Ended, NoSession}
use Rattle.pair_table.specs.Commands.{answer, answer_by, change_of}
use Rattle.pair_table.specs.Naming.{Naming, has_volumes, numbers_set, primary_of}
use Rattle.pair_table.specs.Refusals.{refuses_primary}
use Rattle.pair_table.specs.Tables.{Table}
use Rattle.consistency.specs.Stages.{ScriptRun, breaks_of, names_of, primaries_named, volumes_named}
use Rattle.consistency.specs.Steps.{broken_at, names_at}
use Rattle.mover.specs.declared.lane.Lane.{Lane}
use Rattle.mover.specs.Lanes.{broken_by, reader_in}
use Rattle.mover.specs.Epochs.{LanesBrokeAs, break_below}
use Rattle.xrc_session.specs.Lanes.{HaveHeadsOf, HaveVolumes, heads_of_reader, primaries_in, with_lanes_broken}
use Rattle.xrc_session.proofs.NamedBroken.{AreAlsoSet, flags_named, with_flags}
use Rattle.xrc_session.proofs.Readying.{has_lane_broken, lane_is_named, lanes_as_flags}

-- ---- traces and lanes

-- The volumes that the traces' headers name are those of the lanes.
pub named_as_lanes : {S : Type 0} (control : ℕ) (lanes : List (Lane S)) (traces : List Trace) → HaveHeadsOf lanes traces → primaries_named control traces ≡ primaries_in control lanes
named_as_lanes k [] [] heads = refl
named_as_lanes k [] (t ∷ traces) heads = absurd (cc heads)
named_as_lanes k (lane ∷ lanes) [] heads = absurd (cc heads)
named_as_lanes k (lane ∷ lanes) (t ∷ traces) heads =
    let first : t.header.volumes ≡ heads_of_reader (reader_in lane) = cc heads in
    let rest : HaveHeadsOf lanes traces = cc heads in
    let names = named_as_lanes (k + 1) lanes traces rest in
    λ i. volumes_named k 0 (first i) ++ names i

pub as_many : {S : Type 0} (lanes : List (Lane S)) (traces : List Trace) → HaveHeadsOf lanes traces → length traces ≡ length lanes
as_many lanes traces heads = sym (length-map traces (λ t. t.header.volumes)) ∙ ap (λ (l : List (List VolumeHead)). length l) heads ∙ length-map lanes (λ lane. heads_of_reader (reader_in lane))

-- ---- flags

-- whether controllers have broken at a time, in order
abbrev flags_at : (time : ℕ) → List (Option ℕ) → List Bool
flags_at time breaks = map (λ b. is_below b time) breaks

as_set : (time control : ℕ) (breaks : List (Option ℕ)) → broken_at time control breaks ≡ numbers_set control (flags_at time breaks)
as_set time k [] = refl
as_set time k (b ∷ breaks) = ap (λ (numbers : List ℕ). cond (is_below b time) (k ∷ numbers) numbers) (as_set time (k + 1) breaks)

-- One that has broken has broken at a later time.
below_later : (from time : ℕ) (b : Option ℕ) → from ≤ time → is_below b from ≡ true → is_below b time ≡ true
below_later from time None up is = absurd (true≢false (sym is))
below_later from time (Some b) up is = lt-ltb b time (let low = ltb-true b from is in omega (arith, low, up))

also_later : (from time : ℕ) (breaks : List (Option ℕ)) → from ≤ time → AreAlsoSet (flags_at from breaks) (flags_at time breaks)
also_later from time [] up = tt
also_later from time (b ∷ breaks) up = (below_later from time b up, also_later from time breaks up)

some_below : (time : ℕ) (o : Option Break) → is_some (break_below time o) ≡ is_below (option_map (λ (b : Break). b.upto) o) time
some_below time None = refl
some_below time (Some b) = choose (nat_lt b.upto time)
  where
    choose : (low : Bool) → is_some {T = Stamp × Cause} (cond low (Some (record { 0 = b.upto }, b.cause)) None) ≡ low
    choose true = refl
    choose false = refl

-- Lanes that broke as their traces do have the flags of these.
lane_flags : {S : Type 0} (time : ℕ) (lanes : List (Lane S)) (traces : List Trace) → length traces ≡ length lanes
    → ((k : ℕ) (t : Trace) (d : Lane S) → slice_get traces k ≡ Some t → broken_by (reader_in (slice_index_or lanes k d)) ≡ break_below time (break_of t)) → map has_lane_broken lanes ≡ flags_at time (map break_time traces)
lane_flags time [] [] many each = refl
lane_flags time [] (t ∷ traces) many each = absurd (omega (arith, many))
lane_flags time (lane ∷ lanes) [] many each = absurd (omega (arith, many))
lane_flags time (lane ∷ lanes) (t ∷ traces) many each =
    let first : has_lane_broken lane ≡ is_below (break_time t) time = ap is_some (each 0 t lane refl) ∙ some_below time (break_of t) in
    let rest = lane_flags time lanes traces (omega (arith, many)) (λ k u d at. each (suc k) u d at) in
    λ i. first i ∷ rest i

-- ---- the names

-- At the start no controller has broken.
pub names_at_start : {S : Type 0} (run : ScriptRun) (lanes : List (Lane S)) (names : Naming) → HaveHeadsOf lanes run.traces → names.primaries ≡ primaries_in 0 lanes → names.labels ≡ run.labels → names.broken ≡ [] → names ≡ names_at 0 (breaks_of run) (names_of run)
names_at_start run lanes names heads named labels broken =
    let same : names.primaries ≡ primaries_named 0 run.traces = named ∙ sym (named_as_lanes 0 lanes run.traces heads) in
    let none : names.broken ≡ broken_at 0 0 (breaks_of run) = broken ∙ sym (none_at_zero 0 (breaks_of run)) in
    λ i. record { primaries = same i; labels = labels i; broken = none i }
  where
    none_below : (b : Option ℕ) → is_below b 0 ≡ false
    none_below None = refl
    none_below (Some b) = le-ltb b 0 (omega arith)

    none_at_zero : (k : ℕ) (breaks : List (Option ℕ)) → broken_at 0 k breaks ≡ []
    none_at_zero k [] = refl
    none_at_zero k (b ∷ breaks) = rw (none_below b) (none_at_zero (k + 1) breaks)

-- Once the controllers are named whose lanes have broken, the names are those at the time up to which the lanes broke as their traces do.
pub names_at_time : {S : Type 0} (run : ScriptRun) (lanes : List (Lane S)) (from time : ℕ) (before names : Naming) → from ≤ time → LanesBrokeAs time run.traces lanes → HaveHeadsOf lanes run.traces → HaveVolumes lanes
    → before ≡ names_at from (breaks_of run) (names_of run) → names ≡ with_lanes_broken 0 lanes before → names ≡ names_at time (breaks_of run) (names_of run)
names_at_time run lanes from time before names up broke heads have was is =
    is
    ∙ lanes_as_flags 0 lanes before
    ∙ ap (λ (flags : List Bool). with_flags 0 flags before) (lane_flags time lanes run.traces (as_many lanes run.traces heads) broke.each)
    ∙ flags_named 0 [] (flags_at from (breaks_of run)) (flags_at time (breaks_of run)) before refl (ap (λ (n : Naming). n.broken) was ∙ as_set from 0 (breaks_of run)) (also_later from time (breaks_of run) up) has
    ∙ (λ i. record (was i) { broken = sym (as_set time 0 (breaks_of run)) i })
  where
    primaries : before.primaries ≡ primaries_in 0 lanes
    primaries = ap (λ (n : Naming). n.primaries) was ∙ named_as_lanes 0 lanes run.traces heads

    has : (j : ℕ) → j < length (flags_at time (breaks_of run)) → has_volumes (0 + j) before ≡ true
    has j low =
        let one = length-map (breaks_of run) (λ b. is_below b time) in
        let two = length-map run.traces break_time in
        let three = as_many lanes run.traces heads in
        ap (list_any (λ v. nat_eq v.control (0 + j))) primaries ∙ lane_is_named 0 j lanes have (omega (arith, low, one, two, three))

-- ---- answers that look at no name

-- Before the start, and after the end, an answer is the same with any names.
pub answers_alike : (names other : Naming) (table : Table) (session : List ℕ) (command : Command) → (table.is_started ≡ false) ⊎ (table.is_ended ≡ true) → answer names table session command ≡ answer other table session command
answers_alike names other table session (Start level) idle = refl
answers_alike names other table session (DelPair choice) idle = refl
answers_alike names other table session (Suspend choice) idle = refl
answers_alike names other table session Query idle = refl
answers_alike names other table session End idle = refl
answers_alike names other table session (AddPair primary secondary group) (inr ended) = rw ended refl
answers_alike names other table session (AddPair primary secondary group) (inl unstarted) =
    rw unstarted (choose table.is_ended (bytes_eq session table.session) (refusal_by names) (refusal_by other) (change_of names (AddPair primary secondary group) table.rows) (change_of other (AddPair primary secondary group) table.rows))
  where
    refusal_by : Naming → Option Refusal
    refusal_by n = refuses_primary primary secondary n table.rows (primary_of primary n)

    choose : (ended own : Bool) (a b : Option Refusal) (p q : Change) → answer_by (cond ended (Some Ended) (cond (not own || true) (Some NoSession) a)) p ≡ answer_by (cond ended (Some Ended) (cond (not own || true) (Some NoSession) b)) q
    choose true own a b p q = refl
    choose false true a b p q = refl
    choose false false a b p q = refl
