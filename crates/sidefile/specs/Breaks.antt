-- The break of a controller: in which run its trace is given up, why, and up to when it has reported.
use Rattle.std.specs.Prelude.{ℕ, ◌-◌, List, [], ◌∷◌, Bool, false, Option, Some, None, option_map, nat_lt, if◌then◌else◌}
use Rattle.tod_stamp.specs.declared.stamp.Stamp.{Stamp}
use Rattle.ckd_track.specs.declared.write.Cause.{Cause}
use Rattle.ckd_track.specs.declared.write.Cause.TheVariants.{ReadFault, BadTrace, Crowded}
use Rattle.write_trace.specs.declared.entry.Entry.{Entry}
use Rattle.write_trace.specs.declared.trace.Trace.{Trace}
use Rattle.write_trace.specs.declared.trace.TraceEnd.{TraceEnd}
use Rattle.write_trace.specs.declared.trace.TraceEnd.TheVariants as ends
use Rattle.sidefile.specs.Runs.{runs, run_stamp, is_crowded}

abbrev pub stamp : ℕ → Stamp
stamp time = record { 0 = time }

-- the cause of a trace's end, where it isn't clean
abbrev pub cause_of : TraceEnd → Option Cause
cause_of ends.Ended = None
cause_of (ends.BadTrace place) = Some (BadTrace place)
cause_of ends.ReadFault = Some ReadFault

-- A break: its cause, and the time up to which the controller had reported.
pub record Break : Type 0 where
  pub cause : Cause
  pub upto : ℕ

abbrev pub crowd : List Entry → Break
crowd run = record { cause = Crowded (stamp (run_stamp run)); upto = run_stamp run - 1 }

abbrev pub break_after : Option Cause → (time : ℕ) → Option Break
break_after cause time = option_map (λ c. record { cause = c; upto = time - 1 }) cause

-- The breaking run is the first that is crowded; where there is none and the trace doesn't end cleanly, it is the last.
-- The break time is the breaking run's stamp less 1. It is 0 where there is no run and the trace doesn't end cleanly.
abbrev pub break_in : Option Cause → List (List Entry) → Option Break
break_in cause [] = break_after cause 0
break_in cause (run ∷ []) = if is_crowded run then Some (crowd run) else break_after cause (run_stamp run)
break_in cause (run ∷ next ∷ more) = if is_crowded run then Some (crowd run) else break_in cause (next ∷ more)

-- the break of a trace, if it has one
abbrev pub break_of : Trace → Option Break
break_of t = break_in (cause_of t.end) (runs t.entries)

-- the break time, if the trace has a break
abbrev pub break_time : Trace → Option ℕ
break_time t = option_map (λ b. b.upto) (break_of t)

-- whether a controller has broken at a time: its break time is below
abbrev pub is_below : Option ℕ → ℕ → Bool
is_below None time = false
is_below (Some b) time = nat_lt b time

abbrev pub has_broken : Trace → (time : ℕ) → Bool
has_broken t time = is_below (break_time t) time

-- The cause that a report at a time shows of a controller, if it has broken by then.
abbrev pub cause_at : (time : ℕ) → Trace → Option Cause
cause_at time t = if has_broken t time then option_map (λ b. b.cause) (break_of t) else None
