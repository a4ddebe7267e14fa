-- Worked points: a pair that is suspended and added again, volumes that fail, also in a mark for a command, the end, and a cut trace.
use Rattle.std.specs.Prelude.{◌≡◌, ℕ, List, [], ◌∷◌, ◌++◌, fold, true, false, ◌==◌, Option, Some, None, codes, nat_lt, if◌then◌else◌}
use Rattle.ckd_track.specs.declared.write.Kind.TheVariants.{Update, Whole}
use Rattle.pair_table.specs.declared.command.Choice.TheVariants.{One}
use Rattle.pair_table.specs.declared.command.Command.{Command}
use Rattle.pair_table.specs.declared.command.Command.TheVariants.{AddPair, DelPair, End, Query, Suspend}
use Rattle.pair_table.specs.declared.level.Level.{Level}
use Rattle.pair_table.specs.declared.level.Level.TheVariants.{Session as SessionLevel, Volume as VolumeLevel}
use Rattle.pair_table.specs.declared.row.PairRow.{PairRow}
use Rattle.pair_table.specs.declared.row.PairState.{PairState}
use Rattle.pair_table.specs.declared.row.PairState.TheVariants.{Copy, Duplex, Pending}
use Rattle.pair_table.specs.declared.row.SuspendCause.TheVariants.{Command as ByCommand, Control as ByControl, Device as ByDevice, Session as BySession}
use Rattle.row_changes.specs.Changes.{RowChange, Timed, since}
use Rattle.row_changes.specs.Changes.Due.{DueSince, NoneDue}
use Rattle.row_changes.specs.Changes.RowChange.{Break, Hit, MarkedHit, Mature}
use Rattle.write_trace.specs.declared.entry.Entry.{Entry}
use Rattle.write_trace.specs.declared.entry.Entry.TheVariants.{Written}
use Rattle.write_trace.specs.declared.trace.Trace.{Trace}
use Rattle.write_trace.specs.declared.trace.TraceEnd.{TraceEnd}
use Rattle.write_trace.specs.declared.trace.TraceEnd.TheVariants.{BadTrace, Ended}
use Rattle.xrc_command.specs.declared.line.Line.{Line}
use Rattle.consistency.specs.Stages.{ScriptRun}
use Rattle.consistency.specs.Leads.{Point}
use Rattle.consistency.specs.Owing.{tracks_asked, tracks_owed}
use Rattle.passages.specs.Points.{AreLinked}
use Rattle.consistency.specs.Answering.{points_before}
use Rattle.consistency.specs.Ways.{ComesBy, ComesNext, Leg, PassedPoint, Way, hits_of_leg, hits_stand, leg_after, leg_by}
use Rattle.consistency.specs.Ways.Way.{Commanded, Ending, MarkedFor, OnTheWay}

-- ---- two controllers, each with one volume of one cylinder, and two devices

abbrev pub worked_row : PairState → PairRow
worked_row state = record { primary = codes "PRIM01"; secondary = codes "SEC001"; control = 0; volume = 0; device = 0; cylinders = 1; state = state; group = None }

abbrev pub other_worked_row : PairState → PairRow
other_worked_row state = record { primary = codes "PRIM02"; secondary = codes "SEC002"; control = 1; volume = 0; device = 1; cylinders = 1; state = state; group = None }

abbrev pub one_volume_trace : (serial : List ℕ) → List Entry → TraceEnd → Trace
one_volume_trace serial entries end = record { header = record { version = 1; volumes = record { serial = serial; cylinders = 1 } ∷ []; base = [] }; entries = entries; end = end }

abbrev pub worked_session : Level → List Trace → ScriptRun
worked_session level traces = record {
  session = codes "ABC";
  traces = traces;
  labels = record { device = 0; serial = codes "SEC001"; cylinders = 1 } ∷ record { device = 1; serial = codes "SEC002"; cylinders = 1 } ∷ [];
  level = level;
  rises = λ device. 1;
}

abbrev pub point_of_rows : (time : ℕ) → List PairRow → Point
point_of_rows time rows = record { time = time; rows = rows; due = NoneDue; is_ended = false }

abbrev pub passed : (moment time : ℕ) → List PairRow → Way → PassedPoint
passed moment time rows way = record { moment = moment; point = point_of_rows time rows; way = way }

abbrev pub timed_change : (time : ℕ) → RowChange → Timed
timed_change time change = record { time = time; change = change }

abbrev pub line_asking : (time : ℕ) → Command → Line
line_asking time command = record { time = record { 0 = time }; session = codes "ABC"; command = command }

-- a leg that begins at a point, after so many lines, before any device was hit
abbrev pub worked_leg : (answered : ℕ) → Point → Leg
worked_leg answered p = record { point = p; replied = p.time; changes = []; marked = []; answered = answered; hit_before = λ device. 0 }

-- ---- a pair that is suspended and added again

-- writes on track 3 before the pair's suspension and after it
abbrev pub resumed_run : ScriptRun
resumed_run = worked_session VolumeLevel (one_volume_trace (codes "PRIM01")
    (Written (record { volume = 0; track = 3; stamp = record { 0 = 0x64 }; kind = Whole [] }) ∷ Written (record { volume = 0; track = 3; stamp = record { 0 = 0x110 }; kind = Update 1 [] })
    ∷ Written (record { volume = 0; track = 3; stamp = record { 0 = 0x120 }; kind = Update 1 [] }) ∷ []) Ended ∷ [])

abbrev pub resumed_asked : (line : ℕ) → Option Line
resumed_asked line =
    if line == 1 then Some (line_asking 0x60 (AddPair (codes "PRIM01") (codes "SEC001") None))
    else if line == 2 then Some (line_asking 0x100 (Suspend (One (codes "PRIM01") (codes "SEC001"))))
    else None

abbrev pub resumed_first : Point
resumed_first = point_of_rows 0x50 []

abbrev pub resumed_points : List PassedPoint
resumed_points =
    passed 2 0x60 [] (OnTheWay [])
    ∷ passed 3 0x60 (worked_row Pending ∷ []) (Commanded 1 [])
    ∷ passed 4 0x60 (worked_row Duplex ∷ []) (OnTheWay (timed_change 0x60 (Mature 0 Duplex) ∷ []))
    ∷ passed 5 0x100 (worked_row Duplex ∷ []) (OnTheWay [])
    ∷ passed 6 0x100 (worked_row (since ByCommand 0x100) ∷ []) (Commanded 2 [])
    ∷ passed 7 0x200 (worked_row (since ByCommand 0x100) ∷ []) (OnTheWay []) ∷ []

-- They come one from another, and the pair that is added again asks for the one track that was written after its suspension.
pub record ResumedRowIsWorked : Type 0 where
  pub linked : AreLinked (ComesNext resumed_run resumed_asked) leg_after (worked_leg 1 resumed_first) resumed_points
  pub asked : tracks_asked resumed_run resumed_first resumed_points (worked_row (since ByCommand 0x100) ∷ []) (codes "PRIM01") 0x200 ≡ 1
  pub first_asked : tracks_asked resumed_run resumed_first [] [] (codes "PRIM01") 0x60 ≡ 15

-- ---- a volume that fails

abbrev pub failing_run : ScriptRun
failing_run = worked_session SessionLevel (one_volume_trace (codes "PRIM01") (Written (record { volume = 0; track = 0; stamp = record { 0 = 0x74 }; kind = Whole [] }) ∷ []) Ended ∷ one_volume_trace (codes "PRIM02") [] Ended ∷ [])

abbrev pub failing_points : PairState → List PassedPoint
failing_points state =
    passed 2 0x80 (worked_row (since BySession 0x80) ∷ other_worked_row (since ByDevice 0x80) ∷ []) (OnTheWay (timed_change 0x80 (Hit (1 ∷ [])) ∷ [])) ∷ []

abbrev pub failing_first : PairState → Point
failing_first state = point_of_rows 0x70 (worked_row state ∷ other_worked_row Duplex ∷ [])

-- a hit at a time before that of the point to which it is to lead
abbrev pub earlier_hit : Way
earlier_hit = OnTheWay (timed_change 0x78 (Hit (1 ∷ [])) ∷ [])

abbrev pub earlier_failed : Point
earlier_failed = point_of_rows 0x80 (worked_row (since BySession 0x78) ∷ other_worked_row (since ByDevice 0x78) ∷ [])

-- A hit leads to a point of its own time alone. The pair whose device failed owes all its tracks. The other, which the session suspended, owes those written since where it was
-- duplex, and all where it was still copied.
pub record FailingRowIsWorked : Type 0 where
  pub linked : AreLinked (ComesNext failing_run (λ line. None)) leg_after (worked_leg 2 (failing_first Duplex)) (failing_points Duplex)
  pub earlier : ¬ ComesBy failing_run (λ line. None) (worked_leg 2 (failing_first Duplex)) earlier_failed earlier_hit
  pub by_device : tracks_owed failing_run (failing_first Duplex) (failing_points Duplex) (other_worked_row (since ByDevice 0x80)) 0x90 ≡ 15
  pub by_session : tracks_owed failing_run (failing_first Duplex) (failing_points Duplex) (worked_row (since BySession 0x80)) 0x90 ≡ 0
  pub copied : tracks_owed failing_run (failing_first Copy) (failing_points Copy) (worked_row (since BySession 0x80)) 0x90 ≡ 15

-- ---- a volume that fails in a mark for a command's record

-- a point after a mark in which the first device was hit, where the others are due
abbrev pub marked_point : (moment time : ℕ) → (line : ℕ) → List PairRow → PassedPoint
marked_point moment time line rows = record {
  moment = moment;
  point = record { time = time; rows = rows; due = DueSince time (0 ∷ []); is_ended = false };
  way = MarkedFor line (timed_change time (MarkedHit (0 ∷ [])) ∷ []);
}

abbrev pub marked_first : Point
marked_first = point_of_rows 0x80 (worked_row Duplex ∷ other_worked_row Duplex ∷ [])

-- The second pair is suspended by a command whose record needs a mark. The first volume fails in a sync of that mark.
abbrev pub marked_points : List PassedPoint
marked_points =
    marked_point 2 0x80 3 (worked_row (since ByDevice 0x80) ∷ other_worked_row Duplex ∷ [])
    ∷ passed 3 0x80 (worked_row (since ByDevice 0x80) ∷ other_worked_row (since ByCommand 0x80) ∷ []) (Commanded 3 (timed_change 0x80 (Hit (0 ∷ [])) ∷ [])) ∷ []

-- a command that takes away the pair whose volume fails in the mark
abbrev pub gone_points : List PassedPoint
gone_points =
    marked_point 2 0x80 3 (worked_row (since ByDevice 0x80) ∷ other_worked_row Duplex ∷ [])
    ∷ passed 3 0x80 (other_worked_row Duplex ∷ []) (Commanded 3 []) ∷ []

-- The hit stands after the command, and leaves nothing due; without it there the points don't come one from another. It is counted once,
-- also if the pair is gone.
pub record MarkedRowIsWorked : Type 0 where
  pub linked : AreLinked (ComesNext failing_run (λ line. Some (line_asking 0x80 (Suspend (One (codes "PRIM02") (codes "SEC002")))))) leg_after (worked_leg 3 marked_first) marked_points
  pub counted : hits_of_leg (fold leg_after (worked_leg 3 marked_first) marked_points) 0 ≡ 1
  pub gone : AreLinked (ComesNext failing_run (λ line. Some (line_asking 0x80 (DelPair (One (codes "PRIM01") (codes "SEC001")))))) leg_after (worked_leg 3 marked_first) gone_points
  pub gone_counted : hits_of_leg (fold leg_after (worked_leg 3 marked_first) gone_points) 0 ≡ 1
  pub vanished : hits_stand (timed_change 0x80 (MarkedHit (0 ∷ [])) ∷ []) [] (worked_row Duplex ∷ other_worked_row (since ByCommand 0x80) ∷ []) ≡ false

-- the pair that is added again by a command whose record needs a mark, in which its volume fails
abbrev pub resumed_marked : List PassedPoint
resumed_marked =
    marked_point 8 0x200 3 (worked_row (since ByDevice 0x200) ∷ [])
    ∷ passed 9 0x200 (worked_row (since ByDevice 0x200) ∷ []) (Commanded 3 (timed_change 0x200 (Hit (0 ∷ [])) ∷ [])) ∷ []

-- Its reply says the tracks that it owed before.
pub record ResumedMarkIsWorked : Type 0 where
  pub asked : tracks_asked resumed_run resumed_first (points_before 3 (resumed_points ++ resumed_marked)) (worked_row (since ByCommand 0x100) ∷ []) (codes "PRIM01") 0x200 ≡ 1
  pub asked_after : tracks_asked resumed_run resumed_first (resumed_points ++ resumed_marked) (worked_row (since ByCommand 0x100) ∷ []) (codes "PRIM01") 0x200 ≡ 15

-- ---- the end

abbrev pub ending_asked : (line : ℕ) → Option Line
ending_asked line = if nat_lt line 3 then None else Some (line_asking 0x80 End)

abbrev pub ended_point : Point
ended_point = record { time = 0x80; rows = worked_row (since ByDevice 0x80) ∷ other_worked_row (since BySession 0x80) ∷ []; due = NoneDue; is_ended = true }

-- a volume that fails in the mark that ends the session, and a line after it
abbrev pub ending_points : List PassedPoint
ending_points =
    passed 2 0x80 (worked_row Duplex ∷ other_worked_row Duplex ∷ []) (Commanded 3 [])
    ∷ record { moment = 3; point = ended_point; way = Ending 3 (timed_change 0x80 (Hit (0 ∷ [])) ∷ []) }
    ∷ record { moment = 3; point = ended_point; way = Commanded 4 [] } ∷ []

-- They come one from another. No change comes after the accepted end's command, and no end without it.
pub record EndedRowIsWorked : Type 0 where
  pub linked : AreLinked (ComesNext failing_run ending_asked) leg_after (worked_leg 3 marked_first) ending_points
  pub none_after : ¬ ComesBy failing_run ending_asked (leg_by (worked_leg 3 marked_first) marked_first (Commanded 3 [])) marked_first (OnTheWay [])
  pub none_before : ¬ ComesBy failing_run ending_asked (worked_leg 3 marked_first) ended_point (Ending 3 (timed_change 0x80 (Hit (0 ∷ [])) ∷ []))

-- ---- a cut trace

-- the second controller's trace is cut after a write at [60], so that it breaks at [5F]
abbrev pub cut_run : ScriptRun
cut_run = worked_session VolumeLevel (one_volume_trace (codes "PRIM01") [] Ended ∷ one_volume_trace (codes "PRIM02") (Written (record { volume = 0; track = 0; stamp = record { 0 = 0x60 }; kind = Whole [] }) ∷ []) (BadTrace 41) ∷ [])

abbrev pub cut_rows : List PairRow
cut_rows = worked_row Duplex ∷ other_worked_row (since ByControl 0x5F) ∷ []

-- A controller that broke at a point breaks no more after it.
pub record CutRowIsWorked : Type 0 where
  pub linked : AreLinked (ComesNext cut_run (λ line. Some (line_asking 0x70 Query))) leg_after (worked_leg 3 (point_of_rows 0x58 (worked_row Duplex ∷ other_worked_row Duplex ∷ [])))
      (passed 2 0x5F cut_rows (OnTheWay (timed_change 0x5F (Break 1) ∷ [])) ∷ passed 3 0x70 cut_rows (OnTheWay []) ∷ passed 4 0x70 cut_rows (Commanded 3 []) ∷ [])
