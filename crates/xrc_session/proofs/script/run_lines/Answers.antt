use Rattle.std.proofs.Common.{inr, refl, sym, subst, ◌∙◌, arith}
use Rattle.script_lines.specs.NextLines.{IsNextLine}
use Rattle.xrc_session.specs.Runs.{RunsLines}
use Rattle.xrc_session.specs.Steps.{AnswersLine}
use Rattle.xrc_session.specs.Stops.{StopsByCount}
use Rattle.xrc_session.proofs.InTurn.{counts_fell, done_raises_none, none_stop}
use Rattle.xrc_session.proofs.LinesNext.{bad_ends, begins_running, console_cause, console_counts, console_ends, heard_begins, heard_begun, heard_between, heard_counts, heard_keeps, hearing, nothing_ends}
use Rattle.xrc_session.proofs.LinesOn.{line_begins, line_cause, line_counts_on, line_keeps, line_running, line_stops, line_time, line_went, line_went_by}
use Rattle.xrc_session.proofs.Numbered.{given_on}
use Rattle.xrc_session.proofs.ScriptOpens.{err_from, err_of}
use Rattle.xrc_session.proofs.script.run_lines.Goals as goal

pub loop-number-init : goal.loop-number-init
loop-number-init g c =
    begins_running g.P.Plant.tells g.S.Source.left g.S.Source.faults c.args.run.now c.args.traces.now (g.P.Plant.state c.args.plant.now) c.requires.between c.requires.unstarted

pub line-requires-clause-between : goal.line-requires-clause-between
line-requires-clause-between g c κs within =
    let next = c.next_line.ensures in
    let h = hearing c.loop-number.invariant next.only next.cause.later next.cause.by_one next.heard next.silent (λ told. next.keeps told c.args.plant.now) in
    heard_between h

pub line-requires-clause-time : goal.line-requires-clause-time
line-requires-clause-time g c κs within =
    let next = c.next_line.ensures in
    let h = hearing c.loop-number.invariant next.only next.cause.later next.cause.by_one next.heard next.silent (λ told. next.keeps told c.args.plant.now) in
    let is = subst (λ n. IsNextLine g.P.Plant.tells c.loop-number.number c.loop-number.before.0 c.next_line.new.text (g.P.Plant.state c.next_line.new.plant).script n) c.in-Ok-Line.field-0-is c.in-Ok-Line.ensures.next in
    line_time h c.in-Ok-Line.line is

pub returns-in-Ok-Bad-clause-keeps : goal.returns-in-Ok-Bad-clause-keeps
returns-in-Ok-Bad-clause-keeps g c =
    let next = c.next_line.ensures in
    let h = hearing c.loop-number.invariant next.only next.cause.later next.cause.by_one next.heard next.silent (λ told. next.keeps told c.args.plant.now) in
    heard_keeps h

pub returns-in-Ok-Bad-clause-went : goal.returns-in-Ok-Bad-clause-went
returns-in-Ok-Bad-clause-went g c =
    c.loop-number.invariant.went

pub returns-in-Ok-Bad-clause-lines : goal.returns-in-Ok-Bad-clause-lines
returns-in-Ok-Bad-clause-lines g c =
    let next = c.next_line.ensures in
    let h = hearing c.loop-number.invariant next.only next.cause.later next.cause.by_one next.heard next.silent (λ told. next.keeps told c.args.plant.now) in
    let is = subst (λ n. IsNextLine g.P.Plant.tells c.loop-number.number c.loop-number.before.0 c.next_line.new.text (g.P.Plant.state c.next_line.new.plant).script n) c.in-Ok-Bad.field-0-is c.in-Ok-Bad.ensures.next in
    bad_ends h c.in-Ok-Bad.ensures.cause.ok is

pub returns-in-Ok-Bad-clause-begins : goal.returns-in-Ok-Bad-clause-begins
returns-in-Ok-Bad-clause-begins g c =
    let next = c.next_line.ensures in
    let h = hearing c.loop-number.invariant next.only next.cause.later next.cause.by_one next.heard next.silent (λ told. next.keeps told c.args.plant.now) in
    heard_begins h

pub returns-in-Ok-Bad-clause-cause : goal.returns-in-Ok-Bad-clause-cause
returns-in-Ok-Bad-clause-cause g c =
    inr (c.loop-number.number, refl)

pub returns-in-Ok-Bad-clause-counts : goal.returns-in-Ok-Bad-clause-counts
returns-in-Ok-Bad-clause-counts g c =
    let next = c.next_line.ensures in
    let h = hearing c.loop-number.invariant next.only next.cause.later next.cause.by_one next.heard next.silent (λ told. next.keeps told c.args.plant.now) in
    none_stop _ _ _ (heard_counts h c.in-Ok-Bad.ensures.cause.ok)

pub returns-in-Ok-Nothing-clause-between : goal.returns-in-Ok-Nothing-clause-between
returns-in-Ok-Nothing-clause-between g c =
    let next = c.next_line.ensures in
    let h = hearing c.loop-number.invariant next.only next.cause.later next.cause.by_one next.heard next.silent (λ told. next.keeps told c.args.plant.now) in
    heard_between h

pub returns-in-Ok-Nothing-clause-keeps : goal.returns-in-Ok-Nothing-clause-keeps
returns-in-Ok-Nothing-clause-keeps g c =
    let next = c.next_line.ensures in
    let h = hearing c.loop-number.invariant next.only next.cause.later next.cause.by_one next.heard next.silent (λ told. next.keeps told c.args.plant.now) in
    heard_keeps h

pub returns-in-Ok-Nothing-clause-went : goal.returns-in-Ok-Nothing-clause-went
returns-in-Ok-Nothing-clause-went g c =
    c.loop-number.invariant.went

pub returns-in-Ok-Nothing-clause-lines : goal.returns-in-Ok-Nothing-clause-lines
returns-in-Ok-Nothing-clause-lines g c =
    let next = c.next_line.ensures in
    let h = hearing c.loop-number.invariant next.only next.cause.later next.cause.by_one next.heard next.silent (λ told. next.keeps told c.args.plant.now) in
    let is = subst (λ n. IsNextLine g.P.Plant.tells c.loop-number.number c.loop-number.before.0 c.next_line.new.text (g.P.Plant.state c.next_line.new.plant).script n) c.in-Ok-Nothing.field-0-is c.in-Ok-Nothing.ensures.next in
    nothing_ends h c.in-Ok-Nothing.ensures.cause.ok is

pub returns-in-Ok-Nothing-clause-begins : goal.returns-in-Ok-Nothing-clause-begins
returns-in-Ok-Nothing-clause-begins g c =
    let next = c.next_line.ensures in
    let h = hearing c.loop-number.invariant next.only next.cause.later next.cause.by_one next.heard next.silent (λ told. next.keeps told c.args.plant.now) in
    heard_begins h

pub returns-in-Ok-Nothing-clause-begun : goal.returns-in-Ok-Nothing-clause-begun
returns-in-Ok-Nothing-clause-begun g c =
    let next = c.next_line.ensures in
    let h = hearing c.loop-number.invariant next.only next.cause.later next.cause.by_one next.heard next.silent (λ told. next.keeps told c.args.plant.now) in
    heard_begun h

pub returns-in-Ok-Nothing-clause-counts : goal.returns-in-Ok-Nothing-clause-counts
returns-in-Ok-Nothing-clause-counts g c =
    let next = c.next_line.ensures in
    let h = hearing c.loop-number.invariant next.only next.cause.later next.cause.by_one next.heard next.silent (λ told. next.keeps told c.args.plant.now) in
    none_stop _ _ _ (heard_counts h c.in-Ok-Nothing.ensures.cause.ok)

pub returns-in-Err-clause-keeps : goal.returns-in-Err-clause-keeps
returns-in-Err-clause-keeps g c =
    let next = c.next_line.ensures in
    let h = hearing c.loop-number.invariant next.only next.cause.later next.cause.by_one next.heard next.silent (λ told. next.keeps told c.args.plant.now) in
    heard_keeps h

pub returns-in-Err-clause-went : goal.returns-in-Err-clause-went
returns-in-Err-clause-went g c =
    c.loop-number.invariant.went

pub returns-in-Err-clause-lines : goal.returns-in-Err-clause-lines
returns-in-Err-clause-lines g c =
    let next = c.next_line.ensures in
    let h = hearing c.loop-number.invariant next.only next.cause.later next.cause.by_one next.heard next.silent (λ told. next.keeps told c.args.plant.now) in
    console_ends h c.in-Err.ensures.failed

pub returns-in-Err-clause-begins : goal.returns-in-Err-clause-begins
returns-in-Err-clause-begins g c =
    let next = c.next_line.ensures in
    let h = hearing c.loop-number.invariant next.only next.cause.later next.cause.by_one next.heard next.silent (λ told. next.keeps told c.args.plant.now) in
    heard_begins h

pub returns-in-Err-clause-cause : goal.returns-in-Err-clause-cause
returns-in-Err-clause-cause g c =
    let next = c.next_line.ensures in
    let h = hearing c.loop-number.invariant next.only next.cause.later next.cause.by_one next.heard next.silent (λ told. next.keeps told c.args.plant.now) in
    console_cause h c.in-Err.ensures.cause.failed

pub returns-in-Err-clause-counts : goal.returns-in-Err-clause-counts
returns-in-Err-clause-counts g c =
    let next = c.next_line.ensures in
    let h = hearing c.loop-number.invariant next.only next.cause.later next.cause.by_one next.heard next.silent (λ told. next.keeps told c.args.plant.now) in
    console_counts h

pub returns-in_err-line-in-Ok-Line-clause-keeps : goal.returns-in_err-line-in-Ok-Line-clause-keeps
returns-in_err-line-in-Ok-Line-clause-keeps g c =
    let next = c.next_line.ensures in
    let h = hearing c.loop-number.invariant next.only next.cause.later next.cause.by_one next.heard next.silent (λ told. next.keeps told c.args.plant.now) in
    let is = subst (λ n. IsNextLine g.P.Plant.tells c.loop-number.number c.loop-number.before.0 c.next_line.new.text (g.P.Plant.state c.next_line.new.plant).script n) c.in-Ok-Line.field-0-is c.in-Ok-Line.ensures.next in
    let run = c.line.ensures in
    let d = line_went_by h c.in-Ok-Line.line is c.in-Ok-Line.ensures.cause.ok run.same run.keeps (counts_fell (g.P.Plant.state c.next_line.new.plant) (g.P.Plant.state c.line.new.plant) c.line.result run.counts) run.went run.unheard run.begins run.labels in
    line_keeps h d

pub returns-in_err-line-in-Ok-Line-clause-went : goal.returns-in_err-line-in-Ok-Line-clause-went
returns-in_err-line-in-Ok-Line-clause-went g c =
    let next = c.next_line.ensures in
    let h = hearing c.loop-number.invariant next.only next.cause.later next.cause.by_one next.heard next.silent (λ told. next.keeps told c.args.plant.now) in
    let is = subst (λ n. IsNextLine g.P.Plant.tells c.loop-number.number c.loop-number.before.0 c.next_line.new.text (g.P.Plant.state c.next_line.new.plant).script n) c.in-Ok-Line.field-0-is c.in-Ok-Line.ensures.next in
    let run = c.line.ensures in
    let d = line_went_by h c.in-Ok-Line.line is c.in-Ok-Line.ensures.cause.ok run.same run.keeps (counts_fell (g.P.Plant.state c.next_line.new.plant) (g.P.Plant.state c.line.new.plant) c.line.result run.counts) run.went run.unheard run.begins run.labels in
    line_went h d

pub returns-in_err-line-in-Ok-Line-clause-lines : goal.returns-in_err-line-in-Ok-Line-clause-lines
returns-in_err-line-in-Ok-Line-clause-lines g c = λ told.
    let next = c.next_line.ensures in
    let h = hearing c.loop-number.invariant next.only next.cause.later next.cause.by_one next.heard next.silent (λ told. next.keeps told c.args.plant.now) in
    let is = subst (λ n. IsNextLine g.P.Plant.tells c.loop-number.number c.loop-number.before.0 c.next_line.new.text (g.P.Plant.state c.next_line.new.plant).script n) c.in-Ok-Line.field-0-is c.in-Ok-Line.ensures.next in
    let run = c.line.ensures in
    let d = line_went_by h c.in-Ok-Line.line is c.in-Ok-Line.ensures.cause.ok run.same run.keeps (counts_fell (g.P.Plant.state c.next_line.new.plant) (g.P.Plant.state c.line.new.plant) c.line.result run.counts) run.went run.unheard run.begins run.labels in
    let e = c.in_err-line-in-Ok-Line.field-0.0 in
    let result = c.from_residual.result in
    let stops = given_on result e c.from_residual.ensures in
    subst (λ r. RunsLines g.P.Plant.tells g.S.Source.left c.args.run.now.session c.line.new.self c.args.traces.now c.line.new.traces (g.P.Plant.state c.args.plant.now) (g.P.Plant.state c.line.new.plant) r) (sym stops)
    (line_stops h d told e (err_of c.line.result e _ c.in_err-line-in-Ok-Line.was run.cause) (subst (λ r. AnswersLine g.S.Source.left c.in-Ok-Line.line c.loop-number.run c.line.new.self c.loop-number.traces c.line.new.traces (g.P.Plant.state c.args.plant.now) (g.P.Plant.state c.next_line.new.plant) (g.P.Plant.state c.line.new.plant) r) c.in_err-line-in-Ok-Line.was (run.answers told c.args.plant.now)))

pub returns-in_err-line-in-Ok-Line-clause-begins : goal.returns-in_err-line-in-Ok-Line-clause-begins
returns-in_err-line-in-Ok-Line-clause-begins g c =
    let next = c.next_line.ensures in
    let h = hearing c.loop-number.invariant next.only next.cause.later next.cause.by_one next.heard next.silent (λ told. next.keeps told c.args.plant.now) in
    let is = subst (λ n. IsNextLine g.P.Plant.tells c.loop-number.number c.loop-number.before.0 c.next_line.new.text (g.P.Plant.state c.next_line.new.plant).script n) c.in-Ok-Line.field-0-is c.in-Ok-Line.ensures.next in
    let run = c.line.ensures in
    let d = line_went_by h c.in-Ok-Line.line is c.in-Ok-Line.ensures.cause.ok run.same run.keeps (counts_fell (g.P.Plant.state c.next_line.new.plant) (g.P.Plant.state c.line.new.plant) c.line.result run.counts) run.went run.unheard run.begins run.labels in
    line_begins h d

pub returns-in_err-line-in-Ok-Line-clause-cause : goal.returns-in_err-line-in-Ok-Line-clause-cause
returns-in_err-line-in-Ok-Line-clause-cause g c =
    let next = c.next_line.ensures in
    let h = hearing c.loop-number.invariant next.only next.cause.later next.cause.by_one next.heard next.silent (λ told. next.keeps told c.args.plant.now) in
    let is = subst (λ n. IsNextLine g.P.Plant.tells c.loop-number.number c.loop-number.before.0 c.next_line.new.text (g.P.Plant.state c.next_line.new.plant).script n) c.in-Ok-Line.field-0-is c.in-Ok-Line.ensures.next in
    let run = c.line.ensures in
    let d = line_went_by h c.in-Ok-Line.line is c.in-Ok-Line.ensures.cause.ok run.same run.keeps (counts_fell (g.P.Plant.state c.next_line.new.plant) (g.P.Plant.state c.line.new.plant) c.line.result run.counts) run.went run.unheard run.begins run.labels in
    let e = c.in_err-line-in-Ok-Line.field-0.0 in
    let result = c.from_residual.result in
    let stops = given_on result e c.from_residual.ensures in
    err_from result e _ stops (line_cause h d e (err_of c.line.result e _ c.in_err-line-in-Ok-Line.was run.cause))

pub returns-in_err-line-in-Ok-Line-clause-counts : goal.returns-in_err-line-in-Ok-Line-clause-counts
returns-in_err-line-in-Ok-Line-clause-counts g c =
    let next = c.next_line.ensures in
    let h = hearing c.loop-number.invariant next.only next.cause.later next.cause.by_one next.heard next.silent (λ told. next.keeps told c.args.plant.now) in
    let is = subst (λ n. IsNextLine g.P.Plant.tells c.loop-number.number c.loop-number.before.0 c.next_line.new.text (g.P.Plant.state c.next_line.new.plant).script n) c.in-Ok-Line.field-0-is c.in-Ok-Line.ensures.next in
    let run = c.line.ensures in
    let d = line_went_by h c.in-Ok-Line.line is c.in-Ok-Line.ensures.cause.ok run.same run.keeps (counts_fell (g.P.Plant.state c.next_line.new.plant) (g.P.Plant.state c.line.new.plant) c.line.result run.counts) run.went run.unheard run.begins run.labels in
    let e = c.in_err-line-in-Ok-Line.field-0.0 in
    let result = c.from_residual.result in
    let stops = given_on result e c.from_residual.ensures in
    line_counts_on h d result (subst (StopsByCount (g.P.Plant.state c.next_line.new.plant) (g.P.Plant.state c.line.new.plant)) (c.in_err-line-in-Ok-Line.was ∙ sym stops) run.counts)

pub loop-number-preserved : goal.loop-number-preserved
loop-number-preserved g c =
    let next = c.next_line.ensures in
    let h = hearing c.loop-number.invariant next.only next.cause.later next.cause.by_one next.heard next.silent (λ told. next.keeps told c.args.plant.now) in
    let is = subst (λ n. IsNextLine g.P.Plant.tells c.loop-number.number c.loop-number.before.0 c.next_line.new.text (g.P.Plant.state c.next_line.new.plant).script n) c.in-Ok-Line.field-0-is c.in-Ok-Line.ensures.next in
    let run = c.line.ensures in
    let d = line_went_by h c.in-Ok-Line.line is c.in-Ok-Line.ensures.cause.ok run.same run.keeps (counts_fell (g.P.Plant.state c.next_line.new.plant) (g.P.Plant.state c.line.new.plant) c.line.result run.counts) run.went run.unheard run.begins run.labels in
    let ok = c.in_ok-line-in-Ok-Line in
    line_running h d (done_raises_none (g.P.Plant.state c.next_line.new.plant) (g.P.Plant.state c.line.new.plant) tt (subst (StopsByCount (g.P.Plant.state c.next_line.new.plant) (g.P.Plant.state c.line.new.plant)) ok.was run.counts)) ok.ensures.between ok.ensures.start.0 ok.ensures.start.1 ok.ensures.time ok.ensures.lanes
    (λ told. subst (λ r. AnswersLine g.S.Source.left c.in-Ok-Line.line c.loop-number.run c.line.new.self c.loop-number.traces c.line.new.traces (g.P.Plant.state c.args.plant.now) (g.P.Plant.state c.next_line.new.plant) (g.P.Plant.state c.line.new.plant) r) ok.was (run.answers told c.args.plant.now)) (λ told none. ok.ensures.replies told none)

pub unreachable-requires : goal.unreachable-requires
unreachable-requires g c =
    let bound = c.loop-number.invariant.bound in
    omega (arith, c.loop-number-test.false, bound)
