use Rattle.std.proofs.Common.{◌⊎◌, inr, ℕ, List, Ok, Err, refl, sym, ap, subst, ◌∙◌}
use Rattle.std.specs.Prelude.{IfErr}
use Rattle.crash_plant.proofs.Steps.{works_on_console_here}
use Rattle.xrc_session.specs.Frames.{KeepsPlant}
use Rattle.xrc_session.specs.Openings.{ComesEarly, OpensInOrder}
use Rattle.xrc_session.specs.Runs.{RunsLines, RunsTold}
use Rattle.xrc_session.specs.Starting.{BeginsRun}
use Rattle.xrc_session.specs.Starting.BeginsRun.{Unstarted}
use Rattle.xrc_session.specs.Stops.{HasRunCause, StopsByCount}
use Rattle.xrc_session.proofs.InTurn.{counts_after, counts_fell, done_raises_none, fell_here, keeps_here, keeps_then, none_risen_here, none_stop}
use Rattle.xrc_session.proofs.Numbered.{given_on}
use Rattle.xrc_session.proofs.SafeStarts.{leaves_here}
use Rattle.xrc_session.proofs.ScriptOpens.{comes_late, early_cause, err_from, err_of, finish_cause, finish_late, never_due, none_early, opens_done, opens_so}
use Rattle.xrc_session.proofs.Scripts.{between_may_finish, early_runs, finished_begins, lines_finish, lines_stop}
use Rattle.xrc_session.proofs.script.run_script.Goals as goal

-- ---- the opening stops it

pub returns-in_err-run-clause-opens : goal.returns-in_err-run-clause-opens
returns-in_err-run-clause-opens g c =
    let e = c.in_err-run.field-0.0 in
    let result = c.from_residual.result in
    opens_so g.S.Source.left g.S.Source.faults c.args.storage c.args.traces.now c.make.new.traces (g.P.Plant.state c.args.plant.now) c.make.result result e c.in_err-run.was (given_on result e c.from_residual.ensures) c.make.ensures.opens

pub returns-in_err-run-clause-early : goal.returns-in_err-run-clause-early
returns-in_err-run-clause-early g c =
    let e = c.in_err-run.field-0.0 in
    let result = c.from_residual.result in
    err_from result e _ (given_on result e c.from_residual.ensures) (λ early. c.make.ensures.plant)

pub returns-in_err-run-clause-unopened : goal.returns-in_err-run-clause-unopened
returns-in_err-run-clause-unopened g c = λ sources stop told due. c.make.ensures.plant

pub returns-in_err-run-clause-keeps : goal.returns-in_err-run-clause-keeps
returns-in_err-run-clause-keeps g c =
    let old = g.P.Plant.state c.args.plant.now in
    subst (λ p. KeepsPlant g.P.Plant.tells old (g.P.Plant.state p)) (sym c.make.ensures.plant) (keeps_here g.P.Plant.tells old c.requires.home (works_on_console_here g.P.Plant.tells old).elapses)

pub returns-in_err-run-clause-runs : goal.returns-in_err-run-clause-runs
returns-in_err-run-clause-runs g c = λ told.
    let tells = g.P.Plant.tells in
    let left = g.S.Source.left in
    let faults = g.S.Source.faults in
    let session = c.args.session in
    let storage = c.args.storage in
    let before = c.args.traces.now in
    let now = c.make.new.traces in
    let old = g.P.Plant.state c.args.plant.now in
    let e = c.in_err-run.field-0.0 in
    let result = c.from_residual.result in
    subst (λ p. RunsTold tells left faults session storage before now old (g.P.Plant.state p) result) (sym c.make.ensures.plant)
    (subst (λ r. RunsTold tells left faults session storage before now old old r) (sym (given_on result e c.from_residual.ensures))
    (early_runs tells left faults session c.as_bytes.ensures.valid storage before now old e (err_of c.make.result e _ c.in_err-run.was c.make.ensures.stops) (opens_so left faults storage before now old c.make.result (Err e) e c.in_err-run.was refl c.make.ensures.opens)))

pub returns-in_err-run-clause-begins : goal.returns-in_err-run-clause-begins
returns-in_err-run-clause-begins g c = λ told.
    let old = g.P.Plant.state c.args.plant.now in
    subst (λ p. BeginsRun c.args.session old (g.P.Plant.state p)) (sym c.make.ensures.plant) (Unstarted (leaves_here old))

pub returns-in_err-run-clause-cause : goal.returns-in_err-run-clause-cause
returns-in_err-run-clause-cause g c =
    let e = c.in_err-run.field-0.0 in
    let result = c.from_residual.result in
    err_from result e _ (given_on result e c.from_residual.ensures) (early_cause (g.P.Plant.state c.args.plant.now) (g.P.Plant.state c.make.new.plant) e (err_of c.make.result e _ c.in_err-run.was c.make.ensures.stops))

pub returns-in_err-run-clause-counts : goal.returns-in_err-run-clause-counts
returns-in_err-run-clause-counts g c =
    let old = g.P.Plant.state c.args.plant.now in
    subst (λ p. StopsByCount old (g.P.Plant.state p) c.from_residual.result) (sym c.make.ensures.plant) (none_stop old old c.from_residual.result (none_risen_here old))

-- ---- its lines stop it

pub returns-in_err-run_lines-clause-opens : goal.returns-in_err-run_lines-clause-opens
returns-in_err-run_lines-clause-opens g c =
    let left = g.S.Source.left in
    let faults = g.S.Source.faults in
    let mid = g.P.Plant.state c.make.new.plant in
    let new = g.P.Plant.state c.run_lines.new.plant in
    let e = c.in_err-run_lines.field-0.0 in
    let result = c.from_residual-in_err-run_lines.result in
    opens_done left faults c.args.storage c.args.traces.now c.make.new.traces c.run_lines.new.traces (g.P.Plant.state c.args.plant.now) c.in_ok-run.run'
    (subst (OpensInOrder left faults c.args.storage c.args.traces.now c.make.new.traces (g.P.Plant.state c.args.plant.now)) c.in_ok-run.was c.make.ensures.opens) c.in_ok-run.ensures.good c.run_lines.ensures.went result
    (comes_late mid new result (err_from result e _ (given_on result e c.from_residual-in_err-run_lines.ensures) (err_of c.run_lines.result e _ c.in_err-run_lines.was c.run_lines.ensures.cause)))

pub returns-in_err-run_lines-clause-early : goal.returns-in_err-run_lines-clause-early
returns-in_err-run_lines-clause-early g c =
    let mid = g.P.Plant.state c.make.new.plant in
    let new = g.P.Plant.state c.run_lines.new.plant in
    let e = c.in_err-run_lines.field-0.0 in
    let result = c.from_residual-in_err-run_lines.result in
    none_early _ result (comes_late mid new result (err_from result e _ (given_on result e c.from_residual-in_err-run_lines.ensures) (err_of c.run_lines.result e _ c.in_err-run_lines.was c.run_lines.ensures.cause)))

pub returns-in_err-run_lines-clause-unopened : goal.returns-in_err-run_lines-clause-unopened
returns-in_err-run_lines-clause-unopened g c = λ sources stop told due.
    let left = g.S.Source.left in
    let faults = g.S.Source.faults in
    absurd (never_due left faults c.args.storage c.args.traces.now c.make.new.traces c.run_lines.new.traces (g.P.Plant.state c.args.plant.now) c.in_ok-run.run'
    (subst (OpensInOrder left faults c.args.storage c.args.traces.now c.make.new.traces (g.P.Plant.state c.args.plant.now)) c.in_ok-run.was c.make.ensures.opens) c.in_ok-run.ensures.good c.run_lines.ensures.went sources stop told due)

pub returns-in_err-run_lines-clause-keeps : goal.returns-in_err-run_lines-clause-keeps
returns-in_err-run_lines-clause-keeps g c = subst (λ p. KeepsPlant g.P.Plant.tells (g.P.Plant.state p) (g.P.Plant.state c.run_lines.new.plant)) c.make.ensures.plant c.run_lines.ensures.keeps

pub returns-in_err-run_lines-clause-runs : goal.returns-in_err-run_lines-clause-runs
returns-in_err-run_lines-clause-runs g c = λ told.
    let tells = g.P.Plant.tells in
    let left = g.S.Source.left in
    let faults = g.S.Source.faults in
    let session = c.args.session in
    let storage = c.args.storage in
    let before = c.args.traces.now in
    let opened = c.make.new.traces in
    let last = c.run_lines.new.traces in
    let s = c.run_lines.new.run in
    let mid = g.P.Plant.state c.make.new.plant in
    let new = g.P.Plant.state c.run_lines.new.plant in
    let e = c.in_err-run_lines.field-0.0 in
    let result = c.from_residual-in_err-run_lines.result in
    subst (λ p. RunsTold tells left faults session storage before last (g.P.Plant.state p) new result) c.make.ensures.plant
    (subst (λ r. RunsTold tells left faults session storage before last mid new r) (sym (given_on result e c.from_residual-in_err-run_lines.ensures))
    (lines_stop tells left faults session c.as_bytes.ensures.valid storage before opened last mid new new c.in_ok-run.ensures.turn_out c.run_lines.ensures.went s (counts_fell mid new c.run_lines.result c.run_lines.ensures.counts) (fell_here new) refl e
    (subst (λ (n : List ℕ). RunsLines tells left n s opened last mid new (Err e)) c.in_ok-run.ensures.fresh.session_is
    (subst (λ r. RunsLines tells left c.in_ok-run.run'.session s opened last mid new r) c.in_err-run_lines.was (c.run_lines.ensures.lines told)))))

pub returns-in_err-run_lines-clause-begins : goal.returns-in_err-run_lines-clause-begins
returns-in_err-run_lines-clause-begins g c = λ told.
    let new = g.P.Plant.state c.run_lines.new.plant in
    subst (λ p. BeginsRun c.args.session (g.P.Plant.state p) new) c.make.ensures.plant
    (subst (λ (n : List ℕ). BeginsRun n (g.P.Plant.state c.make.new.plant) new) c.in_ok-run.ensures.fresh.session_is (c.run_lines.ensures.begins told))

pub returns-in_err-run_lines-clause-cause : goal.returns-in_err-run_lines-clause-cause
returns-in_err-run_lines-clause-cause g c =
    let e = c.in_err-run_lines.field-0.0 in
    let result = c.from_residual-in_err-run_lines.result in
    err_from result e _ (given_on result e c.from_residual-in_err-run_lines.ensures)
    (inr (subst (λ p. HasRunCause (g.P.Plant.state p) (g.P.Plant.state c.run_lines.new.plant) e) c.make.ensures.plant (err_of c.run_lines.result e _ c.in_err-run_lines.was c.run_lines.ensures.cause)))

pub returns-in_err-run_lines-clause-counts : goal.returns-in_err-run_lines-clause-counts
returns-in_err-run_lines-clause-counts g c =
    let new = g.P.Plant.state c.run_lines.new.plant in
    let e = c.in_err-run_lines.field-0.0 in
    let result = c.from_residual-in_err-run_lines.result in
    subst (λ p. StopsByCount (g.P.Plant.state p) new result) c.make.ensures.plant
    (subst (StopsByCount (g.P.Plant.state c.make.new.plant) new) (c.in_err-run_lines.was ∙ sym (given_on result e c.from_residual-in_err-run_lines.ensures)) c.run_lines.ensures.counts)

-- ---- it is finished

pub finish-requires-clause-may : goal.finish-requires-clause-may
finish-requires-clause-may g c κs within = between_may_finish g.P.Plant.tells c.run_lines.new.run c.run_lines.new.traces (g.P.Plant.state c.run_lines.new.plant) c.in_ok-run_lines.ensures.between

pub returns-clause-opens : goal.returns-clause-opens
returns-clause-opens g c =
    let left = g.S.Source.left in
    let faults = g.S.Source.faults in
    opens_done left faults c.args.storage c.args.traces.now c.make.new.traces c.run_lines.new.traces (g.P.Plant.state c.args.plant.now) c.in_ok-run.run'
    (subst (OpensInOrder left faults c.args.storage c.args.traces.now c.make.new.traces (g.P.Plant.state c.args.plant.now)) c.in_ok-run.was c.make.ensures.opens) c.in_ok-run.ensures.good c.run_lines.ensures.went c.finish.result
    (finish_late (g.P.Plant.state c.run_lines.new.plant) (g.P.Plant.state c.finish.new.plant) c.finish.result c.finish.ensures.cause)

pub returns-clause-early : goal.returns-clause-early
returns-clause-early g c = none_early _ c.finish.result (finish_late (g.P.Plant.state c.run_lines.new.plant) (g.P.Plant.state c.finish.new.plant) c.finish.result c.finish.ensures.cause)

pub returns-clause-unopened : goal.returns-clause-unopened
returns-clause-unopened g c = λ sources stop told due.
    let left = g.S.Source.left in
    let faults = g.S.Source.faults in
    absurd (never_due left faults c.args.storage c.args.traces.now c.make.new.traces c.run_lines.new.traces (g.P.Plant.state c.args.plant.now) c.in_ok-run.run'
    (subst (OpensInOrder left faults c.args.storage c.args.traces.now c.make.new.traces (g.P.Plant.state c.args.plant.now)) c.in_ok-run.was c.make.ensures.opens) c.in_ok-run.ensures.good c.run_lines.ensures.went sources stop told due)

pub returns-clause-keeps : goal.returns-clause-keeps
returns-clause-keeps g c =
    let mid = g.P.Plant.state c.run_lines.new.plant in
    let new = g.P.Plant.state c.finish.new.plant in
    subst (λ p. KeepsPlant g.P.Plant.tells (g.P.Plant.state p) new) c.make.ensures.plant (keeps_then g.P.Plant.tells (g.P.Plant.state c.make.new.plant) mid new c.run_lines.ensures.keeps c.finish.ensures.keeps)

pub returns-clause-runs : goal.returns-clause-runs
returns-clause-runs g c = λ told.
    let tells = g.P.Plant.tells in
    let left = g.S.Source.left in
    let faults = g.S.Source.faults in
    let session = c.args.session in
    let storage = c.args.storage in
    let before = c.args.traces.now in
    let opened = c.make.new.traces in
    let last = c.run_lines.new.traces in
    let s = c.run_lines.new.run in
    let old = g.P.Plant.state c.make.new.plant in
    let mid = g.P.Plant.state c.run_lines.new.plant in
    let new = g.P.Plant.state c.finish.new.plant in
    let result = c.finish.result in
    subst (λ p. RunsTold tells left faults session storage before last (g.P.Plant.state p) new result) c.make.ensures.plant
    (lines_finish tells left faults session c.as_bytes.ensures.valid storage before opened last old mid new c.in_ok-run.ensures.turn_out c.run_lines.ensures.went s (counts_fell old mid c.run_lines.result c.run_lines.ensures.counts) (counts_fell mid new result c.finish.ensures.counts) tt result
    (subst (λ (n : List ℕ). RunsLines tells left n s opened last old mid (Ok tt)) c.in_ok-run.ensures.fresh.session_is
    (subst (λ r. RunsLines tells left c.in_ok-run.run'.session s opened last old mid r) c.in_ok-run_lines.was (c.run_lines.ensures.lines told)))
    (c.finish.ensures.ends told c.make.new.plant) c.finish.ensures.cause c.in_ok-run_lines.ensures.between (λ ended. let left = c.finish.ensures.after_end ended in (ap g.P.Plant.state left.0, left.1)))

pub returns-clause-begins : goal.returns-clause-begins
returns-clause-begins g c = λ told.
    let old = g.P.Plant.state c.make.new.plant in
    let mid = g.P.Plant.state c.run_lines.new.plant in
    let new = g.P.Plant.state c.finish.new.plant in
    let keeps = c.finish.ensures.keeps in
    subst (λ p. BeginsRun c.args.session (g.P.Plant.state p) new) c.make.ensures.plant
    (subst (λ (n : List ℕ). BeginsRun n old new) c.in_ok-run.ensures.fresh.session_is
    (finished_begins c.in_ok-run.run'.session c.run_lines.new.run.site old mid new keeps.site (keeps.elapses told) (c.finish.ensures.silent told) (λ none. ap g.P.Plant.state (c.finish.ensures.begins told none)) (c.in_ok-run_lines.ensures.begun told)))

pub returns-clause-cause : goal.returns-clause-cause
returns-clause-cause g c =
    let mid = g.P.Plant.state c.run_lines.new.plant in
    let new = g.P.Plant.state c.finish.new.plant in
    subst (λ p. IfErr c.finish.result (λ stop. ComesEarly stop ⊎ HasRunCause (g.P.Plant.state p) new stop)) c.make.ensures.plant
    (finish_cause (g.P.Plant.state c.make.new.plant) mid new c.finish.result (counts_fell (g.P.Plant.state c.make.new.plant) mid c.run_lines.result c.run_lines.ensures.counts) c.finish.ensures.cause)

pub returns-clause-counts : goal.returns-clause-counts
returns-clause-counts g c =
    let old = g.P.Plant.state c.make.new.plant in
    let mid = g.P.Plant.state c.run_lines.new.plant in
    let new = g.P.Plant.state c.finish.new.plant in
    subst (λ p. StopsByCount (g.P.Plant.state p) new c.finish.result) c.make.ensures.plant
    (counts_after old mid new c.finish.result (done_raises_none old mid tt (subst (StopsByCount old mid) c.in_ok-run_lines.was c.run_lines.ensures.counts)) c.finish.ensures.counts)
