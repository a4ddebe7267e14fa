-- A line is answered before the start.
use Rattle.std.proofs.Common.{◌≡◌, ◌∙◌, ℕ, List, Option, None, Some, Result, Ok, Err, refl, sym, ap, subst, arith}
use Rattle.std.specs.Prelude.{IfSome}
use Rattle.std.proofs.lemmas.Result.{IfOk-from_err}
use Rattle.crash_plant.specs.Choices.{AtNow}
use Rattle.crash_plant.specs.declared.device.Device.TheVariants.{Volume}
use Rattle.pair_table.specs.declared.command.Change.{Change}
use Rattle.pair_table.specs.declared.command.CommandError.TheVariants as errors
use Rattle.pair_table.specs.declared.command.Refusal.{Refusal}
use Rattle.pair_table.specs.declared.level.Level.{Level}
use Rattle.pair_table.specs.Commands.{answer, table_after}
use Rattle.pair_table.specs.Refusals.{refusal}
use Rattle.pair_table.specs.Tables.{Table}
use Rattle.xrc_status.specs.declared.stop.Stop.{Stop}
use Rattle.xrc_status.specs.declared.stop.Stop.TheVariants as stops
use Rattle.xrc_session.specs.declared.answering.LineAnswer.{LineAnswer}
use Rattle.xrc_session.specs.Answering.{answer_said}
use Rattle.xrc_session.specs.Frames.{SuspendsByCounts}
use Rattle.xrc_session.specs.Lines.{IsSameSession, IsStartAnswered, IsStartedAt}
use Rattle.xrc_session.specs.Replying.{level_in}
use Rattle.xrc_session.specs.Starting.{BeginsByLine, FormatsFirst, IsSafeThroughout, IsWorkOfStart, MeansStart, StandsAfterStart, level_started}
use Rattle.xrc_session.specs.States.{SessionState, site_in, table_in}
use Rattle.xrc_session.specs.Steps.{DoesLine}
use Rattle.xrc_session.proofs.InTurn.{suspends_same, went_here}
use Rattle.xrc_session.proofs.LinesAtStart.{answer_is, begins_here, begun_table, kept_but_table, level_in_done, means_begun, none_suspended, start_answered, started_since, table_now}
use Rattle.xrc_session.proofs.LinesBefore.{memory_does, none_starts, refused_does, refused_done, refused_same, start_does, start_level, start_stops, told_memory}
use Rattle.xrc_session.proofs.LinesBegun.{between_may_go_on, same_lanes_here}
use Rattle.xrc_session.proofs.LinesDone.{started_done}
use Rattle.xrc_session.proofs.Numbered.{given_on}
use Rattle.xrc_session.proofs.SafeStarts.{begins_start}
use Rattle.xrc_session.proofs.StartWorks.{works_err, works_none, works_ok}
use Rattle.xrc_session.proofs.run.SessionRun.answer_before_start.Given as given
use Rattle.xrc_session.proofs.run.SessionRun.answer_before_start.Goals as goal
use Rattle.xrc_session.proofs.run.SessionRun.answer_before_start.Goals.{After-start, After-started_level, In-Some, In_default-started_level, In_ok-start}

pub unreachable-requires : goal.unreachable-requires
unreachable-requires g c =
    let clash = sym (ap site_in c.in_default.is) ∙ ap (λ (x : SessionState). x.site) c.self.view_is ∙ c.requires.unstarted in
    cc clash

-- ---- there is no memory for the command

pub returns-in_err-answer-clause-done : goal.returns-in_err-answer-clause-done
returns-in_err-answer-clause-done g c = IfOk-from_err c.from_residual.result _ c.from_residual.ensures.0

pub returns-in_err-answer-clause-lanes : goal.returns-in_err-answer-clause-lanes
returns-in_err-answer-clause-lanes g c = IfOk-from_err c.from_residual.result _ c.from_residual.ensures.0

pub returns-in_err-answer-clause-hits : goal.returns-in_err-answer-clause-hits
returns-in_err-answer-clause-hits g c = IfOk-from_err c.from_residual.result _ c.from_residual.ensures.0

pub returns-in_err-answer-clause-means : goal.returns-in_err-answer-clause-means
returns-in_err-answer-clause-means g c told = IfOk-from_err c.from_residual.result _ c.from_residual.ensures.0

pub returns-in_err-answer-clause-starts : goal.returns-in_err-answer-clause-starts
returns-in_err-answer-clause-starts g c = IfOk-from_err c.from_residual.result _ c.from_residual.ensures.0

pub returns-in_err-answer-clause-works : goal.returns-in_err-answer-clause-works
returns-in_err-answer-clause-works g c =
    let e = c.in_err-answer.field-0.0 in
    let none : e ≡ stops.NoMemory = told_memory c.command-done.result e (sym c.answer_of.ensures ∙ c.in_err-answer.was) in
    let result : c.from_residual.result ≡ Err stops.NoMemory = given_on c.from_residual.result e c.from_residual.ensures ∙ ap (λ (x : Stop). Err x) none in
    let old = g.P.Plant.state c.args.plant.now in
    subst (λ (r : Result LineAnswer Stop). IsWorkOfStart g.P.Plant.tells old old r) (sym result) (works_none g.P.Plant.tells old (Err stops.NoMemory) c.requires.between.home tt (λ is. cc is))

pub returns-in_err-answer-clause-went : goal.returns-in_err-answer-clause-went
returns-in_err-answer-clause-went g c = went_here g.S.Source.left g.S.Source.faults c.args.traces.now (between_may_go_on g.P.Plant.tells c.args.self.now c.args.traces.now (g.P.Plant.state c.args.plant.now) c.requires.between)

pub returns-in_err-answer-clause-begins : goal.returns-in_err-answer-clause-begins
returns-in_err-answer-clause-begins g c told = begins_here c.args.self.now.session c.args.line.now (g.P.Plant.state c.args.plant.now)

pub returns-in_err-answer-clause-same : goal.returns-in_err-answer-clause-same
returns-in_err-answer-clause-same g c = record { session = ap (λ (x : SessionState). x.session) c.self.view_is; controls = ap (λ (x : SessionState). x.controls) c.self.view_is }

pub returns-in_err-answer-clause-labels : goal.returns-in_err-answer-clause-labels
returns-in_err-answer-clause-labels g c told = tt

pub returns-in_err-answer-clause-does : goal.returns-in_err-answer-clause-does
returns-in_err-answer-clause-does g c told began =
    let e = c.in_err-answer.field-0.0 in
    let none : e ≡ stops.NoMemory = told_memory c.command-done.result e (sym c.answer_of.ensures ∙ c.in_err-answer.was) in
    let result : c.from_residual.result ≡ Err stops.NoMemory = given_on c.from_residual.result e c.from_residual.ensures ∙ ap (λ (x : Stop). Err x) none in
    let old = g.P.Plant.state c.args.plant.now in
    let next : SessionState = record { session = c.self.inside.session; controls = c.self.inside.controls; names = c.self.inside.kept.names; group = c.self.inside.kept.group; table = c.command-done.new.self; site = None; is_ended = c.self.inside.ended } in
    subst (λ (r : Result LineAnswer Stop). DoesLine g.S.Source.left c.args.line.now c.args.self.now next c.args.traces.now c.args.traces.now (g.P.Plant.state began) old old r) (sym result)
    (memory_does g.P.Plant.tells g.S.Source.left c.args.self.now c.args.traces.now (g.P.Plant.state c.args.plant.now) c.requires.between c.requires.unstarted c.args.line.now told next (g.P.Plant.state began))

-- ---- the command is done or refused

-- the table that takes it is the session's
table_is : (g : given.Over) (c : After-started_level g) → c.in-Unstarted.table ≡ c.args.self.now.table
table_is g c = sym (ap table_in c.in-Unstarted.is) ∙ ap (λ (x : SessionState). x.table) c.self.view_is

refused : (g : given.Over) (c : After-started_level g) → (why : Refusal) → c.command-done.result ≡ Err (errors.Refused why) → refusal c.self.inside.kept.names c.in-Unstarted.table c.args.line.now.session c.args.line.now.command ≡ Some why
refused g c why is = (c.command-done.ensures.refused why).0 is

same : (g : given.Over) (c : After-started_level g) → answer_said c.command-done.result ≡ Ok c.in_ok-answer.answer
same g c = sym c.answer_of.ensures ∙ c.in_ok-answer.was

told : (g : given.Over) (c : After-started_level g) → c.in_ok-answer.answer ≡ answer c.self.inside.kept.names c.args.self.now.table c.args.line.now.session c.args.line.now.command
told g c = answer_is c.self.inside.kept.names c.args.self.now c.in-Unstarted.table c.command-done.new.self c.args.line.now c.command-done.result c.in_ok-answer.answer (table_is g c) c.command-done.ensures.change (refused g c) (same g c)

-- the table after it
after : (g : given.Over) (c : After-started_level g) → c.command-done.new.self ≡ table_after c.self.inside.kept.names c.args.self.now.table c.args.line.now.session c.args.line.now.command c.args.line.now.time.0
after g c = table_now c.self.inside.kept.names c.args.self.now c.in-Unstarted.table c.command-done.new.self c.args.line.now c.command-done.result c.in_ok-answer.answer (table_is g c) c.command-done.ensures.change (refused g c) (same g c) c.command-done.ensures.ok c.command-done.ensures.err

-- ---- the line starts nothing

-- the session is as before but for the table
abbrev now : (g : given.Over) (c : After-started_level g) → SessionState
now g c = record { session = c.self.inside.session; controls = c.self.inside.controls; names = c.self.inside.kept.names; group = c.self.inside.kept.group; table = c.command-done.new.self; site = None; is_ended = c.self.inside.ended }

now_is : (g : given.Over) (c : After-started_level g) → now g c ≡ record c.args.self.now { table = table_after c.self.inside.kept.names c.args.self.now.table c.args.line.now.session c.args.line.now.command c.args.line.now.time.0 }
now_is g c = kept_but_table _ c.args.self.now c.command-done.new.self c.self.view_is c.requires.unstarted ∙ ap (λ (t : Table). record c.args.self.now { table = t }) (after g c)

none : (g : given.Over) (c : In_default-started_level g) → (answered : LineAnswer) → answered.answer ≡ c.in_ok-answer.answer → level_in answered.answer c.args.line.now.command ≡ None
none g c answered is = ap (λ (r : Result Change Refusal). level_in r c.args.line.now.command) is ∙ sym c.started_level.ensures ∙ c.in_default-started_level.is

pub returns-in_default-started_level-clause-done : goal.returns-in_default-started_level-clause-done
returns-in_default-started_level-clause-done g c =
    let at = goal.at.returns-in_default-started_level-clause-done g c in
    let f = at.After-started_level in
    let d = at.In_default-started_level in
    refused_done g.P.Plant.tells g.S.Source.left c.args.self.now c.args.traces.now (g.P.Plant.state c.args.plant.now) c.requires.between c.requires.unstarted c.args.line.now c.self.inside.kept.names c.plain.result (c.plain.ensures.0 ∙ told g f) (none g d c.plain.result c.plain.ensures.0) (now g f) (now_is g f)

pub returns-in_default-started_level-clause-works : goal.returns-in_default-started_level-clause-works
returns-in_default-started_level-clause-works g c = works_none g.P.Plant.tells (g.P.Plant.state c.args.plant.now) (Ok c.plain.result) c.requires.between.home tt (λ is. cc is)

pub returns-in_default-started_level-clause-went : goal.returns-in_default-started_level-clause-went
returns-in_default-started_level-clause-went g c = went_here g.S.Source.left g.S.Source.faults c.args.traces.now (between_may_go_on g.P.Plant.tells c.args.self.now c.args.traces.now (g.P.Plant.state c.args.plant.now) c.requires.between)

pub returns-in_default-started_level-clause-lanes : goal.returns-in_default-started_level-clause-lanes
returns-in_default-started_level-clause-lanes g c = same_lanes_here c.args.traces.now (between_may_go_on g.P.Plant.tells c.args.self.now c.args.traces.now (g.P.Plant.state c.args.plant.now) c.requires.between)

pub returns-in_default-started_level-clause-hits : goal.returns-in_default-started_level-clause-hits
returns-in_default-started_level-clause-hits g c =
    let at = goal.at.returns-in_default-started_level-clause-hits g c in
    let f = at.After-started_level in
    let d = at.In_default-started_level in
    let old = g.P.Plant.state c.args.plant.now in
    subst (λ (x : SessionState). SuspendsByCounts c.args.self.now.table.rows x.table.rows old old) (sym (refused_same g.P.Plant.tells g.S.Source.left c.args.self.now c.args.traces.now (g.P.Plant.state c.args.plant.now) c.requires.between c.requires.unstarted c.args.line.now c.self.inside.kept.names c.plain.result (c.plain.ensures.0 ∙ told g f) (none g d c.plain.result c.plain.ensures.0) (now g f) (now_is g f))) (suspends_same c.args.self.now.table.rows old old)

pub returns-in_default-started_level-clause-begins : goal.returns-in_default-started_level-clause-begins
returns-in_default-started_level-clause-begins g c told = begins_here c.args.self.now.session c.args.line.now (g.P.Plant.state c.args.plant.now)

pub returns-in_default-started_level-clause-means : goal.returns-in_default-started_level-clause-means
returns-in_default-started_level-clause-means g c tells =
    let at = goal.at.returns-in_default-started_level-clause-means g c in
    let f = at.After-started_level in
    let d = at.In_default-started_level in
    let old = g.P.Plant.state c.args.plant.now in
    subst (λ (o : Option Level). IfSome o (λ level. StandsAfterStart c.args.self.now.session level c.args.line.now.time.0 old old)) (sym (none_starts g.P.Plant.tells g.S.Source.left c.args.self.now c.args.traces.now (g.P.Plant.state c.args.plant.now) c.requires.between c.requires.unstarted c.args.line.now c.self.inside.kept.names c.plain.result (c.plain.ensures.0 ∙ told g f) (none g d c.plain.result c.plain.ensures.0) (now g f) (now_is g f))) tt

pub returns-in_default-started_level-clause-starts : goal.returns-in_default-started_level-clause-starts
returns-in_default-started_level-clause-starts g c =
    let at = goal.at.returns-in_default-started_level-clause-starts g c in
    let f = at.After-started_level in
    let d = at.In_default-started_level in
    subst (λ (o : Option Level). IfSome o (λ level. IsStartAnswered None c.args.line.now.time.0 c.plain.result)) (sym (none_starts g.P.Plant.tells g.S.Source.left c.args.self.now c.args.traces.now (g.P.Plant.state c.args.plant.now) c.requires.between c.requires.unstarted c.args.line.now c.self.inside.kept.names c.plain.result (c.plain.ensures.0 ∙ told g f) (none g d c.plain.result c.plain.ensures.0) (now g f) (now_is g f))) tt

pub returns-in_default-started_level-clause-same : goal.returns-in_default-started_level-clause-same
returns-in_default-started_level-clause-same g c = record { session = ap (λ (x : SessionState). x.session) c.self.view_is; controls = ap (λ (x : SessionState). x.controls) c.self.view_is }

pub returns-in_default-started_level-clause-labels : goal.returns-in_default-started_level-clause-labels
returns-in_default-started_level-clause-labels g c told = tt

pub returns-in_default-started_level-clause-does : goal.returns-in_default-started_level-clause-does
returns-in_default-started_level-clause-does g c tells began =
    let at = goal.at.returns-in_default-started_level-clause-does g c in
    let f = at.After-started_level in
    let d = at.In_default-started_level in
    refused_does g.P.Plant.tells g.S.Source.left c.args.self.now c.args.traces.now (g.P.Plant.state c.args.plant.now) c.requires.between c.requires.unstarted c.args.line.now c.self.inside.kept.names c.plain.result (c.plain.ensures.0 ∙ told g f) (none g d c.plain.result c.plain.ensures.0) (now g f) (now_is g f) tells (omega arith) (g.P.Plant.state began)

-- ---- it starts the session

pub start-requires-clause-between : goal.start-requires-clause-between
start-requires-clause-between g c κs within =
    begun_table g.P.Plant.tells c.args.self.now _ c.args.traces.now (g.P.Plant.state c.args.plant.now) c.requires.between c.requires.unstarted (kept_but_table _ c.args.self.now c.command-done.new.self c.self.view_is c.requires.unstarted)

pub start-requires-clause-time : goal.start-requires-clause-time
start-requires-clause-time g c κs within = c.requires.time

starts : (g : given.Over) (c : In-Some g) → level_in c.in_ok-answer.answer c.args.line.now.command ≡ Some c.in-Some.level
starts g c = sym c.started_level.ensures ∙ c.in-Some.is

-- the answer that the line gets
abbrev plain : (g : given.Over) (c : In-Some g) → LineAnswer
plain g c = record { answer = c.in_ok-answer.answer; tracks = 0 }

level : (g : given.Over) (c : In-Some g) → c.in_ok-answer.answer ≡ answer c.self.inside.kept.names c.args.self.now.table c.args.line.now.session c.args.line.now.command → level_started c.args.self.now.session c.args.line.now ≡ Some c.in-Some.level
level g c told = start_level g.P.Plant.tells g.S.Source.left c.args.self.now c.args.traces.now (g.P.Plant.state c.args.plant.now) c.requires.between c.requires.unstarted c.args.line.now c.self.inside.kept.names (plain g c) told c.in-Some.level (starts g c)

safe : (g : given.Over) (c : After-start g) → g.P.Plant.tells → IsSafeThroughout c.args.self.now.session c.in-Some.level c.args.line.now.time.0 (g.P.Plant.state c.args.plant.now) (g.P.Plant.state c.start.new.plant)
safe g c tells = subst (λ (n : List ℕ). IsSafeThroughout n c.in-Some.level c.args.line.now.time.0 (g.P.Plant.state c.args.plant.now) (g.P.Plant.state c.start.new.plant)) (ap (λ (x : SessionState). x.session) c.self.view_is) (c.start.ensures.safe tells).safe

begins : (g : given.Over) (c : After-start g) → level_started c.args.self.now.session c.args.line.now ≡ Some c.in-Some.level → g.P.Plant.tells → BeginsByLine c.args.self.now.session c.args.line.now (g.P.Plant.state c.args.plant.now) (g.P.Plant.state c.start.new.plant)
begins g c level tells = begins_start c.args.self.now.session c.args.line.now c.in-Some.level (g.P.Plant.state c.args.plant.now) (g.P.Plant.state c.start.new.plant) level c.start.ensures.works.site (c.start.ensures.works.elapses tells) (c.start.ensures.works.silent tells) g.P.Plant.tells tells c.start.ensures.works.volumes (safe g c tells)

same_session : (g : given.Over) (c : After-start g) → IsSameSession c.args.self.now c.start.new.self
same_session g c = record { session = c.start.ensures.same.session ∙ ap (λ (x : SessionState). x.session) c.self.view_is; controls = c.start.ensures.same.controls ∙ ap (λ (x : SessionState). x.controls) c.self.view_is }

-- ---- it can't be started

pub returns-in_err-start-clause-done : goal.returns-in_err-start-clause-done
returns-in_err-start-clause-done g c = IfOk-from_err c.from_residual-in_err-start.result _ c.from_residual-in_err-start.ensures.0

pub returns-in_err-start-clause-lanes : goal.returns-in_err-start-clause-lanes
returns-in_err-start-clause-lanes g c = IfOk-from_err c.from_residual-in_err-start.result _ c.from_residual-in_err-start.ensures.0

pub returns-in_err-start-clause-hits : goal.returns-in_err-start-clause-hits
returns-in_err-start-clause-hits g c = IfOk-from_err c.from_residual-in_err-start.result _ c.from_residual-in_err-start.ensures.0

pub returns-in_err-start-clause-means : goal.returns-in_err-start-clause-means
returns-in_err-start-clause-means g c told = IfOk-from_err c.from_residual-in_err-start.result _ c.from_residual-in_err-start.ensures.0

pub returns-in_err-start-clause-starts : goal.returns-in_err-start-clause-starts
returns-in_err-start-clause-starts g c = IfOk-from_err c.from_residual-in_err-start.result _ c.from_residual-in_err-start.ensures.0

pub returns-in_err-start-clause-works : goal.returns-in_err-start-clause-works
returns-in_err-start-clause-works g c =
    let e = c.in_err-start.field-0.0 in
    let result : c.from_residual-in_err-start.result ≡ Err e = given_on c.from_residual-in_err-start.result e c.from_residual-in_err-start.ensures in
    subst (λ (r : Result LineAnswer Stop). IsWorkOfStart g.P.Plant.tells (g.P.Plant.state c.args.plant.now) (g.P.Plant.state c.start.new.plant) r) (sym result) (works_err {T = Unit {0}} {U = LineAnswer} g.P.Plant.tells (g.P.Plant.state c.args.plant.now) (g.P.Plant.state c.start.new.plant) e c.in_err-start.ensures.works)

pub returns-in_err-start-clause-went : goal.returns-in_err-start-clause-went
returns-in_err-start-clause-went g c = c.start.ensures.went

pub returns-in_err-start-clause-begins : goal.returns-in_err-start-clause-begins
returns-in_err-start-clause-begins g c tells =
    let at = goal.at.returns-in_err-start-clause-begins g c in
    begins g at.After-start (level g at.In-Some (told g at.After-started_level)) tells

pub returns-in_err-start-clause-same : goal.returns-in_err-start-clause-same
returns-in_err-start-clause-same g c = same_session g (goal.at.returns-in_err-start-clause-same g c).After-start

pub returns-in_err-start-clause-labels : goal.returns-in_err-start-clause-labels
returns-in_err-start-clause-labels g c told = c.start.ensures.labels told

pub returns-in_err-start-clause-does : goal.returns-in_err-start-clause-does
returns-in_err-start-clause-does g c tells began =
    let e = c.in_err-start.field-0.0 in
    let result : c.from_residual-in_err-start.result ≡ Err e = given_on c.from_residual-in_err-start.result e c.from_residual-in_err-start.ensures in
    let at = goal.at.returns-in_err-start-clause-does g c in
    subst (λ (r : Result LineAnswer Stop). DoesLine g.S.Source.left c.args.line.now c.args.self.now c.start.new.self c.args.traces.now c.start.new.traces (g.P.Plant.state began) (g.P.Plant.state c.args.plant.now) (g.P.Plant.state c.start.new.plant) r) (sym result)
    (start_stops g.P.Plant.tells g.S.Source.left c.args.self.now c.args.traces.now (g.P.Plant.state c.args.plant.now) c.requires.between c.requires.unstarted c.args.line.now c.self.inside.kept.names (plain g at.In-Some) (told g at.After-started_level) c.in-Some.level (starts g at.In-Some) c.start.new.self c.start.new.traces (g.P.Plant.state c.start.new.plant) c.start.ensures.works.site c.start.ensures.works.elapses c.start.ensures.works.silent c.start.ensures.works.volumes tells e
    (λ spent. c.in_err-start.ensures.works.spent tells (ap (λ (x : Stop). Err x) spent))
    (λ spent.
    subst (λ (n : List ℕ). AtNow (MeansStart n c.in-Some.level c.args.line.now.time.0 (g.P.Plant.state c.args.plant.now)) (g.P.Plant.state c.start.new.plant)) (ap (λ (x : SessionState). x.session) c.self.view_is)
    ((c.in_err-start.ensures.safe tells).spent (ap (λ (x : Stop). Err x) spent)))
    (g.P.Plant.state began))

-- ---- it has started

started : (g : given.Over) (c : In_ok-start g) → IsStartedAt c.in-Some.level c.args.line.now.time.0 c.args.self.now c.start.new.self
started g c =
    started_since c.in-Some.level c.args.line.now.time.0 c.args.self.now _ c.start.new.self (ap (λ (x : SessionState). x.session) c.self.view_is) (ap (λ (x : SessionState). x.controls) c.self.view_is) c.in_ok-start.ensures.started

pub returns-clause-done : goal.returns-clause-done
returns-clause-done g c =
    let at = goal.at.returns-clause-done g c in
    started_done g.P.Plant.tells c.args.self.now c.start.new.self c.start.new.traces (g.P.Plant.state c.start.new.plant) c.args.line.now c.in-Some.level c.plain-2.result c.in_ok-start.ensures.between c.requires.unstarted (started g at.In_ok-start) (level g at.In-Some (told g at.After-started_level))

pub returns-clause-works : goal.returns-clause-works
returns-clause-works g c = works_ok {T = Unit {0}} {U = LineAnswer} g.P.Plant.tells (g.P.Plant.state c.args.plant.now) (g.P.Plant.state c.start.new.plant) tt c.plain-2.result c.in_ok-start.ensures.works

pub returns-clause-went : goal.returns-clause-went
returns-clause-went g c = c.start.ensures.went

pub returns-clause-lanes : goal.returns-clause-lanes
returns-clause-lanes g c = c.in_ok-start.ensures.lanes

pub returns-clause-hits : goal.returns-clause-hits
returns-clause-hits g c =
    let at = goal.at.returns-clause-hits g c in
    none_suspended g.P.Plant.tells c.args.self.now c.start.new.self c.start.new.traces c.in-Some.level c.args.line.now.time.0 (g.P.Plant.state c.args.plant.now) (g.P.Plant.state c.start.new.plant) c.in_ok-start.ensures.between (started g at.In_ok-start) c.args.self.now.table.rows

pub returns-clause-begins : goal.returns-clause-begins
returns-clause-begins g c tells =
    let at = goal.at.returns-clause-begins g c in
    begins g at.After-start (level g at.In-Some (told g at.After-started_level)) tells

pub returns-clause-means : goal.returns-clause-means
returns-clause-means g c tells =
    let at = goal.at.returns-clause-means g c in
    let old = g.P.Plant.state c.args.plant.now in
    let new = g.P.Plant.state c.start.new.plant in
    subst (λ (o : Option Level). IfSome o (λ l. StandsAfterStart c.args.self.now.session l c.args.line.now.time.0 old new)) (sym (level g at.In-Some (told g at.After-started_level)))
    (record {
      means = (means_begun g.P.Plant.tells c.args.self.now c.start.new.self c.start.new.traces c.in-Some.level c.args.line.now.time.0 (g.P.Plant.state c.args.plant.now) (g.P.Plant.state c.start.new.plant) c.in_ok-start.ensures.between (started g at.In_ok-start) tells c.start.ensures.works.site);
      formats = λ up durable.
          subst (λ (n : List ℕ). FormatsFirst n c.in-Some.level c.args.line.now.time.0 old new new.clock) (ap (λ (x : SessionState). x.session) c.self.view_is) ((c.in_ok-start.ensures.safe tells).formats up durable);
    })

pub returns-clause-starts : goal.returns-clause-starts
returns-clause-starts g c =
    let at = goal.at.returns-clause-starts g c in
    start_answered g.P.Plant.tells c.args.self.now c.start.new.self c.start.new.traces c.in-Some.level c.args.line.now.time.0 (g.P.Plant.state c.args.plant.now) (g.P.Plant.state c.start.new.plant) c.in_ok-start.ensures.between (started g at.In_ok-start) c.args.line.now c.plain-2.result (level g at.In-Some (told g at.After-started_level)) refl (c.plain-2.ensures.0 ∙ level_in_done c.in_ok-answer.answer c.args.line.now.command c.in-Some.level (starts g at.In-Some)) c.plain-2.ensures.1

pub returns-clause-same : goal.returns-clause-same
returns-clause-same g c = same_session g (goal.at.returns-clause-same g c).After-start

pub returns-clause-labels : goal.returns-clause-labels
returns-clause-labels g c told = c.start.ensures.labels told

pub returns-clause-does : goal.returns-clause-does
returns-clause-does g c tells began =
    let at = goal.at.returns-clause-does g c in
    let starts_it = ap (λ (r : Result Change Refusal). level_in r c.args.line.now.command) c.plain-2.ensures.0 ∙ starts g at.In-Some in
    start_does g.P.Plant.tells g.S.Source.left c.args.self.now c.args.traces.now (g.P.Plant.state c.args.plant.now) c.requires.between c.requires.unstarted c.args.line.now c.self.inside.kept.names c.plain-2.result (c.plain-2.ensures.0 ∙ told g at.After-started_level) c.in-Some.level starts_it c.start.new.self c.start.new.traces (g.P.Plant.state c.start.new.plant) c.start.ensures.works.site c.start.ensures.works.elapses c.start.ensures.works.silent c.start.ensures.works.volumes tells (omega arith) (g.P.Plant.state began)
    c.in_ok-start.ensures.between (started g at.In_ok-start) (λ d. c.start.ensures.works.counts.later (Volume d)) (λ run over counts. c.in_ok-start.ensures.stands tells began run over counts)
