-- A line is answered by a session that goes on.
use Rattle.std.proofs.Common.{arith}
use Rattle.xrc_session.proofs.LinesOfTime.{done_counts, done_does, done_hits, done_keeps, done_line, done_same, done_silent, then_at, then_cause, then_counts, then_does, then_flag, then_keeps, then_kept, then_may, then_same, then_silent, time_goes, time_later, time_ready, way_cause, way_counts, way_does, way_keeps, way_same}
use Rattle.xrc_session.proofs.LinesPlaces.{never_unstarted, ok_none, on_none, session_at}
use Rattle.xrc_session.proofs.Numbered.{given_on}
use Rattle.xrc_session.proofs.run.SessionRun.answer_in_time.Goals as goal

pub prove-unreachable-requires : goal.prove-unreachable-requires
prove-unreachable-requires g c = absurd (omega arith)

pub unreachable-prove : goal.unreachable-prove
unreachable-prove g c = c.prove-unreachable.result

pub unreachable-unreachable : goal.unreachable-unreachable
unreachable-unreachable g c = c.unreachable.result

pub unreachable-requires : goal.unreachable-requires
unreachable-requires g c = never_unstarted c.self.inside.session c.self.inside.controls c.self.inside.kept c.self.inside.place c.self.inside.ended c.args.self.now c.in_default.field-0 c.in_default.is c.self.view_is c.requires.started

pub bring_to-requires-clause-ready : goal.bring_to-requires-clause-ready
bring_to-requires-clause-ready g c κs within =
    let same = session_at c.self.inside.session c.self.inside.controls c.self.inside.kept c.self.inside.place c.self.inside.ended c.args.self.now c.in-Started.site c.in-Started.is c.self.view_is in
    time_ready g.P.Plant.tells c.self.inside.session c.self.inside.controls c.self.inside.kept c.in-Started.site c.self.inside.ended c.args.self.now same c.args.traces.now (g.P.Plant.state c.args.plant.now) c.requires.between c.args.line.now c.requires.time c.requires.goes_on

pub bring_to-requires-clause-later : goal.bring_to-requires-clause-later
bring_to-requires-clause-later g c κs within =
    let same = session_at c.self.inside.session c.self.inside.controls c.self.inside.kept c.self.inside.place c.self.inside.ended c.args.self.now c.in-Started.site c.in-Started.is c.self.view_is in
    time_later g.P.Plant.tells c.self.inside.session c.self.inside.controls c.self.inside.kept c.in-Started.site c.self.inside.ended c.args.self.now same c.args.traces.now (g.P.Plant.state c.args.plant.now) c.requires.between c.args.line.now c.requires.time c.requires.goes_on

pub bring_to-requires-clause-goes_on : goal.bring_to-requires-clause-goes_on
bring_to-requires-clause-goes_on g c κs within =
    let same = session_at c.self.inside.session c.self.inside.controls c.self.inside.kept c.self.inside.place c.self.inside.ended c.args.self.now c.in-Started.site c.in-Started.is c.self.view_is in
    time_goes g.P.Plant.tells c.self.inside.session c.self.inside.controls c.self.inside.kept c.in-Started.site c.self.inside.ended c.args.self.now same c.args.traces.now (g.P.Plant.state c.args.plant.now) c.requires.between c.args.line.now c.requires.time c.requires.goes_on

-- ---- a stop on the way to the time

pub returns-in_err-bring_to-clause-done : goal.returns-in_err-bring_to-clause-done
returns-in_err-bring_to-clause-done g c = ok_none _ c.from_residual.result c.in_err-bring_to.field-0.0 (given_on c.from_residual.result c.in_err-bring_to.field-0.0 c.from_residual.ensures)

pub returns-in_err-bring_to-clause-keeps : goal.returns-in_err-bring_to-clause-keeps
returns-in_err-bring_to-clause-keeps g c =
    let same = session_at c.self.inside.session c.self.inside.controls c.self.inside.kept c.self.inside.place c.self.inside.ended c.args.self.now c.in-Started.site c.in-Started.is c.self.view_is in
    way_keeps g.P.Plant.tells c.self.inside.session c.self.inside.controls c.self.inside.kept c.in-Started.site c.self.inside.ended c.args.self.now same c.args.traces.now (g.P.Plant.state c.args.plant.now) c.requires.between c.args.line.now c.requires.time c.requires.goes_on (g.P.Plant.state c.bring_to.new.plant) c.bring_to.new.self c.bring_to.new.site c.bring_to.new.traces c.in_err-bring_to.field-0.0 c.from_residual.result (given_on c.from_residual.result c.in_err-bring_to.field-0.0 c.from_residual.ensures) c.in_err-bring_to.ensures.works

pub returns-in_err-bring_to-clause-silent : goal.returns-in_err-bring_to-clause-silent
returns-in_err-bring_to-clause-silent g c = c.in_err-bring_to.ensures.works.works.silent

pub returns-in_err-bring_to-clause-went : goal.returns-in_err-bring_to-clause-went
returns-in_err-bring_to-clause-went g c = c.in_err-bring_to.ensures.went

pub returns-in_err-bring_to-clause-lanes : goal.returns-in_err-bring_to-clause-lanes
returns-in_err-bring_to-clause-lanes g c = on_none _ c.from_residual.result c.in_err-bring_to.field-0.0 (given_on c.from_residual.result c.in_err-bring_to.field-0.0 c.from_residual.ensures)

pub returns-in_err-bring_to-clause-hits : goal.returns-in_err-bring_to-clause-hits
returns-in_err-bring_to-clause-hits g c = on_none _ c.from_residual.result c.in_err-bring_to.field-0.0 (given_on c.from_residual.result c.in_err-bring_to.field-0.0 c.from_residual.ensures)

pub returns-in_err-bring_to-clause-cause : goal.returns-in_err-bring_to-clause-cause
returns-in_err-bring_to-clause-cause g c =
    let same = session_at c.self.inside.session c.self.inside.controls c.self.inside.kept c.self.inside.place c.self.inside.ended c.args.self.now c.in-Started.site c.in-Started.is c.self.view_is in
    way_cause g.P.Plant.tells c.self.inside.session c.self.inside.controls c.self.inside.kept c.in-Started.site c.self.inside.ended c.args.self.now same c.args.traces.now (g.P.Plant.state c.args.plant.now) c.requires.between c.args.line.now c.requires.time c.requires.goes_on (g.P.Plant.state c.bring_to.new.plant) c.bring_to.new.self c.bring_to.new.site c.bring_to.new.traces c.in_err-bring_to.field-0.0 c.from_residual.result (given_on c.from_residual.result c.in_err-bring_to.field-0.0 c.from_residual.ensures) c.in_err-bring_to.ensures.works

pub returns-in_err-bring_to-clause-counts : goal.returns-in_err-bring_to-clause-counts
returns-in_err-bring_to-clause-counts g c =
    let same = session_at c.self.inside.session c.self.inside.controls c.self.inside.kept c.self.inside.place c.self.inside.ended c.args.self.now c.in-Started.site c.in-Started.is c.self.view_is in
    way_counts g.P.Plant.tells c.self.inside.session c.self.inside.controls c.self.inside.kept c.in-Started.site c.self.inside.ended c.args.self.now same c.args.traces.now (g.P.Plant.state c.args.plant.now) c.requires.between c.args.line.now c.requires.time c.requires.goes_on (g.P.Plant.state c.bring_to.new.plant) c.bring_to.new.self c.bring_to.new.site c.bring_to.new.traces c.in_err-bring_to.field-0.0 c.from_residual.result (given_on c.from_residual.result c.in_err-bring_to.field-0.0 c.from_residual.ensures) c.in_err-bring_to.ensures.works

pub returns-in_err-bring_to-clause-same : goal.returns-in_err-bring_to-clause-same
returns-in_err-bring_to-clause-same g c =
    let same = session_at c.self.inside.session c.self.inside.controls c.self.inside.kept c.self.inside.place c.self.inside.ended c.args.self.now c.in-Started.site c.in-Started.is c.self.view_is in
    way_same g.P.Plant.tells c.self.inside.session c.self.inside.controls c.self.inside.kept c.in-Started.site c.self.inside.ended c.args.self.now same c.args.traces.now (g.P.Plant.state c.args.plant.now) c.requires.between c.args.line.now c.requires.time c.requires.goes_on (g.P.Plant.state c.bring_to.new.plant) c.bring_to.new.self c.bring_to.new.site c.bring_to.new.traces c.in_err-bring_to.field-0.0 c.from_residual.result (given_on c.from_residual.result c.in_err-bring_to.field-0.0 c.from_residual.ensures) c.in_err-bring_to.ensures.works

pub returns-in_err-bring_to-clause-does : goal.returns-in_err-bring_to-clause-does
returns-in_err-bring_to-clause-does g c told began =
    let same = session_at c.self.inside.session c.self.inside.controls c.self.inside.kept c.self.inside.place c.self.inside.ended c.args.self.now c.in-Started.site c.in-Started.is c.self.view_is in
    way_does g.P.Plant.tells c.self.inside.session c.self.inside.controls c.self.inside.kept c.in-Started.site c.self.inside.ended c.args.self.now same c.args.traces.now (g.P.Plant.state c.args.plant.now) c.requires.between c.args.line.now c.requires.time c.requires.goes_on (g.P.Plant.state c.bring_to.new.plant) c.bring_to.new.self c.bring_to.new.site c.bring_to.new.traces c.in_err-bring_to.field-0.0 c.from_residual.result (given_on c.from_residual.result c.in_err-bring_to.field-0.0 c.from_residual.ensures) c.in_err-bring_to.ensures.works g.S.Source.left told (g.P.Plant.state began) (c.in_err-bring_to.ensures.brings told began)

-- ---- the command

pub answer-requires-clause-may : goal.answer-requires-clause-may
answer-requires-clause-may g c κs within =
    let same = session_at c.self.inside.session c.self.inside.controls c.self.inside.kept c.self.inside.place c.self.inside.ended c.args.self.now c.in-Started.site c.in-Started.is c.self.view_is in
    then_may g.P.Plant.tells c.self.inside.session c.self.inside.controls c.self.inside.kept c.in-Started.site c.self.inside.ended c.args.self.now same c.args.traces.now (g.P.Plant.state c.args.plant.now) c.requires.between c.args.line.now c.requires.time c.requires.goes_on (g.P.Plant.state c.bring_to.new.plant) c.bring_to.new.self c.bring_to.new.site c.bring_to.new.traces c.in_ok-bring_to.ensures.works c.in_ok-bring_to.ensures.ready c.in_ok-bring_to.ensures.cut c.in_ok-bring_to.ensures.site c.in_ok-bring_to.ensures.names c.in_ok-bring_to.ensures.same

pub answer-requires-clause-at : goal.answer-requires-clause-at
answer-requires-clause-at g c κs within =
    let same = session_at c.self.inside.session c.self.inside.controls c.self.inside.kept c.self.inside.place c.self.inside.ended c.args.self.now c.in-Started.site c.in-Started.is c.self.view_is in
    then_at g.P.Plant.tells c.self.inside.session c.self.inside.controls c.self.inside.kept c.in-Started.site c.self.inside.ended c.args.self.now same c.args.traces.now (g.P.Plant.state c.args.plant.now) c.requires.between c.args.line.now c.requires.time c.requires.goes_on (g.P.Plant.state c.bring_to.new.plant) c.bring_to.new.self c.bring_to.new.site c.bring_to.new.traces c.in_ok-bring_to.ensures.works c.in_ok-bring_to.ensures.ready c.in_ok-bring_to.ensures.cut c.in_ok-bring_to.ensures.site c.in_ok-bring_to.ensures.names c.in_ok-bring_to.ensures.same

pub answer-requires-clause-kept : goal.answer-requires-clause-kept
answer-requires-clause-kept g c κs within =
    let same = session_at c.self.inside.session c.self.inside.controls c.self.inside.kept c.self.inside.place c.self.inside.ended c.args.self.now c.in-Started.site c.in-Started.is c.self.view_is in
    then_kept g.P.Plant.tells c.self.inside.session c.self.inside.controls c.self.inside.kept c.in-Started.site c.self.inside.ended c.args.self.now same c.args.traces.now (g.P.Plant.state c.args.plant.now) c.requires.between c.args.line.now c.requires.time c.requires.goes_on (g.P.Plant.state c.bring_to.new.plant) c.bring_to.new.self c.bring_to.new.site c.bring_to.new.traces c.in_ok-bring_to.ensures.works c.in_ok-bring_to.ensures.ready c.in_ok-bring_to.ensures.cut c.in_ok-bring_to.ensures.site c.in_ok-bring_to.ensures.names c.in_ok-bring_to.ensures.same

pub answer-requires-clause-flag : goal.answer-requires-clause-flag
answer-requires-clause-flag g c κs within =
    let same = session_at c.self.inside.session c.self.inside.controls c.self.inside.kept c.self.inside.place c.self.inside.ended c.args.self.now c.in-Started.site c.in-Started.is c.self.view_is in
    then_flag g.P.Plant.tells c.self.inside.session c.self.inside.controls c.self.inside.kept c.in-Started.site c.self.inside.ended c.args.self.now same c.args.traces.now (g.P.Plant.state c.args.plant.now) c.requires.between c.args.line.now c.requires.time c.requires.goes_on (g.P.Plant.state c.bring_to.new.plant) c.bring_to.new.self c.bring_to.new.site c.bring_to.new.traces c.in_ok-bring_to.ensures.works c.in_ok-bring_to.ensures.ready c.in_ok-bring_to.ensures.cut c.in_ok-bring_to.ensures.site c.in_ok-bring_to.ensures.names c.in_ok-bring_to.ensures.same

-- ---- a stop in it

pub returns-in_err-answered-clause-done : goal.returns-in_err-answered-clause-done
returns-in_err-answered-clause-done g c = ok_none _ c.from_residual-in_err-answered.result c.in_err-answered.field-0.0 (given_on c.from_residual-in_err-answered.result c.in_err-answered.field-0.0 c.from_residual-in_err-answered.ensures)

pub returns-in_err-answered-clause-keeps : goal.returns-in_err-answered-clause-keeps
returns-in_err-answered-clause-keeps g c =
    let same = session_at c.self.inside.session c.self.inside.controls c.self.inside.kept c.self.inside.place c.self.inside.ended c.args.self.now c.in-Started.site c.in-Started.is c.self.view_is in
    then_keeps g.P.Plant.tells c.self.inside.session c.self.inside.controls c.self.inside.kept c.in-Started.site c.self.inside.ended c.args.self.now same c.args.traces.now (g.P.Plant.state c.args.plant.now) c.requires.between c.args.line.now c.requires.time c.requires.goes_on (g.P.Plant.state c.bring_to.new.plant) c.bring_to.new.self c.bring_to.new.site c.bring_to.new.traces c.in_ok-bring_to.ensures.works c.in_ok-bring_to.ensures.ready c.in_ok-bring_to.ensures.cut c.in_ok-bring_to.ensures.site c.in_ok-bring_to.ensures.names c.in_ok-bring_to.ensures.same (g.P.Plant.state c.answer.new.plant) c.answer.new.self c.answer.new.site c.answer.ensures.names c.in_err-answered.field-0.0 c.in_err-answered.ensures.works c.from_residual-in_err-answered.result (given_on c.from_residual-in_err-answered.result c.in_err-answered.field-0.0 c.from_residual-in_err-answered.ensures)

pub returns-in_err-answered-clause-silent : goal.returns-in_err-answered-clause-silent
returns-in_err-answered-clause-silent g c =
    let same = session_at c.self.inside.session c.self.inside.controls c.self.inside.kept c.self.inside.place c.self.inside.ended c.args.self.now c.in-Started.site c.in-Started.is c.self.view_is in
    then_silent g.P.Plant.tells c.self.inside.session c.self.inside.controls c.self.inside.kept c.in-Started.site c.self.inside.ended c.args.self.now same c.args.traces.now (g.P.Plant.state c.args.plant.now) c.requires.between c.args.line.now c.requires.time c.requires.goes_on (g.P.Plant.state c.bring_to.new.plant) c.bring_to.new.self c.bring_to.new.site c.bring_to.new.traces c.in_ok-bring_to.ensures.works c.in_ok-bring_to.ensures.ready c.in_ok-bring_to.ensures.cut c.in_ok-bring_to.ensures.site c.in_ok-bring_to.ensures.names c.in_ok-bring_to.ensures.same (g.P.Plant.state c.answer.new.plant) c.answer.new.self c.answer.new.site c.answer.ensures.names c.in_err-answered.field-0.0 c.in_err-answered.ensures.works c.from_residual-in_err-answered.result (given_on c.from_residual-in_err-answered.result c.in_err-answered.field-0.0 c.from_residual-in_err-answered.ensures)

pub returns-in_err-answered-clause-went : goal.returns-in_err-answered-clause-went
returns-in_err-answered-clause-went g c = c.in_ok-bring_to.ensures.went

pub returns-in_err-answered-clause-lanes : goal.returns-in_err-answered-clause-lanes
returns-in_err-answered-clause-lanes g c = on_none _ c.from_residual-in_err-answered.result c.in_err-answered.field-0.0 (given_on c.from_residual-in_err-answered.result c.in_err-answered.field-0.0 c.from_residual-in_err-answered.ensures)

pub returns-in_err-answered-clause-hits : goal.returns-in_err-answered-clause-hits
returns-in_err-answered-clause-hits g c = on_none _ c.from_residual-in_err-answered.result c.in_err-answered.field-0.0 (given_on c.from_residual-in_err-answered.result c.in_err-answered.field-0.0 c.from_residual-in_err-answered.ensures)

pub returns-in_err-answered-clause-cause : goal.returns-in_err-answered-clause-cause
returns-in_err-answered-clause-cause g c =
    let same = session_at c.self.inside.session c.self.inside.controls c.self.inside.kept c.self.inside.place c.self.inside.ended c.args.self.now c.in-Started.site c.in-Started.is c.self.view_is in
    then_cause g.P.Plant.tells c.self.inside.session c.self.inside.controls c.self.inside.kept c.in-Started.site c.self.inside.ended c.args.self.now same c.args.traces.now (g.P.Plant.state c.args.plant.now) c.requires.between c.args.line.now c.requires.time c.requires.goes_on (g.P.Plant.state c.bring_to.new.plant) c.bring_to.new.self c.bring_to.new.site c.bring_to.new.traces c.in_ok-bring_to.ensures.works c.in_ok-bring_to.ensures.ready c.in_ok-bring_to.ensures.cut c.in_ok-bring_to.ensures.site c.in_ok-bring_to.ensures.names c.in_ok-bring_to.ensures.same (g.P.Plant.state c.answer.new.plant) c.answer.new.self c.answer.new.site c.answer.ensures.names c.in_err-answered.field-0.0 c.in_err-answered.ensures.works c.from_residual-in_err-answered.result (given_on c.from_residual-in_err-answered.result c.in_err-answered.field-0.0 c.from_residual-in_err-answered.ensures)

pub returns-in_err-answered-clause-counts : goal.returns-in_err-answered-clause-counts
returns-in_err-answered-clause-counts g c =
    let same = session_at c.self.inside.session c.self.inside.controls c.self.inside.kept c.self.inside.place c.self.inside.ended c.args.self.now c.in-Started.site c.in-Started.is c.self.view_is in
    then_counts g.P.Plant.tells c.self.inside.session c.self.inside.controls c.self.inside.kept c.in-Started.site c.self.inside.ended c.args.self.now same c.args.traces.now (g.P.Plant.state c.args.plant.now) c.requires.between c.args.line.now c.requires.time c.requires.goes_on (g.P.Plant.state c.bring_to.new.plant) c.bring_to.new.self c.bring_to.new.site c.bring_to.new.traces c.in_ok-bring_to.ensures.works c.in_ok-bring_to.ensures.ready c.in_ok-bring_to.ensures.cut c.in_ok-bring_to.ensures.site c.in_ok-bring_to.ensures.names c.in_ok-bring_to.ensures.same (g.P.Plant.state c.answer.new.plant) c.answer.new.self c.answer.new.site c.answer.ensures.names c.in_err-answered.field-0.0 c.in_err-answered.ensures.works c.from_residual-in_err-answered.result (given_on c.from_residual-in_err-answered.result c.in_err-answered.field-0.0 c.from_residual-in_err-answered.ensures)

pub returns-in_err-answered-clause-same : goal.returns-in_err-answered-clause-same
returns-in_err-answered-clause-same g c =
    let same = session_at c.self.inside.session c.self.inside.controls c.self.inside.kept c.self.inside.place c.self.inside.ended c.args.self.now c.in-Started.site c.in-Started.is c.self.view_is in
    then_same g.P.Plant.tells c.self.inside.session c.self.inside.controls c.self.inside.kept c.in-Started.site c.self.inside.ended c.args.self.now same c.args.traces.now (g.P.Plant.state c.args.plant.now) c.requires.between c.args.line.now c.requires.time c.requires.goes_on (g.P.Plant.state c.bring_to.new.plant) c.bring_to.new.self c.bring_to.new.site c.bring_to.new.traces c.in_ok-bring_to.ensures.works c.in_ok-bring_to.ensures.ready c.in_ok-bring_to.ensures.cut c.in_ok-bring_to.ensures.site c.in_ok-bring_to.ensures.names c.in_ok-bring_to.ensures.same (g.P.Plant.state c.answer.new.plant) c.answer.new.self c.answer.new.site c.answer.ensures.names c.in_err-answered.field-0.0 c.in_err-answered.ensures.works c.from_residual-in_err-answered.result (given_on c.from_residual-in_err-answered.result c.in_err-answered.field-0.0 c.from_residual-in_err-answered.ensures)

pub returns-in_err-answered-clause-does : goal.returns-in_err-answered-clause-does
returns-in_err-answered-clause-does g c told began =
    let same = session_at c.self.inside.session c.self.inside.controls c.self.inside.kept c.self.inside.place c.self.inside.ended c.args.self.now c.in-Started.site c.in-Started.is c.self.view_is in
    then_does g.P.Plant.tells c.self.inside.session c.self.inside.controls c.self.inside.kept c.in-Started.site c.self.inside.ended c.args.self.now same c.args.traces.now (g.P.Plant.state c.args.plant.now) c.requires.between c.args.line.now c.requires.time c.requires.goes_on (g.P.Plant.state c.bring_to.new.plant) c.bring_to.new.self c.bring_to.new.site c.bring_to.new.traces c.in_ok-bring_to.ensures.works c.in_ok-bring_to.ensures.ready c.in_ok-bring_to.ensures.cut c.in_ok-bring_to.ensures.site c.in_ok-bring_to.ensures.names c.in_ok-bring_to.ensures.same (g.P.Plant.state c.answer.new.plant) c.answer.new.self c.answer.new.site c.answer.ensures.names c.in_err-answered.field-0.0 c.in_err-answered.ensures.works c.from_residual-in_err-answered.result (given_on c.from_residual-in_err-answered.result c.in_err-answered.field-0.0 c.from_residual-in_err-answered.ensures) g.S.Source.left (omega arith) c.in_ok-bring_to.ensures.broke told (g.P.Plant.state began) (c.in_ok-bring_to.ensures.brings told began) (c.in_err-answered.ensures.answers told began)

-- ---- done

pub returns-clause-done : goal.returns-clause-done
returns-clause-done g c =
    let same = session_at c.self.inside.session c.self.inside.controls c.self.inside.kept c.self.inside.place c.self.inside.ended c.args.self.now c.in-Started.site c.in-Started.is c.self.view_is in
    done_line g.P.Plant.tells c.self.inside.session c.self.inside.controls c.self.inside.kept c.in-Started.site c.self.inside.ended c.args.self.now same c.args.traces.now (g.P.Plant.state c.args.plant.now) c.requires.between c.args.line.now c.requires.time c.requires.goes_on (g.P.Plant.state c.bring_to.new.plant) c.bring_to.new.self c.bring_to.new.site c.bring_to.new.traces c.in_ok-bring_to.ensures.works c.in_ok-bring_to.ensures.ready c.in_ok-bring_to.ensures.cut c.in_ok-bring_to.ensures.site c.in_ok-bring_to.ensures.names c.in_ok-bring_to.ensures.same (g.P.Plant.state c.answer.new.plant) c.answer.new.self c.answer.new.site c.answer.ensures.names c.in_ok-answered.answered c.in_ok-answered.ensures.works c.in_ok-answered.ensures.site c.is_end-self-inside.result c.is_end-self-inside.ensures c.in_ok-answered.ensures.kept c.in_ok-answered.ensures.taken

pub returns-clause-keeps : goal.returns-clause-keeps
returns-clause-keeps g c =
    let same = session_at c.self.inside.session c.self.inside.controls c.self.inside.kept c.self.inside.place c.self.inside.ended c.args.self.now c.in-Started.site c.in-Started.is c.self.view_is in
    done_keeps g.P.Plant.tells c.self.inside.session c.self.inside.controls c.self.inside.kept c.in-Started.site c.self.inside.ended c.args.self.now same c.args.traces.now (g.P.Plant.state c.args.plant.now) c.requires.between c.args.line.now c.requires.time c.requires.goes_on (g.P.Plant.state c.bring_to.new.plant) c.bring_to.new.self c.bring_to.new.site c.bring_to.new.traces c.in_ok-bring_to.ensures.works c.in_ok-bring_to.ensures.ready c.in_ok-bring_to.ensures.cut c.in_ok-bring_to.ensures.site c.in_ok-bring_to.ensures.names c.in_ok-bring_to.ensures.same (g.P.Plant.state c.answer.new.plant) c.answer.new.self c.answer.new.site c.answer.ensures.names c.in_ok-answered.answered c.in_ok-answered.ensures.works c.in_ok-answered.ensures.site c.is_end-self-inside.result c.is_end-self-inside.ensures

pub returns-clause-silent : goal.returns-clause-silent
returns-clause-silent g c =
    let same = session_at c.self.inside.session c.self.inside.controls c.self.inside.kept c.self.inside.place c.self.inside.ended c.args.self.now c.in-Started.site c.in-Started.is c.self.view_is in
    done_silent g.P.Plant.tells c.self.inside.session c.self.inside.controls c.self.inside.kept c.in-Started.site c.self.inside.ended c.args.self.now same c.args.traces.now (g.P.Plant.state c.args.plant.now) c.requires.between c.args.line.now c.requires.time c.requires.goes_on (g.P.Plant.state c.bring_to.new.plant) c.bring_to.new.self c.bring_to.new.site c.bring_to.new.traces c.in_ok-bring_to.ensures.works c.in_ok-bring_to.ensures.ready c.in_ok-bring_to.ensures.cut c.in_ok-bring_to.ensures.site c.in_ok-bring_to.ensures.names c.in_ok-bring_to.ensures.same (g.P.Plant.state c.answer.new.plant) c.answer.new.self c.answer.new.site c.answer.ensures.names c.in_ok-answered.answered c.in_ok-answered.ensures.works c.in_ok-answered.ensures.site c.is_end-self-inside.result c.is_end-self-inside.ensures

pub returns-clause-went : goal.returns-clause-went
returns-clause-went g c = c.in_ok-bring_to.ensures.went

pub returns-clause-lanes : goal.returns-clause-lanes
returns-clause-lanes g c = c.in_ok-bring_to.ensures.same

pub returns-clause-hits : goal.returns-clause-hits
returns-clause-hits g c =
    let same = session_at c.self.inside.session c.self.inside.controls c.self.inside.kept c.self.inside.place c.self.inside.ended c.args.self.now c.in-Started.site c.in-Started.is c.self.view_is in
    done_hits g.P.Plant.tells c.self.inside.session c.self.inside.controls c.self.inside.kept c.in-Started.site c.self.inside.ended c.args.self.now same c.args.traces.now (g.P.Plant.state c.args.plant.now) c.requires.between c.args.line.now c.requires.time c.requires.goes_on (g.P.Plant.state c.bring_to.new.plant) c.bring_to.new.self c.bring_to.new.site c.bring_to.new.traces c.in_ok-bring_to.ensures.works c.in_ok-bring_to.ensures.ready c.in_ok-bring_to.ensures.cut c.in_ok-bring_to.ensures.site c.in_ok-bring_to.ensures.names c.in_ok-bring_to.ensures.same (g.P.Plant.state c.answer.new.plant) c.answer.new.self c.answer.new.site c.answer.ensures.names c.in_ok-answered.answered c.in_ok-answered.ensures.works c.in_ok-answered.ensures.site c.is_end-self-inside.result c.is_end-self-inside.ensures

pub returns-clause-cause : goal.returns-clause-cause
returns-clause-cause g c = tt

pub returns-clause-counts : goal.returns-clause-counts
returns-clause-counts g c =
    let same = session_at c.self.inside.session c.self.inside.controls c.self.inside.kept c.self.inside.place c.self.inside.ended c.args.self.now c.in-Started.site c.in-Started.is c.self.view_is in
    done_counts g.P.Plant.tells c.self.inside.session c.self.inside.controls c.self.inside.kept c.in-Started.site c.self.inside.ended c.args.self.now same c.args.traces.now (g.P.Plant.state c.args.plant.now) c.requires.between c.args.line.now c.requires.time c.requires.goes_on (g.P.Plant.state c.bring_to.new.plant) c.bring_to.new.self c.bring_to.new.site c.bring_to.new.traces c.in_ok-bring_to.ensures.works c.in_ok-bring_to.ensures.ready c.in_ok-bring_to.ensures.cut c.in_ok-bring_to.ensures.site c.in_ok-bring_to.ensures.names c.in_ok-bring_to.ensures.same (g.P.Plant.state c.answer.new.plant) c.answer.new.self c.answer.new.site c.answer.ensures.names c.in_ok-answered.answered c.in_ok-answered.ensures.works c.in_ok-answered.ensures.site c.is_end-self-inside.result c.is_end-self-inside.ensures

pub returns-clause-same : goal.returns-clause-same
returns-clause-same g c =
    let same = session_at c.self.inside.session c.self.inside.controls c.self.inside.kept c.self.inside.place c.self.inside.ended c.args.self.now c.in-Started.site c.in-Started.is c.self.view_is in
    done_same g.P.Plant.tells c.self.inside.session c.self.inside.controls c.self.inside.kept c.in-Started.site c.self.inside.ended c.args.self.now same c.args.traces.now (g.P.Plant.state c.args.plant.now) c.requires.between c.args.line.now c.requires.time c.requires.goes_on (g.P.Plant.state c.bring_to.new.plant) c.bring_to.new.self c.bring_to.new.site c.bring_to.new.traces c.in_ok-bring_to.ensures.works c.in_ok-bring_to.ensures.ready c.in_ok-bring_to.ensures.cut c.in_ok-bring_to.ensures.site c.in_ok-bring_to.ensures.names c.in_ok-bring_to.ensures.same (g.P.Plant.state c.answer.new.plant) c.answer.new.self c.answer.new.site c.answer.ensures.names c.in_ok-answered.answered c.in_ok-answered.ensures.works c.in_ok-answered.ensures.site c.is_end-self-inside.result c.is_end-self-inside.ensures

pub returns-clause-does : goal.returns-clause-does
returns-clause-does g c told began =
    let same = session_at c.self.inside.session c.self.inside.controls c.self.inside.kept c.self.inside.place c.self.inside.ended c.args.self.now c.in-Started.site c.in-Started.is c.self.view_is in
    done_does g.P.Plant.tells c.self.inside.session c.self.inside.controls c.self.inside.kept c.in-Started.site c.self.inside.ended c.args.self.now same c.args.traces.now (g.P.Plant.state c.args.plant.now) c.requires.between c.args.line.now c.requires.time c.requires.goes_on (g.P.Plant.state c.bring_to.new.plant) c.bring_to.new.self c.bring_to.new.site c.bring_to.new.traces c.in_ok-bring_to.ensures.works c.in_ok-bring_to.ensures.ready c.in_ok-bring_to.ensures.cut c.in_ok-bring_to.ensures.site c.in_ok-bring_to.ensures.names c.in_ok-bring_to.ensures.same (g.P.Plant.state c.answer.new.plant) c.answer.new.self c.answer.new.site c.answer.ensures.names c.in_ok-answered.answered c.in_ok-answered.ensures.works c.in_ok-answered.ensures.site c.is_end-self-inside.result c.is_end-self-inside.ensures g.S.Source.left (omega arith) c.in_ok-bring_to.ensures.broke told (g.P.Plant.state began) (c.in_ok-bring_to.ensures.brings told began) (c.in_ok-answered.ensures.answers told began)
