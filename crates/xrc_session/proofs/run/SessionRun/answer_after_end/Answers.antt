-- A line is answered once the session has ended.
use Rattle.std.proofs.Common.{arith}
use Rattle.xrc_session.proofs.LinesOfEnd.{end_at, end_does_line, end_done, end_flag, end_hits, end_keeps, end_kept, end_may, end_same, end_silent, site_ended}
use Rattle.xrc_session.proofs.LinesPlaces.{never_unstarted, session_at}
use Rattle.xrc_session.proofs.run.SessionRun.answer_after_end.Goals as goal

pub prove-unreachable-requires : goal.prove-unreachable-requires
prove-unreachable-requires g c = absurd (omega arith)

pub unreachable-prove : goal.unreachable-prove
unreachable-prove g c = c.prove-unreachable.result

pub unreachable-unreachable : goal.unreachable-unreachable
unreachable-unreachable g c = c.unreachable.result

pub unreachable-requires : goal.unreachable-requires
unreachable-requires g c = never_unstarted c.self.inside.session c.self.inside.controls c.self.inside.kept c.self.inside.place c.self.inside.ended c.args.self.now c.in_default.field-0 c.in_default.is c.self.view_is c.requires.started

pub answer-requires-clause-may : goal.answer-requires-clause-may
answer-requires-clause-may g c κs within =
    let same = session_at c.self.inside.session c.self.inside.controls c.self.inside.kept c.self.inside.place c.self.inside.ended c.args.self.now c.in-Started.site c.in-Started.is c.self.view_is in
    end_may g.P.Plant.tells c.self.inside.session c.self.inside.controls c.self.inside.kept c.in-Started.site c.self.inside.ended c.args.self.now same c.args.traces.now (g.P.Plant.state c.args.plant.now) c.requires.between c.args.line.now c.requires.time c.requires.ended

pub answer-requires-clause-at : goal.answer-requires-clause-at
answer-requires-clause-at g c κs within =
    let same = session_at c.self.inside.session c.self.inside.controls c.self.inside.kept c.self.inside.place c.self.inside.ended c.args.self.now c.in-Started.site c.in-Started.is c.self.view_is in
    end_at g.P.Plant.tells c.self.inside.session c.self.inside.controls c.self.inside.kept c.in-Started.site c.self.inside.ended c.args.self.now same c.args.traces.now (g.P.Plant.state c.args.plant.now) c.requires.between c.args.line.now c.requires.time c.requires.ended

pub answer-requires-clause-kept : goal.answer-requires-clause-kept
answer-requires-clause-kept g c κs within =
    let same = session_at c.self.inside.session c.self.inside.controls c.self.inside.kept c.self.inside.place c.self.inside.ended c.args.self.now c.in-Started.site c.in-Started.is c.self.view_is in
    end_kept g.P.Plant.tells c.self.inside.session c.self.inside.controls c.self.inside.kept c.in-Started.site c.self.inside.ended c.args.self.now same c.args.traces.now (g.P.Plant.state c.args.plant.now) c.requires.between c.args.line.now c.requires.time c.requires.ended

pub answer-requires-clause-flag : goal.answer-requires-clause-flag
answer-requires-clause-flag g c κs within =
    let same = session_at c.self.inside.session c.self.inside.controls c.self.inside.kept c.self.inside.place c.self.inside.ended c.args.self.now c.in-Started.site c.in-Started.is c.self.view_is in
    end_flag g.P.Plant.tells c.self.inside.session c.self.inside.controls c.self.inside.kept c.in-Started.site c.self.inside.ended c.args.self.now same c.args.traces.now (g.P.Plant.state c.args.plant.now) c.requires.between c.args.line.now c.requires.time c.requires.ended

pub returns-clause-done : goal.returns-clause-done
returns-clause-done g c =
    let same = session_at c.self.inside.session c.self.inside.controls c.self.inside.kept c.self.inside.place c.self.inside.ended c.args.self.now c.in-Started.site c.in-Started.is c.self.view_is in
    end_done g.P.Plant.tells c.self.inside.session c.self.inside.controls c.self.inside.kept c.in-Started.site c.self.inside.ended c.args.self.now same c.args.traces.now (g.P.Plant.state c.args.plant.now) c.requires.between c.args.line.now c.requires.time c.requires.ended (g.P.Plant.state c.answer.new.plant) c.answer.new.self c.answer.new.site c.answer.result c.answer.ensures.site c.answer.ensures.names c.answer.ensures.works c.answer.ensures.kept c.answer.ensures.taken

pub returns-clause-untouched : goal.returns-clause-untouched
returns-clause-untouched g c =
    let same = session_at c.self.inside.session c.self.inside.controls c.self.inside.kept c.self.inside.place c.self.inside.ended c.args.self.now c.in-Started.site c.in-Started.is c.self.view_is in
    c.answer.ensures.after_end (site_ended g.P.Plant.tells c.self.inside.session c.self.inside.controls c.self.inside.kept c.in-Started.site c.self.inside.ended c.args.self.now same c.args.traces.now (g.P.Plant.state c.args.plant.now) c.requires.between c.args.line.now c.requires.time c.requires.ended)

pub returns-clause-keeps : goal.returns-clause-keeps
returns-clause-keeps g c =
    let same = session_at c.self.inside.session c.self.inside.controls c.self.inside.kept c.self.inside.place c.self.inside.ended c.args.self.now c.in-Started.site c.in-Started.is c.self.view_is in
    end_keeps g.P.Plant.tells c.self.inside.session c.self.inside.controls c.self.inside.kept c.in-Started.site c.self.inside.ended c.args.self.now same c.args.traces.now (g.P.Plant.state c.args.plant.now) c.requires.between c.args.line.now c.requires.time c.requires.ended (g.P.Plant.state c.answer.new.plant) c.answer.new.self c.answer.new.site c.answer.result c.answer.ensures.site c.answer.ensures.names c.answer.ensures.works

pub returns-clause-silent : goal.returns-clause-silent
returns-clause-silent g c =
    let same = session_at c.self.inside.session c.self.inside.controls c.self.inside.kept c.self.inside.place c.self.inside.ended c.args.self.now c.in-Started.site c.in-Started.is c.self.view_is in
    end_silent g.P.Plant.tells c.self.inside.session c.self.inside.controls c.self.inside.kept c.in-Started.site c.self.inside.ended c.args.self.now same c.args.traces.now (g.P.Plant.state c.args.plant.now) c.requires.between c.args.line.now c.requires.time c.requires.ended (g.P.Plant.state c.answer.new.plant) c.answer.new.self c.answer.new.site c.answer.result c.answer.ensures.site c.answer.ensures.names c.answer.ensures.works

pub returns-clause-hits : goal.returns-clause-hits
returns-clause-hits g c =
    let same = session_at c.self.inside.session c.self.inside.controls c.self.inside.kept c.self.inside.place c.self.inside.ended c.args.self.now c.in-Started.site c.in-Started.is c.self.view_is in
    end_hits g.P.Plant.tells c.self.inside.session c.self.inside.controls c.self.inside.kept c.in-Started.site c.self.inside.ended c.args.self.now same c.args.traces.now (g.P.Plant.state c.args.plant.now) c.requires.between c.args.line.now c.requires.time c.requires.ended (g.P.Plant.state c.answer.new.plant) c.answer.new.self c.answer.new.site c.answer.result c.answer.ensures.site c.answer.ensures.names c.answer.ensures.works

pub returns-clause-cause : goal.returns-clause-cause
returns-clause-cause g c = c.answer.ensures.works.cause

pub returns-clause-counts : goal.returns-clause-counts
returns-clause-counts g c = c.answer.ensures.works.counts

pub returns-clause-same : goal.returns-clause-same
returns-clause-same g c =
    let same = session_at c.self.inside.session c.self.inside.controls c.self.inside.kept c.self.inside.place c.self.inside.ended c.args.self.now c.in-Started.site c.in-Started.is c.self.view_is in
    end_same g.P.Plant.tells c.self.inside.session c.self.inside.controls c.self.inside.kept c.in-Started.site c.self.inside.ended c.args.self.now same c.args.traces.now (g.P.Plant.state c.args.plant.now) c.requires.between c.args.line.now c.requires.time c.requires.ended (g.P.Plant.state c.answer.new.plant) c.answer.new.self c.answer.new.site c.answer.result c.answer.ensures.site c.answer.ensures.names c.answer.ensures.works

pub returns-clause-does : goal.returns-clause-does
returns-clause-does g c told began =
    let same = session_at c.self.inside.session c.self.inside.controls c.self.inside.kept c.self.inside.place c.self.inside.ended c.args.self.now c.in-Started.site c.in-Started.is c.self.view_is in
    end_does_line g.P.Plant.tells c.self.inside.session c.self.inside.controls c.self.inside.kept c.in-Started.site c.self.inside.ended c.args.self.now same c.args.traces.now (g.P.Plant.state c.args.plant.now) c.requires.between c.args.line.now c.requires.time c.requires.ended (g.P.Plant.state c.answer.new.plant) c.answer.new.self c.answer.new.site c.answer.result c.answer.ensures.site c.answer.ensures.names c.answer.ensures.works g.S.Source.left (omega arith) told (g.P.Plant.state began) (c.answer.ensures.answers told began)
