-- A line is answered before the start or from it on.
use Rattle.xrc_session.proofs.Growing.{start_keeps}
use Rattle.std.proofs.Common.{refl}
use Rattle.xrc_session.proofs.LinesPlaces.{never_none, session_at, started_at, unstarted_at, unstarted_goes_on}
use Rattle.xrc_session.proofs.run.SessionRun.answer_line.Goals as goal

pub same-self : goal.same-self
same-self g c = refl

pub same-self-in-Started : goal.same-self-in-Started
same-self-in-Started g c = refl

pub answer_before_start-requires-clause-between : goal.answer_before_start-requires-clause-between
answer_before_start-requires-clause-between g c κs within = c.requires.between

pub answer_before_start-requires-clause-unstarted : goal.answer_before_start-requires-clause-unstarted
answer_before_start-requires-clause-unstarted g c κs within = unstarted_at c.self.inside.session c.self.inside.controls c.self.inside.kept c.self.inside.place c.self.inside.ended c.args.self.now c.in-Unstarted.field-0 c.in-Unstarted.is c.self.view_is

pub answer_before_start-requires-clause-time : goal.answer_before_start-requires-clause-time
answer_before_start-requires-clause-time g c κs within = c.requires.time.0

pub answer_from_start-requires-clause-between : goal.answer_from_start-requires-clause-between
answer_from_start-requires-clause-between g c κs within = c.requires.between

pub answer_from_start-requires-clause-started : goal.answer_from_start-requires-clause-started
answer_from_start-requires-clause-started g c κs within =
    let same = session_at c.self.inside.session c.self.inside.controls c.self.inside.kept c.self.inside.place c.self.inside.ended c.args.self.now c.in-Started.field-0 c.in-Started.is c.self.view_is in
    started_at c.self.inside.session c.self.inside.controls c.self.inside.kept c.in-Started.field-0 c.self.inside.ended c.args.self.now same

pub answer_from_start-requires-clause-time : goal.answer_from_start-requires-clause-time
answer_from_start-requires-clause-time g c κs within = c.requires.time

pub returns-in-Unstarted-clause-done : goal.returns-in-Unstarted-clause-done
returns-in-Unstarted-clause-done g c = c.answer_before_start.ensures.done

pub returns-in-Unstarted-clause-after_end : goal.returns-in-Unstarted-clause-after_end
returns-in-Unstarted-clause-after_end g c ended =
    let none = unstarted_at c.self.inside.session c.self.inside.controls c.self.inside.kept c.self.inside.place c.self.inside.ended c.args.self.now c.in-Unstarted.field-0 c.in-Unstarted.is c.self.view_is in
    absurd (unstarted_goes_on g.P.Plant.tells c.args.self.now c.args.traces.now (g.P.Plant.state c.args.plant.now) c.requires.between none ended)

pub returns-in-Unstarted-clause-keeps : goal.returns-in-Unstarted-clause-keeps
returns-in-Unstarted-clause-keeps g c = start_keeps _ _ _ _ c.answer_before_start.ensures.works

pub returns-in-Unstarted-clause-silent : goal.returns-in-Unstarted-clause-silent
returns-in-Unstarted-clause-silent g c = c.answer_before_start.ensures.works.silent

pub returns-in-Unstarted-clause-went : goal.returns-in-Unstarted-clause-went
returns-in-Unstarted-clause-went g c = c.answer_before_start.ensures.went

pub returns-in-Unstarted-clause-lanes : goal.returns-in-Unstarted-clause-lanes
returns-in-Unstarted-clause-lanes g c = c.answer_before_start.ensures.lanes

pub returns-in-Unstarted-clause-hits : goal.returns-in-Unstarted-clause-hits
returns-in-Unstarted-clause-hits g c = c.answer_before_start.ensures.hits

pub returns-in-Unstarted-clause-begins : goal.returns-in-Unstarted-clause-begins
returns-in-Unstarted-clause-begins g c told none = c.answer_before_start.ensures.begins told

pub returns-in-Unstarted-clause-means : goal.returns-in-Unstarted-clause-means
returns-in-Unstarted-clause-means g c told none = c.answer_before_start.ensures.means told

pub returns-in-Unstarted-clause-starts : goal.returns-in-Unstarted-clause-starts
returns-in-Unstarted-clause-starts g c none = c.answer_before_start.ensures.starts

pub returns-in-Unstarted-clause-same : goal.returns-in-Unstarted-clause-same
returns-in-Unstarted-clause-same g c = c.answer_before_start.ensures.same

pub returns-in-Unstarted-clause-labels : goal.returns-in-Unstarted-clause-labels
returns-in-Unstarted-clause-labels g c told none = c.answer_before_start.ensures.labels told

pub returns-in-Unstarted-clause-cause : goal.returns-in-Unstarted-clause-cause
returns-in-Unstarted-clause-cause g c = c.answer_before_start.ensures.works.cause

pub returns-in-Unstarted-clause-counts : goal.returns-in-Unstarted-clause-counts
returns-in-Unstarted-clause-counts g c = c.answer_before_start.ensures.works.counts

pub returns-in-Unstarted-clause-does : goal.returns-in-Unstarted-clause-does
returns-in-Unstarted-clause-does g c = c.answer_before_start.ensures.does

pub returns-in-Started-clause-done : goal.returns-in-Started-clause-done
returns-in-Started-clause-done g c = c.answer_from_start.ensures.done

pub returns-in-Started-clause-after_end : goal.returns-in-Started-clause-after_end
returns-in-Started-clause-after_end g c = c.answer_from_start.ensures.after_end

pub returns-in-Started-clause-keeps : goal.returns-in-Started-clause-keeps
returns-in-Started-clause-keeps g c = c.answer_from_start.ensures.keeps

pub returns-in-Started-clause-silent : goal.returns-in-Started-clause-silent
returns-in-Started-clause-silent g c = c.answer_from_start.ensures.silent

pub returns-in-Started-clause-went : goal.returns-in-Started-clause-went
returns-in-Started-clause-went g c = c.answer_from_start.ensures.went

pub returns-in-Started-clause-lanes : goal.returns-in-Started-clause-lanes
returns-in-Started-clause-lanes g c = c.answer_from_start.ensures.lanes

pub returns-in-Started-clause-hits : goal.returns-in-Started-clause-hits
returns-in-Started-clause-hits g c = c.answer_from_start.ensures.hits

pub returns-in-Started-clause-begins : goal.returns-in-Started-clause-begins
returns-in-Started-clause-begins g c told none =
    let same = session_at c.self.inside.session c.self.inside.controls c.self.inside.kept c.self.inside.place c.self.inside.ended c.args.self.now c.in-Started.field-0 c.in-Started.is c.self.view_is in
    absurd (never_none c.self.inside.session c.self.inside.controls c.self.inside.kept c.in-Started.field-0 c.self.inside.ended c.args.self.now same none)

pub returns-in-Started-clause-means : goal.returns-in-Started-clause-means
returns-in-Started-clause-means g c told none =
    let same = session_at c.self.inside.session c.self.inside.controls c.self.inside.kept c.self.inside.place c.self.inside.ended c.args.self.now c.in-Started.field-0 c.in-Started.is c.self.view_is in
    absurd (never_none c.self.inside.session c.self.inside.controls c.self.inside.kept c.in-Started.field-0 c.self.inside.ended c.args.self.now same none)

pub returns-in-Started-clause-starts : goal.returns-in-Started-clause-starts
returns-in-Started-clause-starts g c none =
    let same = session_at c.self.inside.session c.self.inside.controls c.self.inside.kept c.self.inside.place c.self.inside.ended c.args.self.now c.in-Started.field-0 c.in-Started.is c.self.view_is in
    absurd (never_none c.self.inside.session c.self.inside.controls c.self.inside.kept c.in-Started.field-0 c.self.inside.ended c.args.self.now same none)

pub returns-in-Started-clause-same : goal.returns-in-Started-clause-same
returns-in-Started-clause-same g c = c.answer_from_start.ensures.same

pub returns-in-Started-clause-labels : goal.returns-in-Started-clause-labels
returns-in-Started-clause-labels g c told none =
    let same = session_at c.self.inside.session c.self.inside.controls c.self.inside.kept c.self.inside.place c.self.inside.ended c.args.self.now c.in-Started.field-0 c.in-Started.is c.self.view_is in
    absurd (never_none c.self.inside.session c.self.inside.controls c.self.inside.kept c.in-Started.field-0 c.self.inside.ended c.args.self.now same none)

pub returns-in-Started-clause-cause : goal.returns-in-Started-clause-cause
returns-in-Started-clause-cause g c = c.answer_from_start.ensures.cause

pub returns-in-Started-clause-counts : goal.returns-in-Started-clause-counts
returns-in-Started-clause-counts g c = c.answer_from_start.ensures.counts

pub returns-in-Started-clause-does : goal.returns-in-Started-clause-does
returns-in-Started-clause-does g c = c.answer_from_start.ensures.does
