-- A line is answered from the start on: once the session has ended, or in time.
use Rattle.std.proofs.Common.{◌∙◌, refl, sym, ap, true≢false}
use Rattle.xrc_session.specs.States.{SessionState}
use Rattle.xrc_session.proofs.LinesPlaces.{lanes_here, lanes_went}
use Rattle.xrc_session.proofs.run.SessionRun.answer_from_start.Goals as goal

pub same-self : goal.same-self
same-self g c = refl

pub same-self-else-self : goal.same-self-else-self
same-self-else-self g c = refl

pub answer_after_end-requires-clause-between : goal.answer_after_end-requires-clause-between
answer_after_end-requires-clause-between g c κs within = c.requires.between

pub answer_after_end-requires-clause-started : goal.answer_after_end-requires-clause-started
answer_after_end-requires-clause-started g c κs within = c.requires.started

pub answer_after_end-requires-clause-time : goal.answer_after_end-requires-clause-time
answer_after_end-requires-clause-time g c κs within = c.requires.time

pub answer_after_end-requires-clause-ended : goal.answer_after_end-requires-clause-ended
answer_after_end-requires-clause-ended g c κs within = sym (ap (λ (s : SessionState). s.is_ended) c.self.view_is) ∙ c.if-self.true

pub answer_in_time-requires-clause-between : goal.answer_in_time-requires-clause-between
answer_in_time-requires-clause-between g c κs within = c.requires.between

pub answer_in_time-requires-clause-started : goal.answer_in_time-requires-clause-started
answer_in_time-requires-clause-started g c κs within = c.requires.started

pub answer_in_time-requires-clause-time : goal.answer_in_time-requires-clause-time
answer_in_time-requires-clause-time g c κs within = c.requires.time

pub answer_in_time-requires-clause-goes_on : goal.answer_in_time-requires-clause-goes_on
answer_in_time-requires-clause-goes_on g c κs within = sym (ap (λ (s : SessionState). s.is_ended) c.self.view_is) ∙ c.if-self.false

pub returns-then-self-clause-done : goal.returns-then-self-clause-done
returns-then-self-clause-done g c = c.answer_after_end.ensures.done

pub returns-then-self-clause-after_end : goal.returns-then-self-clause-after_end
returns-then-self-clause-after_end g c ended = c.answer_after_end.ensures.untouched

pub returns-then-self-clause-keeps : goal.returns-then-self-clause-keeps
returns-then-self-clause-keeps g c = c.answer_after_end.ensures.keeps

pub returns-then-self-clause-silent : goal.returns-then-self-clause-silent
returns-then-self-clause-silent g c = c.answer_after_end.ensures.silent

pub returns-then-self-clause-went : goal.returns-then-self-clause-went
returns-then-self-clause-went g c = lanes_went g.P.Plant.tells c.args.self.now c.args.traces.now (g.P.Plant.state c.args.plant.now) c.requires.between g.S.Source.left g.S.Source.faults

pub returns-then-self-clause-lanes : goal.returns-then-self-clause-lanes
returns-then-self-clause-lanes g c = lanes_here g.P.Plant.tells c.args.self.now c.args.traces.now (g.P.Plant.state c.args.plant.now) c.requires.between c.answer_after_end.result

pub returns-then-self-clause-hits : goal.returns-then-self-clause-hits
returns-then-self-clause-hits g c = c.answer_after_end.ensures.hits

pub returns-then-self-clause-cause : goal.returns-then-self-clause-cause
returns-then-self-clause-cause g c = c.answer_after_end.ensures.cause

pub returns-then-self-clause-counts : goal.returns-then-self-clause-counts
returns-then-self-clause-counts g c = c.answer_after_end.ensures.counts

pub returns-then-self-clause-same : goal.returns-then-self-clause-same
returns-then-self-clause-same g c = c.answer_after_end.ensures.same

pub returns-then-self-clause-does : goal.returns-then-self-clause-does
returns-then-self-clause-does g c = c.answer_after_end.ensures.does

pub returns-else-self-clause-done : goal.returns-else-self-clause-done
returns-else-self-clause-done g c = c.answer_in_time.ensures.done

pub returns-else-self-clause-after_end : goal.returns-else-self-clause-after_end
returns-else-self-clause-after_end g c ended = absurd (true≢false (sym ended ∙ sym (ap (λ (s : SessionState). s.is_ended) c.self.view_is) ∙ c.if-self.false))

pub returns-else-self-clause-keeps : goal.returns-else-self-clause-keeps
returns-else-self-clause-keeps g c = c.answer_in_time.ensures.keeps

pub returns-else-self-clause-silent : goal.returns-else-self-clause-silent
returns-else-self-clause-silent g c = c.answer_in_time.ensures.silent

pub returns-else-self-clause-went : goal.returns-else-self-clause-went
returns-else-self-clause-went g c = c.answer_in_time.ensures.went

pub returns-else-self-clause-lanes : goal.returns-else-self-clause-lanes
returns-else-self-clause-lanes g c = c.answer_in_time.ensures.lanes

pub returns-else-self-clause-hits : goal.returns-else-self-clause-hits
returns-else-self-clause-hits g c = c.answer_in_time.ensures.hits

pub returns-else-self-clause-cause : goal.returns-else-self-clause-cause
returns-else-self-clause-cause g c = c.answer_in_time.ensures.cause

pub returns-else-self-clause-counts : goal.returns-else-self-clause-counts
returns-else-self-clause-counts g c = c.answer_in_time.ensures.counts

pub returns-else-self-clause-same : goal.returns-else-self-clause-same
returns-else-self-clause-same g c = c.answer_in_time.ensures.same

pub returns-else-self-clause-does : goal.returns-else-self-clause-does
returns-else-self-clause-does g c = c.answer_in_time.ensures.does
