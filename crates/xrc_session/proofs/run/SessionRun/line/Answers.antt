-- A line is answered, and its reply is composed and said.
use Rattle.std.proofs.Common.{◌∙◌, ap, sym, subst}
use Rattle.xrc_status.specs.declared.stop.Stop.TheVariants.{NoMemory}
use Rattle.xrc_session.specs.Lines.{IsSameSession}
use Rattle.xrc_session.specs.States.{SessionState}
use Rattle.xrc_session.proofs.LinesOfReply.{answers_stopped, answers_unsaid, labels_as, part_answers, part_cause, part_counts, reply_begins, reply_between, reply_hits, reply_keeps, reply_labels, reply_same, reply_start, reply_time, reply_unheard, silent_unheard, unsaid_cause, unsaid_counts, whole_answers, whole_counts, whole_replies}
use Rattle.xrc_session.proofs.LinesPlaces.{cause_of, counts_of, on_none}
use Rattle.xrc_session.proofs.Numbered.{given_on}
use Rattle.xrc_session.proofs.run.SessionRun.line.Goals as goal

pub answer_line-requires-clause-between : goal.answer_line-requires-clause-between
answer_line-requires-clause-between g c κs within = c.requires.between

pub answer_line-requires-clause-time : goal.answer_line-requires-clause-time
answer_line-requires-clause-time g c κs within = c.requires.time

-- ---- a stop in the command

pub returns-in_err-answered-clause-between : goal.returns-in_err-answered-clause-between
returns-in_err-answered-clause-between g c = on_none _ c.from_residual.result c.in_err-answered.field-0.0 (given_on c.from_residual.result c.in_err-answered.field-0.0 c.from_residual.ensures)

pub returns-in_err-answered-clause-same : goal.returns-in_err-answered-clause-same
returns-in_err-answered-clause-same g c = c.in_err-answered.ensures.same

pub returns-in_err-answered-clause-time : goal.returns-in_err-answered-clause-time
returns-in_err-answered-clause-time g c = on_none _ c.from_residual.result c.in_err-answered.field-0.0 (given_on c.from_residual.result c.in_err-answered.field-0.0 c.from_residual.ensures)

pub returns-in_err-answered-clause-start : goal.returns-in_err-answered-clause-start
returns-in_err-answered-clause-start g c = on_none _ c.from_residual.result c.in_err-answered.field-0.0 (given_on c.from_residual.result c.in_err-answered.field-0.0 c.from_residual.ensures)

pub returns-in_err-answered-clause-labels : goal.returns-in_err-answered-clause-labels
returns-in_err-answered-clause-labels g c = c.in_err-answered.ensures.labels

pub returns-in_err-answered-clause-keeps : goal.returns-in_err-answered-clause-keeps
returns-in_err-answered-clause-keeps g c = c.in_err-answered.ensures.keeps

pub returns-in_err-answered-clause-went : goal.returns-in_err-answered-clause-went
returns-in_err-answered-clause-went g c = c.in_err-answered.ensures.went

pub returns-in_err-answered-clause-lanes : goal.returns-in_err-answered-clause-lanes
returns-in_err-answered-clause-lanes g c = on_none _ c.from_residual.result c.in_err-answered.field-0.0 (given_on c.from_residual.result c.in_err-answered.field-0.0 c.from_residual.ensures)

pub returns-in_err-answered-clause-hits : goal.returns-in_err-answered-clause-hits
returns-in_err-answered-clause-hits g c = on_none _ c.from_residual.result c.in_err-answered.field-0.0 (given_on c.from_residual.result c.in_err-answered.field-0.0 c.from_residual.ensures)

pub returns-in_err-answered-clause-answers : goal.returns-in_err-answered-clause-answers
returns-in_err-answered-clause-answers g c told began = answers_stopped g.P.Plant.tells g.S.Source.left _ c.args.self.now c.answer_line.new.self c.args.traces.now c.answer_line.new.traces (g.P.Plant.state began) (g.P.Plant.state c.args.plant.now) (g.P.Plant.state c.answer_line.new.plant) c.requires.between (λ ended. ap g.P.Plant.state (c.in_err-answered.ensures.after_end ended).0) c.in_err-answered.field-0.0 (λ ended. (c.in_err-answered.ensures.after_end ended).1) c.from_residual.result (given_on c.from_residual.result c.in_err-answered.field-0.0 c.from_residual.ensures) (c.in_err-answered.ensures.does told began)

pub returns-in_err-answered-clause-begins : goal.returns-in_err-answered-clause-begins
returns-in_err-answered-clause-begins g c = c.in_err-answered.ensures.begins

pub returns-in_err-answered-clause-replies : goal.returns-in_err-answered-clause-replies
returns-in_err-answered-clause-replies g c told none = on_none _ c.from_residual.result c.in_err-answered.field-0.0 (given_on c.from_residual.result c.in_err-answered.field-0.0 c.from_residual.ensures)

pub returns-in_err-answered-clause-unheard : goal.returns-in_err-answered-clause-unheard
returns-in_err-answered-clause-unheard g c told = silent_unheard (g.P.Plant.state c.args.plant.now) (g.P.Plant.state c.answer_line.new.plant) (c.in_err-answered.ensures.keeps.elapses told) (c.in_err-answered.ensures.silent told)

pub returns-in_err-answered-clause-cause : goal.returns-in_err-answered-clause-cause
returns-in_err-answered-clause-cause g c = cause_of (g.P.Plant.state c.args.plant.now) (g.P.Plant.state c.answer_line.new.plant) c.from_residual.result c.in_err-answered.field-0.0 (given_on c.from_residual.result c.in_err-answered.field-0.0 c.from_residual.ensures) c.in_err-answered.ensures.cause

pub returns-in_err-answered-clause-counts : goal.returns-in_err-answered-clause-counts
returns-in_err-answered-clause-counts g c = counts_of (g.P.Plant.state c.args.plant.now) (g.P.Plant.state c.answer_line.new.plant) c.from_residual.result c.in_err-answered.field-0.0 (given_on c.from_residual.result c.in_err-answered.field-0.0 c.from_residual.ensures) c.in_err-answered.ensures.counts

-- ---- no memory for the reply

pub returns-in_err-compose-clause-between : goal.returns-in_err-compose-clause-between
returns-in_err-compose-clause-between g c = on_none _ c.from_residual-in_err-compose.result NoMemory (given_on c.from_residual-in_err-compose.result NoMemory c.from_residual-in_err-compose.ensures)

pub returns-in_err-compose-clause-same : goal.returns-in_err-compose-clause-same
returns-in_err-compose-clause-same g c = subst (λ (x : SessionState). IsSameSession c.args.self.now x) (sym c.self.view_is) c.in_ok-answered.ensures.same

pub returns-in_err-compose-clause-time : goal.returns-in_err-compose-clause-time
returns-in_err-compose-clause-time g c = on_none _ c.from_residual-in_err-compose.result NoMemory (given_on c.from_residual-in_err-compose.result NoMemory c.from_residual-in_err-compose.ensures)

pub returns-in_err-compose-clause-start : goal.returns-in_err-compose-clause-start
returns-in_err-compose-clause-start g c = on_none _ c.from_residual-in_err-compose.result NoMemory (given_on c.from_residual-in_err-compose.result NoMemory c.from_residual-in_err-compose.ensures)

pub returns-in_err-compose-clause-labels : goal.returns-in_err-compose-clause-labels
returns-in_err-compose-clause-labels g c told none = labels_as c.answer_line.new.self _ (sym c.self.view_is) (g.P.Plant.state c.args.plant.now) (g.P.Plant.state c.answer_line.new.plant) (c.in_ok-answered.ensures.labels told none)

pub returns-in_err-compose-clause-keeps : goal.returns-in_err-compose-clause-keeps
returns-in_err-compose-clause-keeps g c = c.in_ok-answered.ensures.keeps

pub returns-in_err-compose-clause-went : goal.returns-in_err-compose-clause-went
returns-in_err-compose-clause-went g c = c.in_ok-answered.ensures.went

pub returns-in_err-compose-clause-lanes : goal.returns-in_err-compose-clause-lanes
returns-in_err-compose-clause-lanes g c = on_none _ c.from_residual-in_err-compose.result NoMemory (given_on c.from_residual-in_err-compose.result NoMemory c.from_residual-in_err-compose.ensures)

pub returns-in_err-compose-clause-hits : goal.returns-in_err-compose-clause-hits
returns-in_err-compose-clause-hits g c = on_none _ c.from_residual-in_err-compose.result NoMemory (given_on c.from_residual-in_err-compose.result NoMemory c.from_residual-in_err-compose.ensures)

pub returns-in_err-compose-clause-answers : goal.returns-in_err-compose-clause-answers
returns-in_err-compose-clause-answers g c told began = answers_unsaid g.P.Plant.tells g.S.Source.left _ c.args.self.now c.answer_line.new.self _ c.self.view_is c.args.traces.now c.answer_line.new.traces (g.P.Plant.state began) (g.P.Plant.state c.args.plant.now) (g.P.Plant.state c.answer_line.new.plant) c.requires.between (λ ended. ap g.P.Plant.state (c.in_ok-answered.ensures.after_end ended).0) c.in_ok-answered.answered c.from_residual-in_err-compose.result (given_on c.from_residual-in_err-compose.result NoMemory c.from_residual-in_err-compose.ensures) (c.in_ok-answered.ensures.does told began)

pub returns-in_err-compose-clause-begins : goal.returns-in_err-compose-clause-begins
returns-in_err-compose-clause-begins g c = c.in_ok-answered.ensures.begins

pub returns-in_err-compose-clause-replies : goal.returns-in_err-compose-clause-replies
returns-in_err-compose-clause-replies g c told none = on_none _ c.from_residual-in_err-compose.result NoMemory (given_on c.from_residual-in_err-compose.result NoMemory c.from_residual-in_err-compose.ensures)

pub returns-in_err-compose-clause-unheard : goal.returns-in_err-compose-clause-unheard
returns-in_err-compose-clause-unheard g c told = silent_unheard (g.P.Plant.state c.args.plant.now) (g.P.Plant.state c.answer_line.new.plant) (c.in_ok-answered.ensures.keeps.elapses told) (c.in_ok-answered.ensures.silent told)

pub returns-in_err-compose-clause-cause : goal.returns-in_err-compose-clause-cause
returns-in_err-compose-clause-cause g c = unsaid_cause (g.P.Plant.state c.args.plant.now) (g.P.Plant.state c.answer_line.new.plant) c.from_residual-in_err-compose.result (given_on c.from_residual-in_err-compose.result NoMemory c.from_residual-in_err-compose.ensures)

pub returns-in_err-compose-clause-counts : goal.returns-in_err-compose-clause-counts
returns-in_err-compose-clause-counts g c = unsaid_counts (g.P.Plant.state c.args.plant.now) (g.P.Plant.state c.answer_line.new.plant) c.in_ok-answered.answered c.from_residual-in_err-compose.result c.in_ok-answered.ensures.counts

-- ---- said whole

pub returns-in-Ok-clause-between : goal.returns-in-Ok-clause-between
returns-in-Ok-clause-between g c = reply_between g.P.Plant.tells g.S.Source.left c.args.self.now c.answer_line.new.self _ c.self.view_is c.args.traces.now c.answer_line.new.traces c.args.line.now c.in_ok-answered.answered (g.P.Plant.state c.args.plant.now) (g.P.Plant.state c.answer_line.new.plant) c.in_ok-answered.ensures.done c.in_ok-answered.ensures.keeps c.in_ok-answered.ensures.silent c.in_ok-answered.ensures.counts c.as_bytes.result.now (c.as_bytes.ensures ∙ c.in_ok-compose.ensures) (g.P.Plant.state c.say_text.new.plant) c.say_text.result c.say_text.ensures

pub returns-in-Ok-clause-same : goal.returns-in-Ok-clause-same
returns-in-Ok-clause-same g c = reply_same g.P.Plant.tells g.S.Source.left c.args.self.now c.answer_line.new.self _ c.self.view_is c.args.traces.now c.answer_line.new.traces c.args.line.now c.in_ok-answered.answered (g.P.Plant.state c.args.plant.now) (g.P.Plant.state c.answer_line.new.plant) c.in_ok-answered.ensures.done c.in_ok-answered.ensures.keeps c.in_ok-answered.ensures.silent c.in_ok-answered.ensures.counts c.as_bytes.result.now (c.as_bytes.ensures ∙ c.in_ok-compose.ensures) (g.P.Plant.state c.say_text.new.plant) c.say_text.result c.say_text.ensures

pub returns-in-Ok-clause-time : goal.returns-in-Ok-clause-time
returns-in-Ok-clause-time g c = reply_time g.P.Plant.tells g.S.Source.left c.args.self.now c.answer_line.new.self _ c.self.view_is c.args.traces.now c.answer_line.new.traces c.args.line.now c.in_ok-answered.answered (g.P.Plant.state c.args.plant.now) (g.P.Plant.state c.answer_line.new.plant) c.in_ok-answered.ensures.done c.in_ok-answered.ensures.keeps c.in_ok-answered.ensures.silent c.in_ok-answered.ensures.counts c.as_bytes.result.now (c.as_bytes.ensures ∙ c.in_ok-compose.ensures) (g.P.Plant.state c.say_text.new.plant) c.say_text.result c.say_text.ensures

pub returns-in-Ok-clause-start : goal.returns-in-Ok-clause-start
returns-in-Ok-clause-start g c = reply_start g.P.Plant.tells g.S.Source.left c.args.self.now c.answer_line.new.self _ c.self.view_is c.args.traces.now c.answer_line.new.traces c.args.line.now c.in_ok-answered.answered (g.P.Plant.state c.args.plant.now) (g.P.Plant.state c.answer_line.new.plant) c.in_ok-answered.ensures.done c.in_ok-answered.ensures.keeps c.in_ok-answered.ensures.silent c.in_ok-answered.ensures.counts c.as_bytes.result.now (c.as_bytes.ensures ∙ c.in_ok-compose.ensures) (g.P.Plant.state c.say_text.new.plant) c.say_text.result c.say_text.ensures

pub returns-in-Ok-clause-labels : goal.returns-in-Ok-clause-labels
returns-in-Ok-clause-labels g c told none = reply_labels g.P.Plant.tells g.S.Source.left c.args.self.now c.answer_line.new.self _ c.self.view_is c.args.traces.now c.answer_line.new.traces c.args.line.now c.in_ok-answered.answered (g.P.Plant.state c.args.plant.now) (g.P.Plant.state c.answer_line.new.plant) c.in_ok-answered.ensures.done c.in_ok-answered.ensures.keeps c.in_ok-answered.ensures.silent c.in_ok-answered.ensures.counts c.as_bytes.result.now (c.as_bytes.ensures ∙ c.in_ok-compose.ensures) (g.P.Plant.state c.say_text.new.plant) c.say_text.result c.say_text.ensures (c.in_ok-answered.ensures.labels told none)

pub returns-in-Ok-clause-keeps : goal.returns-in-Ok-clause-keeps
returns-in-Ok-clause-keeps g c = reply_keeps g.P.Plant.tells g.S.Source.left c.args.self.now c.answer_line.new.self _ c.self.view_is c.args.traces.now c.answer_line.new.traces c.args.line.now c.in_ok-answered.answered (g.P.Plant.state c.args.plant.now) (g.P.Plant.state c.answer_line.new.plant) c.in_ok-answered.ensures.done c.in_ok-answered.ensures.keeps c.in_ok-answered.ensures.silent c.in_ok-answered.ensures.counts c.as_bytes.result.now (c.as_bytes.ensures ∙ c.in_ok-compose.ensures) (g.P.Plant.state c.say_text.new.plant) c.say_text.result c.say_text.ensures

pub returns-in-Ok-clause-went : goal.returns-in-Ok-clause-went
returns-in-Ok-clause-went g c = c.in_ok-answered.ensures.went

pub returns-in-Ok-clause-lanes : goal.returns-in-Ok-clause-lanes
returns-in-Ok-clause-lanes g c = c.in_ok-answered.ensures.lanes

pub returns-in-Ok-clause-hits : goal.returns-in-Ok-clause-hits
returns-in-Ok-clause-hits g c = reply_hits g.P.Plant.tells g.S.Source.left c.args.self.now c.answer_line.new.self _ c.self.view_is c.args.traces.now c.answer_line.new.traces c.args.line.now c.in_ok-answered.answered (g.P.Plant.state c.args.plant.now) (g.P.Plant.state c.answer_line.new.plant) c.in_ok-answered.ensures.done c.in_ok-answered.ensures.keeps c.in_ok-answered.ensures.silent c.in_ok-answered.ensures.counts c.as_bytes.result.now (c.as_bytes.ensures ∙ c.in_ok-compose.ensures) (g.P.Plant.state c.say_text.new.plant) c.say_text.result c.say_text.ensures c.in_ok-answered.ensures.hits

pub returns-in-Ok-clause-answers : goal.returns-in-Ok-clause-answers
returns-in-Ok-clause-answers g c told began = whole_answers g.P.Plant.tells g.S.Source.left c.args.self.now c.answer_line.new.self _ c.self.view_is c.args.traces.now c.answer_line.new.traces c.args.line.now c.in_ok-answered.answered (g.P.Plant.state c.args.plant.now) (g.P.Plant.state c.answer_line.new.plant) c.in_ok-answered.ensures.done c.in_ok-answered.ensures.keeps c.in_ok-answered.ensures.silent c.in_ok-answered.ensures.counts c.as_bytes.result.now (c.as_bytes.ensures ∙ c.in_ok-compose.ensures) (g.P.Plant.state c.say_text.new.plant) c.say_text.result c.say_text.ensures told (g.P.Plant.state began) c.in_ok-answered.ensures.went.many c.requires.between (λ ended. ap g.P.Plant.state (c.in_ok-answered.ensures.after_end ended).0) (c.in_ok-answered.ensures.does told began) (c.in-Ok.ensures.whole told)

pub returns-in-Ok-clause-begins : goal.returns-in-Ok-clause-begins
returns-in-Ok-clause-begins g c told none = reply_begins g.P.Plant.tells g.S.Source.left c.args.self.now c.answer_line.new.self _ c.self.view_is c.args.traces.now c.answer_line.new.traces c.args.line.now c.in_ok-answered.answered (g.P.Plant.state c.args.plant.now) (g.P.Plant.state c.answer_line.new.plant) c.in_ok-answered.ensures.done c.in_ok-answered.ensures.keeps c.in_ok-answered.ensures.silent c.in_ok-answered.ensures.counts c.as_bytes.result.now (c.as_bytes.ensures ∙ c.in_ok-compose.ensures) (g.P.Plant.state c.say_text.new.plant) c.say_text.result c.say_text.ensures told (c.in_ok-answered.ensures.begins told none) (c.in_ok-answered.ensures.means told none)

pub returns-in-Ok-clause-replies : goal.returns-in-Ok-clause-replies
returns-in-Ok-clause-replies g c told none = whole_replies g.P.Plant.tells g.S.Source.left c.args.self.now c.answer_line.new.self _ c.self.view_is c.args.traces.now c.answer_line.new.traces c.args.line.now c.in_ok-answered.answered (g.P.Plant.state c.args.plant.now) (g.P.Plant.state c.answer_line.new.plant) c.in_ok-answered.ensures.done c.in_ok-answered.ensures.keeps c.in_ok-answered.ensures.silent c.in_ok-answered.ensures.counts c.as_bytes.result.now (c.as_bytes.ensures ∙ c.in_ok-compose.ensures) (g.P.Plant.state c.say_text.new.plant) c.say_text.result c.say_text.ensures told (c.in_ok-answered.ensures.starts none) (c.in-Ok.ensures.whole told)

pub returns-in-Ok-clause-unheard : goal.returns-in-Ok-clause-unheard
returns-in-Ok-clause-unheard g c = reply_unheard g.P.Plant.tells g.S.Source.left c.args.self.now c.answer_line.new.self _ c.self.view_is c.args.traces.now c.answer_line.new.traces c.args.line.now c.in_ok-answered.answered (g.P.Plant.state c.args.plant.now) (g.P.Plant.state c.answer_line.new.plant) c.in_ok-answered.ensures.done c.in_ok-answered.ensures.keeps c.in_ok-answered.ensures.silent c.in_ok-answered.ensures.counts c.as_bytes.result.now (c.as_bytes.ensures ∙ c.in_ok-compose.ensures) (g.P.Plant.state c.say_text.new.plant) c.say_text.result c.say_text.ensures

pub returns-in-Ok-clause-cause : goal.returns-in-Ok-clause-cause
returns-in-Ok-clause-cause g c = tt

pub returns-in-Ok-clause-counts : goal.returns-in-Ok-clause-counts
returns-in-Ok-clause-counts g c = whole_counts g.P.Plant.tells g.S.Source.left c.args.self.now c.answer_line.new.self _ c.self.view_is c.args.traces.now c.answer_line.new.traces c.args.line.now c.in_ok-answered.answered (g.P.Plant.state c.args.plant.now) (g.P.Plant.state c.answer_line.new.plant) c.in_ok-answered.ensures.done c.in_ok-answered.ensures.keeps c.in_ok-answered.ensures.silent c.in_ok-answered.ensures.counts c.as_bytes.result.now (c.as_bytes.ensures ∙ c.in_ok-compose.ensures) (g.P.Plant.state c.say_text.new.plant) c.say_text.result c.say_text.ensures c.in-Ok.ensures.cause.ok

-- ---- the console fails

pub returns-clause-between : goal.returns-clause-between
returns-clause-between g c = tt

pub returns-clause-same : goal.returns-clause-same
returns-clause-same g c = reply_same g.P.Plant.tells g.S.Source.left c.args.self.now c.answer_line.new.self _ c.self.view_is c.args.traces.now c.answer_line.new.traces c.args.line.now c.in_ok-answered.answered (g.P.Plant.state c.args.plant.now) (g.P.Plant.state c.answer_line.new.plant) c.in_ok-answered.ensures.done c.in_ok-answered.ensures.keeps c.in_ok-answered.ensures.silent c.in_ok-answered.ensures.counts c.as_bytes.result.now (c.as_bytes.ensures ∙ c.in_ok-compose.ensures) (g.P.Plant.state c.say_text.new.plant) c.say_text.result c.say_text.ensures

pub returns-clause-time : goal.returns-clause-time
returns-clause-time g c = tt

pub returns-clause-start : goal.returns-clause-start
returns-clause-start g c = tt

pub returns-clause-labels : goal.returns-clause-labels
returns-clause-labels g c told none = reply_labels g.P.Plant.tells g.S.Source.left c.args.self.now c.answer_line.new.self _ c.self.view_is c.args.traces.now c.answer_line.new.traces c.args.line.now c.in_ok-answered.answered (g.P.Plant.state c.args.plant.now) (g.P.Plant.state c.answer_line.new.plant) c.in_ok-answered.ensures.done c.in_ok-answered.ensures.keeps c.in_ok-answered.ensures.silent c.in_ok-answered.ensures.counts c.as_bytes.result.now (c.as_bytes.ensures ∙ c.in_ok-compose.ensures) (g.P.Plant.state c.say_text.new.plant) c.say_text.result c.say_text.ensures (c.in_ok-answered.ensures.labels told none)

pub returns-clause-keeps : goal.returns-clause-keeps
returns-clause-keeps g c = reply_keeps g.P.Plant.tells g.S.Source.left c.args.self.now c.answer_line.new.self _ c.self.view_is c.args.traces.now c.answer_line.new.traces c.args.line.now c.in_ok-answered.answered (g.P.Plant.state c.args.plant.now) (g.P.Plant.state c.answer_line.new.plant) c.in_ok-answered.ensures.done c.in_ok-answered.ensures.keeps c.in_ok-answered.ensures.silent c.in_ok-answered.ensures.counts c.as_bytes.result.now (c.as_bytes.ensures ∙ c.in_ok-compose.ensures) (g.P.Plant.state c.say_text.new.plant) c.say_text.result c.say_text.ensures

pub returns-clause-went : goal.returns-clause-went
returns-clause-went g c = c.in_ok-answered.ensures.went

pub returns-clause-lanes : goal.returns-clause-lanes
returns-clause-lanes g c = tt

pub returns-clause-hits : goal.returns-clause-hits
returns-clause-hits g c = tt

pub returns-clause-answers : goal.returns-clause-answers
returns-clause-answers g c told began = part_answers g.P.Plant.tells g.S.Source.left c.args.self.now c.answer_line.new.self _ c.self.view_is c.args.traces.now c.answer_line.new.traces c.args.line.now c.in_ok-answered.answered (g.P.Plant.state c.args.plant.now) (g.P.Plant.state c.answer_line.new.plant) c.in_ok-answered.ensures.done c.in_ok-answered.ensures.keeps c.in_ok-answered.ensures.silent c.in_ok-answered.ensures.counts c.as_bytes.result.now (c.as_bytes.ensures ∙ c.in_ok-compose.ensures) (g.P.Plant.state c.say_text.new.plant) c.say_text.result c.say_text.ensures told (g.P.Plant.state began) c.in_ok-answered.ensures.went.many c.requires.between (λ ended. ap g.P.Plant.state (c.in_ok-answered.ensures.after_end ended).0) (c.in_ok-answered.ensures.does told began)

pub returns-clause-begins : goal.returns-clause-begins
returns-clause-begins g c told none = reply_begins g.P.Plant.tells g.S.Source.left c.args.self.now c.answer_line.new.self _ c.self.view_is c.args.traces.now c.answer_line.new.traces c.args.line.now c.in_ok-answered.answered (g.P.Plant.state c.args.plant.now) (g.P.Plant.state c.answer_line.new.plant) c.in_ok-answered.ensures.done c.in_ok-answered.ensures.keeps c.in_ok-answered.ensures.silent c.in_ok-answered.ensures.counts c.as_bytes.result.now (c.as_bytes.ensures ∙ c.in_ok-compose.ensures) (g.P.Plant.state c.say_text.new.plant) c.say_text.result c.say_text.ensures told (c.in_ok-answered.ensures.begins told none) (c.in_ok-answered.ensures.means told none)

pub returns-clause-replies : goal.returns-clause-replies
returns-clause-replies g c told none = tt

pub returns-clause-unheard : goal.returns-clause-unheard
returns-clause-unheard g c = reply_unheard g.P.Plant.tells g.S.Source.left c.args.self.now c.answer_line.new.self _ c.self.view_is c.args.traces.now c.answer_line.new.traces c.args.line.now c.in_ok-answered.answered (g.P.Plant.state c.args.plant.now) (g.P.Plant.state c.answer_line.new.plant) c.in_ok-answered.ensures.done c.in_ok-answered.ensures.keeps c.in_ok-answered.ensures.silent c.in_ok-answered.ensures.counts c.as_bytes.result.now (c.as_bytes.ensures ∙ c.in_ok-compose.ensures) (g.P.Plant.state c.say_text.new.plant) c.say_text.result c.say_text.ensures

pub returns-clause-cause : goal.returns-clause-cause
returns-clause-cause g c = part_cause g.P.Plant.tells g.S.Source.left c.args.self.now c.answer_line.new.self _ c.self.view_is c.args.traces.now c.answer_line.new.traces c.args.line.now c.in_ok-answered.answered (g.P.Plant.state c.args.plant.now) (g.P.Plant.state c.answer_line.new.plant) c.in_ok-answered.ensures.done c.in_ok-answered.ensures.keeps c.in_ok-answered.ensures.silent c.in_ok-answered.ensures.counts c.as_bytes.result.now (c.as_bytes.ensures ∙ c.in_ok-compose.ensures) (g.P.Plant.state c.say_text.new.plant) c.say_text.result c.say_text.ensures c.in-Err.ensures.cause.failed

pub returns-clause-counts : goal.returns-clause-counts
returns-clause-counts g c = part_counts g.P.Plant.tells g.S.Source.left c.args.self.now c.answer_line.new.self _ c.self.view_is c.args.traces.now c.answer_line.new.traces c.args.line.now c.in_ok-answered.answered (g.P.Plant.state c.args.plant.now) (g.P.Plant.state c.answer_line.new.plant) c.in_ok-answered.ensures.done c.in_ok-answered.ensures.keeps c.in_ok-answered.ensures.silent c.in_ok-answered.ensures.counts c.as_bytes.result.now (c.as_bytes.ensures ∙ c.in_ok-compose.ensures) (g.P.Plant.state c.say_text.new.plant) c.say_text.result c.say_text.ensures
