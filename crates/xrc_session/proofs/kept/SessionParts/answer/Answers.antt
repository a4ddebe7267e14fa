-- A line's command is done or refused, and an end is marked.
use Rattle.std.proofs.Common.{◌≡◌, ◌∙◌, true, Result, subst, sym, true≢false}
use Rattle.std.specs.Prelude.{IfErr}
use Rattle.xrc_status.specs.declared.stop.Stop.{Stop}
use Rattle.xrc_status.specs.declared.stop.Stop.TheVariants.{NoMemory}
use Rattle.xrc_session.specs.declared.answering.LineAnswer.{LineAnswer}
use Rattle.xrc_session.specs.Answering.{AnswersCommands, MarksOn}
use Rattle.xrc_session.specs.Bringing.{IsWorkOfStore}
use Rattle.xrc_session.proofs.AnswerEnding.{end_done, end_stops}
use Rattle.xrc_session.proofs.AnswerEnds.{answered_end, answered_on, ended_work, next_ended, stopped_work, was_on}
use Rattle.xrc_session.proofs.Numbered.{given_on}
use Rattle.xrc_session.proofs.kept.SessionParts.answer.Goals as goal

-- ---- the command stops

pub returns-in_err-answered-clause-works : goal.returns-in_err-answered-clause-works
returns-in_err-answered-clause-works g c =
    let stop = c.in_err-answered.field-0.0 in
    subst (λ (r : Result LineAnswer Stop). IsWorkOfStore g.P.Plant.tells c.args.site.now c.command.new.site (g.P.Plant.state c.args.plant.now) (g.P.Plant.state c.command.new.plant) r)
    (c.in_err-answered.was ∙ sym (given_on c.from_residual.result stop c.from_residual.ensures)) c.command.ensures.works

pub returns-in_err-answered-clause-after_end : goal.returns-in_err-answered-clause-after_end
returns-in_err-answered-clause-after_end g c ended =
    let stop = c.in_err-answered.field-0.0 in
    let left = c.command.ensures.after_end ended in
    (left.0, subst (λ (r : Result LineAnswer Stop). IfErr r (λ s. s ≡ NoMemory)) (c.in_err-answered.was ∙ sym (given_on c.from_residual.result stop c.from_residual.ensures)) left.1)

pub returns-in_err-answered-clause-answers : goal.returns-in_err-answered-clause-answers
returns-in_err-answered-clause-answers g c told began =
    let stop = c.in_err-answered.field-0.0 in
    subst (λ (r : Result LineAnswer Stop). AnswersCommands c.args.line.now c.args.self.now c.command.new.self c.args.site.now c.command.new.site (g.P.Plant.state began) (g.P.Plant.state c.args.plant.now) (g.P.Plant.state c.command.new.plant) r)
    (c.in_err-answered.was ∙ sym (given_on c.from_residual.result stop c.from_residual.ensures)) (c.command.ensures.answers told began)

-- ---- it is no end

pub returns-then-not-is_end-clause-site : goal.returns-then-not-is_end-clause-site
returns-then-not-is_end-clause-site g c =
    let answered = c.in_ok-answered.answered in
    answered_on g.P.Plant.tells c.args.self.now.names c.args.line.now answered.answer c.args.site.now c.command.new.site (g.P.Plant.state c.command.new.plant) c.in_ok-answered.ensures.site c.requires.flag (sym c.is_end.ensures ∙ c.if-not-is_end.true)

pub returns-then-not-is_end-clause-taken : goal.returns-then-not-is_end-clause-taken
returns-then-not-is_end-clause-taken g c goes = c.in_ok-answered.ensures.taken

pub returns-then-not-is_end-clause-works : goal.returns-then-not-is_end-clause-works
returns-then-not-is_end-clause-works g c =
    subst (λ (r : Result LineAnswer Stop). IsWorkOfStore g.P.Plant.tells c.args.site.now c.command.new.site (g.P.Plant.state c.args.plant.now) (g.P.Plant.state c.command.new.plant) r) c.in_ok-answered.was c.command.ensures.works

pub returns-then-not-is_end-clause-after_end : goal.returns-then-not-is_end-clause-after_end
returns-then-not-is_end-clause-after_end g c ended = ((c.command.ensures.after_end ended).0, tt)

pub returns-then-not-is_end-clause-answers : goal.returns-then-not-is_end-clause-answers
returns-then-not-is_end-clause-answers g c told began =
    subst (λ (r : Result LineAnswer Stop). AnswersCommands c.args.line.now c.args.self.now c.command.new.self c.args.site.now c.command.new.site (g.P.Plant.state began) (g.P.Plant.state c.args.plant.now) (g.P.Plant.state c.command.new.plant) r)
    c.in_ok-answered.was (c.command.ensures.answers told began)

-- ---- it is marked

pub mark-requires-clause-idle : goal.mark-requires-clause-idle
mark-requires-clause-idle g c κs within = c.in_ok-answered.ensures.site.may.idle

pub mark-requires-clause-told : goal.mark-requires-clause-told
mark-requires-clause-told g c κs within = c.in_ok-answered.ensures.site.may.told

pub returns-in_err-mark-clause-works : goal.returns-in_err-mark-clause-works
returns-in_err-mark-clause-works g c =
    let stop = c.in_err-mark.field-0.0 in
    let old = g.P.Plant.state c.args.plant.now in
    let mid = g.P.Plant.state c.command.new.plant in
    let new = g.P.Plant.state c.mark.new.plant in
    let answered = c.in_ok-answered.answered in
    let stands = c.in_ok-answered.ensures.site in
    let still = stands.at_end (sym c.is_end.ensures ∙ c.if-not-is_end.false) in
    subst (λ (r : Result LineAnswer Stop). IsWorkOfStore g.P.Plant.tells c.args.site.now c.mark.new.site old new r) (sym (given_on c.from_residual-in_err-mark.result stop c.from_residual-in_err-mark.ensures))
    (stopped_work g.P.Plant.tells c.args.site.now c.command.new.site c.mark.new.site old mid new answered still.0 still.1 (stands.may.idle.may.idle ∙ sym c.requires.may.idle.may.idle)
    (subst (λ (r : Result LineAnswer Stop). IsWorkOfStore g.P.Plant.tells c.args.site.now c.command.new.site old mid r) c.in_ok-answered.was c.command.ensures.works)
    stop (subst (λ (r : Result (Unit {0}) Stop). IsWorkOfStore g.P.Plant.tells c.command.new.site c.mark.new.site mid new r) c.in_err-mark.was c.mark.ensures.works))

pub returns-in_err-mark-clause-after_end : goal.returns-in_err-mark-clause-after_end
returns-in_err-mark-clause-after_end g c ended =
    absurd (true≢false (sym ended ∙ was_on g.P.Plant.tells c.args.self.now.names c.args.line.now c.in_ok-answered.answered.answer c.args.site.now c.command.new.site (g.P.Plant.state c.command.new.plant) c.in_ok-answered.ensures.site c.requires.flag (sym c.is_end.ensures ∙ c.if-not-is_end.false)))

pub returns-in_err-mark-clause-answers : goal.returns-in_err-mark-clause-answers
returns-in_err-mark-clause-answers g c told began =
    let stop = c.in_err-mark.field-0.0 in
    let was = g.P.Plant.state began in
    let old = g.P.Plant.state c.args.plant.now in
    let mid = g.P.Plant.state c.command.new.plant in
    let new = g.P.Plant.state c.mark.new.plant in
    subst (λ (r : Result LineAnswer Stop). AnswersCommands c.args.line.now c.args.self.now c.command.new.self c.args.site.now c.mark.new.site was old new r) (sym (given_on c.from_residual-in_err-mark.result stop c.from_residual-in_err-mark.ensures))
    (end_stops g.P.Plant.tells told c.args.line.now c.args.self.now c.command.new.self c.args.site.now c.command.new.site c.mark.new.site was old mid new c.in_ok-answered.answered c.in_ok-answered.ensures.site c.requires.flag (sym c.is_end.ensures ∙ c.if-not-is_end.false)
    c.command.ensures.works.works c.mark.ensures.works.works
    (subst (λ (r : Result LineAnswer Stop). AnswersCommands c.args.line.now c.args.self.now c.command.new.self c.args.site.now c.command.new.site was old mid r) c.in_ok-answered.was (c.command.ensures.answers told began))
    stop (subst (λ (r : Result (Unit {0}) Stop). MarksOn true c.command.new.site c.mark.new.site was mid new r) c.in_err-mark.was (c.mark.ensures.marks told began)))

pub returns-clause-site : goal.returns-clause-site
returns-clause-site g c =
    answered_end g.P.Plant.tells c.args.self.now.names c.args.line.now c.in_ok-answered.answered.answer c.args.site.now c.command.new.site (g.P.Plant.state c.command.new.plant) c.in_ok-answered.ensures.site c.requires.flag (sym c.is_end.ensures ∙ c.if-not-is_end.false)
    c.mark.new.site (g.P.Plant.state c.mark.new.plant) c.in_ok-mark.ensures.site c.mark.ensures.works.works.site

pub returns-clause-kept : goal.returns-clause-kept
returns-clause-kept g c goes =
    absurd (true≢false (sym (next_ended g.P.Plant.tells c.args.self.now.names c.args.line.now c.in_ok-answered.answered.answer c.args.site.now c.command.new.site (g.P.Plant.state c.command.new.plant) c.in_ok-answered.ensures.site c.requires.flag (sym c.is_end.ensures ∙ c.if-not-is_end.false)
    c.mark.new.site (g.P.Plant.state c.mark.new.plant) c.in_ok-mark.ensures.site) ∙ goes))

pub returns-clause-taken : goal.returns-clause-taken
returns-clause-taken g c goes =
    absurd (true≢false (sym (next_ended g.P.Plant.tells c.args.self.now.names c.args.line.now c.in_ok-answered.answered.answer c.args.site.now c.command.new.site (g.P.Plant.state c.command.new.plant) c.in_ok-answered.ensures.site c.requires.flag (sym c.is_end.ensures ∙ c.if-not-is_end.false)
    c.mark.new.site (g.P.Plant.state c.mark.new.plant) c.in_ok-mark.ensures.site) ∙ goes))

pub returns-clause-works : goal.returns-clause-works
returns-clause-works g c =
    let old = g.P.Plant.state c.args.plant.now in
    let mid = g.P.Plant.state c.command.new.plant in
    let new = g.P.Plant.state c.mark.new.plant in
    let stands = c.in_ok-answered.ensures.site in
    let still = stands.at_end (sym c.is_end.ensures ∙ c.if-not-is_end.false) in
    ended_work g.P.Plant.tells c.args.site.now c.command.new.site c.mark.new.site old mid new c.in_ok-answered.answered still.0 still.1 (stands.may.idle.may.idle ∙ sym c.requires.may.idle.may.idle)
    (subst (λ (r : Result LineAnswer Stop). IsWorkOfStore g.P.Plant.tells c.args.site.now c.command.new.site old mid r) c.in_ok-answered.was c.command.ensures.works)
    (subst (λ (r : Result (Unit {0}) Stop). IsWorkOfStore g.P.Plant.tells c.command.new.site c.mark.new.site mid new r) c.in_ok-mark.was c.mark.ensures.works)

pub returns-clause-after_end : goal.returns-clause-after_end
returns-clause-after_end g c ended =
    absurd (true≢false (sym ended ∙ was_on g.P.Plant.tells c.args.self.now.names c.args.line.now c.in_ok-answered.answered.answer c.args.site.now c.command.new.site (g.P.Plant.state c.command.new.plant) c.in_ok-answered.ensures.site c.requires.flag (sym c.is_end.ensures ∙ c.if-not-is_end.false)))

pub returns-clause-answers : goal.returns-clause-answers
returns-clause-answers g c told began =
    let was = g.P.Plant.state began in
    let old = g.P.Plant.state c.args.plant.now in
    let mid = g.P.Plant.state c.command.new.plant in
    let new = g.P.Plant.state c.mark.new.plant in
    end_done g.P.Plant.tells told c.args.line.now c.args.self.now c.command.new.self c.args.site.now c.command.new.site c.mark.new.site was old mid new c.in_ok-answered.answered c.in_ok-answered.ensures.site c.requires.flag (sym c.is_end.ensures ∙ c.if-not-is_end.false)
    c.command.ensures.works.works c.mark.ensures.works.works
    (subst (λ (r : Result LineAnswer Stop). AnswersCommands c.args.line.now c.args.self.now c.command.new.self c.args.site.now c.command.new.site was old mid r) c.in_ok-answered.was (c.command.ensures.answers told began))
    c.in_ok-mark.ensures.site (subst (λ (r : Result (Unit {0}) Stop). MarksOn true c.command.new.site c.mark.new.site was mid new r) c.in_ok-mark.was (c.mark.ensures.marks told began))
