-- A line's command is done, or refused.
use Rattle.std.proofs.Common.{◌≡◌, ◌∙◌, ℕ, List, Result, Ok, Err, ap, arith, refl, subst, sym, true≢false}
use Rattle.std.specs.Prelude.{IfErr}
use Rattle.std.specs.Option.{option_map}
use Rattle.pair_table.specs.Tables.{AreRowsSound, Table}
use Rattle.pair_table.specs.declared.row.PairRow.{PairRow}
use Rattle.xrc_status.specs.declared.stop.Stop.{Stop}
use Rattle.xrc_status.specs.declared.stop.Stop.TheVariants.{NoMemory}
use Rattle.xrc_session.specs.declared.answering.LineAnswer.{LineAnswer}
use Rattle.xrc_session.specs.Answering.{AnswersCommands, ControlsCount, change_result, group_taken}
use Rattle.xrc_session.specs.Bringing.{IsWorkOfStore}
use Rattle.xrc_session.specs.Taking.{IsSoundForRows}
use Rattle.xrc_session.proofs.AnswerCalls.{work_done_as, work_stopped_as}
use Rattle.xrc_session.proofs.AnswerChanges.{was_goes}
use Rattle.xrc_session.proofs.AnswerDone.{changed_site, changed_work, done_from, kept_before, may_log_change, some_second}
use Rattle.xrc_session.proofs.AnswerGiven.{answers_logged, refused_in_runs, refused_keeps, refused_stands, refused_taken, refused_work, stops_in_runs, stops_work, was_done, was_refused, without_memory}
use Rattle.xrc_session.proofs.Numbered.{given_on}
use Rattle.xrc_session.proofs.kept.SessionParts.command.Goals as goal

-- ---- there is no memory for it

pub returns-in_err-answer-clause-works : goal.returns-in_err-answer-clause-works
returns-in_err-answer-clause-works g c =
    let stop = c.in_err-answer.field-0.0 in
    let site = c.command-done.new.self in
    let plant = g.P.Plant.state c.args.plant.now in
    let left = without_memory (site ≡ c.args.site.now) c.command-done.result stop (sym c.answer_of.ensures ∙ c.in_err-answer.was) c.command-done.ensures.err in
    subst (λ (r : Result LineAnswer Stop). IsWorkOfStore g.P.Plant.tells c.args.site.now site plant plant r) (sym (given_on c.from_residual.result stop c.from_residual.ensures))
    (stops_work g.P.Plant.tells c.args.line.now c.args.self.now (record c.args.self.now { before = c.copy.new.self }) c.args.site.now site plant c.requires.may c.requires.flag left.0 refl stop left.1)

pub returns-in_err-answer-clause-after_end : goal.returns-in_err-answer-clause-after_end
returns-in_err-answer-clause-after_end g c ended =
    let stop = c.in_err-answer.field-0.0 in
    let left = without_memory (c.command-done.new.self ≡ c.args.site.now) c.command-done.result stop (sym c.answer_of.ensures ∙ c.in_err-answer.was) c.command-done.ensures.err in
    (refl, subst (λ (r : Result LineAnswer Stop). IfErr r (λ s. s ≡ NoMemory)) (sym (given_on c.from_residual.result stop c.from_residual.ensures)) (sym left.1))

pub returns-in_err-answer-clause-answers : goal.returns-in_err-answer-clause-answers
returns-in_err-answer-clause-answers g c told began =
    let stop = c.in_err-answer.field-0.0 in
    let site = c.command-done.new.self in
    let plant = g.P.Plant.state c.args.plant.now in
    let left = without_memory (site ≡ c.args.site.now) c.command-done.result stop (sym c.answer_of.ensures ∙ c.in_err-answer.was) c.command-done.ensures.err in
    subst (λ (r : Result LineAnswer Stop). AnswersCommands c.args.line.now c.args.self.now (record c.args.self.now { before = c.copy.new.self }) c.args.site.now site (g.P.Plant.state began) plant plant r) (sym (given_on c.from_residual.result stop c.from_residual.ensures))
    (stops_in_runs g.P.Plant.tells c.args.line.now c.args.self.now (record c.args.self.now { before = c.copy.new.self }) c.args.site.now site plant c.requires.may c.requires.flag left.0 refl stop (g.P.Plant.state began))

-- ---- it was done

pub prove-unreachable-requires : goal.prove-unreachable-requires
prove-unreachable-requires g c = omega (arith, c.if-prove.true, c.len.ensures.count, c.len.ensures.rules.few)

pub log-requires-clause-may : goal.log-requires-clause-may
log-requires-clause-may g c κs within =
    let d = was_done c.args.self.now.names c.args.line.now c.args.site.now c.command-done.new.self c.command-done.result c.answer_of.result c.in_ok-answer.answer c.in-Ok.change c.answer_of.ensures c.in_ok-answer.was c.in-Ok.is c.command-done.ensures.ok c.command-done.ensures.answer c.command-done.ensures.to_log in
    may_log_change g.P.Plant.tells c.args.self.now.names c.args.line.now c.args.site.now c.command-done.new.self (g.P.Plant.state c.args.plant.now) c.requires.may c.in-Ok.change d.is d.done c.copy.new.self.rows.items
    (c.copy.ensures ∙ ap (λ (t : Table). t.rows) c.table.ensures.table) c.requires.at c.command-done.ensures.again (subst AreRowsSound (ap (λ (t : Table). t.rows) c.table-2.ensures.table) c.len.ensures.rules) d.to_log

pub log-requires-clause-kept : goal.log-requires-clause-kept
log-requires-clause-kept g c κs within =
    let d = was_done c.args.self.now.names c.args.line.now c.args.site.now c.command-done.new.self c.command-done.result c.answer_of.result c.in_ok-answer.answer c.in-Ok.change c.answer_of.ensures c.in_ok-answer.was c.in-Ok.is c.command-done.ensures.ok c.command-done.ensures.answer c.command-done.ensures.to_log in
    kept_before g.P.Plant.tells c.args.self.now.names c.args.line.now c.args.site.now c.command-done.new.self (g.P.Plant.state c.args.plant.now) c.requires.may c.in-Ok.change d.is d.done (ControlsCount c.args.self.now.names) c.copy.new.self.rows.items c.args.self.now.group
    (c.copy.ensures ∙ ap (λ (t : Table). t.rows) c.table.ensures.table) c.requires.kept

pub log-requires-clause-live : goal.log-requires-clause-live
log-requires-clause-live g c κs within =
    let d = was_done c.args.self.now.names c.args.line.now c.args.site.now c.command-done.new.self c.command-done.result c.answer_of.result c.in_ok-answer.answer c.in-Ok.change c.answer_of.ensures c.in_ok-answer.was c.in-Ok.is c.command-done.ensures.ok c.command-done.ensures.answer c.command-done.ensures.to_log in
    let names = c.args.self.now.names in
    let plant = g.P.Plant.state c.args.plant.now in
    let from = done_from g.P.Plant.tells names c.args.line.now c.args.site.now c.command-done.new.self plant c.requires.may c.in-Ok.change d.is d.done in
    some_second (λ group. IsSoundForRows group c.args.site.now.told) (ControlsCount names) c.args.self.now.group (c.requires.kept (was_goes names c.args.line.now c.in-Ok.change c.args.site.now c.command-done.new.self plant from))

-- ---- its change can't be logged

pub returns-in_err-tracks-in-Ok-clause-works : goal.returns-in_err-tracks-in-Ok-clause-works
returns-in_err-tracks-in-Ok-clause-works g c =
    let d = was_done c.args.self.now.names c.args.line.now c.args.site.now c.command-done.new.self c.command-done.result c.answer_of.result c.in_ok-answer.answer c.in-Ok.change c.answer_of.ensures c.in_ok-answer.was c.in-Ok.is c.command-done.ensures.ok c.command-done.ensures.answer c.command-done.ensures.to_log in
    let stop = c.in_err-tracks-in-Ok.field-0.0 in
    let old = g.P.Plant.state c.args.plant.now in
    let new = g.P.Plant.state c.log.new.plant in
    let site = c.log.new.site in
    subst (λ (r : Result LineAnswer Stop). IsWorkOfStore g.P.Plant.tells c.args.site.now site old new r) (sym (given_on c.from_residual-in_err-tracks-in-Ok.result stop c.from_residual-in_err-tracks-in-Ok.ensures))
    (work_stopped_as g.P.Plant.tells c.args.site.now site old new stop
    (changed_work g.P.Plant.tells c.args.self.now.names c.args.line.now c.args.site.now c.command-done.new.self old c.requires.may c.in-Ok.change d.is d.done site new (Err stop)
    (subst (λ (r : Result ℕ Stop). IsWorkOfStore g.P.Plant.tells c.command-done.new.self site old new r) c.in_err-tracks-in-Ok.was c.log.ensures.works)))

pub returns-in_err-tracks-in-Ok-clause-after_end : goal.returns-in_err-tracks-in-Ok-clause-after_end
returns-in_err-tracks-in-Ok-clause-after_end g c ended =
    let d = was_done c.args.self.now.names c.args.line.now c.args.site.now c.command-done.new.self c.command-done.result c.answer_of.result c.in_ok-answer.answer c.in-Ok.change c.answer_of.ensures c.in_ok-answer.was c.in-Ok.is c.command-done.ensures.ok c.command-done.ensures.answer c.command-done.ensures.to_log in
    let plant = g.P.Plant.state c.args.plant.now in
    let from = done_from g.P.Plant.tells c.args.self.now.names c.args.line.now c.args.site.now c.command-done.new.self plant c.requires.may c.in-Ok.change d.is d.done in
    absurd (true≢false (sym ended ∙ was_goes c.args.self.now.names c.args.line.now c.in-Ok.change c.args.site.now c.command-done.new.self plant from))

pub returns-in_err-tracks-in-Ok-clause-answers : goal.returns-in_err-tracks-in-Ok-clause-answers
returns-in_err-tracks-in-Ok-clause-answers g c told began =
    let d = was_done c.args.self.now.names c.args.line.now c.args.site.now c.command-done.new.self c.command-done.result c.answer_of.result c.in_ok-answer.answer c.in-Ok.change c.answer_of.ensures c.in_ok-answer.was c.in-Ok.is c.command-done.ensures.ok c.command-done.ensures.answer c.command-done.ensures.to_log in
    let stop = c.in_err-tracks-in-Ok.field-0.0 in
    let old = g.P.Plant.state c.args.plant.now in
    let new = g.P.Plant.state c.log.new.plant in
    let from = done_from g.P.Plant.tells c.args.self.now.names c.args.line.now c.args.site.now c.command-done.new.self old c.requires.may c.in-Ok.change d.is d.done in
    answers_logged c.args.line.now c.in-Ok.change c.args.self.now c.log.new.self c.args.site.now c.command-done.new.self c.log.new.site (g.P.Plant.state began) old new from c.log.result c.from_residual-in_err-tracks-in-Ok.result
    (ap (change_result c.in-Ok.change) c.in_err-tracks-in-Ok.was ∙ sym (given_on c.from_residual-in_err-tracks-in-Ok.result stop c.from_residual-in_err-tracks-in-Ok.ensures)) (c.log.ensures.answers told began)

-- ---- its change was logged

pub returns-in_ok-tracks-in-Ok-clause-site : goal.returns-in_ok-tracks-in-Ok-clause-site
returns-in_ok-tracks-in-Ok-clause-site g c =
    let d = was_done c.args.self.now.names c.args.line.now c.args.site.now c.command-done.new.self c.command-done.result c.answer_of.result c.in_ok-answer.answer c.in-Ok.change c.answer_of.ensures c.in_ok-answer.was c.in-Ok.is c.command-done.ensures.ok c.command-done.ensures.answer c.command-done.ensures.to_log in
    changed_site g.P.Plant.tells c.args.self.now.names c.args.line.now c.args.site.now c.command-done.new.self (g.P.Plant.state c.args.plant.now) c.requires.may c.in-Ok.change d.is d.done c.log.new.site (g.P.Plant.state c.log.new.plant)
    c.in_ok-tracks-in-Ok.ensures.site c.in_ok-tracks-in-Ok.ensures.quiet

pub returns-in_ok-tracks-in-Ok-clause-kept : goal.returns-in_ok-tracks-in-Ok-clause-kept
returns-in_ok-tracks-in-Ok-clause-kept g c goes = c.in_ok-tracks-in-Ok.ensures.kept

pub returns-in_ok-tracks-in-Ok-clause-taken : goal.returns-in_ok-tracks-in-Ok-clause-taken
returns-in_ok-tracks-in-Ok-clause-taken g c =
    subst (λ (rows : List PairRow). c.log.new.self.group ≡ option_map (group_taken (Ok c.in-Ok.change) rows c.log.new.site.told) c.args.self.now.group) (c.copy.ensures ∙ ap (λ (t : Table). t.rows) c.table.ensures.table ∙ sym c.requires.may.idle.same)
    c.in_ok-tracks-in-Ok.ensures.taken

pub returns-in_ok-tracks-in-Ok-clause-works : goal.returns-in_ok-tracks-in-Ok-clause-works
returns-in_ok-tracks-in-Ok-clause-works g c =
    let d = was_done c.args.self.now.names c.args.line.now c.args.site.now c.command-done.new.self c.command-done.result c.answer_of.result c.in_ok-answer.answer c.in-Ok.change c.answer_of.ensures c.in_ok-answer.was c.in-Ok.is c.command-done.ensures.ok c.command-done.ensures.answer c.command-done.ensures.to_log in
    let old = g.P.Plant.state c.args.plant.now in
    let new = g.P.Plant.state c.log.new.plant in
    let site = c.log.new.site in
    work_done_as g.P.Plant.tells c.args.site.now site old new c.in_ok-tracks-in-Ok.tracks (record { answer = Ok c.in-Ok.change; tracks = c.in_ok-tracks-in-Ok.tracks })
    (changed_work g.P.Plant.tells c.args.self.now.names c.args.line.now c.args.site.now c.command-done.new.self old c.requires.may c.in-Ok.change d.is d.done site new (Ok c.in_ok-tracks-in-Ok.tracks)
    (subst (λ (r : Result ℕ Stop). IsWorkOfStore g.P.Plant.tells c.command-done.new.self site old new r) c.in_ok-tracks-in-Ok.was c.log.ensures.works))

pub returns-in_ok-tracks-in-Ok-clause-after_end : goal.returns-in_ok-tracks-in-Ok-clause-after_end
returns-in_ok-tracks-in-Ok-clause-after_end g c ended =
    let d = was_done c.args.self.now.names c.args.line.now c.args.site.now c.command-done.new.self c.command-done.result c.answer_of.result c.in_ok-answer.answer c.in-Ok.change c.answer_of.ensures c.in_ok-answer.was c.in-Ok.is c.command-done.ensures.ok c.command-done.ensures.answer c.command-done.ensures.to_log in
    let plant = g.P.Plant.state c.args.plant.now in
    let from = done_from g.P.Plant.tells c.args.self.now.names c.args.line.now c.args.site.now c.command-done.new.self plant c.requires.may c.in-Ok.change d.is d.done in
    absurd (true≢false (sym ended ∙ was_goes c.args.self.now.names c.args.line.now c.in-Ok.change c.args.site.now c.command-done.new.self plant from))

pub returns-in_ok-tracks-in-Ok-clause-answers : goal.returns-in_ok-tracks-in-Ok-clause-answers
returns-in_ok-tracks-in-Ok-clause-answers g c told began =
    let d = was_done c.args.self.now.names c.args.line.now c.args.site.now c.command-done.new.self c.command-done.result c.answer_of.result c.in_ok-answer.answer c.in-Ok.change c.answer_of.ensures c.in_ok-answer.was c.in-Ok.is c.command-done.ensures.ok c.command-done.ensures.answer c.command-done.ensures.to_log in
    let old = g.P.Plant.state c.args.plant.now in
    let new = g.P.Plant.state c.log.new.plant in
    let from = done_from g.P.Plant.tells c.args.self.now.names c.args.line.now c.args.site.now c.command-done.new.self old c.requires.may c.in-Ok.change d.is d.done in
    answers_logged c.args.line.now c.in-Ok.change c.args.self.now c.log.new.self c.args.site.now c.command-done.new.self c.log.new.site (g.P.Plant.state began) old new from c.log.result (Ok (record { answer = Ok c.in-Ok.change; tracks = c.in_ok-tracks-in-Ok.tracks }))
    (ap (change_result c.in-Ok.change) c.in_ok-tracks-in-Ok.was) (c.log.ensures.answers told began)

-- ---- it was refused

pub returns-in-Err-clause-site : goal.returns-in-Err-clause-site
returns-in-Err-clause-site g c =
    let d = was_refused c.args.self.now.names c.args.line.now c.args.site.now c.command-done.new.self c.command-done.result c.answer_of.result c.in_ok-answer.answer c.in-Err.why c.answer_of.ensures c.in_ok-answer.was c.in-Err.is c.command-done.ensures.err c.command-done.ensures.refused in
    refused_stands g.P.Plant.tells c.args.line.now c.args.self.now (record c.args.self.now { before = c.copy.new.self }) c.args.site.now c.command-done.new.self (g.P.Plant.state c.args.plant.now) c.requires.may c.requires.flag d.same refl c.in-Err.why d.refused c.plain.result (λ i. record { answer = c.plain.ensures.0 i; tracks = c.plain.ensures.1 i })

pub returns-in-Err-clause-kept : goal.returns-in-Err-clause-kept
returns-in-Err-clause-kept g c =
    let d = was_refused c.args.self.now.names c.args.line.now c.args.site.now c.command-done.new.self c.command-done.result c.answer_of.result c.in_ok-answer.answer c.in-Err.why c.answer_of.ensures c.in_ok-answer.was c.in-Err.is c.command-done.ensures.err c.command-done.ensures.refused in
    refused_keeps g.P.Plant.tells c.args.line.now c.args.self.now (record c.args.self.now { before = c.copy.new.self }) c.args.site.now c.command-done.new.self (g.P.Plant.state c.args.plant.now) c.requires.may c.requires.flag d.same refl c.in-Err.why d.refused c.plain.result (λ i. record { answer = c.plain.ensures.0 i; tracks = c.plain.ensures.1 i }) (ControlsCount c.args.self.now.names) c.requires.kept

pub returns-in-Err-clause-taken : goal.returns-in-Err-clause-taken
returns-in-Err-clause-taken g c =
    let d = was_refused c.args.self.now.names c.args.line.now c.args.site.now c.command-done.new.self c.command-done.result c.answer_of.result c.in_ok-answer.answer c.in-Err.why c.answer_of.ensures c.in_ok-answer.was c.in-Err.is c.command-done.ensures.err c.command-done.ensures.refused in
    refused_taken g.P.Plant.tells c.args.line.now c.args.self.now (record c.args.self.now { before = c.copy.new.self }) c.args.site.now c.command-done.new.self (g.P.Plant.state c.args.plant.now) c.requires.may c.requires.flag d.same refl c.in-Err.why d.refused c.plain.result (λ i. record { answer = c.plain.ensures.0 i; tracks = c.plain.ensures.1 i })

pub returns-in-Err-clause-works : goal.returns-in-Err-clause-works
returns-in-Err-clause-works g c =
    let d = was_refused c.args.self.now.names c.args.line.now c.args.site.now c.command-done.new.self c.command-done.result c.answer_of.result c.in_ok-answer.answer c.in-Err.why c.answer_of.ensures c.in_ok-answer.was c.in-Err.is c.command-done.ensures.err c.command-done.ensures.refused in
    refused_work g.P.Plant.tells c.args.line.now c.args.self.now (record c.args.self.now { before = c.copy.new.self }) c.args.site.now c.command-done.new.self (g.P.Plant.state c.args.plant.now) c.requires.may c.requires.flag d.same refl c.in-Err.why d.refused c.plain.result (λ i. record { answer = c.plain.ensures.0 i; tracks = c.plain.ensures.1 i })

pub returns-in-Err-clause-answers : goal.returns-in-Err-clause-answers
returns-in-Err-clause-answers g c told began =
    let d = was_refused c.args.self.now.names c.args.line.now c.args.site.now c.command-done.new.self c.command-done.result c.answer_of.result c.in_ok-answer.answer c.in-Err.why c.answer_of.ensures c.in_ok-answer.was c.in-Err.is c.command-done.ensures.err c.command-done.ensures.refused in
    refused_in_runs g.P.Plant.tells c.args.line.now c.args.self.now (record c.args.self.now { before = c.copy.new.self }) c.args.site.now c.command-done.new.self (g.P.Plant.state c.args.plant.now) c.requires.may c.requires.flag d.same refl c.in-Err.why d.refused c.plain.result (λ i. record { answer = c.plain.ensures.0 i; tracks = c.plain.ensures.1 i }) (g.P.Plant.state began)
