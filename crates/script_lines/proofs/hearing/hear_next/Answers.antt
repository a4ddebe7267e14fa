use Rattle.std.proofs.Common.{ℕ, List, sym, subst}
use Rattle.script_lines.specs.Hearing.{KeepsHearing}
use Rattle.script_lines.proofs.HearLaws.{keeps_more, keeps_still}
use Rattle.script_lines.proofs.hearing.hear_next.Goals as goal

pub returns-in_err-heard-clause-keeps : goal.returns-in_err-heard-clause-keeps
returns-in_err-heard-clause-keeps g c = λ told first.
    let state = g.P.Plant.state in
    let call = c.hear.ensures in
    keeps_still g.P.Plant.tells told c.args.text.now (state first) (state c.args.plant.now) (state c.hear.new.self) call.only (call.moments told) (c.in_err-heard.ensures.err told)

pub returns-clause-keeps : goal.returns-clause-keeps
returns-clause-keeps g c = λ told first.
    let state = g.P.Plant.state in
    let call = c.hear.ensures in
    subst (λ (l : List ℕ). KeepsHearing c.args.text.now l (state first) (state c.args.plant.now) (state c.hear.new.self)) (sym c.put_heard.ensures.text)
    (keeps_more g.P.Plant.tells told c.args.text.now c.in_ok-heard.heard (state first) (state c.args.plant.now) (state c.hear.new.self) c.requires.no_feed call.only (call.moments told) (c.in_ok-heard.ensures.heard told))
