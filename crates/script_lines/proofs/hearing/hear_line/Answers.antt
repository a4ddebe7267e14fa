use Rattle.std.proofs.Common.{◌+◌, ◌∙◌, ap}
use Rattle.crash_plant.proofs.Steps.{works_on_console_trans}
use Rattle.script_lines.proofs.HearLaws.{silent_then}
use Rattle.script_lines.proofs.hearing.hear_line.Goals as goal

pub returns-in_err-end-clause-keeps : goal.returns-in_err-end-clause-keeps
returns-in_err-end-clause-keeps g c = λ told first run lines up kept. c.hear_next.ensures.keeps told first run lines up (c.loop.invariant.keeps told first run lines up kept)

pub returns-in_err-end-clause-silent : goal.returns-in_err-end-clause-silent
returns-in_err-end-clause-silent g c = λ told.
    let state = g.P.Plant.state in
    silent_then g.P.Plant.tells told (state c.args.plant.now) (state c.loop.plant) (state c.hear_next.new.plant) c.loop.invariant.only c.hear_next.ensures.only (c.loop.invariant.silent told) (c.hear_next.ensures.silent told)

pub returns-in_err-end-clause-only : goal.returns-in_err-end-clause-only
returns-in_err-end-clause-only g c =
    let state = g.P.Plant.state in
    works_on_console_trans g.P.Plant.tells (state c.args.plant.now) (state c.loop.plant) (state c.hear_next.new.plant) c.loop.invariant.only c.hear_next.ensures.only

pub returns-in-Some-clause-keeps : goal.returns-in-Some-clause-keeps
returns-in-Some-clause-keeps g c = λ told first run lines up kept. c.hear_next.ensures.keeps told first run lines up (c.loop.invariant.keeps told first run lines up kept)

pub returns-in-Some-clause-silent : goal.returns-in-Some-clause-silent
returns-in-Some-clause-silent g c = λ told.
    let state = g.P.Plant.state in
    silent_then g.P.Plant.tells told (state c.args.plant.now) (state c.loop.plant) (state c.hear_next.new.plant) c.loop.invariant.only c.hear_next.ensures.only (c.loop.invariant.silent told) (c.hear_next.ensures.silent told)

pub returns-in-Some-clause-only : goal.returns-in-Some-clause-only
returns-in-Some-clause-only g c =
    let state = g.P.Plant.state in
    works_on_console_trans g.P.Plant.tells (state c.args.plant.now) (state c.loop.plant) (state c.hear_next.new.plant) c.loop.invariant.only c.hear_next.ensures.only

pub loop-preserved : goal.loop-preserved
loop-preserved g c =
    let state = g.P.Plant.state in
    let before = c.loop.invariant in
    let call = c.hear_next.ensures in
    record {
      size = c.in_ok-end.ensures.longer (cc) ∙ ap (λ n. n + 1) before.size;
      no_feed = c.in_ok-end.ensures.goes_on (cc);
      heard = λ told. call.heard told c.args.plant.now (before.heard told);
      keeps = λ told first run lines up kept. call.keeps told first run lines up (before.keeps told first run lines up kept);
      silent = λ told. silent_then g.P.Plant.tells told (state c.args.plant.now) (state c.loop.plant) (state c.hear_next.new.plant) before.only call.only (before.silent told) (call.silent told);
      only = works_on_console_trans g.P.Plant.tells (state c.args.plant.now) (state c.loop.plant) (state c.hear_next.new.plant) before.only call.only;
      count = c.in_ok-end.ensures.cause.ok ∙ before.count;
    }
