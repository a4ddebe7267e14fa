use Rattle.std.proofs.Common.{ℕ, List, sym, subst, arith}
use Rattle.mover.specs.declared.lane.Lane.{Lane}
use Rattle.xrc_cli.specs.Statuses.{EndsScriptRun}
use Rattle.xrc_cli.proofs.Ending.{RanScript, done, ends_done, ends_stopped, failed, taken_back}
use Rattle.xrc_cli.proofs.run.run_session.Goals as goal

pub returns-in-Ok : goal.returns-in-Ok
returns-in-Ok g c =
    let old = c.args.plant.now in
    let mid = c.run_script.new.plant in
    let before = c.as_mut_slice.result.now in
    let now = c.run_script.new.traces in
    let r : RanScript g.P.Plant.tells g.P.Plant.state g.S.Source.left g.S.Source.faults c.args.session c.args.storage before now old mid done = record {
      lanes_stay = c.run_script.auto.traces;
      opens = c.in-Ok.ensures.opens;
      early = c.in-Ok.ensures.early;
      unopened = c.in-Ok.ensures.unopened;
      keeps = c.in-Ok.ensures.keeps;
      runs = c.in-Ok.ensures.runs;
      begins = c.in-Ok.ensures.begins;
      cause = c.in-Ok.ensures.cause;
      counts = c.in-Ok.ensures.counts;
    } in
    let back = sym (taken_back c.args.traces.now.len c.args.traces.now.items now (omega (arith, c.run_script.auto.traces, c.as_mut_slice.ensures.len))) in
    subst (λ (lanes : List (Lane g.row.S.Denot)). EndsScriptRun g.P.Plant.tells g.P.Plant.state g.S.Source.left g.S.Source.faults c.args.session c.args.storage c.args.traces.now.items lanes old mid 0) back
    (subst (λ (lanes : List (Lane g.row.S.Denot)). EndsScriptRun g.P.Plant.tells g.P.Plant.state g.S.Source.left g.S.Source.faults c.args.session c.args.storage lanes now old mid 0) c.as_mut_slice.ensures.value (ends_done g.P.Plant.tells g.P.Plant.state g.S.Source.left g.S.Source.faults c.args.session c.args.storage before now old mid r))

pub returns-in-Err : goal.returns-in-Err
returns-in-Err g c =
    let old = c.args.plant.now in
    let mid = c.run_script.new.plant in
    let new = c.say_stop.new.plant in
    let stop = c.in-Err.stop in
    let before = c.as_mut_slice.result.now in
    let now = c.run_script.new.traces in
    let r : RanScript g.P.Plant.tells g.P.Plant.state g.S.Source.left g.S.Source.faults c.args.session c.args.storage before now old mid (failed stop) = record {
      lanes_stay = c.run_script.auto.traces;
      opens = c.in-Err.ensures.opens;
      early = c.in-Err.ensures.early;
      unopened = c.in-Err.ensures.unopened;
      keeps = c.in-Err.ensures.keeps;
      runs = c.in-Err.ensures.runs;
      begins = c.in-Err.ensures.begins;
      cause = c.in-Err.ensures.cause;
      counts = c.in-Err.ensures.counts;
    } in
    let back = sym (taken_back c.args.traces.now.len c.args.traces.now.items now (omega (arith, c.run_script.auto.traces, c.as_mut_slice.ensures.len))) in
    subst (λ (lanes : List (Lane g.row.S.Denot)). EndsScriptRun g.P.Plant.tells g.P.Plant.state g.S.Source.left g.S.Source.faults c.args.session c.args.storage c.args.traces.now.items lanes old new c.say_stop.result) back
    (subst (λ (lanes : List (Lane g.row.S.Denot)). EndsScriptRun g.P.Plant.tells g.P.Plant.state g.S.Source.left g.S.Source.faults c.args.session c.args.storage lanes now old new c.say_stop.result) c.as_mut_slice.ensures.value
    (subst (λ (n : ℕ). EndsScriptRun g.P.Plant.tells g.P.Plant.state g.S.Source.left g.S.Source.faults c.args.session c.args.storage before now old new n) (sym c.say_stop.ensures.status)
    (ends_stopped g.P.Plant.tells g.P.Plant.state g.S.Source.left g.S.Source.faults c.args.session c.args.storage before now old mid stop new r c.say_stop.ensures.said c.say_stop.ensures.silent)))
