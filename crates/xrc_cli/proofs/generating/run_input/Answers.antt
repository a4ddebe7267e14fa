use Rattle.std.proofs.Common.{rules}
use Rattle.crash_plant.specs.PlainPlant.{plain_state}
use Rattle.xrc_cli.specs.Generating.{SumsUp, SumsUpRun}
use Rattle.xrc_cli.proofs.Generated.{none_marked, run_done, weaker}
use Rattle.xrc_cli.proofs.generating.run_input.Goals as goal

pub lanes_of-requires : goal.lanes_of-requires
lanes_of-requires g c = none_marked _ c.in_ok-sources.sources.items c.in_ok-sources.ensures.sources

pub returns : goal.returns
returns g c =
    let made = c.in_ok-sources.site in
    let ran = c.run_session.new.plant in
    let lanes = c.run_session.new.traces.items in
    weaker (SumsUp c.args.number (plain_state ran)) (SumsUpRun c.args.number) c.sum_up.result (λ line sums. record {
      made = made;
      ran = ran;
      lanes = lanes;
      input = c.in_ok-sources.ensures.plant;
      done = run_done c.args.number made ran c.session.result c.in_ok-lanes.lanes.items lanes c.in_ok-sources.sources.items c.run_session.result c.session.ensures c.in_ok-lanes.ensures c.in_ok-sources.ensures.sources (search rules) c.run_session.ensures;
      sums = sums;
    }) c.sum_up.ensures
