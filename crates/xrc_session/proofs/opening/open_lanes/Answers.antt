use Rattle.std.proofs.Common.{◌∙◌, ◌<◌, ◌≤◌, ap, arith, get_or, length}
use Rattle.mover.specs.Lanes.{reader_in}
use Rattle.xrc_session.proofs.Numbered.{given_on}
use Rattle.xrc_session.proofs.OpenedLanes.{all_opened, are_opened, have_volumes, lane_was, lanes_pass, names_all, opened_next, stops_here, unread_at}
use Rattle.xrc_session.proofs.TurnedOut.{stay_good, turn_out_from}
use Rattle.xrc_session.proofs.opening.open_lanes.Goals as goal

pub open_lane-requires-clause-unread : goal.open_lane-requires-clause-unread
open_lane-requires-clause-unread g c =
    let at = c.loop-control in
    let lane = c.index-traces-control.result in
    let inside : at.control < length c.args.traces.now = omega (arith, c.loop-control-test.true, at.invariant.many) in
    ap reader_in (lane_was g.S.Source.left g.S.Source.faults c.args.traces.now at.traces at.control at.named.items c.args.names.now at.names at.invariant inside lane) ∙ unread_at c.args.traces.now c.requires.unread at.control lane inside

pub returns-in_err-open_lane-clause-stops : goal.returns-in_err-open_lane-clause-stops
returns-in_err-open_lane-clause-stops g c =
    let at = c.loop-control in
    let lane = c.index-traces-control.result in
    let inside : at.control < length c.args.traces.now = omega (arith, c.loop-control-test.true, at.invariant.many) in
    let was = lane_was g.S.Source.left g.S.Source.faults c.args.traces.now at.traces at.control at.named.items c.args.names.now at.names at.invariant inside lane in
    let e = c.in_err-open_lane.field-0.0 in
    stops_here g.S.Source.left g.S.Source.faults c.args.traces.now at.traces at.control at.named.items c.args.names.now at.names at.invariant inside lane (get_or at.traces at.control lane) c.open_lane.new.lane was c.open_lane.result c.from_residual.result e
    c.in_err-open_lane.was (given_on c.from_residual.result e c.from_residual.ensures) c.open_lane.ensures.stops

pub loop-control-preserved : goal.loop-control-preserved
loop-control-preserved g c =
    let at = c.loop-control in
    let lane = c.index-traces-control.result in
    let inside : at.control < length c.args.traces.now = omega (arith, c.loop-control-test.true, at.invariant.many) in
    let was = lane_was g.S.Source.left g.S.Source.faults c.args.traces.now at.traces at.control at.named.items c.args.names.now at.names at.invariant inside lane in
    opened_next g.S.Source.left g.S.Source.faults c.args.traces.now at.traces at.control at.named.items c.args.names.now at.names at.invariant inside lane (get_or at.traces at.control lane) c.open_lane.new.lane was c.open_lane.new.named.items c.open_lane.new.names
    c.in_ok-open_lane.ensures.ok c.in_ok-open_lane.ensures.named

pub returns-clause-named : goal.returns-clause-named
returns-clause-named g c =
    let at = c.loop-control in
    let all : length at.traces ≤ at.control = omega (arith, c.loop-control-test.false, at.invariant.many) in
    names_all g.S.Source.left g.S.Source.faults c.args.traces.now at.traces at.control at.named.items c.args.names.now at.names at.invariant all

pub returns-clause-headed : goal.returns-clause-headed
returns-clause-headed g c =
    let at = c.loop-control in
    let all : length at.traces ≤ at.control = omega (arith, c.loop-control-test.false, at.invariant.many) in
    have_volumes g.S.Source.left g.S.Source.faults c.args.traces.now at.traces at.control at.named.items c.args.names.now at.names at.invariant all

pub returns-clause-opened : goal.returns-clause-opened
returns-clause-opened g c =
    let at = c.loop-control in
    let all : length at.traces ≤ at.control = omega (arith, c.loop-control-test.false, at.invariant.many) in
    are_opened g.S.Source.left g.S.Source.faults c.args.traces.now at.traces at.control at.named.items c.args.names.now at.names at.invariant all

pub returns-clause-turn_out : goal.returns-clause-turn_out
returns-clause-turn_out g c =
    let at = c.loop-control in
    let all : length at.traces ≤ at.control = omega (arith, c.loop-control-test.false, at.invariant.many) in
    turn_out_from g.S.Source.left g.S.Source.faults c.args.traces.now at.traces (all_opened g.S.Source.left g.S.Source.faults c.args.traces.now at.traces at.control at.named.items c.args.names.now at.names at.invariant all) at.invariant.many

pub returns-clause-good : goal.returns-clause-good
returns-clause-good g c =
    let at = c.loop-control in
    let all : length at.traces ≤ at.control = omega (arith, c.loop-control-test.false, at.invariant.many) in
    stay_good g.S.Source.left g.S.Source.faults c.args.traces.now at.traces (all_opened g.S.Source.left g.S.Source.faults c.args.traces.now at.traces at.control at.named.items c.args.names.now at.names at.invariant all)

pub returns-clause-stops : goal.returns-clause-stops
returns-clause-stops g c =
    let at = c.loop-control in
    let all : length at.traces ≤ at.control = omega (arith, c.loop-control-test.false, at.invariant.many) in
    lanes_pass g.S.Source.left g.S.Source.faults c.args.traces.now at.traces at.control at.named.items c.args.names.now at.names at.invariant all tt
