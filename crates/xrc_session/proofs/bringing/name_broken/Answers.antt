-- The controllers are named one lane after another.
use Rattle.std.proofs.Common.{◌∙◌, true, false, refl, sym, ap}
use Rattle.std.specs.Prelude.{is_some}
use Rattle.std.proofs.lemmas.List.{take_all}
use Rattle.xrc_session.specs.Lanes.{with_lanes_broken}
use Rattle.xrc_session.proofs.Readying.{named_more}
use Rattle.xrc_session.proofs.bringing.name_broken.Goals as goal
use Rattle.xrc_session.proofs.bringing.name_broken.Goals.{then-is_some, else-is_some}

pub loop-control-init : goal.loop-control-init
loop-control-init g c = refl

pub loop-control-preserved : goal.loop-control-preserved
loop-control-preserved g c =
    let n = c.loop-control.control in
    let d = c.index-traces-control.result in
    elim c.if-is_some.branch [
      | then-is_some w ↦ named_more n c.args.traces.now d c.args.names.now c.loop-control.names c.if-is_some.names true c.loop-control-test.true c.index-traces-control.is c.loop-control.invariant (sym w.if-is_some.true ∙ c.is_some.ensures ∙ ap (λ o. is_some o) c.broken.ensures) (w.names-is ∙ w.broken-then-is_some.ensures)
      | else-is_some w ↦ named_more n c.args.traces.now d c.args.names.now c.loop-control.names c.if-is_some.names false c.loop-control-test.true c.index-traces-control.is c.loop-control.invariant (sym w.if-is_some.false ∙ c.is_some.ensures ∙ ap (λ o. is_some o) c.broken.ensures) w.names-is
    ]

pub returns : goal.returns
returns g c = c.loop-control.invariant ∙ ap (λ lanes. with_lanes_broken 0 lanes c.args.names.now) (take_all c.loop-control.control c.args.traces.now c.loop-control-test.false)
