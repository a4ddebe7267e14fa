use Rattle.std.proofs.Common.{◌≡◌, ◌∙◌, ap, subst, sym, true, Err, List, []}
use Rattle.write_trace.specs.declared.header.VolumeHead.{VolumeHead}
use Rattle.write_trace.specs.Headers.{are_volumes}
use Rattle.xrc_session.specs.Openings.{first_named_again}
use Rattle.xrc_session.proofs.NamedVolumes.{serials_by_header, volumes_of_header}
use Rattle.xrc_session.proofs.Numbered.{given_on}
use Rattle.xrc_session.proofs.OpenedLane.{lane_again, lane_passes_on, lane_refused}
use Rattle.xrc_session.proofs.opening.open_lane.Goals as goal

pub returns-in-Err-clause-stops : goal.returns-in-Err-clause-stops
returns-in-Err-clause-stops g c =
    lane_refused g.S.Source.left g.S.Source.faults c.args.control c.args.named.now.items c.args.lane.now (record c.args.lane.now { source = c.start.new.source }) (Err c.stop_of_header.result) c.in-Err.error c.in-Err.ensures (ap (λ e. Err e) c.stop_of_header.ensures)

pub returns-in_err-check_serials-clause-stops : goal.returns-in_err-check_serials-clause-stops
returns-in_err-check_serials-clause-stops g c =
    let e = c.in_err-check_serials.field-0.0 in
    let again = c.in_err-check_serials.ensures.again in
    let started = c.in-Ok.started in
    let named = c.as_slice.result.now in
    let at = ap (λ l. first_named_again l 0 started.0.volumes) (sym c.as_slice.ensures.value) ∙ ap (first_named_again named 0) (sym c.as_slice-2.ensures) ∙ again.1 in
    lane_again g.S.Source.left g.S.Source.faults c.args.control c.args.named.now.items c.args.lane.now (record c.args.lane.now { source = c.start.new.source }) started.0 started.1 c.in-Ok.ensures.0 c.in-Ok.ensures.1 c.from_residual.result again.0 e at again.2
    (given_on c.from_residual.result e c.from_residual.ensures)

pub name_volumes-requires-clause-heads : goal.name_volumes-requires-clause-heads
name_volumes-requires-clause-heads g c =
    let good = volumes_of_header c.in-Ok.started.0 c.in-Ok.ensures.0.kept in
    subst (λ (heads : List VolumeHead). are_volumes 2 [] heads ≡ true) (sym c.as_slice-3.ensures) good.are

pub returns-clause-named : goal.returns-clause-named
returns-clause-named g c =
    let started = c.in-Ok.started in
    let named = c.as_slice.result.now in
    let fresh = ap (λ l. first_named_again l 0 started.0.volumes) (sym c.as_slice.ensures.value) ∙ ap (first_named_again named 0) (sym c.as_slice-2.ensures) ∙ c.in_ok-check_serials.ensures.ok in
    serials_by_header c.args.control started.0 c.as_slice-3.result.now c.args.named.now.items c.name_volumes.new.named.items c.args.names.now c.name_volumes.new.names c.as_slice-3.ensures c.requires.control c.in-Ok.ensures.0.kept c.requires.named fresh
    c.in_ok-name_volumes.ensures.ok

pub returns-clause-stops : goal.returns-clause-stops
returns-clause-stops g c =
    let started = c.in-Ok.started in
    let named = c.as_slice.result.now in
    let fresh = ap (λ l. first_named_again l 0 started.0.volumes) (sym c.as_slice.ensures.value) ∙ ap (first_named_again named 0) (sym c.as_slice-2.ensures) ∙ c.in_ok-check_serials.ensures.ok in
    lane_passes_on g.S.Source.left g.S.Source.faults c.args.control c.args.named.now.items c.args.lane.now c.open.new.self c.start.new.source started.0 started.1 tt (ap (λ lane. lane.source) c.in_ok-open.ensures.ok) c.in-Ok.ensures.0 c.in-Ok.ensures.1 fresh
