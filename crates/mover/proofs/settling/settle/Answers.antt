use Rattle.std.proofs.Common.{rules, ◌≡◌, true, Result, Ok, List, length, sym, ap, subst, ◌∙◌, refl}
use Rattle.pair_table.specs.declared.row.PairRow.{PairRow}
use Rattle.pair_table.specs.Tables.{none_clash}
use Rattle.site_store.specs.declared.store_error.StoreError.{StoreError}
use Rattle.mover.specs.Dropping.{AreOfControls, Drops, drops_from}
use Rattle.mover.specs.Moves.{MoverWorks}
use Rattle.mover.proofs.DropMade.{stays_self}
use Rattle.mover.proofs.Limits.{drops_keep_limit}
use Rattle.mover.proofs.MoverCalls.{controls_still, kept_knows, kept_moved, settle_fails, states_told, table_rows, well, well_still}
use Rattle.mover.proofs.Numbers.{drops_use, rest_uses, uses_as}
use Rattle.mover.proofs.settling.settle.Goals as goal

pub keep-requires-clause-fast : goal.keep-requires-clause-fast
keep-requires-clause-fast g c κs within = c.requires.may.1.fast

pub keep-requires-clause-level : goal.keep-requires-clause-level
keep-requires-clause-level g c κs within = c.requires.may.1.level

pub keep-requires-clause-told : goal.keep-requires-clause-told
keep-requires-clause-told g c κs within = c.requires.may.1.knows.told

pub keep-requires-clause-apart : goal.keep-requires-clause-apart
keep-requires-clause-apart g c κs within =
    let rows = table_rows c.args.site.now c.table.result.now c.table.ensures.table c.table.ensures.told c.requires.may.1.level in
    ap none_clash (sym rows) ∙ c.states_of-was.ensures.rules.apart

pub returns-in_err-keep : goal.returns-in_err-keep
returns-in_err-keep g c =
    let tells = g.P.Plant.tells in
    let old = g.P.Plant.state c.args.plant.now in
    let new = g.P.Plant.state c.keep.new.plant in
    let site = c.args.site.now in
    let same : c.keep.result ≡ c.from_residual.result = search rules in
    record {
      may = search rules;
      moved = settle_fails tells c.args.seat.now site c.keep.new.site old new c.keep.result c.keep.ensures.moved c.requires.may.1.knows.told c.in_err-keep.field-0.0 c.in_err-keep.was c.from_residual.result same;
      last = refl;
      limited = λ limit before. before;
      seat = stays_self c.args.seat.now;
      works = subst (λ (r : Result (Unit {0}) StoreError). MoverWorks tells site c.keep.new.site old new r) same c.keep.ensures.works;
      numbers = rest_uses 2 2 c.args.seat.now site c.keep.new.site c.from_residual.result (uses_as 2 2 site c.keep.new.site c.keep.result c.from_residual.result same c.keep.ensures.numbers);
    }

pub drop_suspended-requires-clause-controls : goal.drop_suspended-requires-clause-controls
drop_suspended-requires-clause-controls g c =
    let tells = g.P.Plant.tells in
    let old = g.P.Plant.state c.args.plant.now in
    let new = g.P.Plant.state c.keep.new.plant in
    let site = c.args.site.now in
    let next = c.keep.new.site in
    let still = well_still tells c.args.seat.now site next old new c.keep.result c.keep.ensures.moved c.in_ok-keep.was in
    let rows = table_rows next c.table-2.result.now c.table-2.ensures.table c.table-2.ensures.told c.in_ok-keep.ensures.rests.level in
    subst (λ (l : List PairRow). AreOfControls (length c.args.seat.now.known) l) (sym rows) (controls_still (length c.args.seat.now.known) site.told next.told still c.requires.may.1.knows.rows.controls)

pub returns : goal.returns
returns g c =
    let tells = g.P.Plant.tells in
    let old = g.P.Plant.state c.args.plant.now in
    let new = g.P.Plant.state c.keep.new.plant in
    let site = c.args.site.now in
    let next = c.keep.new.site in
    let seat = c.args.seat.now in
    let end = c.drop_suspended.new.seat in
    let was = c.states_of-was.result in
    let level = c.requires.may.1.level in
    let rows = table_rows site c.table.result.now c.table.ensures.table c.table.ensures.told level in
    let apart : none_clash site.told ≡ true = ap none_clash (sym rows) ∙ c.states_of-was.ensures.rules.apart in
    let states = states_told site c.table.result.now.rows was rows c.states_of-was.ensures.states in
    let k = c.in_ok-keep.ensures in
    let moved = well tells seat site next old new c.keep.result c.keep.ensures.moved c.in_ok-keep.was in
    let rows_then = table_rows next c.table-2.result.now c.table-2.ensures.table c.table-2.ensures.told k.rests.level in
    let drops = subst (λ (l : List PairRow). Drops was l seat end) rows_then c.drop_suspended.ensures.drops in
    let told = c.requires.may.1.knows.told in
    record {
      may = λ limit may. record { rests = k.rests; marked = k.marked; knows = kept_knows tells seat site next old new told end was states apart drops moved limit may.knows k.told };
      moved = kept_moved tells seat site next old new told end was states apart drops moved;
      last = drops.last;
      limited = λ limit. drops_keep_limit limit (drops_from 0 was next.told) seat end drops;
      seat = c.drop_suspended.ensures.seat;
      works = subst (λ (r : Result (Unit {0}) StoreError). MoverWorks tells site next old new r) c.in_ok-keep.was c.keep.ensures.works;
      numbers = drops_use 0 2 2 (drops_from 0 was next.told) seat seat end site next (Ok tt) drops (rest_uses 2 2 seat site next (Ok tt) (uses_as 2 2 site next c.keep.result (Ok tt) c.in_ok-keep.was c.keep.ensures.numbers));
    }
