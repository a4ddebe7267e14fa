use Rattle.std.proofs.Common.{rules, ◌≡◌, Result, sym, subst, ◌∙◌}
use Rattle.site_store.specs.declared.store_error.StoreError.{StoreError}
use Rattle.mover.specs.Moves.{Moved, MoverWorks}
use Rattle.mover.specs.Numbers.{FormsUse, UsesNumbers}
use Rattle.mover.proofs.DropMade.{stays_then}
use Rattle.mover.proofs.MovedOn.{moved_then}
use Rattle.mover.proofs.Numbers.{part_fails, part_uses}
use Rattle.mover.proofs.WorkedOn.{works_then}
use Rattle.mover.proofs.moving.move_once.Goals as goal

pub settle-requires-clause-table : goal.settle-requires-clause-table
settle-requires-clause-table g c κs within = c.log_formed.ensures.seat.here ∙ c.requires.table

pub settle-requires-clause-may : goal.settle-requires-clause-may
settle-requires-clause-may g c κs within = (c.args.limit.0, c.in_ok-log_formed.ensures.may)

pub returns-in_err-log_formed-clause-numbers : goal.returns-in_err-log_formed-clause-numbers
returns-in_err-log_formed-clause-numbers g c =
    let seat = c.args.seat.now in
    let turn = c.log_formed.new.seat in
    let site = c.args.site.now in
    let mid = c.log_formed.new.site in
    let same : c.log_formed.result ≡ c.from_residual.result = search rules in
    subst (λ (r : Result (Unit {0}) StoreError). UsesNumbers seat turn site mid r) same (part_fails seat turn site mid c.log_formed.result c.log_formed.ensures.numbers)

pub returns : goal.returns
returns g c =
    let tells = g.P.Plant.tells in
    let old = g.P.Plant.state c.args.plant.now in
    let mid = g.P.Plant.state c.log_formed.new.plant in
    let new = g.P.Plant.state c.settle.new.plant in
    let site = c.args.site.now in
    let between = c.log_formed.new.site in
    let after = c.settle.new.site in
    let seat = c.args.seat.now in
    let turn = c.log_formed.new.seat in
    let end = c.settle.new.seat in
    let l = c.log_formed.ensures in
    let s = c.settle.ensures in
    let moved = subst (λ (r : Result (Unit {0}) StoreError). Moved tells seat turn site between old mid r) c.in_ok-log_formed.was l.moved in
    let works = subst (λ (r : Result (Unit {0}) StoreError). MoverWorks tells site between old mid r) c.in_ok-log_formed.was l.works in
    let numbers = subst (λ (r : Result (Unit {0}) StoreError). FormsUse 1 2 1 seat turn site between r) c.in_ok-log_formed.was l.numbers in
    record {
      may = s.may c.args.limit.0 c.in_ok-log_formed.ensures.may;
      moved = moved_then tells seat turn end site between after old mid new c.settle.result moved s.moved;
      cut = l.cut ∙ sym s.last;
      limited = λ before. s.limited c.args.limit.0 (l.limited before);
      room = l.room;
      seat = stays_then seat turn end l.seat s.seat;
      works = works_then tells site between after old mid new c.settle.result works s.works;
      numbers = part_uses seat turn end site between after c.settle.result numbers s.numbers;
    }
