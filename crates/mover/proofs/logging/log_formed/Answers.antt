use Rattle.std.specs.List.{All}
use Rattle.std.proofs.Common.{rules, ◌≡◌, ℕ, Ok, true, false, Result, List, length, sym, ap, subst, ◌∙◌, arith, refl}
use Rattle.crash_plant.specs.declared.device.Device.TheVariants.{Volume}
use Rattle.crash_plant.proofs.Steps.{works_on_here}
use Rattle.applier.proofs.Works.{lent_of_works}
use Rattle.pair_table.specs.declared.row.PairRow.{PairRow}
use Rattle.pair_table.specs.Tables.{none_clash}
use Rattle.group_state.specs.Answers.{form_reply}
use Rattle.group_state.specs.Groups.{shown_in}
use Rattle.site_store.specs.declared.store_error.StoreError.{StoreError}
use Rattle.site_store.specs.Logging.{IsOfSomeRow}
use Rattle.mover.specs.Dropping.{AreOfControls, Drops, drops_from}
use Rattle.mover.specs.Groups.{is_to_log}
use Rattle.mover.specs.Moves.{IsOfMover, Moved, MoverWorks}
use Rattle.mover.proofs.DropMade.{stays_then}
use Rattle.mover.proofs.LogMoves.{entries_of_rows, log_works}
use Rattle.mover.proofs.Limits.{drops_keep_limit, form_keeps_limit}
use Rattle.mover.proofs.MoverCalls.{controls_still, forms_of, log_fails, log_level, log_may, log_moved, log_rest, log_slots, log_still, logged_up, on_err, states_told, stays_formed, table_rows, unlogged_knows, unlogged_moved}
use Rattle.mover.proofs.Numbers.{drops_use, form_uses, log_uses, unlogged_uses, uses_as}
use Rattle.mover.proofs.SpentSites.{log_spent}
use Rattle.mover.proofs.WorkedOn.{no_work}
use Rattle.mover.proofs.logging.log_formed.Goals as goal

pub form-requires-clause-limit : goal.form-requires-clause-limit
form-requires-clause-limit g c = let k = c.requires.may.knows in omega (arith, k.in_step.up, k.below)

pub form-requires-clause-room : goal.form-requires-clause-room
form-requires-clause-room g c = omega (arith, c.requires.room)

pub returns-then-not-is_logged : goal.returns-then-not-is_logged
returns-then-not-is_logged g c =
    let tells = g.P.Plant.tells in
    let plant = g.P.Plant.state c.args.plant.now in
    let site = c.args.site.now in
    let seat = c.args.seat.now in
    let turn = c.form.new.seat in
    let group = c.form.new.out in
    let may = c.requires.may in
    let rows = table_rows site c.table.result.now c.table.ensures.table c.table.ensures.told may.rests.level in
    let out : is_to_log group site.time site.told ≡ false = sym (c.is_logged.ensures ∙ (λ i. is_to_log group (c.time.ensures i) (rows i))) ∙ c.if-not-is_logged.true in
    let f = forms_of c.args.limit c.form.result group seat turn c.form.ensures.called in
    record {
      may = record { fast = may.rests.fast; level = may.rests.level; knows = unlogged_knows tells c.args.limit c.form.result group seat turn site plant f may.knows c.form.ensures.carried c.form.ensures.from out };
      moved = unlogged_moved tells c.args.limit c.form.result group seat turn site plant f may.knows c.form.ensures.carried c.form.ensures.from out;
      cut = sym f.last;
      limited = form_keeps_limit c.args.limit c.form.result group seat turn f;
      room = c.form.ensures.room;
      seat = stays_formed c.args.limit (form_reply c.form.result (shown_in group)) seat turn c.form.ensures.called;
      works = no_work tells site plant (Ok tt) (lent_of_works tells (IsOfMover site) plant plant (works_on_here tells (IsOfMover site) plant)) refl;
      numbers = unlogged_uses c.args.limit c.form.result group seat turn site f;
    }

pub log-requires-clause-may : goal.log-requires-clause-may
log-requires-clause-may g c κs within =
    let site = c.args.site.now in
    let seat = c.args.seat.now in
    let group = c.form.new.out in
    let may = c.requires.may in
    let rows = table_rows site c.table.result.now c.table.ensures.table c.table.ensures.told may.rests.level in
    let is : is_to_log group site.time site.told ≡ true = sym (c.is_logged.ensures ∙ (λ i. is_to_log group (c.time.ensures i) (rows i))) ∙ c.if-not-is_logged.false in
    let same = c.table.ensures.told may.rests.level in
    record {
      controls = omega (arith, c.form.ensures.room, c.requires.room, may.knows.controls);
      entries = subst (λ (l : List PairRow). All (IsOfSomeRow l) group.entries) same (entries_of_rows seat.known site.told group.entries may.knows.rows c.form.ensures.carried);
      cut = logged_up group site is;
    }

pub returns-in_err-log : goal.returns-in_err-log
returns-in_err-log g c =
    let tells = g.P.Plant.tells in
    let old = g.P.Plant.state c.args.plant.now in
    let new = g.P.Plant.state c.log.new.plant in
    let site = c.args.site.now in
    let next = c.log.new.self in
    let seat = c.args.seat.now in
    let turn = c.form.new.seat in
    let group = c.form.new.out in
    let may = c.requires.may in
    let rows = table_rows site c.table.result.now c.table.ensures.table c.table.ensures.told may.rests.level in
    let is : is_to_log group site.time site.told ≡ true = sym (c.is_logged.ensures ∙ (λ i. is_to_log group (c.time.ensures i) (rows i))) ∙ c.if-not-is_logged.false in
    let f = forms_of c.args.limit c.form.result group seat turn c.form.ensures.called in
    let rows_was = table_rows site c.table-2.result.now c.table-2.ensures.table c.table-2.ensures.told may.rests.level in
    let apart : none_clash site.told ≡ true = ap none_clash (sym rows_was) ∙ c.states_of-was.ensures.rules.apart in
    let l = c.log.ensures in
    let error = c.in_err-log.field-0.0 in
    let same : c.log.result ≡ c.from_residual.result = search rules in
    let moved = log_fails tells c.args.limit c.form.result group seat turn site next old new c.log.result f may.knows apart may.rests.idle may.marked is c.form.ensures.carried l.ok l.leaves l.failed (λ d. l.others.faults (Volume d)) error c.in_err-log.was in
    let works = log_works tells group site next old new c.log.result (c.table.ensures.told may.rests.level) l.others l.cause l.failed (on_err _ c.log.result error c.in_err-log.was) l.volumes (on_err _ c.log.result error c.in_err-log.was) (log_spent tells group site next old new c.log.result may.rests.fast l.ok l.unwritten) in
    record {
      may = search rules;
      moved = subst (λ (r : Result (Unit {0}) StoreError). Moved tells seat turn site next old new r) same moved;
      cut = sym f.last;
      limited = form_keeps_limit c.args.limit c.form.result group seat turn f;
      room = c.form.ensures.room;
      seat = stays_formed c.args.limit (form_reply c.form.result (shown_in group)) seat turn c.form.ensures.called;
      works = subst (λ (r : Result (Unit {0}) StoreError). MoverWorks tells site next old new r) same works;
      numbers = form_uses c.args.limit c.form.result group seat turn site next c.from_residual.result f (uses_as 2 1 site next c.log.result c.from_residual.result same (log_uses tells group site next old new c.log.result l.ok));
    }

pub drop_suspended-requires-clause-table : goal.drop_suspended-requires-clause-table
drop_suspended-requires-clause-table g c = (stays_formed c.args.limit (form_reply c.form.result (shown_in c.form.new.out)) c.args.seat.now c.form.new.seat c.form.ensures.called).here ∙ c.requires.table

pub drop_suspended-requires-clause-controls : goal.drop_suspended-requires-clause-controls
drop_suspended-requires-clause-controls g c =
    let tells = g.P.Plant.tells in
    let old = g.P.Plant.state c.args.plant.now in
    let new = g.P.Plant.state c.log.new.plant in
    let site = c.args.site.now in
    let next = c.log.new.self in
    let seat = c.args.seat.now in
    let turn = c.form.new.seat in
    let group = c.form.new.out in
    let may = c.requires.may in
    let rows = table_rows site c.table.result.now c.table.ensures.table c.table.ensures.told may.rests.level in
    let is : is_to_log group site.time site.told ≡ true = sym (c.is_logged.ensures ∙ (λ i. is_to_log group (c.time.ensures i) (rows i))) ∙ c.if-not-is_logged.false in
    let f = forms_of c.args.limit c.form.result group seat turn c.form.ensures.called in
    let rows_was = table_rows site c.table-2.result.now c.table-2.ensures.table c.table-2.ensures.told may.rests.level in
    let apart : none_clash site.told ≡ true = ap none_clash (sym rows_was) ∙ c.states_of-was.ensures.rules.apart in
    let l = c.log.ensures in
    let still = log_still tells c.args.limit c.form.result group seat turn site next old new c.log.result f may.knows apart may.rests.idle may.marked is c.form.ensures.carried l.ok l.leaves l.failed (λ d. l.others.faults (Volume d)) c.in_ok-log.was in
    let level = log_level tells c.args.limit c.form.result group seat turn site next old new c.log.result f may.knows apart may.rests.idle may.marked is c.form.ensures.carried l.ok l.leaves l.failed (λ d. l.others.faults (Volume d)) c.in_ok-log.was in
    let rows_then = table_rows next c.table-3.result.now c.table-3.ensures.table c.table-3.ensures.told level in
    subst (λ (l : List PairRow). AreOfControls (length turn.known) l) (sym rows_then) (subst (λ (n : ℕ). AreOfControls n next.told) (ap length (sym f.known)) (controls_still (length seat.known) site.told next.told still may.knows.rows.controls))

pub returns : goal.returns
returns g c =
    let tells = g.P.Plant.tells in
    let old = g.P.Plant.state c.args.plant.now in
    let new = g.P.Plant.state c.log.new.plant in
    let site = c.args.site.now in
    let next = c.log.new.self in
    let seat = c.args.seat.now in
    let turn = c.form.new.seat in
    let end = c.drop_suspended.new.seat in
    let group = c.form.new.out in
    let was = c.states_of-was.result in
    let may = c.requires.may in
    let rows = table_rows site c.table.result.now c.table.ensures.table c.table.ensures.told may.rests.level in
    let is : is_to_log group site.time site.told ≡ true = sym (c.is_logged.ensures ∙ (λ i. is_to_log group (c.time.ensures i) (rows i))) ∙ c.if-not-is_logged.false in
    let f = forms_of c.args.limit c.form.result group seat turn c.form.ensures.called in
    let rows_was = table_rows site c.table-2.result.now c.table-2.ensures.table c.table-2.ensures.told may.rests.level in
    let apart : none_clash site.told ≡ true = ap none_clash (sym rows_was) ∙ c.states_of-was.ensures.rules.apart in
    let states = states_told site c.table-2.result.now.rows was rows_was c.states_of-was.ensures.states in
    let l = c.log.ensures in
    let later = λ (d : ℕ). l.others.faults (Volume d) in
    let level = log_level tells c.args.limit c.form.result group seat turn site next old new c.log.result f may.knows apart may.rests.idle may.marked is c.form.ensures.carried l.ok l.leaves l.failed later c.in_ok-log.was in
    let rest = log_rest tells c.args.limit c.form.result group seat turn site next old new c.log.result f may.knows apart may.rests.idle may.marked is c.form.ensures.carried l.ok l.leaves l.failed later c.in_ok-log.was in
    let slots = log_slots tells c.args.limit c.form.result group seat turn site next old new c.log.result f may.knows apart may.rests.idle may.marked is c.form.ensures.carried l.ok l.leaves l.failed later c.in_ok-log.was in
    let rows_then = table_rows next c.table-3.result.now c.table-3.ensures.table c.table-3.ensures.told level in
    let drops = subst (λ (l : List PairRow). Drops was l turn end) rows_then c.drop_suspended.ensures.drops in
    let works = log_works tells group site next old new (Ok tt) (c.table.ensures.told may.rests.level) l.others c.in_ok-log.ensures.cause l.failed rest l.volumes slots (λ none. cc none) in
    record {
      may = log_may tells c.args.limit c.form.result group seat turn site next old new c.log.result f may.knows apart may.rests.idle may.marked is c.form.ensures.carried l.ok l.leaves l.failed later c.in_ok-log.was end was states drops c.form.ensures.upto may.rests.fast;
      moved = log_moved tells c.args.limit c.form.result group seat turn site next old new c.log.result f may.knows apart may.rests.idle may.marked is c.form.ensures.carried l.ok l.leaves l.failed later c.in_ok-log.was end was states drops;
      cut = sym (drops.last ∙ f.last);
      limited = λ before. drops_keep_limit c.args.limit.0 (drops_from 0 was next.told) turn end drops (form_keeps_limit c.args.limit c.form.result group seat turn f before);
      room = c.form.ensures.room;
      seat = stays_then seat turn end (stays_formed c.args.limit (form_reply c.form.result (shown_in group)) seat turn c.form.ensures.called) c.drop_suspended.ensures.seat;
      works = works;
      numbers = drops_use 1 2 1 (drops_from 0 was next.told) seat turn end site next (Ok tt) drops
          (form_uses c.args.limit c.form.result group seat turn site next (Ok tt) f (uses_as 2 1 site next c.log.result (Ok tt) c.in_ok-log.was (log_uses tells group site next old new c.log.result l.ok)));
    }
