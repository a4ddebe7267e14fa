use Rattle.std.proofs.Common.{rules, arith, sym, subst, ◌∙◌, ◌≡◌, ◌≢◌, ℕ, slice_index}
use Rattle.std.proofs.lemmas.Result.{on_ok_weaker}
use Rattle.crash_plant.specs.declared.device.Device.TheVariants.{Volume}
use Rattle.copy_progress.specs.Progresses.{IsProgressInRange}
use Rattle.copy_progress.proofs.Chosen.{gate_opened, gate_closed, put_step, put_written, put_chosen}
use Rattle.copy_progress.proofs.noting.put_beside.Goals as goal

pub put_behind_gate-requires-clause-opened : goal.put_behind_gate-requires-clause-opened
put_behind_gate-requires-clause-opened g c κs within told open_now =
    let slots = c.requires.slots told in
    let start = (g.P.Plant.state c.args.plant.now).bytes (Volume c.args.device) in
    subst (λ (p : ℕ). slice_index start p ≡ 1) (sym c.place_of.ensures)
    (gate_opened start c.args.slots.now.first c.args.slots.now.second slots.first slots.second c.is_second_slot_free-is_second.result (sym c.is_gate_open-is_open.ensures ∙ open_now))

pub put_behind_gate-requires-clause-closed : goal.put_behind_gate-requires-clause-closed
put_behind_gate-requires-clause-closed g c κs within told shut_now =
    let slots = c.requires.slots told in
    let start = (g.P.Plant.state c.args.plant.now).bytes (Volume c.args.device) in
    subst (λ (p : ℕ). slice_index start p ≢ 1) (sym c.place_of.ensures)
    (gate_closed start c.args.slots.now.first c.args.slots.now.second slots.first slots.second c.is_second_slot_free-is_second.result (sym c.is_gate_open-is_open.ensures ∙ shut_now))

pub returns-clause-moments : goal.returns-clause-moments
returns-clause-moments g c told t from to f left =
    let here = Volume c.args.device in
    let old = g.P.Plant.state c.args.plant.now in
    let range : IsProgressInRange c.args.value = record { number = search rules; session = c.encode-body.ensures.session; time = search rules; primary = c.encode-body.ensures.primary; tracks = search rules; next = search rules } in
    let slots = c.requires.slots told in
    let step = c.put_behind_gate.ensures.moments told t from to f left in (
      step.0,
      step.1,
      put_step (old.bytes here) c.args.slots.now.first c.args.slots.now.second slots.first slots.second c.is_second_slot_free-is_second.result c.is_second_slot_free-is_second.ensures c.place_of.result c.place_of.ensures
          c.args.value c.requires.keeps range (c.requires.next told) c.encode-body.result c.encode-body.ensures.spelled step.0 f (c.requires.durable told step.0 step.1) step.2,
    )

pub returns-clause-written : goal.returns-clause-written
returns-clause-written g c told =
    let here = Volume c.args.device in
    let old = g.P.Plant.state c.args.plant.now in
    let slots = c.requires.slots told in
    on_ok_weaker c.put_behind_gate.result (λ e. put_written (old.bytes here) c.args.slots.now.first c.args.slots.now.second slots.first slots.second c.is_second_slot_free-is_second.result c.is_second_slot_free-is_second.ensures c.place_of.result c.place_of.ensures
    c.args.value c.encode-body.result c.encode-body.ensures.spelled _ e) (c.put_behind_gate.ensures.written told)

pub returns-clause-chosen : goal.returns-clause-chosen
returns-clause-chosen g c told =
    let here = Volume c.args.device in
    let old = g.P.Plant.state c.args.plant.now in
    let range : IsProgressInRange c.args.value = record { number = search rules; session = c.encode-body.ensures.session; time = search rules; primary = c.encode-body.ensures.primary; tracks = search rules; next = search rules } in
    let size = g.met.P.Plant.length_told c.args.plant.now here told c.requires.there in
    on_ok_weaker c.put_behind_gate.result (λ e. put_chosen c.args.value c.requires.keeps range (old.bytes here) (c.requires.next told) _ (omega (arith, size, c.requires.long)) e) (returns-clause-written g c told)
