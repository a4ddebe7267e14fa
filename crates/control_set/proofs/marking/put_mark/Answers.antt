use Rattle.std.proofs.Common.{rules, arith}
use Rattle.std.proofs.lemmas.Result.{on_ok_weaker}
use Rattle.crash_plant.specs.declared.device.Device.TheVariants.{Control}
use Rattle.control_set.specs.Marks.{IsInRange}
use Rattle.control_set.specs.Slots.{lengths_of}
use Rattle.control_set.proofs.Chosen.{put_step, put_written, put_chosen, there}
use Rattle.control_set.proofs.marking.put_mark.Goals as goal

pub returns-clause-moments : goal.returns-clause-moments
returns-clause-moments g c told t from to f left =
    let old = g.P.Plant.state c.args.plant.now in
    let range : IsInRange c.args.value = record { number = search rules; session = c.encode-body.ensures.session; state_slot = search rules; set = search rules; place = search rules; next = search rules; time = search rules } in
    let slots = c.requires.slots told in
    let step = c.put_behind_gate.ensures.moments told t from to f left in (
      step.0,
      step.1,
      put_step (lengths_of old) (old.bytes Control) c.args.slots.now.first c.args.slots.now.second slots.first slots.second c.is_second_free-is_second.result c.is_second_free-is_second.ensures c.place_of.result c.place_of.ensures
          c.args.value c.requires.keeps range (c.requires.next told) c.encode-body.result c.encode-body.ensures.spelled step.0 f (c.requires.durable told step.0 step.1) step.2,
    )

pub returns-clause-written : goal.returns-clause-written
returns-clause-written g c told =
    let old = g.P.Plant.state c.args.plant.now in
    let slots = c.requires.slots told in
    on_ok_weaker c.put_behind_gate.result (λ e. put_written (lengths_of old) (old.bytes Control) c.args.slots.now.first c.args.slots.now.second slots.first slots.second c.is_second_free-is_second.result c.is_second_free-is_second.ensures c.place_of.result c.place_of.ensures
    c.args.value c.encode-body.result c.encode-body.ensures.spelled _ e) (c.put_behind_gate.ensures.written told)

pub returns-clause-stands : goal.returns-clause-stands
returns-clause-stands g c told =
    let old = g.P.Plant.state c.args.plant.now in
    let range : IsInRange c.args.value = record { number = search rules; session = c.encode-body.ensures.session; state_slot = search rules; set = search rules; place = search rules; next = search rules; time = search rules } in
    let size = g.met.P.Plant.length_told c.args.plant.now Control told tt in
    on_ok_weaker c.put_behind_gate.result (λ e. there (lengths_of old) c.args.value c.requires.keeps range (old.bytes Control) (c.requires.next told) _ (omega (arith, size, c.requires.long)) e) (returns-clause-written g c told)

pub returns-clause-chosen : goal.returns-clause-chosen
returns-clause-chosen g c told =
    let old = g.P.Plant.state c.args.plant.now in
    let range : IsInRange c.args.value = record { number = search rules; session = c.encode-body.ensures.session; state_slot = search rules; set = search rules; place = search rules; next = search rules; time = search rules } in
    let size = g.met.P.Plant.length_told c.args.plant.now Control told tt in
    on_ok_weaker c.put_behind_gate.result (λ e. put_chosen (lengths_of old) c.args.value c.requires.keeps range (old.bytes Control) (c.requires.next told) _ (omega (arith, size, c.requires.long)) e) (returns-clause-written g c told)
