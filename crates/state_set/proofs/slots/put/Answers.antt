use Rattle.std.proofs.Common.{◌≡◌, ℕ, List, length, take, ap, ◌∙◌, arith, length-take}
use Rattle.crash_plant.specs.declared.device.Device.TheVariants.{State}
use Rattle.crash_plant.specs.Bytes.{patched}
use Rattle.state_set.specs.Slots.{state_slot_place, state_length, state_of}
use Rattle.state_set.proofs.Windows.{one_slot, stands}
use Rattle.state_set.proofs.slots.put.Goals as goal

pub returns-in-Ok-clause-moments : goal.returns-in-Ok-clause-moments
returns-in-Ok-clause-moments g c told t from to f left =
    let out = c.encode-end.new.out in
    let rows = c.args.table.now.rows in
    let long : length (take c.encode-end.result out) ≡ state_length rows = omega (arith, length-take c.encode-end.result out, c.encode-end.array_long, c.encode-end.ensures.length, c.encode-end.ensures.rules.few) in
    let step = c.put_down.ensures.moments told t from to f left in
    (step.0, step.1, one_slot c.args.slot (state_length rows) c.slot_place.result (length (take c.encode-end.result out)) step.0 f c.requires.slot (omega (arith, c.encode-end.ensures.rules.few)) c.slot_place.ensures long step.2)

pub returns-in-Ok-clause-holds : goal.returns-in-Ok-clause-holds
returns-in-Ok-clause-holds g c told =
    let old = g.P.Plant.state c.args.plant.now in
    let new = g.P.Plant.state c.put_down.new.plant in
    let out = c.encode-end.new.out in
    let table = c.args.table.now in
    let size = g.met.P.Plant.length_told c.args.plant.now State told tt in
    let written =
    c.in-Ok.ensures.written told ∙ ap (λ (p : ℕ). patched p (take c.encode-end.result out) (old.bytes State)) c.slot_place.ensures
    ∙ ap (λ (t : List ℕ). patched (state_slot_place c.args.slot) t (old.bytes State)) (ap (λ (n : ℕ). take n out) c.encode-end.ensures.length ∙ c.encode-end.ensures.spelled) in
    ap (λ (v : ℕ). state_of v table.session c.args.slot (new.bytes State)) c.put_down.ensures.only.site.volumes
    ∙ stands old.volumes c.args.slot table.session c.args.level table.rows (old.bytes State) (new.bytes State) c.encode-end.ensures.valid c.encode-end.ensures.rules c.requires.devices
    (omega (arith, size, c.requires.long, c.requires.slot)) written

pub returns-in-Err-clause-moments : goal.returns-in-Err-clause-moments
returns-in-Err-clause-moments g c told t from to f left =
    let out = c.encode-end.new.out in
    let rows = c.args.table.now.rows in
    let long : length (take c.encode-end.result out) ≡ state_length rows = omega (arith, length-take c.encode-end.result out, c.encode-end.array_long, c.encode-end.ensures.length, c.encode-end.ensures.rules.few) in
    let step = c.put_down.ensures.moments told t from to f left in
    (step.0, step.1, one_slot c.args.slot (state_length rows) c.slot_place.result (length (take c.encode-end.result out)) step.0 f c.requires.slot (omega (arith, c.encode-end.ensures.rules.few)) c.slot_place.ensures long step.2)
