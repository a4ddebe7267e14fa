use Rattle.std.proofs.Common.{◌≡◌, ℕ, Option, sym, ap, ◌∙◌}
use Rattle.std.specs.Prelude.{ok_or, Err}
use Rattle.crash_plant.specs.declared.device.Device.TheVariants.{State}
use Rattle.state_set.specs.Slots.{Stored, state_slot_place, state_at, state_of}
use Rattle.pair_table.specs.Tables.{are_below}
use Rattle.state_set.proofs.Below.{found_below}
use Rattle.state_set.proofs.Windows.{read_is, some_state, found_started, no_state}
use Rattle.state_set.proofs.slots.get.Goals as goal

pub returns-in-Ok-Some-clause-holds : goal.returns-in-Ok-Some-clause-holds
returns-in-Ok-Some-clause-holds g c told =
    let old = g.P.Plant.state c.args.plant.now in
    let volumes = c.volumes.ensures ∙ c.read_slot.ensures.only.site.volumes in
    let read = some_state c.args.session (state_at c.volumes.result c.args.session c.in-Ok.bytes) c.in-Ok-Some.found (sym c.in-Ok-Some.field-0-is ∙ c.in-Ok-Some.ensures) in
    ap (λ (v : ℕ). state_of v c.args.session c.args.slot (old.bytes State)) (sym volumes)
    ∙ read_is c.volumes.result c.args.slot c.args.session (old.bytes State) c.in-Ok.bytes (c.in-Ok.ensures.bytes told)
    ∙ ap (λ (o : Option Stored). ok_or o (state_slot_place c.args.slot)) read

pub returns-in-Ok-None-clause-damaged : goal.returns-in-Ok-None-clause-damaged
returns-in-Ok-None-clause-damaged g c told place is =
    let old = g.P.Plant.state c.args.plant.now in
    let volumes = c.volumes.ensures ∙ c.read_slot.ensures.only.site.volumes in
    let same : c.slot_place.result ≡ place = cc in
    let none = no_state c.args.session (state_at c.volumes.result c.args.session c.in-Ok.bytes) (sym c.in-Ok-None.field-0-is ∙ c.in-Ok-None.ensures) in
    ap (λ (v : ℕ). state_of v c.args.session c.args.slot (old.bytes State)) (sym volumes)
    ∙ read_is c.volumes.result c.args.slot c.args.session (old.bytes State) c.in-Ok.bytes (c.in-Ok.ensures.bytes told)
    ∙ ap (λ (o : Option Stored). ok_or o (state_slot_place c.args.slot)) none
    ∙ ap (λ (p : ℕ). Err p) (sym c.slot_place.ensures ∙ same)

pub returns-in-Ok-Some-clause-below : goal.returns-in-Ok-Some-clause-below
returns-in-Ok-Some-clause-below g c =
    let volumes = c.volumes.ensures ∙ c.read_slot.ensures.only.site.volumes in
    ap (λ (v : ℕ). are_below v c.in-Ok-Some.found.1.rows) (sym volumes) ∙ found_below c.volumes.result c.args.session c.in-Ok.bytes c.in-Ok-Some.found (sym c.in-Ok-Some.field-0-is ∙ c.in-Ok-Some.ensures)

pub returns-in-Ok-Some-clause-started : goal.returns-in-Ok-Some-clause-started
returns-in-Ok-Some-clause-started g c = found_started c.args.session (state_at c.volumes.result c.args.session c.in-Ok.bytes) c.in-Ok-Some.found (sym c.in-Ok-Some.field-0-is ∙ c.in-Ok-Some.ensures)
