use Rattle.std.proofs.Common.{sym, subst, ◌≡◌, ℕ, List, ◌+◌, ◌-◌, drop, take, ◌∙◌, ap, arith}
use Rattle.crash_plant.specs.declared.device.Device.TheVariants.{Control}
use Rattle.control_set.specs.declared.slot.Slot.{Slot}
use Rattle.control_set.specs.Slots.{HoldsMark, lengths_of, slot_of}
use Rattle.control_set.proofs.Lengths.{same_lengths}
use Rattle.control_set.proofs.Keeps.{slot_keeps}
use Rattle.control_set.proofs.Reading.{first_part}
use Rattle.control_set.proofs.choosing.read_slot.Goals as goal

pub returns-clause-slot : goal.returns-clause-slot
returns-clause-slot g c told =
    let old = g.P.Plant.state c.args.plant.now in
    let new = g.P.Plant.state c.read.new.self in
    let bytes = old.bytes Control in
    let n : c.args.place + 49 - c.args.place ≡ 49 = omega arith in
    c.decode.ensures ∙ ap (λ (ls : List ℕ). slot_of ls c.read.new.into) (same_lengths old new c.read.ensures.only.site)
    ∙ ap (λ (l : List ℕ). slot_of (lengths_of old) l) (c.in_ok-read.ensures.bytes told ∙ ap (λ (k : ℕ). take k (drop c.args.place bytes)) n) ∙ first_part (lengths_of old) (drop c.args.place bytes)

pub returns-clause-keeps : goal.returns-clause-keeps
returns-clause-keeps g c =
    let old = g.P.Plant.state c.args.plant.now in
    let new = g.P.Plant.state c.read.new.self in
    let is = c.decode.ensures ∙ ap (λ (ls : List ℕ). slot_of ls c.read.new.into) (same_lengths old new c.read.ensures.only.site) in
    subst (λ (s : Slot). HoldsMark (lengths_of old) s) (sym is) (slot_keeps (lengths_of old) c.read.new.into)
