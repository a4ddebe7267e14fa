use Rattle.std.proofs.Common.{rules, Bool, cond, sym, ◌∙◌, ap}
use Rattle.control_set.specs.declared.value.Mark.{Mark}
use Rattle.control_set.specs.declared.slot.Slot.TheVariants.{Holds, Damaged}
use Rattle.control_set.specs.Places.{mark_in}
use Rattle.control_set.specs.Slots.{lengths_of}
use Rattle.control_set.proofs.Reading.{open_is, no_session}
use Rattle.control_set.proofs.slot.decode.Goals as goal

pub returns-in_default : goal.returns-in_default
returns-in_default g c =
    let lengths = lengths_of (g.P.Plant.state c.args.plant.now) in
    sym (open_is lengths c.args.bytes.now (search rules) c.if-bytes-ne1.false ∙ ap (λ (b : Bool). cond b (Holds (mark_in c.args.bytes.now)) Damaged) (no_session lengths c.args.bytes.now (search rules) c.in_default.ensures))

pub returns-then-keeps_table : goal.returns-then-keeps_table
returns-then-keeps_table g c =
    ap (λ (m : Mark). Holds m) c.fields-mark.ensures
    ∙ sym (open_is (lengths_of (g.P.Plant.state c.args.plant.now)) c.args.bytes.now (search rules) c.if-bytes-ne1.false ∙ ap (λ (b : Bool). cond b (Holds (mark_in c.args.bytes.now)) Damaged) (sym c.keeps_table.ensures ∙ c.if-keeps_table.true))

pub returns-else-keeps_table : goal.returns-else-keeps_table
returns-else-keeps_table g c =
    sym (open_is (lengths_of (g.P.Plant.state c.args.plant.now)) c.args.bytes.now (search rules) c.if-bytes-ne1.false ∙ ap (λ (b : Bool). cond b (Holds (mark_in c.args.bytes.now)) Damaged) (sym c.keeps_table.ensures ∙ c.if-keeps_table.false))
