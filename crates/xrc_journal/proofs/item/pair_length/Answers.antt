use Rattle.std.proofs.Common.{ℕ, take, Some, sym, ap, ◌∙◌, arith}
use Rattle.pair_table.specs.Rows.{row_by}
use Rattle.xrc_journal.proofs.ItemSteps.{pair_cut, pair_none, pair_whole}
use Rattle.xrc_journal.proofs.item.pair_length.Goals as goal

pub returns-then-fields-length : goal.returns-then-fields-length
returns-then-fields-length c = λ place. sym (pair_cut c.args.version place c.args.fields.now (omega (arith, c.if-fields-length.true, c.row_length-length.ensures)))

pub returns-in-Some : goal.returns-in-Some
returns-in-Some c = λ place.
    let fields = c.args.fields.now in
    let read = ap (λ (n : ℕ). row_by c.args.version (take n fields)) (sym c.row_length-length.ensures) ∙ sym c.decode_row_of.ensures ∙ c.in-Some.is in
    ap Some c.row_item.ensures ∙ sym (pair_whole c.args.version place fields c.in-Some.field-0 (λ i. omega (arith, c.type_inv.fields i)) (omega (arith, c.if-fields-length.false, c.row_length-length.ensures)) read)

pub returns-in-None : goal.returns-in-None
returns-in-None c = λ place.
    let fields = c.args.fields.now in
    let read = ap (λ (n : ℕ). row_by c.args.version (take n fields)) (sym c.row_length-length.ensures) ∙ sym c.decode_row_of.ensures ∙ c.in-None.is in
    sym (pair_none c.args.version place fields (omega (arith, c.if-fields-length.false, c.row_length-length.ensures)) read)
