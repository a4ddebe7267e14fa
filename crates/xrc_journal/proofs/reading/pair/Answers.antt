use Rattle.std.proofs.Common.{◌≡◌, ◌-◌, ℕ, take, drop, Option, Some, None, sym, ap, ◌∙◌, arith}
use Rattle.std.proofs.lemmas.Option.{same_Some}
use Rattle.pair_table.specs.declared.row.PairRow.{PairRow}
use Rattle.pair_table.specs.Rows.{row_by, row_length}
use Rattle.xrc_journal.proofs.Told.{row_begins, row_here, row_within}
use Rattle.xrc_journal.proofs.reading.pair.Goals as goal

none_is : (row : PairRow) → (let a : Option PairRow = None in let b : Option PairRow = Some row in a ≡ b) → ⊥
none_is row e = cc

pub slice_bounds-decode_row_of-end : goal.slice_bounds-decode_row_of-end
slice_bounds-decode_row_of-end c =
    let row = row_begins c.args.version c.args.bytes.now c.requires.item c.requires.version c.requires.tag in
    omega (arith, row_within c.args.version c.args.bytes.now row.0 row.1, c.row_item.ensures)

pub unreachable-requires : goal.unreachable-requires
unreachable-requires c =
    let version = c.args.version in
    let bytes = c.args.bytes.now in
    let row = row_begins version bytes c.requires.item c.requires.version c.requires.tag in
    let long : c.row_item.result - 1 ≡ row_length version = omega (arith, c.row_item.ensures) in
    none_is row.0 (sym c.in-None.is ∙ c.decode_row_of.ensures ∙ ap (λ (n : ℕ). row_by version (take n (drop 1 bytes))) long ∙ row_here version bytes row.0 row.1)

pub returns : goal.returns
returns c = λ row begins.
    let version = c.args.version in
    let bytes = c.args.bytes.now in
    let long : c.row_item.result - 1 ≡ row_length version = omega (arith, c.row_item.ensures) in
    same_Some c.in-Some.row row (sym c.in-Some.is ∙ c.decode_row_of.ensures ∙ ap (λ (n : ℕ). row_by version (take n (drop 1 bytes))) long ∙ row_here version bytes row begins)
