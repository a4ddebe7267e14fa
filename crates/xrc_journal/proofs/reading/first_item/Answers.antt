use Rattle.std.proofs.Common.{rules, ◌≤◌, ◌≢◌, slice_index, length, refl, sym, ap, subst}
use Rattle.xrc_journal.specs.Items.{Item}
use Rattle.xrc_journal.specs.Bodies.{BeginsWith}
use Rattle.xrc_journal.specs.Views.{first_told}
use Rattle.xrc_journal.proofs.Told.{first_of, none_of, begins_item, row_of_tag, gone_of_tag, pair_told, gone_told}
use Rattle.xrc_journal.proofs.reading.first_item.Goals as goal

pub returns-then-is_empty : goal.returns-then-is_empty
returns-then-is_empty c = record { item = λ earlier items keep spelled. ap first_told (sym (none_of c.args.bytes.now items spelled (search rules))) }

pub image-requires-clause-item : goal.image-requires-clause-item
image-requires-clause-item c =
    let some : 1 ≤ length c.args.bytes.now = search rules in
    begins_item c.args.bytes.now c.requires.items (first_of c.args.bytes.now c.requires.earlier c.requires.items c.requires.keep c.requires.spelled some)

pub pair-requires-clause-item : goal.pair-requires-clause-item
pair-requires-clause-item c =
    let some : 1 ≤ length c.args.bytes.now = search rules in
    begins_item c.args.bytes.now c.requires.items (first_of c.args.bytes.now c.requires.earlier c.requires.items c.requires.keep c.requires.spelled some)

pub gone-requires-clause-item : goal.gone-requires-clause-item
gone-requires-clause-item c =
    let some : 1 ≤ length c.args.bytes.now = search rules in
    begins_item c.args.bytes.now c.requires.items (first_of c.args.bytes.now c.requires.earlier c.requires.items c.requires.keep c.requires.spelled some)

pub pair-requires-in-5-clause-item : goal.pair-requires-in-5-clause-item
pair-requires-in-5-clause-item c =
    let some : 1 ≤ length c.args.bytes.now = search rules in
    begins_item c.args.bytes.now c.requires.items (first_of c.args.bytes.now c.requires.earlier c.requires.items c.requires.keep c.requires.spelled some)

pub returns-in-3 : goal.returns-in-3
returns-in-3 c = record {
  item = λ earlier items keep spelled.
      let some : 1 ≤ length c.args.bytes.now = search rules in
      let f = first_of c.args.bytes.now earlier items keep spelled some in
      let row = row_of_tag 1 c.args.bytes.now f.item refl c.in-3.is f.begins in
      pair_told 1 c.args.bytes.now items f row.0 c.pair.result row.1 (c.pair.ensures row.0 (subst (λ (i : Item). BeginsWith c.args.bytes.now i) row.1 f.begins));
}

pub returns-in-5 : goal.returns-in-5
returns-in-5 c = record {
  item = λ earlier items keep spelled.
      let some : 1 ≤ length c.args.bytes.now = search rules in
      let f = first_of c.args.bytes.now earlier items keep spelled some in
      let row = row_of_tag 2 c.args.bytes.now f.item refl c.in-5.is f.begins in
      pair_told 2 c.args.bytes.now items f row.0 c.pair-in-5.result row.1 (c.pair-in-5.ensures row.0 (subst (λ (i : Item). BeginsWith c.args.bytes.now i) row.1 f.begins));
}

pub returns-in_default : goal.returns-in_default
returns-in_default c = record {
  item = λ earlier items keep spelled.
      let some : 1 ≤ length c.args.bytes.now = search rules in
      let f = first_of c.args.bytes.now earlier items keep spelled some in
      let image : slice_index c.args.bytes.now 0 ≢ 1 = search rules in
      let narrow : slice_index c.args.bytes.now 0 ≢ 3 = search rules in
      let pair : slice_index c.args.bytes.now 0 ≢ 5 = search rules in
      let gone = gone_of_tag c.args.bytes.now f.item image narrow pair f.begins in
      gone_told c.args.bytes.now items f gone.0 c.gone.result gone.1 (c.gone.ensures gone.0 (subst (λ (i : Item). BeginsWith c.args.bytes.now i) gone.1 f.begins));
}
