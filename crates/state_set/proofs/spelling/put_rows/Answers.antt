use Rattle.std.proofs.Common.{◌≡◌, ℕ, ◌+◌, ◌*◌, ◌-◌, ◌≤◌, List, ◌++◌, length, take, drop, ap, sym, ◌∙◌, arith, length-take, length-drop}
use Rattle.std.proofs.lemmas.List.{take_all}
use Rattle.std.proofs.lemmas.Slice.{take-put_mid}
use Rattle.pair_table.specs.Rows.{row_spelling}
use Rattle.state_set.specs.Slots.{rows_spelling}
use Rattle.state_set.proofs.Spelled.{spelled_more}
use Rattle.state_set.proofs.spelling.put_rows.Goals as goal

pub loop-place-preserved : goal.loop-place-preserved
loop-place-preserved c =
    let rows = c.rows-row-items.result.now in
    let i = c.loop-place.place in
    let from = 38 * i in
    let n = 38 * i + 38 - 38 * i in
    let out = c.loop-place.out in
    let new = c.copy_from_slice.new.self in
    let room : from + 38 ≤ length out = omega (arith, c.loop-place.auto.out, c.requires, c.loop-place-test.true, ap length c.rows-row-items.ensures.rows) in
    let long : length new ≡ 38 = omega (arith, c.copy_from_slice.ensures.len, length-take n (drop from out), length-drop from out, room) in
    let spelled : new ≡ row_spelling c.row-item.result = c.copy_from_slice.ensures.after ∙ c.encode_row.ensures.spelled in
    take-put_mid from n out new (38 * (i + 1)) (omega (arith, long)) (omega (arith, room))
    ∙ ap (λ (t : List ℕ). t ++ new) c.loop-place.invariant
    ∙ ap (λ (t : List ℕ). rows_spelling 2 (take i rows) ++ t) spelled
    ∙ sym (spelled_more rows i c.row-item.result c.loop-place-test.true c.row-item.is)

pub returns : goal.returns
returns c =
    let rows = c.rows-row-items.result.now in
    let same = c.rows-row-items.ensures.rows in
    sym (take_all (38 * c.loop-place.place) c.loop-place.out (omega (arith, c.loop-place.auto.out, c.requires, c.loop-place-test.false, ap length same)))
    ∙ c.loop-place.invariant
    ∙ ap (rows_spelling 2) (take_all c.loop-place.place rows (omega (arith, c.loop-place-test.false)) ∙ same)
