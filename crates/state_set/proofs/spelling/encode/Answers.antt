use Rattle.std.proofs.Common.{◌≡◌, ℕ, ◌+◌, ◌*◌, ◌-◌, List, ◌++◌, length, drop, ap, ◌∙◌, arith, length-take, length-append}
use Rattle.std.proofs.lemmas.List.{take_at}
use Rattle.std.proofs.lemmas.Slice.{take-put_mid}
use Rattle.state_set.specs.Slots.{head_spelling, rows_spelling, state_length}
use Rattle.state_set.proofs.Spelled.{rows_length}
use Rattle.state_set.proofs.spelling.encode.Goals as goal

pub returns-clause-spelled : goal.returns-clause-spelled
returns-clause-spelled c =
    let rows = c.args.table.now.rows in
    let level = c.args.level in
    let front = c.copy_from_slice.new.self in
    let rest = drop 15 c.args.out.now in
    let long : length front ≡ 15 = omega (arith, c.copy_from_slice.ensures.len, length-take 15 c.args.out.now, c.told-out) in
    let count : length (rows_spelling 2 rows) ≡ 38 * length rows = rows_length rows c.len-count.ensures.rules.each in
    take-put_mid 15 (15 + 38 * c.from.result - 15) (front ++ rest) c.put_rows.new.out (state_length rows) (omega (arith, count, ap length c.put_rows.ensures)) (omega (arith, long, length-append front rest))
    ∙ ap (λ (t : List ℕ). t ++ c.put_rows.new.out) (take_at front rest 15 long ∙ c.copy_from_slice.ensures.after ∙ c.head.ensures.head)
    ∙ ap (λ (t : List ℕ). head_spelling 2 t level c.len-count.result ++ c.put_rows.new.out) c.session.ensures
    ∙ ap (λ (n : ℕ). head_spelling 2 c.args.table.now.session level n ++ c.put_rows.new.out) c.len-count.ensures.count
    ∙ ap (λ (t : List ℕ). head_spelling 2 c.args.table.now.session level (length rows) ++ t) c.put_rows.ensures
