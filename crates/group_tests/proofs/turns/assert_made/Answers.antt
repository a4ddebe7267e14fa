use Rattle.std.proofs.Common.{rules, arith, ◌≡◌, ◌+◌, ◌-◌, ◌<◌, length, get_or, Some, None, sym, ap, ◌∙◌}
use Rattle.group_state.proofs.GroupLaws.{length_new}
use Rattle.turn_group.specs.Seats.{MoverSeatState, new_mover, new_readers}
use Rattle.group_tests.proofs.Sitting.{place_empty, home_again, all_seated, as_many_seats}
use Rattle.group_tests.proofs.turns.assert_made.Goals as goal

pub put-requires : goal.put-requires
put-requires g c =
    let made = c.expect-group.result in
    let state = c.expect-state.result in
    let n = length state.controls in
    let are : made.2 ≡ new_readers made.0.table state n = search rules in
    let many : n ≡ c.args.controls = search (rules, length_new) in
    let lt : c.args.controls - 1 < n = omega (arith, many, c.requires.some) in
    let was : Some c.expect-last.result ≡ get_or made.2 (c.args.controls - 1) None = search rules in
    record { empty = place_empty made.0.table state n (c.args.controls - 1) made.2 c.take.new.self made.2 c.expect-last.result are lt c.take.ensures.left was }

pub close-end-requires-clause-readers : goal.close-end-requires-clause-readers
close-end-requires-clause-readers g c =
    let made = c.expect-group.result in
    let state = c.expect-state.result in
    let n = length state.controls in
    let are : made.2 ≡ new_readers made.0.table state n = search rules in
    let many : n ≡ c.args.controls = search (rules, length_new) in
    let lt : c.args.controls - 1 < n = omega (arith, many, c.requires.some) in
    let was : Some c.expect-last.result ≡ get_or made.2 (c.args.controls - 1) None = search rules in
    all_seated made.0.table state n c.put.new.self (home_again made.0.table state n (c.args.controls - 1) made.2 c.take.new.self c.put.new.self c.expect-last.result are lt c.take.ensures.left was (search rules))

pub close-end-requires-clause-all : goal.close-end-requires-clause-all
close-end-requires-clause-all g c =
    let made = c.expect-group.result in
    let state = c.expect-state.result in
    let n = length state.controls in
    let are : made.2 ≡ new_readers made.0.table state n = search rules in
    let many : n ≡ c.args.controls = search (rules, length_new) in
    let lt : c.args.controls - 1 < n = omega (arith, many, c.requires.some) in
    let was : Some c.expect-last.result ≡ get_or made.2 (c.args.controls - 1) None = search rules in
    let mover : made.1 ≡ new_mover made.0.table state (n + 1) = search rules in
    ap (λ (m : MoverSeatState). m.seats) mover
    ∙ ap (λ k. k + 1)
    (sym (as_many_seats made.0.table state n c.put.new.self (home_again made.0.table state n (c.args.controls - 1) made.2 c.take.new.self c.put.new.self c.expect-last.result are lt c.take.ensures.left was (search rules))))
