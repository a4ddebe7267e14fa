use Rattle.std.proofs.Common.{◌+◌, ◌/◌, replicate, refl, ap, ◌∙◌, arith, rules}
use Rattle.change_map.proofs.Bits.{first_bits, full_bits}
use Rattle.change_map.proofs.words.set_first.Goals as goal

pub returns-then-over-ne0-clause-bits : goal.returns-then-over-ne0-clause-bits
returns-then-over-ne0-clause-bits c = λ x. first_bits ((c.args.bits + 63) / 64) c.args.bits x c.fill.new.self refl (omega (arith, c.if-over-ne0.true)) (c.fill.ensures.after (search rules) ∙ ap (λ k. replicate k 18446744073709551615) c.requires)

pub returns-else-over-ne0-clause-bits : goal.returns-else-over-ne0-clause-bits
returns-else-over-ne0-clause-bits c = λ x. full_bits ((c.args.bits + 63) / 64) c.args.bits x c.fill.new.self (omega (arith, c.requires, c.if-over-ne0.false)) (c.fill.ensures.after (search rules) ∙ ap (λ k. replicate k 18446744073709551615) c.requires)
