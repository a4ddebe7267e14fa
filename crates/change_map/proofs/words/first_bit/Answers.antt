use Rattle.std.proofs.Common.{◌*◌, ◌/◌, get_or, inl, inr, refl, arith}
use Rattle.std.proofs.lemmas.Bool.{cases_lt}
use Rattle.change_map.proofs.Bits.{next_of_word, zero_word, past_words}
use Rattle.change_map.proofs.words.first_bit.Goals as goal

pub returns-then-word-ne0-clause-some : goal.returns-then-word-ne0-clause-some
returns-then-word-ne0-clause-some c =
    next_of_word c.args.words.now c.loop-k.k (get_or c.args.words.now c.loop-k.k 0) (64 * c.args.from) refl (omega (arith, c.if-word-ne0.true)) (c.type_inv.words c.loop-k.k).fits (omega (arith, c.loop-k.auto.k)) c.loop-k.invariant

pub loop-k-init : goal.loop-k-init
loop-k-init c = λ x from before. zero_word c.args.words.now (x / 64) x (c.past_clear-k.ensures.clear (x / 64) (omega (arith, from)) (omega (arith, before))) refl

pub loop-k-preserved : goal.loop-k-preserved
loop-k-preserved c = λ x from before. elim (cases_lt x (64 * c.loop-k.k)) [
  | inl lower ↦ c.loop-k.invariant x from lower
  | inr here ↦ zero_word c.args.words.now c.loop-k.k x c.if-word-ne0.false (omega arith)
]

pub returns-clause-none : goal.returns-clause-none
returns-clause-none c = λ _ x from. elim (cases_lt x (64 * c.loop-k.k)) [
  | inl lower ↦ c.loop-k.invariant x from lower
  | inr past ↦ past_words c.args.words.now x (omega (arith, c.loop-k-test.false))
]
