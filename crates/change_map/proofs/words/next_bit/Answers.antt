use Rattle.std.proofs.Common.{◌+◌, ◌*◌, ◌/◌, get_or, inl, inr, refl, arith}
use Rattle.std.proofs.lemmas.Bool.{cases_lt}
use Rattle.change_map.proofs.Bits.{next_in_word, next_within, none_in_word, next_sooner, past_words}
use Rattle.change_map.proofs.words.next_bit.Goals as goal

pub returns-then-first-words-clause-none : goal.returns-then-first-words-clause-none
returns-then-first-words-clause-none c = λ _ x from. past_words c.args.words.now x (omega (arith, c.if-first-words.true))

pub overflow_add-result : goal.overflow_add-result
overflow_add-result c =
    let word = get_or c.args.words.now (c.args.from / 64) 0 in
    let within = next_within c.args.words.now word c.args.from refl (c.type_inv.words (c.args.from / 64)).fits (omega (arith, c.if-rest-ne0.true)) in
    record { fits = omega (arith, within, c.if-first-words.false, c.requires.few) }

pub returns-then-rest-ne0-clause-some : goal.returns-then-rest-ne0-clause-some
returns-then-rest-ne0-clause-some c =
    next_in_word c.args.words.now (get_or c.args.words.now (c.args.from / 64) 0) c.args.from refl (c.type_inv.words (c.args.from / 64)).fits (omega (arith, c.if-rest-ne0.true))

pub returns-clause-none : goal.returns-clause-none
returns-clause-none c = λ nowhere x from. elim (cases_lt x (64 * (c.args.from / 64 + 1))) [
  | inl here ↦
      let word = get_or c.args.words.now (c.args.from / 64) 0 in
      none_in_word c.args.words.now word c.args.from refl (c.type_inv.words (c.args.from / 64)).fits c.if-rest-ne0.false x from (omega arith)
  | inr after ↦ c.first_bit.ensures.none nowhere x after
]

pub returns-clause-some : goal.returns-clause-some
returns-clause-some c =
    let word = get_or c.args.words.now (c.args.from / 64) 0 in
    next_sooner c.args.words.now c.args.from (64 * (c.args.from / 64 + 1)) c.first_bit.result (omega arith) (λ x from before. none_in_word c.args.words.now word c.args.from refl (c.type_inv.words (c.args.from / 64)).fits c.if-rest-ne0.false x from (omega arith)) c.first_bit.ensures.some
