use Rattle.std.proofs.Common.{◌≡◌, ◌≤◌, ℕ, nat_le, sym, ◌∙◌, arith, inl, inr}
use Rattle.std.proofs.lemmas.Bool.{cases_lt, le-leb, lt-leb}
use Rattle.control_set.proofs.Lengths.{no_set, a_set}
use Rattle.control_set.proofs.slot.has_room.Goals as goal

same_test : (a b c d : ℕ) → (a ≤ b → c ≤ d) → (c ≤ d → a ≤ b) → nat_le a b ≡ nat_le c d
same_test a b c d to from = elim (cases_lt b a) [
  | inl above ↦ lt-leb a b above ∙ sym (elim (cases_lt d c) [ inl over ↦ lt-leb c d over | inr under ↦ absurd (omega (arith, from under, above)) ])
  | inr below ↦ le-leb a b below ∙ sym (le-leb c d (to below))
]

pub returns-then-at-journals : goal.returns-then-at-journals
returns-then-at-journals g c = sym (no_set (g.P.Plant.state c.args.plant.now) c.args.at.set c.args.at.place (omega (arith, c.journals.ensures, c.if-at-journals.true)))

pub returns-then-length-ge-SWITCH : goal.returns-then-length-ge-SWITCH
returns-then-length-ge-SWITCH g c =
    same_test c.args.at.place _ _ _ (λ le. omega (arith, le, c.if-length-ge-SWITCH.true, c.length-length.ensures)) (λ le. omega (arith, le, c.if-length-ge-SWITCH.true, c.length-length.ensures))
    ∙ sym (a_set (g.P.Plant.state c.args.plant.now) c.args.at.set c.args.at.place (omega (arith, c.journals.ensures, c.if-at-journals.false)))

pub returns-else-length-ge-SWITCH : goal.returns-else-length-ge-SWITCH
returns-else-length-ge-SWITCH g c =
    same_test 24 _ _ _ (λ le. absurd (omega (arith, le, c.if-length-ge-SWITCH.false))) (λ le. absurd (omega (arith, le, c.if-length-ge-SWITCH.false, c.length-length.ensures)))
    ∙ sym (a_set (g.P.Plant.state c.args.plant.now) c.args.at.set c.args.at.place (omega (arith, c.journals.ensures, c.if-at-journals.false)))
