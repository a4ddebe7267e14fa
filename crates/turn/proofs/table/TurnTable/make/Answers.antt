use Rattle.std.proofs.Common.{rules, arith, ◌≤◌, ℕ, sym, subst}
use Rattle.std.proofs.lemmas.Grind.{common_steps}
use Rattle.turn.specs.Turn.{AllTrue, notes_about}
use Rattle.turn.proofs.Keeps.{begins_as}
use Rattle.turn.proofs.table.TurnTable.make.Goals as goal

pub new-requires : goal.new-requires
new-requires g c =
    let m = g.M.Machine in
    let same = sym c.of-key.ensures in
    begins_as m.steps m.part m.says _ _ _ (subst (λ x. AllTrue m.says x (m.notes x)) same c.requires.notes) (subst (λ x. (k : ℕ) → notes_about m.part k (m.notes x) ≤ 1) same c.requires.apart)
    (first_of (search rules, grind (arith, common_steps)))
