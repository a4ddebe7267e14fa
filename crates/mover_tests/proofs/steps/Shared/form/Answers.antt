use Rattle.std.proofs.Common.{rules, ◌≡◌, ◌≤◌, sym, subst}
use Rattle.tod_stamp.specs.declared.stamp.Stamp.{Stamp}
use Rattle.mover_tests.specs.Steps.{HaveControlsReported}
use Rattle.mover_tests.proofs.Stepping.{told_formed}
use Rattle.mover_tests.proofs.steps.Shared.form.Goals as goal

pub returns-clause-told : goal.returns-clause-told
returns-clause-told g c =
    let told = c.args.self.now.told.items in
    let up : c.args.self.now.group.last.0 ≤ c.args.limit = search rules in
    subst (λ (cut : Stamp). HaveControlsReported told cut.0 c.form-forming.new.self) (sym c.cut.ensures)
    (told_formed told c.args.self.now.last c.args.self.now.group c.form-forming.new.self (record { 0 = c.args.limit }) c.form-forming.result c.form-forming.new.out c.requires up c.form-forming.ensures.step)
