use Rattle.std.proofs.Common.{◌≡◌, Result, Err, rules, sym, subst}
use Rattle.control_set.specs.declared.value.Mark.{Mark}
use Rattle.site_means.specs.Answers.{IsChosen}
use Rattle.xrecover.specs.declared.recover_error.RecoverError.{RecoverError}
use Rattle.xrecover.specs.declared.recover_error.RecoverError.TheVariants.{Site}
use Rattle.xrecover.specs.Answers.{FailsSo, IsGoodOrCalledFor}
use Rattle.xrecover.proofs.Fails.{so_counted}
use Rattle.xrecover.proofs.Meant.{mark_says}
use Rattle.xrecover.proofs.meaning.read_own_mark.Goals as goal

pub returns-in_err-mark-clause-says : goal.returns-in_err-mark-clause-says
returns-in_err-mark-clause-says g c = λ told.
    let old = g.P.Plant.state c.args.plant.now in
    let e = c.in_err-mark.field-0.0 in
    let is : c.from_residual.result ≡ Err (Site e) = search rules in
    subst (λ (r : Result Mark RecoverError). IsGoodOrCalledFor old c.args.session (λ mark. IsChosen old mark) r) (sym is)
    (mark_says {X = Mark} old c.args.session (λ mark. IsChosen old mark) e (c.in_err-mark.ensures.wrong e (λ i. Err e)) (c.in_err-mark.ensures.says told))

pub returns-in_err-mark-clause-fails : goal.returns-in_err-mark-clause-fails
returns-in_err-mark-clause-fails g c =
    let old = g.P.Plant.state c.args.plant.now in
    let new = g.P.Plant.state c.read_mark.new.plant in
    let e = c.in_err-mark.field-0.0 in
    let is : c.from_residual.result ≡ Err (Site e) = search rules in
    subst (λ (r : Result Mark RecoverError). FailsSo old.faults new.faults r) (sym is) (so_counted Mark Mark old.faults new.faults e c.in_err-mark.ensures.cause)
