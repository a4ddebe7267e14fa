use Rattle.std.proofs.Common.{refl, sym, subst}
use Rattle.group_state.specs.Groups.{Group}
use Rattle.group_tests.specs.ReadyStates.{CarriesFirst}
use Rattle.group_tests.proofs.Ready.{ready_formed}
use Rattle.group_tests.proofs.held.form.Goals as goal

pub returns : goal.returns
returns g c = subst (λ (s : Group). CarriesFirst c.args.time s) (sym c.form.ensures.step.1) (ready_formed c.args.time c.args.state.now (record { 0 = c.args.time }) refl c.requires.ready)
