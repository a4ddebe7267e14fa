use Rattle.std.proofs.Common.{List, ap, sym, ◌∙◌}
use Rattle.std.proofs.lemmas.List.{take_all}
use Rattle.group_state.specs.declared.volume.Volume.{Volume}
use Rattle.group_state.specs.Volumes.{has_volume}
use Rattle.group_state.proofs.VolumeLaws.{place_at, none_found}
use Rattle.group_state.proofs.volumes.place_of.Goals as goal

pub returns-then-volumes-place-clause-some : goal.returns-then-volumes-place-clause-some
returns-then-volumes-place-clause-some c =
    place_at c.args.number c.args.volumes.now c.loop-place.place c.index-volumes-place.result c.loop-place.invariant c.loop-place-test.true c.if-volumes-place.true

pub returns-clause-none : goal.returns-clause-none
returns-clause-none c = λ e.
    none_found c.args.number c.args.volumes.now
    (ap (λ (us : List Volume). has_volume c.args.number us) (sym (take_all c.loop-place.place c.args.volumes.now c.loop-place-test.false)) ∙ c.loop-place.invariant)
