use Rattle.std.proofs.Common.{◌≡◌, Bool, [], subst, sym, ◌∙◌, rules}
use Rattle.std.specs.Prelude.{is_err}
use Rattle.crash_plant.specs.declared.device.Device.TheVariants.{Volume}
use Rattle.crash_plant.specs.Moments.{on}
use Rattle.xrc_journal.specs.Jobs.{FailsByCount}
use Rattle.xrecover.specs.Works.{OfOneVolume}
use Rattle.xrecover.specs.RedoneVolumes.{Redoes}
use Rattle.xrecover.proofs.Relations.{label_redoes, one_then, redoes_same, redoes_then}
use Rattle.xrecover.proofs.Works.{works_one, works_trans}
use Rattle.xrecover.specs.declared.labelling.Labelling.{Labelling}
use Rattle.xrecover.specs.Labels.{TreatsLabel}
use Rattle.xrecover.proofs.Fails.{counted_by, counted_same, counted_then}
use Rattle.xrecover.proofs.Labels.{keeps_same, label_last, named_by, treats_kept}
use Rattle.xrecover.proofs.volumes.finish_volume.Goals as goal

pub returns-in-Err-clause-works : goal.returns-in-Err-clause-works
returns-in-Err-clause-works g c =
    let v = c.args.row.now.device in
    works_one g.P.Plant.tells v (Redoes v []) _ _ c.sync.ensures.only (λ told. redoes_same v [] _ _ (c.sync.ensures.same told))
    (λ told t from to z left. let start = c.sync.ensures.moments told t from to z left in (start.0, start.1, redoes_same v [] start.0 z start.2))

pub returns-in-AsItIs-clause-works : goal.returns-in-AsItIs-clause-works
returns-in-AsItIs-clause-works g c =
    let v = c.args.row.now.device in
    works_one g.P.Plant.tells v (Redoes v []) _ _ c.sync.ensures.only (λ told. redoes_same v [] _ _ (c.sync.ensures.same told))
    (λ told t from to z left. let start = c.sync.ensures.moments told t from to z left in (start.0, start.1, redoes_same v [] start.0 z start.2))

pub returns-in-AsPrimary-clause-works : goal.returns-in-AsPrimary-clause-works
returns-in-AsPrimary-clause-works g c =
    let v = c.args.row.now.device in
    let step = Redoes v [] in
    works_trans g.P.Plant.tells (OfOneVolume v step) (OfOneVolume v step) (OfOneVolume v step) _ _ _ (λ d x y z p q. one_then v step step step (λ x y z p q. redoes_then v [] x y z p q) d x y z p q) (λ d x y p. p)
    (works_one g.P.Plant.tells v step _ _ c.sync.ensures.only (λ told. redoes_same v [] _ _ (c.sync.ensures.same told))
    (λ told t from to z left. let start = c.sync.ensures.moments told t from to z left in (start.0, start.1, redoes_same v [] start.0 z start.2)))
    (works_one g.P.Plant.tells v step _ _ c.write_label.ensures.others (λ told. label_redoes v _ _ (c.write_label.ensures.torn told))
    (λ told t from to z left. let start = c.write_label.ensures.moments told t from to z left in (start.0, start.1, label_redoes v start.0 z start.2)))

pub returns-in-Err-clause-counts : goal.returns-in-Err-clause-counts
returns-in-Err-clause-counts g c = λ d differ. c.sync.ensures.only.others_faults d differ

pub returns-in-AsItIs-clause-counts : goal.returns-in-AsItIs-clause-counts
returns-in-AsItIs-clause-counts g c = λ d differ. c.sync.ensures.only.others_faults d differ

pub returns-in-AsPrimary-clause-counts : goal.returns-in-AsPrimary-clause-counts
returns-in-AsPrimary-clause-counts g c = λ d differ. c.write_label.ensures.others.others_faults d differ ∙ c.sync.ensures.only.others_faults d differ

pub returns-in-Err-clause-treats : goal.returns-in-Err-clause-treats
returns-in-Err-clause-treats g c = λ told.
    let old = g.P.Plant.state c.args.plant.now in
    let new = g.P.Plant.state c.sync.new.self in
    let d = Volume c.args.row.now.device in
    treats_kept c.args.labelling c.args.row.now [] old new (keeps_same (on old d) (on new d) (c.sync.ensures.same told) (c.sync.ensures.moments told))

pub returns-in-AsItIs-clause-treats : goal.returns-in-AsItIs-clause-treats
returns-in-AsItIs-clause-treats g c = λ told.
    let old = g.P.Plant.state c.args.plant.now in
    let new = g.P.Plant.state c.sync.new.self in
    let d = Volume c.args.row.now.device in
    treats_kept c.args.labelling c.args.row.now [] old new (keeps_same (on old d) (on new d) (c.sync.ensures.same told) (c.sync.ensures.moments told))

-- The slots are durable when the label is written.
pub returns-in-AsPrimary-clause-treats : goal.returns-in-AsPrimary-clause-treats
returns-in-AsPrimary-clause-treats g c = λ told.
    let v = c.args.row.now.device in
    let d = Volume v in
    let old = g.P.Plant.state c.args.plant.now in
    let mid = g.P.Plant.state c.sync.new.self in
    let new = g.P.Plant.state c.write_label.new.plant in
    subst (λ (l : Labelling). TreatsLabel l c.args.row.now [] old new) (sym c.in-AsPrimary.is) (
      label_last v (on old d) (on mid d) (on new d) ((c.sync.ensures.only.elapses told).kept d).later (c.sync.ensures.moments told) (c.sync.ensures.same told)
          (search rules) ((c.write_label.ensures.others.elapses told).kept d) (c.write_label.ensures.moments told) (c.write_label.ensures.torn told),
      named_by c.args.row.now old mid new c.write_label.result (c.sync.ensures.only.faults d) c.write_label.ensures.cause (c.write_label.ensures.begins told),
    )

pub returns-in-Err-clause-fails : goal.returns-in-Err-clause-fails
returns-in-Err-clause-fails g c = counted_by _ _ _ c.in-Err.ensures.cause

pub returns-in-AsItIs-clause-fails : goal.returns-in-AsItIs-clause-fails
returns-in-AsItIs-clause-fails g c = counted_same _ _ c.in-Ok.ensures.cause.ok

pub returns-in-AsPrimary-clause-fails : goal.returns-in-AsPrimary-clause-fails
returns-in-AsPrimary-clause-fails g c =
    let d = Volume c.args.row.now.device in
    let old = (g.P.Plant.state c.args.plant.now).faults d in
    let new = (g.P.Plant.state c.write_label.new.plant).faults d in
    let told : is_err c.write_label.result ≡ c.is_err.result = search rules in
    subst (λ (failed : Bool). FailsByCount failed old new) told (counted_then _ old _ new c.in-Ok.ensures.cause.ok (counted_by _ new c.write_label.result c.write_label.ensures.cause))
