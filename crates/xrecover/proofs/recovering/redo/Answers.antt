use Rattle.std.proofs.Common.{◌≡◌, ◌∙◌, List, ℕ, Result, Err, refl, sym, ap, subst, arith, rules}
use Rattle.std.specs.Prelude.{IsErrOf, OnErr}
use Rattle.crash_plant.specs.declared.device.Device.{Device}
use Rattle.pair_table.specs.Tables.{are_below}
use Rattle.site_means.specs.declared.site_error.SiteError.TheVariants.{Fault}
use Rattle.site_means.specs.Sight.{walked}
use Rattle.xrecover.specs.declared.recover_error.RecoverError.{RecoverError}
use Rattle.xrecover.specs.declared.recover_error.RecoverError.TheVariants.{Site}
use Rattle.xrecover.specs.Answers.{TellsFaults}
use Rattle.xrecover.specs.Labels.{KeepsLabels}
use Rattle.xrc_journal.specs.declared.job.VolumeJob.{VolumeJob}
use Rattle.xrecover.specs.FinishedPairs.{FinishesPairs}
use Rattle.xrecover.specs.SideVolumes.{AppliesSides, AreHome, is_left}
use Rattle.xrecover.proofs.Fails.{tells_none, tells_site}
use Rattle.xrecover.proofs.Meant.{read_walk, small_same}
use Rattle.xrecover.proofs.LentSides.{written_whole}
use Rattle.xrecover.proofs.RedoneSides.{all_faulty, all_once, all_redone, all_spared, all_treats, all_works, walk_labels, walk_once, walk_spared, walk_treats, walk_works}
use Rattle.xrecover.proofs.recovering.redo.Goals as goal

pub redo_walk-requires-clause-walk : goal.redo_walk-requires-clause-walk
redo_walk-requires-clause-walk g c κs within = λ told. read_walk (g.P.Plant.state c.args.plant.now) c.args.reading.now (c.requires.read told)

pub finish_pairs-requires-clause-home : goal.finish_pairs-requires-clause-home
finish_pairs-requires-clause-home g c κs within = c.redo_walk.ensures.applies.works.home c.requires.home

pub finish_pairs-requires-clause-below : goal.finish_pairs-requires-clause-below
finish_pairs-requires-clause-below g c κs within = ap (λ (n : ℕ). are_below n c.args.reading.now.means.table.rows) c.redo_walk.ensures.applies.works.site.volumes ∙ c.requires.below

pub finish_pairs-requires-clause-big : goal.finish_pairs-requires-clause-big
finish_pairs-requires-clause-big g c κs within = small_same (g.P.Plant.state c.args.plant.now) (g.P.Plant.state c.redo_walk.new.plant) c.args.reading.now.means.table.rows c.redo_walk.ensures.applies.works.site ∙ c.requires.big

pub finish_pairs-requires-clause-jobs : goal.finish_pairs-requires-clause-jobs
finish_pairs-requires-clause-jobs g c κs within =
    let after : c.deref-2.result.now ≡ c.redo_walk.new.jobs = c.deref-2.ensures.value ∙ written_whole c.args.tools.jobs.len c.redo_walk.new.jobs c.args.tools.jobs.items (omega (arith, c.redo_walk.ensures.jobs.count, c.redo_walk.ensures.applies.works.site.volumes, c.requires.ready.jobs.count)) (omega (arith, c.args.tools.jobs.ok.0)) in
    subst (λ (l : List (VolumeJob _)). AreHome (g.P.Plant.state c.redo_walk.new.plant).volumes l) (sym after) c.redo_walk.ensures.jobs

-- ---- a journal failed

pub returns-in_err-redo_walk-clause-works : goal.returns-in_err-redo_walk-clause-works
returns-in_err-redo_walk-clause-works g c =
    let a = g.P.Plant.state c.args.plant.now in
    let b = g.P.Plant.state c.redo_walk.new.plant in
    let ready = c.requires.ready in
    let items = walked a a.bytes in
    let rows = c.args.reading.now.means.table.rows in
    let was = c.args.tools.jobs.items in
    let now = c.redo_walk.new.jobs in
    let value : c.deref_mut.result.now ≡ was = search rules in
    let walk = subst (λ (l : List (VolumeJob _)). AppliesSides g.P.Plant.tells items (is_left l) (is_left now) a b) value c.redo_walk.ensures.applies in
    walk_works g.P.Plant.tells rows items (is_left was) (is_left now) a b walk ready.duplex ready.others

pub returns-in_err-redo_walk-clause-treats : goal.returns-in_err-redo_walk-clause-treats
returns-in_err-redo_walk-clause-treats g c = λ told.
    let a = g.P.Plant.state c.args.plant.now in
    let b = g.P.Plant.state c.redo_walk.new.plant in
    let ready = c.requires.ready in
    let items = walked a a.bytes in
    let rows = c.args.reading.now.means.table.rows in
    let was = c.args.tools.jobs.items in
    let now = c.redo_walk.new.jobs in
    let value : c.deref_mut.result.now ≡ was = search rules in
    let walk = subst (λ (l : List (VolumeJob _)). AppliesSides g.P.Plant.tells items (is_left l) (is_left now) a b) value c.redo_walk.ensures.applies in
    walk_treats g.P.Plant.tells rows items (is_left was) (is_left now) a b walk ready.duplex ready.others c.args.labelling told

pub returns-in_err-redo_walk-clause-unlabelled : goal.returns-in_err-redo_walk-clause-unlabelled
returns-in_err-redo_walk-clause-unlabelled g c = λ told.
    let a = g.P.Plant.state c.args.plant.now in
    let b = g.P.Plant.state c.redo_walk.new.plant in
    let ready = c.requires.ready in
    let items = walked a a.bytes in
    let rows = c.args.reading.now.means.table.rows in
    let was = c.args.tools.jobs.items in
    let now = c.redo_walk.new.jobs in
    let value : c.deref_mut.result.now ≡ was = search rules in
    let walk = subst (λ (l : List (VolumeJob _)). AppliesSides g.P.Plant.tells items (is_left l) (is_left now) a b) value c.redo_walk.ensures.applies in
    let is : c.from_residual.result ≡ Err (Site c.in_err-redo_walk.field-0.0) = search rules in
    subst (λ (r : Result (List ℕ) RecoverError). OnErr r (KeepsLabels a b)) (sym is) (walk_labels g.P.Plant.tells rows items (is_left was) (is_left now) a b walk ready.duplex ready.others told)

pub returns-in_err-redo_walk-clause-once : goal.returns-in_err-redo_walk-clause-once
returns-in_err-redo_walk-clause-once g c =
    let a = g.P.Plant.state c.args.plant.now in
    let b = g.P.Plant.state c.redo_walk.new.plant in
    let ready = c.requires.ready in
    let items = walked a a.bytes in
    let rows = c.args.reading.now.means.table.rows in
    let was = c.args.tools.jobs.items in
    let now = c.redo_walk.new.jobs in
    let value : c.deref_mut.result.now ≡ was = search rules in
    let walk = subst (λ (l : List (VolumeJob _)). AppliesSides g.P.Plant.tells items (is_left l) (is_left now) a b) value c.redo_walk.ensures.applies in
    walk_once g.P.Plant.tells rows items (is_left was) (is_left now) a b walk ready.duplex ready.others

pub returns-in_err-redo_walk-clause-spared : goal.returns-in_err-redo_walk-clause-spared
returns-in_err-redo_walk-clause-spared g c =
    let a = g.P.Plant.state c.args.plant.now in
    let b = g.P.Plant.state c.redo_walk.new.plant in
    let ready = c.requires.ready in
    let items = walked a a.bytes in
    let rows = c.args.reading.now.means.table.rows in
    let was = c.args.tools.jobs.items in
    let now = c.redo_walk.new.jobs in
    let value : c.deref_mut.result.now ≡ was = search rules in
    let walk = subst (λ (l : List (VolumeJob _)). AppliesSides g.P.Plant.tells items (is_left l) (is_left now) a b) value c.redo_walk.ensures.applies in
    walk_spared g.P.Plant.tells rows items (is_left was) (is_left now) a b walk ready.duplex ready.others

pub returns-in_err-redo_walk-clause-late : goal.returns-in_err-redo_walk-clause-late
returns-in_err-redo_walk-clause-late g c = λ told e is.
    let a = g.P.Plant.state c.args.plant.now in
    let k = c.in_err-redo_walk.field-0.0 in
    let fault = c.in_err-redo_walk.ensures.told told k refl in
    let same : e ≡ Site k = search rules in
    (fault.0, same ∙ ap Site fault.1, fault.2)

pub returns-in_err-redo_walk-clause-fault : goal.returns-in_err-redo_walk-clause-fault
returns-in_err-redo_walk-clause-fault g c =
    let a = g.P.Plant.state c.args.plant.now in
    let b = g.P.Plant.state c.redo_walk.new.plant in
    let e = c.in_err-redo_walk.field-0.0 in
    let is : c.from_residual.result ≡ Err (Site e) = search rules in
    subst (λ (r : Result (List ℕ) RecoverError). TellsFaults a.faults b.faults (λ d. IsErrOf r (Site (Fault d)))) (sym is)
    (tells_site {X = Unit {0}} {Y = List ℕ} a.faults a.faults b.faults e (λ d. omega arith) (λ d here. refl) c.in_err-redo_walk.ensures.fault)

-- ---- done

pub returns-clause-works : goal.returns-clause-works
returns-clause-works g c =
    let a = g.P.Plant.state c.args.plant.now in
    let b = g.P.Plant.state c.redo_walk.new.plant in
    let d = g.P.Plant.state c.finish_pairs.new.plant in
    let ready = c.requires.ready in
    let items = walked a a.bytes in
    let rows = c.args.reading.now.means.table.rows in
    let was = c.args.tools.jobs.items in
    let now = c.redo_walk.new.jobs in
    let value : c.deref_mut.result.now ≡ was = search rules in
    let walk = subst (λ (l : List (VolumeJob _)). AppliesSides g.P.Plant.tells items (is_left l) (is_left now) a b) value c.redo_walk.ensures.applies in
    let after : c.deref-2.result.now ≡ now = c.deref-2.ensures.value ∙ written_whole c.args.tools.jobs.len c.redo_walk.new.jobs c.args.tools.jobs.items (omega (arith, c.redo_walk.ensures.jobs.count, c.redo_walk.ensures.applies.works.site.volumes, c.requires.ready.jobs.count)) (omega (arith, c.args.tools.jobs.ok.0)) in
    let fin = subst (λ (l : List (VolumeJob _)). FinishesPairs g.P.Plant.tells c.args.labelling rows (is_left l) c.finish_pairs.result b d) after c.finish_pairs.ensures.finishes in
    all_works g.P.Plant.tells rows items (is_left was) (is_left now) a b walk ready.duplex ready.others c.args.labelling c.finish_pairs.result d fin

pub returns-clause-failed : goal.returns-clause-failed
returns-clause-failed g c =
    let a = g.P.Plant.state c.args.plant.now in
    let b = g.P.Plant.state c.redo_walk.new.plant in
    let d = g.P.Plant.state c.finish_pairs.new.plant in
    let ready = c.requires.ready in
    let items = walked a a.bytes in
    let rows = c.args.reading.now.means.table.rows in
    let was = c.args.tools.jobs.items in
    let now = c.redo_walk.new.jobs in
    let value : c.deref_mut.result.now ≡ was = search rules in
    let walk = subst (λ (l : List (VolumeJob _)). AppliesSides g.P.Plant.tells items (is_left l) (is_left now) a b) value c.redo_walk.ensures.applies in
    let after : c.deref-2.result.now ≡ now = c.deref-2.ensures.value ∙ written_whole c.args.tools.jobs.len c.redo_walk.new.jobs c.args.tools.jobs.items (omega (arith, c.redo_walk.ensures.jobs.count, c.redo_walk.ensures.applies.works.site.volumes, c.requires.ready.jobs.count)) (omega (arith, c.args.tools.jobs.ok.0)) in
    let fin = subst (λ (l : List (VolumeJob _)). FinishesPairs g.P.Plant.tells c.args.labelling rows (is_left l) c.finish_pairs.result b d) after c.finish_pairs.ensures.finishes in
    all_faulty g.P.Plant.tells rows items (is_left was) (is_left now) a b walk ready.duplex ready.others c.args.labelling c.finish_pairs.result d fin

pub returns-clause-redone : goal.returns-clause-redone
returns-clause-redone g c = λ told.
    let a = g.P.Plant.state c.args.plant.now in
    let b = g.P.Plant.state c.redo_walk.new.plant in
    let d = g.P.Plant.state c.finish_pairs.new.plant in
    let ready = c.requires.ready in
    let items = walked a a.bytes in
    let rows = c.args.reading.now.means.table.rows in
    let was = c.args.tools.jobs.items in
    let now = c.redo_walk.new.jobs in
    let value : c.deref_mut.result.now ≡ was = search rules in
    let walk = subst (λ (l : List (VolumeJob _)). AppliesSides g.P.Plant.tells items (is_left l) (is_left now) a b) value c.redo_walk.ensures.applies in
    let after : c.deref-2.result.now ≡ now = c.deref-2.ensures.value ∙ written_whole c.args.tools.jobs.len c.redo_walk.new.jobs c.args.tools.jobs.items (omega (arith, c.redo_walk.ensures.jobs.count, c.redo_walk.ensures.applies.works.site.volumes, c.requires.ready.jobs.count)) (omega (arith, c.args.tools.jobs.ok.0)) in
    let fin = subst (λ (l : List (VolumeJob _)). FinishesPairs g.P.Plant.tells c.args.labelling rows (is_left l) c.finish_pairs.result b d) after c.finish_pairs.ensures.finishes in
    all_redone g.P.Plant.tells rows items (is_left was) (is_left now) a b walk ready.duplex ready.others c.args.labelling c.finish_pairs.result d fin told (c.in_ok-redo_walk.ensures.content told)

pub returns-clause-treats : goal.returns-clause-treats
returns-clause-treats g c = λ told.
    let a = g.P.Plant.state c.args.plant.now in
    let b = g.P.Plant.state c.redo_walk.new.plant in
    let d = g.P.Plant.state c.finish_pairs.new.plant in
    let ready = c.requires.ready in
    let items = walked a a.bytes in
    let rows = c.args.reading.now.means.table.rows in
    let was = c.args.tools.jobs.items in
    let now = c.redo_walk.new.jobs in
    let value : c.deref_mut.result.now ≡ was = search rules in
    let walk = subst (λ (l : List (VolumeJob _)). AppliesSides g.P.Plant.tells items (is_left l) (is_left now) a b) value c.redo_walk.ensures.applies in
    let after : c.deref-2.result.now ≡ now = c.deref-2.ensures.value ∙ written_whole c.args.tools.jobs.len c.redo_walk.new.jobs c.args.tools.jobs.items (omega (arith, c.redo_walk.ensures.jobs.count, c.redo_walk.ensures.applies.works.site.volumes, c.requires.ready.jobs.count)) (omega (arith, c.args.tools.jobs.ok.0)) in
    let fin = subst (λ (l : List (VolumeJob _)). FinishesPairs g.P.Plant.tells c.args.labelling rows (is_left l) c.finish_pairs.result b d) after c.finish_pairs.ensures.finishes in
    all_treats g.P.Plant.tells rows items (is_left was) (is_left now) a b walk ready.duplex ready.others c.args.labelling c.finish_pairs.result d fin told (c.in_ok-redo_walk.ensures.content told) (fin.treats told)

pub returns-clause-once : goal.returns-clause-once
returns-clause-once g c =
    let a = g.P.Plant.state c.args.plant.now in
    let b = g.P.Plant.state c.redo_walk.new.plant in
    let d = g.P.Plant.state c.finish_pairs.new.plant in
    let ready = c.requires.ready in
    let items = walked a a.bytes in
    let rows = c.args.reading.now.means.table.rows in
    let was = c.args.tools.jobs.items in
    let now = c.redo_walk.new.jobs in
    let value : c.deref_mut.result.now ≡ was = search rules in
    let walk = subst (λ (l : List (VolumeJob _)). AppliesSides g.P.Plant.tells items (is_left l) (is_left now) a b) value c.redo_walk.ensures.applies in
    let after : c.deref-2.result.now ≡ now = c.deref-2.ensures.value ∙ written_whole c.args.tools.jobs.len c.redo_walk.new.jobs c.args.tools.jobs.items (omega (arith, c.redo_walk.ensures.jobs.count, c.redo_walk.ensures.applies.works.site.volumes, c.requires.ready.jobs.count)) (omega (arith, c.args.tools.jobs.ok.0)) in
    let fin = subst (λ (l : List (VolumeJob _)). FinishesPairs g.P.Plant.tells c.args.labelling rows (is_left l) c.finish_pairs.result b d) after c.finish_pairs.ensures.finishes in
    all_once g.P.Plant.tells rows items (is_left was) (is_left now) a b walk ready.duplex ready.others c.args.labelling c.finish_pairs.result d fin

pub returns-clause-spared : goal.returns-clause-spared
returns-clause-spared g c =
    let a = g.P.Plant.state c.args.plant.now in
    let b = g.P.Plant.state c.redo_walk.new.plant in
    let d = g.P.Plant.state c.finish_pairs.new.plant in
    let ready = c.requires.ready in
    let items = walked a a.bytes in
    let rows = c.args.reading.now.means.table.rows in
    let was = c.args.tools.jobs.items in
    let now = c.redo_walk.new.jobs in
    let value : c.deref_mut.result.now ≡ was = search rules in
    let walk = subst (λ (l : List (VolumeJob _)). AppliesSides g.P.Plant.tells items (is_left l) (is_left now) a b) value c.redo_walk.ensures.applies in
    let after : c.deref-2.result.now ≡ now = c.deref-2.ensures.value ∙ written_whole c.args.tools.jobs.len c.redo_walk.new.jobs c.args.tools.jobs.items (omega (arith, c.redo_walk.ensures.jobs.count, c.redo_walk.ensures.applies.works.site.volumes, c.requires.ready.jobs.count)) (omega (arith, c.args.tools.jobs.ok.0)) in
    let fin = subst (λ (l : List (VolumeJob _)). FinishesPairs g.P.Plant.tells c.args.labelling rows (is_left l) c.finish_pairs.result b d) after c.finish_pairs.ensures.finishes in
    all_spared g.P.Plant.tells rows items (is_left was) (is_left now) a b walk ready.duplex ready.others c.args.labelling c.finish_pairs.result d fin

pub returns-clause-fault : goal.returns-clause-fault
returns-clause-fault g c = tells_none _ _ _ (λ (d : Device). Site (Fault d)) (λ d here. c.finish_pairs.ensures.counts d here ∙ c.in_ok-redo_walk.ensures.fault.others d here (λ is. cc))
