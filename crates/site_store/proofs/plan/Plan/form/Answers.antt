use Rattle.std.proofs.Common.{inl, [], length, map, refl, sym, subst, arith}
use Rattle.crash_plant.specs.Moments.{Same, on}
use Rattle.crash_plant.proofs.Steps.{follows_here, works_on_here}
use Rattle.applier.proofs.Works.{lent_of_works}
use Rattle.site_store.specs.declared.plan.Plan.{Plan}
use Rattle.site_store.specs.Jobs.{has_job_failed}
use Rattle.site_store.specs.Logging.{IsOfEntries}
use Rattle.site_store.specs.Plans.{FormsByPlan}
use Rattle.site_store.proofs.Below.{below_volumes}
use Rattle.site_store.proofs.LogFails.{none_fails}
use Rattle.site_store.proofs.plan.Plan.form.Goals as goal

pub form_change-requires-clause-below : goal.form_change-requires-clause-below
form_change-requires-clause-below g c = below_volumes (g.P.Plant.state c.args.plant.now) (length c.args.jobs.now) c.args.table.now.rows (omega (arith, c.requires.may.volumes)) c.requires.may.have

pub returns-in-Group-clause-forms : goal.returns-in-Group-clause-forms
returns-in-Group-clause-forms g c =
    let e = c.form_record.ensures in
    subst (λ (p : Plan). FormsByPlan g.P.Plant.tells p c.args.reach c.args.table.now.rows (g.P.Plant.state c.args.plant.now) (g.P.Plant.state c.form_record.new.plant) c.args.body.now c.form_record.new.body c.form_record.new.due (map has_job_failed c.args.jobs.now) (map has_job_failed c.form_record.new.jobs) c.form_record.result) (sym c.in-Group.is)
    (record { items = e.forms; are = e.hits; fails = e.fails; by_entries = e.by_entries; reads = e.reads; home = e.home; works = e.only })

pub returns-in-Command-clause-forms : goal.returns-in-Command-clause-forms
returns-in-Command-clause-forms g c =
    let e = c.form_change.ensures in
    let tells = g.P.Plant.tells in
    let plant = g.P.Plant.state c.args.plant.now in
    let failed = map has_job_failed c.args.jobs.now in
    subst (λ (p : Plan). FormsByPlan tells p c.args.reach c.args.table.now.rows plant plant c.args.body.now c.form_change.new.body c.args.due.now failed failed c.form_change.result) (sym c.in-Command.is)
    (record {
      items = e.forms;
      are = λ marked are. e.hits;
      fails = none_fails failed plant.faults plant.faults (λ d. refl);
      by_entries = λ d down. inl down;
      reads = record { bytes = λ told d. refl; moments = λ told d. follows_here (on plant d) Same (λ b here. refl) };
      home = c.requires.may.home;
      works = lent_of_works tells (IsOfEntries c.args.table.now.rows []) plant plant (works_on_here tells (IsOfEntries c.args.table.now.rows []) plant);
    })
