use Rattle.site_store.proofs.site.Site.log.Goals as goal

pub log_by_plan-requires-clause-may : goal.log_by_plan-requires-clause-may
log_by_plan-requires-clause-may g c κs within = record { ready = c.requires.ready; may = c.requires.may; few = c.controls.ensures.few }

pub returns : goal.returns
returns g c =
    let k = c.log_by_plan.ensures in
    record {
      ok = k.recorded.logged;
      leaves = k.recorded.leaves;
      others = k.recorded.works;
      volumes = k.recorded.volumes;
      unwritten = k.unwritten;
      heard_said = k.recorded.works.silent;
      cause = k.recorded.cause;
      failed = k.recorded.failed;
    }
