use Rattle.std.proofs.Common.{◌≡◌, ◌∙◌, Result, Err, sym, ap, subst}
use Rattle.std.proofs.lemmas.Result.{err_from_is_err_and}
use Rattle.xrc_status.specs.declared.stop.Stop.{Stop}
use Rattle.xrc_recovery.specs.declared.copying.CopyStop.{CopyStop}
use Rattle.xrc_recovery.specs.declared.copying.CopyStop.TheVariants.{Stopped}
use Rattle.xrc_recovery.specs.Copies.{CopiesSession}
use Rattle.xrc_recovery.specs.Stops.{IsSite}
use Rattle.xrc_recovery.proofs.CopyEnds.{copy_at_fail, copy_at_site, copy_reported, copy_told}
use Rattle.xrc_recovery.proofs.copying.run_copy.Goals as goal

pub returns-then-not-is_site-clause-copies : goal.returns-then-not-is_site-clause-copies
returns-then-not-is_site-clause-copies g c =
    let a = g.P.Plant.state c.args.plant.now in
    let other : ¬ IsSite a = λ site. let is = c.is_site.ensures.1 site in let none = c.if-not-is_site.true in cc in
    copy_at_site g.P.Plant.tells c.args.session c.args.shift a other

pub returns-in_err-report-in-Ok-clause-copies : goal.returns-in_err-report-in-Ok-clause-copies
returns-in_err-report-in-Ok-clause-copies g c =
    let tells = g.P.Plant.tells in
    let a = g.P.Plant.state c.args.plant.now in
    let b = g.P.Plant.state c.copy.new.plant in
    let d = g.P.Plant.state c.report.new.plant in
    let stop = c.in_err-report-in-Ok.field-0.0 in
    let p = err_from_is_err_and c.from_residual.result c.from_residual.ensures.1 in
    let is : c.from_residual.result ≡ Err (Stopped stop) = p.1 ∙ ap (λ (s : CopyStop). Err s) p.2 in
    let e = c.in-Ok.ensures in
    let o = c.in-Ok.copied in
    let r = c.in_err-report-in-Ok.ensures in
    subst (λ (q : Result (Unit {0}) CopyStop). CopiesSession tells c.args.session c.args.shift a d q) (sym is)
    (copy_told tells c.args.session c.args.shift a b d o.means o.done o.failed stop (record {
      lines = r.lines;
      volume = λ same. r.volume (ap (λ (s : Stop). Err s) same);
      console = λ same. r.console (ap (λ (s : Stop). Err s) same);
      whole = λ other. r.whole (λ same. other cc);
    }) (record {
      site = c.is_site.ensures.0 c.if-not-is_site.false;
      long = λ k first. let same = e.short k first in cc;
      is_meant = λ told. (e.ok told).0;
      targets = λ told. (e.ok told).1;
      faulty = e.failed;
      are_copied = λ told. (e.copied told).copied;
      redone = λ told. (e.copied told).redone;
      counts = λ k here. e.cause.others k here (λ same. cc);
      volumes = e.counts;
      works = e.works;
      labels = e.labels;
      moments = e.moments;
      lasts = e.lasts;
      ok = tt;
      front = r.front;
      later = r.later;
      by_one = r.by_one;
    }))

pub returns-in_ok-report-in-Ok-clause-copies : goal.returns-in_ok-report-in-Ok-clause-copies
returns-in_ok-report-in-Ok-clause-copies g c =
    let tells = g.P.Plant.tells in
    let a = g.P.Plant.state c.args.plant.now in
    let b = g.P.Plant.state c.copy.new.plant in
    let d = g.P.Plant.state c.report.new.plant in
    let e = c.in-Ok.ensures in
    let o = c.in-Ok.copied in
    let r = c.in_ok-report-in-Ok.ensures in
    copy_reported tells c.args.session c.args.shift a b d o.means o.done o.failed tt (record {
      site = c.is_site.ensures.0 c.if-not-is_site.false;
      long = λ k first. let same = e.short k first in cc;
      is_meant = λ told. (e.ok told).0;
      targets = λ told. (e.ok told).1;
      faulty = e.failed;
      are_copied = λ told. (e.copied told).copied;
      redone = λ told. (e.copied told).redone;
      counts = λ k here. e.cause.others k here (λ same. cc);
      volumes = e.counts;
      works = e.works;
      labels = e.labels;
      moments = e.moments;
      lasts = e.lasts;
      ok = r.ok;
      front = r.front;
      later = r.later;
      by_one = r.by_one;
    }) (r.whole (λ same. cc))

pub returns-in-Err-clause-copies : goal.returns-in-Err-clause-copies
returns-in-Err-clause-copies g c =
    let a = g.P.Plant.state c.args.plant.now in
    let b = g.P.Plant.state c.copy.new.plant in
    let e = c.in-Err.ensures in
    copy_at_fail g.P.Plant.tells c.args.session c.args.shift a b c.in-Err.error c.stop_of_copy.result c.stop_of_copy.ensures (c.is_site.ensures.0 c.if-not-is_site.false) (record {
      ok = e.ok;
      short = e.short;
      cause = e.cause;
      failed = e.failed;
      counts = e.counts;
      copied = e.copied;
      works = e.works;
      labels = e.labels;
      moments = e.moments;
      lasts = e.lasts;
      unwritten = e.unwritten;
    })
