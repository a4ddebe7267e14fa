use Rattle.std.proofs.Common.{◌≡◌, ℕ, List, refl, subst}
use Rattle.xrc_status.specs.Saying.{SaysFront, SaysWhole}
use Rattle.xrc_recovery.specs.Stops.{IsSite}
use Rattle.xrc_recovery.specs.Texts.{site_text, site_word}
use Rattle.xrc_recovery.proofs.Ending.{at_error, at_report, at_site}
use Rattle.xrc_recovery.proofs.recovery.run_recovery.Goals as goal

pub returns-then-not-is_site : goal.returns-then-not-is_site
returns-then-not-is_site g c =
    let a = g.P.Plant.state c.args.plant.now in
    let other : ¬ IsSite a = λ site. let is = c.is_site.ensures.1 site in let no = c.if-not-is_site.true in cc in
    record {
      untouched = λ is. refl;
      recovers = at_site g.P.Plant.tells c.args.labelling c.args.session a other;
    }

pub returns-in-Err : goal.returns-in-Err
returns-in-Err g c =
    let a = g.P.Plant.state c.args.plant.now in
    let b = g.P.Plant.state c.redo.new.plant in
    let site = c.is_site.ensures.0 c.if-not-is_site.false in
    let k = at_error g.P.Plant.tells c.args.labelling c.args.session a b c.in-Err.error c.stop_of.result c.stop_of.ensures site c.in-Err.ensures in
    record {
      untouched = λ is. absurd (k.site.0 is site);
      recovers = k;
    }

pub returns-in-Ok : goal.returns-in-Ok
returns-in-Ok g c =
    let a = g.P.Plant.state c.args.plant.now in
    let b = g.P.Plant.state c.redo.new.plant in
    let site = c.is_site.ensures.0 c.if-not-is_site.false in
    let o = c.in-Ok.outcome in
    let redone = c.in-Ok.ensures in
    let d = g.P.Plant.state c.report.new.plant in
    let word : c.site_word.result.now ≡ site_word c.args.labelling = c.site_word.ensures.text in
    let k = at_report g.P.Plant.tells c.args.labelling c.args.session a b d o.means o.failed c.report.result (record {
      site = site;
      long = λ d first. let same = redone.short d first in cc;
      is_meant = redone.says;
      faulty = redone.failed;
      redone = redone.redone;
      counts = λ d here. redone.cause.others d here (λ is. cc);
      once = redone.volumes.once;
      spared = redone.volumes.others;
      works = redone.works;
      labels = redone.labels;
      moments = redone.moments;
      lasts = redone.lasts;
      ok = c.report.ensures.ok;
      lines = c.report.ensures.lines;
      volume = c.report.ensures.volume;
      console = c.report.ensures.console;
      front = subst (λ (w : List ℕ). SaysFront g.P.Plant.tells (site_text w c.args.session o.means.time.0 o.means.table.rows o.failed) b d) word c.report.ensures.front;
      whole = λ other. subst (λ (w : List ℕ). SaysWhole g.P.Plant.tells (site_text w c.args.session o.means.time.0 o.means.table.rows o.failed) b d) word (c.report.ensures.whole other);
      later = c.report.ensures.later;
      by_one = c.report.ensures.by_one;
    }) in
    record {
      untouched = λ is. absurd (k.site.0 is site);
      recovers = k;
    }
