use Rattle.std.proofs.Common.{refl, ap}
use Rattle.xrc_recovery.specs.Stops.{IsSite}
use Rattle.xrc_recovery.proofs.Querying.{query_at_error, query_at_report, query_at_site}
use Rattle.xrecover.proofs.Fails.{so_good}
use Rattle.xrc_recovery.proofs.query.run_query.Goals as goal

pub returns-then-not-is_site : goal.returns-then-not-is_site
returns-then-not-is_site g c =
    let a = g.P.Plant.state c.args.plant.now in
    let other : ¬ IsSite a = λ site. let is = c.is_site.ensures.1 site in let no = c.if-not-is_site.true in cc in
    record {
      untouched = λ is. refl;
      queries = query_at_site g.P.Plant.tells c.args.session a other;
    }

pub returns-in-Err : goal.returns-in-Err
returns-in-Err g c =
    let a = g.P.Plant.state c.args.plant.now in
    let b = g.P.Plant.state c.examine_session.new.plant in
    let site = c.is_site.ensures.0 c.if-not-is_site.false in
    let e = c.in-Err.ensures in
    let k = query_at_error g.P.Plant.tells c.args.session a b c.in-Err.error c.stop_of.result c.stop_of.ensures (record { says = e.says; short = e.short; small = e.small; examined = e.examined; fails = e.fails; reads = e.reads }) site in
    record {
      untouched = λ is. absurd (k.site.0 is site);
      queries = k;
    }

pub returns-in-Ok : goal.returns-in-Ok
returns-in-Ok g c =
    let a = g.P.Plant.state c.args.plant.now in
    let b = g.P.Plant.state c.examine_session.new.plant in
    let site = c.is_site.ensures.0 c.if-not-is_site.false in
    let e = c.in-Ok.ensures in
    let k = query_at_report g.P.Plant.tells c.args.session a b c.in-Ok.means
    (record { site = site; long = λ d first. let same = e.short d first in cc; is_meant = e.says; counts = so_good a.faults b.faults c.in-Ok.means e.fails; reads = e.reads })
    (g.P.Plant.state c.say_meaning.new.plant) c.say_meaning.result c.say_meaning.ensures.stops (λ none. ap g.P.Plant.state (c.say_meaning.ensures.memory none)) c.say_meaning.ensures.said in
    record {
      untouched = λ is. absurd (k.site.0 is site);
      queries = k;
    }
