use Rattle.std.proofs.Common.{arith}
use Rattle.crash_plant.specs.declared.device.Device.TheVariants.{Journal as JournalDevice}
use Rattle.xrc_journal.specs.Items.{form_of}
use Rattle.xrc_journal.specs.Walks.{Logged}
use Rattle.xrc_journal.proofs.Appends.{MayPut}
use Rattle.xrc_journal.proofs.Causes.{on_ok_both}
use Rattle.xrc_journal.proofs.RingAppends.{all_end_shut, all_put_group, group_is_put}
use Rattle.xrc_journal.proofs.journal.Journal.append.Goals as goal

pub put_at_end-requires-clause-shut : goal.put_at_end-requires-clause-shut
put_at_end-requires-clause-shut g c κs within = λ told.
    let old = g.P.Plant.state c.args.plant.now in
    all_end_shut old c.args.self.now.marked c.args.self.now.at c.args.cut.0 (λ d part. g.met.P.Plant.has_image c.args.plant.now d old.clock told part (omega arith)) (c.requires.ends told)

pub returns-clause-moments : goal.returns-clause-moments
returns-clause-moments g c told =
    let old = g.P.Plant.state c.args.plant.now in
    let new = g.P.Plant.state c.put_at_end.new.plant in
    let at = c.args.self.now.at in
    let put = c.put_at_end.ensures.put in
    let group : Logged = record { time = c.args.cut.0; items = c.args.body.now.items } in
    let may : MayPut (form_of old) at group = record { keep = c.requires.body.keep; short = c.requires.body.short; number = omega (arith, c.requires.grows.number); stamp = put.stamp } in
    all_put_group g.P.Plant.tells told old new c.args.self.now.marked at group c.requires.grows.there may put.only (put.moments told)

pub returns-clause-put : goal.returns-clause-put
returns-clause-put g c told =
    let old = g.P.Plant.state c.args.plant.now in
    let new = g.P.Plant.state c.put_at_end.new.plant in
    let at = c.args.self.now.at in
    let put = c.put_at_end.ensures.put in
    let group : Logged = record { time = c.args.cut.0; items = c.args.body.now.items } in
    let may : MayPut (form_of old) at group = record { keep = c.requires.body.keep; short = c.requires.body.short; number = omega (arith, c.requires.grows.number); stamp = put.stamp } in
    let size = g.met.P.Plant.length_told c.args.plant.now (JournalDevice at.set) told c.requires.grows.there in
    on_ok_both c.put_at_end.result (λ written durable.
    group_is_put g.P.Plant.tells told old new c.args.self.now.marked at group c.requires.grows.there may put.only (put.moments told) written (omega (arith, size, c.requires.grows.room)) durable (c.requires.ends told))
    (put.written told) (put.durable told)
