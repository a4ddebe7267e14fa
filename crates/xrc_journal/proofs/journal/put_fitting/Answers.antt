use Rattle.std.proofs.Common.{◌≡◌, ap, length, refl, arith, rules}
use Rattle.crash_plant.specs.declared.device.Device.TheVariants.{Journal as JournalDevice}
use Rattle.xrc_journal.proofs.Causes.{fault_grows, fault_has_room}
use Rattle.xrc_journal.proofs.journal.put_fitting.Goals as goal

pub returns-in-Err-clause-put : goal.returns-in-Err-clause-put
returns-in-Err-clause-put g c =
    let old = g.P.Plant.state c.args.plant.now in
    let new = g.P.Plant.state c.put_group.new.plant in
    let set = c.args.at.set in
    record {
      moments = c.put_group.ensures.moments;
      written = λ told. search rules;
      durable = λ told. search rules;
      room = search rules;
      fits = omega (arith, c.length.ensures);
      stamp = c.put_group.ensures.stamp;
      only = c.put_group.ensures.only;
      cause = fault_grows (λ d. d ≡ JournalDevice set) old new set refl c.in-Err.ensures.cause.failed c.put_group.ensures.only.others_faults;
      no_room = fault_has_room _ _ _ set (λ full. omega (arith, full, c.if-free-needed.false, c.length.ensures, ap length c.bytes.ensures.spelled, c.requires.grows.room));
    }
