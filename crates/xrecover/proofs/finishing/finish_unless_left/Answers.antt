use Rattle.std.proofs.Common.{[], refl}
use Rattle.crash_plant.specs.declared.device.Device.TheVariants.{Volume}
use Rattle.xrecover.proofs.Contents.{track_kept}
use Rattle.xrecover.proofs.finishing.finish_unless_left.Goals as goal

pub returns-clause-finishes : goal.returns-clause-finishes
returns-clause-finishes g c = λ fit.
    let f = c.finish_volume.ensures in
    record {
      works = f.works;
      fails = f.fails;
      counts = f.counts;
      redone = λ told good. record {
        draws = λ x none. absurd cc;
        content = λ x room. track_kept c.args.row.now.device x [] ((g.P.Plant.state c.args.plant.now).bytes (Volume c.args.row.now.device)) ((g.P.Plant.state c.finish_volume.new.plant).bytes (Volume c.args.row.now.device)) ((f.works.bytes told (Volume c.args.row.now.device)).0 refl) (λ none. absurd cc);
        label = f.label told good;
        durable = f.durable told good;
      };
      treats = f.treats;
    }
