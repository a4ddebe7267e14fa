use Rattle.std.proofs.Common.{◌≡◌, ◌∙◌, ℕ, List, ap}
use Rattle.crash_plant.specs.declared.device.Device.TheVariants.{Volume}
use Rattle.crash_plant.specs.Bytes.{patched}
use Rattle.crash_plant.specs.PlainPlant.{plain_state}
use Rattle.volume_label.specs.Labels.{label_spelling}
use Rattle.workload.proofs.Leaving.{never_rises, same_console, same_faults}
use Rattle.workload.proofs.devices.label.Goals as goal

pub unreachable-requires : goal.unreachable-requires
unreachable-requires c = never_rises c.args.plant.now c.write_label.new.plant (Volume c.args.device) c.in-Err.ensures.cause.failed

pub returns : goal.returns
returns c =
    let p = c.args.plant.now in
    let q = c.write_label.new.plant in
    let d = Volume c.args.device in
    let works = c.write_label.ensures.others in
    record {
      bytes = c.in-Ok.ensures.written tt ∙ ap (λ (serial : List ℕ). patched 0 (label_spelling (record { serial = serial; cylinders = 1 })) ((plain_state p).bytes d)) c.secondary.ensures;
      others = λ e other. (works.others tt e other).bytes;
      site = works.site;
      loans = works.loans;
      faults = same_faults p q;
      console = same_console p q (λ e. e ≡ d) works;
    }
