use Rattle.std.proofs.Common.{◌<◌, ℕ, List, length, sym, ◌∙◌, ap, arith, take, drop, subst}
use Rattle.crash_plant.specs.declared.device.Device.{Device}
use Rattle.crash_plant.specs.Bytes.{resized}
use Rattle.crash_plant.specs.Calls.{IsThere}
use Rattle.crash_plant.specs.PlainPlant.{plain_state, place_bytes, place_length, place_is_lent}
use Rattle.crash_plant.proofs.Patches.{length-resized}
use Rattle.crash_plant.proofs.Resize.{on_ok, on_err, resizes_journal, same_journal, resizes_volume, same_volume}
use Rattle.crash_plant.proofs.plain_plant.PlainPlant.resize.Goals as goal

pub returns-in-Journal-clause-ok : goal.returns-in-Journal-clause-ok
returns-in-Journal-clause-ok c =
    let p = c.args.self.now in
    let there : c.in-Journal.number < length p.journals.items = subst (λ (d : Device). IsThere (plain_state p) d) c.in-Journal.is c.requires in
    on_ok c.resize-in-Journal.result (λ bytes. resizes_journal p.control p.state p.journals.items p.volumes.items (take p.next p.script) p.said.items (drop p.next p.script) p.console_faults c.args.device _ _ c.from.ensures
    _ _ c.in-Journal.is (omega (arith, there, c.from.ensures)) c.index_mut.ensures.value c.args.length (ap length bytes ∙ length-resized c.args.length _) bytes) c.resize-in-Journal.ensures.ok

pub returns-in-Journal-clause-err_devices : goal.returns-in-Journal-clause-err_devices
returns-in-Journal-clause-err_devices c =
    let p = c.args.self.now in
    let there : c.in-Journal.number < length p.journals.items = subst (λ (d : Device). IsThere (plain_state p) d) c.in-Journal.is c.requires in
    on_err c.resize-in-Journal.result (λ bytes. same_journal p.control p.state p.journals.items p.volumes.items (take p.next p.script) p.said.items (drop p.next p.script) p.console_faults c.args.device _ _ c.from.ensures
    _ _ c.in-Journal.is (omega (arith, there, c.from.ensures)) c.index_mut.ensures.value bytes) c.resize-in-Journal.ensures.err

pub returns-in-Here-clause-ok : goal.returns-in-Here-clause-ok
returns-in-Here-clause-ok c =
    let p = c.args.self.now in
    let there = subst (λ (d : Device). IsThere (plain_state p) d) c.in-Volume.is c.requires in
    on_ok c.resize-in-Here.result (λ bytes. resizes_volume p.control p.state p.journals.items p.volumes.items (take p.next p.script) p.said.items (drop p.next p.script) p.console_faults c.args.device _ _ c.from-in-Volume.ensures
    _ _ c.in-Volume.is (omega (arith, there.0, c.from-in-Volume.ensures)) c.index_mut-in-Volume.ensures.value (sym (ap place_is_lent c.in-Here.is)) c.args.length (ap length bytes ∙ length-resized c.args.length _) (bytes ∙ ap (λ (l : List ℕ). resized c.args.length l) (sym (ap place_bytes c.in-Here.is)))) c.resize-in-Here.ensures.ok

pub returns-in-Here-clause-err_devices : goal.returns-in-Here-clause-err_devices
returns-in-Here-clause-err_devices c =
    let p = c.args.self.now in
    let there = subst (λ (d : Device). IsThere (plain_state p) d) c.in-Volume.is c.requires in
    on_err c.resize-in-Here.result (λ bytes. same_volume p.control p.state p.journals.items p.volumes.items (take p.next p.script) p.said.items (drop p.next p.script) p.console_faults c.args.device _ _ c.from-in-Volume.ensures
    _ _ c.in-Volume.is (omega (arith, there.0, c.from-in-Volume.ensures)) c.index_mut-in-Volume.ensures.value (sym (ap place_is_lent c.in-Here.is)) (ap length bytes ∙ sym (ap place_length c.in-Here.is)) (bytes ∙ sym (ap place_bytes c.in-Here.is))) c.resize-in-Here.ensures.err
