use Rattle.std.proofs.Common.{◌≡◌, List, ℕ, slice_index, subst, sym, refl, ap, arith}
use Rattle.crash_plant.specs.declared.device.Device.{Device}
use Rattle.crash_plant.specs.declared.device.Device.TheVariants.{Control, Journal}
use Rattle.crash_plant.proofs.Steps.{works_on_more, works_on_trans}
use Rattle.control_set.specs.Slots.{NoGateOpen}
use Rattle.site_store.specs.Formats.{AreZeroed, IsFormatted}
use Rattle.site_store.proofs.Calls.{durable_still}
use Rattle.site_store.proofs.Fresh.{shut_control, shut_journal}
use Rattle.site_store.proofs.starting.shut_all.Goals as goal

control_formatted : (d : Device) → d ≡ Control → IsFormatted d
control_formatted d is = subst (λ (e : Device). IsFormatted e) (sym is) tt

journal_formatted : (d : Device) → d ≡ Journal 0 → IsFormatted d
journal_formatted d is = subst (λ (e : Device). IsFormatted e) (sym is) refl

pub returns-in_default-clause-moments : goal.returns-in_default-clause-moments
returns-in_default-clause-moments g c told durable =
    shut_control g.P.Plant.tells told (g.P.Plant.state c.args.plant.now) (g.P.Plant.state c.shut_gates.new.plant) c.shut_gates.ensures.only (c.shut_gates.ensures.moments told durable)

pub returns-in_default-put_down-clause-moments : goal.returns-in_default-put_down-clause-moments
returns-in_default-put_down-clause-moments g c told durable =
    shut_journal g.P.Plant.tells told (g.P.Plant.state c.args.plant.now) (g.P.Plant.state c.shut_gates.new.plant) c.shut_gates.ensures.only (c.shut_gates.ensures.moments told durable)
    (g.P.Plant.state c.put_down.new.plant) (c.in-Ok.ensures.shut told) (c.in-Ok.ensures.durable told) c.requires.journals c.put_down.ensures.only (c.put_down.ensures.moments told)

pub returns-in_default-put_down-clause-only : goal.returns-in_default-put_down-clause-only
returns-in_default-put_down-clause-only g c =
    works_on_trans g.P.Plant.tells _ _ _ _ (works_on_more g.P.Plant.tells _ IsFormatted _ _ control_formatted c.shut_gates.ensures.only) (works_on_more g.P.Plant.tells _ IsFormatted _ _ journal_formatted c.put_down.ensures.only)

pub returns-clause-shut : goal.returns-clause-shut
returns-clause-shut g c told =
    let puts = c.put_down.ensures.only in
    let written = ap (λ (l : List ℕ). slice_index l 0) (c.in-Ok-put_down.ensures.written told) in
    record {
      gates = subst (λ (l : List ℕ). NoGateOpen l) (sym (puts.others told Control (λ same. cc same)).bytes) (c.in-Ok.ensures.shut told);
      first = λ is. absurd (omega (arith, written, is));
      control = durable_still g.P.Plant.tells told _ _ _ Control puts (λ same. cc same) (c.in-Ok.ensures.durable told);
      journal = c.in-Ok-put_down.ensures.durable told;
    }

pub returns-clause-moments : goal.returns-clause-moments
returns-clause-moments g c told durable =
    shut_journal g.P.Plant.tells told (g.P.Plant.state c.args.plant.now) (g.P.Plant.state c.shut_gates.new.plant) c.shut_gates.ensures.only (c.shut_gates.ensures.moments told durable)
    (g.P.Plant.state c.put_down.new.plant) (c.in-Ok.ensures.shut told) (c.in-Ok.ensures.durable told) c.requires.journals c.put_down.ensures.only (c.put_down.ensures.moments told)

pub returns-clause-only : goal.returns-clause-only
returns-clause-only g c =
    works_on_trans g.P.Plant.tells _ _ _ _ (works_on_more g.P.Plant.tells _ IsFormatted _ _ control_formatted c.shut_gates.ensures.only) (works_on_more g.P.Plant.tells _ IsFormatted _ _ journal_formatted c.put_down.ensures.only)

pub returns-clause-zeroed : goal.returns-clause-zeroed
returns-clause-zeroed g c told =
    let old = g.P.Plant.state c.args.plant.now in
    subst (λ (l : List ℕ). AreZeroed (old.bytes Control) l) (sym (c.put_down.ensures.only.others told Control (λ same. cc same)).bytes) (c.in-Ok.ensures.zeroed told)

pub returns-clause-first : goal.returns-clause-first
returns-clause-first g c told = ap (λ (l : List ℕ). slice_index l 0) (c.in-Ok-put_down.ensures.written told)
