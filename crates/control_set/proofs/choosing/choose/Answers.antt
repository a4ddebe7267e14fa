use Rattle.std.proofs.Common.{◌≡◌, ℕ, List, drop, Option, Result, Ok, IfOk, IfSome, sym, subst, ◌∙◌}
use Rattle.std.proofs.lemmas.Result.{on_ok_weaker}
use Rattle.xrc_edge.specs.Causes.{Rose}
use Rattle.crash_plant.specs.declared.device.Device.TheVariants.{Control}
use Rattle.crash_plant.specs.Moments.{on, Same}
use Rattle.crash_plant.proofs.Steps.{works_on_trans}
use Rattle.crash_plant.proofs.BehindGates.{same_after}
use Rattle.control_set.specs.declared.value.Mark.{Mark}
use Rattle.control_set.specs.Marks.{IsMark}
use Rattle.control_set.specs.Slots.{HoldsMark, chosen_mark, chosen_of, lengths_of, slot_of}
use Rattle.control_set.proofs.Lengths.{same_lengths}
use Rattle.control_set.proofs.Stands.{none_of, beside_is}
use Rattle.control_set.proofs.choosing.choose.Goals as goal

pub returns-in-Ok : goal.returns-in-Ok
returns-in-Ok g c =
    let old = g.P.Plant.state c.args.plant.now in
    let mid = g.P.Plant.state c.read_slot.new.plant in
    let new = g.P.Plant.state c.choose_beside.new.plant in
    let lens = same_lengths old mid c.read_slot.ensures.only.site in
    let rest = c.choose_beside.ensures in
    let whole : g.P.Plant.tells → chosen_mark (lengths_of old) (old.bytes Control) ≡ chosen_of c.in-Ok.first (slot_of (lengths_of mid) (drop 512 (mid.bytes Control))) =
    λ told. beside_is (lengths_of old) (lengths_of mid) (old.bytes Control) (mid.bytes Control) c.in-Ok.first (c.in-Ok.ensures.slot told) lens (c.read_slot.ensures.same told) in
    let chosen : g.P.Plant.tells → IfOk c.choose_beside.result (λ found. chosen_mark (lengths_of old) (old.bytes Control) ≡ Ok found) =
    λ told. subst (λ (r : Result (Option Mark) ℕ). IfOk c.choose_beside.result (λ found. r ≡ Ok found)) (sym (whole told)) (rest.chosen told) in
    record {
      chosen = chosen;
      keeps = subst (λ (ls : List ℕ). IfOk c.choose_beside.result (λ found. IfSome found (IsMark ls))) lens rest.keeps;
      damaged = λ told place is. whole told ∙ rest.damaged told place is;
      none = λ told. none_of (lengths_of old) (old.bytes Control) c.choose_beside.result (chosen told);
      fault = λ is. subst (λ (n : ℕ). Rose n (new.faults Control)) c.in-Ok.ensures.cause.ok (rest.fault is);
      ok_without_fault = on_ok_weaker c.choose_beside.result (λ e. e ∙ c.in-Ok.ensures.cause.ok) rest.ok_without_fault;
      damaged_without_fault = λ place is. rest.damaged_without_fault place is ∙ c.in-Ok.ensures.cause.ok;
      same = λ told. rest.same told ∙ c.read_slot.ensures.same told;
      moments = λ told. same_after (on old Control) (on mid Control) (on new Control) Same ((c.read_slot.ensures.only.elapses told).kept Control) (c.read_slot.ensures.moments told) ((rest.only.elapses told).kept Control) (rest.moments told);
      others = works_on_trans g.P.Plant.tells _ _ _ _ c.read_slot.ensures.only rest.only;
    }

pub choose_beside-requires-clause-keeps : goal.choose_beside-requires-clause-keeps
choose_beside-requires-clause-keeps g c _ _ =
    let old = g.P.Plant.state c.args.plant.now in
    let mid = g.P.Plant.state c.read_slot.new.plant in
    subst (λ (ls : List ℕ). HoldsMark ls c.in-Ok.first) (sym (same_lengths old mid c.read_slot.ensures.only.site)) c.in-Ok.ensures.keeps
