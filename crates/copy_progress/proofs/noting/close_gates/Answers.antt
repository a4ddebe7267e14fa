use Rattle.std.proofs.Common.{◌≡◌, ◌≢◌, ℕ, not, List, slice_index, sym, ap, subst, ◌∙◌}
use Rattle.copy_progress.proofs.Clearing.{on_ok_both}
use Rattle.crash_plant.specs.declared.device.Device.TheVariants.{Volume}
use Rattle.crash_plant.specs.Bytes.{Torn}
use Rattle.crash_plant.specs.Gates.{Shuts}
use Rattle.crash_plant.specs.Moments.{on}
use Rattle.crash_plant.proofs.Steps.{works_on_trans, follows_then}
use Rattle.copy_progress.specs.Slots.{Clears, free_progress_place, progress_place}
use Rattle.copy_progress.proofs.Chosen.{gate_opened, gate_closed, second_is_free}
use Rattle.copy_progress.proofs.Clearing.{beside_gate, both_shut, clears_free, clears_then, other_gate}
use Rattle.copy_progress.proofs.noting.close_gates.Goals as goal

pub close_gate-requires-clause-opened : goal.close_gate-requires-clause-opened
close_gate-requires-clause-opened g c κs within told open_now =
    let slots = c.requires.slots told in
    let start = (g.P.Plant.state c.args.plant.now).bytes (Volume c.args.device) in
    subst (λ (p : ℕ). slice_index start p ≡ 1) (sym c.place_of.ensures)
    (gate_opened start c.args.slots.now.first c.args.slots.now.second slots.first slots.second c.is_second_slot_free-is_free.result (sym c.is_gate_open.ensures ∙ open_now))

pub close_gate-requires-clause-closed : goal.close_gate-requires-clause-closed
close_gate-requires-clause-closed g c κs within told shut_now =
    let slots = c.requires.slots told in
    let start = (g.P.Plant.state c.args.plant.now).bytes (Volume c.args.device) in
    subst (λ (p : ℕ). slice_index start p ≢ 1) (sym c.place_of.ensures)
    (gate_closed start c.args.slots.now.first c.args.slots.now.second slots.first slots.second c.is_second_slot_free-is_free.result (sym c.is_gate_open.ensures ∙ shut_now))

pub returns-in_err-close_gate-clause-moments : goal.returns-in_err-close_gate-clause-moments
returns-in_err-close_gate-clause-moments g c told t from to f left =
    let start = (g.P.Plant.state c.args.plant.now).bytes (Volume c.args.device) in
    let slots = c.requires.slots told in
    let s = c.is_second_slot_free-is_free.result in
    let step = c.close_gate.ensures.moments told t from to f left in
    let free : progress_place s ≡ free_progress_place start = ap progress_place (second_is_free start c.args.slots.now.first c.args.slots.now.second slots.first slots.second s c.is_second_slot_free-is_free.ensures) in
    (step.0, step.1, clears_free s step.0 f (free ∙ ap free_progress_place (sym (c.requires.durable told step.0 step.1))) (subst (λ (p : ℕ). Shuts p step.0 f) c.place_of.ensures step.2))

pub close_gate-requires-2-clause-opened : goal.close_gate-requires-2-clause-opened
close_gate-requires-2-clause-opened g c κs within told open_now =
    let slots = c.requires.slots told in
    let start = (g.P.Plant.state c.args.plant.now).bytes (Volume c.args.device) in
    let mid = (g.P.Plant.state c.close_gate.new.plant).bytes (Volume c.args.device) in
    let s = c.is_second_slot_free-is_free.result in
    let torn = subst (λ (p : ℕ). Torn p 1 start mid) c.place_of.ensures (c.in_ok-close_gate.ensures.torn told) in
    subst (λ (p : ℕ). slice_index mid p ≡ 1) (sym c.place_of-2.ensures)
    (beside_gate s start mid torn ∙ gate_opened start c.args.slots.now.first c.args.slots.now.second slots.first slots.second (not s) (sym c.is_gate_open-2.ensures ∙ open_now))

pub close_gate-requires-2-clause-closed : goal.close_gate-requires-2-clause-closed
close_gate-requires-2-clause-closed g c κs within told shut_now =
    let slots = c.requires.slots told in
    let start = (g.P.Plant.state c.args.plant.now).bytes (Volume c.args.device) in
    let mid = (g.P.Plant.state c.close_gate.new.plant).bytes (Volume c.args.device) in
    let s = c.is_second_slot_free-is_free.result in
    let torn = subst (λ (p : ℕ). Torn p 1 start mid) c.place_of.ensures (c.in_ok-close_gate.ensures.torn told) in
    subst (λ (p : ℕ). slice_index mid p ≢ 1) (sym c.place_of-2.ensures)
    (λ is. gate_closed start c.args.slots.now.first c.args.slots.now.second slots.first slots.second (not s) (sym c.is_gate_open-2.ensures ∙ shut_now) (sym (beside_gate s start mid torn) ∙ is))

pub returns-clause-moments : goal.returns-clause-moments
returns-clause-moments g c told =
    let here = Volume c.args.device in
    let old = g.P.Plant.state c.args.plant.now in
    let mid = g.P.Plant.state c.close_gate.new.plant in
    let start = old.bytes here in
    let slots = c.requires.slots told in
    let s = c.is_second_slot_free-is_free.result in
    let free : progress_place s ≡ free_progress_place start = ap progress_place (second_is_free start c.args.slots.now.first c.args.slots.now.second slots.first slots.second s c.is_second_slot_free-is_free.ensures) in
    let shut = subst (λ (p : ℕ). slice_index (mid.bytes here) p ≢ 1) c.place_of.ensures (c.in_ok-close_gate.ensures.shut told) in
    let k1 = (c.close_gate.ensures.others.elapses told).kept here in
    follows_then (on old here) (on mid here) (on (g.P.Plant.state c.close_gate-2.new.plant) here) (Shuts c.place_of.result) (Shuts c.place_of-2.result) Clears k1.later (c.close_gate.ensures.moments told)
    ((c.close_gate-2.ensures.others.elapses told).kept here) (c.close_gate-2.ensures.moments told)
    (λ x y there one. clears_free s x y (free ∙ ap free_progress_place (sym (c.requires.durable told x there))) (subst (λ (p : ℕ). Shuts p x y) c.place_of.ensures one))
    (λ x y z before there one two.
    clears_then s x y z (clears_free s x y (free ∙ ap free_progress_place (sym (c.requires.durable told x before))) (subst (λ (p : ℕ). Shuts p x y) c.place_of.ensures one))
    (λ is. shut (ap (λ (l : List ℕ). slice_index l (progress_place s)) (sym (c.in_ok-close_gate.ensures.durable told y there)) ∙ is))
    (subst (λ (p : ℕ). Shuts p y z) c.place_of-2.ensures two))

pub returns-clause-clear : goal.returns-clause-clear
returns-clause-clear g c told =
    let here = Volume c.args.device in
    let mid = (g.P.Plant.state c.close_gate.new.plant).bytes here in
    let new = (g.P.Plant.state c.close_gate-2.new.plant).bytes here in
    let s = c.is_second_slot_free-is_free.result in
    let shut = subst (λ (p : ℕ). slice_index mid p ≢ 1) c.place_of.ensures (c.in_ok-close_gate.ensures.shut told) in
    on_ok_both c.close_gate-2.result
    (λ torn other. both_shut s new (λ is. shut (sym (other_gate s mid new (subst (λ (p : ℕ). Torn p 1 mid new) c.place_of-2.ensures torn)) ∙ is)) (subst (λ (p : ℕ). slice_index new p ≢ 1) c.place_of-2.ensures other))
    (c.close_gate-2.ensures.torn told) (c.close_gate-2.ensures.shut told)

pub returns-clause-only : goal.returns-clause-only
returns-clause-only g c = works_on_trans g.P.Plant.tells _ _ _ _ c.close_gate.ensures.others c.close_gate-2.ensures.others
