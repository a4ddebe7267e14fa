use Rattle.std.proofs.Common.{rules, ℕ, List, length, take, ◌∙◌, ap}
use Rattle.std.proofs.lemmas.Result.{on_ok_weaker}
use Rattle.crash_plant.specs.declared.device.Device.TheVariants.{Volume}
use Rattle.crash_plant.specs.Moments.{on}
use Rattle.crash_plant.proofs.Steps.{works_on_trans}
use Rattle.volume_label.specs.Labels.{label_of}
use Rattle.volume_label.specs.Laws.{IsValid}
use Rattle.volume_label.proofs.Labels.{back, begins_with, spelled_length, torn_fourteen, written_then_synced}
use Rattle.volume_label.proofs.device.write_label.Goals as goal

pub returns-clause-moments : goal.returns-clause-moments
returns-clause-moments g c told =
    let old = g.P.Plant.state c.args.plant.now in
    let mid = g.P.Plant.state c.write.new.self in
    let new = g.P.Plant.state c.sync.new.self in
    let d = Volume c.args.device in
    let size = ap length c.encode_label-bytes.ensures.spelled ∙ spelled_length c.args.label.now c.encode_label-bytes.ensures.serial in
    written_then_synced (on old d) (on mid d) (on new d) ((c.write.ensures.only.elapses told).kept d)
    (λ t from to x left. let step = c.write.ensures.moments told t from to x left in (step.0, step.1, torn_fourteen (length c.encode_label-bytes.result) step.0 x size step.2))
    ((c.sync.ensures.only.elapses told).kept d) (c.sync.ensures.moments told)

pub returns-clause-others : goal.returns-clause-others
returns-clause-others g c = works_on_trans g.P.Plant.tells _ _ _ _ c.write.ensures.only c.sync.ensures.only

pub returns-clause-begins : goal.returns-clause-begins
returns-clause-begins g c told =
    let old = g.P.Plant.state c.args.plant.now in
    let new = g.P.Plant.state c.sync.new.self in
    on_ok_weaker c.sync.result (λ written. begins_with c.args.label.now (old.bytes (Volume c.args.device)) (new.bytes (Volume c.args.device)) c.encode_label-bytes.ensures.serial written) (search rules)

pub returns-clause-stands : goal.returns-clause-stands
returns-clause-stands g c told room =
    let old = g.P.Plant.state c.args.plant.now in
    let new = g.P.Plant.state c.sync.new.self in
    let label = c.args.label.now in
    let valid : IsValid (old.lengths (Volume c.args.device)) label = record { serial = c.encode_label-bytes.ensures.serial; fits = c.encode_label-bytes.ensures.fits; room = room } in
    let site = c.sync.ensures.only.site.lengths (Volume c.args.device) ∙ c.write.ensures.only.site.lengths (Volume c.args.device) in
    on_ok_weaker c.sync.result (λ begins. ap (λ (n : ℕ). label_of n (take 14 (new.bytes (Volume c.args.device)))) site ∙ ap (λ (l : List ℕ). label_of (old.lengths (Volume c.args.device)) l) begins ∙ back (old.lengths (Volume c.args.device)) label valid) (returns-clause-begins g c told)
