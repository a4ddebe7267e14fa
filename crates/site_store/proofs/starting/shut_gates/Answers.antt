use Rattle.std.proofs.Common.{ℕ, List, ap, ◌∙◌}
use Rattle.crash_plant.specs.declared.device.Device.TheVariants.{Control}
use Rattle.crash_plant.proofs.Steps.{works_on_trans}
use Rattle.site_store.proofs.Shutting.{on_ok_both, reads_durable, reads_follow, shut_after_reads, zeroed_by}
use Rattle.site_store.specs.Formats.{front_at}
use Rattle.site_store.proofs.starting.shut_gates.Goals as goal

pub returns-in_err-second-clause-moments : goal.returns-in_err-second-clause-moments
returns-in_err-second-clause-moments g c told durable =
    reads_follow g.P.Plant.tells told (g.P.Plant.state c.args.plant.now) (g.P.Plant.state c.read_front.new.plant) (g.P.Plant.state c.read_front-2.new.plant) c.read_front.ensures.only c.read_front-2.ensures.only
    (c.read_front.ensures.moments told) (c.read_front-2.ensures.moments told)

pub returns-in_err-second-clause-only : goal.returns-in_err-second-clause-only
returns-in_err-second-clause-only g c = works_on_trans g.P.Plant.tells _ _ _ _ c.read_front.ensures.only c.read_front-2.ensures.only

pub returns-then-first-second-clause-moments : goal.returns-then-first-second-clause-moments
returns-then-first-second-clause-moments g c told durable =
    let old = g.P.Plant.state c.args.plant.now in
    let one = g.P.Plant.state c.read_front.new.plant in
    let two = g.P.Plant.state c.read_front-2.new.plant in
    let first = c.read_front.ensures in
    let second = c.read_front-2.ensures in
    shut_after_reads g.P.Plant.tells told old one two first.only second.only (first.moments told) (second.moments told) (g.P.Plant.state c.shut_both.new.plant) c.shut_both.ensures.only
    (c.shut_both.ensures.moments told (reads_durable g.P.Plant.tells told old one two first.only second.only (first.moments told) (second.moments told) (first.same told) (second.same told) durable))

pub returns-then-first-second-clause-only : goal.returns-then-first-second-clause-only
returns-then-first-second-clause-only g c = works_on_trans g.P.Plant.tells _ _ _ _ (works_on_trans g.P.Plant.tells _ _ _ _ c.read_front.ensures.only c.read_front-2.ensures.only) c.shut_both.ensures.only

pub returns-else-first-second-clause-moments : goal.returns-else-first-second-clause-moments
returns-else-first-second-clause-moments g c told durable =
    let old = g.P.Plant.state c.args.plant.now in
    let one = g.P.Plant.state c.read_front.new.plant in
    let two = g.P.Plant.state c.read_front-2.new.plant in
    let first = c.read_front.ensures in
    let second = c.read_front-2.ensures in
    let both = c.shut_both-else-first-second in
    shut_after_reads g.P.Plant.tells told old one two first.only second.only (first.moments told) (second.moments told) (g.P.Plant.state both.new.plant) both.ensures.only
    (both.ensures.moments told (reads_durable g.P.Plant.tells told old one two first.only second.only (first.moments told) (second.moments told) (first.same told) (second.same told) durable))

pub returns-else-first-second-clause-only : goal.returns-else-first-second-clause-only
returns-else-first-second-clause-only g c = works_on_trans g.P.Plant.tells _ _ _ _ (works_on_trans g.P.Plant.tells _ _ _ _ c.read_front.ensures.only c.read_front-2.ensures.only) c.shut_both-else-first-second.ensures.only

pub returns-then-first-second-clause-zeroed : goal.returns-then-first-second-clause-zeroed
returns-then-first-second-clause-zeroed g c told =
    let old = g.P.Plant.state c.args.plant.now in
    let new = g.P.Plant.state c.shut_both.new.plant in
    on_ok_both c.shut_both.result
    (λ idle counted. zeroed_by (old.bytes Control) (new.bytes Control) c.in_ok-first.first c.in_ok-second.second (c.in_ok-first.ensures.front told) (c.in_ok-second.ensures.front told ∙ ap (λ (l : List ℕ). front_at 512 l) (c.read_front.ensures.same told)) idle counted)
    (c.shut_both.ensures.idle told) (c.shut_both.ensures.counted told)

pub returns-else-first-second-clause-zeroed : goal.returns-else-first-second-clause-zeroed
returns-else-first-second-clause-zeroed g c told =
    let both = c.shut_both-else-first-second in
    let old = g.P.Plant.state c.args.plant.now in
    let new = g.P.Plant.state both.new.plant in
    on_ok_both both.result
    (λ idle counted. zeroed_by (old.bytes Control) (new.bytes Control) c.in_ok-first.first c.in_ok-second.second (c.in_ok-first.ensures.front told) (c.in_ok-second.ensures.front told ∙ ap (λ (l : List ℕ). front_at 512 l) (c.read_front.ensures.same told)) counted idle)
    (both.ensures.idle told) (both.ensures.counted told)
