use Rattle.std.proofs.Common.{◌+◌, ℕ, List, length, ◌∙◌, ap, arith}
use Rattle.std.proofs.lemmas.Result.{on_ok_weaker}
use Rattle.crash_plant.specs.Bytes.{patched, Torn}
use Rattle.crash_plant.specs.Moments.{on}
use Rattle.crash_plant.proofs.Patches.{torn_more, torn_twice, patched_twice}
use Rattle.crash_plant.proofs.Steps.{follows_then, works_on_trans}
use Rattle.xrc_journal.proofs.journal.put_both.Goals as goal

pub returns-in_err-write-clause-moments : goal.returns-in_err-write-clause-moments
returns-in_err-write-clause-moments g c told t from to f left =
    let step = c.write.ensures.moments told t from to f left in
    (step.0, step.1, torn_more c.args.place (length c.args.front.now) (length c.args.back.now) step.0 f step.2)

pub returns-clause-written : goal.returns-clause-written
returns-clause-written g c told =
    let p = c.args.place in
    let old = (g.P.Plant.state c.args.plant.now).bytes c.args.device in
    let front = c.args.front.now in
    let back = c.args.back.now in
    let size = g.met.P.Plant.length_told c.args.plant.now c.args.device told c.requires.there in
    on_ok_weaker c.put_down.result (λ e. e ∙ ap (λ (l : List ℕ). patched (p + length front) back l) (c.in_ok-write.ensures.written told) ∙ patched_twice p front back old (omega (arith, size, c.requires.range))) (c.put_down.ensures.written told)

pub returns-clause-moments : goal.returns-clause-moments
returns-clause-moments g c told =
    let a = on (g.P.Plant.state c.args.plant.now) c.args.device in
    let b = on (g.P.Plant.state c.write.new.self) c.args.device in
    let z = on (g.P.Plant.state c.put_down.new.plant) c.args.device in
    let p = c.args.place in
    let m = length c.args.front.now in
    let k = length c.args.back.now in
    follows_then a b z (Torn p m) (Torn (p + m) k) (Torn p (m + k)) ((c.write.ensures.only.elapses told).kept c.args.device).later (c.write.ensures.moments told) ((c.put_down.ensures.only.elapses told).kept c.args.device) (c.put_down.ensures.moments told)
    (λ x y here torn. torn_more p m k x y torn) (λ x y w here there first second. torn_twice p m k x y w first second)

pub returns-clause-only : goal.returns-clause-only
returns-clause-only g c = works_on_trans g.P.Plant.tells _ _ _ _ c.write.ensures.only c.put_down.ensures.only
