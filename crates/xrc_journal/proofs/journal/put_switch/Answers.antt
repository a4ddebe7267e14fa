use Rattle.std.proofs.Common.{◌+◌, ℕ, List, length, ◌∙◌, ap, subst, arith}
use Rattle.std.proofs.lemmas.Result.{on_ok_weaker}
use Rattle.crash_plant.specs.declared.device.Device.TheVariants.{Journal as JournalDevice}
use Rattle.crash_plant.specs.declared.layout.TheConstants.{SWITCH}
use Rattle.crash_plant.specs.Bytes.{patched, Torn}
use Rattle.crash_plant.specs.Moments.{on, Follows}
use Rattle.crash_plant.proofs.Steps.{works_on_trans}
use Rattle.crash_plant.proofs.BehindGates.{torn_here, written as written_after}
use Rattle.xrc_journal.specs.Records.{switch_spelling}
use Rattle.xrc_journal.proofs.Puts.{follows_opened, follows_staged}
use Rattle.xrc_journal.proofs.journal.put_switch.Goals as goal

pub returns-in_err-put_down-clause-moments : goal.returns-in_err-put_down-clause-moments
returns-in_err-put_down-clause-moments g c told =
    let old = g.P.Plant.state c.args.plant.now in
    let mid = g.P.Plant.state c.put_down.new.plant in
    let at = c.args.at in
    let device = JournalDevice at.set in
    let behind = switch_spelling at.number c.args.cut.0 c.args.set in
    follows_staged (old.lengths device) SWITCH at.place behind (on old device) (on mid device) (c.requires.shut told) (subst (λ (l : List ℕ). Follows (Torn (at.place + 1) (length l)) (on old device) (on mid device)) c.switch_bytes-behind.ensures.spelled (c.put_down.ensures.moments told))

pub returns-clause-moments : goal.returns-clause-moments
returns-clause-moments g c told =
    let old = g.P.Plant.state c.args.plant.now in
    let mid = g.P.Plant.state c.put_down.new.plant in
    let new = g.P.Plant.state c.put_down-2.new.plant in
    let at = c.args.at in
    let device = JournalDevice at.set in
    let behind = switch_spelling at.number c.args.cut.0 c.args.set in
    let put = c.in_ok-put_down.ensures.written told ∙ ap (λ (l : List ℕ). patched (at.place + 1) l (old.bytes device)) c.switch_bytes-behind.ensures.spelled in
    let long = g.met.P.Plant.length_told c.args.plant.now device told c.requires.there in
    follows_opened (old.lengths device) SWITCH at.place behind (old.bytes device) (mid.bytes device) long (omega (arith, c.requires.room)) c.requires.room put
    (on old device) (on mid device) (on new device) (c.requires.shut told) ((c.put_down.ensures.only.elapses told).kept device) (subst (λ (l : List ℕ). Follows (Torn (at.place + 1) (length l)) (on old device) (on mid device)) c.switch_bytes-behind.ensures.spelled (c.put_down.ensures.moments told))
    (c.in_ok-put_down.ensures.durable told) ((c.put_down-2.ensures.only.elapses told).kept device) (c.put_down-2.ensures.moments told)

pub returns-clause-only : goal.returns-clause-only
returns-clause-only g c = works_on_trans g.P.Plant.tells _ _ _ _ c.put_down.ensures.only c.put_down-2.ensures.only

pub returns-clause-written : goal.returns-clause-written
returns-clause-written g c told =
    let old = g.P.Plant.state c.args.plant.now in
    let mid = g.P.Plant.state c.put_down.new.plant in
    let device = JournalDevice c.args.at.set in
    let p = c.args.at.place in
    let behind = switch_spelling c.args.at.number c.args.cut.0 c.args.set in
    let size = g.met.P.Plant.length_told c.args.plant.now device told c.requires.there in
    let put = c.in_ok-put_down.ensures.written told ∙ ap (λ (l : List ℕ). patched (p + 1) l (old.bytes device)) c.switch_bytes-behind.ensures.spelled in
    on_ok_weaker c.put_down-2.result (λ e. written_after p behind (old.bytes device) (old.bytes device) (mid.bytes device) (omega (arith, size, c.requires.room)) (torn_here p 1 (old.bytes device)) put _ e) (c.put_down-2.ensures.written told)
