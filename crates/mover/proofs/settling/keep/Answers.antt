use Rattle.std.proofs.Common.{rules, ◌≡◌, ◌∙◌, Ok, false, refl, sym, ap}
use Rattle.site_store.specs.Sites.{SiteState}
use Rattle.site_store.specs.Marking.{rows_at_mark}
use Rattle.site_store.specs.Records.{after_mark}
use Rattle.mover.proofs.LiveRows.{none_since}
use Rattle.mover.proofs.MoverCalls.{on_err}
use Rattle.mover.proofs.MovedOn.{on_ok}
use Rattle.mover.proofs.Numbers.{marked_use, tell_uses, told_use}
use Rattle.mover.proofs.Resting.{marked_at_rest, may_report, may_then, rests_as, told_by_record, told_then}
use Rattle.mover.proofs.SiteCalls.{may_mark}
use Rattle.mover.proofs.settling.keep.Goals as goal

pub suspend-requires-clause-ready : goal.suspend-requires-clause-ready
suspend-requires-clause-ready g c κs within =
    may_report g.P.Plant.tells g.P.Plant.state c.args.site.now c.apply.new.self c.args.plant.now c.apply.new.plant c.requires.fast c.requires.level c.requires.apart c.apply.ensures.ok c.apply.ensures.leaves c.apply.ensures.moments c.apply.ensures.others

pub returns-in_err-suspend : goal.returns-in_err-suspend
returns-in_err-suspend g c =
    let tells = g.P.Plant.tells in
    let site = c.args.site.now in
    let next = c.suspend.new.self in
    let old = g.P.Plant.state c.args.plant.now in
    let new = g.P.Plant.state c.suspend.new.plant in
    let s = c.suspend.ensures in
    let by = told_by_record tells g.P.Plant.state site c.apply.new.self c.args.plant.now c.apply.new.plant c.requires.fast c.requires.level c.requires.apart c.apply.ensures.ok c.apply.ensures.leaves c.apply.ensures.moments c.apply.ensures.others
    c.time-time.result.0 c.time-time.ensures next c.suspend.new.plant c.suspend.result s.ok s.leaves s.moments s.others s.cause s.failed s.volumes s.uncalled in
    let same : c.suspend.result ≡ c.from_residual.result = search rules in
    let b = rests_as tells site next old new c.suspend.result c.from_residual.result same by in
    let used = tell_uses tells c.time-time.result.0 site c.apply.new.self next old (g.P.Plant.state c.apply.new.plant) c.apply.new.plant c.suspend.new.plant c.suspend.result c.apply.ensures.ok s.ok in
    let numbers = told_use site next c.suspend.result c.from_residual.result same used in
    record { told = told_then tells site next old new c.from_residual.result b; rests = may_then tells site next old new c.from_residual.result b; marked = on_err (next.since ≡ 0) c.from_residual.result c.in_err-suspend.field-0.0 (sym same ∙ c.in_err-suspend.was); moved = b.moved; works = b.works; numbers = numbers }

pub returns-then-not-is_mark_due : goal.returns-then-not-is_mark_due
returns-then-not-is_mark_due g c =
    let tells = g.P.Plant.tells in
    let site = c.args.site.now in
    let next = c.suspend.new.self in
    let old = g.P.Plant.state c.args.plant.now in
    let new = g.P.Plant.state c.suspend.new.plant in
    let s = c.suspend.ensures in
    let by = told_by_record tells g.P.Plant.state site c.apply.new.self c.args.plant.now c.apply.new.plant c.requires.fast c.requires.level c.requires.apart c.apply.ensures.ok c.apply.ensures.leaves c.apply.ensures.moments c.apply.ensures.others
    c.time-time.result.0 c.time-time.ensures next c.suspend.new.plant c.suspend.result s.ok s.leaves s.moments s.others s.cause s.failed s.volumes s.uncalled in
    let b = rests_as tells site next old new c.suspend.result (Ok tt) c.in_ok-suspend.was by in
    let used = tell_uses tells c.time-time.result.0 site c.apply.new.self next old (g.P.Plant.state c.apply.new.plant) c.apply.new.plant c.suspend.new.plant c.suspend.result c.apply.ensures.ok s.ok in
    record { told = b.rests.told; rests = b.rests.may; marked = none_since next.since (sym c.is_mark_due.ensures ∙ c.if-not-is_mark_due.true); moved = b.moved; works = b.works; numbers = told_use site next c.suspend.result (Ok tt) c.in_ok-suspend.was used }

pub mark-requires-clause-may : goal.mark-requires-clause-may
mark-requires-clause-may g c κs within =
    let tells = g.P.Plant.tells in
    let site = c.args.site.now in
    let next = c.suspend.new.self in
    let old = g.P.Plant.state c.args.plant.now in
    let new = g.P.Plant.state c.suspend.new.plant in
    let s = c.suspend.ensures in
    let by = told_by_record tells g.P.Plant.state site c.apply.new.self c.args.plant.now c.apply.new.plant c.requires.fast c.requires.level c.requires.apart c.apply.ensures.ok c.apply.ensures.leaves c.apply.ensures.moments c.apply.ensures.others
    c.time-time.result.0 c.time-time.ensures next c.suspend.new.plant c.suspend.result s.ok s.leaves s.moments s.others s.cause s.failed s.volumes s.uncalled in
    let b = rests_as tells site next old new c.suspend.result (Ok tt) c.in_ok-suspend.was by in
    may_mark tells next new b.rests.may.fast b.rests.may.level b.rests.may.idle

pub returns : goal.returns
returns g c =
    let tells = g.P.Plant.tells in
    let site = c.args.site.now in
    let mid = c.suspend.new.self in
    let next = c.mark.new.self in
    let old = g.P.Plant.state c.args.plant.now in
    let between = g.P.Plant.state c.suspend.new.plant in
    let new = g.P.Plant.state c.mark.new.plant in
    let s = c.suspend.ensures in
    let m = c.mark.ensures in
    let by = told_by_record tells g.P.Plant.state site c.apply.new.self c.args.plant.now c.apply.new.plant c.requires.fast c.requires.level c.requires.apart c.apply.ensures.ok c.apply.ensures.leaves c.apply.ensures.moments c.apply.ensures.others
    c.time-time.result.0 c.time-time.ensures mid c.suspend.new.plant c.suspend.result s.ok s.leaves s.moments s.others s.cause s.failed s.volumes s.uncalled in
    let b = rests_as tells site mid old between c.suspend.result (Ok tt) c.in_ok-suspend.was by in
    let all = marked_at_rest tells g.P.Plant.state site mid next c.args.plant.now c.suspend.new.plant c.mark.new.plant b false refl c.mark.result m.ok m.leaves m.moments m.others m.cause m.failed in
    let used = tell_uses tells c.time-time.result.0 site c.apply.new.self mid old (g.P.Plant.state c.apply.new.plant) c.apply.new.plant c.suspend.new.plant c.suspend.result c.apply.ensures.ok s.ok in
    let marked = on_ok c.mark.result (λ (e : next ≡ after_mark false (rows_at_mark mid.level mid next.failed) next.failed mid). ap (λ (s : SiteState). s.since) e) m.ok.next_is in
    let numbers = marked_use site mid next false c.suspend.new.plant c.mark.new.plant c.suspend.result c.in_ok-suspend.was used c.mark.result m.ok in
    record { told = told_then tells site next old new c.mark.result all; rests = may_then tells site next old new c.mark.result all; marked = marked; moved = all.moved; works = all.works; numbers = numbers }
