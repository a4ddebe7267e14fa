-- A change is logged and taken over.
use Rattle.std.proofs.Common.{◌≡◌, ◌∙◌, ℕ, true, List, Some, Result, Err, ap, refl, subst, sym}
use Rattle.crash_plant.specs.declared.device.Device.TheVariants.{Volume}
use Rattle.crash_plant.specs.Choices.{Choice, IsChoice}
use Rattle.pair_table.specs.declared.row.PairRow.{PairRow}
use Rattle.pair_table.specs.Tables.{Table, none_clash}
use Rattle.site_store.proofs.RowRoom.{reads_choice}
use Rattle.xrc_status.specs.declared.stop.Stop.{Stop}
use Rattle.xrc_status.specs.declared.stop.Stop.TheVariants as stops
use Rattle.xrc_session.specs.Answering.{ControlsCount, LogsCommands, change_result}
use Rattle.xrc_session.specs.Bringing.{IsWorkOfStore}
use Rattle.xrc_session.specs.Taking.{IsSoundForRows, MayTake}
use Rattle.xrc_session.proofs.AnswerCalls.{log_stops, log_untaken, log_works}
use Rattle.xrc_session.proofs.AnswerChanges.{may_change, may_take_logged, site_after}
use Rattle.xrc_session.proofs.AnswerLogging.{logging_stops, taking_ends, taking_stops}
use Rattle.xrc_session.proofs.AnswerTaken.{keeps_given, none_missing, may_given, taken_over, that_is_there, tracks_of_group, tracks_taken}
use Rattle.xrc_session.proofs.AnswerWorks.{store_fault}
use Rattle.xrc_session.proofs.Numbered.{given_on}
use Rattle.xrc_session.proofs.kept.SessionParts.log.Goals as goal

pub log_change-requires-clause-may : goal.log_change-requires-clause-may
log_change-requires-clause-may g c κs within =
    let plant = g.P.Plant.state c.args.plant.now in
    may_change g.P.Plant.tells c.args.self.now.names c.args.line.now c.args.change.now c.args.self.now.before.rows.items c.args.site.now c.args.site.now plant plant c.args.plant.now c.args.plant.now c.requires.may

-- ---- it can't be logged

pub stop_of_store-requires : goal.stop_of_store-requires
stop_of_store-requires g c d fault = store_fault (g.P.Plant.state c.args.plant.now) (g.P.Plant.state c.log_change.new.plant) c.in-Err.error c.in-Err.ensures.cause d fault

pub returns-in-Err-clause-works : goal.returns-in-Err-clause-works
returns-in-Err-clause-works g c =
    let old = g.P.Plant.state c.args.plant.now in
    let new = g.P.Plant.state c.log_change.new.plant in
    subst (λ (s : Stop). IsWorkOfStore {T = ℕ} g.P.Plant.tells c.args.site.now c.log_change.new.self old new (Err s)) (sym c.stop_of_store.ensures)
    (log_stops g.P.Plant.tells c.args.self.now.names c.args.line.now c.args.change.now c.args.self.now.before.rows.items c.args.site.now c.log_change.new.self old new c.args.plant.now c.log_change.new.plant c.requires.may c.log_change.ensures.others
    c.in-Err.error c.in-Err.ensures.cause c.in-Err.ensures.ok (λ spent. ap g.P.Plant.state (c.in-Err.ensures.uncalled spent)))

pub returns-in-Err-clause-answers : goal.returns-in-Err-clause-answers
returns-in-Err-clause-answers g c told began was d run stage asked l first points may cover =
    let old = g.P.Plant.state c.args.plant.now in
    let new = g.P.Plant.state c.log_change.new.plant in
    logging_stops g.P.Plant.tells told c.args.self.now.names c.args.line.now c.args.change.now c.args.self.now.before.rows.items c.args.site.now c.log_change.new.self (g.P.Plant.state began) old new c.requires.may c.log_change.ensures.failed
    (λ d. c.log_change.ensures.others.faults (Volume d)) c.log_change.ensures.volumes c.args.plant.now c.log_change.new.plant c.in-Err.error c.in-Err.ensures.ok c.in-Err.ensures.moments c.args.self.now.group c.requires.kept c.requires.live
    run stage asked l first points was d may cover

-- ---- it is taken over

pub unreachable-requires : goal.unreachable-requires
unreachable-requires g c = none_missing (λ group. IsSoundForRows group c.args.self.now.before.rows.items) c.args.self.now.group c.in_default.is c.requires.kept

pub take_change-requires-clause-kept : goal.take_change-requires-clause-kept
take_change-requires-clause-kept g c =
    let rows = c.args.self.now.before.rows.items in
    keeps_given c.args.change.now c.in-Some.group c.args.self.now.group c.in-Some.is rows c.as_slice.result.now rows rows c.as_slice.ensures refl c.requires.kept

pub take_change-requires-clause-may : goal.take_change-requires-clause-may
take_change-requires-clause-may g c =
    let old = g.P.Plant.state c.args.plant.now in
    let new = g.P.Plant.state c.log_change.new.plant in
    let h = c.requires.may in
    let before = c.args.self.now.before.rows.items in
    let site = c.args.site.now in
    let next = c.log_change.new.self in
    let after = site_after g.P.Plant.tells c.args.self.now.names c.args.line.now c.args.change.now before site next old new c.args.plant.now c.log_change.new.plant h c.in-Ok.ensures.leaves c.in-Ok.ensures.ok c.log_change.ensures.failed c.log_change.ensures.others.site in
    let kept = that_is_there (λ group. IsSoundForRows group before) c.args.self.now.group c.in-Some.group c.in-Some.is c.requires.kept in
    let live = that_is_there (ControlsCount c.args.self.now.names) c.args.self.now.group c.in-Some.group c.in-Some.is c.requires.live in
    may_given c.args.change.now c.in-Some.group c.args.self.now.group c.in-Some.is before c.as_slice.result.now c.table.result.now.rows next.told c.as_slice.ensures (ap (λ (t : Table). t.rows) c.table.ensures.table ∙ sym after.may.idle.same)
    (subst (λ (rows : List PairRow). MayTake c.in-Some.group c.args.change.now before rows) (sym after.may.idle.same)
    (may_take_logged g.P.Plant.tells c.args.self.now.names c.args.line.now c.args.change.now before site next old new c.args.plant.now c.log_change.new.plant h (subst (λ (rows : List PairRow). none_clash rows ≡ true) h.rows kept.apart) c.in-Some.group live c.in-Ok.ensures.ok c.in-Ok.ensures.leaves))

-- ---- there is no memory for it

pub returns-in_err-take_change-clause-works : goal.returns-in_err-take_change-clause-works
returns-in_err-take_change-clause-works g c =
    let old = g.P.Plant.state c.args.plant.now in
    let new = g.P.Plant.state c.log_change.new.plant in
    subst (λ (r : Result ℕ Stop). IsWorkOfStore g.P.Plant.tells c.args.site.now c.log_change.new.self old new r) (sym (given_on c.from_residual.result stops.NoMemory c.from_residual.ensures))
    (log_untaken g.P.Plant.tells c.args.self.now.names c.args.line.now c.args.change.now c.args.self.now.before.rows.items c.args.site.now c.log_change.new.self old new c.args.plant.now c.log_change.new.plant c.requires.may c.log_change.ensures.others c.in-Ok.ensures.cause)

pub returns-in_err-take_change-clause-answers : goal.returns-in_err-take_change-clause-answers
returns-in_err-take_change-clause-answers g c told began =
    let old = g.P.Plant.state c.args.plant.now in
    let new = g.P.Plant.state c.log_change.new.plant in
    subst (λ (r : Result ℕ Stop). LogsCommands c.args.line.now c.args.change.now c.args.self.now (record c.args.self.now { group = Some c.take_change.new.group }) c.args.site.now c.log_change.new.self (g.P.Plant.state began) old new (change_result c.args.change.now r)) (sym (given_on c.from_residual.result stops.NoMemory c.from_residual.ensures))
    (λ was d run stage asked l first points may cover.
    taking_stops g.P.Plant.tells told c.args.self.now.names c.args.line.now c.args.change.now c.args.self.now.before.rows.items c.args.site.now c.log_change.new.self (g.P.Plant.state began) old new c.requires.may c.log_change.ensures.failed
    (λ d. c.log_change.ensures.others.faults (Volume d)) c.log_change.ensures.volumes c.args.plant.now c.log_change.new.plant c.in-Ok.ensures.ok c.in-Ok.ensures.moments c.in-Ok.ensures.leaves (λ same. ap g.P.Plant.state same)
    c.in-Some.group c.args.self.now.group c.in-Some.is c.requires.kept c.requires.live run stage asked l first points was d may cover)

-- ---- it was taken over

pub returns-clause-site : goal.returns-clause-site
returns-clause-site g c =
    site_after g.P.Plant.tells c.args.self.now.names c.args.line.now c.args.change.now c.args.self.now.before.rows.items c.args.site.now c.log_change.new.self (g.P.Plant.state c.args.plant.now) (g.P.Plant.state c.log_change.new.plant)
    c.args.plant.now c.log_change.new.plant c.requires.may c.in-Ok.ensures.leaves c.in-Ok.ensures.ok c.log_change.ensures.failed c.log_change.ensures.others.site

pub returns-clause-kept : goal.returns-clause-kept
returns-clause-kept g c =
    let after = site_after g.P.Plant.tells c.args.self.now.names c.args.line.now c.args.change.now c.args.self.now.before.rows.items c.args.site.now c.log_change.new.self (g.P.Plant.state c.args.plant.now) (g.P.Plant.state c.log_change.new.plant)
    c.args.plant.now c.log_change.new.plant c.requires.may c.in-Ok.ensures.leaves c.in-Ok.ensures.ok c.log_change.ensures.failed c.log_change.ensures.others.site in
    subst (λ (rows : List PairRow). IsSoundForRows c.take_change.new.group rows) (ap (λ (t : Table). t.rows) c.table.ensures.table ∙ sym after.may.idle.same) c.in_ok-take_change.ensures.kept

pub returns-clause-quiet : goal.returns-clause-quiet
returns-clause-quiet g c none = (c.in-Ok.ensures.ok.nothing none).1

pub returns-clause-tracks : goal.returns-clause-tracks
returns-clause-tracks g c =
    let after = site_after g.P.Plant.tells c.args.self.now.names c.args.line.now c.args.change.now c.args.self.now.before.rows.items c.args.site.now c.log_change.new.self (g.P.Plant.state c.args.plant.now) (g.P.Plant.state c.log_change.new.plant)
    c.args.plant.now c.log_change.new.plant c.requires.may c.in-Ok.ensures.leaves c.in-Ok.ensures.ok c.log_change.ensures.failed c.log_change.ensures.others.site in
    tracks_of_group c.args.change.now c.in-Some.group c.args.self.now.group c.in-Some.is c.args.self.now.before.rows.items c.as_slice.result.now c.table.result.now.rows c.log_change.new.self.told c.as_slice.ensures
    (ap (λ (t : Table). t.rows) c.table.ensures.table ∙ sym after.may.idle.same) c.in_ok-take_change.field-0 c.in_ok-take_change.ensures.tracks

pub returns-clause-taken : goal.returns-clause-taken
returns-clause-taken g c =
    let after = site_after g.P.Plant.tells c.args.self.now.names c.args.line.now c.args.change.now c.args.self.now.before.rows.items c.args.site.now c.log_change.new.self (g.P.Plant.state c.args.plant.now) (g.P.Plant.state c.log_change.new.plant)
    c.args.plant.now c.log_change.new.plant c.requires.may c.in-Ok.ensures.leaves c.in-Ok.ensures.ok c.log_change.ensures.failed c.log_change.ensures.others.site in
    taken_over c.args.change.now c.in-Some.group c.args.self.now.group c.in-Some.is c.args.self.now.before.rows.items c.as_slice.result.now c.table.result.now.rows c.log_change.new.self.told c.as_slice.ensures
    (ap (λ (t : Table). t.rows) c.table.ensures.table ∙ sym after.may.idle.same) c.take_change.new.group c.in_ok-take_change.ensures.calls

pub returns-clause-works : goal.returns-clause-works
returns-clause-works g c =
    let kept = that_is_there (λ group. IsSoundForRows group c.args.self.now.before.rows.items) c.args.self.now.group c.in-Some.group c.in-Some.is c.requires.kept in
    log_works g.P.Plant.tells c.args.self.now.names c.args.line.now c.args.change.now c.args.self.now.before.rows.items c.args.site.now c.log_change.new.self (g.P.Plant.state c.args.plant.now) (g.P.Plant.state c.log_change.new.plant)
    c.args.plant.now c.log_change.new.plant c.requires.may c.log_change.ensures.others kept.apart c.log_change.ensures.failed c.in-Ok.ensures.cause c.in-Ok.ensures.ok c.in_ok-take_change.field-0

pub returns-clause-answers : goal.returns-clause-answers
returns-clause-answers g c told began was d run stage asked l first points may cover =
    let old = g.P.Plant.state c.args.plant.now in
    let new = g.P.Plant.state c.log_change.new.plant in
    let before = c.args.self.now.before.rows.items in
    let next = c.log_change.new.self in
    let after = site_after g.P.Plant.tells c.args.self.now.names c.args.line.now c.args.change.now c.args.self.now.before.rows.items c.args.site.now c.log_change.new.self (g.P.Plant.state c.args.plant.now) (g.P.Plant.state c.log_change.new.plant)
    c.args.plant.now c.log_change.new.plant c.requires.may c.in-Ok.ensures.leaves c.in-Ok.ensures.ok c.log_change.ensures.failed c.log_change.ensures.others.site in
    let rows_are = ap (λ (t : Table). t.rows) c.table.ensures.table ∙ sym after.may.idle.same in
    let some : (c : Choice) × IsChoice new new.clock c = (new.bytes, reads_choice new after.may.idle.may.fast.fits.home (λ x there. g.met.P.Plant.read_is_image c.log_change.new.plant x told there)) in
    taking_ends g.P.Plant.tells told c.args.self.now.names c.args.line.now c.args.change.now before c.args.site.now next (g.P.Plant.state began) old new c.requires.may c.log_change.ensures.failed
    (λ d. c.log_change.ensures.others.faults (Volume d)) c.log_change.ensures.volumes c.args.plant.now c.log_change.new.plant c.in-Ok.ensures.ok c.in-Ok.ensures.moments c.in-Ok.ensures.leaves (λ same. ap g.P.Plant.state same)
    c.in-Some.group c.args.self.now.group c.in-Some.is c.requires.kept c.requires.live run stage asked l first points was d may cover some (Some c.take_change.new.group) c.in_ok-take_change.field-0
    (taken_over c.args.change.now c.in-Some.group (Some c.in-Some.group) refl before c.as_slice.result.now c.table.result.now.rows next.told c.as_slice.ensures rows_are c.take_change.new.group c.in_ok-take_change.ensures.calls)
    (tracks_taken c.args.change.now c.in-Some.group (Some c.in-Some.group) refl before c.as_slice.result.now c.table.result.now.rows next.told c.as_slice.ensures rows_are c.in_ok-take_change.field-0 c.in_ok-take_change.ensures.tracks)
