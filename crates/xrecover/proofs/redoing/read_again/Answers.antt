use Rattle.std.proofs.Common.{inl, inr, ℕ, Option, Result, List, Ok, Err, sym, ap, subst, ◌∙◌, arith}
use Rattle.tod_stamp.specs.declared.stamp.Stamp.{Stamp}
use Rattle.crash_plant.specs.declared.device.Device.TheVariants.{Journal}
use Rattle.crash_plant.specs.declared.spot.Spot.{Spot}
use Rattle.xrc_journal.specs.declared.spot.Walked.{Walked}
use Rattle.xrc_journal.specs.Items.{Item, form_of}
use Rattle.xrc_journal.specs.Bodies.{BodyState}
use Rattle.xrc_journal.specs.Records.{walk_one}
use Rattle.xrc_journal.specs.Records.Found.{Group}
use Rattle.xrc_journal.specs.Answers.{WalkGoesOn, items_found}
use Rattle.site_means.specs.declared.site_error.SiteError.{SiteError}
use Rattle.site_means.specs.declared.site_error.SiteError.TheVariants.{Fault}
use Rattle.site_means.specs.Answers.{FaultsAreCounted}
use Rattle.site_means.proofs.ReadAll.{fails_one, reads_journal}
use Rattle.site_means.proofs.Found.{told_damaged, told_end, told_group, told_switch}
use Rattle.xrecover.proofs.redoing.read_again.Goals as goal

pub returns-in-Ok-End-clause-reads : goal.returns-in-Ok-End-clause-reads
returns-in-Ok-End-clause-reads g c = reads_journal g.P.Plant.tells c.args.at.set _ _ c.walk.ensures.only

pub returns-in-Ok-Group-clause-reads : goal.returns-in-Ok-Group-clause-reads
returns-in-Ok-Group-clause-reads g c = reads_journal g.P.Plant.tells c.args.at.set _ _ c.walk.ensures.only

pub returns-in-Ok-Switch-clause-reads : goal.returns-in-Ok-Switch-clause-reads
returns-in-Ok-Switch-clause-reads g c = reads_journal g.P.Plant.tells c.args.at.set _ _ c.walk.ensures.only

pub returns-in-Err-Damaged-clause-reads : goal.returns-in-Err-Damaged-clause-reads
returns-in-Err-Damaged-clause-reads g c = reads_journal g.P.Plant.tells c.args.at.set _ _ c.walk.ensures.only

pub returns-in-Err-Fault-clause-reads : goal.returns-in-Err-Fault-clause-reads
returns-in-Err-Fault-clause-reads g c = reads_journal g.P.Plant.tells c.args.at.set _ _ c.walk.ensures.only

pub returns-in-Err-Fault-clause-fails : goal.returns-in-Err-Fault-clause-fails
returns-in-Err-Fault-clause-fails g c =
    let old = g.P.Plant.state c.args.plant.now in
    let new = g.P.Plant.state c.walk.new.plant in
    let cause = c.in-Err-Fault.ensures.cause.fault c.in-Err-Fault.set (ap Err c.in-Err-Fault.field-0-is) in
    subst (λ (j : ℕ). FaultsAreCounted old.faults new.faults (let r : Result (Option (Stamp × Spot)) SiteError = Err (Fault (Journal j)) in r)) (sym cause.0)
    (fails_one {X = Option (Stamp × Spot)} g.P.Plant.tells (Journal c.args.at.set) old new cause.1 c.walk.ensures.only.only)

pub returns-in-Ok-End-clause-finds : goal.returns-in-Ok-End-clause-finds
returns-in-Ok-End-clause-finds g c = λ told.
    let old = g.P.Plant.state c.args.plant.now in
    let found = walk_one (form_of old) old.journals (old.bytes (Journal c.args.at.set)) c.args.at c.args.last.0 in
    let finds = c.in-Ok-End.ensures.finds told (λ j e. absurd cc) in
    told_end c.args.at.set found (sym finds.told ∙ ap Ok c.in-Ok-End.field-0-is)

pub returns-in-Ok-Group-clause-finds : goal.returns-in-Ok-Group-clause-finds
returns-in-Ok-Group-clause-finds g c = λ told.
    let old = g.P.Plant.state c.args.plant.now in
    let found = walk_one (form_of old) old.journals (old.bytes (Journal c.args.at.set)) c.args.at c.args.last.0 in
    let time = c.in-Ok-Group.time in
    let after = c.in-Ok-Group.after in
    let finds = c.in-Ok-Group.ensures.finds told (λ j e. absurd cc) in
    let items_are = ap (λ (h : BodyState). h.items) finds.held in
    inl (told_group c.args.at.set found time after (sym finds.told ∙ ap Ok c.in-Ok-Group.field-0-is) ∙ ap (λ (l : List Item). Group time.0 l after) (sym items_are))

pub returns-in-Ok-Switch-clause-finds : goal.returns-in-Ok-Switch-clause-finds
returns-in-Ok-Switch-clause-finds g c = λ told.
    let old = g.P.Plant.state c.args.plant.now in
    let found = walk_one (form_of old) old.journals (old.bytes (Journal c.args.at.set)) c.args.at c.args.last.0 in
    let finds = c.in-Ok-Switch.ensures.finds told (λ j e. absurd cc) in
    let is = told_switch c.args.at.set found c.in-Ok-Switch.time c.in-Ok-Switch.after (sym finds.told ∙ ap Ok c.in-Ok-Switch.field-0-is) in
    inr (is, ap (λ (h : BodyState). h.items) finds.held ∙ ap items_found is)

pub returns-in-Err-Damaged-clause-finds : goal.returns-in-Err-Damaged-clause-finds
returns-in-Err-Damaged-clause-finds g c = λ told.
    let old = g.P.Plant.state c.args.plant.now in
    let found = walk_one (form_of old) old.journals (old.bytes (Journal c.args.at.set)) c.args.at c.args.last.0 in
    let finds = c.in-Err-Damaged.ensures.finds told (λ j e. absurd cc) in
    (items_found found, told_damaged c.args.at.set found _ c.in-Err-Damaged.place (sym finds.told ∙ ap Err c.in-Err-Damaged.field-0-is))

pub returns-in-Err-Fault-clause-finds : goal.returns-in-Err-Fault-clause-finds
returns-in-Err-Fault-clause-finds g c = λ told.
    let cause = c.in-Err-Fault.ensures.cause.fault c.in-Err-Fault.set (ap Err c.in-Err-Fault.field-0-is) in
    ap Journal cause.0

pub returns-in-Ok-Group-clause-further : goal.returns-in-Ok-Group-clause-further
returns-in-Ok-Group-clause-further g c =
    let old = g.P.Plant.state c.args.plant.now in
    let on = subst (λ (w : Walked). WalkGoesOn old c.args.at w) c.in-Ok-Group.field-0-is c.in-Ok-Group.ensures.goes_on in
    record { set = omega (arith, on.0, c.requires.there); place = omega (arith, on.1, ap (λ (k : ℕ). old.lengths (Journal k)) on.0); number = on.2 }

pub returns-in-Ok-Switch-clause-further : goal.returns-in-Ok-Switch-clause-further
returns-in-Ok-Switch-clause-further g c =
    let old = g.P.Plant.state c.args.plant.now in
    let on = subst (λ (w : Walked). WalkGoesOn old c.args.at w) c.in-Ok-Switch.field-0-is c.in-Ok-Switch.ensures.goes_on in
    record { set = on.0; place = omega (arith, on.1, c.requires.long c.in-Ok-Switch.after.set on.0); number = on.2 }
