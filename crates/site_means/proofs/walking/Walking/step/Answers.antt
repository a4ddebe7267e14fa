use Rattle.site_means.specs.Answers.{FaultsAreCounted}
use Rattle.site_means.specs.declared.site_error.SiteError.{SiteError}
use Rattle.site_means.specs.declared.site_error.SiteError.TheVariants.{Fault}
use Rattle.std.proofs.Common.{rules, ◌≡◌, ◌<◌, ◌^◌, ℕ, Bool, Result, List, Ok, Err, sym, ap, subst, ◌∙◌, arith}
use Rattle.crash_plant.specs.declared.device.Device.TheVariants.{Journal}
use Rattle.pair_table.specs.Tables.{are_below}
use Rattle.xrc_journal.specs.Items.{Item, form_of}
use Rattle.xrc_journal.specs.Bodies.{BodyState}
use Rattle.xrc_journal.specs.Records.{Found, walk_one}
use Rattle.xrc_journal.specs.Records.Found.{Group, Damaged}
use Rattle.xrc_journal.specs.declared.spot.Walked.{Walked}
use Rattle.xrc_journal.specs.Answers.{WalkGoesOn, items_found}
use Rattle.std.specs.Prelude.{unwrap_or}
use Rattle.site_means.specs.Images.{shape_of}
use Rattle.site_means.specs.Walk.{WalkStep, body_place, first_unfit, group_step, step_by}
use Rattle.site_means.specs.Walk.WalkStep.{Breaks}
use Rattle.site_means.specs.Steps.{HavePlaces, AnswersStep, standing_of}
use Rattle.std.proofs.lemmas.Result.{on_ok_weaker}
use Rattle.site_means.proofs.Finishing.{on_ok_two, stands_after, stands_later}
use Rattle.site_means.proofs.ReadAll.{reads_journal, fails_one}
use Rattle.site_means.proofs.Found.{told_group, told_switch, told_damaged, found_places}
use Rattle.site_means.proofs.walking.Walking.step.Goals as goal

pub returns-in-Ok-End-clause-reads : goal.returns-in-Ok-End-clause-reads
returns-in-Ok-End-clause-reads g c = reads_journal g.P.Plant.tells c.args.self.now.at.set _ _ c.walk.ensures.only

pub returns-in-Ok-Group-clause-reads : goal.returns-in-Ok-Group-clause-reads
returns-in-Ok-Group-clause-reads g c = reads_journal g.P.Plant.tells c.args.self.now.at.set _ _ c.walk.ensures.only

pub returns-in-Ok-Switch-clause-reads : goal.returns-in-Ok-Switch-clause-reads
returns-in-Ok-Switch-clause-reads g c = reads_journal g.P.Plant.tells c.args.self.now.at.set _ _ c.walk.ensures.only

pub returns-in-Err-Damaged-clause-reads : goal.returns-in-Err-Damaged-clause-reads
returns-in-Err-Damaged-clause-reads g c = reads_journal g.P.Plant.tells c.args.self.now.at.set _ _ c.walk.ensures.only

pub returns-in-Err-Fault-clause-reads : goal.returns-in-Err-Fault-clause-reads
returns-in-Err-Fault-clause-reads g c = reads_journal g.P.Plant.tells c.args.self.now.at.set _ _ c.walk.ensures.only

pub returns-in-Err-Fault-clause-fails : goal.returns-in-Err-Fault-clause-fails
returns-in-Err-Fault-clause-fails g c =
    let old = g.P.Plant.state c.args.plant.now in
    let new = g.P.Plant.state c.walk.new.plant in
    let cause = c.in-Err-Fault.ensures.cause.fault c.in-Err-Fault.set (ap Err c.in-Err-Fault.field-0-is) in
    subst (λ (j : ℕ). FaultsAreCounted old.faults new.faults (let r : Result Bool SiteError = Err (Fault (Journal j)) in r)) (sym cause.0)
    (fails_one {X = Bool} g.P.Plant.tells (Journal c.args.self.now.at.set) old new cause.1 c.walk.ensures.only.only)

pub returns-in-Ok-Group-clause-passes : goal.returns-in-Ok-Group-clause-passes
returns-in-Ok-Group-clause-passes g c = λ told.
    let stands = c.requires.stands in
    let old = g.P.Plant.state c.args.plant.now in
    let self = c.args.self.now in
    let journal = old.bytes (Journal self.at.set) in
    let found = walk_one (form_of old) old.journals journal self.at self.last.0 in
    let time = c.in-Ok-Group.time in
    let after = c.in-Ok-Group.after in
    let finds = c.in-Ok-Group.ensures.finds told (λ j e. absurd cc) in
    let items = c.walk.new.into.items in
    let items_are : items ≡ items_found found = ap (λ (h : BodyState). h.items) finds.held in
    let first = told_group self.at.set found time after (sym finds.told ∙ ap Ok c.in-Ok-Group.field-0-is) in
    let is : found ≡ Group time.0 items after = first ∙ ap (λ (l : List Item). Group time.0 l after) (sym items_are) in
    let ends : after.place < 2 ^ 64 = search rules in
    let places = subst (λ (l : List Item). HavePlaces self.at l) (sym items_are) (found_places (form_of old) old.journals journal self.at self.last.0 _ is ends) in
    let volumes = c.volumes-volumes.ensures in
    let below = ap (λ (n : ℕ). are_below n self.table.rows) volumes ∙ stands.below in
    let passes = c.pass_group.ensures.passes places in
    subst (λ (s : WalkStep). AnswersStep s self c.pass_group.new.self c.pass_group.result)
    (ap (λ (n : ℕ). group_step (standing_of self) time.0 items after (first_unfit n (body_place self.at) self.table.rows items)) volumes ∙ sym (ap (λ (f : Found). step_by (shape_of old) (standing_of self) f) is)) passes

pub returns-in-Ok-Switch-clause-passes : goal.returns-in-Ok-Switch-clause-passes
returns-in-Ok-Switch-clause-passes g c = λ told.
    let stands = c.requires.stands in
    let old = g.P.Plant.state c.args.plant.now in
    let self = c.args.self.now in
    let journal = old.bytes (Journal self.at.set) in
    let found = walk_one (form_of old) old.journals journal self.at self.last.0 in
    let time = c.in-Ok-Switch.time in
    let after = c.in-Ok-Switch.after in
    let finds = c.in-Ok-Switch.ensures.finds told (λ j e. absurd cc) in
    let is = told_switch self.at.set found time after (sym finds.told ∙ ap Ok c.in-Ok-Switch.field-0-is) in
    let passes = c.enter.ensures.passes in
    subst (λ (s : WalkStep). AnswersStep s self c.enter.new.self c.enter.result) (sym (ap (λ (f : Found). step_by (shape_of old) (standing_of self) f) is)) passes

pub returns-in-Err-Damaged-clause-passes : goal.returns-in-Err-Damaged-clause-passes
returns-in-Err-Damaged-clause-passes g c = λ told.
    let stands = c.requires.stands in
    let old = g.P.Plant.state c.args.plant.now in
    let self = c.args.self.now in
    let journal = old.bytes (Journal self.at.set) in
    let found = walk_one (form_of old) old.journals journal self.at self.last.0 in
    let place = c.in-Err-Damaged.place in
    let finds = c.in-Err-Damaged.ensures.finds told (λ j e. absurd cc) in
    let items = c.walk.new.into.items in
    let items_are : items ≡ items_found found = ap (λ (h : BodyState). h.items) finds.held in
    let first = told_damaged self.at.set found _ place (sym finds.told ∙ ap Err c.in-Err-Damaged.field-0-is) in
    let is : found ≡ Damaged place items = first ∙ ap (λ (l : List Item). Damaged place l) (sym items_are) in
    let ends : place < 2 ^ 64 = search rules in
    let places = subst (λ (l : List Item). HavePlaces self.at l) (sym items_are) (found_places (form_of old) old.journals journal self.at self.last.0 _ is ends) in
    let volumes = c.volumes-volumes.ensures in
    let below = ap (λ (n : ℕ). are_below n self.table.rows) volumes ∙ stands.below in
    let passes = c.break_at.ensures.passes below places in
    subst (λ (s : WalkStep). AnswersStep s self c.break_at.new.self (Err c.break_at.result))
    (ap (λ (n : ℕ). Breaks (unwrap_or (first_unfit n (body_place self.at) self.table.rows items) place)) volumes ∙ sym (ap (λ (f : Found). step_by (shape_of old) (standing_of self) f) is)) passes

pub pass_group-requires-clause-below : goal.pass_group-requires-clause-below
pass_group-requires-clause-below g c = ap (λ (n : ℕ). are_below n c.args.self.now.table.rows) c.volumes-volumes.ensures ∙ c.requires.stands.below

pub pass_group-requires-clause-same_set : goal.pass_group-requires-clause-same_set
pass_group-requires-clause-same_set g c = (subst (λ (w : Walked). WalkGoesOn (g.P.Plant.state c.args.plant.now) c.args.self.now.at w) c.in-Ok-Group.field-0-is c.in-Ok-Group.ensures.goes_on).0

pub returns-in-Ok-Group-clause-stands : goal.returns-in-Ok-Group-clause-stands
returns-in-Ok-Group-clause-stands g c =
    let old = g.P.Plant.state c.args.plant.now in
    let new = g.P.Plant.state c.walk.new.plant in
    let now = c.args.self.now in
    let next = c.pass_group.new.self in
    let on = subst (λ (w : Walked). WalkGoesOn old now.at w) c.in-Ok-Group.field-0-is c.in-Ok-Group.ensures.goes_on in
    let stands = c.requires.stands in
    let set : c.in-Ok-Group.after.set < old.journals = omega (arith, on.0, stands.set) in
    let place : c.in-Ok-Group.after.place < old.lengths (Journal c.in-Ok-Group.after.set) = omega (arith, on.1, ap (λ (k : ℕ). old.lengths (Journal k)) on.0) in
    let number : c.in-Ok-Group.after.number < 2 ^ 64 = search rules in
    on_ok_two c.pass_group.result
    (λ after below. stands_later old new next c.walk.ensures.only.only.site (stands_after old now next c.in-Ok-Group.after next.table.rows stands after set place number (ap (λ (n : ℕ). are_below n next.table.rows) (sym c.volumes-volumes.ensures) ∙ below)))
    c.pass_group.ensures.at_spot c.pass_group.ensures.below

pub returns-in-Ok-Switch-clause-stands : goal.returns-in-Ok-Switch-clause-stands
returns-in-Ok-Switch-clause-stands g c =
    let old = g.P.Plant.state c.args.plant.now in
    let new = g.P.Plant.state c.walk.new.plant in
    let now = c.args.self.now in
    let next = c.enter.new.self in
    let on = subst (λ (w : Walked). WalkGoesOn old now.at w) c.in-Ok-Switch.field-0-is c.in-Ok-Switch.ensures.goes_on in
    let stands = c.requires.stands in
    let place : c.in-Ok-Switch.after.place < old.lengths (Journal c.in-Ok-Switch.after.set) = omega (arith, on.1, stands.long c.in-Ok-Switch.after.set on.0) in
    let number : c.in-Ok-Switch.after.number < 2 ^ 64 = search rules in
    on_ok_weaker c.enter.result (λ after. stands_later old new next c.walk.ensures.only.only.site (stands_after old now next c.in-Ok-Switch.after now.table.rows stands after on.0 place number stands.below)) c.enter.ensures.at_spot

pub returns-in-Ok-End-clause-stands : goal.returns-in-Ok-End-clause-stands
returns-in-Ok-End-clause-stands g c = stands_later (g.P.Plant.state c.args.plant.now) (g.P.Plant.state c.walk.new.plant) c.args.self.now c.walk.ensures.only.only.site c.requires.stands
