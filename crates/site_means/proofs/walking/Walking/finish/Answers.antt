use Rattle.std.proofs.Common.{◌≡◌, ℕ, List, length, refl, sym, ap, rules, Bool, true, false, Result, Ok, Err, ◌∙◌, subst, arith}
use Rattle.crash_plant.specs.Moments.{PlantState}
use Rattle.crash_plant.specs.declared.device.Device.TheVariants.{Journal}
use Rattle.site_means.specs.declared.site_error.SiteError.{SiteError}
use Rattle.site_means.specs.declared.walking.Walking.{Walking}
use Rattle.site_means.specs.Answers.{ReadsAll}
use Rattle.site_means.specs.Images.{shape_of}
use Rattle.site_means.specs.Walk.{WalkStep, step}
use Rattle.site_means.specs.Steps.{AnswersStep, AnswersWalk, AreDurable, standing_of, walk_of}
use Rattle.site_means.proofs.ReadAll.{durable_later, reads_then, fails_then, fails_as}
use Rattle.site_means.proofs.Goes.{shape_same}
use Rattle.site_means.proofs.Finishing.{ends_entered, going_entered, going_next, going_ends, going_fails, AreSettled, settled_all, settled_next, told_durable}
use Rattle.site_means.proofs.walking.Walking.finish.Goals as goal

-- what a step does is the same by the plant as it was
passes_as : (tells : Type 0) (old mid : PlantState) (now new : Walking) (r : Result Bool SiteError) → ReadsAll tells old mid → tells → AnswersStep (step (shape_of mid) mid.bytes (standing_of now)) now new r → AnswersStep (step (shape_of old) old.bytes (standing_of now)) now new r
passes_as tells old mid now new r reads told p =
    let shape = shape_same old mid reads.only.site in
    subst (λ (s : WalkStep). AnswersStep s now new r) (λ i. step (shape i) (λ d. reads.same told d i) (standing_of now)) p

-- the plant after the sync is as at first
pub returns-in_err-settled-clause-reads : goal.returns-in_err-settled-clause-reads
returns-in_err-settled-clause-reads g c = reads_then g.P.Plant.tells _ _ _ c.loop-settled.invariant.reads c.settle_here.ensures.reads

-- The sync failed, of a journal that the walk has entered.
pub returns-in_err-settled-clause-reports : goal.returns-in_err-settled-clause-reports
returns-in_err-settled-clause-reports g c = λ told.
    let old = g.P.Plant.state c.args.plant.now in
    let now = c.loop-settled.self in
    let e = c.in_err-settled.field-0.0 in
    let is : c.from_residual.result ≡ Err e = search rules in
    subst (λ (r : Result (Unit {0}) SiteError). AnswersWalk (walk_of (shape_of old) old.bytes c.args.self.now) c.args.self.now now r) (sym (is ∙ ap (λ (k : SiteError). Err k) (c.in_err-settled.ensures.fault e (λ i. Err e))))
    (now.at.set, refl, going_entered (shape_of old) old.bytes c.args.self.now now (c.loop-settled.invariant.going told) c.loop-settled.invariant.stands.here)

pub returns-in-Err-clause-reads : goal.returns-in-Err-clause-reads
returns-in-Err-clause-reads g c = reads_then g.P.Plant.tells _ _ _ (reads_then g.P.Plant.tells _ _ _ c.loop-settled.invariant.reads c.settle_here.ensures.reads) c.step.ensures.reads

pub returns-in-Ok-false-clause-reads : goal.returns-in-Ok-false-clause-reads
returns-in-Ok-false-clause-reads g c = reads_then g.P.Plant.tells _ _ _ (reads_then g.P.Plant.tells _ _ _ c.loop-settled.invariant.reads c.settle_here.ensures.reads) c.step.ensures.reads

pub returns-in-Err-clause-fails : goal.returns-in-Err-clause-fails
returns-in-Err-clause-fails g c =
    fails_as {X = Bool} {Y = Unit {0}} _ _ c.in-Err.error (fails_then {X = Bool} _ _ _ _ (λ d. c.in_ok-settled.ensures.fails.others d (λ is. cc) ∙ c.loop-settled.invariant.faults d) c.in-Err.ensures.fails)

pub returns-in-Err-clause-reports : goal.returns-in-Err-clause-reports
returns-in-Err-clause-reports g c = λ told.
    let old = g.P.Plant.state c.args.plant.now in
    let mid = g.P.Plant.state c.settle_here.new.plant in
    let now = c.loop-settled.self in
    let inv = c.loop-settled.invariant.going told in
    let reads = reads_then g.P.Plant.tells old (g.P.Plant.state c.loop-settled.plant) mid c.loop-settled.invariant.reads c.settle_here.ensures.reads in
    let p = passes_as g.P.Plant.tells old mid now c.step.new.self (Err c.in-Err.error) reads told (c.in-Err.ensures.passes told) in
    going_fails (shape_of old) old.bytes c.args.self.now now c.step.new.self c.in-Err.error c.loop-settled.invariant.stands.number inv c.loop-settled.invariant.stands.here p

pub returns-in-Err-clause-durable : goal.returns-in-Err-clause-durable
returns-in-Err-clause-durable g c = λ told synced one.
    let old = g.P.Plant.state c.args.plant.now in
    let cur = g.P.Plant.state c.loop-settled.plant in
    let mid = g.P.Plant.state c.settle_here.new.plant in
    let new = g.P.Plant.state c.step.new.plant in
    let now = c.loop-settled.self in
    let reads = reads_then g.P.Plant.tells old cur mid c.loop-settled.invariant.reads c.settle_here.ensures.reads in
    let p = passes_as g.P.Plant.tells old mid now c.step.new.self (Err c.in-Err.error) reads told (c.in-Err.ensures.passes told) in
    let all = settled_all g.P.Plant.tells told cur mid c.loop-settled.settled now c.settle_here.ensures.reads (c.loop-settled.invariant.durable told synced one) (λ more. c.in_ok-settled.ensures.durable told synced (omega (arith, more, now.entered.ok.0))) in
    told_durable new (shape_of old) old.bytes c.args.self.now now c.step.new.self c.in-Err.error c.loop-settled.invariant.stands.number (c.loop-settled.invariant.going told)
    (λ j is. durable_later g.P.Plant.tells mid new (Journal j) told c.step.ensures.reads (all j is)) p

pub returns-in-Ok-false-clause-reports : goal.returns-in-Ok-false-clause-reports
returns-in-Ok-false-clause-reports g c = λ told.
    let old = g.P.Plant.state c.args.plant.now in
    let mid = g.P.Plant.state c.settle_here.new.plant in
    let now = c.loop-settled.self in
    let inv = c.loop-settled.invariant.going told in
    let reads = reads_then g.P.Plant.tells old (g.P.Plant.state c.loop-settled.plant) mid c.loop-settled.invariant.reads c.settle_here.ensures.reads in
    let passes = c.in-Ok-false.ensures.passes told in
    let p = passes_as g.P.Plant.tells old mid now c.step.new.self (Ok false) reads told (subst (λ (b : Bool). AnswersStep (step (shape_of mid) mid.bytes (standing_of now)) now c.step.new.self (Ok b)) c.in-Ok-false.field-0-test passes) in
    going_ends (shape_of old) old.bytes c.args.self.now now c.step.new.self c.loop-settled.invariant.stands.number inv p.0 p.1

pub returns-in-Ok-false-clause-durable : goal.returns-in-Ok-false-clause-durable
returns-in-Ok-false-clause-durable g c = λ told synced one.
    let old = g.P.Plant.state c.args.plant.now in
    let cur = g.P.Plant.state c.loop-settled.plant in
    let mid = g.P.Plant.state c.settle_here.new.plant in
    let new = g.P.Plant.state c.step.new.plant in
    let now = c.loop-settled.self in
    let reads = reads_then g.P.Plant.tells old cur mid c.loop-settled.invariant.reads c.settle_here.ensures.reads in
    let passes = c.in-Ok-false.ensures.passes told in
    let p = passes_as g.P.Plant.tells old mid now c.step.new.self (Ok false) reads told (subst (λ (b : Bool). AnswersStep (step (shape_of mid) mid.bytes (standing_of now)) now c.step.new.self (Ok b)) c.in-Ok-false.field-0-test passes) in
    let ends = going_ends (shape_of old) old.bytes c.args.self.now now c.step.new.self c.loop-settled.invariant.stands.number (c.loop-settled.invariant.going told) p.0 p.1 in
    let all = settled_all g.P.Plant.tells told cur mid c.loop-settled.settled now c.settle_here.ensures.reads (c.loop-settled.invariant.durable told synced one) (λ more. c.in_ok-settled.ensures.durable told synced (omega (arith, more, now.entered.ok.0))) in
    subst (λ (l : List ℕ). AreDurable new l) (sym (ends_entered (shape_of old) old.bytes c.args.self.now c.step.new.self ends ∙ ap (λ (w : Walking). w.entered.items) p.1))
    (λ j is. durable_later g.P.Plant.tells mid new (Journal j) told c.step.ensures.reads (all j is))

pub loop-settled-smaller : goal.loop-settled-smaller
loop-settled-smaller g c = omega (arith, c.loop-settled.invariant.stands.number, c.in-Ok-true.ensures.forth c.in-Ok-true.field-0-test)

pub loop-settled-preserved : goal.loop-settled-preserved
loop-settled-preserved g c =
    let old = g.P.Plant.state c.args.plant.now in
    let cur = g.P.Plant.state c.loop-settled.plant in
    let mid = g.P.Plant.state c.settle_here.new.plant in
    let new = g.P.Plant.state c.step.new.plant in
    let now = c.loop-settled.self in
    let reads = reads_then g.P.Plant.tells old cur mid c.loop-settled.invariant.reads c.settle_here.ensures.reads in
    let went = λ (told : g.P.Plant.tells).
    let passes = c.in-Ok-true.ensures.passes told in
    passes_as g.P.Plant.tells old mid now c.step.new.self (Ok true) reads told (subst (λ (b : Bool). AnswersStep (step (shape_of mid) mid.bytes (standing_of now)) now c.step.new.self (Ok b)) c.in-Ok-true.field-0-test passes) in
    record {
      reads = reads_then g.P.Plant.tells _ _ _ reads c.step.ensures.reads;
      faults = λ d. c.in-Ok-true.ensures.fails.others d (λ e. absurd cc) ∙ c.in_ok-settled.ensures.fails.others d (λ is. cc) ∙ c.loop-settled.invariant.faults d;
      room = c.step.ensures.room ∙ c.loop-settled.invariant.room;
      stands = c.in-Ok-true.ensures.stands;
      durable = λ told synced one.
          let all = settled_all g.P.Plant.tells told cur mid c.loop-settled.settled now c.settle_here.ensures.reads (c.loop-settled.invariant.durable told synced one) (λ more. c.in_ok-settled.ensures.durable told synced (omega (arith, more, now.entered.ok.0))) in
          let count : length now.entered.items ≡ c.in_ok-settled.settled = omega (arith, c.in_ok-settled.ensures.all, now.entered.ok.0) in
          subst (λ (n : ℕ). AreSettled new n c.step.new.self) count (settled_next g.P.Plant.tells told mid new (shape_of old) old.bytes now c.step.new.self c.step.ensures.reads all (went told));
      going = λ told. going_next (shape_of old) old.bytes c.args.self.now now c.step.new.self c.loop-settled.invariant.stands.number (c.loop-settled.invariant.going told) (went told);
    }
