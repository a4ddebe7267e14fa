use Rattle.std.proofs.Common.{◌≡◌, ◌<◌, ◌++◌, ℕ, false, List, Option, Some, None, IfSome, Result, Ok, Err, refl, sym, subst, ◌∙◌, arith, rules}
use Rattle.std.specs.Prelude.{IsErrOf}
use Rattle.tod_stamp.specs.declared.stamp.Stamp.{Stamp}
use Rattle.crash_plant.specs.declared.device.Device.{Device}
use Rattle.crash_plant.specs.declared.device.Device.TheVariants.{Journal, Volume}
use Rattle.crash_plant.specs.declared.spot.Spot.{Spot}
use Rattle.xrc_journal.specs.Items.{form_of, none_earlier}
use Rattle.xrc_journal.specs.Records.{Found, walk_one}
use Rattle.applier.specs.Slots.{DiffersInSlots, HoldsContent}
use Rattle.site_means.specs.declared.site_error.SiteError.{SiteError}
use Rattle.site_means.specs.declared.site_error.SiteError.TheVariants.{Fault}
use Rattle.site_means.specs.Images.{shape_of}
use Rattle.site_means.specs.Sight.{walked}
use Rattle.xrecover.specs.Answers.{TellsFaults}
use Rattle.xrecover.specs.Rereading.{FoundAgain, IsAfter}
use Rattle.xrecover.specs.RedoneVolumes.{Draws, HoldsTracks}
use Rattle.xrecover.specs.SideVolumes.{is_left}
use Rattle.xrecover.proofs.Again.{Next, all_again, fault_again, found_same, of_walk, reads_again, reads_first, reads_next}
use Rattle.xrecover.proofs.Contents.{Done, done_then}
use Rattle.xrecover.proofs.Fails.{none_rose, tells_none, tells_read}
use Rattle.xrecover.proofs.LentSides.{home_later, volume_of}
use Rattle.xrecover.proofs.Relations.{items_within}
use Rattle.xrecover.proofs.SideRecords.{sides_none, sides_read, sides_then, still_live}
use Rattle.xrecover.proofs.redoing.redo_walk.Goals as goal

pub loop-time-init : goal.loop-time-init
loop-time-init g c =
    let old = g.P.Plant.state c.args.plant.now in
    record {
      applies = sides_none (walked old old.bytes) (is_left c.args.jobs.now) g.P.Plant.tells old;
      counts = λ d here. refl;
      jobs = c.requires.jobs;
      set = c.requires.spot.set;
      place = omega (arith, c.requires.spot.room);
      room = refl;
      reads = λ told. reads_first old c.args.mark.now (λ (v : ℕ). is_left c.args.jobs.now v ≡ false) (λ (v : ℕ). old.bytes (Volume v)) (c.requires.walk told);
    }

pub apply_record-requires-clause-jobs : goal.apply_record-requires-clause-jobs
apply_record-requires-clause-jobs g c κs within = home_later (g.P.Plant.state c.loop-time.plant) (g.P.Plant.state c.read_again.new.plant) c.loop-time.jobs c.read_again.ensures.reads.only.site c.loop-time.invariant.jobs

pub returns-in_err-time-clause-jobs : goal.returns-in_err-time-clause-jobs
returns-in_err-time-clause-jobs g c = home_later (g.P.Plant.state c.loop-time.plant) (g.P.Plant.state c.read_again.new.plant) c.loop-time.jobs c.read_again.ensures.reads.only.site c.loop-time.invariant.jobs

pub returns-in_default-clause-jobs : goal.returns-in_default-clause-jobs
returns-in_default-clause-jobs g c = home_later (g.P.Plant.state c.loop-time.plant) (g.P.Plant.state c.read_again.new.plant) c.loop-time.jobs c.read_again.ensures.reads.only.site c.loop-time.invariant.jobs

pub returns-in_err-time-clause-applies : goal.returns-in_err-time-clause-applies
returns-in_err-time-clause-applies g c =
    let old = g.P.Plant.state c.args.plant.now in
    sides_read (walked old old.bytes) (is_left c.args.jobs.now) g.P.Plant.tells (is_left c.loop-time.jobs) old (g.P.Plant.state c.loop-time.plant) (g.P.Plant.state c.read_again.new.plant) c.loop-time.invariant.applies c.read_again.ensures.reads

pub returns-in_default-clause-applies : goal.returns-in_default-clause-applies
returns-in_default-clause-applies g c =
    let old = g.P.Plant.state c.args.plant.now in
    sides_read (walked old old.bytes) (is_left c.args.jobs.now) g.P.Plant.tells (is_left c.loop-time.jobs) old (g.P.Plant.state c.loop-time.plant) (g.P.Plant.state c.read_again.new.plant) c.loop-time.invariant.applies c.read_again.ensures.reads

pub returns-in_err-time-clause-told : goal.returns-in_err-time-clause-told
returns-in_err-time-clause-told g c told e is =
    let old = g.P.Plant.state c.args.plant.now in
    let cur = g.P.Plant.state c.loop-time.plant in
    let inv = c.loop-time.invariant in
    let r = inv.reads told in
    let at = c.loop-time.at in
    let same = found_same old cur r.s at c.loop-time.last.0 inv.applies.works.site (inv.applies.works.bytes told (Journal at.set)) r.at_is r.last_is in
    let found = subst (λ (f : Found). FoundAgain at.set f c.read_again.new.body.items (Err c.in_err-time.field-0.0)) (sym same) (c.in_err-time.ensures.finds told) in
    let fault = fault_again (shape_of old) old.bytes (walked old old.bytes) c.read_again.new.body.items (λ (v : ℕ). is_left c.loop-time.jobs v ≡ false) (λ (v : ℕ). old.bytes (Volume v)) (λ (v : ℕ). cur.bytes (Volume v)) at c.loop-time.last.0 r c.read_again.ensures.number c.in_err-time.field-0.0 found in
    let same_error : e ≡ c.in_err-time.field-0.0 = search rules in
    (fault.0, same_error ∙ fault.1, fault.2)

pub returns-in_default-clause-content : goal.returns-in_default-clause-content
returns-in_default-clause-content g c = λ told v live.
    let old = g.P.Plant.state c.args.plant.now in
    let cur = g.P.Plant.state c.loop-time.plant in
    let inv = c.loop-time.invariant in
    let r = inv.reads told in
    let at = c.loop-time.at in
    let last = c.loop-time.last.0 in
    let its = c.read_again.new.body.items in
    let items = walked old old.bytes in
    let same = found_same old cur r.s at last inv.applies.works.site (inv.applies.works.bytes told (Journal at.set)) r.at_is r.last_is in
    let here = subst (λ (o : Option (Stamp × Spot)). FoundAgain at.set (walk_one (form_of cur) cur.journals (cur.bytes (Journal at.set)) at last) its (let q : Result (Option (Stamp × Spot)) SiteError = Ok o in q)) c.in_default.is (c.in_ok-time.ensures.finds told) in
    let found = subst (λ (f : Found). FoundAgain at.set f its (Ok None)) (sym same) here in
    subst (λ (l : List ℕ). Draws v items (old.bytes (Volume v)) l × HoldsTracks v items (old.bytes (Volume v)) l) (sym (c.read_again.ensures.reads.same told (Volume v)))
    (all_again (shape_of old) old.bytes items its (λ (w : ℕ). is_left c.loop-time.jobs w ≡ false) (λ (w : ℕ). old.bytes (Volume w)) (λ (w : ℕ). cur.bytes (Volume w)) at last r c.read_again.ensures.number found v live)

pub returns-in_err-time-clause-fault : goal.returns-in_err-time-clause-fault
returns-in_err-time-clause-fault g c =
    let old = g.P.Plant.state c.args.plant.now in
    let cur = g.P.Plant.state c.loop-time.plant in
    let mid = g.P.Plant.state c.read_again.new.plant in
    let e = c.in_err-time.field-0.0 in
    let is : c.from_residual.result ≡ Err e = search rules in
    subst (λ (r : Result (Unit {0}) SiteError). TellsFaults old.faults mid.faults (λ d. IsErrOf r (Fault d))) (sym is)
    (tells_read {X = Option (Stamp × Spot)} {Y = Unit {0}} old.faults cur.faults mid.faults e c.loop-time.invariant.applies.works.faults c.loop-time.invariant.counts c.in_err-time.ensures.fails)

pub returns-in_default-clause-fault : goal.returns-in_default-clause-fault
returns-in_default-clause-fault g c =
    let old = g.P.Plant.state c.args.plant.now in
    let cur = g.P.Plant.state c.loop-time.plant in
    let mid = g.P.Plant.state c.read_again.new.plant in
    tells_none old.faults mid.faults _ (λ (d : Device). Fault d) (λ d here. none_rose cur.faults mid.faults _ c.in_ok-time.ensures.fails d ∙ c.loop-time.invariant.counts d here)

pub loop-time-preserved : goal.loop-time-preserved
loop-time-preserved g c =
    let old = g.P.Plant.state c.args.plant.now in
    let cur = g.P.Plant.state c.loop-time.plant in
    let mid = g.P.Plant.state c.read_again.new.plant in
    let new = g.P.Plant.state c.apply_record.new.plant in
    let inv = c.loop-time.invariant in
    let at = c.loop-time.at in
    let last = c.loop-time.last.0 in
    let its = c.read_again.new.body.items in
    let items = walked old old.bytes in
    let first : ℕ → List ℕ = λ v. old.bytes (Volume v) in
    let now : ℕ → List ℕ = λ v. cur.bytes (Volume v) in
    let live : ℕ → Type 0 = λ v. is_left c.loop-time.jobs v ≡ false in
    let after = c.in-Some.after in
    let time = c.in-Some.time in
    let further = subst (λ (o : Option (Stamp × Spot)). IfSome o (λ n. IsAfter cur at n.1)) c.in-Some.is c.in_ok-time.ensures.further in
    let reading = c.read_again.ensures.reads.only.site in
    let applying = c.apply_record.ensures.applies.works.site in
    let next : (told : g.P.Plant.tells) → Next (shape_of old) old.bytes (inv.reads told).s time.0 its after = λ told.
    let r = inv.reads told in
    let same = found_same old cur r.s at last inv.applies.works.site (inv.applies.works.bytes told (Journal at.set)) r.at_is r.last_is in
    let here = subst (λ (o : Option (Stamp × Spot)). FoundAgain at.set (walk_one (form_of cur) cur.journals (cur.bytes (Journal at.set)) at last) its (let q : Result (Option (Stamp × Spot)) SiteError = Ok o in q)) c.in-Some.is (c.in_ok-time.ensures.finds told) in
    let found = subst (λ (f : Found). FoundAgain at.set f its (Ok (Some (time, after)))) (sym same) here in
    reads_again (shape_of old) old.bytes items its live first now at last r c.read_again.ensures.number time after found in
    let wider : (told : g.P.Plant.tells) → (v x : ℕ) → _ = λ told. of_walk (shape_of old) old.bytes items its live first now at after last time.0 (inv.reads told) (next told) in
    let unread = sides_read items (is_left c.args.jobs.now) g.P.Plant.tells (is_left c.loop-time.jobs) old cur mid inv.applies c.read_again.ensures.reads in
    let done : (told : g.P.Plant.tells) (v : ℕ) → is_left c.apply_record.new.jobs v ≡ false → Done v ((inv.reads told).before ++ its) (first v) (new.bytes (Volume v)) = λ told v fit.
    let r = inv.reads told in
    let was = still_live its (is_left c.loop-time.jobs) g.P.Plant.tells (is_left c.apply_record.new.jobs) mid new c.apply_record.ensures.applies v fit in
    let there : v < old.volumes = volume_of c.args.jobs.now old.volumes c.requires.jobs v (still_live items (is_left c.args.jobs.now) g.P.Plant.tells (is_left c.loop-time.jobs) old mid unread v was) in
    let size = g.met.P.Plant.length_told c.args.plant.now (Volume v) told (there, c.requires.home v there) in
    let same = c.read_again.ensures.reads.same told (Volume v) in
    let differs = subst (λ (l : List ℕ). DiffersInSlots v its l (new.bytes (Volume v))) same ((c.apply_record.ensures.applies.works.bytes told (Volume v)).0 was) in
    let holds = subst (λ (l : List ℕ). HoldsContent v its l (new.bytes (Volume v))) same (c.apply_record.ensures.content told v fit) in
    done_then cur v r.before its (first v) (now v) (new.bytes (Volume v)) (r.done v was) c.read_again.ensures.keep (λ x has. omega (arith, items_within cur v x none_earlier its c.read_again.ensures.keep has, inv.applies.works.site.lengths (Volume v), size)) differs holds in
    record {
      applies = sides_then items (is_left c.args.jobs.now) g.P.Plant.tells (is_left c.loop-time.jobs) old mid new unread its (is_left c.apply_record.new.jobs) c.apply_record.ensures.applies wider;
      counts = λ d here. c.apply_record.ensures.counts d here ∙ none_rose cur.faults mid.faults _ c.in_ok-time.ensures.fails d ∙ inv.counts d here;
      jobs = c.apply_record.ensures.jobs;
      set = omega (arith, further.set, reading.journals, applying.journals);
      place = omega (arith, further.place, reading.lengths (Journal after.set), applying.lengths (Journal after.set));
      room = c.read_again.ensures.room ∙ inv.room;
      reads = λ told. reads_next (shape_of old) old.bytes items its live first now at after last time.0 (inv.reads told) (next told) (λ (v : ℕ). is_left c.apply_record.new.jobs v ≡ false) (λ (v : ℕ). new.bytes (Volume v)) (done told);
    }
