use Rattle.std.proofs.Common.{rules, arith, Bor, ◌≡◌, ◌≢◌, ◌<◌, ◌+◌, ◌++◌, ◌∷◌, [], ◌∙◌, List, length, vec_len, vec_capacity, Option, Some, refl, sym, ap, subst}
use Rattle.std.specs.Prelude.{IfSome, IsTrue, slice_get}
use Rattle.std.specs.Option.{option_copied}
use Rattle.crash_plant.specs.declared.device.Device.TheVariants.{Volume}
use Rattle.crash_plant.specs.Moments.{PlantState}
use Rattle.pair_table.specs.declared.row.PairRow.{PairRow}
use Rattle.pair_table.specs.Rows.{keeps_row_rules}
use Rattle.volume_copy.specs.declared.copy_job.CopyJob.{CopyJob}
use Rattle.xrc_journal.specs.Jobs.{FailsByCount}
use Rattle.xrecover.proofs.Rows.{some_there}
use Rattle.third_copy.specs.declared.targets.Target.{Target}
use Rattle.third_copy.specs.declared.targets.Target.TheVariants.{Found, Missing, Unread}
use Rattle.third_copy.specs.Pairs.{job_of}
use Rattle.third_copy.specs.Targets.{is_unread, target_in, target_of}
use Rattle.third_copy.proofs.Finding.{Finding, finding_all, finding_all_found, finding_found, finding_missing, finding_none, finding_none_without, finding_other, finding_unread, missing_counts, missing_works}
use Rattle.third_copy.proofs.jobs.jobs_of.Goals as goal
use Rattle.third_copy.proofs.jobs.jobs_of.Goals.{then-is_duplex+in-Found, then-is_duplex+in-Unread, else-is_duplex}

pub loop-place-init : goal.loop-place-init
loop-place-init g c = record {
  finding = finding_none g.P.Plant.tells c.args.means.now c.args.shift (g.P.Plant.state c.args.plant.now) c.args.jobs.items c.requires.empty;
  count = omega (arith, c.args.jobs.ok.0, ap length c.requires.empty);
  places = c.requires.places;
}

pub unwrap-requires : goal.unwrap-requires
unwrap-requires g c =
    let within : c.loop-place.place < length c.args.means.now.table.rows = omega (arith, c.len-place-end.ensures.count, c.loop-place-test.true) in
    some_there c.args.means.now.table.rows c.loop-place.place c.row.result within c.row.ensures.row

pub find_target-requires : goal.find_target-requires
find_target-requires g c = (search rules, c.loop-place.invariant.finding.works.home c.requires.home)

pub push_reserved-requires : goal.push_reserved-requires
push_reserved-requires g c =
    let within : c.loop-place.place < length c.args.means.now.table.rows = omega (arith, c.len-place-end.ensures.count, c.loop-place-test.true) in
    omega (arith, within, c.loop-place.invariant.count, c.loop-place.invariant.places)

pub job_of-requires-clause-small : goal.job_of-requires-clause-small
job_of-requires-clause-small g c = c.find_target.ensures.small c.in-Found.is

pub job_of-requires-clause-rules : goal.job_of-requires-clause-rules
job_of-requires-clause-rules g c = subst (λ (o : Option (Bor PairRow)). IfSome o (λ row. IsTrue (keeps_row_rules row.now))) c.unwrap.ensures c.row.ensures.rules

pub loop-place-preserved : goal.loop-place-preserved
loop-place-preserved g c =
    let old = g.P.Plant.state c.args.plant.now in
    let cur = g.P.Plant.state c.loop-place.plant in
    let means = c.args.means.now in
    let shift = c.args.shift in
    let rows = means.table.rows in
    let i = c.loop-place.place in
    let inv = c.loop-place.invariant in
    let jobs = c.loop-place.jobs.items in
    let r = c.unwrap.result.now in
    let is : slice_get rows i ≡ Some r = sym c.row.ensures.row ∙ ap option_copied c.unwrap.ensures in
    let sound = c.len-place-end.ensures.rules in
    elim c.if-is_duplex.branch [
      | then-is_duplex+in-Found w ↦
          let new = g.P.Plant.state w.find_target.new.plant in
          let f = w.find_target.ensures in
          let duplex = sym c.is_duplex.ensures ∙ w.if-is_duplex.true in
          let count = subst (λ (t : Target). FailsByCount (is_unread t) (cur.faults (Volume (target_of shift r))) (new.faults (Volume (target_of shift r)))) w.in-Found.is f.count in
          let some : g.P.Plant.tells → target_in cur rows shift r ≡ Found = λ told. let read : w.find_target.result ≢ Unread = λ u. absurd (cc (sym u ∙ w.in-Found.is)) in sym (f.told told read) ∙ w.in-Found.is in
          let found = finding_found g.P.Plant.tells means shift sound i jobs old cur inv.finding r is duplex new f.works f.counts count (f.found w.in-Found.is) some in
          let jobs_is : c.if-is_duplex.jobs.items ≡ jobs ++ job_of means shift r ∷ [] = (λ k. (w.jobs-is k).items) ∙ w.push_reserved.ensures.items ∙ ap (λ (j : CopyJob). jobs ++ j ∷ []) w.job_of.ensures in
          record {
            finding = subst (λ (p : PlantState). Finding g.P.Plant.tells means shift (i + 1) c.if-is_duplex.jobs.items old p) (ap g.P.Plant.state (sym w.plant-is)) (subst (λ (l : List CopyJob). Finding g.P.Plant.tells means shift (i + 1) l old new) (sym jobs_is) found);
            count = omega (arith, ap vec_len w.jobs-is, w.push_reserved.ensures.len, inv.count);
            places = omega (arith, ap vec_capacity w.jobs-is, w.push_reserved.ensures.capacity, inv.places);
          }
      | then-is_duplex+in-Unread w ↦
          let new = g.P.Plant.state w.find_target.new.plant in
          let f = w.find_target.ensures in
          let duplex = sym c.is_duplex.ensures ∙ w.if-is_duplex.true in
          let count = subst (λ (t : Target). FailsByCount (is_unread t) (cur.faults (Volume (target_of shift r))) (new.faults (Volume (target_of shift r)))) w.in-Unread.is f.count in
          let found = finding_unread g.P.Plant.tells means shift sound i jobs old cur inv.finding r is duplex new f.works f.counts count (f.there w.in-Unread.is) (f.free w.in-Unread.is) in
          record {
            finding = subst (λ (p : PlantState). Finding g.P.Plant.tells means shift (i + 1) c.if-is_duplex.jobs.items old p) (ap g.P.Plant.state (sym w.plant-is)) (subst (λ (l : List CopyJob). Finding g.P.Plant.tells means shift (i + 1) l old new) (λ k. (sym w.jobs-is k).items) found);
            count = omega (arith, ap vec_len w.jobs-is, inv.count);
            places = omega (arith, ap vec_capacity w.jobs-is, inv.places);
          }
      | else-is_duplex w ↦
          let other = finding_other g.P.Plant.tells means shift sound i jobs old cur inv.finding r is (sym c.is_duplex.ensures ∙ w.if-is_duplex.false) in
          record {
            finding = subst (λ (p : PlantState). Finding g.P.Plant.tells means shift (i + 1) c.if-is_duplex.jobs.items old p) (ap g.P.Plant.state (sym w.plant-is)) (subst (λ (l : List CopyJob). Finding g.P.Plant.tells means shift (i + 1) l old cur) (λ k. (sym w.jobs-is k).items) other);
            count = omega (arith, ap vec_len w.jobs-is, inv.count);
            places = omega (arith, ap vec_capacity w.jobs-is, inv.places);
          }
    ]

pub returns-clause-works : goal.returns-clause-works
returns-clause-works g c = c.loop-place.invariant.finding.works

pub returns-clause-jobs : goal.returns-clause-jobs
returns-clause-jobs g c = finding_all g.P.Plant.tells c.args.means.now c.args.shift c.loop-place.place c.loop-place.jobs.items (g.P.Plant.state c.args.plant.now) (g.P.Plant.state c.loop-place.plant) (omega (arith, c.len-place-end.ensures.count, c.loop-place-test.false)) c.loop-place.invariant.finding

pub returns-clause-found : goal.returns-clause-found
returns-clause-found g c told = finding_all_found g.P.Plant.tells c.args.means.now c.args.shift c.loop-place.place c.loop-place.jobs.items (g.P.Plant.state c.args.plant.now) (g.P.Plant.state c.loop-place.plant) c.loop-place.invariant.finding told

pub returns-clause-none : goal.returns-clause-none
returns-clause-none g c told = finding_none_without g.P.Plant.tells c.args.means.now c.args.shift c.loop-place.place c.loop-place.jobs.items (g.P.Plant.state c.args.plant.now) (g.P.Plant.state c.loop-place.plant) (omega (arith, c.len-place-end.ensures.count, c.loop-place-test.false)) c.loop-place.invariant.finding told

pub returns-clause-counts : goal.returns-clause-counts
returns-clause-counts g c = c.loop-place.invariant.finding.counts

pub returns-clause-few : goal.returns-clause-few
returns-clause-few g c = omega (arith, c.loop-place.invariant.count, c.len-place-end.ensures.count, c.loop-place.auto.place-end)

pub returns-clause-sound : goal.returns-clause-sound
returns-clause-sound g c = c.len-place-end.ensures.rules

pub returns-in-Missing-clause-works : goal.returns-in-Missing-clause-works
returns-in-Missing-clause-works g c =
    let means = c.args.means.now in
    let cur = g.P.Plant.state c.loop-place.plant in
    let r = c.unwrap.result.now in
    let is : slice_get means.table.rows c.loop-place.place ≡ Some r = sym c.row.ensures.row ∙ ap option_copied c.unwrap.ensures in
    missing_works g.P.Plant.tells means c.args.shift c.len-place-end.ensures.rules c.loop-place.place c.loop-place.jobs.items (g.P.Plant.state c.args.plant.now) cur c.loop-place.invariant.finding r is
    (sym c.is_duplex.ensures ∙ c.if-is_duplex.true) (g.P.Plant.state c.find_target.new.plant) c.find_target.ensures.works c.find_target.ensures.counts

pub returns-in-Missing-clause-missing : goal.returns-in-Missing-clause-missing
returns-in-Missing-clause-missing g c =
    let means = c.args.means.now in
    let cur = g.P.Plant.state c.loop-place.plant in
    let r = c.unwrap.result.now in
    let is : slice_get means.table.rows c.loop-place.place ≡ Some r = sym c.row.ensures.row ∙ ap option_copied c.unwrap.ensures in
    let f = c.find_target.ensures in
    let none : g.P.Plant.tells → target_in cur means.table.rows c.args.shift r ≡ Missing = λ told.
    let read : c.find_target.result ≢ Unread = λ u. absurd (cc (sym u ∙ c.in-Missing.is)) in
    sym (f.told told read) ∙ c.in-Missing.is in (
      r.device,
      refl,
      finding_missing g.P.Plant.tells means c.args.shift c.len-place-end.ensures.rules c.loop-place.place c.loop-place.jobs.items (g.P.Plant.state c.args.plant.now) cur c.loop-place.invariant.finding r is
          (sym c.is_duplex.ensures ∙ c.if-is_duplex.true) (g.P.Plant.state c.find_target.new.plant) f.works f.counts none,
    )

pub returns-in-Missing-clause-counts : goal.returns-in-Missing-clause-counts
returns-in-Missing-clause-counts g c =
    let means = c.args.means.now in
    let cur = g.P.Plant.state c.loop-place.plant in
    let new = g.P.Plant.state c.find_target.new.plant in
    let r = c.unwrap.result.now in
    let is : slice_get means.table.rows c.loop-place.place ≡ Some r = sym c.row.ensures.row ∙ ap option_copied c.unwrap.ensures in
    let f = c.find_target.ensures in
    let count = subst (λ (t : Target). FailsByCount (is_unread t) (cur.faults (Volume (target_of c.args.shift r))) (new.faults (Volume (target_of c.args.shift r)))) c.in-Missing.is f.count in
    missing_counts g.P.Plant.tells means c.args.shift c.len-place-end.ensures.rules c.loop-place.place c.loop-place.jobs.items (g.P.Plant.state c.args.plant.now) cur c.loop-place.invariant.finding r is
    (sym c.is_duplex.ensures ∙ c.if-is_duplex.true) new f.works f.counts count
