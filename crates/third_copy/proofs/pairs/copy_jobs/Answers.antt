use Rattle.std.proofs.Common.{inl, inr, rules, arith, ◌≡◌, ◌+◌, ◌++◌, ◌∷◌, [], ℕ, List, false, Some, length, vec_len, vec_capacity, sym, ◌∙◌, ap, subst}
use Rattle.std.specs.Prelude.{slice_get}
use Rattle.std.proofs.lemmas.Bool.{cases_Bool}
use Rattle.std.proofs.lemmas.Option.{slice_get-get_or}
use Rattle.crash_plant.specs.Moments.{PlantState}
use Rattle.third_copy.specs.Jobs.{EndsJobs}
use Rattle.third_copy.proofs.JobsDone.{JobsSoFar, jobs_all, jobs_done, jobs_failed, jobs_left, jobs_none, ready_then}
use Rattle.third_copy.proofs.pairs.copy_jobs.Goals as goal
use Rattle.third_copy.proofs.pairs.copy_jobs.Goals.{then-copy_unless_failed, else-copy_unless_failed}

pub loop-job-init : goal.loop-job-init
loop-job-init g c = record {
  so_far = jobs_none g.P.Plant.tells c.args.jobs.now c.args.failed.now (g.P.Plant.state c.args.plant.now) c.args.done.items c.requires.empty;
  count = omega (arith, c.args.done.ok.0, ap length c.requires.empty);
  places = c.requires.places;
}

pub copy_unless_failed-requires : goal.copy_unless_failed-requires
copy_unless_failed-requires g c =
    let jobs = c.args.jobs.now in
    let i = c.loop-job.job-index in
    let job = c.job-item.result in
    let at : slice_get jobs i ≡ Some job = slice_get-get_or jobs i job c.loop-job-test.true ∙ ap Some (sym c.job-item.is) in
    (search rules, (ready_then g.P.Plant.tells _ jobs (g.P.Plant.state c.args.plant.now) (g.P.Plant.state c.loop-job.plant) c.loop-job.invariant.so_far.works c.requires.ready).each i job at)

pub push_reserved-requires : goal.push_reserved-requires
push_reserved-requires g c = omega (arith, c.loop-job-test.true, c.loop-job.invariant.count, c.loop-job.invariant.places)

pub loop-job-preserved : goal.loop-job-preserved
loop-job-preserved g c =
    let old = g.P.Plant.state c.args.plant.now in
    let cur = g.P.Plant.state c.loop-job.plant in
    let new = g.P.Plant.state c.copy_unless_failed.new.plant in
    let jobs = c.args.jobs.now in
    let failed = c.args.failed.now in
    let i = c.loop-job.job-index in
    let inv = c.loop-job.invariant in
    let job = c.job-item.result in
    let at : slice_get jobs i ≡ Some job = slice_get-get_or jobs i job c.loop-job-test.true ∙ ap Some (sym c.job-item.is) in
    let call = c.copy_unless_failed.ensures in
    let flag = c.is_among-has_failed.ensures in
    elim c.if-copy_unless_failed.branch [
      | then-copy_unless_failed w ↦
          let yes = w.if-copy_unless_failed.true in
          let fit : c.is_among-has_failed.result ≡ false = elim (cases_Bool c.is_among-has_failed.result) [ inl bad ↦ let no = (call.left bad).0 in absurd (cc (yes, no)) | inr fine ↦ fine ] in
          let next = jobs_done g.P.Plant.tells jobs failed i job at c.loop-job.done.items old cur c.requires.ready inv.so_far (sym flag ∙ fit) new (call.works fit) (call.counts yes) (λ told. call.done told yes) in
          let done_is : c.if-copy_unless_failed.done.items ≡ c.loop-job.done.items ++ job.source ∷ [] = (λ k. (w.done-is k).items) ∙ w.push_reserved.ensures.items in
          record {
            so_far = subst (λ (l : List ℕ). JobsSoFar g.P.Plant.tells jobs failed (i + 1) l old new) (sym done_is) next;
            count = omega (arith, ap vec_len w.done-is, w.push_reserved.ensures.len, inv.count);
            places = omega (arith, ap vec_capacity w.done-is, w.push_reserved.ensures.capacity, inv.places);
          }
      | else-copy_unless_failed w ↦
          let no = w.if-copy_unless_failed.false in
          let next : JobsSoFar g.P.Plant.tells jobs failed (i + 1) c.loop-job.done.items old new = elim (cases_Bool c.is_among-has_failed.result) [
            | inl bad ↦ subst (λ (p : PlantState). JobsSoFar g.P.Plant.tells jobs failed (i + 1) c.loop-job.done.items old p) (ap g.P.Plant.state (sym (call.left bad).1))
                (jobs_left g.P.Plant.tells jobs failed i job at c.loop-job.done.items old cur c.requires.ready inv.so_far (sym flag ∙ bad))
            | inr fit ↦ jobs_failed g.P.Plant.tells jobs failed i job at c.loop-job.done.items old cur c.requires.ready inv.so_far (sym flag ∙ fit) new (call.works fit) (call.fails fit no)
          ] in
          record {
            so_far = subst (λ (l : List ℕ). JobsSoFar g.P.Plant.tells jobs failed (i + 1) l old new) (λ k. (sym w.done-is k).items) next;
            count = omega (arith, ap vec_len w.done-is, inv.count);
            places = omega (arith, ap vec_capacity w.done-is, inv.places);
          }
    ]

pub returns-clause-works : goal.returns-clause-works
returns-clause-works g c = c.loop-job.invariant.so_far.works

pub returns-clause-ends : goal.returns-clause-ends
returns-clause-ends g c =
    let told_of : c.of.result ≡ c.loop-job.done.items = search rules in
    subst (λ (l : List ℕ). EndsJobs g.P.Plant.tells c.args.jobs.now c.args.failed.now l (g.P.Plant.state c.args.plant.now) (g.P.Plant.state c.loop-job.plant)) (sym told_of)
    (jobs_all g.P.Plant.tells c.args.jobs.now c.args.failed.now c.loop-job.job-index c.loop-job.done.items (g.P.Plant.state c.args.plant.now) (g.P.Plant.state c.loop-job.plant) c.loop-job-test.false c.loop-job.invariant.so_far)
