use Rattle.std.proofs.Common.{◌≡◌, ℕ, inl, inr, List, [], ◌∷◌, get_or, All, sym, ◌∙◌, ap, subst, arith}
use Rattle.std.proofs.lemmas.Bool.{cases_lt}
use Rattle.std.proofs.lemmas.List.{get_or_default}
use Rattle.xrc_journal.specs.Items.{Item}
use Rattle.xrc_journal.specs.Items.Item.{Image}
use Rattle.applier.specs.Sides.{HasItsSlots}
use Rattle.plant_tests.proofs.appliers.assert_rooms.Goals as goal

pub loop-job-preserved : goal.loop-job-preserved
loop-job-preserved g c slot k d low less =
    let jobs = c.args.jobs.now in
    let i = c.loop-job.job-index in
    let job = c.job-item.result in
    elim (cases_lt k i) [
      | inl before ↦ c.loop-job.invariant slot k d low before
      | inr after ↦
          let same : i ≡ k = omega (arith, after, less) in
          subst (HasItsSlots g.D.Disk.state (Image 0 0 slot ∷ Image 2 0 slot ∷ [])) (c.job-item.is ∙ get_or_default jobs i job d c.loop-job-test.true ∙ ap (λ (n : ℕ). get_or jobs n d) same) (c.assert_room.ensures slot)
    ]

pub returns : goal.returns
returns g c =
    let jobs = c.args.jobs.now in
    let slot = c.requires.0 in
    let all : All (HasItsSlots g.D.Disk.state (Image 0 0 slot ∷ Image 2 0 slot ∷ [])) jobs = λ k d less. c.loop-job.invariant slot k d (omega arith) (omega (arith, less, c.loop-job-test.false, c.loop-job.auto.job-index-end)) in
    subst (λ (items : List Item). All (HasItsSlots g.D.Disk.state items) jobs) (sym c.requires.1) all
