use Rattle.std.proofs.Common.{List, [], refl, sym, ◌∙◌, subst, arith}
use Rattle.xrc_edge.proofs.Outcomes.{on_err}
use Rattle.xrc_journal.specs.Items.{Item, AreItems, anywhere}
use Rattle.image_former.specs.Steps.{GoesBy, AreFormed}
use Rattle.image_former.proofs.Lists.{zip_refl, zip_trans}
use Rattle.image_former.proofs.Going.{by_here, by_then, ready_after, live_falls}
use Rattle.image_former.proofs.Bodying.{formed_none}
use Rattle.image_former.proofs.forming.form_images.Goals as goal

pub loop-place-init : goal.loop-place-init
loop-place-init g c =
    let rows = c.args.table.now.rows in
    let entries = c.args.formed.now.entries in (
      zip_refl (GoesBy g.D.Disk.state g.D.Disk.tells rows entries) (by_here g.D.Disk.state g.D.Disk.tells rows entries) c.args.jobs.now,
      subst (λ (l : List Item). AreFormed g.D.Disk.state g.D.Disk.tells rows entries [] c.args.jobs.now l) (sym c.requires.empty) (formed_none g.D.Disk.state g.D.Disk.tells rows entries c.args.jobs.now),
      refl,
      subst (λ (l : List Item). AreItems anywhere l) (sym c.requires.empty) refl,
    )

pub form_image-requires-clause-ready : goal.form_image-requires-clause-ready
form_image-requires-clause-ready g c =
    ready_after g.D.Disk.state g.D.Disk.tells c.args.table.now.rows c.args.formed.now.entries c.args.jobs.now c.loop-place.jobs c.loop-place.invariant.0 c.requires.ready

pub returns-in_err-form_image-clause-goes : goal.returns-in_err-form_image-clause-goes
returns-in_err-form_image-clause-goes g c =
    zip_trans (GoesBy g.D.Disk.state g.D.Disk.tells c.args.table.now.rows c.args.formed.now.entries) (by_then g.D.Disk.state g.D.Disk.tells c.args.table.now.rows c.args.formed.now.entries)
    c.args.jobs.now c.loop-place.jobs c.form_image.new.jobs c.loop-place.invariant.0 c.form_image.ensures.goes

pub returns-in_err-form_image-clause-fewer : goal.returns-in_err-form_image-clause-fewer
returns-in_err-form_image-clause-fewer g c =
    let falls = live_falls g.D.Disk.state g.D.Disk.tells c.args.table.now.rows c.args.formed.now.entries c.args.jobs.now c.loop-place.jobs c.loop-place.invariant.0 in
    on_err c.from_residual.result (omega (arith, falls, c.in_err-form_image.ensures.fewer))

pub loop-place-preserved : goal.loop-place-preserved
loop-place-preserved g c = (
  zip_trans (GoesBy g.D.Disk.state g.D.Disk.tells c.args.table.now.rows c.args.formed.now.entries) (by_then g.D.Disk.state g.D.Disk.tells c.args.table.now.rows c.args.formed.now.entries)
      c.args.jobs.now c.loop-place.jobs c.form_image.new.jobs c.loop-place.invariant.0 c.form_image.ensures.goes,
  c.in_ok-form_image.ensures.formed,
  c.form_image.ensures.room ∙ c.loop-place.invariant.2,
  c.form_image.ensures.keep,
)
