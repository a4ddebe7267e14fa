use Rattle.std.proofs.Common.{refl, ap, ◌∙◌}
use Rattle.xrc_journal.specs.Bodies.{BodyState}
use Rattle.image_former.specs.Steps.{GoesBy}
use Rattle.image_former.proofs.Lists.{zip_refl, zip_trans}
use Rattle.image_former.proofs.Going.{by_here, by_then, ready_after}
use Rattle.image_former.proofs.forming.form_all.Goals as goal

pub loop-body-init : goal.loop-body-init
loop-body-init g c =
    (zip_refl (GoesBy g.D.Disk.state g.D.Disk.tells c.args.table.now.rows c.args.formed.now.entries) (by_here g.D.Disk.state g.D.Disk.tells c.args.table.now.rows c.args.formed.now.entries) c.args.jobs.now, c.requires.empty, refl)

pub form_images-requires-clause-ready : goal.form_images-requires-clause-ready
form_images-requires-clause-ready g c =
    ready_after g.D.Disk.state g.D.Disk.tells c.args.table.now.rows c.args.formed.now.entries c.args.jobs.now c.loop-body.jobs c.loop-body.invariant.0 c.requires.ready

pub loop-body-preserved : goal.loop-body-preserved
loop-body-preserved g c = (
  zip_trans (GoesBy g.D.Disk.state g.D.Disk.tells c.args.table.now.rows c.args.formed.now.entries) (by_then g.D.Disk.state g.D.Disk.tells c.args.table.now.rows c.args.formed.now.entries)
      c.args.jobs.now c.loop-body.jobs c.form_images.new.jobs c.loop-body.invariant.0 c.form_images.ensures.goes,
  ap (λ (h : BodyState). h.items) c.clear.ensures,
  ap (λ (h : BodyState). h.room) c.clear.ensures ∙ c.form_images.ensures.room ∙ c.loop-body.invariant.2,
)

pub returns-clause-goes : goal.returns-clause-goes
returns-clause-goes g c =
    zip_trans (GoesBy g.D.Disk.state g.D.Disk.tells c.args.table.now.rows c.args.formed.now.entries) (by_then g.D.Disk.state g.D.Disk.tells c.args.table.now.rows c.args.formed.now.entries)
    c.args.jobs.now c.loop-body.jobs c.form_images.new.jobs c.loop-body.invariant.0 c.form_images.ensures.goes
