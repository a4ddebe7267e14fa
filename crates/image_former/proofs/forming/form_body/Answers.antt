use Rattle.std.proofs.Common.{◌≡◌, true}
use Rattle.xrc_journal.specs.Items.{none_earlier}
use Rattle.image_former.specs.Jobs.{BeginsWhole, HasNoEntry}
use Rattle.image_former.specs.Steps.{GoesBy}
use Rattle.image_former.proofs.Lists.{zip_map}
use Rattle.image_former.proofs.Bodying.{late_images}
use Rattle.image_former.proofs.AllEntries.{allowed_of, items_are, content_all, cause_all, length_all, by_one_all, bytes_all, past_all, moments_all}
use Rattle.image_former.proofs.forming.form_body.Goals as goal

pub returns-clause-content : goal.returns-clause-content
returns-clause-content g c told = content_all g.D.Disk.state g.D.Disk.tells c.args.table.now.rows c.args.formed.now.entries c.form_all.new.body.items c.args.jobs.now c.form_all.new.jobs c.form_all.ensures.goes c.form_all.ensures.formed told

pub returns-clause-items : goal.returns-clause-items
returns-clause-items g c device x = items_are g.D.Disk.state g.D.Disk.tells c.args.table.now.rows c.args.formed.now.entries c.form_all.new.jobs c.form_all.new.body.items c.form_all.ensures.formed device x

pub returns-clause-images : goal.returns-clause-images
returns-clause-images g c = c.form_all.ensures.formed.images

pub returns-clause-early : goal.returns-clause-early
returns-clause-early g c = late_images c.form_all.new.body.items none_earlier c.form_all.ensures.formed.images

pub returns-clause-allowed : goal.returns-clause-allowed
returns-clause-allowed g c = allowed_of c.form_all.new.body.items c.form_all.ensures.formed.images c.form_all.ensures.keep

pub returns-clause-short : goal.returns-clause-short
returns-clause-short g c = c.form_all.ensures.formed.short

pub returns-clause-devices : goal.returns-clause-devices
returns-clause-devices g c = zip_map (GoesBy g.D.Disk.state g.D.Disk.tells c.args.table.now.rows c.args.formed.now.entries) (λ old new. new.device ≡ old.device) (λ old new by. by.goes.device) c.args.jobs.now c.form_all.new.jobs c.form_all.ensures.goes

pub returns-clause-left_alone : goal.returns-clause-left_alone
returns-clause-left_alone g c = zip_map (GoesBy g.D.Disk.state g.D.Disk.tells c.args.table.now.rows c.args.formed.now.entries) (λ old new. old.failed ≡ true → new ≡ old) (λ old new by. by.goes.alone) c.args.jobs.now c.form_all.new.jobs c.form_all.ensures.goes

pub returns-clause-not_called : goal.returns-clause-not_called
returns-clause-not_called g c = zip_map (GoesBy g.D.Disk.state g.D.Disk.tells c.args.table.now.rows c.args.formed.now.entries) (λ old new. HasNoEntry c.args.table.now.rows c.args.formed.now.entries old.device → new ≡ old) (λ old new by. by.not_called) c.args.jobs.now c.form_all.new.jobs c.form_all.ensures.goes

pub returns-clause-not_read : goal.returns-clause-not_read
returns-clause-not_read g c = zip_map (GoesBy g.D.Disk.state g.D.Disk.tells c.args.table.now.rows c.args.formed.now.entries) (λ old new. BeginsWhole c.args.table.now.rows c.args.formed.now.entries old.device → (new.disk ≡ old.disk) × (new.failed ≡ old.failed)) (λ old new by. by.not_read) c.args.jobs.now c.form_all.new.jobs c.form_all.ensures.goes

pub returns-clause-cause : goal.returns-clause-cause
returns-clause-cause g c = cause_all g.D.Disk.state g.D.Disk.tells c.args.table.now.rows c.args.formed.now.entries c.args.jobs.now c.form_all.new.jobs c.form_all.ensures.goes

pub returns-clause-by_one : goal.returns-clause-by_one
returns-clause-by_one g c = by_one_all g.D.Disk.state g.D.Disk.tells c.args.table.now.rows c.args.formed.now.entries c.args.jobs.now c.form_all.new.jobs c.form_all.ensures.goes

pub returns-clause-length : goal.returns-clause-length
returns-clause-length g c = length_all g.D.Disk.state g.D.Disk.tells c.args.table.now.rows c.args.formed.now.entries c.args.jobs.now c.form_all.new.jobs c.form_all.ensures.goes

pub returns-clause-past : goal.returns-clause-past
returns-clause-past g c told = past_all g.D.Disk.state g.D.Disk.tells c.args.table.now.rows c.args.formed.now.entries told c.args.jobs.now c.form_all.new.jobs c.form_all.ensures.goes

pub returns-clause-moments : goal.returns-clause-moments
returns-clause-moments g c told = moments_all g.D.Disk.state g.D.Disk.tells c.args.table.now.rows c.args.formed.now.entries told c.args.jobs.now c.form_all.new.jobs c.form_all.ensures.goes

pub returns-clause-bytes : goal.returns-clause-bytes
returns-clause-bytes g c told = bytes_all g.D.Disk.state g.D.Disk.tells c.args.table.now.rows c.args.formed.now.entries told c.args.jobs.now c.form_all.new.jobs c.form_all.ensures.goes
