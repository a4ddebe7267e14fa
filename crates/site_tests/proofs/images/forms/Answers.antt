use Rattle.crash_plant.specs.MemoryVolume.{volume_standing}
use Rattle.site_tests.proofs.LowEntries.{one_job_each, slots_of_both}
use Rattle.site_tests.proofs.images.forms.Goals as goal

pub form_body-requires-clause-one_job : goal.form_body-requires-clause-one_job
form_body-requires-clause-one_job g c =
    one_job_each c.worked_table-table.result.rows c.job-first.result c.job-second.result c.args.formed.now.entries c.job-first.ensures.device c.job-second.ensures.device c.assert_low.ensures.devices

pub form_body-requires-clause-slots : goal.form_body-requires-clause-slots
form_body-requires-clause-slots g c =
    slots_of_both volume_standing c.worked_table-table.result.rows c.job-first.result c.job-second.result c.args.formed.now.entries c.job-first.ensures.disk c.job-second.ensures.disk c.assert_low.ensures.tracks
