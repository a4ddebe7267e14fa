use Rattle.std.proofs.Common.{rules, ◌≡◌, ℕ, ◌<◌, ◌&&◌, not, Bool, false, List, length, map, get_or, sym, ap, subst, ◌∙◌, arith, IsTrue}
use Rattle.std.specs.Prelude.{◌↔◌}
use Rattle.std.specs.List.{list_any}
use Rattle.std.proofs.lemmas.List.{get_or-take, length-map}
use Rattle.xrc_journal.specs.declared.job.VolumeJob.{VolumeJob}
use Rattle.xrc_journal.specs.Contents.{HasItem}
use Rattle.applier.specs.Disks.{without_disk}
use Rattle.applier.specs.Loans.{LendsWhere}
use Rattle.applier.proofs.Moving.{worked_on}
use Rattle.image_former.specs.Entries.{HasEntry}
use Rattle.image_former.specs.Jobs.{is_failed_of}
use Rattle.site_store.specs.Causes.{FailByCounts}
use Rattle.site_store.specs.Jobs.{are_home_from, has_job_failed}
use Rattle.site_store.specs.Deeds.{kinds_of}
use Rattle.site_store.specs.Logging.{FailByEntries}
use Rattle.site_store.proofs.DueItems.{spelled_by_kinds}
use Rattle.site_store.proofs.LentJobs.{home_at, low_devices, one_job, slots}
use Rattle.site_store.proofs.FormedBack as back
use Rattle.site_store.proofs.forming.form_group.Goals as goal

pub wanted_volumes-wanted-requires : goal.wanted_volumes-wanted-requires
wanted_volumes-wanted-requires g c = low_devices (g.P.Plant.state c.args.plant.now) c.args.table.now.rows c.args.formed.now.entries c.requires.may.have c.requires.may.entries c.requires.may.few

pub lend_all-requires-clause-there : goal.lend_all-requires-clause-there
lend_all-requires-clause-there g c κs within k d lt = omega (arith, (home_at 0 c.args.jobs.now c.requires.may.idle k d lt).device, c.requires.may.volumes)

pub lend_all-requires-clause-apart : goal.lend_all-requires-clause-apart
lend_all-requires-clause-apart g c κs within i j d less lt same = omega (arith, (home_at 0 c.args.jobs.now c.requires.may.idle i d (omega (arith, less, lt))).device, (home_at 0 c.args.jobs.now c.requires.may.idle j d lt).device, same, less)

pub lend_all-requires-clause-idle : goal.lend_all-requires-clause-idle
lend_all-requires-clause-idle g c κs within k d lt = (home_at 0 c.args.jobs.now c.requires.may.idle k d lt).idle

pub form_body-requires-clause-one_job : goal.form_body-requires-clause-one_job
form_body-requires-clause-one_job g c =
    let start = g.P.Plant.state c.args.plant.now in
    let mid = g.P.Plant.state c.lend_all.new.plant in
    let wanted = c.wanted_volumes-wanted.result in
    let lends = λ (i : ℕ) (d : VolumeJob _) (lt : i < length c.args.jobs.now). subst (λ (b : Bool). LendsWhere b (get_or c.args.jobs.now i d) (get_or c.lend_all.new.jobs i d)) (get_or-take (length c.args.jobs.now) wanted i false lt) (c.lend_all.ensures.jobs i d lt) in
    one_job g.P.Plant.tells g.P.Volume.Disk.tells g.P.Volume.Disk.state start mid c.args.table.now.rows c.args.formed.now.entries c.args.jobs.now c.lend_all.new.jobs wanted c.requires.may.idle c.requires.may.volumes c.requires.may.few c.requires.may.have c.requires.may.entries
    c.wanted_volumes-wanted.ensures.wanted c.lend_all.ensures.same lends c.lend_all.ensures.out

pub form_body-requires-clause-slots : goal.form_body-requires-clause-slots
form_body-requires-clause-slots g c =
    let start = g.P.Plant.state c.args.plant.now in
    let mid = g.P.Plant.state c.lend_all.new.plant in
    let wanted = c.wanted_volumes-wanted.result in
    let lends = λ (i : ℕ) (d : VolumeJob _) (lt : i < length c.args.jobs.now). subst (λ (b : Bool). LendsWhere b (get_or c.args.jobs.now i d) (get_or c.lend_all.new.jobs i d)) (get_or-take (length c.args.jobs.now) wanted i false lt) (c.lend_all.ensures.jobs i d lt) in
    slots g.P.Plant.tells g.P.Volume.Disk.tells g.P.Volume.Disk.state start mid c.args.table.now.rows c.args.formed.now.entries c.args.jobs.now c.lend_all.new.jobs wanted c.requires.may.idle c.requires.may.volumes c.requires.may.few c.requires.may.have c.requires.may.entries
    c.wanted_volumes-wanted.ensures.wanted c.lend_all.ensures.same lends c.lend_all.ensures.out

pub give_back_all-requires-clause-out : goal.give_back_all-requires-clause-out
give_back_all-requires-clause-out g c κs within =
    let f = c.form_body.ensures in
    let worked = back.worked g.P.Plant.tells g.P.Volume.Disk.tells g.P.Volume.Disk.state c.args.table.now.rows c.args.formed.now.entries c.lend_all.new.jobs c.form_body.new.jobs f.devices f.left_alone f.cause f.length f.past in
    (c.args.plant.now, c.lend_all.new.jobs, worked_on g.P.Plant.tells g.P.Volume.Disk.tells g.P.Volume.Disk.state (g.P.Plant.state c.args.plant.now) (g.P.Plant.state c.lend_all.new.plant) c.lend_all.new.jobs c.lend_all.new.jobs c.form_body.new.jobs c.lend_all.ensures.out worked)

pub returns : goal.returns
returns g c =
    let tells = g.P.Plant.tells in
    let own = g.P.Volume.Disk.tells in
    let state = g.P.Volume.Disk.state in
    let start = g.P.Plant.state c.args.plant.now in
    let mid = g.P.Plant.state c.lend_all.new.plant in
    let end = g.P.Plant.state c.give_back_all.new.plant in
    let rows = c.args.table.now.rows in
    let entries = c.args.formed.now.entries in
    let old = c.args.jobs.now in
    let lent = c.lend_all.new.jobs in
    let given = c.form_body.new.jobs in
    let wanted = c.wanted_volumes-wanted.result in
    let f = c.form_body.ensures in
    let lends = λ (i : ℕ) (d : VolumeJob _) (lt : i < length old). subst (λ (b : Bool). LendsWhere b (get_or old i d) (get_or lent i d)) (get_or-take (length old) wanted i false lt) (c.lend_all.ensures.jobs i d lt) in
    let worked = back.worked tells own state rows entries lent given f.devices f.left_alone f.cause f.length f.past in
    let out = worked_on tells own state start mid lent lent given c.lend_all.ensures.out worked in
    let were = c.give_back_all.ensures.back c.args.plant.now lent out in
    let is : c.give_back_all.new.jobs ≡ map without_disk given = c.give_back_all.ensures.jobs in
    let home = back.home_again tells own state rows entries lent given f.devices f.left_alone f.cause f.length f.past start mid end old wanted c.requires.may.idle c.requires.may.volumes c.requires.may.few c.wanted_volumes-wanted.ensures.wanted c.lend_all.ensures.same lends c.lend_all.ensures.out were f.not_called in
    let fails = back.fails tells own state rows entries lent given f.devices f.left_alone f.cause f.length f.past start mid end old wanted c.requires.may.idle c.requires.may.volumes c.requires.may.few c.wanted_volumes-wanted.ensures.wanted c.lend_all.ensures.same lends c.lend_all.ensures.out were f.not_called in
    let entered = back.by_entries tells own state rows entries lent given f.devices f.left_alone f.cause f.length f.past start mid end old wanted c.requires.may.idle c.requires.may.volumes c.requires.may.few c.wanted_volumes-wanted.ensures.wanted c.lend_all.ensures.same lends c.lend_all.ensures.out were f.not_called in
    let only = back.only_entries tells own state rows entries lent given f.devices f.left_alone f.cause f.length f.past start mid end old wanted c.requires.may.idle c.requires.may.volumes c.requires.may.few c.wanted_volumes-wanted.ensures.wanted c.lend_all.ensures.same lends c.lend_all.ensures.out were f.not_called in
    let read = back.are_read tells own state rows entries lent given f.devices f.left_alone f.cause f.length f.past f.moments f.bytes in
    record {
      idle = ap (λ (l : List (VolumeJob _)). are_home_from 0 l) is ∙ home;
      images = record { images = f.images; allowed = f.allowed; short = f.short; room = search rules };
      tracks = λ d x. subst (λ (b : Bool). HasItem d x c.form_body.new.body.items ↔ (HasEntry rows d x entries × ¬ IsTrue b)) (sym (ap (λ (l : List (VolumeJob _)). list_any (is_failed_of d) l) is ∙ back.failed_back tells own state rows entries lent given f.devices f.left_alone f.cause f.length f.past d given)) (f.items d x);
      content = λ told d x within fine has. back.content tells own state rows entries lent given f.devices f.left_alone f.cause f.length f.past start mid end old wanted c.requires.may.idle c.requires.may.volumes c.requires.may.few c.wanted_volumes-wanted.ensures.wanted c.lend_all.ensures.same lends c.lend_all.ensures.out were f.not_called
          told c.form_body.new.body.items f.content d x within (sym (ap (λ (l : List (VolumeJob _)). get_or (map has_job_failed l) d false) is) ∙ fine) has (kinds_of entries) (spelled_by_kinds entries c.wanted_volumes-wanted.ensures.written);
      fails = subst (λ (l : List (VolumeJob _)). FailByCounts (map has_job_failed old) (map has_job_failed l) start.faults end.faults) (sym is) fails;
      by_entries = subst (λ (l : List (VolumeJob _)). FailByEntries rows entries (map has_job_failed old) (map has_job_failed l)) (sym is) entered;
      reads = c.give_back_all.ensures.read c.args.plant.now lent out read;
      home = c.give_back_all.ensures.home;
      only = only;
      due = λ d lt.
          c.note_due.ensures d (omega (arith, lt, c.requires.may.flags))
          ∙ ap (λ (b : Bool). b && not (get_or (map has_job_failed c.give_back_all.new.jobs) d false)) (c.wanted_volumes-wanted.ensures.wanted d (omega (arith, lt, c.requires.may.volumes, c.requires.may.few)));
    }

pub note_due-requires-clause-jobs : goal.note_due-requires-clause-jobs
note_due-requires-clause-jobs g c =
    let f = c.form_body.ensures in
    let worked = back.worked g.P.Plant.tells g.P.Volume.Disk.tells g.P.Volume.Disk.state c.args.table.now.rows c.args.formed.now.entries c.lend_all.new.jobs c.form_body.new.jobs f.devices f.left_alone f.cause f.length f.past in
    omega (arith, ap length c.give_back_all.ensures.jobs, length-map c.form_body.new.jobs without_disk, worked.same, c.lend_all.ensures.same, c.requires.may.flags)

pub note_due-requires-clause-wanted : goal.note_due-requires-clause-wanted
note_due-requires-clause-wanted g c = omega (arith, c.requires.may.flags, c.requires.may.volumes, c.requires.may.few)
