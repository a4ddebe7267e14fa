use Rattle.std.proofs.Common.{rules, arith, ◌≡◌, ◌∙◌, ◌≤◌, [], inl, inr, ℕ, List, false, length, Result, Err, refl, sym, ap, subst}
use Rattle.std.proofs.lemmas.Bool.{cases_Bool}
use Rattle.std.proofs.lemmas.Result.{err_from_is_err_and}
use Rattle.std.specs.Prelude.{IsErrOf}
use Rattle.ckd_track.specs.SlotPlaces.{slot_track}
use Rattle.crash_plant.specs.declared.device.Device.TheVariants.{Journal, Volume}
use Rattle.pair_table.specs.declared.row.PairRow.{PairRow}
use Rattle.pair_table.specs.Devices.{is_among}
use Rattle.site_means.specs.declared.reading.SiteReading.{SiteReading}
use Rattle.site_means.specs.declared.site_error.SiteError.TheVariants.{Fault}
use Rattle.site_means.specs.Answers.{IsRead}
use Rattle.site_means.specs.Sight.{walked}
use Rattle.site_means.proofs.Meanings.{seen_back, seen_read, seen_reached}
use Rattle.site_means.proofs.Shorts.{are_long}
use Rattle.xrecover.specs.declared.labelling.Labelling.TheVariants.{AsItIs}
use Rattle.xrecover.specs.declared.recover_error.RecoverError.{RecoverError}
use Rattle.xrecover.specs.declared.recover_error.RecoverError.TheVariants.{Site}
use Rattle.xrecover.specs.Answers.{IsGoodOrCalledFor, IsRecoverable, TellsFaults}
use Rattle.xrecover.specs.Pairs.{HasDuplex}
use Rattle.third_copy.specs.Jobs.{CopiesJobs}
use Rattle.xrecover.specs.RedoneVolumes.{Recovers, meant_rows}
use Rattle.xrecover.proofs.Fails.{so_good, tells_so}
use Rattle.xrecover.proofs.Finish.{ends_late, lasting_late, lasting_read, no_writes}
use Rattle.xrecover.proofs.Meant.{called_as, small_same}
use Rattle.xrecover.proofs.Works.{works_more, works_reads}
use Rattle.third_copy.specs.declared.copy_error.CopyError.{CopyError}
use Rattle.third_copy.specs.declared.copy_error.CopyError.TheVariants.{NoTarget, Recover}
use Rattle.third_copy.specs.declared.outcome.CopyOutcome.{CopyOutcome}
use Rattle.third_copy.specs.Answers.{CopiesSite, CountsPairs, IsCopyCalledFor, IsEarlyCopy, TellsCopyLasting}
use Rattle.volume_copy.specs.declared.copy_job.CopyJob.{CopyJob}
use Rattle.third_copy.specs.Pairs.{AreFound, AreJobs, IsPair, job_of}
use Rattle.volume_label.specs.Labels.{volume_need}
use Rattle.third_copy.proofs.Phases.{are_since, first_since, found_since, long_pair, pair_there, jobs_ready, later_copied, none_since, nothing_copied, read_then, still_counts, store_apart, stores_still, targets_since, tells_late, tells_nothing, tells_recover, unwritten_moments}
use Rattle.third_copy.proofs.Counting.{all_counts, copied_job, found_counts, job_source, pair_counts, redo_counts, source_rose}
use Rattle.third_copy.proofs.JobsDone.{ready_then}
use Rattle.third_copy.proofs.Redone.{content_since, redone_since, redone_still}
use Rattle.third_copy.proofs.SeenRows.{end_means, sees_moments}
use Rattle.third_copy.proofs.Site.{duplex_row, frees, keeps_copied, pair_duplex, redo_after, redo_meant, redo_site, row_step, rows_apart, rows_meant, same_means, seen_still, site_works}
use Rattle.crash_plant.specs.Moments.{on}
use Rattle.xrecover.proofs.Labels.{keeps_then}
use Rattle.third_copy.proofs.KeptLabels.{keeps_both, keeps_jobs, keeps_nothing}
use Rattle.third_copy.proofs.copying.copy.Goals as goal

-- ---- what the site means can't be told

pub returns-in_err-reading-clause-ok : goal.returns-in_err-reading-clause-ok
returns-in_err-reading-clause-ok g c = λ told.
    let old = g.P.Plant.state c.args.plant.now in
    let one = g.P.Plant.state c.read_recoverable.new.plant in
    let e = c.in_err-reading.field-0.0 in
    let is : c.from_residual.result ≡ Err (Recover e) = search rules in
    subst (λ (r : Result CopyOutcome CopyError). IsCopyCalledFor old one c.args.session c.args.shift r) (sym is)
    (called_as {X = SiteReading} {Y = CopyOutcome} old c.args.session (λ r. IsRecoverable old c.args.session r.means × IsRead old r) (λ o. IsRecoverable old c.args.session o.means) e (c.in_err-reading.ensures.says told))

pub returns-in_err-reading-clause-cause : goal.returns-in_err-reading-clause-cause
returns-in_err-reading-clause-cause g c =
    let old = g.P.Plant.state c.args.plant.now in
    let one = g.P.Plant.state c.read_recoverable.new.plant in
    let e = c.in_err-reading.field-0.0 in
    let is : c.from_residual.result ≡ Err (Recover e) = search rules in
    subst (λ (r : Result CopyOutcome CopyError). TellsFaults old.faults one.faults (λ d. IsErrOf r (Recover (Site (Fault d))))) (sym is)
    (tells_recover {X = CopyOutcome} {Y = CopyOutcome} old.faults one.faults e (tells_so {X = SiteReading} {Y = CopyOutcome} old.faults one.faults e c.in_err-reading.ensures.fails))

pub returns-in_err-reading-clause-counts : goal.returns-in_err-reading-clause-counts
returns-in_err-reading-clause-counts g c = λ told.
    let old = g.P.Plant.state c.args.plant.now in
    let one = g.P.Plant.state c.read_recoverable.new.plant in
    still_counts (meant_rows old old.bytes) c.args.shift old.faults one.faults (λ v. c.read_recoverable.ensures.reads.only.others_faults (Volume v) (λ is. is))

pub returns-in_err-reading-clause-works : goal.returns-in_err-reading-clause-works
returns-in_err-reading-clause-works g c =
    let old = g.P.Plant.state c.args.plant.now in
    let one = g.P.Plant.state c.read_recoverable.new.plant in
    nothing_copied g.P.Plant.tells old one c.args.shift (works_reads g.P.Plant.tells old one c.read_recoverable.ensures.reads)

pub returns-in_err-reading-clause-progress : goal.returns-in_err-reading-clause-progress
returns-in_err-reading-clause-progress g c = λ told. keeps_copied g.P.Plant.tells told c.args.shift (g.P.Plant.state c.args.plant.now) (g.P.Plant.state c.read_recoverable.new.plant) (returns-in_err-reading-clause-works g c)

pub returns-in_err-reading-clause-moments : goal.returns-in_err-reading-clause-moments
returns-in_err-reading-clause-moments g c = λ told.
    let old = g.P.Plant.state c.args.plant.now in
    let one = g.P.Plant.state c.read_recoverable.new.plant in
    unwritten_moments g.P.Plant.tells told old one (works_reads g.P.Plant.tells old one c.read_recoverable.ensures.reads)

pub returns-in_err-reading-clause-lasts : goal.returns-in_err-reading-clause-lasts
returns-in_err-reading-clause-lasts g c = λ told.
    let old = g.P.Plant.state c.args.plant.now in
    let one = g.P.Plant.state c.read_recoverable.new.plant in
    let e = c.in_err-reading.field-0.0 in
    let is : c.from_residual.result ≡ Err (Recover e) = search rules in
    subst (λ (r : Result CopyOutcome CopyError). TellsCopyLasting g.P.Plant.tells old one r) (sym is)
    (lasting_read SiteReading CopyOutcome g.P.Plant.tells told old one c.read_recoverable.ensures.reads e (c.in_err-reading.ensures.durable told) (λ v needed same. c.in_err-reading.ensures.small told v needed (ap (λ (k : RecoverError). let r : Result SiteReading RecoverError = Err k in r) same)))

pub returns-in_err-reading-clause-unwritten : goal.returns-in_err-reading-clause-unwritten
returns-in_err-reading-clause-unwritten g c = λ e is early. works_reads g.P.Plant.tells (g.P.Plant.state c.args.plant.now) (g.P.Plant.state c.read_recoverable.new.plant) c.read_recoverable.ensures.reads

-- ---- no memory, before the labels of targets were read

pub returns-in_err-room-clause-counts : goal.returns-in_err-room-clause-counts
returns-in_err-room-clause-counts g c = λ told.
    let old = g.P.Plant.state c.args.plant.now in
    let one = g.P.Plant.state c.read_recoverable.new.plant in
    still_counts (meant_rows old old.bytes) c.args.shift old.faults one.faults (λ v. c.read_recoverable.ensures.reads.only.others_faults (Volume v) (λ is. is))

pub returns-in_err-room-clause-works : goal.returns-in_err-room-clause-works
returns-in_err-room-clause-works g c =
    let old = g.P.Plant.state c.args.plant.now in
    let one = g.P.Plant.state c.read_recoverable.new.plant in
    nothing_copied g.P.Plant.tells old one c.args.shift (works_reads g.P.Plant.tells old one c.read_recoverable.ensures.reads)

pub returns-in_err-room-clause-progress : goal.returns-in_err-room-clause-progress
returns-in_err-room-clause-progress g c = λ told. keeps_copied g.P.Plant.tells told c.args.shift (g.P.Plant.state c.args.plant.now) (g.P.Plant.state c.read_recoverable.new.plant) (returns-in_err-room-clause-works g c)

pub returns-in_err-room-clause-moments : goal.returns-in_err-room-clause-moments
returns-in_err-room-clause-moments g c = λ told.
    let old = g.P.Plant.state c.args.plant.now in
    let one = g.P.Plant.state c.read_recoverable.new.plant in
    unwritten_moments g.P.Plant.tells told old one (works_reads g.P.Plant.tells old one c.read_recoverable.ensures.reads)

pub returns-in_err-room-clause-unwritten : goal.returns-in_err-room-clause-unwritten
returns-in_err-room-clause-unwritten g c = λ e is early. works_reads g.P.Plant.tells (g.P.Plant.state c.args.plant.now) (g.P.Plant.state c.read_recoverable.new.plant) c.read_recoverable.ensures.reads

-- ---- after the labels were read

pub jobs_of-requires-clause-home : goal.jobs_of-requires-clause-home
jobs_of-requires-clause-home g c κs within = (works_reads g.P.Plant.tells (g.P.Plant.state c.args.plant.now) (g.P.Plant.state c.read_recoverable.new.plant) c.read_recoverable.ensures.reads).home c.requires.home

pub redo-requires-clause-home : goal.redo-requires-clause-home
redo-requires-clause-home g c κs within = c.jobs_of.ensures.works.home ((works_reads g.P.Plant.tells (g.P.Plant.state c.args.plant.now) (g.P.Plant.state c.read_recoverable.new.plant) c.read_recoverable.ensures.reads).home c.requires.home)

pub redo-requires-clause-big : goal.redo-requires-clause-big
redo-requires-clause-big g c κs within =
    let old = g.P.Plant.state c.args.plant.now in
    let one = g.P.Plant.state c.read_recoverable.new.plant in
    let two = g.P.Plant.state c.jobs_of.new.plant in
    let rows = c.in_ok-reading.reading.means.table.rows in
    small_same one two rows c.jobs_of.ensures.works.site ∙ small_same old one rows c.read_recoverable.ensures.reads.only.site ∙ c.in_ok-reading.ensures.long

pub redo-requires-clause-long : goal.redo-requires-clause-long
redo-requires-clause-long g c κs within = λ j lt.
    let long = are_long (g.P.Plant.state c.args.plant.now) c.in_ok-reading.ensures.lengths in
    let first = c.read_recoverable.ensures.reads.only.site in
    let then = c.jobs_of.ensures.works.site in
    omega (arith, long.journals j (omega (arith, lt, first.journals, then.journals)), first.lengths (Journal j), then.lengths (Journal j))

pub redo-requires-clause-read : goal.redo-requires-clause-read
redo-requires-clause-read g c κs within = λ told.
    let old = g.P.Plant.state c.args.plant.now in
    let one = g.P.Plant.state c.read_recoverable.new.plant in
    let two = g.P.Plant.state c.jobs_of.new.plant in
    let works = read_then g.P.Plant.tells old one two c.read_recoverable.ensures.reads c.jobs_of.ensures.works in
    seen_read two old (seen_back old two (seen_still g.P.Plant.tells old two works told)) c.in_ok-reading.reading (c.in_ok-reading.ensures.says told).1

pub returns-in_err-jobs-clause-works : goal.returns-in_err-jobs-clause-works
returns-in_err-jobs-clause-works g c =
    let old = g.P.Plant.state c.args.plant.now in
    let one = g.P.Plant.state c.read_recoverable.new.plant in
    let two = g.P.Plant.state c.jobs_of.new.plant in
    nothing_copied g.P.Plant.tells old two c.args.shift (read_then g.P.Plant.tells old one two c.read_recoverable.ensures.reads c.jobs_of.ensures.works)

pub returns-in_err-jobs-clause-progress : goal.returns-in_err-jobs-clause-progress
returns-in_err-jobs-clause-progress g c = λ told. keeps_copied g.P.Plant.tells told c.args.shift (g.P.Plant.state c.args.plant.now) (g.P.Plant.state c.jobs_of.new.plant) (returns-in_err-jobs-clause-works g c)

pub returns-in_err-jobs-clause-moments : goal.returns-in_err-jobs-clause-moments
returns-in_err-jobs-clause-moments g c = λ told.
    let old = g.P.Plant.state c.args.plant.now in
    let one = g.P.Plant.state c.read_recoverable.new.plant in
    let two = g.P.Plant.state c.jobs_of.new.plant in
    unwritten_moments g.P.Plant.tells told old two (read_then g.P.Plant.tells old one two c.read_recoverable.ensures.reads c.jobs_of.ensures.works)

pub returns-in_err-jobs-clause-unwritten : goal.returns-in_err-jobs-clause-unwritten
returns-in_err-jobs-clause-unwritten g c = λ e is early.
    read_then g.P.Plant.tells (g.P.Plant.state c.args.plant.now) (g.P.Plant.state c.read_recoverable.new.plant) (g.P.Plant.state c.jobs_of.new.plant) c.read_recoverable.ensures.reads c.jobs_of.ensures.works

pub returns-in_err-jobs-clause-ok : goal.returns-in_err-jobs-clause-ok
returns-in_err-jobs-clause-ok g c = λ told.
    let old = g.P.Plant.state c.args.plant.now in
    let one = g.P.Plant.state c.read_recoverable.new.plant in
    let two = g.P.Plant.state c.jobs_of.new.plant in
    let means = c.in_ok-reading.reading.means in
    let none = c.in_err-jobs.ensures.missing in
    let is : c.from_residual-in_err-jobs.result ≡ Err (NoTarget none.0) = search (rules, none.1) in
    let counts = so_good old.faults one.faults c.in_ok-reading.reading c.in_ok-reading.ensures.fails in
    let works = works_reads g.P.Plant.tells old one c.read_recoverable.ensures.reads in
    subst (λ (r : Result CopyOutcome CopyError). IsCopyCalledFor old two c.args.session c.args.shift r) (sym is)
    (means, (c.in_ok-reading.ensures.says told).0, first_since g.P.Plant.tells old one two two means.table.rows c.args.shift works counts (λ d. omega arith) told none.0 (none.2 told))

pub returns-in_err-jobs-clause-cause : goal.returns-in_err-jobs-clause-cause
returns-in_err-jobs-clause-cause g c =
    let old = g.P.Plant.state c.args.plant.now in
    let one = g.P.Plant.state c.read_recoverable.new.plant in
    let two = g.P.Plant.state c.jobs_of.new.plant in
    let rows = c.in_ok-reading.reading.means.table.rows in
    let none = c.in_err-jobs.ensures.missing in
    let is : c.from_residual-in_err-jobs.result ≡ Err (NoTarget none.0) = search (rules, none.1) in
    let counts = so_good old.faults one.faults c.in_ok-reading.reading c.in_ok-reading.ensures.fails in
    subst (λ (r : Result CopyOutcome CopyError). TellsFaults old.faults two.faults (λ d. IsErrOf r (Recover (Site (Fault d))))) (sym is)
    (tells_nothing old.faults two.faults _ (λ d told. absurd cc) (λ d store. stores_still rows c.args.shift one.faults two.faults c.jobs_of.ensures.counts d store ∙ counts d))

pub returns-in_err-jobs-clause-counts : goal.returns-in_err-jobs-clause-counts
returns-in_err-jobs-clause-counts g c = λ told.
    let old = g.P.Plant.state c.args.plant.now in
    let one = g.P.Plant.state c.read_recoverable.new.plant in
    let two = g.P.Plant.state c.jobs_of.new.plant in
    let means = c.in_ok-reading.reading.means in
    let counts = so_good old.faults one.faults c.in_ok-reading.reading c.in_ok-reading.ensures.fails in
    let works = read_then g.P.Plant.tells old one two c.read_recoverable.ensures.reads c.jobs_of.ensures.works in
    subst (λ (r : List PairRow). CountsPairs r c.args.shift old.faults two.faults) (sym (rows_meant g.P.Plant.tells old two works c.args.session means (λ told. (c.in_ok-reading.ensures.says told).0) told))
    (found_counts means.table.rows c.args.shift old.faults two.faults (targets_since means.table.rows c.args.shift old.faults one.faults two.faults counts c.jobs_of.ensures.counts))

pub returns-in_err-jobs-clause-lasts : goal.returns-in_err-jobs-clause-lasts
returns-in_err-jobs-clause-lasts g c = λ told.
    let old = g.P.Plant.state c.args.plant.now in
    let one = g.P.Plant.state c.read_recoverable.new.plant in
    let two = g.P.Plant.state c.jobs_of.new.plant in
    let none = c.in_err-jobs.ensures.missing in
    let is : c.from_residual-in_err-jobs.result ≡ Err (NoTarget none.0) = search (rules, none.1) in
    subst (λ (r : Result CopyOutcome CopyError). TellsCopyLasting g.P.Plant.tells old two r) (sym is)
    (end_means g.P.Plant.tells told c.args.shift old one two c.read_recoverable.ensures.reads (c.in_ok-reading.ensures.durable told) (later_copied g.P.Plant.tells old one two c.args.shift c.jobs_of.ensures.works))

-- ---- no memory for the redo

pub returns-in_err-tools-clause-works : goal.returns-in_err-tools-clause-works
returns-in_err-tools-clause-works g c =
    let old = g.P.Plant.state c.args.plant.now in
    let one = g.P.Plant.state c.read_recoverable.new.plant in
    let two = g.P.Plant.state c.jobs_of.new.plant in
    nothing_copied g.P.Plant.tells old two c.args.shift (read_then g.P.Plant.tells old one two c.read_recoverable.ensures.reads c.jobs_of.ensures.works)

pub returns-in_err-tools-clause-progress : goal.returns-in_err-tools-clause-progress
returns-in_err-tools-clause-progress g c = λ told. keeps_copied g.P.Plant.tells told c.args.shift (g.P.Plant.state c.args.plant.now) (g.P.Plant.state c.jobs_of.new.plant) (returns-in_err-tools-clause-works g c)

pub returns-in_err-tools-clause-moments : goal.returns-in_err-tools-clause-moments
returns-in_err-tools-clause-moments g c = λ told.
    let old = g.P.Plant.state c.args.plant.now in
    let one = g.P.Plant.state c.read_recoverable.new.plant in
    let two = g.P.Plant.state c.jobs_of.new.plant in
    unwritten_moments g.P.Plant.tells told old two (read_then g.P.Plant.tells old one two c.read_recoverable.ensures.reads c.jobs_of.ensures.works)

pub returns-in_err-tools-clause-unwritten : goal.returns-in_err-tools-clause-unwritten
returns-in_err-tools-clause-unwritten g c = λ e is early.
    read_then g.P.Plant.tells (g.P.Plant.state c.args.plant.now) (g.P.Plant.state c.read_recoverable.new.plant) (g.P.Plant.state c.jobs_of.new.plant) c.read_recoverable.ensures.reads c.jobs_of.ensures.works

pub returns-in_err-tools-clause-counts : goal.returns-in_err-tools-clause-counts
returns-in_err-tools-clause-counts g c = λ told.
    let old = g.P.Plant.state c.args.plant.now in
    let one = g.P.Plant.state c.read_recoverable.new.plant in
    let two = g.P.Plant.state c.jobs_of.new.plant in
    let means = c.in_ok-reading.reading.means in
    let counts = so_good old.faults one.faults c.in_ok-reading.reading c.in_ok-reading.ensures.fails in
    let works = read_then g.P.Plant.tells old one two c.read_recoverable.ensures.reads c.jobs_of.ensures.works in
    subst (λ (r : List PairRow). CountsPairs r c.args.shift old.faults two.faults) (sym (rows_meant g.P.Plant.tells old two works c.args.session means (λ told. (c.in_ok-reading.ensures.says told).0) told))
    (found_counts means.table.rows c.args.shift old.faults two.faults (targets_since means.table.rows c.args.shift old.faults one.faults two.faults counts c.jobs_of.ensures.counts))

-- ---- a journal failed in the redo

pub returns-in_err-faulty-clause-works : goal.returns-in_err-faulty-clause-works
returns-in_err-faulty-clause-works g c =
    let tells = g.P.Plant.tells in
    let old = g.P.Plant.state c.args.plant.now in
    let one = g.P.Plant.state c.read_recoverable.new.plant in
    let two = g.P.Plant.state c.jobs_of.new.plant in
    let three = g.P.Plant.state c.redo.new.plant in
    let means = c.in_ok-reading.reading.means in
    let says = λ (told : tells). (c.in_ok-reading.ensures.says told).0 in
    let jobs = c.in_ok-jobs.jobs.items in
    let counts = so_good old.faults one.faults c.in_ok-reading.reading c.in_ok-reading.ensures.fails in
    let are = are_since old one two means c.args.shift jobs c.read_recoverable.ensures.reads.only.site counts c.in_ok-jobs.ensures.jobs in
    let works = read_then tells old one two c.read_recoverable.ensures.reads c.jobs_of.ensures.works in
    let redo = redo_after tells (meant_rows old old.bytes) (walked old old.bytes) old two three works (redo_meant tells old two works c.args.session means says three c.redo.ensures.works) in
    works_more tells (Recovers (meant_rows old old.bytes) (walked old old.bytes)) (CopiesSite old c.args.shift) old three
    (λ told d x y p. redo_site tells old two three means c.args.shift jobs [] c.jobs_of.ensures.sound are (rows_meant tells old two works c.args.session means says) (same_means tells old two works c.args.session means says) told d x y p) redo

pub returns-in_err-faulty-clause-progress : goal.returns-in_err-faulty-clause-progress
returns-in_err-faulty-clause-progress g c = λ told. keeps_copied g.P.Plant.tells told c.args.shift (g.P.Plant.state c.args.plant.now) (g.P.Plant.state c.redo.new.plant) (returns-in_err-faulty-clause-works g c)

pub returns-in_err-faulty-clause-cause : goal.returns-in_err-faulty-clause-cause
returns-in_err-faulty-clause-cause g c =
    let old = g.P.Plant.state c.args.plant.now in
    let one = g.P.Plant.state c.read_recoverable.new.plant in
    let two = g.P.Plant.state c.jobs_of.new.plant in
    let three = g.P.Plant.state c.redo.new.plant in
    let rows = c.in_ok-reading.reading.means.table.rows in
    let e = c.in_err-faulty.field-0.0 in
    let p = err_from_is_err_and c.from_residual-in_err-faulty.result c.from_residual-in_err-faulty.ensures.1 in
    let is : c.from_residual-in_err-faulty.result ≡ Err (Recover e) = cc (p.1, p.2) in
    let counts = so_good old.faults one.faults c.in_ok-reading.reading c.in_ok-reading.ensures.fails in
    let since = targets_since rows c.args.shift old.faults one.faults two.faults counts c.jobs_of.ensures.counts in
    subst (λ (r : Result CopyOutcome CopyError). TellsFaults old.faults three.faults (λ d. IsErrOf r (Recover (Site (Fault d))))) (sym is)
    (tells_late {X = List ℕ} {Y = CopyOutcome} old.faults two.faults three.faults e since.later (stores_still rows c.args.shift old.faults two.faults since) c.in_err-faulty.ensures.fault)

pub returns-in_err-faulty-clause-moments : goal.returns-in_err-faulty-clause-moments
returns-in_err-faulty-clause-moments g c = λ told.
    let tells = g.P.Plant.tells in
    let old = g.P.Plant.state c.args.plant.now in
    let one = g.P.Plant.state c.read_recoverable.new.plant in
    let two = g.P.Plant.state c.jobs_of.new.plant in
    let three = g.P.Plant.state c.redo.new.plant in
    let means = c.in_ok-reading.reading.means in
    let says = λ (told : tells). (c.in_ok-reading.ensures.says told).0 in
    let jobs = c.in_ok-jobs.jobs.items in
    let counts = so_good old.faults one.faults c.in_ok-reading.reading c.in_ok-reading.ensures.fails in
    let are = are_since old one two means c.args.shift jobs c.read_recoverable.ensures.reads.only.site counts c.in_ok-jobs.ensures.jobs in
    let works = read_then tells old one two c.read_recoverable.ensures.reads c.jobs_of.ensures.works in
    let meant = rows_meant tells old two works c.args.session means says in
    let only = same_means tells old two works c.args.session means says in
    let redo = redo_after tells (meant_rows old old.bytes) (walked old old.bytes) one two three c.jobs_of.ensures.works (redo_meant tells old two works c.args.session means says three c.redo.ensures.works) in
    let from_one = works_more tells (Recovers (meant_rows old old.bytes) (walked old old.bytes)) (CopiesSite old c.args.shift) one three (λ told d x y p. redo_site tells old two three means c.args.shift jobs [] c.jobs_of.ensures.sound are meant only told d x y p) redo in
    sees_moments tells told c.args.shift old one three c.read_recoverable.ensures.reads (c.in_ok-reading.ensures.durable told) from_one (returns-in_err-faulty-clause-works g c)
    (λ d r row. rows_apart tells old two three means c.args.shift jobs [] c.jobs_of.ensures.sound are meant only told d r row)

pub returns-in_err-faulty-clause-lasts : goal.returns-in_err-faulty-clause-lasts
returns-in_err-faulty-clause-lasts g c = λ told.
    let e = c.in_err-faulty.field-0.0 in
    let p = err_from_is_err_and c.from_residual-in_err-faulty.result c.from_residual-in_err-faulty.ensures.1 in
    let is : c.from_residual-in_err-faulty.result ≡ Err (Recover e) = cc (p.1, p.2) in
    let tells = g.P.Plant.tells in
    let old = g.P.Plant.state c.args.plant.now in
    let one = g.P.Plant.state c.read_recoverable.new.plant in
    let two = g.P.Plant.state c.jobs_of.new.plant in
    let three = g.P.Plant.state c.redo.new.plant in
    let means = c.in_ok-reading.reading.means in
    let says = λ (told : tells). (c.in_ok-reading.ensures.says told).0 in
    let jobs = c.in_ok-jobs.jobs.items in
    let counts = so_good old.faults one.faults c.in_ok-reading.reading c.in_ok-reading.ensures.fails in
    let are = are_since old one two means c.args.shift jobs c.read_recoverable.ensures.reads.only.site counts c.in_ok-jobs.ensures.jobs in
    let works = read_then tells old one two c.read_recoverable.ensures.reads c.jobs_of.ensures.works in
    let meant = rows_meant tells old two works c.args.session means says in
    let only = same_means tells old two works c.args.session means says in
    let redo = redo_after tells (meant_rows old old.bytes) (walked old old.bytes) one two three c.jobs_of.ensures.works (redo_meant tells old two works c.args.session means says three c.redo.ensures.works) in
    let from_one = works_more tells (Recovers (meant_rows old old.bytes) (walked old old.bytes)) (CopiesSite old c.args.shift) one three (λ told d x y p. redo_site tells old two three means c.args.shift jobs [] c.jobs_of.ensures.sound are meant only told d x y p) redo in
    subst (λ (r : Result CopyOutcome CopyError). TellsCopyLasting tells old three r) (sym is)
    (lasting_late CopyOutcome tells old two three e (c.in_err-faulty.ensures.late told e refl) (end_means tells told c.args.shift old one three c.read_recoverable.ensures.reads (c.in_ok-reading.ensures.durable told) from_one))

pub returns-in_err-faulty-clause-counts : goal.returns-in_err-faulty-clause-counts
returns-in_err-faulty-clause-counts g c = λ told.
    let tells = g.P.Plant.tells in
    let old = g.P.Plant.state c.args.plant.now in
    let one = g.P.Plant.state c.read_recoverable.new.plant in
    let two = g.P.Plant.state c.jobs_of.new.plant in
    let three = g.P.Plant.state c.redo.new.plant in
    let means = c.in_ok-reading.reading.means in
    let says = λ (told : tells). (c.in_ok-reading.ensures.says told).0 in
    let jobs = c.in_ok-jobs.jobs.items in
    let counts = so_good old.faults one.faults c.in_ok-reading.reading c.in_ok-reading.ensures.fails in
    let are = are_since old one two means c.args.shift jobs c.read_recoverable.ensures.reads.only.site counts c.in_ok-jobs.ensures.jobs in
    let works = read_then tells old one two c.read_recoverable.ensures.reads c.jobs_of.ensures.works in
    let since = targets_since means.table.rows c.args.shift old.faults one.faults two.faults counts c.jobs_of.ensures.counts in
    subst (λ (r : List PairRow). CountsPairs r c.args.shift old.faults three.faults) (sym (rows_meant tells old two works c.args.session means says told))
    (redo_counts means.table.rows c.args.shift old.faults two.faults three.faults since (λ r pair. frees tells old two three means c.args.shift jobs [] c.jobs_of.ensures.sound are r pair) c.redo.ensures.once c.redo.ensures.spared)

pub returns-in_err-faulty-clause-ok : goal.returns-in_err-faulty-clause-ok
returns-in_err-faulty-clause-ok g c = λ told.
    let e = c.in_err-faulty.field-0.0 in
    let p = err_from_is_err_and c.from_residual-in_err-faulty.result c.from_residual-in_err-faulty.ensures.1 in
    let is : c.from_residual-in_err-faulty.result ≡ Err (Recover e) = cc (p.1, p.2) in
    let tells = g.P.Plant.tells in
    let old = g.P.Plant.state c.args.plant.now in
    let one = g.P.Plant.state c.read_recoverable.new.plant in
    let two = g.P.Plant.state c.jobs_of.new.plant in
    let three = g.P.Plant.state c.redo.new.plant in
    let works = read_then tells old one two c.read_recoverable.ensures.reads c.jobs_of.ensures.works in
    let late = c.in_err-faulty.ensures.late told e refl in
    subst (λ (r : Result CopyOutcome CopyError). IsCopyCalledFor old three c.args.session c.args.shift r) (sym is)
    (subst (λ (k : RecoverError). let r : Result CopyOutcome RecoverError = Err k in IsGoodOrCalledFor old c.args.session (λ o. IsRecoverable old c.args.session o.means) r) (sym late.1)
    ((c.in_ok-reading.ensures.says told).0.meant.of, seen_reached old two (seen_still tells old two works told) (Journal late.0) late.2))

pub returns-in_err-faulty-clause-unwritten : goal.returns-in_err-faulty-clause-unwritten
returns-in_err-faulty-clause-unwritten g c = λ e is early.
    let tells = g.P.Plant.tells in
    let old = g.P.Plant.state c.args.plant.now in
    let two = g.P.Plant.state c.jobs_of.new.plant in
    let three = g.P.Plant.state c.redo.new.plant in
    let k = c.in_err-faulty.field-0.0 in
    let same : e ≡ Recover k = search rules in
    no_writes tells (CopiesSite old c.args.shift) old three
    (λ told. subst (λ (x : CopyError). IsEarlyCopy x) same early (ends_late two k (c.in_err-faulty.ensures.late told k refl)))
    (returns-in_err-faulty-clause-works g c)

-- ---- done

pub copy_jobs-done-requires-clause-ready : goal.copy_jobs-done-requires-clause-ready
copy_jobs-done-requires-clause-ready g c κs within =
    let tells = g.P.Plant.tells in
    let old = g.P.Plant.state c.args.plant.now in
    let one = g.P.Plant.state c.read_recoverable.new.plant in
    let two = g.P.Plant.state c.jobs_of.new.plant in
    let three = g.P.Plant.state c.redo.new.plant in
    let means = c.in_ok-reading.reading.means in
    let jobs = c.as_slice.result.now in
    let counts = so_good old.faults one.faults c.in_ok-reading.reading c.in_ok-reading.ensures.fails in
    let are = subst (λ (l : List CopyJob). AreJobs means c.args.shift old two l) (sym c.as_slice.ensures.value) (are_since old one two means c.args.shift c.in_ok-jobs.jobs.items c.read_recoverable.ensures.reads.only.site counts c.in_ok-jobs.ensures.jobs) in
    let works = read_then tells old one two c.read_recoverable.ensures.reads c.jobs_of.ensures.works in
    ready_then tells _ jobs two three c.redo.ensures.works
    (ready_then tells _ jobs old two works (jobs_ready tells old two three means c.args.shift jobs [] c.jobs_of.ensures.sound are c.requires.home c.in_ok-reading.ensures.below c.in_ok-reading.ensures.long))

pub returns-clause-works : goal.returns-clause-works
returns-clause-works g c =
    let tells = g.P.Plant.tells in
    let old = g.P.Plant.state c.args.plant.now in
    let one = g.P.Plant.state c.read_recoverable.new.plant in
    let two = g.P.Plant.state c.jobs_of.new.plant in
    let three = g.P.Plant.state c.redo.new.plant in
    let new = g.P.Plant.state c.copy_jobs-done.new.plant in
    let means = c.in_ok-reading.reading.means in
    let says = λ (told : tells). (c.in_ok-reading.ensures.says told).0 in
    let jobs = c.as_slice.result.now in
    let faulty = c.in_ok-faulty.faulty in
    let counts = so_good old.faults one.faults c.in_ok-reading.reading c.in_ok-reading.ensures.fails in
    let are = subst (λ (l : List CopyJob). AreJobs means c.args.shift old two l) (sym c.as_slice.ensures.value) (are_since old one two means c.args.shift c.in_ok-jobs.jobs.items c.read_recoverable.ensures.reads.only.site counts c.in_ok-jobs.ensures.jobs) in
    let works = read_then tells old one two c.read_recoverable.ensures.reads c.jobs_of.ensures.works in
    let redo = redo_after tells (meant_rows old old.bytes) (walked old old.bytes) old two three works (redo_meant tells old two works c.args.session means says three c.redo.ensures.works) in
    let long : tells → (r : PairRow) → IsPair means.table.rows r → volume_need r.cylinders ≤ length (old.bytes (Volume r.device)) = λ told r pair.
    long_pair old means.table.rows c.in_ok-reading.ensures.long r pair (g.met.P.Plant.length_told c.args.plant.now (Volume r.device) told (pair_there old means.table.rows c.requires.home c.in_ok-reading.ensures.below r pair)) in
    let found = λ (told : tells). subst (λ (l : List CopyJob). AreFound means c.args.shift old l) (sym c.as_slice.ensures.value) (found_since old one means c.args.shift c.in_ok-jobs.jobs.items c.read_recoverable.ensures.reads.only.site (λ d. (works_reads tells old one c.read_recoverable.ensures.reads).bytes told d) (c.in_ok-jobs.ensures.found told)) in
    site_works tells old two three means c.args.shift jobs faulty c.jobs_of.ensures.sound are (rows_meant tells old two works c.args.session means says) (same_means tells old two works c.args.session means says)
    (λ told r pair fit. content_since tells told old two three works AsItIs means.table.rows faulty (c.in_ok-faulty.ensures.redone told) r pair fit (long told r pair)) found old new redo c.copy_jobs-done.ensures.works

pub returns-clause-progress : goal.returns-clause-progress
returns-clause-progress g c = λ told. keeps_copied g.P.Plant.tells told c.args.shift (g.P.Plant.state c.args.plant.now) (g.P.Plant.state c.copy_jobs-done.new.plant) (returns-clause-works g c)

pub returns-clause-ok : goal.returns-clause-ok
returns-clause-ok g c = λ told.
    let tells = g.P.Plant.tells in
    let old = g.P.Plant.state c.args.plant.now in
    let one = g.P.Plant.state c.read_recoverable.new.plant in
    let two = g.P.Plant.state c.jobs_of.new.plant in
    let new = g.P.Plant.state c.copy_jobs-done.new.plant in
    let means = c.in_ok-reading.reading.means in
    let rows = means.table.rows in
    let shift = c.args.shift in
    let says = λ (told : tells). (c.in_ok-reading.ensures.says told).0 in
    let counts = so_good old.faults one.faults c.in_ok-reading.reading c.in_ok-reading.ensures.fails in (
      says told,
      none_since tells old one two new rows shift (works_reads tells old one c.read_recoverable.ensures.reads) counts (λ d. omega (arith, c.redo.ensures.works.faults d, c.copy_jobs-done.ensures.works.faults d)) told (c.in_ok-jobs.ensures.none told),
    )

pub returns-clause-failed : goal.returns-clause-failed
returns-clause-failed g c =
    let tells = g.P.Plant.tells in
    let old = g.P.Plant.state c.args.plant.now in
    let one = g.P.Plant.state c.read_recoverable.new.plant in
    let two = g.P.Plant.state c.jobs_of.new.plant in
    let three = g.P.Plant.state c.redo.new.plant in
    let new = g.P.Plant.state c.copy_jobs-done.new.plant in
    let means = c.in_ok-reading.reading.means in
    let rows = means.table.rows in
    let shift = c.args.shift in
    let jobs = c.as_slice.result.now in
    let faulty = c.in_ok-faulty.faulty in
    let copied = c.copy_jobs-done.result in
    let counts = so_good old.faults one.faults c.in_ok-reading.reading c.in_ok-reading.ensures.fails in
    let sound = c.jobs_of.ensures.sound in
    let are = subst (λ (l : List CopyJob). AreJobs means shift old two l) (sym c.as_slice.ensures.value) (are_since old one two means shift c.in_ok-jobs.jobs.items c.read_recoverable.ensures.reads.only.site counts c.in_ok-jobs.ensures.jobs) in
    let since = targets_since rows shift old.faults one.faults two.faults counts c.jobs_of.ensures.counts in
    let ends = c.copy_jobs-done.ensures.ends in
    record {
      listed = c.others_of-failed.ensures;
      of_pairs = λ v is. let o = ends.of_jobs v is in subst (λ (n : ℕ). HasDuplex rows n) o.3 (job_source tells old two three new means shift jobs faulty copied sound are since c.in_ok-faulty.ensures.failed ends o.0 o.1 o.2);
      counted = λ r pair. pair_counts tells old two three new means shift jobs faulty copied sound are since c.in_ok-faulty.ensures.failed ends r pair;
    }

pub returns-clause-counts : goal.returns-clause-counts
returns-clause-counts g c = λ told.
    let tells = g.P.Plant.tells in
    let old = g.P.Plant.state c.args.plant.now in
    let one = g.P.Plant.state c.read_recoverable.new.plant in
    let two = g.P.Plant.state c.jobs_of.new.plant in
    let three = g.P.Plant.state c.redo.new.plant in
    let new = g.P.Plant.state c.copy_jobs-done.new.plant in
    let means = c.in_ok-reading.reading.means in
    let rows = means.table.rows in
    let shift = c.args.shift in
    let says = λ (told : tells). (c.in_ok-reading.ensures.says told).0 in
    let jobs = c.as_slice.result.now in
    let faulty = c.in_ok-faulty.faulty in
    let copied = c.copy_jobs-done.result in
    let counts = so_good old.faults one.faults c.in_ok-reading.reading c.in_ok-reading.ensures.fails in
    let sound = c.jobs_of.ensures.sound in
    let are = subst (λ (l : List CopyJob). AreJobs means shift old two l) (sym c.as_slice.ensures.value) (are_since old one two means shift c.in_ok-jobs.jobs.items c.read_recoverable.ensures.reads.only.site counts c.in_ok-jobs.ensures.jobs) in
    let works = read_then tells old one two c.read_recoverable.ensures.reads c.jobs_of.ensures.works in
    let meant = rows_meant tells old two works c.args.session means says in
    let since = targets_since rows shift old.faults one.faults two.faults counts c.jobs_of.ensures.counts in
    let ends = c.copy_jobs-done.ensures.ends in
    subst (λ (r : List PairRow). CountsPairs r shift old.faults new.faults) (sym (meant told)) (all_counts tells old two three new means shift jobs faulty copied sound are since c.in_ok-faulty.ensures.failed ends)

pub returns-clause-copied : goal.returns-clause-copied
returns-clause-copied g c = λ told.
    let tells = g.P.Plant.tells in
    let old = g.P.Plant.state c.args.plant.now in
    let one = g.P.Plant.state c.read_recoverable.new.plant in
    let two = g.P.Plant.state c.jobs_of.new.plant in
    let three = g.P.Plant.state c.redo.new.plant in
    let new = g.P.Plant.state c.copy_jobs-done.new.plant in
    let means = c.in_ok-reading.reading.means in
    let rows = means.table.rows in
    let shift = c.args.shift in
    let jobs = c.as_slice.result.now in
    let faulty = c.in_ok-faulty.faulty in
    let copied = c.copy_jobs-done.result in
    let counts = so_good old.faults one.faults c.in_ok-reading.reading c.in_ok-reading.ensures.fails in
    let sound = c.jobs_of.ensures.sound in
    let are = subst (λ (l : List CopyJob). AreJobs means shift old two l) (sym c.as_slice.ensures.value) (are_since old one two means shift c.in_ok-jobs.jobs.items c.read_recoverable.ensures.reads.only.site counts c.in_ok-jobs.ensures.jobs) in
    let works = read_then tells old one two c.read_recoverable.ensures.reads c.jobs_of.ensures.works in
    let since = targets_since rows shift old.faults one.faults two.faults counts c.jobs_of.ensures.counts in
    let ends = c.copy_jobs-done.ensures.ends in
    let moves = c.copy_jobs-done.ensures.works in
    let redone = λ (r : PairRow) (pair : IsPair rows r) (fit : is_among r.device faulty ≡ false).
    let row = duplex_row r.device rows (pair_duplex tells old two three means shift jobs faulty sound are r pair) in
    let v = Volume r.device in
    let stays = λ (b z : List ℕ) (step : CopiesJobs faulty jobs (λ e. slot_track (three.bytes (Volume e))) v b z). row_step tells old two three means shift jobs faulty sound are (λ e. slot_track (three.bytes (Volume e))) (λ p is_pair fit x below. refl) r.device b z step row in
    redone_still tells told AsItIs r (walked old old.bytes) old three new (stays (three.bytes v) (new.bytes v) (moves.bytes told v))
    (λ z left. let start = moves.moments told v new.clock ((moves.elapses told).kept v).later (omega arith) z left in (start.0, start.1, stays start.0 z start.2))
    (redone_since tells told old two three works AsItIs rows faulty (c.in_ok-faulty.ensures.redone told) r pair fit) in
    record {
      copied = λ r pair is.
          let job = copied_job tells old two three new means shift jobs faulty copied sound are since c.in_ok-faulty.ensures.failed ends r pair is in
          let done = ends.are_done told job.0 (job_of means shift r) job.1 is in
          (record { all_done = done.all_done; durable = done.durable }, redone r pair job.2);
      redone = λ r pair. elim (cases_Bool (is_among r.device faulty)) [
        | inl bad ↦ inr (source_rose tells old two three new means shift jobs faulty copied sound are since c.in_ok-faulty.ensures.failed ends r pair bad)
        | inr fit ↦ inl (redone r pair fit)
      ];
    }

pub returns-clause-moments : goal.returns-clause-moments
returns-clause-moments g c = λ told.
    let tells = g.P.Plant.tells in
    let old = g.P.Plant.state c.args.plant.now in
    let one = g.P.Plant.state c.read_recoverable.new.plant in
    let two = g.P.Plant.state c.jobs_of.new.plant in
    let three = g.P.Plant.state c.redo.new.plant in
    let new = g.P.Plant.state c.copy_jobs-done.new.plant in
    let means = c.in_ok-reading.reading.means in
    let rows = means.table.rows in
    let shift = c.args.shift in
    let says = λ (told : tells). (c.in_ok-reading.ensures.says told).0 in
    let jobs = c.as_slice.result.now in
    let faulty = c.in_ok-faulty.faulty in
    let counts = so_good old.faults one.faults c.in_ok-reading.reading c.in_ok-reading.ensures.fails in
    let sound = c.jobs_of.ensures.sound in
    let are = subst (λ (l : List CopyJob). AreJobs means shift old two l) (sym c.as_slice.ensures.value) (are_since old one two means shift c.in_ok-jobs.jobs.items c.read_recoverable.ensures.reads.only.site counts c.in_ok-jobs.ensures.jobs) in
    let works = read_then tells old one two c.read_recoverable.ensures.reads c.jobs_of.ensures.works in
    let meant = rows_meant tells old two works c.args.session means says in
    let only = same_means tells old two works c.args.session means says in
    let long : tells → (r : PairRow) → IsPair rows r → volume_need r.cylinders ≤ length (old.bytes (Volume r.device)) = λ told r pair.
    long_pair old rows c.in_ok-reading.ensures.long r pair (g.met.P.Plant.length_told c.args.plant.now (Volume r.device) told (pair_there old rows c.requires.home c.in_ok-reading.ensures.below r pair)) in
    let content = λ (told : tells) (r : PairRow) (pair : IsPair rows r) (fit : is_among r.device faulty ≡ false). content_since tells told old two three works AsItIs rows faulty (c.in_ok-faulty.ensures.redone told) r pair fit (long told r pair) in
    let found = λ (told : tells). subst (λ (l : List CopyJob). AreFound means shift old l) (sym c.as_slice.ensures.value) (found_since old one means shift c.in_ok-jobs.jobs.items c.read_recoverable.ensures.reads.only.site (λ d. (works_reads tells old one c.read_recoverable.ensures.reads).bytes told d) (c.in_ok-jobs.ensures.found told)) in
    let redo = redo_after tells (meant_rows old old.bytes) (walked old old.bytes) one two three c.jobs_of.ensures.works (redo_meant tells old two works c.args.session means says three c.redo.ensures.works) in
    let from_one = site_works tells old two three means shift jobs faulty sound are meant only content found one new redo c.copy_jobs-done.ensures.works in
    sees_moments tells told shift old one new c.read_recoverable.ensures.reads (c.in_ok-reading.ensures.durable told) from_one (returns-clause-works g c) (λ d r row. rows_apart tells old two three means shift jobs faulty sound are meant only told d r row)

pub returns-clause-lasts : goal.returns-clause-lasts
returns-clause-lasts g c = λ told.
    let tells = g.P.Plant.tells in
    let old = g.P.Plant.state c.args.plant.now in
    let one = g.P.Plant.state c.read_recoverable.new.plant in
    let two = g.P.Plant.state c.jobs_of.new.plant in
    let three = g.P.Plant.state c.redo.new.plant in
    let new = g.P.Plant.state c.copy_jobs-done.new.plant in
    let means = c.in_ok-reading.reading.means in
    let rows = means.table.rows in
    let shift = c.args.shift in
    let says = λ (told : tells). (c.in_ok-reading.ensures.says told).0 in
    let jobs = c.as_slice.result.now in
    let faulty = c.in_ok-faulty.faulty in
    let counts = so_good old.faults one.faults c.in_ok-reading.reading c.in_ok-reading.ensures.fails in
    let sound = c.jobs_of.ensures.sound in
    let are = subst (λ (l : List CopyJob). AreJobs means shift old two l) (sym c.as_slice.ensures.value) (are_since old one two means shift c.in_ok-jobs.jobs.items c.read_recoverable.ensures.reads.only.site counts c.in_ok-jobs.ensures.jobs) in
    let works = read_then tells old one two c.read_recoverable.ensures.reads c.jobs_of.ensures.works in
    let meant = rows_meant tells old two works c.args.session means says in
    let only = same_means tells old two works c.args.session means says in
    let long : tells → (r : PairRow) → IsPair rows r → volume_need r.cylinders ≤ length (old.bytes (Volume r.device)) = λ told r pair.
    long_pair old rows c.in_ok-reading.ensures.long r pair (g.met.P.Plant.length_told c.args.plant.now (Volume r.device) told (pair_there old rows c.requires.home c.in_ok-reading.ensures.below r pair)) in
    let content = λ (told : tells) (r : PairRow) (pair : IsPair rows r) (fit : is_among r.device faulty ≡ false). content_since tells told old two three works AsItIs rows faulty (c.in_ok-faulty.ensures.redone told) r pair fit (long told r pair) in
    let found = λ (told : tells). subst (λ (l : List CopyJob). AreFound means shift old l) (sym c.as_slice.ensures.value) (found_since old one means shift c.in_ok-jobs.jobs.items c.read_recoverable.ensures.reads.only.site (λ d. (works_reads tells old one c.read_recoverable.ensures.reads).bytes told d) (c.in_ok-jobs.ensures.found told)) in
    let redo = redo_after tells (meant_rows old old.bytes) (walked old old.bytes) one two three c.jobs_of.ensures.works (redo_meant tells old two works c.args.session means says three c.redo.ensures.works) in
    let from_one = site_works tells old two three means shift jobs faulty sound are meant only content found one new redo c.copy_jobs-done.ensures.works in
    end_means tells told shift old one new c.read_recoverable.ensures.reads (c.in_ok-reading.ensures.durable told) from_one

pub returns-clause-cause : goal.returns-clause-cause
returns-clause-cause g c =
    let old = g.P.Plant.state c.args.plant.now in
    let one = g.P.Plant.state c.read_recoverable.new.plant in
    let two = g.P.Plant.state c.jobs_of.new.plant in
    let new = g.P.Plant.state c.copy_jobs-done.new.plant in
    let rows = c.in_ok-reading.reading.means.table.rows in
    let counts = so_good old.faults one.faults c.in_ok-reading.reading c.in_ok-reading.ensures.fails in
    let ends = c.copy_jobs-done.ensures.ends in
    tells_nothing old.faults new.faults _ (λ d told. absurd cc) (λ d store.
    ends.spared d (λ k j at. (store_apart d store j.source, store_apart d store j.target)) ∙ c.in_ok-faulty.ensures.fault.others d store (λ is. cc) ∙ stores_still rows c.args.shift one.faults two.faults c.jobs_of.ensures.counts d store ∙ counts d)

-- ---- labels

pub returns-in_err-reading-clause-labels : goal.returns-in_err-reading-clause-labels
returns-in_err-reading-clause-labels g c = λ told.
    let old = g.P.Plant.state c.args.plant.now in
    let one = g.P.Plant.state c.read_recoverable.new.plant in
    keeps_nothing g.P.Plant.tells told old one (works_reads g.P.Plant.tells old one c.read_recoverable.ensures.reads)

pub returns-in_err-room-clause-labels : goal.returns-in_err-room-clause-labels
returns-in_err-room-clause-labels g c = λ told.
    let old = g.P.Plant.state c.args.plant.now in
    let one = g.P.Plant.state c.read_recoverable.new.plant in
    keeps_nothing g.P.Plant.tells told old one (works_reads g.P.Plant.tells old one c.read_recoverable.ensures.reads)

pub returns-in_err-jobs-clause-labels : goal.returns-in_err-jobs-clause-labels
returns-in_err-jobs-clause-labels g c = λ told.
    let old = g.P.Plant.state c.args.plant.now in
    let one = g.P.Plant.state c.read_recoverable.new.plant in
    let two = g.P.Plant.state c.jobs_of.new.plant in
    keeps_nothing g.P.Plant.tells told old two (read_then g.P.Plant.tells old one two c.read_recoverable.ensures.reads c.jobs_of.ensures.works)

pub returns-in_err-tools-clause-labels : goal.returns-in_err-tools-clause-labels
returns-in_err-tools-clause-labels g c = λ told.
    let old = g.P.Plant.state c.args.plant.now in
    let one = g.P.Plant.state c.read_recoverable.new.plant in
    let two = g.P.Plant.state c.jobs_of.new.plant in
    keeps_nothing g.P.Plant.tells told old two (read_then g.P.Plant.tells old one two c.read_recoverable.ensures.reads c.jobs_of.ensures.works)

pub returns-in_err-faulty-clause-labels : goal.returns-in_err-faulty-clause-labels
returns-in_err-faulty-clause-labels g c = λ told.
    let tells = g.P.Plant.tells in
    let old = g.P.Plant.state c.args.plant.now in
    let one = g.P.Plant.state c.read_recoverable.new.plant in
    let two = g.P.Plant.state c.jobs_of.new.plant in
    let three = g.P.Plant.state c.redo.new.plant in
    let works = read_then tells old one two c.read_recoverable.ensures.reads c.jobs_of.ensures.works in
    keeps_both tells told _ _ old two three works c.redo.ensures.works (keeps_nothing tells told old two works) (c.redo.ensures.treats told)

pub returns-clause-labels : goal.returns-clause-labels
returns-clause-labels g c = λ told.
    let tells = g.P.Plant.tells in
    let old = g.P.Plant.state c.args.plant.now in
    let one = g.P.Plant.state c.read_recoverable.new.plant in
    let two = g.P.Plant.state c.jobs_of.new.plant in
    let three = g.P.Plant.state c.redo.new.plant in
    let new = g.P.Plant.state c.copy_jobs-done.new.plant in
    let works = read_then tells old one two c.read_recoverable.ensures.reads c.jobs_of.ensures.works in
    let copies = c.copy_jobs-done.ensures.works in
    let redone = keeps_both tells told _ _ old two three works c.redo.ensures.works (keeps_nothing tells told old two works) (c.redo.ensures.treats told) in
    λ v. keeps_then (on old (Volume v)) (on three (Volume v)) (on new (Volume v)) (omega (arith, ((works.elapses told).kept (Volume v)).later, ((c.redo.ensures.works.elapses told).kept (Volume v)).later)) (redone v) ((copies.elapses told).kept (Volume v))
    (keeps_jobs tells told c.in_ok-faulty.faulty c.as_slice.result.now (λ d. slot_track (three.bytes (Volume d))) three new copies v)
