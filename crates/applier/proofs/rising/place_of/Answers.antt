use Rattle.std.proofs.Common.{ltb, rules}
use Rattle.std.proofs.lemmas.List.Sorted.{IsPartitionPoint-from_clause}
use Rattle.xrc_journal.specs.declared.job.VolumeJob.{VolumeJob}
use Rattle.applier.proofs.Places.{none_of, parted_below}
use Rattle.applier.proofs.rising.place_of.Goals as goal

pub returns-else-is_at-2-clause-none : goal.returns-else-is_at-2-clause-none
returns-else-is_at-2-clause-none g c none =
    let point = IsPartitionPoint-from_clause (λ (job : VolumeJob _). ltb job.device c.args.device) c.args.jobs.now c.partition_point-place.result c.partition_point-place.ensures.partitioned (parted_below c.args.jobs.now c.args.device c.requires) (λ a r q k. search rules) in
    none_of c.args.jobs.now c.args.device c.partition_point-place.result c.requires point (c.is_at-2.ensures.other c.if-is_at-2.false)
