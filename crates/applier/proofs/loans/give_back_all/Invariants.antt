use Rattle.std.proofs.Common.{◌≡◌, ◌++◌, List, map, take, drop}
use Rattle.xrc_journal.specs.declared.job.VolumeJob.{VolumeJob}
use Rattle.applier.specs.Disks.{without_disk}
use Rattle.applier.specs.Loans.{AreOut}
use Rattle.applier.proofs.Giving.{AreHalfBack}
use Rattle.applier.proofs.loans.give_back_all.Given as goal

abbrev pub invariant-loop-job : goal.invariant-loop-job
invariant-loop-job g l =
    let tells = g.P.Plant.tells in
    let own = g.P.Volume.Disk.tells in
    let disk = g.P.Volume.Disk.state in
    let state = g.P.Plant.state in
    let given = l.initial.jobs in
    record {
      jobs : l.jobs ≡ map without_disk (take l.job-index given) ++ drop l.job-index given;
      back : (start : g.row.P.Denot) (lent : List (VolumeJob g.row.P-Volume.Denot)) → AreOut tells own disk (state start) (state l.initial.plant) lent given → AreHalfBack tells own disk l.job-index (state start) (state l.plant) lent given;
    }
