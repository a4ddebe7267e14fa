-- A plant that was examined may be summed up.
use Rattle.std.proofs.Common.{◌≡◌, ◌∙◌, None, arith}
use Rattle.std.specs.List.{All}
use Rattle.crash_plant.specs.Calls.{NoneLent}
use Rattle.crash_plant.specs.Moments.{PlantState}
use Rattle.site_means.specs.declared.means.Means.{Means}
use Rattle.site_means.specs.Answers.{Mean, ReadsAll, first_short}
use Rattle.site_means.specs.Meaning.{meaning}
use Rattle.site_means.proofs.Meanings.{same_seen, seen_meaning}
use Rattle.workload.specs.Summaries.{HasTracks, MayBeSummedUp}

pub may_be : (old new : PlantState) (means : Means) → NoneLent old → ReadsAll (Unit {0}) old new → Mean (meaning old old.bytes) means → first_short new ≡ None → All (HasTracks new) means.table.rows → MayBeSummedUp new
may_be old new means home reads meant long all = record {
  home = λ v lt. (reads.only.loans v).is_lent ∙ home v (omega (arith, lt, reads.only.site.volumes));
  long = long;
  means = means;
  meant = (meant.0, seen_meaning old new (same_seen (Unit {0}) old new reads tt) ∙ meant.1);
  each = λ k d lt duplex. all k d lt;
}
