-- The line of what was counted.
use Rattle.std.proofs.Common.{◌≡◌, ℕ, List, length, ap, ◌∙◌, arith}
use Rattle.std.specs.Prelude.{count_by, sum_by}
use Rattle.crash_plant.specs.declared.device.Device.{Device}
use Rattle.ckd_track.specs.declared.rec.Rec.{Rec}
use Rattle.site_means.specs.declared.means.Means.{Means}
use Rattle.site_means.specs.Images.{Images}
use Rattle.workload.specs.declared.tally.Tally.{Tally}
use Rattle.workload.specs.Tallies.{content_sum, no_tally, with_records}
use Rattle.workload.specs.Summaries.{counts_line, duplex_records, is_duplex_pair, summary_line}

pub line_is : (number pairs duplex : ℕ) (tally : Tally) (images now : Images) (means other : Means) → ((d : Device) → now d ≡ images d) → means ≡ other
    → pairs ≡ length means.table.rows → duplex ≡ count_by is_duplex_pair means.table.rows → tally ≡ with_records no_tally (duplex_records now means.table.rows)
    → counts_line number pairs duplex tally.records tally.sum means.time.0 ≡ summary_line number images other
line_is number pairs duplex tally images now means other same is pairs_are duplex_are counts =
    let rows = means.table.rows in
    let all : now ≡ images = λ j d. same d j in
    let recs : duplex_records now rows ≡ duplex_records images rows = ap (λ (b : Images). duplex_records b rows) all in
    let records : tally.records ≡ length (duplex_records images rows) = omega (arith, ap (λ (t : Tally). t.records) counts, ap (λ (l : List Rec). length l) recs) in
    let sum : tally.sum ≡ sum_by content_sum (duplex_records images rows) = omega (arith, ap (λ (t : Tally). t.sum) counts, ap (λ (l : List Rec). sum_by content_sum l) recs) in
    (λ j. counts_line number (pairs_are j) (duplex_are j) (records j) (sum j) means.time.0) ∙ ap (λ (m : Means). summary_line number images m) is
