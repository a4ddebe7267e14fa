use Rattle.std.proofs.Common.{◌≡◌, ◌∙◌, ℕ, List, IfOk, IsTrue, subst}
use Rattle.std.specs.List.{All}
use Rattle.crash_plant.specs.PlainPlant.{plain_state}
use Rattle.pair_table.specs.declared.row.PairRow.{PairRow}
use Rattle.site_means.specs.declared.means.Means.{Means}
use Rattle.site_means.specs.Meaning.{meaning}
use Rattle.workload.specs.Summaries.{HasTracks, is_duplex_pair}
use Rattle.workload.proofs.Holding.{have_still, same_means}
use Rattle.workload.proofs.Leaving.{leaves_then}
use Rattle.workload.proofs.SummedUp.{line_is}
use Rattle.workload.proofs.summing.summary.Goals as goal

pub tally_duplex-requires : goal.tally_duplex-requires
tally_duplex-requires c =
    let old = plain_state c.args.plant.now in
    let same = same_means (meaning old old.bytes) c.requires.means c.in_ok-means.means c.requires.meant c.in_ok-means.ensures.means in
    record {
      site = have_still old (plain_state c.means_of.new.plant) c.means_of.ensures.leaves c.in_ok-means.means.table.rows (record {
        home = c.requires.home;
        below = c.in_ok-means.ensures.below;
        each = subst (λ (m : Means). All (λ (row : PairRow). IsTrue (is_duplex_pair row) → HasTracks old row) m.table.rows) same c.requires.each;
      });
    }

pub returns-in_err-tally-clause-leaves : goal.returns-in_err-tally-clause-leaves
returns-in_err-tally-clause-leaves c = leaves_then (plain_state c.args.plant.now) (plain_state c.means_of.new.plant) (plain_state c.tally_duplex.new.plant) c.means_of.ensures.leaves c.tally_duplex.ensures.leaves

pub returns-clause-line : goal.returns-clause-line
returns-clause-line c = λ means meant.
    let old = plain_state c.args.plant.now in
    let same = same_means (meaning old old.bytes) c.in_ok-means.means means c.in_ok-means.ensures.means meant in
    subst (λ (t : List ℕ). IfOk c.line.result (λ (line : List ℕ). line ≡ t))
    (line_is c.args.number c.from.result c.count_duplex.result c.in_ok-tally.tally old.bytes (plain_state c.means_of.new.plant).bytes c.in_ok-means.means means c.means_of.ensures.leaves.devices.bytes same
    (c.from.ensures ∙ c.len.ensures.count) c.count_duplex.ensures c.in_ok-tally.ensures.counts)
    c.line.ensures

pub returns-clause-leaves : goal.returns-clause-leaves
returns-clause-leaves c = leaves_then (plain_state c.args.plant.now) (plain_state c.means_of.new.plant) (plain_state c.tally_duplex.new.plant) c.means_of.ensures.leaves c.tally_duplex.ensures.leaves
