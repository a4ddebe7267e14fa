use Rattle.std.proofs.Common.{◌≡◌, ◌∙◌, List, take, ap, arith}
use Rattle.std.specs.List.{flat_map}
use Rattle.ckd_track.specs.declared.rec.Rec.{Rec}
use Rattle.crash_plant.specs.PlainPlant.{plain_state}
use Rattle.workload.specs.declared.tally.Tally.{Tally}
use Rattle.workload.specs.Tallies.{no_tally, with_records}
use Rattle.site_means.specs.Images.{Images}
use Rattle.workload.specs.Summaries.{pair_records}
use Rattle.workload.proofs.Counting.{counted_then, row_at, rows_more}
use Rattle.workload.proofs.Holding.{have_still}
use Rattle.workload.proofs.Leaving.{leaves_then}
use Rattle.workload.proofs.tracks.tally_duplex.Goals as goal

pub add_at-requires-clause-site : goal.add_at-requires-clause-site
add_at-requires-clause-site c = have_still (plain_state c.args.plant.now) (plain_state c.loop-place.plant) c.loop-place.invariant.leaves c.args.table.now.rows c.requires.site

pub returns-in_err-tally-clause-leaves : goal.returns-in_err-tally-clause-leaves
returns-in_err-tally-clause-leaves c = leaves_then (plain_state c.args.plant.now) (plain_state c.loop-place.plant) (plain_state c.add_at.new.plant) c.loop-place.invariant.leaves c.add_at.ensures.leaves

pub loop-place-preserved : goal.loop-place-preserved
loop-place-preserved c =
    let rows = c.args.table.now.rows in
    let i = c.loop-place.place in
    let row = row_at rows i (omega (arith, c.len-place-end.ensures.count, c.loop-place-test.true)) in
    let images = (plain_state c.args.plant.now).bytes in
    let now = (plain_state c.loop-place.plant).bytes in
    let same : now ≡ images = λ j d. c.loop-place.invariant.leaves.devices.bytes d j in
    let so_far = flat_map (pair_records images) (take i rows) in
    record {
      counts = c.in_ok-tally.ensures.counts row.0 row.1 ∙ ap (λ (b : Images). with_records c.loop-place.tally (pair_records b row.0)) same
          ∙ ap (λ (t : Tally). with_records t (pair_records images row.0)) c.loop-place.invariant.counts ∙ counted_then no_tally so_far (pair_records images row.0)
          ∙ ap (λ (l : List Rec). with_records no_tally l) (rows_more (pair_records images) rows i row.0 row.2);
      grows = record {
        records = omega (arith, c.loop-place.invariant.grows.records, c.in_ok-tally.ensures.grows.records);
        sum = omega (arith, c.loop-place.invariant.grows.sum, c.in_ok-tally.ensures.grows.sum);
      };
      leaves = leaves_then (plain_state c.args.plant.now) (plain_state c.loop-place.plant) (plain_state c.add_at.new.plant) c.loop-place.invariant.leaves c.add_at.ensures.leaves;
    }
