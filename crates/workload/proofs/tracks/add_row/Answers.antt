use Rattle.std.proofs.Common.{◌≡◌, ◌*◌, ◌++◌, ◌∙◌, ℕ, List, ap, subst, arith}
use Rattle.std.specs.List.{flat_map, range_with_len}
use Rattle.ckd_track.specs.declared.rec.Rec.{Rec}
use Rattle.crash_plant.specs.declared.device.Device.TheVariants.{Volume}
use Rattle.crash_plant.specs.PlainPlant.{plain_state}
use Rattle.workload.specs.declared.tally.Tally.{Tally}
use Rattle.workload.specs.Tallies.{HasGrown, with_records}
use Rattle.workload.specs.Summaries.{slot_records}
use Rattle.workload.proofs.Counting.{counted_then, none_counted, tracks_more}
use Rattle.workload.proofs.Holding.{there_still}
use Rattle.workload.proofs.Leaving.{leaves_here, leaves_then}
use Rattle.workload.proofs.tracks.add_row.Goals as goal

pub loop-number-init : goal.loop-number-init
loop-number-init c = record {
  counts = none_counted c.args.counted;
  grows = record { records = omega arith; sum = omega arith };
  leaves = leaves_here (plain_state c.args.plant.now);
}

pub read_track-requires-clause-there : goal.read_track-requires-clause-there
read_track-requires-clause-there c = there_still (plain_state c.args.plant.now) (plain_state c.loop-number.plant) c.loop-number.invariant.leaves c.args.row.now.device c.requires.there

pub read_track-requires-clause-room : goal.read_track-requires-clause-room
read_track-requires-clause-room c = omega (arith, c.requires.long, c.loop-number.invariant.leaves.devices.site.lengths (Volume c.args.row.now.device), c.loop-number-test.true)

pub returns-in_err-track-clause-leaves : goal.returns-in_err-track-clause-leaves
returns-in_err-track-clause-leaves c = leaves_then (plain_state c.args.plant.now) (plain_state c.loop-number.plant) (plain_state c.read_track.new.plant) c.loop-number.invariant.leaves c.read_track.ensures.leaves

pub with_track-tally-requires : goal.with_track-tally-requires
with_track-tally-requires c = record {
  records = omega (arith, c.requires.room.records, c.loop-number.invariant.grows.records, c.loop-number-test.true);
  sum = omega (arith, c.requires.room.sum, c.loop-number.invariant.grows.sum, c.loop-number-test.true);
}

pub loop-number-preserved : goal.loop-number-preserved
loop-number-preserved c =
    let volume = (plain_state c.args.plant.now).bytes (Volume c.args.row.now.device) in
    let n = c.loop-number.number in
    let so_far = flat_map (slot_records volume) (range_with_len 0 n) in
    let track : c.in_ok-track.track ≡ slot_records volume n = c.in_ok-track.ensures.track ∙ ap (λ (l : List ℕ). slot_records l n) (c.loop-number.invariant.leaves.devices.bytes (Volume c.args.row.now.device)) in
    record {
      counts = c.with_track-tally.ensures.counts ∙ ap (λ (t : Tally). with_records t c.in_ok-track.track) c.loop-number.invariant.counts ∙ counted_then c.args.counted so_far c.in_ok-track.track
          ∙ ap (λ (l : List Rec). with_records c.args.counted (so_far ++ l)) track ∙ ap (λ (l : List Rec). with_records c.args.counted l) (tracks_more (slot_records volume) n);
      grows = record {
        records = omega (arith, c.loop-number.invariant.grows.records, c.with_track-tally.ensures.grows.records);
        sum = omega (arith, c.loop-number.invariant.grows.sum, c.with_track-tally.ensures.grows.sum);
      };
      leaves = leaves_then (plain_state c.args.plant.now) (plain_state c.loop-number.plant) (plain_state c.read_track.new.plant) c.loop-number.invariant.leaves c.read_track.ensures.leaves;
    }

pub returns-clause-counts : goal.returns-clause-counts
returns-clause-counts c =
    let volume = (plain_state c.args.plant.now).bytes (Volume c.args.row.now.device) in
    let at : c.loop-number.number ≡ 15 * c.args.row.now.cylinders = omega (arith, c.loop-number-test.false, c.loop-number.auto.number-end) in
    c.loop-number.invariant.counts ∙ ap (λ (n : ℕ). with_records c.args.counted (flat_map (slot_records volume) (range_with_len 0 n))) at

pub returns-clause-grows : goal.returns-clause-grows
returns-clause-grows c =
    let at : c.loop-number.number ≡ 15 * c.args.row.now.cylinders = omega (arith, c.loop-number-test.false, c.loop-number.auto.number-end) in
    subst (λ (n : ℕ). HasGrown n c.args.counted c.loop-number.tally) at c.loop-number.invariant.grows

pub returns-clause-leaves : goal.returns-clause-leaves
returns-clause-leaves c = c.loop-number.invariant.leaves
