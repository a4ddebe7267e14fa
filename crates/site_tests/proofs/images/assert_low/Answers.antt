use Rattle.std.proofs.Common.{rules, ◌≡◌, ◌≤◌, take, sym, subst, ◌∙◌, arith}
use Rattle.std.specs.List.{All}
use Rattle.std.proofs.lemmas.List.{take_all}
use Rattle.site_tests.proofs.LowEntries.{IsLow, IsNear, heads_more, near_more}
use Rattle.site_tests.proofs.images.assert_low.Goals as goal

pub loop-place-preserved : goal.loop-place-preserved
loop-place-preserved g c =
    let entries = c.args.formed.now.entries in
    let i = c.loop-place.place in
    let low : c.head-head.result.track ≤ 3 = search rules in
    let near : c.expect-device.result ≤ 1 = search rules in
    record {
      tracks = heads_more (λ head. head.track ≤ 3) entries i c.head-head.result c.head-head.ensures low c.loop-place.invariant.tracks;
      devices = near_more c.args.table.now.rows entries i c.head-head.result c.expect-device.result c.head-head.ensures (sym c.expect-device.ensures ∙ c.found_device.ensures) near c.loop-place.invariant.devices;
    }

pub returns-clause-tracks : goal.returns-clause-tracks
returns-clause-tracks g c =
    let entries = c.args.formed.now.entries in
    let all : take c.loop-place.place entries ≡ entries = take_all c.loop-place.place entries (omega (arith, c.loop-place-test.false, c.count-place-end.ensures)) in
    subst (All IsLow) all c.loop-place.invariant.tracks

pub returns-clause-devices : goal.returns-clause-devices
returns-clause-devices g c =
    let entries = c.args.formed.now.entries in
    let all : take c.loop-place.place entries ≡ entries = take_all c.loop-place.place entries (omega (arith, c.loop-place-test.false, c.count-place-end.ensures)) in
    subst (All (IsNear c.args.table.now.rows)) all c.loop-place.invariant.devices
