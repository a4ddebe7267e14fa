use Rattle.std.proofs.Common.{◌≡◌, ◌∙◌, ℕ, List, Some, take, sym, ap, arith, take_all}
use Rattle.std.specs.Prelude.{slice_get}
use Rattle.std.specs.Option.{option_copied}
use Rattle.xrc_recovery.proofs.LineLaws.{among_more, some_at}
use Rattle.xrc_recovery.proofs.lines.is_among.Goals as goal
use Rattle.pair_table.specs.Devices.{is_among}

pub unwrap-failed-requires : goal.unwrap-failed-requires
unwrap-failed-requires c = some_at c.args.outcome.now.failed c.loop-place.place c.get.result (omega (arith, c.len-place-end.ensures, c.loop-place-test.true)) c.get.ensures

pub loop-place-preserved : goal.loop-place-preserved
loop-place-preserved c =
    let failed = c.args.outcome.now.failed in
    let other = c.unwrap-failed.result.now in
    let is : slice_get failed c.loop-place.place ≡ Some other = sym c.get.ensures ∙ ap option_copied c.unwrap-failed.ensures in
    among_more failed c.loop-place.place c.args.device other is c.if-failed-device.false c.loop-place.invariant

pub returns : goal.returns
returns c =
    let failed = c.args.outcome.now.failed in
    let whole : take c.loop-place.place failed ≡ failed = take_all c.loop-place.place failed (omega (arith, c.len-place-end.ensures, c.loop-place-test.false)) in
    sym c.loop-place.invariant ∙ ap (λ (l : List ℕ). is_among c.args.device l) whole
