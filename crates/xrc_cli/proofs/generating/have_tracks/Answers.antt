use Rattle.std.proofs.Common.{rules, List, take, refl, sym, ◌∙◌, subst, arith}
use Rattle.std.specs.List.{All}
use Rattle.std.proofs.lemmas.List.{take_all}
use Rattle.std.proofs.lemmas.List.Elements.{All-push}
use Rattle.crash_plant.specs.PlainPlant.{plain_state}
use Rattle.pair_table.specs.declared.row.PairRow.{PairRow}
use Rattle.workload.specs.Summaries.{HasTracks}
use Rattle.workload.proofs.Counting.{row_at}
use Rattle.workload.proofs.Holding.{holds_at}
use Rattle.xrc_cli.proofs.generating.have_tracks.Goals as goal

pub loop-place-preserved : goal.loop-place-preserved
loop-place-preserved c =
    let rows = c.args.table.now.rows in
    let i = c.loop-place.place in
    let has = HasTracks (plain_state c.args.plant.now) in
    let row = row_at rows i (omega (arith, c.len-place-end.ensures.count, c.loop-place-test.true)) in
    subst (λ (l : List PairRow). All has l) (sym row.2) (All-push has (take i rows) row.0 c.loop-place.invariant ((c.has_tracks_at.ensures row.0 row.1).0 (search rules)))

pub returns-then-not-has_tracks_at : goal.returns-then-not-has_tracks_at
returns-then-not-has_tracks_at c =
    let rows = c.args.table.now.rows in
    let i = c.loop-place.place in
    let row = row_at rows i (omega (arith, c.len-place-end.ensures.count, c.loop-place-test.true)) in
    (λ is. absurd cc, λ all. sym c.if-not-has_tracks_at.true ∙ (c.has_tracks_at.ensures row.0 row.1).1 (holds_at (HasTracks (plain_state c.args.plant.now)) rows i row.0 all row.1))

pub returns : goal.returns
returns c =
    let rows = c.args.table.now.rows in
    let all = take_all c.loop-place.place rows (omega (arith, c.len-place-end.ensures.count, c.loop-place-test.false)) in
    (λ is. subst (λ (l : List PairRow). All (HasTracks (plain_state c.args.plant.now)) l) all c.loop-place.invariant, λ has. refl)
