use Rattle.std.proofs.Common.{◌≡◌, ◌<◌, ◌++◌, ◌∙◌, ℕ, List, Some, Result, Ok, Err, length, take, sym, ap, subst, arith, rules, append-nil, take_all}
use Rattle.std.specs.Prelude.{slice_get}
use Rattle.std.specs.Option.{option_copied}
use Rattle.xrc_edge.specs.declared.outcome.Failed.{Failed}
use Rattle.pair_table.specs.declared.row.PairRow.{PairRow}
use Rattle.xrecover.proofs.Rows.{some_there}
use Rattle.xrc_status.specs.Saying.{SaysText, SaysWhole}
use Rattle.xrc_status.proofs.SayLaws.{all_said, ok_said, text_so_far}
use Rattle.xrc_recovery.specs.Texts.{pair_line, pair_lines, site_text, site_line}
use Rattle.xrc_recovery.proofs.LineLaws.{line_failed, line_said}
use Rattle.xrc_recovery.proofs.reporting.say_report.Goals as goal

pub loop-place-init : goal.loop-place-init
loop-place-init g c =
    let tells = g.P.Plant.tells in
    let a = g.P.Plant.state c.args.plant.now in
    let b = g.P.Plant.state c.say_text.new.plant in
    let first = site_line c.args.word.now c.args.session c.args.outcome.now.means.time.0 in
    let line : c.as_bytes.result.now ≡ first = c.as_bytes.ensures ∙ c.site_line.ensures in
    subst (λ (l : List ℕ). SaysWhole tells l a b) (line ∙ sym (append-nil first)) (all_said tells c.as_bytes.result.now a b _ c.in_ok-say_text.ensures)

pub unwrap-requires : goal.unwrap-requires
unwrap-requires g c =
    let rows = c.args.outcome.now.means.table.rows in
    let within : c.loop-place.place < length rows = omega (arith, c.len-place-end.ensures.count, c.loop-place-test.true) in
    some_there rows c.loop-place.place c.row.result within c.row.ensures.row

pub loop-place-preserved : goal.loop-place-preserved
loop-place-preserved g c =
    let tells = g.P.Plant.tells in
    let rows = c.args.outcome.now.means.table.rows in
    let failed = c.args.outcome.now.failed in
    let row = c.unwrap.result.now in
    let is : slice_get rows c.loop-place.place ≡ Some row = sym c.row.ensures.row ∙ ap option_copied c.unwrap.ensures in
    let a = g.P.Plant.state c.args.plant.now in
    let b = g.P.Plant.state c.loop-place.plant in
    let d = g.P.Plant.state c.say_text-in-loop-place.new.plant in
    let line : c.as_bytes-in-loop-place.result.now ≡ pair_line failed row = c.as_bytes-in-loop-place.ensures ∙ c.pair_line.ensures in
    let v = c.in_ok-say_text-2.field-0 in
    line_said tells failed rows (site_line c.args.word.now c.args.session c.args.outcome.now.means.time.0) c.loop-place.place row is a b d c.loop-place.invariant {E = Failed} v
    (subst (λ (l : List ℕ). SaysText {E = Failed} tells l b d (Ok v)) line c.in_ok-say_text-2.ensures)

pub returns-in_err-say_text : goal.returns-in_err-say_text
returns-in_err-say_text g c =
    let tells = g.P.Plant.tells in
    let rows = c.args.outcome.now.means.table.rows in
    let failed = c.args.outcome.now.failed in
    let a = g.P.Plant.state c.args.plant.now in
    let b = g.P.Plant.state c.say_text.new.plant in
    let first = site_line c.args.word.now c.args.session c.args.outcome.now.means.time.0 in
    let line : c.as_bytes.result.now ≡ first = c.as_bytes.ensures ∙ c.site_line.ensures in
    let e = c.in_err-say_text.field-0.0 in
    let is : c.from_residual.result ≡ Err e = search rules in
    subst (λ (r : Result (Unit {0}) Failed). SaysText tells (site_text c.args.word.now c.args.session c.args.outcome.now.means.time.0 rows failed) a b r) (sym is)
    (text_so_far {T = Unit {0}} tells first (pair_lines failed rows) a b e e (subst (λ (l : List ℕ). SaysText {T = Unit {0}} tells l a b (Err e)) line c.in_err-say_text.ensures))

pub returns-in_err-say_text-2 : goal.returns-in_err-say_text-2
returns-in_err-say_text-2 g c =
    let tells = g.P.Plant.tells in
    let rows = c.args.outcome.now.means.table.rows in
    let failed = c.args.outcome.now.failed in
    let row = c.unwrap.result.now in
    let at : slice_get rows c.loop-place.place ≡ Some row = sym c.row.ensures.row ∙ ap option_copied c.unwrap.ensures in
    let a = g.P.Plant.state c.args.plant.now in
    let b = g.P.Plant.state c.loop-place.plant in
    let d = g.P.Plant.state c.say_text-in-loop-place.new.plant in
    let line : c.as_bytes-in-loop-place.result.now ≡ pair_line failed row = c.as_bytes-in-loop-place.ensures ∙ c.pair_line.ensures in
    let e = c.in_err-say_text-2.field-0.0 in
    let is : c.from_residual-in_err-say_text-2.result ≡ Err e = search rules in
    subst (λ (r : Result (Unit {0}) Failed). SaysText tells (site_text c.args.word.now c.args.session c.args.outcome.now.means.time.0 rows failed) a d r) (sym is)
    (line_failed tells failed rows (site_line c.args.word.now c.args.session c.args.outcome.now.means.time.0) c.loop-place.place row at a b d c.loop-place.invariant {T = Unit {0}} e e
    (subst (λ (l : List ℕ). SaysText {T = Unit {0}} tells l b d (Err e)) line c.in_err-say_text-2.ensures))

pub returns : goal.returns
returns g c =
    let tells = g.P.Plant.tells in
    let rows = c.args.outcome.now.means.table.rows in
    let failed = c.args.outcome.now.failed in
    let a = g.P.Plant.state c.args.plant.now in
    let b = g.P.Plant.state c.loop-place.plant in
    let first = site_line c.args.word.now c.args.session c.args.outcome.now.means.time.0 in
    let whole : take c.loop-place.place rows ≡ rows = take_all c.loop-place.place rows (omega (arith, c.len-place-end.ensures.count, c.loop-place-test.false)) in
    ok_said tells (first ++ pair_lines failed rows) a b tt (subst (λ (l : List PairRow). SaysWhole tells (first ++ pair_lines failed l) a b) whole c.loop-place.invariant)
