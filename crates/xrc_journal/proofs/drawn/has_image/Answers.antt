use Rattle.std.proofs.Common.{rules, ◌≡◌, ◌≤◌, List, ℕ, length, drop, sym, subst, ◌∙◌, ap, arith, length-drop}
use Rattle.xrc_journal.proofs.Scans.{Scan, scan_start, scan_first, scan_end, begins_with}
use Rattle.xrc_journal.proofs.drawn.has_image.Goals as goal

pub draws-requires : goal.draws-requires
draws-requires c =
    let some : 1 ≤ length c.loop-rest.rest.now = search rules in
    let first = scan_first c.args.body.now c.loop-rest.rest.now c.args.device c.args.track c.loop-rest.invariant some in
    begins_with c.loop-rest.rest.now first.item first.begins

pub returns-then-draws : goal.returns-then-draws
returns-then-draws c =
    let some : 1 ≤ length c.loop-rest.rest.now = search rules in
    let first = scan_first c.args.body.now c.loop-rest.rest.now c.args.device c.args.track c.loop-rest.invariant some in
    sym (first.found (sym (c.draws.ensures first.item first.begins) ∙ c.if-draws.true))

pub first_length-requires : goal.first_length-requires
first_length-requires c =
    let some : 1 ≤ length c.loop-rest.rest.now = search rules in
    let first = scan_first c.args.body.now c.loop-rest.rest.now c.args.device c.args.track c.loop-rest.invariant some in
    begins_with c.loop-rest.rest.now first.item first.begins

pub split_at-requires : goal.split_at-requires
split_at-requires c =
    let some : 1 ≤ length c.loop-rest.rest.now = search rules in
    let first = scan_first c.args.body.now c.loop-rest.rest.now c.args.device c.args.track c.loop-rest.invariant some in
    omega (arith, c.first_length.ensures first.item first.begins, first.long)

pub loop-rest-preserved : goal.loop-rest-preserved
loop-rest-preserved c =
    let some : 1 ≤ length c.loop-rest.rest.now = search rules in
    let first = scan_first c.args.body.now c.loop-rest.rest.now c.args.device c.args.track c.loop-rest.invariant some in
    let len = c.first_length.ensures first.item first.begins in
    subst (λ (l : List ℕ). Scan c.args.body.now l c.args.device c.args.track) (sym (c.split_at.ensures.back ∙ (λ i. drop (len i) c.loop-rest.rest.now))) (first.next (sym (c.draws.ensures first.item first.begins) ∙ c.if-draws.false))

pub loop-rest-smaller : goal.loop-rest-smaller
loop-rest-smaller c =
    let some : 1 ≤ length c.loop-rest.rest.now = search rules in
    let first = scan_first c.args.body.now c.loop-rest.rest.now c.args.device c.args.track c.loop-rest.invariant some in
    omega (arith, some, c.first_length.ensures first.item first.begins, first.some, ap length c.split_at.ensures.back, length-drop c.first_length.result c.loop-rest.rest.now)

pub loop-rest-init : goal.loop-rest-init
loop-rest-init c = scan_start c.args.body.now c.args.device c.args.track c.requires

pub returns : goal.returns
returns c =
    let none : length c.loop-rest.rest.now ≡ 0 = search rules in
    sym (scan_end c.args.body.now c.loop-rest.rest.now c.args.device c.args.track c.loop-rest.invariant none)
