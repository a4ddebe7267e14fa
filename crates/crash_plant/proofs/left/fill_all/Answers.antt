use Rattle.std.proofs.Common.{List, ◌≡◌, ◌+◌, ◌++◌, ◌∷◌, [], ℕ, length, get_or, take, map, sym, ◌∙◌, ap, subst}
use Rattle.std.proofs.lemmas.List.{take_more, map_push}
use Rattle.crash_plant.specs.declared.entry.PastCall.{PastCall}
use Rattle.crash_plant.specs.DiskRemains.{all_filled, filled}
use Rattle.crash_plant.specs.Pasts.{Note, Fits, note_of}
use Rattle.crash_plant.proofs.Lefts.{fit_at, fit_take, filled_push, length-all_filled}
use Rattle.crash_plant.proofs.left.fill_all.Goals as goal

pub fill-requires : goal.fill-requires
fill-requires c =
    let i = c.loop-i.i in
    let size = ap length c.loop-i.invariant ∙ length-all_filled c.args.choice.now (map note_of (take i c.args.writes.now)) c.args.bytes.now.items (fit_take (length c.args.bytes.now.items) c.args.writes.now i c.requires) in
    subst (λ (k : ℕ). Fits k (get_or c.args.writes.now i c.index-writes-i.result).done) (sym size) (fit_at (length c.args.bytes.now.items) c.args.writes.now i c.index-writes-i.result c.loop-i-test.true c.requires)

pub loop-i-preserved : goal.loop-i-preserved
loop-i-preserved c =
    let i = c.loop-i.i in
    let writes = c.args.writes.now in
    let e = c.index-writes-i.result in
    let choice = c.args.choice.now in
    let start = c.args.bytes.now.items in
    let next : map note_of (take (i + 1) writes) ≡ map note_of (take i writes) ++ note_of (get_or writes i e) ∷ [] = ap (λ (l : List PastCall). map note_of l) (take_more writes i e c.loop-i-test.true) ∙ map_push note_of (take i writes) (get_or writes i e) in
    c.in_ok-fill.ensures ∙ ap (λ (l : List ℕ). filled choice (get_or writes i e).done l) c.loop-i.invariant ∙ sym (ap (λ (l : List Note). all_filled choice l start) next ∙ filled_push choice (map note_of (take i writes)) (note_of (get_or writes i e)) start)
