use Rattle.std.proofs.Common.{rules, ◌≡◌, true, false, take, get_or, sym, ap, ◌∙◌, arith, length-take}
use Rattle.std.proofs.lemmas.List.{get_or-take}
use Rattle.std.proofs.lemmas.List.Folds.{list_any_at}
use Rattle.std.proofs.lemmas.Option.{slice_get_within, get_or_from_slice_get}
use Rattle.image_former.specs.Steps.{is_beside, same_track}
use Rattle.image_former.proofs.Lists.{any_more}
use Rattle.image_former.proofs.Entries.{entry_there}
use Rattle.image_former.proofs.places.has_any_before.Goals as goal

pub returns-then-is_same_track : goal.returns-then-is_same_track
returns-then-is_same_track c =
    let entries = c.args.formed.now.entries in
    let i = c.loop-earlier.earlier in
    let t = entry_there entries i c.head.result c.head.ensures in
    let within = slice_get_within entries i t.entry t.there in
    let passes : is_beside c.args.head (get_or entries i t.entry) ≡ true =
    ap (is_beside c.args.head) (get_or_from_slice_get entries i t.entry t.entry t.there) ∙ ap (same_track c.args.head) t.head ∙ sym c.is_same_track.ensures ∙ c.if-is_same_track.true in
    sym (list_any_at (is_beside c.args.head) (take c.args.place entries) i t.entry (omega (arith, within, c.loop-earlier-test.true, length-take c.args.place entries)) (ap (is_beside c.args.head) (get_or-take c.args.place entries i t.entry c.loop-earlier-test.true) ∙ passes))

pub loop-earlier-preserved : goal.loop-earlier-preserved
loop-earlier-preserved c =
    let entries = c.args.formed.now.entries in
    let i = c.loop-earlier.earlier in
    let t = entry_there entries i c.head.result c.head.ensures in
    let fails : is_beside c.args.head t.entry ≡ false = ap (same_track c.args.head) t.head ∙ sym c.is_same_track.ensures ∙ c.if-is_same_track.false in
    any_more (is_beside c.args.head) entries i t.entry t.there ∙ search (rules, c.loop-earlier.invariant, fails)
