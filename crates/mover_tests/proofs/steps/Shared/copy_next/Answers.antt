use Rattle.std.proofs.Common.{rules, ◌≡◌, ◌<◌, length, slice_index_or, ap, ◌∙◌}
use Rattle.xrc_edge.specs.declared.limits.TheConstants.{TRACKS_OF_CYLINDER}
use Rattle.group_state.specs.Answers.{copy_reply}
use Rattle.std.proofs.lemmas.Grind.{get_or_default_zero}
use Rattle.mover_tests.proofs.Stepping.{told_copied}
use Rattle.mover_tests.proofs.steps.Shared.copy_next.Goals as goal

pub returns-clause-told : goal.returns-clause-told
returns-clause-told g c =
    let told = c.args.self.now.told.items in
    let k = c.args.control in
    let within : c.from-place.result < length told = search rules in
    let before : c.index-before.result.now ≡ slice_index_or told k 0 = c.index-before.ensures ∙ get_or_default_zero told c.from-place.result c.index-before.result.now within ∙ ap (λ n. slice_index_or told n 0) c.from-place.ensures in
    let low : k < length c.args.self.now.group.controls = search rules in
    let short : c.in-Some.track < TRACKS_OF_CYLINDER = search rules in
    told_copied told c.args.self.now.last c.args.self.now.group c.copied-joined.new.self k c.in-Some.volume c.in-Some.track c.index-before.result.now c.args.slot.now (copy_reply c.copied-joined.result) c.requires low before short c.copied-joined.ensures.step
