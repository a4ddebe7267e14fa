use Rattle.std.proofs.Common.{rules, ◌≡◌, ◌≤◌, ◌<◌, ℕ, length, slice_index_or, slice_set, subst, sym, ap, ◌∙◌}
use Rattle.group_state.specs.Answers.{run_reply}
use Rattle.group_state.specs.declared.joining.RunJoin.TheVariants as runnings
use Rattle.mover_tests.specs.Steps.{AreToJoin, HaveControlsReported}
use Rattle.std.proofs.lemmas.Grind.{get_or_default_zero}
use Rattle.mover_tests.proofs.Stepping.{may_join, told_joined}
use Rattle.mover_tests.proofs.steps.Shared.join.Goals as goal

pub join_ref-joined-requires-clause-legal : goal.join_ref-joined-requires-clause-legal
join_ref-joined-requires-clause-legal g c =
    let told = c.args.self.now.told.items in
    let k = c.args.control in
    let within : c.from-place.result < length told = search rules in
    let before : c.index-before.result.now ≡ slice_index_or told k 0 = c.index-before.ensures ∙ get_or_default_zero told c.from-place.result c.index-before.result.now within ∙ ap (λ n. slice_index_or told n 0) c.from-place.ensures in
    let low : k < length c.args.self.now.group.controls = search rules in
    let up : slice_index_or told k 0 ≤ c.args.upto = search rules in
    may_join told c.args.self.now.last c.args.self.now.group k c.args.upto c.writes_of-writes.result c.requires low up (subst (λ n. AreToJoin n c.args.upto c.writes_of-writes.result) before c.writes_of-writes.ensures)

pub returns-clause-told : goal.returns-clause-told
returns-clause-told g c =
    let told = c.args.self.now.told.items in
    let k = c.args.control in
    let place : c.from-place.result ≡ k = search rules in
    let within : c.from-place.result < length told = search rules in
    let before : c.index-before.result.now ≡ slice_index_or told k 0 = c.index-before.ensures ∙ get_or_default_zero told c.from-place.result c.index-before.result.now within ∙ ap (λ n. slice_index_or told n 0) c.from-place.ensures in
    let low : k < length c.args.self.now.group.controls = search rules in
    let up : slice_index_or told k 0 ≤ c.args.upto = search rules in
    let joined : c.join_ref-joined.result ≡ runnings.Joined = search rules in
    subst (λ n. HaveControlsReported (slice_set told n c.args.upto) c.args.self.now.last c.join_ref-joined.new.self) (sym place)
    (told_joined told c.args.self.now.last c.args.self.now.group c.join_ref-joined.new.self k c.args.upto c.writes_of-writes.result (run_reply c.join_ref-joined.result) c.requires low up
    (subst (λ n. AreToJoin n c.args.upto c.writes_of-writes.result) before c.writes_of-writes.ensures) c.join_ref-joined.ensures.step (ap run_reply joined))
