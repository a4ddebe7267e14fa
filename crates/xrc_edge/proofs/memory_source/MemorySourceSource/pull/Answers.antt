use Rattle.std.proofs.Common.{◌≡◌, ◌-◌, length, take, drop, ap, ◌∙◌, arith}
use Rattle.xrc_edge.proofs.Pieces.{range_to_end, piece_and_rest, none_left}
use Rattle.xrc_edge.proofs.memory_source.MemorySourceSource.pull.Goals as goal

pub returns-clause-bytes : goal.returns-clause-bytes
returns-clause-bytes c =
    let place = c.self.inside.position in
    let left = c.args.self.now.left in
    let count = c.min-count.result in
    let seen = c.as_slice.result.now in
    let view : drop place c.self.inside.bytes ≡ left = ap (λ s. s.left) (c.self.view_is ∙ c.next_call_fails.ensures.counted) in
    let ahead : take (length seen - place) (drop place seen) ≡ left = range_to_end c.self.inside.bytes seen left place c.as_slice.ensures view in (
      piece_and_rest c.self.inside.bytes left c.copy_from_slice.new.self (drop count c.args.into.now) place count view (omega (arith, ap length ahead)) (c.copy_from_slice.ensures.after ∙ ap (λ t. take count t) ahead),
      λ none. none_left left (omega (arith, ap length ahead)),
    )
