use Rattle.std.proofs.Common.{not, rules, sym, ◌∙◌, arith}
use Rattle.std.proofs.lemmas.Bool.{not-true, not-false}
use Rattle.std.proofs.lemmas.List.Sorted.{IsPartitionPoint-from_clause}
use Rattle.xrc_edge.proofs.OrderLaws.{parted}
use Rattle.pending_queue.specs.declared.placed.Placed.{Placed}
use Rattle.pending_queue.specs.Entries.{head_before}
use Rattle.pending_queue.specs.PlacedEntries.{placed_before}
use Rattle.pending_queue.proofs.Places.{placed_order, none_after}
use Rattle.pending_queue.proofs.placed.place_of.Goals as goal

pub returns-in-Some-clause-before : goal.returns-in-Some-clause-before
returns-in-Some-clause-before c =
    let p : Placed = record c.in-Some.last.now { head = c.args.head } in
    let point = IsPartitionPoint-from_clause (λ (other : Placed). not (head_before c.args.head other.head)) _ _ c.partition_point.ensures.partitioned (parted placed_before placed_order p c.args.entries.now c.requires) (λ a r q k. search rules) in
    λ k other lt. not-true _ (point.0 k other (omega arith) lt)

pub returns-in-Some-clause-after : goal.returns-in-Some-clause-after
returns-in-Some-clause-after c =
    let p : Placed = record c.in-Some.last.now { head = c.args.head } in
    let point = IsPartitionPoint-from_clause (λ (other : Placed). not (head_before c.args.head other.head)) _ _ c.partition_point.ensures.partitioned (parted placed_before placed_order p c.args.entries.now c.requires) (λ a r q k. search rules) in
    λ other lt. not-false _ (point.1 c.partition_point.result other (omega arith) lt)

pub returns-in_default-clause-before : goal.returns-in_default-clause-before
returns-in_default-clause-before c = λ k other lt.
    none_after c.args.entries.now (record c.in-Some.last.now { head = c.args.head }) c.in-Some.last.now k other c.requires (search rules) (sym c.head_before.ensures ∙ c.if-head_before.false) lt
