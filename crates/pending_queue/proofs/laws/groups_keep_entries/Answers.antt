use Rattle.std.proofs.Common.{cond}
use Rattle.pending_queue.specs.Entries.{stands_before}
use Rattle.xrc_edge.proofs.Merges.{sum_order}
use Rattle.pending_queue.proofs.laws.groups_keep_entries.Goals as goal

pub returns : goal.returns
returns c = λ test entries. sum_order (λ entry. cond (test entry) 1 0) stands_before entries
