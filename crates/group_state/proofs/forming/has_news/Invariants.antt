use Rattle.std.proofs.Common.{◌≡◌, take, false}
use Rattle.std.specs.List.{list_any}
use Rattle.group_state.specs.Controls.{has_news}
use Rattle.group_state.proofs.forming.has_news.Given as goal

abbrev pub invariant-loop-k : goal.invariant-loop-k
invariant-loop-k l = list_any (has_news l.cut) (take l.k l.controls) ≡ false
