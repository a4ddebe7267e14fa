use Rattle.std.proofs.Common.{◌≡◌, take, false}
use Rattle.std.specs.List.{list_any}
use Rattle.site_store.specs.Hits.{is_hit_in_group}
use Rattle.site_store.proofs.hits.is_group_hit.Given as goal

-- no row before has the group and is hit
abbrev pub invariant-loop-row : goal.invariant-loop-row
invariant-loop-row l = list_any (is_hit_in_group l.hit l.like.group) (take l.row-index l.table.rows) ≡ false
