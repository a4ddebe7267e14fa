use Rattle.std.proofs.Common.{◌≡◌, drop}
use Rattle.std.specs.List.{flat_map}
use Rattle.xrc_session.specs.Taking.{AllMay, after_calls, drop_calls}
use Rattle.xrc_session.proofs.taking.drop_suspended.Given as goal

-- The calls that are left may be made, and lead where all of them do.
abbrev pub invariant-loop-row : goal.invariant-loop-row
invariant-loop-row l = record {
  may : AllMay (flat_map (drop_calls l.change l.before) (drop l.row-index l.table.rows)) l.group;
  leads : after_calls (flat_map (drop_calls l.change l.before) (drop l.row-index l.table.rows)) l.group ≡ after_calls (flat_map (drop_calls l.change l.before) l.table.rows) l.initial.group;
}
