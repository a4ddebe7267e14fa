use Rattle.std.proofs.Common.{◌≡◌, drop}
use Rattle.std.specs.List.{flat_map}
use Rattle.xrc_session.specs.Taking.{AllMay, after_calls, forget_calls}
use Rattle.xrc_session.proofs.taking.forget_rows.Given as goal

-- The calls that are left may be made, and lead where all of them do.
abbrev pub invariant-loop-place : goal.invariant-loop-place
invariant-loop-place l = record {
  may : AllMay (flat_map (forget_calls l.devices) (drop l.place l.before)) l.group;
  leads : after_calls (flat_map (forget_calls l.devices) (drop l.place l.before)) l.group ≡ after_calls (flat_map (forget_calls l.devices) l.before) l.initial.group;
}
