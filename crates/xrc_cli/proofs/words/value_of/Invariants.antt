use Rattle.std.proofs.Common.{◌≡◌, ◌≤◌, Some, take}
use Rattle.xrc_cli.specs.Words.{digits_value}
use Rattle.xrc_cli.proofs.words.value_of.Given as goal

-- The digits so far are worth the value, which isn't too large.
abbrev pub invariant-loop-digit : goal.invariant-loop-digit
invariant-loop-digit l = (digits_value (take l.digit-index l.digits) ≡ Some l.value) × (l.value ≤ l.most)
