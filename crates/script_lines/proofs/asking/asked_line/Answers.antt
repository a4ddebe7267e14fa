use Rattle.std.proofs.Common.{ℕ, List, sym, subst}
use Rattle.xrc_command.specs.Lines.{IsLine}
use Rattle.script_lines.proofs.asking.asked_line.Goals as goal

pub returns-clause-every : goal.returns-clause-every
returns-clause-every c = λ line spelled. c.read_line.ensures.every line (subst (λ (l : List ℕ). IsLine line l) (sym c.line.ensures) spelled)
