use Rattle.std.proofs.Common.{◌≡◌, None, Some, sym, ap, ◌∙◌, rules}
use Rattle.xrc_command.proofs.LineReading.{line_takes, no_command, no_command_spelled, no_time, none_spelled, only_line, spelled_from}
use Rattle.xrc_command.proofs.ShortLines.{line_short}
use Rattle.xrc_command.proofs.line.read_line.Goals as goal

pub returns-in_err-time-clause-spelled : goal.returns-in_err-time-clause-spelled
returns-in_err-time-clause-spelled c = let is : c.from_residual.result ≡ None = search rules in is ∙ sym (none_spelled c.args.bytes.now c.in_err-time.ensures)

pub returns-in_err-time-clause-every : goal.returns-in_err-time-clause-every
returns-in_err-time-clause-every c = λ line k. absurd (no_time c.args.bytes.now c.in_err-time.ensures line k)

pub returns-in_err-session-clause-spelled : goal.returns-in_err-session-clause-spelled
returns-in_err-session-clause-spelled c = let is : c.from_residual-in_err-session.result ≡ None = search rules in is ∙ sym (no_command_spelled c.args.bytes.now c.in_ok-time.text.now c.in_ok-time.time c.in_ok-time.ensures (sym c.in_err-session.ensures))

pub returns-in_err-session-clause-every : goal.returns-in_err-session-clause-every
returns-in_err-session-clause-every c = λ line k. absurd (no_command c.args.bytes.now c.in_ok-time.text.now c.in_ok-time.time c.in_ok-time.ensures (sym c.in_err-session.ensures) line k)

pub returns-clause-spelled : goal.returns-clause-spelled
returns-clause-spelled c = sym (spelled_from c.args.bytes.now c.in_ok-time.text.now _ c.in_ok-time.ensures (sym c.in_ok-session.ensures))

pub returns-clause-read : goal.returns-clause-read
returns-clause-read c = line_takes c.args.bytes.now c.in_ok-time.text.now _ c.in_ok-time.ensures (sym c.in_ok-session.ensures)

pub returns-clause-every : goal.returns-clause-every
returns-clause-every c = λ line k. ap Some (only_line c.args.bytes.now c.in_ok-time.text.now _ c.in_ok-time.ensures (sym c.in_ok-session.ensures) line k)

pub returns-clause-short : goal.returns-clause-short
returns-clause-short c = λ _. line_short c.args.bytes.now _ (line_takes c.args.bytes.now c.in_ok-time.text.now (record { time = c.in_ok-time.time; session = c.in_ok-session.session; command = c.in_ok-session.command }) c.in_ok-time.ensures (sym c.in_ok-session.ensures))
