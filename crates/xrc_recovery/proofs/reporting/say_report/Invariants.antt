use Rattle.std.proofs.Common.{◌++◌, take}
use Rattle.xrc_status.specs.Saying.{SaysWhole}
use Rattle.xrc_recovery.specs.Texts.{pair_lines, site_line}
use Rattle.xrc_recovery.proofs.reporting.say_report.Given as goal

-- the lines of the rows before are said
abbrev pub invariant-loop-place : goal.invariant-loop-place
invariant-loop-place g l =
    SaysWhole g.P.Plant.tells (site_line l.word l.fn.session l.outcome.means.time.0 ++ pair_lines l.outcome.failed (take l.place l.outcome.means.table.rows)) (g.P.Plant.state l.fn.plant) (g.P.Plant.state l.plant)
