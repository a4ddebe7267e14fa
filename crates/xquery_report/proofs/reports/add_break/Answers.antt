use Rattle.std.proofs.Common.{◌++◌, ◌∙◌, ℕ, List, sym, ap}
use Rattle.std.specs.Prelude.{codes}
use Rattle.tod_stamp.specs.Stamps.{stamp_text}
use Rattle.ckd_track.specs.declared.write.Cause.{Cause}
use Rattle.xquery_report.specs.Reports.{break_part}
use Rattle.xquery_report.proofs.Texts.{two_after}
use Rattle.xquery_report.proofs.reports.add_break.Goals as goal

pub returns-in-Crowded-clause-text : goal.returns-in-Crowded-clause-text
returns-in-Crowded-clause-text c =
    two_after c.args.line.now (codes " CROWDED ") (stamp_text c.in-Crowded.stamp.0) c.add-in-Crowded.new.self c.add-in-Crowded-2.new.self c.add-in-Crowded.ensures
    (c.add-in-Crowded-2.ensures ∙ ap (λ (l : List ℕ). c.add-in-Crowded.new.self ++ l) c.text.ensures)
    ∙ ap (λ (cause : Cause). c.args.line.now ++ break_part cause) (sym c.in-Crowded.is)
