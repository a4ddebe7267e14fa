use Rattle.std.proofs.Common.{◌++◌, ◌∙◌, ℕ, List, Option, sym, ap}
use Rattle.std.specs.Prelude.{codes}
use Rattle.tod_stamp.specs.declared.stamp.Stamp.{Stamp}
use Rattle.tod_stamp.specs.Stamps.{stamp_text}
use Rattle.xquery_report.specs.Replies.{said_part}
use Rattle.xquery_report.proofs.Texts.{two_after}
use Rattle.xquery_report.proofs.replies.add_said.Goals as goal

pub returns-in-Some-clause-text : goal.returns-in-Some-clause-text
returns-in-Some-clause-text c =
    two_after c.args.line.now (codes " T=") (stamp_text c.in-Some.time.0) c.add.new.self c.add-in-Some.new.self c.add.ensures
    (c.add-in-Some.ensures ∙ ap (λ (l : List ℕ). c.add.new.self ++ l) c.text.ensures)
    ∙ ap (λ (said : Option Stamp). c.args.line.now ++ said_part said) (sym c.in-Some.is)
