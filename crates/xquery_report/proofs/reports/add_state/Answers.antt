use Rattle.std.proofs.Common.{◌++◌, ◌∙◌, ℕ, List, sym, ap}
use Rattle.std.specs.Prelude.{codes}
use Rattle.tod_stamp.specs.Stamps.{stamp_text}
use Rattle.pair_table.specs.declared.row.PairState.{PairState}
use Rattle.pair_table.specs.States.{cause_word}
use Rattle.xquery_report.specs.Reports.{state_part}
use Rattle.xquery_report.proofs.Texts.{four_after}
use Rattle.xquery_report.proofs.reports.add_state.Goals as goal

pub returns-in-Suspended-clause-text : goal.returns-in-Suspended-clause-text
returns-in-Suspended-clause-text c =
    four_after c.args.line.now (codes " SUSPENDED ") (cause_word c.in-Suspended.cause) (codes " SINCE ") (stamp_text c.in-Suspended.since.0)
    c.add-in-Suspended.new.self c.add-in-Suspended-2.new.self c.add-in-Suspended-3.new.self c.add-in-Suspended-4.new.self
    c.add-in-Suspended.ensures (c.add-in-Suspended-2.ensures ∙ ap (λ (l : List ℕ). c.add-in-Suspended.new.self ++ l) c.word.ensures.text)
    c.add-in-Suspended-3.ensures (c.add-in-Suspended-4.ensures ∙ ap (λ (l : List ℕ). c.add-in-Suspended-3.new.self ++ l) c.text.ensures)
    ∙ ap (λ (state : PairState). c.args.line.now ++ state_part state) (sym c.in-Suspended.is)
