use Rattle.std.proofs.Common.{◌∙◌, ◌++◌, ℕ, List, sym, ap}
use Rattle.std.specs.Prelude.{codes}
use Rattle.tod_stamp.specs.Stamps.{stamp_text}
use Rattle.pair_table.specs.States.{cause_word}
use Rattle.xrc_recovery.specs.Texts.{state_text}
use Rattle.xrc_recovery.proofs.LineLaws.{four_after}
use Rattle.xrc_recovery.proofs.lines.add_state.Goals as goal

pub returns-in-Suspended-clause-text : goal.returns-in-Suspended-clause-text
returns-in-Suspended-clause-text c =
    four_after c.args.line.now (codes "SUSPENDED ") (cause_word c.in-Suspended.cause) (codes " SINCE ") (stamp_text c.in-Suspended.since.0)
    c.add-in-Suspended.new.self c.add-in-Suspended-2.new.self c.add-in-Suspended-3.new.self c.add-in-Suspended-4.new.self
    c.add-in-Suspended.ensures.text (c.add-in-Suspended-2.ensures.text ∙ ap (λ (l : List ℕ). c.add-in-Suspended.new.self ++ l) c.word.ensures.text) c.add-in-Suspended-3.ensures.text (c.add-in-Suspended-4.ensures.text ∙ ap (λ (l : List ℕ). c.add-in-Suspended-3.new.self ++ l) c.text.ensures)
    ∙ ap (λ s. c.args.line.now ++ state_text c.args.has_failed s) (sym c.in-Suspended.is)
