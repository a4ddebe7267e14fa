use Rattle.std.proofs.Common.{◌∙◌, ap, sym}
use Rattle.std.specs.Option.{option_copied}
use Rattle.xrecover.proofs.Going.{duplex_found, is_duplex_row}
use Rattle.xrecover.proofs.sides.has_duplex.Goals as goal

pub returns-in-Some : goal.returns-in-Some
returns-in-Some c = λ sound. c.is_duplex.ensures ∙ sym (duplex_found c.args.device c.args.table.now.rows sound.apart ∙ ap is_duplex_row (sym c.row_of.ensures.row ∙ ap option_copied c.in-Some.is))

pub returns-in-None : goal.returns-in-None
returns-in-None c = λ sound. sym (duplex_found c.args.device c.args.table.now.rows sound.apart ∙ ap is_duplex_row (sym c.row_of.ensures.row ∙ ap option_copied c.in-None.is))
