use Rattle.std.proofs.Common.{ℕ, Option, length, take, ◌∙◌, ap}
use Rattle.std.specs.Prelude.{unwrap_or}
use Rattle.consistency.specs.Courses.{first_line}
use Rattle.script_lines.proofs.TextLaws.{first_line_is}
use Rattle.script_lines.proofs.line_text.LineText.line.Goals as goal

pub returns : goal.returns
returns c =
    let bytes = c.as_bytes-bytes.result.now in
    ap (λ (n : ℕ). take n bytes) (c.unwrap_or-end.ensures ∙ ap (λ (o : Option ℕ). unwrap_or o (length bytes)) c.feed_place.ensures) ∙ first_line_is bytes ∙ ap first_line c.as_bytes-bytes.ensures
