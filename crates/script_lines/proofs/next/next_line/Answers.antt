use Rattle.std.proofs.Common.{inr}
use Rattle.script_lines.specs.declared.next.Next.TheVariants.{Bad}
use Rattle.script_lines.proofs.NextLaws.{next_in_runs}
use Rattle.script_lines.proofs.next.next_line.Goals as goal

pub returns-in-TooLong-clause-asked : goal.returns-in-TooLong-clause-asked
returns-in-TooLong-clause-asked g c = λ told first run lines keeps counted time.
    let state = g.P.Plant.state in
    next_in_runs g.P.Plant.tells told c.args.number c.args.before.0 c.hear_line.new.text (state first) (state c.args.plant.now) (state c.hear_line.new.plant) Bad (c.hear_line.ensures.heard told) (inr (c.hear_line.ensures.too_long (cc))) run lines keeps counted time
