use Rattle.std.proofs.Common.{rules, string_bytes}
use Rattle.xrc_cli.proofs.Worded.{few, many, no_init}
use Rattle.xrc_cli.proofs.words.asked_in.Goals.{in_default-via-then-words-lt2, in_default-via-in-len4+else-eq, in_default-via-else-words-lt2+else-words-lt3+else-words-lt4+else-words-lt5}
use Rattle.xrc_cli.proofs.words.asked_in.Goals as goal

pub returns-in_default : goal.returns-in_default
returns-in_default c = record { asked = elim c.in_default.branch [ in_default-via-then-words-lt2 w ↦ few string_bytes c.args.words.now (search rules) | in_default-via-in-len4+else-eq w ↦ no_init string_bytes c.args.words.now (search rules) (search rules) (search rules) (search rules) | in_default-via-else-words-lt2+else-words-lt3+else-words-lt4+else-words-lt5 w ↦ many string_bytes c.args.words.now (search rules) ]; range = tt }
