use Rattle.std.proofs.Common.{length, ap, sym, ◌∙◌}
use Rattle.change_map.proofs.InWords.{in_length}
use Rattle.change_map.proofs.map.ChangeMap.tracks.Goals as goal

pub returns : goal.returns
returns c = sym (in_length c.self.inside.tracks c.self.inside.words.items) ∙ ap length c.self.view_is
