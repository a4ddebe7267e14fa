use Rattle.std.proofs.Common.{length, ap, ◌∙◌, arith}
use Rattle.change_map.specs.Sets.{has_track}
use Rattle.change_map.proofs.InWords.{in_length, read_bit}
use Rattle.change_map.proofs.map.ChangeMap.has.Goals as goal

pub index-requires : goal.index-requires
index-requires c = omega (arith, c.requires, ap length c.self.view_is, in_length c.self.inside.tracks c.self.inside.words.items, c.self.invariant.whole)

pub returns : goal.returns
returns c =
    read_bit c.self.inside.tracks c.self.inside.words.items c.args.x c.index.result.now c.self.invariant (omega (arith, c.requires, ap length c.self.view_is, in_length c.self.inside.tracks c.self.inside.words.items)) c.index.ensures
    ∙ ap (λ tracks. has_track tracks c.args.x) c.self.view_is
