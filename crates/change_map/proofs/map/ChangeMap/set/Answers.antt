use Rattle.std.proofs.Common.{length, ap, ◌∙◌, arith}
use Rattle.change_map.specs.Sets.{with_track}
use Rattle.change_map.proofs.InWords.{in_length, set_word, set_keeps}
use Rattle.change_map.proofs.map.ChangeMap.set.Goals as goal

pub index_mut-requires : goal.index_mut-requires
index_mut-requires c = omega (arith, c.requires, ap length c.self.view_is, in_length c.self.inside.tracks c.self.inside.words.items, c.self.invariant.whole)

pub invariant_of-self : goal.invariant_of-self
invariant_of-self c = set_keeps c.self.inside.tracks c.self.inside.words.items c.args.x c.index_mut.result.now c.self.invariant (omega (arith, c.requires, ap length c.self.view_is, in_length c.self.inside.tracks c.self.inside.words.items)) c.index_mut.ensures.value

pub returns : goal.returns
returns c =
    set_word c.self.inside.tracks c.self.inside.words.items c.args.x c.index_mut.result.now c.self.invariant (omega (arith, c.requires, ap length c.self.view_is, in_length c.self.inside.tracks c.self.inside.words.items)) c.index_mut.ensures.value
    ∙ ap (λ tracks. with_track tracks c.args.x) c.self.view_is
