use Rattle.std.proofs.Common.{◌≡◌, length, drop, ap, subst, sym, ◌∙◌}
use Rattle.change_map.specs.Sets.{every_track}
use Rattle.change_map.specs.Words.{set_in, AreWordsSound}
use Rattle.change_map.proofs.InWords.{in_length}
use Rattle.change_map.proofs.Bits.{all_in, all_keeps, written_all}
use Rattle.change_map.proofs.map.ChangeMap.set_all.Goals as goal

pub invariant_of-self : goal.invariant_of-self
invariant_of-self c =
    let tracks = c.self.inside.tracks in
    let items = c.self.inside.words.items in
    let new = c.set_first.new.words in
    let long : length new ≡ length items = c.set_first.ensures.len ∙ ap length c.as_mut_slice.ensures.value in
    let whole = written_all c.self.inside.words.len new (drop (length new) items) (c.set_first.ensures.len ∙ c.as_mut_slice.ensures.len) in
    subst (AreWordsSound tracks) (sym whole) (all_keeps tracks items new c.self.invariant long c.set_first.ensures.bits)

pub returns : goal.returns
returns c =
    let tracks = c.self.inside.tracks in
    let items = c.self.inside.words.items in
    let new = c.set_first.new.words in
    let whole = written_all c.self.inside.words.len new (drop (length new) items) (c.set_first.ensures.len ∙ c.as_mut_slice.ensures.len) in
    ap (set_in tracks) whole
    ∙ all_in tracks new c.set_first.ensures.bits
    ∙ ap every_track (sym (in_length tracks items) ∙ ap length c.self.view_is)
