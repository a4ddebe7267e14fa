use Rattle.std.proofs.Common.{◌≡◌, length, drop, ap, subst, sym, ◌∙◌}
use Rattle.std.proofs.lemmas.List.{length-replicate}
use Rattle.change_map.specs.Sets.{no_track}
use Rattle.change_map.specs.Words.{set_in, AreWordsSound}
use Rattle.change_map.proofs.InWords.{in_length, none_in, none_keeps}
use Rattle.change_map.proofs.Bits.{written_all}
use Rattle.change_map.proofs.map.ChangeMap.clear_all.Goals as goal

pub invariant_of-self : goal.invariant_of-self
invariant_of-self c =
    let tracks = c.self.inside.tracks in
    let items = c.self.inside.words.items in
    let old = c.as_mut_slice.result.now in
    let new = c.clear_words.new.words in
    let long : length new ≡ length old = ap length c.clear_words.ensures ∙ length-replicate (length old) 0 in
    let whole = written_all c.self.inside.words.len new (drop (length new) items) (long ∙ c.as_mut_slice.ensures.len) in
    let enough = ap length c.as_mut_slice.ensures.value ∙ c.self.invariant.whole in
    subst (AreWordsSound tracks) (sym whole) (none_keeps tracks (length old) new c.self.invariant.few enough c.clear_words.ensures)

pub returns : goal.returns
returns c =
    let tracks = c.self.inside.tracks in
    let items = c.self.inside.words.items in
    let old = c.as_mut_slice.result.now in
    let new = c.clear_words.new.words in
    let long : length new ≡ length old = ap length c.clear_words.ensures ∙ length-replicate (length old) 0 in
    let whole = written_all c.self.inside.words.len new (drop (length new) items) (long ∙ c.as_mut_slice.ensures.len) in
    ap (set_in tracks) whole
    ∙ none_in tracks (length old) new c.clear_words.ensures
    ∙ ap no_track (sym (in_length tracks items) ∙ ap length c.self.view_is)
