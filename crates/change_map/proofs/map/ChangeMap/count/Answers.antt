use Rattle.std.proofs.Common.{◌*◌, length, ap, ◌∙◌, arith}
use Rattle.std.proofs.lemmas.List.Sums.{count_by-le-length}
use Rattle.change_map.specs.Sets.{size}
use Rattle.change_map.specs.Words.{set_in}
use Rattle.change_map.proofs.InWords.{in_length}
use Rattle.change_map.proofs.Counts.{size_kept}
use Rattle.change_map.proofs.map.ChangeMap.count.Goals as goal

pub overflow_cast-result : goal.overflow_cast-result
overflow_cast-result c =
    let items = c.self.inside.words.items in
    let counted = c.count_words.ensures ∙ ap (λ ws. size (set_in (64 * length ws) ws)) c.as_slice.ensures.value in
    let tracks = set_in c.self.inside.tracks items in
    record {
      fits = omega (arith, counted, size_kept c.self.inside.tracks items c.self.invariant, count_by-le-length (λ b. b) tracks, in_length c.self.inside.tracks items, c.self.invariant.few);
    }

pub returns-clause-count : goal.returns-clause-count
returns-clause-count c =
    c.count_words.ensures
    ∙ ap (λ ws. size (set_in (64 * length ws) ws)) c.as_slice.ensures.value
    ∙ size_kept c.self.inside.tracks c.self.inside.words.items c.self.invariant
    ∙ ap size c.self.view_is

pub returns-clause-within : goal.returns-clause-within
returns-clause-within c =
    let items = c.self.inside.words.items in
    let counted = c.count_words.ensures ∙ ap (λ ws. size (set_in (64 * length ws) ws)) c.as_slice.ensures.value in
    let tracks = set_in c.self.inside.tracks items in
    omega (arith, counted, size_kept c.self.inside.tracks items c.self.invariant, count_by-le-length (λ b. b) tracks, ap length c.self.view_is)

pub returns-clause-few : goal.returns-clause-few
returns-clause-few c = omega (arith, c.self.invariant.few, in_length c.self.inside.tracks c.self.inside.words.items, ap length c.self.view_is)
