use Rattle.std.proofs.Common.{◌≡◌, ℕ, ◌||◌, length, drop, ap, subst, sym, ◌∙◌, arith}
use Rattle.change_map.specs.Sets.{union}
use Rattle.change_map.specs.Words.{has_bit, set_in, AreWordsSound}
use Rattle.change_map.proofs.InWords.{in_length}
use Rattle.change_map.proofs.Bits.{or_in, or_keeps, written_all}
use Rattle.change_map.proofs.map.ChangeMap.or_with.Goals as goal

pub or_words-requires : goal.or_words-requires
or_words-requires c =
    let tracks = c.self.inside.tracks in
    let others = c.other.inside.tracks in
    omega (arith, ap length c.as_slice.ensures.value, ap length c.as_mut_slice.ensures.value, c.self.invariant.whole, c.other.invariant.whole, c.requires, ap length c.self.view_is, ap length c.other.view_is, in_length tracks c.self.inside.words.items, in_length others c.other.inside.words.items)

pub invariant_of-self : goal.invariant_of-self
invariant_of-self c =
    let tracks = c.self.inside.tracks in
    let items = c.self.inside.words.items in
    let theirs = c.other.inside.words.items in
    let new = c.or_words.new.into in
    let as_many : c.other.inside.tracks ≡ tracks =
    sym (in_length c.other.inside.tracks theirs) ∙ ap length c.other.view_is ∙ c.requires ∙ sym (ap length c.self.view_is) ∙ in_length tracks items in
    let whole = written_all c.self.inside.words.len new (drop (length new) items) (c.or_words.ensures.len ∙ c.as_mut_slice.ensures.len) in
    let each : (x : ℕ) → has_bit new x ≡ (has_bit items x || has_bit theirs x) =
    λ x. c.or_words.ensures.bits x
    ∙ ap (λ ws. has_bit ws x || has_bit c.as_slice.result.now x) c.as_mut_slice.ensures.value
    ∙ ap (λ ws. has_bit items x || has_bit ws x) c.as_slice.ensures.value in
    let long = c.or_words.ensures.len ∙ ap length c.as_mut_slice.ensures.value in
    let kept : AreWordsSound tracks theirs = subst (λ (n : ℕ). AreWordsSound n theirs) as_many c.other.invariant in
    subst (AreWordsSound tracks) (sym whole) (or_keeps tracks items theirs new c.self.invariant kept long each)

pub returns : goal.returns
returns c =
    let tracks = c.self.inside.tracks in
    let items = c.self.inside.words.items in
    let theirs = c.other.inside.words.items in
    let new = c.or_words.new.into in
    let as_many : c.other.inside.tracks ≡ tracks =
    sym (in_length c.other.inside.tracks theirs) ∙ ap length c.other.view_is ∙ c.requires ∙ sym (ap length c.self.view_is) ∙ in_length tracks items in
    let whole = written_all c.self.inside.words.len new (drop (length new) items) (c.or_words.ensures.len ∙ c.as_mut_slice.ensures.len) in
    let each : (x : ℕ) → has_bit new x ≡ (has_bit items x || has_bit theirs x) =
    λ x. c.or_words.ensures.bits x
    ∙ ap (λ ws. has_bit ws x || has_bit c.as_slice.result.now x) c.as_mut_slice.ensures.value
    ∙ ap (λ ws. has_bit items x || has_bit ws x) c.as_slice.ensures.value in
    ap (set_in tracks) whole
    ∙ or_in tracks items theirs new each
    ∙ ap (λ n. union (set_in tracks items) (set_in n theirs)) (sym as_many)
    ∙ ap (λ mine. union mine (set_in c.other.inside.tracks theirs)) c.self.view_is
    ∙ ap (union c.args.self.now) c.other.view_is
