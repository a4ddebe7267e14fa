-- Lists that are made number by number.
use Rattle.std.proofs.Common.{◌≡◌, ◌+◌, ◌++◌, ◌∷◌, [], ℕ, List, map, sym, ◌∙◌, ap, arith}
use Rattle.std.specs.List.{flat_map, range_with_len}
use Rattle.std.proofs.lemmas.List.{flat_map_more}
use Rattle.std.proofs.lemmas.List.FromFn.{map-range_with_len_more}

-- One item more.
pub item_more : {A : Type 0} (f : ℕ → A) (a n j : ℕ) (old new : List A) (item : A) → a + n ≡ j → old ≡ map f (range_with_len a n) → item ≡ f j → new ≡ old ++ item ∷ [] → new ≡ map f (range_with_len a (n + 1))
item_more f a n j old new item at is one pushed = pushed ∙ ((λ i. is i ++ one i ∷ []) ∙ sym (map-range_with_len_more f a n j at))

-- One item's part more after other items.
pub part_more : {A B : Type 0} (part : A → List B) (f : ℕ → A) (n : ℕ) (old out new : List B) → out ≡ old ++ flat_map part (map f (range_with_len 0 n)) → new ≡ out ++ part (f n)
    → new ≡ old ++ flat_map part (map f (range_with_len 0 (n + 1)))
part_more part f n old out new is pushed =
    pushed ∙ ap (λ (l : List _). l ++ part (f n)) is ∙ flat_map_more part old (map f (range_with_len 0 n)) (f n)
    ∙ ap (λ (l : List _). old ++ flat_map part l) (sym (map-range_with_len_more f 0 n n (omega arith)))
