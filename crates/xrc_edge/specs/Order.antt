-- Lists in order, and putting one in order where what is equal keeps its order.
use Rattle.std.specs.Prelude.{ℕ, List, [], ◌∷◌, Bool, true, ◌&&◌, not, nat_le, if◌then◌else◌}
use Rattle.std.specs.List.{list_all}

-- An item goes before the first that isn't below it.
abbrev pub put_in_order : {A : Type 0} → (below : A → A → Bool) → A → List A → List A
put_in_order below a [] = a ∷ []
put_in_order below a (b ∷ items) = if below b a then b ∷ put_in_order below a items else a ∷ b ∷ items

-- The items in order; of two of which none is below the other, the one that came first stays first.
abbrev pub in_order : {A : Type 0} → (below : A → A → Bool) → List A → List A
in_order below [] = []
in_order below (a ∷ items) = put_in_order below a (in_order below items)

-- no item is below one before it
abbrev pub is_in_order : {A : Type 0} → (below : A → A → Bool) → List A → Bool
is_in_order below [] = true
is_in_order below (a ∷ items) = list_all (λ b. not (below b a)) items && is_in_order below items

-- No number is below the one before it, nor the first below `last`.
abbrev pub never_fall : (last : ℕ) → List ℕ → Bool
never_fall last [] = true
never_fall last (number ∷ numbers) = nat_le last number && never_fall number numbers
