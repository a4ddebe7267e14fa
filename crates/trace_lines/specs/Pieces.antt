-- A text in pieces, which a byte parts: the words of a line, the lines of a text.
use Rattle.std.specs.Prelude.{ℕ, ◌==◌, List, [], ◌∷◌, if◌then◌else◌}
use Rattle.std.specs.List.{before_first, after_first}

-- the first piece, or the whole text where nothing parts it
abbrev pub first_piece : (parting : ℕ) → List ℕ → List ℕ
first_piece parting text = before_first (λ byte. byte == parting) text

-- what follows the byte that ends the first piece
abbrev pub after_piece : (parting : ℕ) → List ℕ → List ℕ
after_piece parting text = after_first (λ byte. byte == parting) text

abbrev pub with_front : ℕ → List (List ℕ) → List (List ℕ)
with_front byte [] = (byte ∷ []) ∷ []
with_front byte (piece ∷ pieces) = (byte ∷ piece) ∷ pieces

-- All pieces in order. Each ends before the byte that parts, and the last where the text ends; behind a parting byte at the end there is no
-- piece more.
unfoldable pub pieces_of : (parting : ℕ) → List ℕ → List (List ℕ)
pieces_of parting [] = []
pieces_of parting (byte ∷ text) = if byte == parting then [] ∷ pieces_of parting text else with_front byte (pieces_of parting text)
