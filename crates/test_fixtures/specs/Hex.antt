-- Bytes that worked vectors spell as texts.
use Rattle.std.specs.Prelude.{ℕ, ◌+◌, ◌-◌, ◌*◌, ◌==◌, List, [], ◌∷◌, nat_lt, if◌then◌else◌}

-- the value of a hexadecimal digit in upper case
abbrev pub digit : ℕ → ℕ
digit c = if nat_lt c 65 then c - 48 else c - 55

-- the bytes of a text of digit pairs, with spaces between pairs
abbrev pub hex : List ℕ → List ℕ
hex [] = []
hex (c ∷ []) = []
hex (c ∷ d ∷ rest) = if c == 32 then hex (d ∷ rest) else (digit c * 16 + digit d) ∷ hex rest
