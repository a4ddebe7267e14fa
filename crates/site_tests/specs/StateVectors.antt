-- Worked states and their bytes.
use Rattle.std.specs.Prelude.{ℕ, List, ◌++◌, codes}
use Rattle.test_fixtures.specs.Hex.{hex}
use Rattle.site_tests.specs.PairVectors.{first_bytes, narrow_bytes}

-- level VOLUME and no rows
abbrev pub started_bytes : List ℕ
started_bytes = hex (codes "58535432 4142432020202020 00 0000")

-- level VOLUME and the worked row
abbrev pub paired_bytes : List ℕ
paired_bytes = hex (codes "58535432 4142432020202020 00 0001") ++ first_bytes

-- the same states in version 1
abbrev pub narrow_started_bytes : List ℕ
narrow_started_bytes = hex (codes "58535431 4142432020202020 00 0000")

abbrev pub narrow_paired_bytes : List ℕ
narrow_paired_bytes = hex (codes "58535431 4142432020202020 00 0001") ++ narrow_bytes
