-- A worked row and its bytes, and the names and tables of worked commands.
use Rattle.std.specs.Prelude.{ℕ, List, [], ◌∷◌, true, false, Some, None, codes}
use Rattle.test_fixtures.specs.Hex.{hex}
use Rattle.pair_table.specs.declared.names.NamedDevice.{NamedDevice}
use Rattle.pair_table.specs.declared.names.NamedVolume.{NamedVolume}
use Rattle.pair_table.specs.declared.row.PairState.{PairState}
use Rattle.pair_table.specs.declared.row.PairRow.{PairRow}
use Rattle.pair_table.specs.Naming.{Naming}
use Rattle.pair_table.specs.Tables.{Table, new_table}

-- PRIM01 and SEC001, the first volume of the first controller and the first device, of one cylinder
abbrev pub first_row : PairState → PairRow
first_row state = record { primary = codes "PRIM01"; secondary = codes "SEC001"; control = 0; volume = 0; device = 0; cylinders = 1; state = state; group = None }

-- the row's 38 bytes, where it is duplex
abbrev pub first_bytes : List ℕ
first_bytes = hex (codes "5052494D3031 534543303031 0000 0000 0000 00000001 02 00 0000000000000000 202020202020")

-- its 30 bytes in version 1
abbrev pub narrow_bytes : List ℕ
narrow_bytes = hex (codes "5052494D3031 534543303031 0000 0000 0000 0001 02 00 0000000000000000")

-- the same row in a group
abbrev pub grouped_row : PairState → (group : List ℕ) → PairRow
grouped_row state group = record (first_row state) { group = Some group }

-- ---- names and tables of commands

abbrev pub abc : List ℕ
abc = codes "ABC"

abbrev pub named_volume : (serial : List ℕ) → (volume cylinders : ℕ) → NamedVolume
named_volume serial volume cylinders = record { serial = serial; control = 0; volume = volume; cylinders = cylinders }

abbrev pub named_device : (device : ℕ) → (serial : List ℕ) → NamedDevice
named_device device serial = record { device = device; serial = serial; cylinders = 1 }

-- a trace with PRIM01 of one cylinder and PRIM02 of two, and the labels SEC001 and SEC002 of one cylinder each
abbrev pub worked_names : Naming
worked_names = record {
  primaries = named_volume (codes "PRIM01") 0 1 ∷ named_volume (codes "PRIM02") 1 2 ∷ [];
  labels = named_device 0 (codes "SEC001") ∷ named_device 1 (codes "SEC002") ∷ [];
  broken = [];
}

abbrev pub before_start : Table
before_start = new_table abc

abbrev pub started_with : List PairRow → Table
started_with rows = record { session = abc; is_started = true; is_ended = false; rows = rows }

abbrev pub ended_table : Table
ended_table = record { session = abc; is_started = true; is_ended = true; rows = [] }
