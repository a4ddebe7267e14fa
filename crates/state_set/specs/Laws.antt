-- The laws of states. Each is the contract of a public function without parameters.
use Rattle.std.specs.Prelude.{◌≡◌, ℕ, List, ◌++◌, drop, Some, IsTrue}
use Rattle.std.specs.List.{list_all}
use Rattle.tod_stamp.specs.Fields.{IsBytes, is_version}
use Rattle.tod_stamp.specs.Names.{is_session}
use Rattle.pair_table.specs.declared.level.Level.{Level}
use Rattle.pair_table.specs.declared.row.PairRow.{PairRow}
use Rattle.pair_table.specs.Rows.{is_version_row}
use Rattle.pair_table.specs.Tables.{AreRowsSound, are_below}
use Rattle.state_set.specs.Slots.{Stored, is_level, slot_length, slot_spelling, slot_text, state_at}

-- What rows that keep the rules spell is read again, whatever follows.
abbrev pub StatesReadBack : Type 0
StatesReadBack = (volumes : ℕ) (session : List ℕ) (level : Level) (rows : List PairRow) (rest : List ℕ) → IsTrue (is_session session) → AreRowsSound rows → IsTrue (are_below volumes rows) →
    state_at volumes session (slot_spelling session level rows ++ rest) ≡ Some (record { level = level; rows = rows })

-- A version has this level and each of these rows.
pub record IsOfVersion (version : ℕ) (s : Stored) : Type 0 where
  pub known : IsTrue (is_version version)
  pub level : IsTrue (is_level version s.level)
  pub rows : IsTrue (list_all (is_version_row version) s.rows)

-- So it is in each version that has the level and the rows.
abbrev pub VersionsReadBack : Type 0
VersionsReadBack = (version volumes : ℕ) (session : List ℕ) (s : Stored) (rest : List ℕ) → IsOfVersion version s → IsTrue (is_session session) → AreRowsSound s.rows → IsTrue (are_below volumes s.rows) →
    state_at volumes session (slot_text version session s.level s.rows ++ rest) ≡ Some s

-- What is read was spelled so in a version that has it, and its rows keep the rules.
abbrev pub StatesAreSpelled : Type 0
StatesAreSpelled = (volumes : ℕ) (session bytes : List ℕ) (s : Stored) → IsBytes bytes → state_at volumes session bytes ≡ Some s →
    ((version : ℕ) × IsOfVersion version s × (bytes ≡ slot_text version session s.level s.rows ++ drop (slot_length version s.rows) bytes)) × AreRowsSound s.rows × IsTrue (are_below volumes s.rows)
