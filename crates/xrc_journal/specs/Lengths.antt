-- How long a journal is.
use Rattle.std.specs.Prelude.{ℕ, ◌+◌, ◌*◌}
use Rattle.xrc_journal.specs.declared.layout.TheConstants.{BESIDE_CONTROLS, OF_CONTROL}

-- the bytes that a journal needs in a session of so many controllers
abbrev pub journal_length : (controls : ℕ) → ℕ
journal_length controls = BESIDE_CONTROLS + controls * OF_CONTROL
