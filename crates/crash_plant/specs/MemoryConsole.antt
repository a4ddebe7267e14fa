-- A console in memory that keeps its past.
use Rattle.std.specs.Prelude.{◌≡◌, ◌++◌, ◌+◌, ℕ, List, [], ◌∷◌, length, take, drop}
use Rattle.crash_plant.specs.declared.device.Heard.{Heard}
use Rattle.crash_plant.specs.declared.device.Heard.TheVariants.{Byte, End}
use Rattle.crash_plant.specs.declared.memory_console.MemoryConsole.{MemoryConsole}
use Rattle.crash_plant.specs.Turns.{turn_at, last_turn}

-- what was heard and said up to a moment
abbrev pub heard_at : MemoryConsole → ℕ → List ℕ
heard_at console t = take (turn_at t console.first console.turns.items).heard console.script

abbrev pub said_at : MemoryConsole → ℕ → List ℕ
said_at console t = take (turn_at t console.first console.turns.items).said console.said.items

-- what is left to hear
abbrev pub left_to_hear : MemoryConsole → List ℕ
left_to_hear console = drop console.next console.script

-- the moment of the last call
abbrev pub last_told : MemoryConsole → ℕ
last_told console = (last_turn console.first console.turns.items).at

-- the same record of the same script
pub record SameMemoryConsole (old new : MemoryConsole) : Type 0 where
  pub script : new.script ≡ old.script
  pub next : new.next ≡ old.next
  pub said : new.said.items ≡ old.said.items
  pub first : new.first ≡ old.first
  pub turns : new.turns.items ≡ old.turns.items

-- These bytes are said at a moment.
pub record Utters (now : ℕ) (bytes : List ℕ) (old new : MemoryConsole) : Type 0 where
  pub script : new.script ≡ old.script
  pub next : new.next ≡ old.next
  pub said : new.said.items ≡ old.said.items ++ bytes
  pub first : new.first ≡ old.first
  pub turns : new.turns.items ≡ old.turns.items ++ record { at = now; heard = old.next; said = length (old.said.items ++ bytes) } ∷ []

-- The next byte is heard at a moment.
pub record Hearkens (now byte : ℕ) (old new : MemoryConsole) : Type 0 where
  pub is_next : left_to_hear old ≡ byte ∷ left_to_hear new
  pub script : new.script ≡ old.script
  pub next : new.next ≡ old.next + 1
  pub said : new.said.items ≡ old.said.items
  pub first : new.first ≡ old.first
  pub turns : new.turns.items ≡ old.turns.items ++ record { at = now; heard = new.next; said = length old.said.items } ∷ []

-- What is heard is the next byte of the script, or its end.
abbrev pub HearsNext : ℕ → MemoryConsole → MemoryConsole → Heard → Type 0
HearsNext now old new (Byte b) = Hearkens now b old new
HearsNext now old new End = (left_to_hear old ≡ []) × SameMemoryConsole old new
