-- Calls on a console that keeps its past.
use Rattle.std.proofs.Common.{◌≡◌, ℕ, ◌<◌, ◌≤◌, List, [], ◌∷◌, ◌++◌, length, take, drop, ◌∙◌, ap, arith, Result, Ok, Err, OnOk, OnErr, IfOk}
use Rattle.std.proofs.lemmas.List.{take_all, take-append-le}
use Rattle.crash_plant.specs.declared.device.Heard.{Heard}
use Rattle.crash_plant.specs.declared.device.Heard.TheVariants.{Byte, End}
use Rattle.crash_plant.specs.declared.memory_console.MemoryConsole.{MemoryConsole}
use Rattle.crash_plant.specs.declared.turn.ConsoleTurn.{ConsoleTurn}
use Rattle.crash_plant.specs.MemoryConsole.{Hearkens, HearsNext, SameMemoryConsole, Utters, heard_at, last_told, left_to_hear, said_at}
use Rattle.crash_plant.specs.Turns.{last_turn, turn_at}
use Rattle.crash_plant.proofs.Turns.{last_turn_push, said_within, turn_before, turn_now}

last_is : (old new : MemoryConsole) (x : ConsoleTurn) → new.first ≡ old.first → new.turns.items ≡ old.turns.items ++ x ∷ [] → last_turn new.first new.turns.items ≡ x
last_is old new x first turns = ap (λ (l : List ConsoleTurn). last_turn new.first l) turns ∙ last_turn_push new.first old.turns.items x

last_same : (old new : MemoryConsole) → SameMemoryConsole old new → last_turn new.first new.turns.items ≡ last_turn old.first old.turns.items
last_same old new same = ap (λ (l : List ConsoleTurn). last_turn new.first l) same.turns ∙ ap (λ (t : ConsoleTurn). last_turn t old.turns.items) same.first

-- The last call on the console is at no later moment.
pub told_uttered : {T E : Type 0} (result : Result T E) (now : ℕ) (bytes : List ℕ) (old new : MemoryConsole) → OnOk result (Utters now bytes old new) → OnErr result (SameMemoryConsole old new) → last_told old ≤ now → last_told new ≤ now
told_uttered (Ok x) now bytes old new ok err le = omega (arith, ap (λ (t : ConsoleTurn). t.at) (last_is old new _ ok.first ok.turns))
told_uttered (Err e) now bytes old new ok err le = omega (arith, le, ap (λ (t : ConsoleTurn). t.at) (last_same old new err))

pub told_next : (now : ℕ) (old new : MemoryConsole) (heard : Heard) → HearsNext now old new heard → last_told old ≤ now → last_told new ≤ now
told_next now old new (Byte b) next le = omega (arith, ap (λ (t : ConsoleTurn). t.at) (last_is old new _ next.first next.turns))
told_next now old new End next le = omega (arith, le, ap (λ (t : ConsoleTurn). t.at) (last_same old new next.1))

pub told_heard : {E : Type 0} (result : Result Heard E) (now : ℕ) (old new : MemoryConsole) → IfOk result (λ heard. HearsNext now old new heard) → OnErr result (SameMemoryConsole old new) → last_told old ≤ now → last_told new ≤ now
told_heard (Ok heard) now old new ok err le = told_next now old new heard ok le
told_heard (Err e) now old new ok err le = omega (arith, le, ap (λ (t : ConsoleTurn). t.at) (last_same old new err))

-- From the last call on what was heard and said is what it is now.
pub heard_now : (console : MemoryConsole) (t : ℕ) → last_told console ≤ t → heard_at console t ≡ take console.next console.script
heard_now console t late = ap (λ (x : ConsoleTurn). take x.heard console.script) (turn_now t console.first console.turns.items console.in_turn late) ∙ ap (λ (n : ℕ). take n console.script) console.heard_is

pub said_now : (console : MemoryConsole) (t : ℕ) → last_told console ≤ t → said_at console t ≡ console.said.items
said_now console t late = ap (λ (x : ConsoleTurn). take x.said console.said.items) (turn_now t console.first console.turns.items console.in_turn late) ∙ ap (λ (n : ℕ). take n console.said.items) console.said_is ∙ take_all (length console.said.items) console.said.items (omega arith)

-- the same record of the same script
pub heard_same : (old new : MemoryConsole) (t : ℕ) → SameMemoryConsole old new → heard_at new t ≡ heard_at old t
heard_same old new t same = ap (λ (l : List ConsoleTurn). take (turn_at t new.first l).heard new.script) same.turns ∙ ap (λ (x : ConsoleTurn). take (turn_at t x old.turns.items).heard new.script) same.first ∙ ap (λ (l : List ℕ). take (turn_at t old.first old.turns.items).heard l) same.script

pub said_same : (old new : MemoryConsole) (t : ℕ) → SameMemoryConsole old new → said_at new t ≡ said_at old t
said_same old new t same = ap (λ (l : List ConsoleTurn). take (turn_at t new.first l).said new.said.items) same.turns ∙ ap (λ (x : ConsoleTurn). take (turn_at t x old.turns.items).said new.said.items) same.first ∙ ap (λ (l : List ℕ). take (turn_at t old.first old.turns.items).said l) same.said

pub left_same : (old new : MemoryConsole) → SameMemoryConsole old new → left_to_hear new ≡ left_to_hear old
left_same old new same = ap (λ (n : ℕ). drop n new.script) same.next ∙ ap (λ (l : List ℕ). drop old.next l) same.script

-- Before a call what was heard and said is as it was.
turn_earlier : (old new : MemoryConsole) (t : ℕ) (x : ConsoleTurn) → new.first ≡ old.first → new.turns.items ≡ old.turns.items ++ x ∷ [] → t < x.at → turn_at t new.first new.turns.items ≡ turn_at t old.first old.turns.items
turn_earlier old new t x first turns early = ap (λ (l : List ConsoleTurn). turn_at t new.first l) turns ∙ turn_before t new.first old.turns.items x early ∙ ap (λ (y : ConsoleTurn). turn_at t y old.turns.items) first

pub heard_before_say : (now : ℕ) (bytes : List ℕ) (old new : MemoryConsole) (t : ℕ) → Utters now bytes old new → t < now → heard_at new t ≡ heard_at old t
heard_before_say now bytes old new t says early = ap (λ (x : ConsoleTurn). take x.heard new.script) (turn_earlier old new t _ says.first says.turns early) ∙ ap (λ (l : List ℕ). take (turn_at t old.first old.turns.items).heard l) says.script

pub said_before_say : (now : ℕ) (bytes : List ℕ) (old new : MemoryConsole) (t : ℕ) → Utters now bytes old new → t < now → said_at new t ≡ said_at old t
said_before_say now bytes old new t says early =
    let at = turn_at t old.first old.turns.items in
    ap (λ (x : ConsoleTurn). take x.said new.said.items) (turn_earlier old new t _ says.first says.turns early) ∙ ap (λ (l : List ℕ). take at.said l) says.said
    ∙ take-append-le at.said old.said.items bytes (omega (arith, said_within t old.first old.turns.items old.in_turn, old.said_is))

pub heard_before : (now byte : ℕ) (old new : MemoryConsole) (t : ℕ) → Hearkens now byte old new → t < now → heard_at new t ≡ heard_at old t
heard_before now byte old new t hears early = ap (λ (x : ConsoleTurn). take x.heard new.script) (turn_earlier old new t _ hears.first hears.turns early) ∙ ap (λ (l : List ℕ). take (turn_at t old.first old.turns.items).heard l) hears.script

pub said_before : (now byte : ℕ) (old new : MemoryConsole) (t : ℕ) → Hearkens now byte old new → t < now → said_at new t ≡ said_at old t
said_before now byte old new t hears early = ap (λ (x : ConsoleTurn). take x.said new.said.items) (turn_earlier old new t _ hears.first hears.turns early) ∙ ap (λ (l : List ℕ). take (turn_at t old.first old.turns.items).said l) hears.said

pub told_says : (now : ℕ) (bytes : List ℕ) (old new : MemoryConsole) → Utters now bytes old new → last_told new ≤ now
told_says now bytes old new says = omega (arith, ap (λ (t : ConsoleTurn). t.at) (last_is old new _ says.first says.turns))

-- A record with no call yet.
pub told_first : (console : MemoryConsole) (n : ℕ) (first : ConsoleTurn) → console.first ≡ first → console.turns.items ≡ [] → first.at ≤ n → last_told console ≤ n
told_first console n first is none le = omega (arith, le, ap (λ (l : List ConsoleTurn). (last_turn console.first l).at) none, ap (λ (t : ConsoleTurn). t.at) is)
