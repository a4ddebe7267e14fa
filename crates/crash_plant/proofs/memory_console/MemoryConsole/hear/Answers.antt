use Rattle.std.proofs.Common.{rules, ◌≡◌, sym, ◌+◌, ◌++◌, ◌∷◌, [], List, length, ap, ◌∙◌, arith}
use Rattle.crash_plant.specs.declared.turn.ConsoleTurn.{ConsoleTurn}
use Rattle.crash_plant.proofs.Turns.{heard_noted}
use Rattle.crash_plant.proofs.memory_console.MemoryConsole.hear.Goals as goal

pub invariant_of-self-2 : goal.invariant_of-self-2
invariant_of-self-2 c =
    let console = c.args.self.now in
    let said_is : length console.said.items ≡ c.len.result = search rules in
    let told = heard_noted console.first console.turns.items _ (console.next + 1) c.args.now c.len.result console.in_turn (console.said_is ∙ said_is) c.requires (c.push_reserved.ensures.items ∙ ap (λ (l : List ConsoleTurn). l ++ record { at = c.args.now; heard = console.next + 1; said = c.len.result } ∷ []) c.in_ok-reserve.ensures.items) in
    record { next_within = omega (arith, ap length c.as_slice-script.ensures); in_turn = told.0; heard_is = told.1; said_is = told.2 ∙ sym said_is }
