use Rattle.crash_plant.proofs.Turns.{uttered_or_not}
use Rattle.crash_plant.proofs.memory_console.MemoryConsole.say.Goals as goal

pub invariant_of-self : goal.invariant_of-self
invariant_of-self c =
    let console = c.args.self.now in
    let told = uttered_or_not c.utter.result console.first console.turns.items _ console.next c.args.now console.said.items c.args.bytes.now _ console.in_turn console.heard_is console.said_is c.requires c.utter.ensures.said c.utter.ensures.noted c.utter.ensures.same c.utter.ensures.same_turns in
    record { next_within = console.next_within; in_turn = told.0; heard_is = told.1; said_is = told.2 }
