use Rattle.std.proofs.Common.{◌≡◌, ◌-◌, length, arith}
use Rattle.std.proofs.lemmas.List.{length-map}
use Rattle.pending_queue.specs.Waitings.{entry_in, entries_in}
use Rattle.pending_queue.proofs.Waits.{taken_of_region}
use Rattle.pending_queue.proofs.waiting.WaitingList.free.Goals as goal

pub returns-clause-room : goal.returns-clause-room
returns-clause-room c =
    let region = c.self.inside.region in
    let waiting = c.self.inside.entries.items in
    let records : c.self.inside.most - c.len.result ≡ c.self.inside.most - length (entries_in region waiting) = omega (arith, c.len.ensures, length-map waiting (entry_in region)) in
    rw (← c.self.view_is) (λ i. record { records = records i; blocks = c.free.ensures.free i })

pub returns-clause-blocks : goal.returns-clause-blocks
returns-clause-blocks c = rw (← c.self.view_is) (omega (arith, c.free.ensures.whole, taken_of_region c.self.inside.region c.self.inside.entries.items c.self.invariant.out))
